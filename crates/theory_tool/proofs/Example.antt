-- The run with offers at its end, computed: its texts are taken, no event is refused, and both shares are offered.
use Rattle.std.proofs.Common.{◌≡◌, ℕ, zero, suc, ◌<◌, ◌/◌, ◌%◌, List, [], ◌∷◌, ◌++◌, fold, replicate, None, Ok, refl, arith, codes}
use Rattle.std.specs.Fmt.{digits}
use Rattle.std.proofs.lemmas.Nat.{mod_below}
use Rattle.spec_data.specs.Hashes.{IsBytes, HashesBytes}
use Rattle.spec_data.proofs.ByteLemmas.{IsBytes-append}
use Rattle.spec_terms.specs.Advert.{Advert}
use Rattle.spec_terms.specs.Readable.{is_name}
use Rattle.spec_terms.specs.Term.{no_branch, branch, after, put_reveal, withdraw, split, no_part, part, always}
use Rattle.spec_terms.specs.declared.pre.Pre.TheVariants.{Persistent, Secret}
use Rattle.spec_bitcoin.specs.Keys.{label_text}
use Rattle.spec_bitcoin.specs.Digests.{places_list, sequences_list, outputs_list, preimage}
use Rattle.spec_bitcoin.specs.Spelling.{stripped, compact}
use Rattle.spec_bitcoin.specs.Meaning.{script_meaning}
use Rattle.spec_bitcoin.specs.Numbers.{number_of_item, signed_bytes, item_of_number}
use Rattle.spec_bitcoin.specs.Scripts.{ops_of}
use Rattle.spec_compiler.specs.Keyed.Instance.{position_script}
use Rattle.spec_run.specs.declared.event.Event.TheVariants as events
use Rattle.spec_run.specs.declared.event.Run.{Run}
use Rattle.spec_run.specs.Setup.{Setup}
use Rattle.spec_run.specs.Event.{opening_collision}
use Rattle.spec_text.specs.Lexis.{word_prefix, number_prefix, symbol_prefix}
use Rattle.spec_text.specs.ReadAdvert.{read_answer as read_contract, advert_of_all, advert_at, entries_at, entry_at, head_at, deposit_at}
use Rattle.spec_text.specs.ReadAdvert.{secret_at, fee_at}
use Rattle.spec_text.specs.ReadContract.{withdraw_at, condition_at, reveals_at, puts_at, put_reveals_at, headed_at, one_branch_at}
use Rattle.spec_text.specs.ReadContract.{branches_at, choice_with, parts_at, auth_at, after_at, put_at, reveal_at, split_at, branch_at}
use Rattle.spec_text.specs.ReadTest.{constant_at, length_at, formula_at, comparison_at, test_at}
use Rattle.spec_text.specs.Reading.{names_from}
use Rattle.spec_text.specs.Refusals.{Judged, run_of}
use Rattle.spec_tool.specs.Commands.{JudgedAll, contracts_from, setup_of}
use Rattle.spec_tool.proofs.HashVectors.{stirred}
use Rattle.theory_tool.specs.Example.{example_contract, example_run, RunWithOffers}
use Rattle.theory_tool.proofs.Headlines.{valid_runs_are}

-- ---- a hash

-- the lowest bytes of a number
low_bytes : ℕ → ℕ → List ℕ
low_bytes zero n = []
low_bytes (suc k) n = n % 256 ∷ low_bytes k (n / 256)

no_bytes : IsBytes []
no_bytes i = omega arith

more_bytes : (b : ℕ) (bs : List ℕ) → b < 256 → IsBytes bs → IsBytes (b ∷ bs)
more_bytes b bs small rest zero = small
more_bytes b bs small rest (suc i) = rest i

low_are_bytes : (k n : ℕ) → IsBytes (low_bytes k n)
unfolding low_bytes
low_are_bytes zero n = no_bytes
low_are_bytes (suc k) n = more_bytes (n % 256) (low_bytes k (n / 256)) (mod_below n 256 (omega arith)) (low_are_bytes k (n / 256))

zeros_are_bytes : (k : ℕ) → IsBytes (replicate k 0)
zeros_are_bytes zero = no_bytes
zeros_are_bytes (suc k) = more_bytes 0 (replicate k 0) (omega arith) (zeros_are_bytes k)

-- the bytes stirred into 8 bytes, and zeros
abbrev example_hash : List ℕ → List ℕ
unfolding low_bytes
example_hash message = low_bytes 8 (fold stirred 0 message) ++ replicate 24 0

hashes_bytes : HashesBytes example_hash
unfolding low_bytes
hashes_bytes = record {
  size = λ message. refl;
  bytes = λ message.
      IsBytes-append (low_bytes 8 (fold stirred 0 message)) (replicate 24 0)
      (low_are_bytes 8 (fold stirred 0 message)) (zeros_are_bytes 24);
}

-- ---- what the texts are

abbrev a : List ℕ
a = codes "A"

abbrev b : List ℕ
b = codes "B"

abbrev example_advert : Advert
example_advert = record {
  pre = Persistent a 100 (codes "x") ∷ Persistent b 0 (codes "y") ∷ Secret a (codes "a") ∷ [];
  fee = 0;
  root = branch
      (put_reveal [] (codes "a" ∷ []) always
      (branch (split (part 60 (branch (withdraw a) no_branch) (part 40 (branch (withdraw b) no_branch) no_part))) no_branch))
      (branch (after 1000 (withdraw b)) no_branch);
}

abbrev played : Run
played = record {
  header = record {
    parties = a ∷ b ∷ [];
    honest = a ∷ b ∷ [];
    secrets = record {
      party = a;
      name = codes "a";
      bytes = 0 ∷ 17 ∷ 34 ∷ 51 ∷ 68 ∷ 85 ∷ 102 ∷ 119 ∷ 136 ∷ 153 ∷ 170 ∷ 187 ∷ 204 ∷ 221 ∷ 238 ∷ 255 ∷ [];
    } ∷ [];
    deposits = (a, 100) ∷ (b, 0) ∷ [];
  };
  events =
      events.Advertise 0 ((codes "x", 0) ∷ (codes "y", 1) ∷ []) ∷ events.Commit 0 a [] ∷ events.Commit 0 b [] ∷ events.Endorse 0 a
      ∷ events.Endorse 0 b ∷ events.Init 0 a ∷ events.Init 0 b ∷ events.FireInit 0 ∷ events.Reveal 0 a (codes "a") ∷ events.Fire 2 0
      ∷ events.Fire 3 0 ∷ [];
}

abbrev example_setup : Setup
example_setup = setup_of example_hash played (example_advert ∷ [])

abbrev a_run : Judged Run
a_run = Ok played

abbrev all_contracts : JudgedAll
all_contracts = Ok (example_advert ∷ [])

run_is_taken : run_of example_run ≡ a_run
unfolding is_name digits
run_is_taken = refl

contract_is_taken : contracts_from 0 (example_contract ∷ []) ≡ all_contracts
unfolding is_name word_prefix number_prefix symbol_prefix read_contract advert_of_all advert_at entries_at entry_at head_at deposit_at
    secret_at fee_at choice_with branches_at branch_at parts_at auth_at after_at put_at reveal_at split_at reveals_at puts_at put_reveals_at
    headed_at one_branch_at condition_at names_from test_at comparison_at formula_at constant_at length_at withdraw_at digits
contract_is_taken = refl

-- ---- what the run comes to

opens : opening_collision example_setup ≡ None
unfolding low_bytes label_text stripped compact
opens = refl

pub run_with_offers : RunWithOffers
unfolding low_bytes label_text stripped compact places_list sequences_list outputs_list preimage position_script script_meaning ops_of
    number_of_item signed_bytes item_of_number digits
run_with_offers = record {
  hash = example_hash;
  bytes = hashes_bytes;
  run = played;
  contract = example_advert;
  valid = run_is_taken;
  well_formed = contract_is_taken;
  is_run = valid_runs_are example_hash hashes_bytes example_run (example_contract ∷ []) played (example_advert ∷ []) run_is_taken
      contract_is_taken (omega arith) opens;
  whole = refl;
  outcomes = refl;
  offered = refl;
}
