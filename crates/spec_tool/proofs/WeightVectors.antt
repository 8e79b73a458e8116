-- Test vectors of weights.
use Rattle.spec_terms.specs.Readable.{is_name}
use Rattle.std.proofs.Common.{◌≡◌, ℕ, List, [], ◌∷◌, length, refl}
use Rattle.std.specs.Prelude.{codes}
use Rattle.std.specs.Fmt.{digits}
use Rattle.spec_bitcoin.specs.Keys.{label_text}
use Rattle.spec_bitcoin.specs.Digests.{places_list, sequences_list, outputs_list, preimage}
use Rattle.spec_bitcoin.specs.Spelling.{stripped, marked, compact}
use Rattle.spec_compiler.specs.Keyed.Instance.{position_script}
use Rattle.spec_text.specs.Lexis.{word_prefix, number_prefix, symbol_prefix}
use Rattle.spec_text.specs.ReadAdvert.{read_answer as read_contract, advert_of_all, advert_at, entries_at, entry_at, head_at, deposit_at}
use Rattle.spec_text.specs.ReadAdvert.{secret_at, fee_at}
use Rattle.spec_text.specs.ReadContract.{withdraw_at, condition_at, reveals_at, puts_at, put_reveals_at, headed_at, one_branch_at}
use Rattle.spec_text.specs.ReadContract.{branches_at, choice_with, parts_at, auth_at, after_at, put_at, reveal_at, split_at, branch_at}
use Rattle.spec_text.specs.ReadTest.{constant_at, length_at, formula_at, comparison_at, test_at}
use Rattle.spec_text.specs.Reading.{names_from}
use Rattle.spec_tool.specs.Reads.{got}
use Rattle.spec_tool.specs.Answers.{answer}
use Rattle.std.specs.Prelude.{replicate}
use Rattle.spec_terms.specs.Advert.{Advert}
use Rattle.spec_terms.specs.Term.{branch, no_branch, withdraw, put_reveal, always}
use Rattle.spec_terms.specs.declared.pre.Pre.TheVariants.{Persistent, Secret}
use Rattle.spec_compiler.specs.Instance.{Instance}
use Rattle.spec_tool.specs.declared.weight.Weight.{Weight}
use Rattle.spec_tool.specs.Weights.{weights, exactly}
use Rattle.spec_tool.specs.WeighText.{weigh_text}
use Rattle.spec_tool.specs.Commands.{weigh, psbt_of, prints, Printed}
use Rattle.spec_tool.specs.declared.which.Which.TheVariants as names
use Rattle.spec_tool.specs.Base64.{base64_text}
use Rattle.spec_tool.specs.PsbtBytes.{psbt_bytes}
use Rattle.spec_tool.specs.PsbtText.{psbt_text}
use Rattle.spec_tool.proofs.CommandVectors.{line}
use Rattle.spec_tool.proofs.HashVectors.{small_hash}

abbrev pub compiled : Advert → Instance
compiled advert = record {
  contract = 0;
  advert = advert;
  bound = (codes "x", record { txid = replicate 32 0; vout = 0 }) ∷ [];
  hashes = (codes "a", replicate 32 0) ∷ [];
}

-- `{A:! 10 @ x} withdraw A`
abbrev pub plain : Advert
plain = record { pre = Persistent (codes "A") 10 (codes "x") ∷ []; fee = 0; root = branch (withdraw (codes "A")) no_branch }

-- `{A:! 1 @ x | A: secret a} reveal a . withdraw A`
abbrev pub revealing : Advert
revealing = record {
  pre = Persistent (codes "A") 1 (codes "x") ∷ Secret (codes "A") (codes "a") ∷ [];
  fee = 0;
  root = branch (put_reveal [] (codes "a" ∷ []) always (branch (withdraw (codes "A")) no_branch)) no_branch;
}

abbrev pub from_to : ℕ → ℕ → Weight
from_to least most = record { least = least; most = most }

pub weights_without_secrets : weights small_hash (compiled plain) ≡ (exactly 482, exactly 482) ∷ (exactly 482, exactly 964) ∷ []
unfolding is_name word_prefix number_prefix symbol_prefix read_contract advert_of_all advert_at entries_at entry_at head_at deposit_at secret_at
    fee_at choice_with branches_at branch_at parts_at auth_at after_at put_at reveal_at split_at reveals_at puts_at put_reveals_at
    headed_at one_branch_at condition_at names_from test_at comparison_at formula_at constant_at length_at withdraw_at digits label_text
    stripped marked compact places_list sequences_list outputs_list preimage position_script
weights_without_secrets = refl

pub weights_with_a_secret : weights small_hash (compiled revealing) ≡ (exactly 482, exactly 482) ∷ (from_to 547 1053, from_to 1029 1535)
    ∷ (exactly 482, from_to 1511 2017) ∷ []
unfolding is_name word_prefix number_prefix symbol_prefix read_contract advert_of_all advert_at entries_at entry_at head_at deposit_at secret_at
    fee_at choice_with branches_at branch_at parts_at auth_at after_at put_at reveal_at split_at reveals_at puts_at put_reveals_at
    headed_at one_branch_at condition_at names_from test_at comparison_at formula_at constant_at length_at withdraw_at digits label_text
    stripped marked compact places_list sequences_list outputs_list preimage position_script
weights_with_a_secret = refl

-- a contract that pays its deposit back
abbrev pub plain_text : List ℕ
plain_text =
    line (codes "{A:! 10 @ x} withdraw A") (
    [])

-- its run up to the signature
abbrev pub signed_run : List ℕ
signed_run =
    line (codes "party A") (
    line (codes "honest A") (
    line (codes "deposit A 10") (
    line (codes "--") (
    line (codes "advertise 0 x=#0") (
    line (codes "commit 0 A") (
    line (codes "endorse 0 A") (
    line (codes "init 0 A") (
    []))))))))

-- its run before it
abbrev pub unsigned_run : List ℕ
unsigned_run =
    line (codes "party A") (
    line (codes "honest A") (
    line (codes "deposit A 10") (
    line (codes "--") (
    line (codes "advertise 0 x=#0") (
    line (codes "commit 0 A") (
    line (codes "endorse 0 A") (
    [])))))))

-- a run without events
abbrev pub silent_run : List ℕ
silent_run =
    line (codes "party A") (
    line (codes "honest A") (
    line (codes "deposit A 10") (
    line (codes "--") (
    []))))

pub weights_of_nothing : answer small_hash (weigh (codes "r") (codes "c")) (got silent_run ∷ got plain_text ∷ [])
    ≡ prints 0 (line (codes "{\"contract\":0,\"transactions\":[]}") [])
unfolding is_name word_prefix number_prefix symbol_prefix read_contract advert_of_all advert_at entries_at entry_at head_at deposit_at secret_at
    fee_at choice_with branches_at branch_at parts_at auth_at after_at put_at reveal_at split_at reveals_at puts_at put_reveals_at
    headed_at one_branch_at condition_at names_from test_at comparison_at formula_at constant_at length_at withdraw_at digits label_text
    stripped marked compact places_list sequences_list outputs_list preimage position_script weigh_text
weights_of_nothing = refl

-- how many characters a command prints
abbrev pub size : Printed → ℕ
size printed = length printed.text

pub signed_size : size (answer small_hash (psbt_of (codes "r") (codes "c") names.Init) (got signed_run ∷ got plain_text ∷ [])) ≡ 401
unfolding is_name word_prefix number_prefix symbol_prefix read_contract advert_of_all advert_at entries_at entry_at head_at deposit_at secret_at
    fee_at choice_with branches_at branch_at parts_at auth_at after_at put_at reveal_at split_at reveals_at puts_at put_reveals_at
    headed_at one_branch_at condition_at names_from test_at comparison_at formula_at constant_at length_at withdraw_at digits label_text
    stripped marked compact places_list sequences_list outputs_list preimage position_script base64_text psbt_bytes psbt_text
signed_size = refl

pub unsigned_size : size (answer small_hash (psbt_of (codes "r") (codes "c") names.Init) (got unsigned_run ∷ got plain_text ∷ [])) ≡ 265
unfolding is_name word_prefix number_prefix symbol_prefix read_contract advert_of_all advert_at entries_at entry_at head_at deposit_at secret_at
    fee_at choice_with branches_at branch_at parts_at auth_at after_at put_at reveal_at split_at reveals_at puts_at put_reveals_at
    headed_at one_branch_at condition_at names_from test_at comparison_at formula_at constant_at length_at withdraw_at digits label_text
    stripped marked compact places_list sequences_list outputs_list preimage position_script base64_text psbt_bytes psbt_text
unsigned_size = refl
