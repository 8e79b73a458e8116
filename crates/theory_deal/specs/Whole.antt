-- What is claimed of `finish`: what is missing where it refuses, and what its transaction is where it doesn't.
use Rattle.std.specs.Prelude.{◌≡◌, ℕ, List, [], ◌++◌, true, Some, None, Ok, ◌↔◌, ◌⊎◌, is_some}
use Rattle.std.specs.List.{list_all}
use Rattle.spec_data.specs.Digits.{hex_text}
use Rattle.spec_terms.specs.Advert.{Advert}
use Rattle.spec_terms.specs.Faults.{IsWellFormed}
use Rattle.spec_bitcoin.specs.Spelling.{stripped, spelling}
use Rattle.spec_compiler.specs.Keyed.Keys.{Keys}
use Rattle.spec_compiler.specs.Keyed.Instance.{Instance}
use Rattle.spec_compiler.specs.Keyed.Statements.{AreKeyDeposits}
use Rattle.spec_compiler.specs.Keyed.Transactions.{tx_of}
use Rattle.spec_run.specs.Firing.{revealed_by}
use Rattle.spec_text.specs.RunText.{newline}
use Rattle.spec_tool.specs.declared.which.Which.{Which}
use Rattle.spec_tool.specs.declared.which.Which.TheVariants as names
use Rattle.spec_tool.specs.Commands.{prints}
use Rattle.spec_tool.specs.Keyed.Listed.{Listed, listed_at}
use Rattle.spec_deal.specs.declared.deal.Deal.{Deal}
use Rattle.spec_deal.specs.declared.signed.Signed.{Signed}
use Rattle.spec_deal.specs.Answers.{finished_answer}
use Rattle.spec_deal.specs.DealFile.{read_deal}
use Rattle.spec_deal.specs.Finished.{witnesses, finished, which_branch, predicate_refusal, finish_refusal}
use Rattle.spec_deal.specs.Given.{has, may_start}
use Rattle.spec_deal.specs.declared.entry.Shown.{Shown}
use Rattle.spec_deal.specs.SecretFile.{shows, string_for, read_secrets}
use Rattle.spec_deal.specs.Setting.{deal_keys, deal_instance}
use Rattle.spec_deal.specs.SignatureFile.{read_signatures}
use Rattle.spec_deal.specs.Slots.{listed_slots}
use Rattle.spec_deal.specs.Verifier.{Verifier}
use Rattle.theory_deal.specs.Finished.{Oracle, accepts, oracle_by, Agrees, KeysAgree, AllInputsOpen, AllOpen}

-- ---- refusals

-- nothing is missing that a transaction needs
pub record IsComplete (hash : List ℕ → List ℕ) (keys : Keys) (s : Instance) (given : List Signed) (strings : List Shown)
    (l : Listed) : Type 0 where
  -- of the initial transaction every endorsement
  pub endorsed : l.which ≡ names.Init → may_start hash keys s given ≡ true
  -- every signature
  pub signed : list_all (has hash keys given) (listed_slots keys s.advert l) ≡ true
  -- every secret that its branch reveals
  pub shown : list_all (λ name. is_some (string_for strings name)) (revealed_by (which_branch s l.which)) ≡ true
  -- and its predicate is true of them
  pub holds : predicate_refusal strings (which_branch s l.which) ≡ None

-- a transaction is finished exactly where nothing is missing
abbrev pub FinishesExactly : Type 0
FinishesExactly =
    (hash : List ℕ → List ℕ) (keys : Keys) (s : Instance) (given : List Signed) (strings : List Shown) (l : Listed)
    → (finish_refusal hash keys s given strings l ≡ None) ↔ IsComplete hash keys s given strings l

-- ---- the whole

-- the strings are those of a file of secrets, or there are none
abbrev pub AreRead : (List ℕ → List ℕ) → Keys → Instance → List Shown → Type 0
AreRead hash keys s strings = (strings ≡ []) ⊎ ((text : List ℕ) × (read_secrets hash keys s text ≡ shows strings))

-- what is printed is the plan's transaction, with witnesses on which the script is true of every input that keys of the deal sign; the initial
-- one is printed only where every endorsement is there
pub record IsFinished (v : Verifier) (hash : List ℕ → List ℕ) (keys : Keys) (s : Instance) (given : List Signed) (strings : List Shown)
    (l : Listed) : Type 0 where
  pub printed : finished_answer hash keys s l given strings
      ≡ prints 0 (hex_text (spelling (finished hash keys s given strings l)) ++ newline)
  pub planned : stripped (finished hash keys s given strings l) ≡ stripped (tx_of l.pending)
  -- of all inputs, the scripts of those that keys of the deal sign are true, for every oracle that accepts the given signatures, and those of
  -- wallets have what was handed in
  pub inputs_open : (oracle : Oracle) → accepts hash keys s given oracle l ≡ true
      → AllInputsOpen hash keys s given oracle l (witnesses hash keys s given strings l l.which)
  pub inputs_verified : AllInputsOpen hash keys s given (oracle_by v hash l) l (witnesses hash keys s given strings l l.which)
  pub inputs_agreed : (oracle : Oracle) → KeysAgree v hash keys s l oracle
      → AllInputsOpen hash keys s given oracle l (witnesses hash keys s given strings l l.which)
  -- so where all deposits are of keys all scripts are true
  pub opens : AreKeyDeposits keys → (oracle : Oracle) → accepts hash keys s given oracle l ≡ true
      → AllOpen hash oracle 0 l.pending.spends (witnesses hash keys s given strings l l.which)
  -- by the verifier itself, with nothing asked of it
  pub verified : AreKeyDeposits keys → AllOpen hash (oracle_by v hash l) 0 l.pending.spends (witnesses hash keys s given strings l l.which)
  -- and by every oracle that takes what it finds good
  pub agreed : AreKeyDeposits keys → (oracle : Oracle) → Agrees v hash l oracle
      → AllOpen hash oracle 0 l.pending.spends (witnesses hash keys s given strings l l.which)
  pub endorsed : l.which ≡ names.Init → may_start hash keys s given ≡ true

-- of every well-formed contract and all files that are taken
abbrev pub FinishTheorem : Type 0
FinishTheorem =
    (v : Verifier) (hash : List ℕ → List ℕ) (advert : Advert) (deal_text : List ℕ) (deal : Deal) (file : List ℕ) (given : List Signed)
    (strings : List Shown) (which : Which) (l : Listed)
    → IsWellFormed advert → read_deal v advert deal_text ≡ Ok deal
    → read_signatures v hash (deal_keys deal) (deal_instance advert deal) file ≡ Ok given
    → AreRead hash (deal_keys deal) (deal_instance advert deal) strings
    → listed_at hash (deal_keys deal) (deal_instance advert deal) which ≡ Some l
    → finish_refusal hash (deal_keys deal) (deal_instance advert deal) given strings l ≡ None
    → IsFinished v hash (deal_keys deal) (deal_instance advert deal) given strings l
