-- What is claimed of the partially signed transactions of a compiled contract; of this project's subset of BIP 174.
use Rattle.std.specs.Prelude.{◌≡◌, ℕ, ◌<◌, ◌^◌, List, length, map, true, Some}
use Rattle.std.specs.List.{AllByRecursion}
use Rattle.spec_data.specs.Hashes.{HashesBytes}
use Rattle.spec_data.specs.Lists.{is_among, are_different}
use Rattle.spec_terms.specs.Advert.{Advert}
use Rattle.spec_terms.specs.Parties.{participants}
use Rattle.spec_terms.specs.declared.path.PathStep.{PathStep}
use Rattle.spec_bitcoin.specs.Keys.{Pair, IsStep, key_of, label_text}
use Rattle.spec_bitcoin.specs.Spelling.{IsString, IsTransaction}
use Rattle.spec_compiler.specs.Instance.{Instance, branch_label}
use Rattle.spec_compiler.specs.declared.unsigned.Spent.{Spent}
use Rattle.spec_compiler.specs.Transactions.{tx_of}
use Rattle.spec_tool.specs.declared.which.Which.{Which}
use Rattle.spec_tool.specs.Listed.{Listed, listed_at}
use Rattle.spec_tool.specs.PsbtBytes.{psbt_of, psbt_bytes}
use Rattle.spec_tool.specs.PsbtText.{listed_psbt}
use Rattle.theory_psbt.specs.Fitting.{IsFitting}

-- an output that is spent, with a value of 8 bytes and a script that has a length
pub record IsSpent (spent : Spent) : Type 0 where
  pub value : spent.value < 2 ^ 64
  pub script : IsString spent.script

-- A listed transaction whose numbers are within their widths, with signers for each input. The keys of an input's
-- signers are different, as those of different labels are where no two hashed strings collide.
pub record IsListed (hash : List ℕ → List ℕ) (l : Listed) : Type 0 where
  pub tx : IsTransaction (tx_of l.pending)
  pub spends : AllByRecursion IsSpent l.pending.spends
  pub each_input : length l.signers ≡ length l.pending.spends
  pub keys : AllByRecursion (λ labels. are_different (map (key_of hash) labels) ≡ true) l.signers

-- with the signatures that any book has for it, it is a partially signed transaction that can be written
abbrev pub ListedIsFitting : Type 0
ListedIsFitting = (hash : List ℕ → List ℕ) → HashesBytes hash → (book : List Pair) (l : Listed) → IsListed hash l
    → IsFitting (listed_psbt hash book l)

-- and what is written of it is read as the same
abbrev pub ListedIsRead : Type 0
ListedIsRead = (hash : List ℕ → List ℕ) → HashesBytes hash → (book : List Pair) (l : Listed) → IsListed hash l
    → length (psbt_bytes (listed_psbt hash book l)) < 2 ^ 64
    → psbt_of (psbt_bytes (listed_psbt hash book l)) ≡ Some (listed_psbt hash book l)

-- ---- keys

-- the text of a party's label of the branch at a path
abbrev pub party_text : ℕ → List PathStep → List ℕ → List ℕ
party_text contract path party = label_text (branch_label contract path party)

-- of these parties no two labels' texts collide
abbrev pub AreCalm : (List ℕ → List ℕ) → ℕ → List PathStep → List (List ℕ) → Type 0
AreCalm hash contract path parties = (a b : List ℕ) → is_among a parties ≡ true → is_among b parties ≡ true
    → hash (party_text contract path a) ≡ hash (party_text contract path b) → party_text contract path a ≡ party_text contract path b

-- and so the keys of different parties for the branch are different
abbrev pub KeysDiffer : Type 0
KeysDiffer = (hash : List ℕ → List ℕ) (contract : ℕ) (path : List PathStep) (parties : List (List ℕ)) → contract < 2 ^ 32
    → AllByRecursion IsStep path → are_different parties ≡ true → AreCalm hash contract path parties
    → are_different (map (key_of hash) (map (branch_label contract path) parties)) ≡ true

-- and no party stands twice among a contract's participants
abbrev pub ParticipantsDiffer : Type 0
ParticipantsDiffer = (advert : Advert) → are_different (participants advert) ≡ true

-- ---- signers

-- a contract's transaction has signers for each of its inputs
abbrev pub SignersForEach : Type 0
SignersForEach = (hash : List ℕ → List ℕ) (instance : Instance) (which : Which) (l : Listed) → listed_at hash instance which ≡ Some l
    → length l.signers ≡ length l.pending.spends
