-- What is claimed of finished transactions: their scripts are true for every oracle of signatures that accepts those given, and false where
-- a signature is missing.
use Rattle.std.specs.Prelude.{◌≡◌, ℕ, ◌+◌, List, [], ◌∷◌, Bool, true, false, Option, Some, None}
use Rattle.std.specs.List.{list_all, list_any}
use Rattle.spec_data.specs.Lists.{is_among}
use Rattle.spec_terms.specs.Term.{Contract}
use Rattle.spec_terms.specs.Faults.{IsWellFormed}
use Rattle.spec_terms.specs.Precondition.{secrets, names_of}
use Rattle.spec_terms.specs.declared.path.PathStep.{PathStep}
use Rattle.spec_bitcoin.specs.Keys.{deposit_script, key_bytes}
use Rattle.spec_bitcoin.specs.Meaning.{script_meaning}
use Rattle.spec_bitcoin.specs.Spelling.{stripped}
use Rattle.spec_bitcoin.specs.Verdict.{script_of, items_of}
use Rattle.spec_compiler.specs.Scripts.{digest_of}
use Rattle.spec_compiler.specs.Keyed.Keys.{Keys, key_in}
use Rattle.spec_compiler.specs.Keyed.Instance.{Instance, people, branch_path, branch_label, position_script}
use Rattle.spec_compiler.specs.declared.unsigned.Spent.{Spent}
use Rattle.spec_compiler.specs.Keyed.Transactions.{tx_of, digest_of_spent}
use Rattle.spec_compiler.specs.Keyed.Statements.{AreKeys, AreKeyDeposits, IsCompiled, has_size, is_short, is_secret}
use Rattle.spec_tool.specs.declared.which.Which.{Which}
use Rattle.spec_tool.specs.Keyed.Listed.{Listed, listed_at}
use Rattle.spec_deal.specs.declared.signed.Signed.{Signed}
use Rattle.spec_deal.specs.Slots.{Slot, listed_slots, slot_key}
use Rattle.spec_deal.specs.Given.{signature_for}
use Rattle.spec_deal.specs.declared.transaction.Wallet.{Wallet}
use Rattle.spec_deal.specs.Setting.{no_key}
use Rattle.spec_deal.specs.Verifier.{Verifier}
use Rattle.spec_deal.specs.Wallets.{input_wallet}
use Rattle.spec_deal.specs.declared.entry.Shown.{Shown}
use Rattle.spec_deal.specs.Finished.{bytes_or_none, witnesses, finished, finish_refusal}
use Rattle.std.specs.Prelude.{length, slice_get, ◌||◌, is_some}
use Rattle.std.specs.Option.{option_map_or}
use Rattle.theory_deal.specs.FirstOf.{IsFirst}

-- ---- oracles

-- which signature is valid for which key, at each input
abbrev pub Oracle : Type 0
Oracle = ℕ → List ℕ → List ℕ → Bool

-- whether an oracle accepts the signature that is given for this; of what a wallet signs it isn't asked
abbrev pub accepts_one : (List ℕ → List ℕ) → Keys → List Signed → Oracle → Slot → Bool
accepts_one hash keys given oracle slot =
    is_some slot.wallet || oracle slot.input (bytes_or_none (signature_for hash keys given slot)) (slot_key hash keys slot)

-- whether it accepts all that are given for a transaction
abbrev pub accepts : (List ℕ → List ℕ) → Keys → Instance → List Signed → Oracle → Listed → Bool
accepts hash keys s given oracle l = list_all (accepts_one hash keys given oracle) (listed_slots keys s.advert l)

-- the digest that signatures of input k are of
abbrev pub digest_at : (List ℕ → List ℕ) → Listed → ℕ → List ℕ
digest_at hash l k = option_map_or (digest_of_spent hash (tx_of l.pending)) (slice_get l.pending.spends k) []

-- the oracle that finds valid what a verifier finds good for the digest of the input
abbrev pub oracle_by : Verifier → (List ℕ → List ℕ) → Listed → Oracle
oracle_by v hash l = λ k signature key. v.is_signature key (digest_at hash l k) signature

-- an oracle agrees with a verifier where it accepts all that the verifier finds good
abbrev pub Agrees : Verifier → (List ℕ → List ℕ) → Listed → Oracle → Type 0
Agrees v hash l oracle = (k : ℕ) (signature key : List ℕ) → oracle_by v hash l k signature key ≡ true → oracle k signature key ≡ true

-- and at the inputs that keys of the deal sign it agrees there
abbrev pub KeysAgree : Verifier → (List ℕ → List ℕ) → Keys → Instance → Listed → Oracle → Type 0
KeysAgree v hash keys s l oracle = (k : ℕ) → input_wallet keys s.advert l.which k ≡ None
    → (signature key : List ℕ) → oracle_by v hash l k signature key ≡ true → oracle k signature key ≡ true

-- ---- what is given

-- the contract passed the check, and each of its secrets has a hash of 32 bytes
pub record IsApplied (s : Instance) : Type 0 where
  pub checked : IsWellFormed s.advert
  pub committed : list_all (λ name. has_size 32 (digest_of s.hashes name)) (names_of (secrets s.advert.pre)) ≡ true

-- no signature has more bytes than an item of a witness may have
abbrev pub are_short : List Signed → Bool
are_short given = list_all (λ (g : Signed). is_short g.signature) given

-- each string has as many bytes as a secret may have, and the hash of its secret
abbrev pub do_fit : (List ℕ → List ℕ) → Instance → List Shown → Bool
do_fit hash s strings = list_all (λ (x : Shown). is_secret hash x.bytes (digest_of s.hashes x.name)) strings

-- ---- what follows

-- from input k on: a witness for each input, which ends with the script of what it spends, and whose other items make the script true
abbrev pub AllOpen : (List ℕ → List ℕ) → Oracle → ℕ → List Spent → List (List (List ℕ)) → Type 0
AllOpen hash oracle k [] [] = Unit {0}
AllOpen hash oracle k [] (witness ∷ others) = ⊥
AllOpen hash oracle k (spent ∷ spends) [] = ⊥
AllOpen hash oracle k (spent ∷ spends) (witness ∷ others) =
    (script_of witness ≡ spent.script) × (script_meaning hash (oracle k) spent.script (items_of witness) ≡ true)
    × AllOpen hash oracle (k + 1) spends others

-- it was handed in for input k of the transaction with these bytes, by no key of the deal
abbrev pub IsHandedAt : List ℕ → ℕ → Signed → Type 0
IsHandedAt tx k g = (g.tx ≡ tx) × ((g.input ≡ k) × (g.key ≡ no_key))

-- these items are those of the first that was
abbrev pub AreHandedIn : List Signed → List ℕ → ℕ → List (List ℕ) → Type 0
AreHandedIn given tx k items = (g : Signed) × IsFirst (IsHandedAt tx k) given g × (g.witness ≡ items)

-- the witness of input k: where keys of the deal sign it, it ends with the script of what the input spends, which its other items make true;
-- where a wallet does, it is what was handed in
abbrev pub InputOpens : (List ℕ → List ℕ) → Oracle → List Signed → List ℕ → ℕ → Option Wallet → Spent → List (List ℕ) → Type 0
InputOpens hash oracle given tx k None spent witness =
    (script_of witness ≡ spent.script) × (script_meaning hash (oracle k) spent.script (items_of witness) ≡ true)
InputOpens hash oracle given tx k (Some w) spent witness = AreHandedIn given tx k witness

-- of the inputs from number k on, by the wallet that signs each, if one does
abbrev pub InputsOpen : (List ℕ → List ℕ) → Oracle → List Signed → List ℕ → (ℕ → Option Wallet) → ℕ → List Spent → List (List (List ℕ)) → Type 0
InputsOpen hash oracle given tx wallet k [] [] = Unit {0}
InputsOpen hash oracle given tx wallet k [] (witness ∷ others) = ⊥
InputsOpen hash oracle given tx wallet k (spent ∷ spends) [] = ⊥
InputsOpen hash oracle given tx wallet k (spent ∷ spends) (witness ∷ others) =
    InputOpens hash oracle given tx k (wallet k) spent witness × InputsOpen hash oracle given tx wallet (k + 1) spends others

-- of all inputs of a transaction of a deal
abbrev pub AllInputsOpen : (List ℕ → List ℕ) → Keys → Instance → List Signed → Oracle → Listed → List (List (List ℕ)) → Type 0
AllInputsOpen hash keys s given oracle l ws =
    InputsOpen hash oracle given (stripped (tx_of l.pending)) (input_wallet keys s.advert l.which) 0 l.pending.spends ws

-- where a transaction is finished, every oracle that accepts the given signatures finds the scripts of all inputs true that keys of the deal
-- sign, and those of wallets have what was handed in
abbrev pub InputsOpened : Type 0
InputsOpened =
    (hash : List ℕ → List ℕ) (keys : Keys) (s : Instance) (given : List Signed) (strings : List Shown) (which : Which) (l : Listed)
    (oracle : Oracle)
    → AreKeys hash keys → IsApplied s → are_short given ≡ true → do_fit hash s strings ≡ true
    → listed_at hash keys s which ≡ Some l → finish_refusal hash keys s given strings l ≡ None
    → accepts hash keys s given oracle l ≡ true
    → AllInputsOpen hash keys s given oracle l (witnesses hash keys s given strings l l.which)

-- where a transaction is finished and all deposits are of keys, every oracle that accepts the given signatures finds the scripts of all its
-- inputs true
abbrev pub FinishedOpens : Type 0
FinishedOpens =
    (hash : List ℕ → List ℕ) (keys : Keys) (s : Instance) (given : List Signed) (strings : List Shown) (which : Which) (l : Listed)
    (oracle : Oracle)
    → AreKeys hash keys → AreKeyDeposits keys → IsApplied s → are_short given ≡ true → do_fit hash s strings ≡ true
    → listed_at hash keys s which ≡ Some l → finish_refusal hash keys s given strings l ≡ None
    → accepts hash keys s given oracle l ≡ true
    → AllOpen hash oracle 0 l.pending.spends (witnesses hash keys s given strings l l.which)

-- without witnesses a finished transaction has the bytes of the plan's
abbrev pub FinishedIsPlanned : Type 0
FinishedIsPlanned =
    (hash : List ℕ → List ℕ) (keys : Keys) (s : Instance) (given : List Signed) (strings : List Shown) (l : Listed)
    → stripped (finished hash keys s given strings l) ≡ stripped (tx_of l.pending)

-- ---- no other way

-- no item is a signature of the party for a branch of the position
abbrev pub NoneSigns : (List ℕ → List ℕ) → Keys → (List ℕ → List ℕ → Bool) → Instance → List PathStep → List ℕ → List (List ℕ) → Type 0
NoneSigns hash keys valid s position party items =
    (i : ℕ) → list_any (λ item. valid item (key_in hash keys (branch_label s.contract (branch_path position i) party))) items ≡ false

-- a position's script is false where a participant has signed no branch, and a deposit's where its owner hasn't signed
pub record NoOtherWay (hash : List ℕ → List ℕ) (keys : Keys) (valid : List ℕ → List ℕ → Bool) : Type 0 where
  pub positions : (s : Instance) (position : List PathStep) (contract : Contract) (items : List (List ℕ)) (party : List ℕ)
      → AreKeys hash keys → IsCompiled s position contract → list_all is_short items ≡ true → is_among party (people s) ≡ true
      → NoneSigns hash keys valid s position party items
      → script_meaning hash valid (position_script hash keys s position contract) items ≡ false
  pub deposits : (key : List ℕ) (items : List (List ℕ)) → length key ≡ key_bytes → list_all is_short items ≡ true
      → list_any (λ item. valid item key) items ≡ false → script_meaning hash valid (deposit_script key) items ≡ false

abbrev pub FalseWithoutOne : Type 0
FalseWithoutOne = (hash : List ℕ → List ℕ) (keys : Keys) (valid : List ℕ → List ℕ → Bool) → NoOtherWay hash keys valid
