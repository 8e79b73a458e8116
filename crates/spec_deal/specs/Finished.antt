-- Transactions with the witnesses (BIP 141) that the given signatures and secrets make, or what is missing for them.
use Rattle.std.specs.Prelude.{ℕ, ◌+◌, List, [], ◌∷◌, ◌++◌, length, map, Bool, not, ◌&&◌, ◌==◌, Option, Some, None, is_some}
use Rattle.std.specs.Prelude.{if◌then◌else◌}
use Rattle.std.specs.List.{find, flat_map}
use Rattle.std.specs.Option.{option_map, option_map_or}
use Rattle.spec_data.specs.Lists.{or_else}
use Rattle.spec_terms.specs.Term as term
use Rattle.spec_terms.specs.Term.{branches}
use Rattle.spec_terms.specs.Core.{core, reveals_of, test_of}
use Rattle.spec_terms.specs.Paths.{at, contract_under}
use Rattle.spec_terms.specs.Value.{holds}
use Rattle.spec_terms.specs.declared.path.PathStep.{PathStep}
use Rattle.spec_bitcoin.specs.declared.label.Label.{Label}
use Rattle.spec_bitcoin.specs.declared.label.Label.TheVariants as labels
use Rattle.spec_bitcoin.specs.declared.tx.Tx.{Tx}
use Rattle.spec_compiler.specs.Keyed.Keys.{Keys}
use Rattle.spec_compiler.specs.Keyed.Instance.{Instance}
use Rattle.spec_compiler.specs.declared.unsigned.Spent.{Spent}
use Rattle.spec_compiler.specs.Keyed.Transactions.{tx_of}
use Rattle.spec_compiler.specs.Keyed.ByPath.{PathEnd, at_position, at_branch, end_at}
use Rattle.spec_compiler.specs.Keyed.Statements.{secret_lengths}
use Rattle.spec_compiler.specs.Witness.{witness_of}
use Rattle.spec_run.specs.Firing.{with_witnesses, revealed_by}
use Rattle.spec_tool.specs.declared.which.Which.{Which}
use Rattle.spec_tool.specs.declared.which.Which.TheVariants as names
use Rattle.spec_tool.specs.Keyed.Listed.{Listed}
use Rattle.spec_deal.specs.declared.signed.Signed.{Signed}
use Rattle.spec_deal.specs.declared.finish.FinishRefusal.{FinishRefusal}
use Rattle.spec_deal.specs.declared.finish.FinishRefusal.TheVariants as refusals
use Rattle.spec_deal.specs.Slots.{Slot, input_slots, listed_slots}
use Rattle.spec_deal.specs.declared.transaction.Wallet.{Wallet}
use Rattle.spec_deal.specs.Given.{has, signature_for, witness_for, first_unendorsed}
use Rattle.spec_deal.specs.Wallets.{input_wallet}
use Rattle.spec_deal.specs.declared.entry.Shown.{Shown}
use Rattle.spec_deal.specs.SecretFile.{string_for}

-- a byte string that was looked up
abbrev pub bytes_or_none : Option (List ℕ) → List ℕ
bytes_or_none None = []
bytes_or_none (Some bytes) = bytes

-- a witness that was looked up
abbrev pub items_or_none : Option (List (List ℕ)) → List (List ℕ)
items_or_none None = []
items_or_none (Some items) = items

-- ---- witnesses

-- the signatures of input k, which spends this, by the keys of these labels
abbrev pub input_signatures : (List ℕ → List ℕ) → Keys → Instance → List Signed → Listed → ℕ → Spent → List Label → List (List ℕ)
input_signatures hash keys s given l k spent labels =
    map (λ slot. bytes_or_none (signature_for hash keys given slot)) (input_slots keys s.advert l k spent labels)

-- the witness of input k, which spends a deposit: its owner's signature, and the script; or what its wallet gave
abbrev pub deposit_witness : (List ℕ → List ℕ) → Keys → Instance → List Signed → Listed → ℕ → Spent → List Label → Option Wallet
    → List (List ℕ)
deposit_witness hash keys s given l k spent labels None = input_signatures hash keys s given l k spent labels ++ spent.script ∷ []
deposit_witness hash keys s given l k spent labels (Some w) =
    flat_map (λ slot. items_or_none (witness_for hash keys given slot)) (input_slots keys s.advert l k spent labels)

-- the witnesses of the inputs from number k on, each of which spends a deposit
abbrev pub deposit_witnesses : (List ℕ → List ℕ) → Keys → Instance → List Signed → Listed → ℕ → List Spent → List (List Label)
    → List (List (List ℕ))
deposit_witnesses hash keys s given l k [] signers = []
deposit_witnesses hash keys s given l k (spent ∷ spends) [] = []
deposit_witnesses hash keys s given l k (spent ∷ spends) (labels ∷ signers) =
    deposit_witness hash keys s given l k spent labels (input_wallet keys s.advert l.which k)
    ∷ deposit_witnesses hash keys s given l (k + 1) spends signers

-- how many branches a position has
abbrev pub choices_at : Instance → List PathStep → ℕ
choices_at s position = option_map_or (λ contract. length (branches contract)) (contract_under s.advert.root position) 0

-- the strings of the secrets of these names
abbrev pub strings_of : List Shown → List (List ℕ) → List (List ℕ)
strings_of strings required = map (λ name. bytes_or_none (string_for strings name)) required

-- the witness of a branch, by the signatures of its participants
abbrev pub branch_witness : Instance → List Shown → List (List ℕ) → Option PathEnd → List (List ℕ)
branch_witness s strings signatures None = []
branch_witness s strings signatures (Some (at_position here contract)) = []
branch_witness s strings signatures (Some (at_branch here i b)) =
    witness_of signatures (strings_of strings (reveals_of (core b))) i (choices_at s here.position) here.output.script

-- the witnesses of a path's transaction: of the branch, and then of the deposits that it puts
abbrev pub path_witnesses : (List ℕ → List ℕ) → Keys → Instance → List Signed → List Shown → List PathStep → Listed
    → List Spent → List (List Label) → List (List (List ℕ))
path_witnesses hash keys s given strings path l [] signers = []
path_witnesses hash keys s given strings path l (spent ∷ spends) [] = []
path_witnesses hash keys s given strings path l (spent ∷ spends) (labels ∷ signers) =
    branch_witness s strings (input_signatures hash keys s given l 0 spent labels) (end_at hash keys s path)
    ∷ deposit_witnesses hash keys s given l 1 spends signers

abbrev pub witnesses : (List ℕ → List ℕ) → Keys → Instance → List Signed → List Shown → Listed → Which → List (List (List ℕ))
witnesses hash keys s given strings l names.Init = deposit_witnesses hash keys s given l 0 l.pending.spends l.signers
witnesses hash keys s given strings l (names.At path) = path_witnesses hash keys s given strings path l l.pending.spends l.signers

-- a transaction with its witnesses
abbrev pub finished : (List ℕ → List ℕ) → Keys → Instance → List Signed → List Shown → Listed → Tx
finished hash keys s given strings l = with_witnesses (tx_of l.pending) (witnesses hash keys s given strings l l.which)

-- ---- refusals

-- whose key a label names
abbrev pub label_party : Label → List ℕ
label_party (labels.Deposit party) = party
label_party (labels.Branch contract path party) = party

-- the path of a transaction; the initial one has none
abbrev pub which_path : Which → List PathStep
which_path names.Init = []
which_path (names.At path) = path

-- without this endorsement nobody starts the contract
abbrev pub unendorsed_refusal : Slot → FinishRefusal
unendorsed_refusal slot = refusals.Endorsement (which_path slot.which) (label_party slot.label)

abbrev pub endorsement_refusal : (List ℕ → List ℕ) → Keys → Instance → List Signed → Which → Option FinishRefusal
endorsement_refusal hash keys s given names.Init = option_map unendorsed_refusal (first_unendorsed hash keys s given)
endorsement_refusal hash keys s given (names.At path) = None

-- without this signature nobody takes the transaction
abbrev pub unsigned_refusal : Slot → FinishRefusal
unsigned_refusal slot = elim slot.wallet [
  | None ↦ refusals.Signature slot.input slot.label
  | Some w ↦ refusals.Wallet slot.input w.deposit
]

-- the first signature of the transaction that isn't there
abbrev pub signature_refusal : (List ℕ → List ℕ) → Keys → Instance → List Signed → Listed → Option FinishRefusal
signature_refusal hash keys s given l =
    option_map unsigned_refusal (find (λ slot. not (has hash keys given slot)) (listed_slots keys s.advert l))

-- the branch of a transaction
abbrev pub which_branch : Instance → Which → Option term.Guarded
which_branch s names.Init = None
which_branch s (names.At path) = at s.advert.root path

-- the first secret of the branch that isn't there
abbrev pub secret_refusal : List Shown → Option term.Guarded → Option FinishRefusal
secret_refusal strings b = option_map refusals.Secret (find (λ name. not (is_some (string_for strings name))) (revealed_by b))

-- whether the branch's predicate is true of the lengths of its secrets, which are their byte counts less 16
abbrev pub predicate_holds : List Shown → term.Guarded → Bool
predicate_holds strings b =
    holds (secret_lengths (reveals_of (core b)) (strings_of strings (reveals_of (core b)))) (test_of (core b))

-- the predicate of a branch that reveals secrets is false
abbrev pub predicate_refusal : List Shown → Option term.Guarded → Option FinishRefusal
predicate_refusal strings None = None
predicate_refusal strings (Some b) =
    if not (length (reveals_of (core b)) == 0) && not (predicate_holds strings b) then Some refusals.Predicate else None

-- why a transaction isn't finished: the first of these
abbrev pub finish_refusal : (List ℕ → List ℕ) → Keys → Instance → List Signed → List Shown → Listed → Option FinishRefusal
finish_refusal hash keys s given strings l =
    or_else (endorsement_refusal hash keys s given l.which)
    (or_else (signature_refusal hash keys s given l)
    (or_else (secret_refusal strings (which_branch s l.which)) (predicate_refusal strings (which_branch s l.which))))
