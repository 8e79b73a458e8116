-- The signatures that the transactions of a contract need: of which input, by the key of which label, and what for.
use Rattle.std.specs.Prelude.{ℕ, ◌+◌, List, [], ◌∷◌, ◌++◌, map, Bool, true, false, Option, Some, None}
use Rattle.std.specs.List.{flat_map}
use Rattle.spec_terms.specs.Term as term
use Rattle.spec_terms.specs.Advert.{Advert}
use Rattle.spec_terms.specs.Core.{is_asked}
use Rattle.spec_terms.specs.Paths.{at}
use Rattle.spec_bitcoin.specs.declared.label.Label.{Label}
use Rattle.spec_bitcoin.specs.declared.label.Label.TheVariants as labels
use Rattle.spec_bitcoin.specs.Spelling.{stripped}
use Rattle.spec_compiler.specs.Keyed.Keys.{Keys}
use Rattle.spec_compiler.specs.Keyed.Instance.{Instance}
use Rattle.spec_compiler.specs.declared.unsigned.Spent.{Spent}
use Rattle.spec_compiler.specs.declared.unsigned.Unsigned.{Unsigned}
use Rattle.spec_compiler.specs.Keyed.Transactions.{tx_of, digest_of_spent}
use Rattle.spec_tool.specs.declared.which.Which.{Which}
use Rattle.spec_tool.specs.declared.which.Which.TheVariants as names
use Rattle.spec_tool.specs.Keyed.Listed.{Listed, listed}
use Rattle.spec_deal.specs.declared.finish.Verb.{Verb}
use Rattle.spec_deal.specs.declared.finish.Verb.TheVariants as verbs
use Rattle.spec_deal.specs.declared.transaction.Wallet.{Wallet}
use Rattle.spec_deal.specs.Wallets.{input_wallet, signer_key}

-- a signature that is needed: of this input of the transaction, which spends this, by the key of the label, or by a wallet of whoever
-- has the label
pub record Slot : Type 0 where
  pub which : Which
  pub pending : Unsigned
  pub input : ℕ
  pub spent : Spent
  pub label : Label
  pub verb : Verb
  pub wallet : Option Wallet

-- ---- what a signature is for

abbrev pub verb_if_asked : Bool → Verb
verb_if_asked true = verbs.Authorise
verb_if_asked false = verbs.Endorse

abbrev pub branch_verb : Option term.Guarded → List ℕ → Verb
branch_verb None party = verbs.Endorse
branch_verb (Some b) party = verb_if_asked (is_asked b party)

-- Whoever a branch asks authorises it by its key of the branch; all other signatures of branches are endorsements, those of deposits that
-- are put among them.
abbrev pub verb_of : Advert → Which → Label → Verb
verb_of advert names.Init label = verbs.Init
verb_of advert (names.At path) (labels.Deposit party) = verbs.Endorse
verb_of advert (names.At path) (labels.Branch contract place party) = branch_verb (at advert.root path) party

abbrev pub is_endorsement : Verb → Bool
is_endorsement verbs.Endorse = true
is_endorsement verbs.Authorise = false
is_endorsement verbs.Init = false

-- ---- all signatures

-- of input k, which spends this, by the key of this label
abbrev pub input_slot : Keys → Advert → Listed → ℕ → Spent → Label → Slot
input_slot keys advert l k spent label = record {
  which = l.which;
  pending = l.pending;
  input = k;
  spent = spent;
  label = label;
  verb = verb_of advert l.which label;
  wallet = input_wallet keys advert l.which k;
}

-- by the keys of these labels
abbrev pub input_slots : Keys → Advert → Listed → ℕ → Spent → List Label → List Slot
input_slots keys advert l k spent labels = map (input_slot keys advert l k spent) labels

-- of the inputs from number k on
abbrev pub slots_from : Keys → Advert → Listed → ℕ → List Spent → List (List Label) → List Slot
slots_from keys advert l k [] signers = []
slots_from keys advert l k (spent ∷ spends) [] = []
slots_from keys advert l k (spent ∷ spends) (labels ∷ signers) =
    input_slots keys advert l k spent labels ++ slots_from keys advert l (k + 1) spends signers

-- of a transaction, input by input
abbrev pub listed_slots : Keys → Advert → Listed → List Slot
listed_slots keys advert l = slots_from keys advert l 0 l.pending.spends l.signers

-- of all transactions of a contract, in order
abbrev pub slots : (List ℕ → List ℕ) → Keys → Instance → List Slot
slots hash keys s = flat_map (listed_slots keys s.advert) (listed hash keys s)

-- ---- what is signed

-- the bytes of the transaction without witnesses
abbrev pub slot_bytes : Slot → List ℕ
slot_bytes slot = stripped (tx_of slot.pending)

abbrev pub slot_key : (List ℕ → List ℕ) → Keys → Slot → List ℕ
slot_key hash keys slot = signer_key hash keys slot.wallet slot.label

-- what its signature signs
abbrev pub slot_digest : (List ℕ → List ℕ) → Slot → List ℕ
slot_digest hash slot = digest_of_spent hash (tx_of slot.pending) slot.spent
