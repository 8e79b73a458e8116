-- What is claimed of the signatures that a deal asks for: of which input, by whose key, and by which event of a run; and that those that
-- are there and those that are missing are all of them, in their order.
use Rattle.std.specs.Prelude.{◌≡◌, ℕ, zero, suc, List, [], ◌∷◌, map, Bool, true, false, Some, ◌↔◌, ◌⊎◌, slice_get, option_map}
use Rattle.std.specs.List.{Contains}
use Rattle.spec_terms.specs.Term.{Guarded}
use Rattle.spec_terms.specs.Core.{core, asks, puts_of}
use Rattle.spec_terms.specs.Paths.{at}
use Rattle.spec_terms.specs.Precondition.{Holding, persistent}
use Rattle.spec_terms.specs.declared.path.PathStep.{PathStep}
use Rattle.spec_bitcoin.specs.declared.label.Label.{Label}
use Rattle.spec_bitcoin.specs.declared.label.Label.TheVariants as labels
use Rattle.spec_compiler.specs.Keyed.Keys.{Keys, key_in}
use Rattle.spec_compiler.specs.Keyed.Instance.{Instance, people, branch_label}
use Rattle.spec_compiler.specs.Keyed.Endorsements.{Need, needed, put_owner}
use Rattle.spec_tool.specs.declared.which.Which.{Which}
use Rattle.spec_tool.specs.declared.which.Which.TheVariants as names
use Rattle.spec_tool.specs.Keyed.Listed.{Listed, listed_at}
use Rattle.spec_deal.specs.declared.finish.Verb.{Verb}
use Rattle.spec_deal.specs.declared.finish.Verb.TheVariants as verbs
use Rattle.spec_deal.specs.declared.signed.Signed.{Signed}
use Rattle.spec_deal.specs.Finished.{which_path, label_party}
use Rattle.spec_deal.specs.Given.{has, missing, held, endorsements}
use Rattle.spec_deal.specs.Slots.{Slot, slots, slot_digest}
use Rattle.spec_deal.specs.Wallets.{input_wallet}

-- ---- who signs

-- the owner of a deposit that the initial transaction spends starts the contract
pub record StartsBy (s : Instance) (k : ℕ) (label : Label) (verb : Verb) : Type 0 where
  pub deposit : List ℕ × Holding
  pub stands : slice_get (persistent s.advert.pre) k ≡ Some deposit
  pub key : label ≡ labels.Deposit (deposit.1).owner
  pub event : verb ≡ verbs.Init

-- a party authorises a branch that asks it, and endorses every other
abbrev pub BranchEvent : Guarded → List ℕ → Verb → Type 0
BranchEvent b party verb = (Contains (asks b) party × (verb ≡ verbs.Authorise)) ⊎ ((Contains (asks b) party → ⊥) × (verb ≡ verbs.Endorse))

-- each participant signs for the output of the branch's position, by its key of the branch
pub record GoesBy (s : Instance) (path : List PathStep) (b : Guarded) (label : Label) (verb : Verb) : Type 0 where
  pub party : List ℕ
  pub takes_part : Contains (people s) party
  pub key : label ≡ branch_label s.contract path party
  pub event : BranchEvent b party verb

-- the owner of a deposit that a branch puts endorses
pub record PutsBy (s : Instance) (b : Guarded) (k : ℕ) (label : Label) (verb : Verb) : Type 0 where
  pub name : List ℕ
  pub stands : slice_get (puts_of (core b)) k ≡ Some name
  pub key : label ≡ labels.Deposit (put_owner s.advert name)
  pub event : verb ≡ verbs.Endorse

-- the first input spends the output of the branch's position, the others what is put
abbrev pub BranchBy : Instance → List PathStep → Guarded → ℕ → Label → Verb → Type 0
BranchBy s path b zero label verb = GoesBy s path b label verb
BranchBy s path b (suc k) label verb = PutsBy s b k label verb

-- who signs input k of a transaction, by the key of which label, and by which event of a run
abbrev pub Signs : Instance → Which → ℕ → Label → Verb → Type 0
Signs s names.Init k label verb = StartsBy s k label verb
Signs s (names.At path) k label verb = (b : Guarded) × (at s.advert.root path ≡ Some b) × BranchBy s path b k label verb

-- the contract has the transaction, its input spends this, and the key of the label signs it by that event, or the wallet that brings what
-- the input spends
pub record IsAsked (hash : List ℕ → List ℕ) (keys : Keys) (s : Instance) (slot : Slot) : Type 0 where
  pub there : option_map (λ (l : Listed). l.pending) (listed_at hash keys s slot.which) ≡ Some slot.pending
  pub spends : slice_get slot.pending.spends slot.input ≡ Some slot.spent
  pub signs : Signs s slot.which slot.input slot.label slot.verb
  pub brought : slot.wallet ≡ input_wallet keys s.advert slot.which slot.input

-- a signature is needed exactly where it is asked for so
abbrev pub AsksExactly : Type 0
AsksExactly = (hash : List ℕ → List ℕ) (keys : Keys) (s : Instance) (slot : Slot)
    → Contains (slots hash keys s) slot ↔ IsAsked hash keys s slot

-- ---- endorsements

-- a signature as an honest party in a run waits for it before it signs the initial transaction: by the key of its label
abbrev pub need_of : (List ℕ → List ℕ) → Keys → Slot → Need
need_of hash keys slot = record {
  path = which_path slot.which;
  party = label_party slot.label;
  key = key_in hash keys slot.label;
  digest = slot_digest hash slot;
}

-- the endorsements of a deal are those of runs, at the deal's keys, in the same order
abbrev pub EndorsementsOfRuns : Type 0
EndorsementsOfRuns = (hash : List ℕ → List ℕ) (keys : Keys) (s : Instance)
    → map (need_of hash keys) (endorsements hash keys s) ≡ needed hash keys s

-- ---- those that are there

-- a list is parted by a test: each element stands in exactly one of two lists, in the order of the whole
abbrev pub IsParted : {X : Type 0} → (X → Bool) → List X → List X → List X → Type 0
IsParted test [] there others = (there ≡ []) × (others ≡ [])
IsParted {X} test (x ∷ xs) there others =
    ((rest : List X) × (test x ≡ true) × (there ≡ x ∷ rest) × IsParted test xs rest others)
    ⊎ ((rest : List X) × (test x ≡ false) × (others ≡ x ∷ rest) × IsParted test xs there rest)

-- the signatures that are held and those that are missing part those that are needed
abbrev pub HeldAndMissing : Type 0
HeldAndMissing = (hash : List ℕ → List ℕ) (keys : Keys) (s : Instance) (given : List Signed)
    → IsParted (has hash keys given) (slots hash keys s) (held hash keys s given) (missing hash keys s given)
