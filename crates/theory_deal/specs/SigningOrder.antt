-- What is claimed of the order of the signatures that a deal asks for: that of the text, and none of them twice.
use Rattle.std.specs.Prelude.{◌≡◌, ℕ, ◌<◌, List, [], ◌∷◌, ◌++◌, ◌⊎◌}
use Rattle.spec_compiler.specs.Keyed.Keys.{Keys}
use Rattle.spec_compiler.specs.Keyed.Instance.{Instance, people}
use Rattle.spec_deal.specs.Finished.{label_party}
use Rattle.spec_deal.specs.Slots.{Slot, slots}
use Rattle.theory_calculus.specs.Members.{Is_in}
use Rattle.theory_deal.specs.Transactions.{all_names}

-- one stands before another in a list
pub record Precedes {X : Type 0} (xs : List X) (x y : X) : Type 0 where
  pub prefix : List X
  pub between : List X
  pub behind : List X
  pub stands : xs ≡ prefix ++ x ∷ (between ++ y ∷ behind)

-- a signature is of an earlier transaction, of an earlier input of the same, or of the same input by an earlier participant
abbrev pub ComesBefore : Instance → Slot → Slot → Type 0
ComesBefore s x y =
    Precedes (all_names s.advert.root) x.which y.which
    ⊎ (((x.which ≡ y.which) × (x.input < y.input))
    ⊎ ((x.which ≡ y.which) × (x.input ≡ y.input) × Precedes (people s) (label_party x.label) (label_party y.label)))

-- each of a list stands so to all that come behind it
abbrev pub IsAscending : {X : Type 0} → (X → X → Type 0) → List X → Type 0
IsAscending R [] = Unit {0}
IsAscending {X} R (x ∷ xs) = ((y : X) → Is_in y xs → R x y) × IsAscending R xs

-- two are of one input of one transaction and by the key of one label
pub record IsSameSignature (x y : Slot) : Type 0 where
  pub which : x.which ≡ y.which
  pub input : x.input ≡ y.input
  pub label : x.label ≡ y.label

pub record AreInOrder (hash : List ℕ → List ℕ) (keys : Keys) (s : Instance) : Type 0 where
  pub ascending : IsAscending (ComesBefore s) (slots hash keys s)
  pub once : IsAscending (λ (x y : Slot). IsSameSignature x y → ⊥) (slots hash keys s)

abbrev pub SignaturesInOrder : Type 0
SignaturesInOrder = (hash : List ℕ → List ℕ) (keys : Keys) (s : Instance) → AreInOrder hash keys s
