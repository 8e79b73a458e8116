-- Live outputs by birth number.
use Rattle.std.specs.Prelude.{◌≡◌, ℕ, ◌+◌, ◌^◌, ◌<◌, ◌≤◌, List, [], ◌∷◌, ◌==◌, if◌then◌else◌, Option, Some, None}
use Rattle.std.specs.List.{find, list_any}
use Rattle.std.specs.Option.{option_map}
use Rattle.spec_bitcoin.specs.declared.tx.OutPoint.{OutPoint}
use Rattle.spec_bitcoin.specs.Live.{Entry, same_outpoint, at_place}

-- the live output of this birth number, with its place
abbrev pub numbered : List Entry → ℕ → Option Entry
numbered live number = find (λ e. e.1.0 == number) live

-- the live output, if it has this birth number
abbrev pub if_numbered : ℕ → Entry → Option Entry
if_numbered number e = if e.1.0 == number then Some e else None

-- the birth number of the live output at a place
abbrev pub number_at : List Entry → OutPoint → Option ℕ
number_at live place = option_map (λ p. p.0) (at_place live place)

-- the birth numbers increase, the first is at least low, and each is below high
abbrev pub AreInOrder : ℕ → ℕ → List Entry → Type 0
AreInOrder low high [] = Unit {0}
AreInOrder low high (e ∷ es) = (low ≤ e.1.0) × (e.1.0 < high) × AreInOrder (e.1.0 + 1) high es

-- no two are at one place
abbrev pub AreApart : List Entry → Type 0
AreApart [] = Unit {0}
AreApart (e ∷ es) = (at_place es e.0 ≡ None) × AreApart es

-- the live outputs are in order and apart, and this function gives the birth number at each place
pub record AreIndexed (number : OutPoint → Option ℕ) (live : List Entry) : Type 0 where
  pub in_order : AreInOrder 0 (2 ^ 32) live
  pub apart : AreApart live
  pub numbers : (place : OutPoint) → number place ≡ number_at live place

-- the second function gives what the first does, but nothing at these places
abbrev pub LosesPlaces : (OutPoint → Option ℕ) → (OutPoint → Option ℕ) → List OutPoint → Type 0
LosesPlaces before after places =
    (q : OutPoint) → after q ≡ (if list_any (λ p. same_outpoint p q) places then None else before q)
