-- A repeat as the definitions have it.
use Rattle.std.proofs.Common.{◌≡◌, ℕ, List, [], ◌∷◌, map, Bool, true, false, not, ◌&&◌, ◌||◌, refl, ap, ◌∙◌}
use Rattle.std.specs.Prelude.{◌==◌}
use Rattle.std.specs.List.{list_any}
use Rattle.spec_data.specs.Lists.{has_number, are_distinct}
use Rattle.spec_bitcoin.specs.declared.tx.OutPoint.{OutPoint}
use Rattle.spec_bitcoin.specs.declared.tx.TxIn.{TxIn}
use Rattle.spec_bitcoin.specs.Live.{same_outpoint}
use Rattle.spec_bitcoin.specs.Verdict as verdict
use Rattle.bm_repeats.specs.Repeats.{has_repeat}

not_or : (a b : Bool) → not (a || b) ≡ not a && not b
not_or true b = refl
not_or false b = refl

pub distinct : (numbers : List ℕ) → not (has_repeat (λ a b. a == b) numbers) ≡ are_distinct numbers
distinct [] = refl
distinct (n ∷ ns) = not_or (has_number n ns) (has_repeat (λ a b. a == b) ns) ∙ ap (λ b. not (has_number n ns) && b) (distinct ns)

any_place : (place : OutPoint) (inputs : List TxIn) → list_any (λ p. same_outpoint p place) (map (λ i. i.prev) inputs)
    ≡ list_any (λ i. same_outpoint i.prev place) inputs
any_place place [] = refl
any_place place (i ∷ is) = ap (λ b. same_outpoint i.prev place || b) (any_place place is)

pub spent_twice : (inputs : List TxIn) → has_repeat same_outpoint (map (λ i. i.prev) inputs) ≡ verdict.has_repeat inputs
spent_twice [] = refl
spent_twice (i ∷ is) = ap (λ b. b || has_repeat same_outpoint (map (λ i. i.prev) is)) (any_place i.prev is)
    ∙ ap (λ b. list_any (λ j. same_outpoint j.prev i.prev) is || b) (spent_twice is)
