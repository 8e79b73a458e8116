-- The earliest of phases, found from the first on.
use Rattle.std.proofs.Common.{◌≡◌, ℕ, Bool, true, false, Option, Some, None, refl, sym, ap, ◌∙◌, arith}
use Rattle.std.specs.Prelude.{nat_le, if◌then◌else◌}
use Rattle.spec_next.specs.Listed.{earlier}

pub earlier_none : (a : Option ℕ) → earlier a None ≡ a
earlier_none None = refl
earlier_none (Some a) = refl

abbrev least : ℕ → ℕ → ℕ
least a b = if nat_le a b then a else b

-- by each order of the three
by_orders : (a b c : ℕ) (p q : Bool) → nat_le a b ≡ p → nat_le b c ≡ q → least (least a b) c ≡ least a (least b c)
by_orders a b c true true h k =
    let z : nat_le a c ≡ true = grind arith in
    ap (λ x. least (if x then a else b) c) h ∙ ap (λ x. if x then a else c) z
    ∙ sym (ap (λ x. least a (if x then b else c)) k ∙ ap (λ x. if x then a else b) h)
by_orders a b c true false h k =
    ap (λ x. least (if x then a else b) c) h ∙ sym (ap (λ x. least a (if x then b else c)) k)
by_orders a b c false true h k =
    ap (λ x. least (if x then a else b) c) h ∙ ap (λ x. if x then b else c) k
    ∙ sym (ap (λ x. least a (if x then b else c)) k ∙ ap (λ x. if x then a else b) h)
by_orders a b c false false h k =
    let z : nat_le a c ≡ false = grind arith in
    ap (λ x. least (if x then a else b) c) h ∙ ap (λ x. if x then b else c) k
    ∙ sym (ap (λ x. least a (if x then b else c)) k ∙ ap (λ x. if x then a else c) z)

least_assoc : (a b c : ℕ) → least (least a b) c ≡ least a (least b c)
least_assoc a b c = by_orders a b c (nat_le a b) (nat_le b c) refl refl

pub earlier_assoc : (a b c : Option ℕ) → earlier (earlier a b) c ≡ earlier a (earlier b c)
earlier_assoc None b c = refl
earlier_assoc (Some a) None c = refl
earlier_assoc (Some a) (Some b) None = refl
earlier_assoc (Some a) (Some b) (Some c) = ap Some (least_assoc a b c)
