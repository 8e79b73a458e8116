-- Live outputs are told apart by their birth numbers.
use Rattle.std.proofs.Common.{◌≡◌, ℕ, List, [], ◌∷◌, map, Bool, true, false, not, ◌&&◌, ◌||◌, Option, Some, None, refl, sym, ap, ◌∙◌, arith}
use Rattle.std.specs.Prelude.{is_some, ◌==◌, ◌^◌}
use Rattle.std.specs.List.{list_any}
use Rattle.std.specs.Option.{option_map, option_map_or}
use Rattle.std.proofs.lemmas.Bool.Decides.{nat_tests}
use Rattle.spec_data.specs.Lists.{has_number, are_distinct}
use Rattle.spec_bitcoin.specs.declared.tx.OutPoint.{OutPoint}
use Rattle.spec_bitcoin.specs.declared.tx.TxIn.{TxIn}
use Rattle.spec_bitcoin.specs.declared.tx.TxOut.{TxOut}
use Rattle.spec_bitcoin.specs.Live.{Entry, same_outpoint, at_place}
use Rattle.spec_bitcoin.specs.Verdict.{has_repeat, first_missing, spent_number}
use Rattle.bm_ledger.specs.Ordered.{numbered, AreInOrder}
use Rattle.bm_ledger.proofs.Indexing.{same-itself, numbered-at_place}
use Rattle.bm_ledger.proofs.Numbering.{other_number}
use Rattle.bm_ledger.proofs.Spending.{same_outpoint-is, AllLive, all_live}

-- ---- the number at a place

-- what is there has a number
number_there : (o : Option (ℕ × TxOut)) → is_some o ≡ true → option_map (λ p. p.0) o ≡ Some (option_map_or (λ p. p.0) o 0)
number_there None h = cc
number_there (Some p) h = refl

abbrev with_place : OutPoint → Option (ℕ × TxOut) → Option Entry
with_place p o = option_map (λ q. (p, q)) o

abbrev place_or : OutPoint → Option Entry → OutPoint
place_or p None = p
place_or p (Some e) = e.0

placed : (p q : OutPoint) (a b : Option (ℕ × TxOut)) → is_some a ≡ true → is_some b ≡ true → with_place p a ≡ with_place q b → p ≡ q
placed p q None b h k e = cc
placed p q (Some x) None h k e = cc
placed p q (Some x) (Some y) h k e = ap (place_or p) e

-- a number is of one place
one_place : (es : List Entry) (p q : OutPoint) → AreInOrder 0 (2 ^ 32) es → is_some (at_place es p) ≡ true → is_some (at_place es q) ≡ true
    → option_map_or (λ r. r.0) (at_place es p) 0 ≡ option_map_or (λ r. r.0) (at_place es q) 0 → p ≡ q
one_place es p q order here there same =
    let first = numbered-at_place 0 (2 ^ 32) es p _ order (number_there (at_place es p) here) in
    let second = numbered-at_place 0 (2 ^ 32) es q _ order (number_there (at_place es q) there) in
    placed p q (at_place es p) (at_place es q) here there (sym first ∙ ap (numbered es) same ∙ second)

-- ---- inputs

equal_numbers : (a b : ℕ) → a ≡ b → a == b ≡ true
equal_numbers a b h = grind (arith, nat_tests)

told_apart : (es : List Entry) (i j : TxIn) → AreInOrder 0 (2 ^ 32) es → is_some (at_place es i.prev) ≡ true → is_some (at_place es j.prev) ≡ true
    → spent_number es j == spent_number es i ≡ same_outpoint j.prev i.prev
told_apart es i j order here there =
    elim (same_outpoint j.prev i.prev) as (λ b. same_outpoint j.prev i.prev ≡ b → spent_number es j == spent_number es i ≡ b) [
      | true ↦ λ t. equal_numbers (spent_number es j) (spent_number es i)
          (ap (λ p. option_map_or (λ r. r.0) (at_place es p) 0) (same_outpoint-is j.prev i.prev t))
      | false ↦ λ t. other_number (spent_number es j) (spent_number es i) (λ s.
          let is = one_place es j.prev i.prev order there here s in
          (let same : same_outpoint j.prev i.prev ≡ true = ap (same_outpoint j.prev) (sym is) ∙ same-itself j.prev in cc))
    ] refl

any_told : (es : List Entry) (i : TxIn) (is : List TxIn) → AreInOrder 0 (2 ^ 32) es → is_some (at_place es i.prev) ≡ true → AllLive es is
    → has_number (spent_number es i) (map (spent_number es) is) ≡ list_any (λ j. same_outpoint j.prev i.prev) is
any_told es i [] order here all = refl
any_told es i (j ∷ js) order here all =
    ap (λ b. b || has_number (spent_number es i) (map (spent_number es) js)) (told_apart es i j order here all.0)
    ∙ ap (λ b. same_outpoint j.prev i.prev || b) (any_told es i js order here all.1)

not_and : (a b : Bool) → not (not a && b) ≡ a || not b
not_and true b = refl
not_and false b = refl

told : (es : List Entry) (is : List TxIn) → AreInOrder 0 (2 ^ 32) es → AllLive es is → not (are_distinct (map (spent_number es) is)) ≡ has_repeat is
told es [] order all = refl
told es (i ∷ is) order all =
    not_and (has_number (spent_number es i) (map (spent_number es) is)) (are_distinct (map (spent_number es) is))
    ∙ ap (λ b. b || not (are_distinct (map (spent_number es) is))) (any_told es i is order all.0 all.1)
    ∙ ap (λ b. list_any (λ j. same_outpoint j.prev i.prev) is || b) (told es is order all.1)

-- where every input spends a live output, two spend the same one just where two numbers are the same
pub repeat-told : (es : List Entry) (is : List TxIn) (numbers : List ℕ) → AreInOrder 0 (2 ^ 32) es → first_missing es is ≡ None
    → numbers ≡ map (spent_number es) is → not (are_distinct numbers) ≡ has_repeat is
repeat-told es is numbers order missing of = ap (λ ns. not (are_distinct ns)) of ∙ told es is order (all_live es 0 is missing)
