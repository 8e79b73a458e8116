-- A word is read as the path that it is the text of.
use Rattle.std.proofs.Common.{◌≡◌, ℕ, ◌^◌, Bool, true, false, ◌==◌, List, [], ◌∷◌, ◌++◌, Option, Some, None, refl, sym, ap, subst}
use Rattle.std.proofs.Common.{append_assoc, arith}
use Rattle.std.specs.Prelude.{if◌then◌else◌, flat_map}
use Rattle.std.specs.List.{AllByRecursion}
use Rattle.std.proofs.lemmas.Bool.Decides.{nat_tests}
use Rattle.spec_data.specs.Digits.{onto}
use Rattle.spec_terms.specs.declared.path.PathStep.{PathStep}
use Rattle.spec_bitcoin.specs.Keys.{step_text, path_text, IsStep}
use Rattle.spec_text.specs.Words.{small, step_mark, step_of, step, steps_from, steps, path}
use Rattle.theory_text.proofs.Options.{some, some_is, none_some, came, onto_is}
use Rattle.theory_text.proofs.Lines.Decimals.{guarded, number_less}
use Rattle.theory_text.proofs.Lines.PrintedWords.{small_word}

same_number : (a b : ℕ) → (a == b) ≡ true → a ≡ b
same_number a b h = grind (arith, nat_tests)

abbrev mark_byte : Bool → ℕ
mark_byte true = 46
mark_byte false = 47

record MarkIs (b : ℕ) (mark : Bool) : Type 0 where
  byte : b ≡ mark_byte mark

mark_by : (b : ℕ) (t u mark : Bool) → (b == 46) ≡ t → (b == 47) ≡ u → (if t then some true else if u then some false else None) ≡ some mark
    → MarkIs b mark
mark_by b true u mark e f h = subst (MarkIs b) (some_is true mark h) (record { byte = same_number b 46 e })
mark_by b false true mark e f h = subst (MarkIs b) (some_is false mark h) (record { byte = same_number b 47 f })
mark_by b false false mark e f h = absurd (none_some mark h)

mark_is : (b : ℕ) (mark : Bool) → step_mark b ≡ some mark → MarkIs b mark
mark_is b mark h = mark_by b (b == 46) (b == 47) mark refl refl h

-- a step, and steps, written as these bytes
abbrev IsStepOf : List ℕ → PathStep → Type 0
IsStepOf bytes s = (step_text s ≡ bytes) × IsStep s

abbrev pub AreStepsOf : List ℕ → List PathStep → Type 0
AreStepsOf bytes ss = (flat_map step_text ss ≡ bytes) × AllByRecursion IsStep ss

of_mark : (mark : Bool) (digits : List ℕ) (n : ℕ) → small digits ≡ some n → IsStepOf (mark_byte mark ∷ digits) (step_of mark n)
of_mark true digits n h = (ap (λ (ds : List ℕ). 46 ∷ ds) (small_word digits n h), number_less (2 ^ 32) digits n h)
of_mark false digits n h = (ap (λ (ds : List ℕ). 47 ∷ ds) (small_word digits n h), number_less (2 ^ 32) digits n h)

step_spelled : (mark : Bool) (digits : List ℕ) (s : PathStep) → step mark digits ≡ some s → IsStepOf (mark_byte mark ∷ digits) s
step_spelled mark digits s h =
    let c = came (small digits) (λ n. some (step_of mark n)) s h in
    subst (IsStepOf (mark_byte mark ∷ digits)) (some_is (step_of mark c.first) s c.then') (of_mark mark digits c.first c.is)

onto_steps : (mark : Bool) (digits rest : List ℕ) (later : Option (List PathStep)) (ss : List PathStep) → onto (step mark digits) later ≡ some ss
    → ((ts : List PathStep) → later ≡ some ts → AreStepsOf rest ts) → AreStepsOf (mark_byte mark ∷ (digits ++ rest)) ss
onto_steps mark digits rest later ss h f =
    let o = onto_is (step mark digits) later ss h in
    let first = step_spelled mark digits o.first o.is in
    let others = f o.others o.are in
    subst (AreStepsOf (mark_byte mark ∷ (digits ++ rest))) (sym o.all) ((λ i. first.0 i ++ others.0 i), (first.1, others.1))

-- a step is done, or its digits go on
marked : (q : Option Bool) (mark : Bool) (digits : List ℕ) (b : ℕ) (bytes : List ℕ) (ss : List PathStep) → step_mark b ≡ q
    → (elim q [ None ↦ steps_from mark (digits ++ b ∷ []) bytes | Some next ↦ onto (step mark digits) (steps_from next [] bytes) ]) ≡ some ss
    → ((m : Bool) (ds : List ℕ) (ts : List PathStep) → steps_from m ds bytes ≡ some ts → AreStepsOf (mark_byte m ∷ (ds ++ bytes)) ts)
    → AreStepsOf (mark_byte mark ∷ (digits ++ b ∷ bytes)) ss
marked None mark digits b bytes ss e h f =
    subst (λ (xs : List ℕ). AreStepsOf (mark_byte mark ∷ xs) ss) (append_assoc digits (b ∷ []) bytes) (f mark (digits ++ b ∷ []) ss h)
marked (Some next) mark digits b bytes ss e h f =
    onto_steps mark digits (b ∷ bytes) (steps_from next [] bytes) ss h
    (λ ts k. subst (λ (x : ℕ). AreStepsOf (x ∷ bytes) ts) (sym (mark_is b next e).byte) (f next [] ts k))

from_mark : (bytes : List ℕ) (mark : Bool) (digits : List ℕ) (ss : List PathStep) → steps_from mark digits bytes ≡ some ss
    → AreStepsOf (mark_byte mark ∷ (digits ++ bytes)) ss
from_mark [] mark digits ss h =
    onto_steps mark digits [] (some []) ss h (λ ts k. subst (AreStepsOf []) (some_is [] ts k) (refl, tt))
from_mark (b ∷ bytes) mark digits ss h = marked (step_mark b) mark digits b bytes ss refl h (from_mark bytes)

all_steps : (bytes : List ℕ) (ss : List PathStep) → steps bytes ≡ some ss → AreStepsOf bytes ss
all_steps [] ss h = subst (AreStepsOf []) (some_is [] ss h) (refl, tt)
all_steps (b ∷ bytes) ss h =
    let c = came (step_mark b) (λ mark. steps_from mark [] bytes) ss h in
    subst (λ (x : ℕ). AreStepsOf (x ∷ bytes) ss) (sym (mark_is b c.first c.is).byte) (from_mark bytes c.first [] ss c.then')

pub record IsPathOf (word : List ℕ) (p : List PathStep) : Type 0 where
  pub word' : word ≡ path_text p
  pub small' : AllByRecursion IsStep p

pub path_spelled : (word : List ℕ) (p : List PathStep) → path word ≡ some p → IsPathOf word p
path_spelled [] p h = absurd (none_some p h)
path_spelled (b ∷ bytes) p h =
    let g = guarded (b == 114) (steps bytes) p h in
    let first = same_number b 114 g.holds in
    let rest = all_steps bytes p g.then' in
    record { word' = λ i. first i ∷ sym (rest.0) i; small' = rest.1 }
