-- The numbers of the labels that words spell.
use Rattle.std.proofs.Common.{◌≡◌, ℕ, ◌<◌, ◌^◌, Bool, true, false, List, [], ◌∷◌, ◌++◌, Option, Some, None, subst}
use Rattle.std.specs.Prelude.{◌==◌, if◌then◌else◌, codes}
use Rattle.std.specs.List.{AllByRecursion}
use Rattle.std.specs.Str.{bytes_eq}
use Rattle.spec_terms.specs.declared.path.PathStep.{PathStep}
use Rattle.spec_bitcoin.specs.Keys.{IsStep, IsLabel}
use Rattle.spec_bitcoin.specs.declared.label.Label.{Label}
use Rattle.spec_bitcoin.specs.declared.label.Label.TheVariants.{Deposit, Branch}
use Rattle.spec_data.specs.Digits.{onto}
use Rattle.spec_text.specs.Lines.{parts_of}
use Rattle.spec_text.specs.Words.{◌>>=◌, given, small, a_name, step_mark, step_of, step, steps_from, steps, path, label_of, label}
use Rattle.theory_text.proofs.Lines.Decimals.{number_less}
use Rattle.theory_text.proofs.Options.{some, some_is, none_some, came, onto_all}

-- ---- numbers

small_is : (word : List ℕ) (n : ℕ) → small word ≡ some n → n < 2 ^ 32
small_is word n h = number_less (2 ^ 32) word n h

-- ---- paths

one_step : (mark : Bool) (n : ℕ) → n < 2 ^ 32 → IsStep (step_of mark n)
one_step true n h = h
one_step false n h = h

step_is : (mark : Bool) (digits : List ℕ) (s : PathStep) → step mark digits ≡ some s → IsStep s
step_is mark digits s h =
    let c = came (small digits) (λ n. some (step_of mark n)) s h in
    subst IsStep (some_is (step_of mark c.first) s c.then') (one_step mark c.first (small_is digits c.first c.is))

-- a step is done, or its digits go on
marked : (q : Option Bool) (mark : Bool) (digits more bytes : List ℕ) (ss : List PathStep)
    → (elim q [ None ↦ steps_from mark more bytes | Some next ↦ onto (step mark digits) (steps_from next [] bytes) ]) ≡ some ss
    → ((m : Bool) (ds : List ℕ) (ts : List PathStep) → steps_from m ds bytes ≡ some ts → AllByRecursion IsStep ts) → AllByRecursion IsStep ss
marked None mark digits more bytes ss h f = f mark more ss h
marked (Some next) mark digits more bytes ss h f = onto_all IsStep (step mark digits) (steps_from next [] bytes) ss h (step_is mark digits) (f next [])

steps_are : (bytes : List ℕ) (mark : Bool) (digits : List ℕ) (ss : List PathStep) → steps_from mark digits bytes ≡ some ss → AllByRecursion IsStep ss
steps_are [] mark digits ss h =
    onto_all IsStep (step mark digits) (some []) ss h (step_is mark digits) (λ ts e. subst (AllByRecursion IsStep) (some_is [] ts e) tt)
steps_are (b ∷ bytes) mark digits ss h = marked (step_mark b) mark digits (digits ++ b ∷ []) bytes ss h (steps_are bytes)

all_steps : (bytes : List ℕ) (ss : List PathStep) → steps bytes ≡ some ss → AllByRecursion IsStep ss
all_steps [] ss h = subst (AllByRecursion IsStep) (some_is [] ss h) tt
all_steps (b ∷ bytes) ss h =
    let c = came (step_mark b) (λ mark. steps_from mark [] bytes) ss h in
    steps_are bytes c.first [] ss c.then'

root_is : (t : Bool) (later : Option (List PathStep)) (ss : List PathStep) → (if t then later else None) ≡ some ss → later ≡ some ss
root_is true later ss h = h
root_is false later ss h = absurd (none_some ss h)

path_is : (word : List ℕ) (ss : List PathStep) → path word ≡ some ss → AllByRecursion IsStep ss
path_is [] ss h = absurd (none_some ss h)
path_is (b ∷ bytes) ss h = all_steps bytes ss (root_is (b == 114) (steps bytes) ss h)

-- ---- labels

parts_label : (parts : List (List ℕ)) (l : Label) → label_of parts ≡ some l → IsLabel l
parts_label [] l h = absurd (none_some l h)
parts_label (kind ∷ []) l h = absurd (none_some l h)
parts_label (kind ∷ party ∷ []) l h =
    let c = came (given (bytes_eq kind (codes "D")) party) (λ word. a_name word >>= λ p. some (Deposit p)) l h in
    let d = came (a_name c.first) (λ p. some (Deposit p)) l c.then' in
    subst IsLabel (some_is (Deposit d.first) l d.then') tt
parts_label (kind ∷ contract ∷ place ∷ []) l h = absurd (none_some l h)
parts_label (kind ∷ contract ∷ place ∷ party ∷ []) l h =
    let c = came (given (bytes_eq kind (codes "B")) contract) (λ word. small word >>= λ k. path place >>= λ q. a_name party >>= λ p. some (Branch k q p)) l h in
    let d = came (small c.first) (λ k. path place >>= λ q. a_name party >>= λ p. some (Branch k q p)) l c.then' in
    let e = came (path place) (λ q. a_name party >>= λ p. some (Branch d.first q p)) l d.then' in
    let f = came (a_name party) (λ p. some (Branch d.first e.first p)) l e.then' in
    subst IsLabel (some_is (Branch d.first e.first f.first) l f.then') (small_is c.first d.first d.is, path_is place e.first e.is)
parts_label (kind ∷ contract ∷ place ∷ party ∷ more ∷ rest) l h = absurd (none_some l h)

-- the numbers of the label that a word is
pub label_is : (word : List ℕ) (l : Label) → label word ≡ Some l → IsLabel l
label_is word l h = parts_label (parts_of (λ b. b == 58) word) l h
