-- Steps and paths at the front of a text.
use Rattle.std.proofs.Common.{◌≡◌, ℕ, ◌<◌, ◌^◌, List, [], ◌∷◌, ◌++◌, Bool, true, false, Some, None, refl, sym, ap, subst, ◌∙◌, arith}
use Rattle.std.specs.Prelude.{◌==◌, if◌then◌else◌}
use Rattle.std.specs.Fmt.{decimal}
use Rattle.std.specs.List.{AllByRecursion}
use Rattle.std.proofs.lemmas.Bool.Decides.{nat_tests}
use Rattle.spec_terms.specs.declared.path.PathStep.{PathStep}
use Rattle.spec_terms.specs.declared.path.PathStep.TheVariants.{Branch as To, Part as Into}
use Rattle.spec_bitcoin.specs.Keys.{step_text, IsStep}
use Rattle.spec_bitcoin.proofs.StepLemmas.{heads, tails, mark, number, step_is, number_fits, two_steps}
use Rattle.spec_bitcoin.proofs.StepLemmas.{steps-cons, step_ends, path_ends, colon_no_step}
use Rattle.bm_keys.specs.Pieces.{Ends, NoStart, IsNumberAt, NoNumberAt, step_of, IsStepAt, NoStepAt, steps_before, IsPathAt, NoPathAt}

-- ---- a step by its mark and number

of_mark : (step : PathStep) (n : ℕ) → step_of (mark step) n ≡ None → ⊥
of_mark (To i) n e = cc
of_mark (Into k) n e = cc

-- the step that a mark and a number give
step_of-some : (s t : Bool) (m n : ℕ) (step : PathStep) → (m == 46) ≡ s → (m == 47) ≡ t → n < 2 ^ 32
    → (if s then Some (To n) else if t then Some (Into n) else None) ≡ Some step → IsStep step × (step_text step ≡ m ∷ decimal n)
step_of-some true t m n step e f h k =
    let is : To n ≡ step = cc in
    let same : m ≡ 46 = grind (arith, nat_tests) in
    (subst IsStep is h, sym (ap step_text is) ∙ ap (λ b. b ∷ decimal n) (sym same))
step_of-some false true m n step e f h k =
    let is : Into n ≡ step = cc in
    let same : m ≡ 47 = grind (arith, nat_tests) in
    (subst IsStep is h, sym (ap step_text is) ∙ ap (λ b. b ∷ decimal n) (sym same))
step_of-some false false m n step e f h k = cc

pub step_found : (text after rest : List ℕ) (m n : ℕ) (step : PathStep) → text ≡ m ∷ after → IsNumberAt after n rest → step_of m n
    ≡ Some step → IsStepAt text step rest
step_found text after rest m n step e h k =
    let s = step_of-some (m == 46) (m == 47) m n step refl refl h.fits k in
    record { fits = s.0; same = e ∙ ap (λ l. m ∷ l) h.same ∙ ap (λ l. l ++ rest) (sym s.1); ends = h.ends }

-- the number behind the mark
behind_mark : (text after rest : List ℕ) (m : ℕ) (step : PathStep) → text ≡ m ∷ after → IsStepAt text step rest → (m ≡ mark step)
    × IsNumberAt after (number step) rest
behind_mark text after rest m step e h =
    let whole : m ∷ after ≡ mark step ∷ (decimal (number step) ++ rest) = sym e ∙ h.same ∙ step_is step rest in (
      heads m (mark step) after (decimal (number step) ++ rest) whole,
      record { fits = number_fits step h.fits; same = tails m (mark step) after (decimal (number step) ++ rest) whole; ends = h.ends },
    )

pub step_of_nothing : (text : List ℕ) → text ≡ [] → NoStepAt text
step_of_nothing text e step rest h = let whole : [] ≡ mark step ∷ (decimal (number step) ++ rest) = sym e ∙ h.same ∙ step_is step rest in cc

pub step_without_number : (text after : List ℕ) (m : ℕ) → text ≡ m ∷ after → NoNumberAt after → NoStepAt text
step_without_number text after m e none step rest h = none (number step) rest (behind_mark text after rest m step e h).1

pub step_without_mark : (text after : List ℕ) (m n : ℕ) → text ≡ m ∷ after → step_of m n ≡ None → NoStepAt text
step_without_mark text after m n e none step rest h =
    of_mark step n (subst (λ k. step_of k n ≡ None) (behind_mark text after rest m step e h).0 none)

-- ---- paths

-- after some steps, where no digit follows the last of them
abbrev pub HasEnded : List PathStep → List ℕ → Type 0
HasEnded [] rest = Unit {0}
HasEnded (s ∷ []) rest = Ends rest
HasEnded (s ∷ (t ∷ steps)) rest = HasEnded (t ∷ steps) rest

-- a step at the front of steps that are read
first_at : (s : PathStep) (steps : List PathStep) (rest : List ℕ) → IsStep s → HasEnded (s ∷ steps) rest
    → IsStepAt (steps_before (s ∷ steps) rest) s (steps_before steps rest)
first_at s [] rest fits ended = record { fits = fits; same = steps-cons s [] rest; ends = ended }
first_at s (t ∷ steps) rest fits ended =
    record { fits = fits; same = steps-cons s (t ∷ steps) rest; ends = subst Ends (sym (steps-cons t steps rest)) (step_ends t (steps_before steps rest)) }

path_first : (s : PathStep) (path : List PathStep) (y : List ℕ) → IsStep s → IsStepAt (steps_before (s ∷ path) (58 ∷ y)) s (steps_before path (58 ∷ y))
path_first s path y fits = record { fits = fits; same = steps-cons s path (58 ∷ y); ends = path_ends path y }

ended_behind : (s : PathStep) (steps : List PathStep) (rest : List ℕ) → HasEnded (s ∷ steps) rest → HasEnded steps rest
ended_behind s [] rest h = tt
ended_behind s (t ∷ steps) rest h = h

-- what is left after some steps is the rest of the path
left_path : (steps path : List PathStep) (rest y : List ℕ) → AllByRecursion IsStep steps → HasEnded steps rest → AllByRecursion IsStep path
    → steps_before steps rest ≡ steps_before path (58 ∷ y)
    → NoPathAt rest → ⊥
left_path [] path rest y all ended fits e none = none path y (record { fits = fits; same = e })
left_path (s ∷ steps) [] rest y all ended fits e none = colon_no_step s y (steps_before steps rest) (sym e ∙ steps-cons s steps rest)
left_path (s ∷ steps) (t ∷ path) rest y all ended fits e none =
    let a = first_at s steps rest all.0 ended in
    let b = subst (λ x. IsStepAt x t (steps_before path (58 ∷ y))) (sym e) (path_first t path y fits.0) in
    let one = two_steps s t _ _ a.fits b.fits a.ends b.ends (sym a.same ∙ b.same) in
    left_path steps path rest y all.1 (ended_behind s steps rest ended) fits.1 one.1 none

-- ---- the steps that were read so far

pub record AreRead (text : List ℕ) (steps : List PathStep) (rest : List ℕ) : Type 0 where
  pub fits : AllByRecursion IsStep steps
  pub same : text ≡ steps_before steps rest
  pub ended : HasEnded steps rest

pub none_read : (text : List ℕ) → AreRead text [] text
none_read text = record { fits = tt; same = refl; ended = tt }

ended_push : (steps : List PathStep) (s : PathStep) (rest : List ℕ) → Ends rest → HasEnded (steps ++ s ∷ []) rest
ended_push [] s rest h = h
ended_push (t ∷ []) s rest h = h
ended_push (t ∷ (u ∷ steps)) s rest h = ended_push (u ∷ steps) s rest h

fits_push : (steps : List PathStep) (s : PathStep) → AllByRecursion IsStep steps → IsStep s → AllByRecursion IsStep (steps ++ s ∷ [])
fits_push [] s all h = (h, tt)
fits_push (t ∷ steps) s all h = (all.0, fits_push steps s all.1 h)

before_push : (steps : List PathStep) (s : PathStep) (x : List ℕ) → steps_before (steps ++ s ∷ []) x ≡ steps_before steps (step_text s ++ x)
before_push [] s x = steps-cons s [] x
before_push (t ∷ steps) s x =
    steps-cons t (steps ++ s ∷ []) x ∙ ap (λ l. step_text t ++ l) (before_push steps s x) ∙ sym (steps-cons t steps (step_text s ++ x))

pub one_more : (text rest after : List ℕ) (steps next : List PathStep) (s : PathStep) → AreRead text steps rest → IsStepAt rest s after
    → next ≡ steps ++ s ∷ [] → AreRead text next after
one_more text rest after steps next s h k e =
    subst (λ l. AreRead text l after) (sym e)
    (record {
      fits = fits_push steps s h.fits k.fits;
      same = h.same ∙ ap (steps_before steps) k.same
          ∙ sym (before_push steps s after);
      ended = ended_push steps s after k.ends;
    })

pub path_read : (text rest after : List ℕ) (steps path : List PathStep) → AreRead text steps rest → rest ≡ 58 ∷ after → path ≡ steps → IsPathAt text path after
path_read text rest after steps path h e p = subst (λ l. IsPathAt text l after) (sym p) (record { fits = h.fits; same = h.same ∙ ap (steps_before steps) e })

stuck : (rest : List ℕ) → NoStart 58 rest → NoStepAt rest → NoPathAt rest
stuck rest no_colon no_step [] y h = no_colon y h.same
stuck rest no_colon no_step (t ∷ path) y h =
    no_step t (steps_before path (58 ∷ y)) (record { fits = h.fits.0; same = h.same ∙ steps-cons t path (58 ∷ y); ends = path_ends path y })

pub no_path : (text rest : List ℕ) (steps : List PathStep) → AreRead text steps rest → NoStart 58 rest → NoStepAt rest → NoPathAt text
no_path text rest steps h no_colon no_step path y k =
    left_path steps path rest y h.fits h.ended k.fits (sym h.same ∙ k.same) (stuck rest no_colon no_step)
