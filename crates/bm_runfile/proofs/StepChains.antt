-- The steps of a path are read one by one.
use Rattle.std.proofs.Common.{◌≡◌, ℕ, suc, Bool, true, false, ◌==◌, List, [], ◌∷◌, ◌++◌, take, drop, Option, Some, None}
use Rattle.std.proofs.Common.{refl, sym, ap, ◌∙◌, append_assoc, append-nil}
use Rattle.spec_terms.specs.declared.path.PathStep.{PathStep}
use Rattle.spec_data.specs.Digits.{onto}
use Rattle.spec_text.specs.Words.{◌>>=◌, step_mark, step, steps_from, steps}
use Rattle.theory_text.proofs.Lines.PathsBack.{from_mark, from_elim, no_mark}
use Rattle.bm_runfile.proofs.Chains.{IsChain, joined}
use Rattle.bm_runfile.specs.Steps.{step_length, with_rest, step_at}

abbrev whole_step : Bool → List ℕ → List ℕ → Option (List PathStep)
whole_step mark digits bytes = onto (step mark (digits ++ take (step_length bytes) bytes)) (steps (drop (step_length bytes) bytes))

one_more : (b : ℕ) (bytes : List ℕ) → (b == 46) ≡ false → (b == 47) ≡ false → step_length (b ∷ bytes) ≡ suc (step_length bytes)
one_more b bytes e f = rw (e, f) refl

-- the next step begins here
marked : (next mark : Bool) (digits bytes : List ℕ) (b : ℕ) → step_mark b ≡ Some next → step_length (b ∷ bytes) ≡ 0
    → steps_from mark digits (b ∷ bytes) ≡ whole_step mark digits (b ∷ bytes)
marked next mark digits bytes b e n =
    from_elim (step_mark b) mark digits bytes b
    ∙ ap (λ o. from_mark o mark digits bytes b) e
    ∙ ap (onto (step mark digits)) (sym (ap (λ o. o >>= (λ m. steps_from m [] bytes)) e))
    ∙ ap (λ ds. onto (step mark ds) (steps (b ∷ bytes))) (sym (append-nil digits))
    ∙ sym (ap (λ k. onto (step mark (digits ++ take k (b ∷ bytes))) (steps (drop k (b ∷ bytes)))) n)

from_cons : (t u mark : Bool) (digits bytes : List ℕ) (b : ℕ) → (b == 46) ≡ t → (b == 47) ≡ u
    → steps_from mark (digits ++ b ∷ []) bytes ≡ whole_step mark (digits ++ b ∷ []) bytes
    → steps_from mark digits (b ∷ bytes) ≡ whole_step mark digits (b ∷ bytes)
from_cons true u mark digits bytes b e f h = marked true mark digits bytes b (rw e refl) (rw e refl)
from_cons false true mark digits bytes b e f h = marked false mark digits bytes b (rw (e, f) refl) (rw (e, f) refl)
from_cons false false mark digits bytes b e f h =
    from_elim (step_mark b) mark digits bytes b
    ∙ ap (λ o. from_mark o mark digits bytes b) (no_mark b e f)
    ∙ h
    ∙ ap (λ ds. onto (step mark ds) (steps (drop (step_length bytes) bytes)))
    (append_assoc digits (b ∷ []) (take (step_length bytes) bytes))
    ∙ sym (ap (λ k. onto (step mark (digits ++ take k (b ∷ bytes))) (steps (drop k (b ∷ bytes)))) (one_more b bytes e f))

-- a step goes on up to the next mark
from_is : (mark : Bool) (digits bytes : List ℕ) → steps_from mark digits bytes ≡ whole_step mark digits bytes
from_is mark digits [] = ap (λ ds. onto (step mark ds) (Some [])) (sym (append-nil digits))
from_is mark digits (b ∷ bytes) = from_cons (b == 46) (b == 47) mark digits bytes b refl refl (from_is mark (digits ++ b ∷ []) bytes)

then_rest : (o : Option PathStep) (rest : List ℕ) → onto o (steps rest) ≡ ((o >>= with_rest rest) >>= joined steps)
then_rest None rest = refl
then_rest (Some s) rest = refl

abbrev first_step : List ℕ → Bool → Option (PathStep × List ℕ)
first_step bytes mark = step mark (take (step_length bytes) bytes) >>= with_rest (drop (step_length bytes) bytes)

first_is : (o : Option Bool) (bytes : List ℕ) → (o >>= (λ mark. steps_from mark [] bytes)) ≡ ((o >>= first_step bytes) >>= joined steps)
first_is None bytes = refl
first_is (Some mark) bytes = from_is mark [] bytes ∙ then_rest (step mark (take (step_length bytes) bytes)) (drop (step_length bytes) bytes)

-- steps are read one by one
pub steps_chain : IsChain steps step_at
unfolding step_at
steps_chain = record { next = λ b bytes. first_is (step_mark b) bytes }
