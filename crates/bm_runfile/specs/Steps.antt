-- The steps of a path, one by one.
use Rattle.std.specs.Prelude.{ℕ, List, [], ◌∷◌, suc, take, drop, if◌then◌else◌, Bool, not, ◌&&◌, ◌==◌, Option, Some, None}
use Rattle.spec_terms.specs.declared.path.PathStep.{PathStep}
use Rattle.spec_text.specs.Words.{◌>>=◌, step_mark, step}

-- whether a byte stands in a step
abbrev pub goes_on : ℕ → Bool
goes_on b = not (b == 46) && not (b == 47)

-- how many bytes stand before the next step
abbrev pub step_length : List ℕ → ℕ
step_length [] = 0
step_length (b ∷ bytes) = if goes_on b then suc (step_length bytes) else 0

abbrev pub with_rest : List ℕ → PathStep → Option (PathStep × List ℕ)
with_rest rest s = Some (s, rest)

-- the step at the front, and what follows it
unfoldable pub step_at : List ℕ → Option (PathStep × List ℕ)
step_at [] = None
step_at (b ∷ bytes) = step_mark b >>= λ mark. step mark (take (step_length bytes) bytes) >>= with_rest (drop (step_length bytes) bytes)
