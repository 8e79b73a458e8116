-- What parties do, of those who may.
use Rattle.std.specs.Prelude.{ℕ, List, map, filter, not, Bool, codes}
use Rattle.spec_terms.specs.Precondition.{persistent}
use Rattle.spec_terms.specs.Term.{Guarded}
use Rattle.spec_terms.specs.declared.pre.Pre.{Pre}
use Rattle.spec_calculus.specs.Configuration.{Configuration}
use Rattle.spec_run.specs.Steps.{is_awaited}
use Rattle.spec_next.specs.Candidates.{has_started}
use Rattle.spec_page.specs.EventWords.{does_text}
use Rattle.spec_page.specs.Moments.{Move}
use Rattle.spec_page.specs.Outlooks.{agree_text}

-- those with a deposit left to sign
abbrev pub signing : Bool → Configuration → ℕ → List Pre → List (List ℕ) → List (List ℕ)
signing several g k pre people =
    map (λ p. does_text several k p (codes " signs")) (filter (λ p. not (has_started g k (persistent pre) p)) people)

-- those for whom a branch waits
abbrev pub agreeing : Bool → Configuration → ℕ → ℕ → Guarded → Move → List (List ℕ) → List (List ℕ)
agreeing several g n i b x people = map (agree_text several x) (filter (is_awaited g n i b) people)
