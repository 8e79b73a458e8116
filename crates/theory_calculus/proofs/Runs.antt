-- Legal runs, and what each of their steps keeps.
use Rattle.std.proofs.Common.{◌≡◌, List, [], ◌∷◌, refl, sym, ap, ◌∙◌, subst}
use Rattle.spec_calculus.specs.declared.step.Step.{Step}
use Rattle.spec_calculus.specs.Configuration.{Configuration}
use Rattle.spec_calculus.specs.Steps.{fails, effect, after_steps, Legal, IsLegalRun}
use Rattle.theory_calculus.specs.Numbered.{LegalRunsAreOne}

run_legal : (g : Configuration) (ss : List Step) (h : Configuration) → IsLegalRun g ss h → Legal g ss × (h ≡ after_steps g ss)
run_legal g [] h r = (tt, r)
run_legal g (s ∷ ss) h r =
    let k = run_legal r.0 ss h r.2 in
    let e = r.1.leads in
    ((r.1.enabled, subst (λ c. Legal c ss) e k.0), k.1 ∙ ap (λ c. after_steps c ss) e)

legal_run : (g : Configuration) (ss : List Step) (h : Configuration) → Legal g ss → h ≡ after_steps g ss → IsLegalRun g ss h
legal_run g [] h l e = e
legal_run g (s ∷ ss) h l e = (effect g s, record { enabled = l.0; leads = refl }, legal_run (effect g s) ss h l.1 e)

pub runs_are_one : LegalRunsAreOne
runs_are_one g ss h = (run_legal g ss h, λ p. legal_run g ss h p.0 p.1)

-- what holds at first and is kept by each step holds at last
pub kept_along : (P : Configuration → Type 0) → ((g : Configuration) (s : Step) → fails g s ≡ 0 → P g → P (effect g s))
    → (g : Configuration) (ss : List Step) (h : Configuration) → IsLegalRun g ss h → P g → P h
kept_along P keeps g [] h r p = subst P (sym r) p
kept_along P keeps g (s ∷ ss) h r p = kept_along P keeps r.0 ss h r.2 (subst P (sym r.1.leads) (keeps g s r.1.enabled p))
