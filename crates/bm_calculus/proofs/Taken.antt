-- The expressions of a branch that may be taken are bounded: its contract has passed the check, and the branch stands in it.
use Rattle.std.proofs.Common.{◌≡◌, ℕ, true, Some, sym, ap, ◌∙◌, subst}
use Rattle.std.specs.Prelude.{is_some}
use Rattle.std.proofs.lemmas.Bool.{not-false}
use Rattle.spec_terms.specs.Advert.{Advert}
use Rattle.spec_terms.specs.Balance.{all_funded}
use Rattle.spec_terms.specs.Bound.{is_bounded}
use Rattle.spec_terms.specs.Core.{core, test_of}
use Rattle.spec_terms.specs.Faults.{at_core, is_unbounded, exceeded}
use Rattle.spec_terms.specs.Term.{Guarded}
use Rattle.spec_calculus.specs.declared.parts.ActiveContract.{ActiveContract}
use Rattle.spec_calculus.specs.Configuration.{Configuration}
use Rattle.spec_calculus.specs.Beginning.{contract_at}
use Rattle.spec_calculus.specs.Branches.{active_at, branch_in, branch_of}
use Rattle.spec_calculus.specs.Steps.{branch_at, opening}
use Rattle.theory_calculus.proofs.Runs.{kept_along}
use Rattle.theory_calculus.proofs.Stands.{none_at}
use Rattle.theory_calculus.proofs.Faultless.{none_found}
use Rattle.theory_calculus.proofs.Funded.{IsFine}
use Rattle.theory_calculus.proofs.Standing.{taken_by}
use Rattle.theory_calculus.proofs.Kept.{fine_after, opening_fine}
use Rattle.bm_calculus.specs.Reached.{IsReached}

reached_fine : (g : Configuration) → IsReached g → IsFine g
reached_fine g r =
    kept_along IsFine (λ c s e f. fine_after c f s e) (opening r.parties r.honest r.deposits r.contracts) r.steps g r.legal
    (opening_fine r.parties r.honest r.deposits r.contracts r.checked)

pub bounded_branch : (g : Configuration) (output i : ℕ) (b : Guarded) → IsFine g → is_some (active_at g.active output) ≡ true
    → branch_at g output i ≡ Some b → is_bounded (test_of (core b)) ≡ true
bounded_branch g output i b fine h e =
    let t = taken_by g fine output i h (ap is_some e) in
    let n = (none_found (exceeded t.held.advert) t.well.limited).1.1.0 in
    let u = none_at (λ y. at_core is_unbounded y.subterm) (all_funded t.held.advert) _ n t.static in
    let q = sym t.taken ∙ e in
    let same : t.branch ≡ b = cc in
    subst (λ x. is_bounded (test_of (core x)) ≡ true) same (not-false _ u)

pub bounded_taken : (g : Configuration) (output i : ℕ) (a : ActiveContract) (advert : Advert) (b : Guarded) → IsReached g
    → Some a ≡ active_at g.active output → Some advert ≡ contract_at g.contracts a.contract → Some b ≡ branch_in (Some advert) a.position i
    → is_bounded (test_of (core b)) ≡ true
bounded_taken g output i a advert b r ea ec eb =
    let e : branch_at g output i ≡ Some b =
    ap (λ o. branch_of g.contracts o i) (sym ea) ∙ ap (λ o. branch_in o a.position i) (sym ec) ∙ sym eb in
    bounded_branch g output i b (reached_fine g r) (ap is_some (sym ea)) e
