-- What is authorised stays so through all steps, and what a list of authorisations adds.
use Rattle.std.proofs.Common.{◌≡◌, ℕ, List, [], ◌∷◌, ◌++◌, Bool, true, false, refl, sym, ◌∙◌, subst, inl, inr, cond}
use Rattle.std.specs.Prelude.{◌==◌, ◌&&◌}
use Rattle.std.specs.Str.{bytes_eq}
use Rattle.std.proofs.lemmas.Bool.{and_from, or_left, or_right, eq-eqb}
use Rattle.spec_terms.specs.Precondition.{Holding}
use Rattle.spec_calculus.specs.declared.parts.InitAuthorisation.{InitAuthorisation}
use Rattle.spec_calculus.specs.declared.parts.BranchAuthorisation.{BranchAuthorisation}
use Rattle.spec_calculus.specs.declared.step.Step.{Step}
use Rattle.spec_calculus.specs.declared.step.Step.TheVariants as steps
use Rattle.spec_calculus.specs.Configuration.{Configuration}
use Rattle.spec_calculus.specs.Beginning.{is_init_authorised}
use Rattle.spec_calculus.specs.Branches.{has_branch_authorised}
use Rattle.spec_calculus.specs.Steps.{with_init, with_branch, effect, after_steps}
use Rattle.spec_run.specs.Steps.{auth_inits}
use Rattle.theory_calculus.proofs.Names.{bytes_refl}
use Rattle.theory_calculus.specs.Members.{Is_in}
use Rattle.theory_world.proofs.Tests.{any-append}

-- ---- one authorisation

init_more : (given : List InitAuthorisation) (c : ℕ) (d : List ℕ) (k : ℕ) (x : List ℕ) → is_init_authorised given k x ≡ true
    → is_init_authorised (with_init given c d) k x ≡ true
init_more given c d k x h = by_test (is_init_authorised given c d)
  where
    by_test : (b : Bool) → is_init_authorised (cond b given (given ++ record { contract = c; deposit = d } ∷ [])) k x ≡ true
    by_test true = h
    by_test false =
        any-append (λ (a : InitAuthorisation). (a.contract == k) && bytes_eq a.deposit x) given (record { contract = c; deposit = d } ∷ []) ∙ or_left _ _ h

pub init_new : (given : List InitAuthorisation) (c : ℕ) (d : List ℕ) → is_init_authorised (with_init given c d) c d ≡ true
init_new given c d = by_test (is_init_authorised given c d) refl
  where
    by_test : (b : Bool) → is_init_authorised given c d ≡ b → is_init_authorised (cond b given (given ++ record { contract = c; deposit = d } ∷ [])) c d ≡ true
    by_test true e = e
    by_test false e = any-append (λ (a : InitAuthorisation). (a.contract == c) && bytes_eq a.deposit d) given
        (record { contract = c; deposit = d } ∷ []) ∙ or_right (is_init_authorised given c d) _ (or_left _ _ (and_from _ _ (eq-eqb c c refl) (bytes_refl d)))

branch_more : (given : List BranchAuthorisation) (p : List ℕ) (o j n i : ℕ) (a : List ℕ) → has_branch_authorised given n i a ≡ true
    → has_branch_authorised (with_branch given p o j) n i a ≡ true
branch_more given p o j n i a h = by_test (has_branch_authorised given o j p)
  where
    by_test : (b : Bool) → has_branch_authorised (cond b given (given ++ record { party = p; output = o; branch = j } ∷ [])) n i a ≡ true
    by_test true = h
    by_test false = any-append _ given (record { party = p; output = o; branch = j } ∷ []) ∙ or_left _ _ h

pub branch_new : (given : List BranchAuthorisation) (p : List ℕ) (o j : ℕ) → has_branch_authorised (with_branch given p o j) o j p ≡ true
branch_new given p o j = by_test (has_branch_authorised given o j p) refl
  where
    by_test : (b : Bool) → has_branch_authorised given o j p ≡ b
        → has_branch_authorised (cond b given (given ++ record { party = p; output = o; branch = j } ∷ [])) o j p ≡ true
    by_test true e = e
    by_test false e =
        let x = eq-eqb o o refl in
        let y = eq-eqb j j refl in
        let z = bytes_refl p in
        any-append _ given (record { party = p; output = o; branch = j } ∷ []) ∙ or_right (has_branch_authorised given o j p) _ (rw (x, y, z) refl)

-- ---- all steps

init_step : (step : Step) (g : Configuration) (k : ℕ) (x : List ℕ) → is_init_authorised g.init_authorised k x ≡ true
    → is_init_authorised (effect g step).init_authorised k x ≡ true
init_step (steps.Delay blocks) g k x h = h
init_step (steps.AuthMove party action) g k x h = h
init_step (steps.Move action) g k x h = h
init_step (steps.Advertise contract bindings) g k x h = h
init_step (steps.Commit contract party lengths) g k x h = h
init_step (steps.AuthInit contract party deposit) g k x h = init_more g.init_authorised contract deposit k x h
init_step (steps.Init contract) g k x h = h
init_step (steps.Reveal contract party secret) g k x h = h
init_step (steps.AuthBranch party output branch) g k x h = h
init_step (steps.PutReveal output branch) g k x h = h
init_step (steps.Withdraw output branch) g k x h = h
init_step (steps.Split output branch) g k x h = h

branch_step : (step : Step) (g : Configuration) (n i : ℕ) (a : List ℕ) → has_branch_authorised g.branch_authorised n i a ≡ true
    → has_branch_authorised (effect g step).branch_authorised n i a ≡ true
branch_step (steps.Delay blocks) g n i a h = h
branch_step (steps.AuthMove party action) g n i a h = h
branch_step (steps.Move action) g n i a h = h
branch_step (steps.Advertise contract bindings) g n i a h = h
branch_step (steps.Commit contract party lengths) g n i a h = h
branch_step (steps.AuthInit contract party deposit) g n i a h = h
branch_step (steps.Init contract) g n i a h = h
branch_step (steps.Reveal contract party secret) g n i a h = h
branch_step (steps.AuthBranch party output branch) g n i a h = branch_more g.branch_authorised party output branch n i a h
branch_step (steps.PutReveal output branch) g n i a h = h
branch_step (steps.Withdraw output branch) g n i a h = h
branch_step (steps.Split output branch) g n i a h = h

pub inits_stay : (xs : List Step) (g : Configuration) (k : ℕ) (x : List ℕ) → is_init_authorised g.init_authorised k x ≡ true
    → is_init_authorised (after_steps g xs).init_authorised k x ≡ true
inits_stay [] g k x h = h
inits_stay (step ∷ xs) g k x h = inits_stay xs (effect g step) k x (init_step step g k x h)

pub asked_stay : (xs : List Step) (g : Configuration) (n i : ℕ) (a : List ℕ) → has_branch_authorised g.branch_authorised n i a ≡ true
    → has_branch_authorised (after_steps g xs).branch_authorised n i a ≡ true
asked_stay [] g n i a h = h
asked_stay (step ∷ xs) g n i a h = asked_stay xs (effect g step) n i a (branch_step step g n i a h)

-- each deposit of the list is authorised after its steps
pub auth_inits_new : (k : ℕ) (ds : List (List ℕ × Holding)) (g : Configuration) (e : List ℕ × Holding) → Is_in e ds
    → is_init_authorised (after_steps g (auth_inits k ds)).init_authorised k (e.0) ≡ true
auth_inits_new k [] g e h = absurd h
auth_inits_new k (d ∷ ds) g e (inl q) =
    inits_stay (auth_inits k ds) (effect g (steps.AuthInit k (d.1).owner (d.0))) k (e.0)
    (subst (λ (y : List ℕ × Holding). is_init_authorised (with_init g.init_authorised k (d.0)) k (y.0) ≡ true) (sym q) (init_new g.init_authorised k (d.0)))
auth_inits_new k (d ∷ ds) g e (inr i) = auth_inits_new k ds (effect g (steps.AuthInit k (d.1).owner (d.0))) e i
