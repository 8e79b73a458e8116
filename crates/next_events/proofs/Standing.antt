-- The branches of an active contract, by what is shown of it.
use Rattle.std.proofs.Common.{◌≡◌, ℕ, List, [], Option, Some, None, refl, sym, ap, ◌∙◌}
use Rattle.std.proofs.lemmas.Option.{same_Some}
use Rattle.spec_terms.specs.Advert.{Advert}
use Rattle.spec_terms.specs.Core.{core}
use Rattle.spec_terms.specs.Term.{Guarded}
use Rattle.spec_terms.specs.declared.path.PathStep.{PathStep}
use Rattle.spec_calculus.specs.declared.parts.ActiveContract.{ActiveContract}
use Rattle.spec_calculus.specs.Beginning.{contract_at, pre_of}
use Rattle.spec_calculus.specs.Branches.{branch_of, branch_in}
use Rattle.spec_calculus.specs.Configuration.{Configuration}
use Rattle.spec_next.specs.Requirements.{unmet, asked_for, asked_by_branch, undecided_or_true}
use Rattle.bm_calculus.specs.Answers.{parts_of}
use Rattle.bm_calculus.specs.Undecided.{may_hold_at}

abbrev Shown : Type 0
Shown = ℕ × List PathStep × ℕ

-- no active contract
pub none_active : (honest : List (List ℕ)) (g : Configuration) (n i : ℕ) (o : Option ActiveContract) → parts_of o ≡ None
    → unmet (asked_by_branch honest g n i o (branch_of g.contracts o i)) ≡ []
none_active honest g n i None h = refl
none_active honest g n i (Some a) h = cc

-- no contract
pub no_contract : (honest : List (List ℕ)) (g : Configuration) (n i : ℕ) (o : Option ActiveContract) (p : Shown) → parts_of o ≡ Some p
    → contract_at g.contracts (p.0) ≡ None → unmet (asked_by_branch honest g n i o (branch_of g.contracts o i)) ≡ []
no_contract honest g n i None p h c = cc
no_contract honest g n i (Some a) p h c =
    let q = same_Some (a.contract, a.position, a.balance) p h in
    ap (λ (x : Option Advert). unmet (asked_by_branch honest g n i (Some a) (branch_in x a.position i)))
    (ap (λ (y : Shown). contract_at g.contracts (y.0)) q ∙ c)

module _ (honest : List (List ℕ)) (g : Configuration) (n i : ℕ) (advert : Advert) where
  -- no branch
  pub no_branch : (o : Option ActiveContract) (p : Shown) → parts_of o ≡ Some p → contract_at g.contracts (p.0) ≡ Some advert
      → branch_in (Some advert) (p.1) i ≡ None → unmet (asked_by_branch honest g n i o (branch_of g.contracts o i)) ≡ []
  no_branch None p h c b = cc
  no_branch (Some a) p h c b =
      let q = same_Some (a.contract, a.position, a.balance) p h in
      ap (λ (x : Option Guarded). unmet (asked_by_branch honest g n i (Some a) x)) (taken a p q c ∙ b)
    where
      taken : (a : ActiveContract) (p : Shown) → (a.contract, a.position, a.balance) ≡ p → contract_at g.contracts (p.0) ≡ Some advert
          → branch_of g.contracts (Some a) i ≡ branch_in (Some advert) (p.1) i
      taken a p q c =
          ap (λ (y : Shown). branch_in (contract_at g.contracts (y.0)) (y.1) i) q ∙ ap (λ x. branch_in x (p.1) i) c

  module _ (b : Guarded) where
    -- the branch is there
    pub branch_there : (o : Option ActiveContract) (p : Shown) → parts_of o ≡ Some p → contract_at g.contracts (p.0) ≡ Some advert
        → branch_in (Some advert) (p.1) i ≡ Some b
        → asked_for honest g n i (p.0) advert.pre b ≡ asked_by_branch honest g n i o (branch_of g.contracts o i)
    branch_there None p h c e = cc
    branch_there (Some a) p h c e =
        let q = same_Some (a.contract, a.position, a.balance) p h in
        let at : contract_at g.contracts a.contract ≡ Some advert = ap (λ (y : Shown). contract_at g.contracts (y.0)) q ∙ c in
        let taken : branch_of g.contracts (Some a) i ≡ Some b =
        ap (λ (y : Shown). branch_in (contract_at g.contracts (y.0)) (y.1) i) q ∙ ap (λ x. branch_in x (p.1) i) c ∙ e in
        ap (λ (y : Shown). asked_for honest g n i (y.0) advert.pre b) (sym q)
        ∙ ap (λ (x : Option Advert). asked_for honest g n i a.contract (pre_of x) b) (sym at)
        ∙ ap (λ (x : Option Guarded). asked_by_branch honest g n i (Some a) x) (sym taken)

    -- whether its predicate may hold
    pub held_there : (o : Option ActiveContract) (p : Shown) → parts_of o ≡ Some p → contract_at g.contracts (p.0) ≡ Some advert
        → branch_in (Some advert) (p.1) i ≡ Some b
        → may_hold_at g o (branch_of g.contracts o i) ≡ undecided_or_true g (p.0) advert.pre (core b)
    held_there None p h c e = cc
    held_there (Some a) p h c e =
        let q = same_Some (a.contract, a.position, a.balance) p h in
        let at : contract_at g.contracts a.contract ≡ Some advert = ap (λ (y : Shown). contract_at g.contracts (y.0)) q ∙ c in
        let taken : branch_of g.contracts (Some a) i ≡ Some b =
        ap (λ (y : Shown). branch_in (contract_at g.contracts (y.0)) (y.1) i) q ∙ ap (λ x. branch_in x (p.1) i) c ∙ e in
        ap (λ (x : Option Guarded). may_hold_at g (Some a) x) taken
        ∙ ap (λ (x : Option Advert). undecided_or_true g a.contract (pre_of x) (core b)) at
        ∙ ap (λ (y : Shown). undecided_or_true g (y.0) advert.pre (core b)) q
