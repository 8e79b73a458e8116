-- What a branch makes, by what is shown of its active contract.
use Rattle.std.proofs.Common.{◌≡◌, ℕ, List, [], ◌∷◌, ◌++◌, Option, Some, None, refl, sym, ap, ◌∙◌}
use Rattle.std.proofs.lemmas.Option.{same_Some}
use Rattle.spec_terms.specs.Advert.{Advert}
use Rattle.spec_terms.specs.Term.{Guarded}
use Rattle.spec_terms.specs.declared.path.PathStep.{PathStep}
use Rattle.spec_terms.specs.declared.path.PathStep.TheVariants.{Branch as To}
use Rattle.spec_calculus.specs.declared.parts.ActiveContract.{ActiveContract}
use Rattle.spec_calculus.specs.Beginning.{contract_at, fee_of}
use Rattle.spec_calculus.specs.Branches.{branch_of, branch_in}
use Rattle.spec_calculus.specs.Configuration.{Configuration}
use Rattle.spec_next.specs.Leads.{lead_by, lead_with}
use Rattle.bm_calculus.specs.Answers.{parts_of}

abbrev Shown : Type 0
Shown = ℕ × List PathStep × ℕ

-- no active contract
pub none_led : (g : Configuration) (i : ℕ) (o : Option ActiveContract) → parts_of o ≡ None → lead_by g i o (branch_of g.contracts o i) ≡ None
none_led g i None h = refl
none_led g i (Some a) h = cc

-- no contract
pub no_contract_led : (g : Configuration) (i : ℕ) (o : Option ActiveContract) (p : Shown) → parts_of o ≡ Some p
    → contract_at g.contracts (p.0) ≡ None → lead_by g i o (branch_of g.contracts o i) ≡ None
no_contract_led g i None p h c = cc
no_contract_led g i (Some a) p h c =
    let q = same_Some (a.contract, a.position, a.balance) p h in
    ap (λ (x : Option Advert). lead_by g i (Some a) (branch_in x a.position i)) (ap (λ (y : Shown). contract_at g.contracts (y.0)) q ∙ c)

module _ (g : Configuration) (i : ℕ) (advert : Advert) where
  -- no branch
  pub no_branch_led : (o : Option ActiveContract) (p : Shown) → parts_of o ≡ Some p → contract_at g.contracts (p.0) ≡ Some advert
      → branch_in (Some advert) (p.1) i ≡ None → lead_by g i o (branch_of g.contracts o i) ≡ None
  no_branch_led None p h c b = cc
  no_branch_led (Some a) p h c b =
      let q = same_Some (a.contract, a.position, a.balance) p h in
      let taken : branch_of g.contracts (Some a) i ≡ None =
      ap (λ (y : Shown). branch_in (contract_at g.contracts (y.0)) (y.1) i) q ∙ ap (λ x. branch_in x (p.1) i) c ∙ b in
      ap (λ (x : Option Guarded). lead_by g i (Some a) x) taken

  -- the branch is there
  pub branch_led : (b : Guarded) (o : Option ActiveContract) (p : Shown) → parts_of o ≡ Some p → contract_at g.contracts (p.0) ≡ Some advert
      → branch_in (Some advert) (p.1) i ≡ Some b
      → Some (lead_with g (p.0) (p.1 ++ To i ∷ []) (p.2) advert.fee b) ≡ lead_by g i o (branch_of g.contracts o i)
  branch_led b None p h c e = cc
  branch_led b (Some a) p h c e =
      let q = same_Some (a.contract, a.position, a.balance) p h in
      let at : contract_at g.contracts a.contract ≡ Some advert = ap (λ (y : Shown). contract_at g.contracts (y.0)) q ∙ c in
      let taken : branch_of g.contracts (Some a) i ≡ Some b =
      ap (λ (y : Shown). branch_in (contract_at g.contracts (y.0)) (y.1) i) q ∙ ap (λ x. branch_in x (p.1) i) c ∙ e in
      ap (λ (y : Shown). Some (lead_with g (y.0) (y.1 ++ To i ∷ []) (y.2) advert.fee b)) (sym q)
      ∙ ap (λ (x : Option Advert). Some (lead_with g a.contract (a.position ++ To i ∷ []) a.balance (fee_of x) b)) (sym at)
      ∙ ap (λ (x : Option Guarded). lead_by g i (Some a) x) (sym taken)
