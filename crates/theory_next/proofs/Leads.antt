-- What a branch makes.
use Rattle.std.proofs.Common.{◌≡◌, ℕ, ◌+◌, List, [], ◌∷◌, ◌++◌, true, Some, refl, sym, ap, subst, ◌∙◌}
use Rattle.spec_terms.specs.Core.{core, puts_of}
use Rattle.spec_terms.specs.Term.{Guarded, auth, after, put_reveal, withdraw, split}
use Rattle.spec_terms.specs.declared.path.PathStep.{PathStep}
use Rattle.spec_terms.specs.declared.path.PathStep.TheVariants.{Branch as To, Part as Into}
use Rattle.spec_calculus.specs.declared.parts.ActiveContract.{ActiveContract}
use Rattle.spec_calculus.specs.declared.parts.Deposit.{Deposit}
use Rattle.spec_calculus.specs.Configuration.{Configuration}
use Rattle.spec_calculus.specs.Beginning.{bindings_of, fee_of, numbers_of}
use Rattle.spec_calculus.specs.Branches.{active_at, advert_of, contract_number, others, is_put_core, is_split_core, part_values, parts_made, payee_in, payee_of}
use Rattle.spec_calculus.specs.Branches.{puts_of_taken, values_in, values_of}
use Rattle.spec_calculus.specs.Steps.{branch_at, continued, withdrawn, divided}
use Rattle.spec_next.specs.declared.lead.Made.{Made}
use Rattle.spec_next.specs.Leads.{parts_led, made_by, lead_of, lead_by}
use Rattle.theory_next.specs.Leads.{deposits_made, actives_made, LeadIsMeant, LeadsAreEffects}

parts_are : (n k j : ℕ) (path : List PathStep) (values : List ℕ) → parts_made n k path j values ≡ actives_made k n (parts_led path j values)
parts_are n k j path [] = refl
parts_are n k j path (value ∷ values) =
    let first : ActiveContract = record { number = n; contract = k; position = path ++ Into j ∷ []; balance = value } in
    ap (λ (xs : List ActiveContract). first ∷ xs) (parts_are (n + 1) k (j + 1) path values)

module _ (g : Configuration) (n i : ℕ) (a : ActiveContract) (b : Guarded) (here : active_at g.active n ≡ Some a) (taken : branch_at g n i ≡ Some b) where
  abbrev path : List PathStep
  path = a.position ++ To i ∷ []

  -- what a core makes
  abbrev outputs : Guarded → List Made
  outputs c = made_by g a.contract path a.balance (fee_of (advert_of g.contracts (Some a))) c

  abbrev put : Guarded → List ActiveContract
  put c = (continued g n i (Some a) (numbers_of (bindings_of g.advertised a.contract) (puts_of c))).active

  abbrev parted : Guarded → List ActiveContract
  parted c = (divided g n i (Some a) (values_in c)).active

  abbrev withdraws : Guarded → List Deposit
  withdraws c = (withdrawn g n (Some a) (payee_in c)).deposits

  paid : (party : List ℕ) → core b ≡ withdraw party → withdraws (core b) ≡ g.deposits ++ deposits_made g.next (outputs (core b))
  paid party q = subst (λ c. withdraws c ≡ g.deposits ++ deposits_made g.next (outputs c)) (sym q) refl

  go : (c : Guarded) → is_put_core c ≡ true → put c ≡ others g.active n ++ actives_made a.contract g.next (outputs c)
  go (put_reveal puts reveals test next) h = refl
  go (auth party body) h = cc
  go (after height body) h = cc
  go (withdraw party) h = cc
  go (split parts) h = cc

  part : (c : Guarded) → is_split_core c ≡ true → parted c ≡ others g.active n ++ actives_made a.contract g.next (outputs c)
  part (split parts) h =
      ap (λ (xs : List ActiveContract). others g.active n ++ xs) (parts_are g.next a.contract 0 path (part_values parts))
  part (put_reveal puts reveals test next) h = cc
  part (auth party body) h = cc
  part (after height body) h = cc
  part (withdraw party) h = cc

  pub lead_is_meant : LeadIsMeant g n i a b
  lead_is_meant = record {
    lead = lead_of g i a b;
    there = ap (λ o. lead_by g i o (branch_at g n i)) here ∙ ap (λ x. lead_by g i (Some a) x) taken;
    pays = λ party q.
        ap (λ o. (withdrawn g n o (payee_of (branch_at g n i))).deposits) here
        ∙ ap (λ x. (withdrawn g n (Some a) (payee_of x)).deposits) taken
        ∙ paid party q;
    goes_on = λ h.
        ap (λ o. (continued g n i o (numbers_of (bindings_of g.advertised (contract_number o)) (puts_of_taken (branch_at g n i)))).active) here
        ∙ ap (λ x. (continued g n i (Some a) (numbers_of (bindings_of g.advertised a.contract) (puts_of_taken x))).active) taken
        ∙ go (core b) h;
    parts = λ h.
        ap (λ o. (divided g n i o (values_of (branch_at g n i))).active) here
        ∙ ap (λ x. (divided g n i (Some a) (values_of x)).active) taken
        ∙ part (core b) h;
  }

pub leads_are_effects : LeadsAreEffects
leads_are_effects g n i a b here taken = lead_is_meant g n i a b here taken
