-- What is claimed of what a branch makes: it is what its step makes in the calculus.
use Rattle.std.specs.Prelude.{◌≡◌, ℕ, ◌+◌, List, [], ◌∷◌, ◌++◌, true, Some}
use Rattle.spec_terms.specs.Core.{core}
use Rattle.spec_terms.specs.Term.{Guarded, withdraw}
use Rattle.spec_calculus.specs.declared.parts.ActiveContract.{ActiveContract}
use Rattle.spec_calculus.specs.declared.parts.Deposit.{Deposit}
use Rattle.spec_calculus.specs.declared.step.Owner.TheVariants.{Party}
use Rattle.spec_calculus.specs.declared.step.Step.TheVariants as steps
use Rattle.spec_calculus.specs.Configuration.{Configuration}
use Rattle.spec_calculus.specs.Branches.{active_at, others, is_put_core, is_split_core}
use Rattle.spec_calculus.specs.Steps.{branch_at, effect}
use Rattle.spec_next.specs.declared.lead.Lead.{Lead}
use Rattle.spec_next.specs.declared.lead.Made.{Made}
use Rattle.spec_next.specs.declared.lead.Made.TheVariants as makes
use Rattle.spec_next.specs.Leads.{lead_at}

-- the deposits among these outputs, which are named from n on
abbrev pub deposits_made : ℕ → List Made → List Deposit
deposits_made n [] = []
deposits_made n (makes.Paid party value ∷ more) = record { number = n; owner = Party party; value = value } ∷ deposits_made (n + 1) more
deposits_made n (makes.Led position value ∷ more) = deposits_made (n + 1) more

-- the active contracts among them, of contract k
abbrev pub actives_made : ℕ → ℕ → List Made → List ActiveContract
actives_made k n [] = []
actives_made k n (makes.Paid party value ∷ more) = actives_made k (n + 1) more
actives_made k n (makes.Led position value ∷ more) =
    record { number = n; contract = k; position = position; balance = value } ∷ actives_made k (n + 1) more

-- what is said of a branch of an active contract
pub record LeadIsMeant (g : Configuration) (n i : ℕ) (a : ActiveContract) (b : Guarded) : Type 0 where
  pub lead : Lead
  pub there : lead_at g n i ≡ Some lead
  -- a withdraw makes the deposits that it is said to pay
  pub pays : (party : List ℕ) → core b ≡ withdraw party
      → (effect g (steps.Withdraw n i)).deposits ≡ g.deposits ++ deposits_made g.next lead.made
  -- a put or reveal makes the contract that it is said to lead to
  pub goes_on : is_put_core (core b) ≡ true
      → (effect g (steps.PutReveal n i)).active ≡ others g.active n ++ actives_made a.contract g.next lead.made
  -- a split those that it is said to lead to
  pub parts : is_split_core (core b) ≡ true
      → (effect g (steps.Split n i)).active ≡ others g.active n ++ actives_made a.contract g.next lead.made

-- in any configuration
abbrev pub LeadsAreEffects : Type 0
LeadsAreEffects =
    (g : Configuration) (n i : ℕ) (a : ActiveContract) (b : Guarded) → active_at g.active n ≡ Some a → branch_at g n i ≡ Some b
    → LeadIsMeant g n i a b
