-- What is claimed of authorisations: each has its signature in the book, and an honest party's signature of a branch that asks it is one.
use Rattle.std.specs.Prelude.{◌≡◌, ℕ, List, [], ◌∷◌, ◌++◌, true, Some, slice_get}
use Rattle.spec_data.specs.Lists.{is_among}
use Rattle.spec_terms.specs.Core.{is_asked}
use Rattle.spec_terms.specs.Term as term
use Rattle.spec_terms.specs.Term.{Contract, branches}
use Rattle.spec_terms.specs.Precondition.{Holding, persistent}
use Rattle.spec_terms.specs.declared.path.PathStep.TheVariants.{Branch as To}
use Rattle.spec_bitcoin.specs.Keys.{key_of, has_signed}
use Rattle.spec_calculus.specs.Configuration.{Configuration}
use Rattle.spec_calculus.specs.Beginning.{is_init_authorised}
use Rattle.spec_calculus.specs.Branches.{has_branch_authorised}
use Rattle.spec_compiler.specs.Instance.{Instance, branch_label, deposit_key, people}
use Rattle.spec_compiler.specs.Transactions.{Standing, tx_of, digest_of_spent, deposit, branch_unsigned, initial_unsigned}
use Rattle.spec_compiler.specs.ByPath.{position_at}
use Rattle.spec_run.specs.declared.event.Event.{Event}
use Rattle.spec_run.specs.Setup.{Setup, is_honest}
use Rattle.spec_run.specs.World.{ContractPosition, World, live_position_at}
use Rattle.spec_run.specs.Compiled.{compiled_instance}
use Rattle.spec_run.specs.Event.{opening_world}
use Rattle.spec_run.specs.Steps.{is_bound_live}
use Rattle.spec_run.specs.Translation.{opening_configuration, last_configuration, last_world}
use Rattle.spec_run.specs.Statements.{Claim, HoldsThroughout, IsRun}
use Rattle.theory_calculus.specs.Members.{Is_in}

-- a position of a compiled contract, with one of its branches
pub record IsBranchAt (s : Setup) (w : World) (held : ContractPosition) (instance : Instance) (here : Standing) (index : ℕ)
    (b : term.Guarded) : Type 0 where
  pub choice : Contract
  pub compiled : compiled_instance s w held.contract ≡ Some instance
  pub stands : position_at s.hash instance held.position ≡ Some (here, choice)
  pub there : slice_get (branches choice) index ≡ Some b

pub record AuthorisationsAreSigned (s : Setup) (g : Configuration) (w : World) : Type 0 where
  -- where a contract may take a live deposit, its owner has signed it for the initial transaction
  pub deposits : (contract : ℕ) (instance : Instance) (d : List ℕ × Holding) → compiled_instance s w contract ≡ Some instance
      → Is_in d (persistent instance.advert.pre) → is_init_authorised g.init_authorised contract (d.0) ≡ true
      → is_bound_live w contract d ≡ true
      → has_signed w.book (deposit_key s.hash (d.1).owner)
      (digest_of_spent s.hash (tx_of (initial_unsigned s.hash instance)) (deposit s.hash instance (d.0) (d.1))) ≡ true
  -- where a party has authorised a branch of an active contract that asks it, it has signed the branch's transaction
  pub branches : (output index : ℕ) (party : List ℕ) (held : ContractPosition) (instance : Instance) (here : Standing) (b : term.Guarded)
      → live_position_at w output ≡ Some held → IsBranchAt s w held instance here index b → is_asked b party ≡ true
      → has_branch_authorised g.branch_authorised output index party ≡ true
      → has_signed w.book (key_of s.hash (branch_label held.contract (held.position ++ To index ∷ []) party))
      (digest_of_spent s.hash (tx_of (branch_unsigned s.hash instance here index b)) here.output) ≡ true
  -- and where an honest participant has signed it, it has authorised the branch; it signs nothing else with that key
  pub honest : (output index : ℕ) (party digest : List ℕ) (held : ContractPosition) (instance : Instance) (here : Standing)
      (b : term.Guarded)
      → live_position_at w output ≡ Some held → IsBranchAt s w held instance here index b → is_asked b party ≡ true
      → is_among party (people instance) ≡ true → is_honest s party ≡ true
      → has_signed w.book (key_of s.hash (branch_label held.contract (held.position ++ To index ∷ []) party)) digest ≡ true
      → (digest ≡ digest_of_spent s.hash (tx_of (branch_unsigned s.hash instance here index b)) here.output)
      × (has_branch_authorised g.branch_authorised output index party ≡ true)
  -- no authorisation of a move outlives its event
  pub moves : g.move_authorised ≡ []

-- so it is after an event of a run
abbrev pub authorised_signed : Setup → Claim
authorised_signed s before g w t = AuthorisationsAreSigned s t.configuration t.world

-- at the opening of a run, after every event and at its end
pub record SignedThroughout (s : Setup) (es : List Event) : Type 0 where
  pub opening : AuthorisationsAreSigned s (opening_configuration s) (opening_world s)
  pub events : HoldsThroughout s (authorised_signed s) es
  pub end : AuthorisationsAreSigned s (last_configuration s es) (last_world s es)

abbrev pub AuthorisationsHaveSignatures : Type 0
AuthorisationsHaveSignatures = (s : Setup) (es : List Event) → IsRun s es → SignedThroughout s es
