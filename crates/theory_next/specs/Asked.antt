-- What is claimed of the events that are asked, and of what is said of each: the kinds of events, for each contract, party, secret, live output
-- and branch; and for each event whether it can come, is refused and why, or halts the run.
use Rattle.std.specs.Prelude.{◌≡◌, ◌↔◌, ℕ, List, [], true, false, Some, slice_get}
use Rattle.std.specs.List.{Contains}
use Rattle.spec_terms.specs.Advert.{Advert}
use Rattle.spec_terms.specs.Parties.{participants}
use Rattle.spec_terms.specs.Precondition.{Holding, deposits, persistent, secrets}
use Rattle.spec_terms.specs.Term as term
use Rattle.spec_calculus.specs.declared.parts.ActiveContract.{ActiveContract}
use Rattle.spec_calculus.specs.Configuration.{Configuration}
use Rattle.spec_calculus.specs.Beginning.{is_init_authorised}
use Rattle.spec_terms.specs.Core.{is_asked}
use Rattle.spec_calculus.specs.Branches.{has_branch_authorised}
use Rattle.spec_calculus.specs.Offers.{branches_of}
use Rattle.spec_run.specs.declared.event.Event.{Event}
use Rattle.spec_run.specs.declared.event.Event.TheVariants as events
use Rattle.spec_run.specs.declared.outcome.Outcome.TheVariants as outcomes
use Rattle.spec_run.specs.declared.outcome.Reason.{Reason}
use Rattle.spec_run.specs.Setup.{Setup, is_declared, is_honest}
use Rattle.spec_run.specs.World.{World}
use Rattle.spec_run.specs.Compiled.{compiled_instance}
use Rattle.spec_run.specs.Event.{event}
use Rattle.spec_run.specs.Pending.{Pending, Went, Halt, Halted}
use Rattle.spec_next.specs.declared.outlook.Ruling.TheVariants as rulings
use Rattle.spec_next.specs.Bindings.{bindings_for}
use Rattle.spec_next.specs.Candidates.{has_endorsed, candidates}
use Rattle.spec_next.specs.Prospects.{ruling}
use Rattle.theory_next.specs.Candidates.{GoesThrough}

-- ---- what is said of an event

-- the event goes on in this world, and is refused for this reason
pub record RefusedWith (s : Setup) (w : World) (e : Event) (reason : Reason) : Type 0 where
  pub pending : Pending
  pub next : World
  pub went : event s w e ≡ Went pending next
  pub refused : pending.outcome ≡ outcomes.Refused reason

-- it halts the run
pub record HaltsRun (s : Setup) (w : World) (e : Event) : Type 0 where
  pub halt : Halt
  pub halted : event s w e ≡ Halted halt

pub record RulingIsMeant (s : Setup) (w : World) (e : Event) : Type 0 where
  -- `can` exactly where it is done or accepted, and halts nothing
  pub can : ruling s w e ≡ rulings.Can ↔ GoesThrough s w e
  -- `cannot` with a reason exactly where it is refused for that
  pub cannot : (reason : Reason) → ruling s w e ≡ rulings.Cannot reason ↔ RefusedWith s w e reason
  -- `halts` exactly where it halts the run
  pub halts : ruling s w e ≡ rulings.Halts ↔ HaltsRun s w e

-- ---- which events are asked

-- somebody who takes part and is declared
pub record IsPerson (s : Setup) (advert : Advert) (party : List ℕ) : Type 0 where
  pub participant : Contains (participants advert) party
  pub declared : is_declared s party ≡ true

-- a persistent deposit of the party that the contract may not take yet
pub record HasUnstarted (g : Configuration) (k : ℕ) (advert : Advert) (party : List ℕ) : Type 0 where
  pub name : List ℕ
  pub holding : Holding
  pub there : Contains (persistent advert.pre) (name, holding)
  pub owner : holding.owner ≡ party
  pub unstarted : is_init_authorised g.init_authorised k name ≡ false

-- a branch of a live output that holds a position of the contract
pub record IsLiveBranch (g : Configuration) (k n i : ℕ) (b : term.Guarded) : Type 0 where
  pub active : ActiveContract
  pub live : Contains g.active active
  pub contract : active.contract ≡ k
  pub number : active.number ≡ n
  pub branch : slice_get (branches_of g.contracts active) i ≡ Some b

-- the party is asked for a branch, and hasn't authorised it
pub record IsAskedFor (g : Configuration) (k n i : ℕ) (party : List ℕ) : Type 0 where
  pub b : term.Guarded
  pub live : IsLiveBranch g k n i b
  pub asked : is_asked b party ≡ true
  pub unauthorised : has_branch_authorised g.branch_authorised n i party ≡ false

-- the event is asked of contract k
abbrev pub IsAsked : Setup → Configuration → World → ℕ → Advert → Event → Type 0
-- to advertise it, with the deposits that fit
IsAsked s g w k advert (events.Advertise j bindings) = (j ≡ k) × (bindings ≡ bindings_for g.deposits (deposits advert.pre))
-- to commit, for each party, without digests
IsAsked s g w k advert (events.Commit j party digests) = (j ≡ k) × (digests ≡ []) × IsPerson s advert party
-- to endorse it, for each party that has something left to sign
IsAsked s g w k advert (events.Endorse j party) =
    (j ≡ k) × IsPerson s advert party × (has_endorsed s w (compiled_instance s w k) party ≡ false)
-- to sign the initial transaction, for each party with a deposit that the contract may not take yet
IsAsked s g w k advert (events.Init j party) = (j ≡ k) × IsPerson s advert party × HasUnstarted g k advert party
-- to begin it
IsAsked s g w k advert (events.FireInit j) = j ≡ k
-- to reveal, for each secret of an honest party
IsAsked s g w k advert (events.Reveal j party secret) =
    (j ≡ k) × Contains (secrets advert.pre) (secret, party) × (is_honest s party ≡ true)
-- for each live output and branch, to authorise it, for each party that is asked and hasn't, and to take it
IsAsked s g w k advert (events.Authorise party n i) = IsPerson s advert party × IsAskedFor g k n i party
IsAsked s g w k advert (events.Fire n i) = (b : term.Guarded) × IsLiveBranch g k n i b
-- and nothing else
IsAsked s g w k advert (events.Post bytes) = ⊥
IsAsked s g w k advert (events.Sign party label digest) = ⊥
IsAsked s g w k advert (events.Give party inputs outputs) = ⊥
IsAsked s g w k advert (events.Append bytes) = ⊥
IsAsked s g w k advert (events.Mine blocks) = ⊥

-- ---- the claim

pub record EventsAreAsked : Type 0 where
  -- of a contract in any configuration and world exactly these are asked
  pub asked : (s : Setup) (g : Configuration) (w : World) (k : ℕ) (advert : Advert) (e : Event)
      → Contains (candidates s g w k advert) e ↔ IsAsked s g w k advert e
  -- and of every event what is said is meant
  pub meant : (s : Setup) (w : World) (e : Event) → RulingIsMeant s w e
