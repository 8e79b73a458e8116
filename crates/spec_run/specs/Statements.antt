-- What is claimed of every run.
use Rattle.std.specs.Prelude.{◌≡◌, ℕ, List, [], ◌∷◌, ◌++◌, map, Option, Some, None}
use Rattle.std.specs.List.{Contains, AllByRecursion}
use Rattle.spec_bitcoin.specs.declared.tx.Tx.{Tx}
use Rattle.spec_bitcoin.specs.declared.verdict.Verdict.TheVariants as verdicts
use Rattle.spec_calculus.specs.declared.step.Step.{Step}
use Rattle.spec_calculus.specs.Configuration.{Configuration}
use Rattle.spec_calculus.specs.Steps.{Legal, after_steps}
use Rattle.spec_run.specs.declared.event.Event.{Event}
use Rattle.spec_run.specs.declared.event.Event.TheVariants as events
use Rattle.spec_run.specs.declared.outcome.Record.{Record}
use Rattle.spec_run.specs.Setup.{Setup}
use Rattle.spec_run.specs.World.{World, live_position_at}
use Rattle.spec_run.specs.Pending.{Answer, Went, Halted, Halt, applied}
use Rattle.spec_run.specs.Compiled.{compiled_instance}
use Rattle.spec_run.specs.Ledger.{verdict_in}
use Rattle.spec_run.specs.Firing.{initial_by, taking_of_position}
use Rattle.spec_run.specs.Event.{pending, event, opening_world, opening_collision}
use Rattle.spec_run.specs.Halting.{HaltIsThere, NothingHalts, SameStrings, OpeningIs}
use Rattle.spec_run.specs.Steps.{steps_of}
use Rattle.spec_run.specs.Translation.{Turn, record_in, opening_configuration, course, translated, in_order, last_configuration, last_world}
use Rattle.spec_run.specs.Translation.{first_halt}
use Rattle.spec_run.specs.Agreement.{Agree}
use Rattle.spec_run.specs.Licence.{Licensed}
use Rattle.spec_run.specs.Offers.{Offer, offers}
use Rattle.spec_run.specs.HonestDeposits.{SpendsWithLeave}
use Rattle.spec_run.specs.Values.{ValueKept, RefusedKept}
use Rattle.spec_run.specs.Conditions.{IsSetup, IsEvent}

-- ---- runs

-- what may hold of one event of a run: after these records, from this configuration and world on, it is this turn
abbrev pub Claim : Type 1
Claim = List Record → Configuration → World → Turn → Type 0

-- the claim holds of each of these turns
abbrev pub HoldsFrom : Claim → List Record → Configuration → World → List Turn → Type 0
HoldsFrom claim before g w [] = Unit {0}
HoldsFrom claim before g w (t ∷ ts) = claim before g w t × HoldsFrom claim (before ++ record_in t ∷ []) t.configuration t.world ts

-- the claim holds of each event of a run up to its halt: of the rows of the very list that is printed
abbrev pub HoldsThroughout : Setup → Claim → List Event → Type 0
HoldsThroughout s claim es = HoldsFrom claim [] (opening_configuration s) (opening_world s) (course s es).turns

-- a run that a run file can have, and whose opening strings don't collide
pub record IsRun (s : Setup) (es : List Event) : Type 0 where
  pub setup : IsSetup s
  pub opens : opening_collision s ≡ None
  pub events : AllByRecursion (IsEvent s) es

-- ---- the simulation theorem

-- the steps of the event are a legal run of the calculus, they lead to the configuration after it, and that agrees with the world after it
pub record IsSimulated (s : Setup) (g : Configuration) (t : Turn) : Type 0 where
  pub legal : Legal g t.steps
  pub leads : after_steps g t.steps ≡ t.configuration
  pub agrees : Agree s t.configuration t.world

abbrev pub simulated : Setup → Claim
simulated s before g w t = IsSimulated s g t

pub record Simulates (s : Setup) (es : List Event) : Type 0 where
  pub opening : Agree s (opening_configuration s) (opening_world s)
  pub events : HoldsThroughout s (simulated s) es
  -- all steps in order are a legal run, which leads from the opening to the last configuration, and that agrees with the last world
  pub legal : Legal (opening_configuration s) (in_order (translated s es))
  pub leads : after_steps (opening_configuration s) (in_order (translated s es)) ≡ last_configuration s es
  pub agrees : Agree s (last_configuration s es) (last_world s es)

-- every run of events is, step by step, a legal run of the calculus, and both agree at the opening and after every event
abbrev pub SimulationTheorem : Type 0
SimulationTheorem = (s : Setup) (es : List Event) → IsRun s es → Simulates s es

-- ---- the licence theorem

abbrev pub licensed : Setup → Claim
licensed s before g w t = Licensed s t.event t.steps

-- honest parties authorise only by their own events
abbrev pub LicenceTheorem : Type 0
LicenceTheorem = (s : Setup) (es : List Event) → IsRun s es → HoldsThroughout s (licensed s) es

-- ---- the offers theorem

-- the transaction that an event of an offer hands to the ledger
abbrev pub fired : Setup → World → Event → Option Tx
fired s w (events.FireInit contract) = initial_by s (compiled_instance s w contract)
fired s w (events.Fire output branch) = taking_of_position s w (live_position_at w output) branch
fired s w _ = None

-- the step is the last of these
abbrev pub IsLast : Step → List Step → Type 0
IsLast step steps = (earlier : List Step) × (steps ≡ earlier ++ step ∷ [])

-- the event leads to the step, unless it halts
abbrev pub LeadsTo : Setup → Configuration → World → Event → Step → Answer → Type 0
LeadsTo s g w e step (Halted halt) = Unit {0}
LeadsTo s g w e step (Went d next) = IsLast step (steps_of s next.posted g w next e d)

-- the step has a transaction that the ledger accepts, and its event leads to it
pub record IsKept (s : Setup) (g : Configuration) (w : World) (offer : Offer) : Type 0 where
  pub tx : Tx
  pub spent : List ℕ
  pub made : List ℕ
  pub fires : fired s w offer.event ≡ Some tx
  pub accepts : verdict_in s w tx ≡ verdicts.Accepted spent made
  pub leads : LeadsTo s g w offer.event offer.step (event s w offer.event)

-- every enabled and authorised contract step after a run has a compiled transaction that the ledger accepts, and its event leads to
-- the step
abbrev pub OffersTheorem : Type 0
OffersTheorem = (s : Setup) (es : List Event) → IsRun s es
    → (offer : Offer) → Contains (offers (last_configuration s es)) offer → IsKept s (last_configuration s es) (last_world s es) offer

-- the run that ends with this turn
abbrev pub events_until : List Record → Turn → List Event
events_until before t = map (λ r. r.event) (before ++ record_in t ∷ [])

-- what is offered after an event of a run
pub record OffersAreKept (s : Setup) (before : List Record) (t : Turn) : Type 0 where
  -- is what is offered at the end of the run that ends there, in the same world
  pub same_offers : offers t.configuration ≡ offers (last_configuration s (events_until before t))
  pub same_world : t.world ≡ last_world s (events_until before t)
  -- and each of it is kept
  pub kept : (offer : Offer) → Contains (offers t.configuration) offer → IsKept s t.configuration t.world offer

abbrev pub offers_kept : Setup → Claim
offers_kept s before g w t = OffersAreKept s before t

pub record OffersThroughout (s : Setup) (es : List Event) : Type 0 where
  pub opening : (offer : Offer) → Contains (offers (opening_configuration s)) offer
      → IsKept s (opening_configuration s) (opening_world s) offer
  pub events : HoldsThroughout s (offers_kept s) es

-- every enabled and authorised contract step at the opening and after every event is kept
abbrev pub OffersThroughoutTheorem : Type 0
OffersThroughoutTheorem = (s : Setup) (es : List Event) → IsRun s es → OffersThroughout s es

-- ---- the honest deposits theorem

abbrev pub spends_with_leave : Setup → Claim
spends_with_leave s before g w t = SpendsWithLeave s before w (record_in t) t.world

-- an honest party's live deposit goes only by its own gift, or by a transaction of a contract that it endorsed or started
abbrev pub HonestDepositsTheorem : Type 0
HonestDepositsTheorem = (s : Setup) (es : List Event) → IsRun s es → HoldsThroughout s (spends_with_leave s) es

-- ---- the halts theorem

-- the event is what it comes to in the world before it, and nothing halts it
pub record GoesOn (s : Setup) (w : World) (t : Turn) : Type 0 where
  pub outcome : t.outcome ≡ (pending s w t.event).outcome
  pub tx : t.tx ≡ (pending s w t.event).tx
  pub world : t.world ≡ applied w (pending s w t.event)
  pub halts : NothingHalts s w t.event
  -- the messages after it are those before it and what it hashes
  pub hashed : SameStrings t.world.hashed (w.hashed ++ (pending s w t.event).hashes)

abbrev pub went_on : Setup → Claim
went_on s before g w t = GoesOn s w t

-- these events are all that were to be played, or those before the halting one, which halts in this world with what is there
abbrev pub EndsAs : Setup → List Event → List Event → World → Option (Event × Halt) → Type 0
EndsAs s es before w None = before ≡ es
EndsAs s es before w (Some h) = ((later : List Event) × (es ≡ before ++ h.0 ∷ later)) × HaltIsThere s w (h.0) (h.1)

-- each event goes on where nothing halts it, and the run halts only where something does
pub record HaltsRightly (s : Setup) (es : List Event) : Type 0 where
  pub events : HoldsThroughout s (went_on s) es
  pub ends : EndsAs s es (map (λ t. t.event) (course s es).turns) (last_world s es) (first_halt s es)

-- the opening, and every run after an opening that doesn't collide
pub record HaltsTheorem : Type 0 where
  pub opening : (s : Setup) → OpeningIs s (opening_collision s)
  pub runs : (s : Setup) (es : List Event) → IsRun s es → HaltsRightly s es

-- ---- what holds in any world

-- the live value never grows, and stays the same after every event that isn't accepted
abbrev pub ValueTheorem : Type 0
ValueTheorem = (s : Setup) (w : World) (e : Event) → ValueKept w (event s w e)

-- a refused event leaves all but the messages as it was
abbrev pub RefusalTheorem : Type 0
RefusalTheorem = (s : Setup) (w : World) (e : Event) → RefusedKept w (event s w e)
