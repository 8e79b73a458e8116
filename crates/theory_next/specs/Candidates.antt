-- What is claimed of candidates: all that the calculus offers is among them, and can come.
use Rattle.std.specs.Prelude.{◌≡◌, ◌↔◌, ◌⊎◌, List, flat_map, false}
use Rattle.std.specs.List.{Contains}
use Rattle.spec_calculus.specs.Configuration.{Configuration}
use Rattle.spec_run.specs.declared.event.Event.{Event}
use Rattle.spec_run.specs.Setup.{Setup}
use Rattle.spec_run.specs.World.{World}
use Rattle.spec_run.specs.Pending.{Pending, Went}
use Rattle.spec_run.specs.Event.{event}
use Rattle.spec_run.specs.Values.{is_refused}
use Rattle.spec_run.specs.Translation.{last_configuration, last_world}
use Rattle.spec_run.specs.Offers.{Offer, offers}
use Rattle.spec_run.specs.Statements.{IsRun}
use Rattle.spec_next.specs.declared.outlook.Ruling.TheVariants as rulings
use Rattle.spec_next.specs.declared.outlook.Prospect.{Prospect}
use Rattle.spec_next.specs.Candidates.{all_candidates}
use Rattle.spec_next.specs.Prospects.{ruling, prospect, outlooks}

-- ---- which events can come

-- the event goes on in this world, and isn't refused: it is done or accepted
pub record GoesThrough (s : Setup) (w : World) (e : Event) : Type 0 where
  pub pending : Pending
  pub next : World
  pub went : event s w e ≡ Went pending next
  pub passed : is_refused pending.outcome ≡ false

-- an event can come exactly where it goes through
abbrev pub CanIsMeant : Type 0
CanIsMeant = (s : Setup) (w : World) (e : Event) → ruling s w e ≡ rulings.Can ↔ GoesThrough s w e

-- ---- what is offered

-- everything that may be taken by the calculus is a candidate, in any world
abbrev pub OffersAreCandidates : Type 0
OffersAreCandidates =
    (s : Setup) (g : Configuration) (w : World) (offer : Offer) → Contains (offers g) offer → Contains (all_candidates s g w) offer.event

-- what is said of the candidates of all contracts
abbrev pub all_prospects : Setup → Configuration → World → List Prospect
all_prospects s g w = flat_map (λ o. o.prospects) (outlooks s g w)

-- an event is said to be one that can come, unless it halts the run
abbrev pub IsSaid : Setup → Configuration → World → Event → Type 0
IsSaid s g w e =
    Contains (all_prospects s g w) (prospect s g w e) × ((ruling s w e ≡ rulings.Can) ⊎ (ruling s w e ≡ rulings.Halts))

-- so it is of everything that may be taken by the calculus after a run
abbrev pub OffersAreSaid : Type 0
OffersAreSaid =
    (s : Setup) (es : List Event) → IsRun s es → (offer : Offer) → Contains (offers (last_configuration s es)) offer
    → IsSaid s (last_configuration s es) (last_world s es) offer.event
