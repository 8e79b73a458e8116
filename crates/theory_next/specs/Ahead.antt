-- What is claimed of the candidates of a contract: which of them are shown as ahead of it.
use Rattle.std.specs.Prelude.{◌≡◌, ℕ, List, true, Some}
use Rattle.std.specs.List.{Contains}
use Rattle.spec_data.specs.Lists.{is_among, has_number}
use Rattle.spec_calculus.specs.Configuration.{Configuration}
use Rattle.spec_run.specs.declared.event.Event.{Event}
use Rattle.spec_run.specs.declared.event.Event.TheVariants as events
use Rattle.spec_run.specs.Setup.{Setup, held_secret}
use Rattle.spec_run.specs.World.{World, is_advertised, has_promised}
use Rattle.spec_next.specs.declared.outlook.Prospect.{Prospect}
use Rattle.spec_next.specs.Prospects.{ruling, is_refused, prospect}

-- ---- what is behind a contract

-- the header has a string of the secret, and it is posted
pub record IsPosted (s : Setup) (w : World) (party secret : List ℕ) : Type 0 where
  pub string : List ℕ
  pub held : held_secret s party secret ≡ Some string
  pub posted : is_among string w.posted ≡ true

-- the contract is advertised, committed to or begun, or the secret is revealed, already; an authorisation or a branch is never behind it
abbrev pub IsBehind : Setup → World → Event → Type 0
IsBehind s w (events.Advertise k bindings) = is_advertised w k ≡ true
IsBehind s w (events.Commit k party digests) = has_promised w k party ≡ true
IsBehind s w (events.Endorse k party) = has_number k w.begun ≡ true
IsBehind s w (events.Init k party) = has_number k w.begun ≡ true
IsBehind s w (events.FireInit k) = has_number k w.begun ≡ true
IsBehind s w (events.Reveal k party secret) = IsPosted s w party secret
IsBehind s w (events.Authorise party n i) = ⊥
IsBehind s w (events.Fire n i) = ⊥
IsBehind s w _ = Unit {0}

-- it is what one of these events comes to, which isn't both refused and behind the contract
pub record IsAhead (s : Setup) (g : Configuration) (w : World) (es : List Event) (p : Prospect) : Type 0 where
  pub event : Event
  pub there : Contains es event
  pub comes_to : p ≡ prospect s g w event
  pub ahead : is_refused (ruling s w event) ≡ true → IsBehind s w event → ⊥
