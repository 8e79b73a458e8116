-- What is claimed of signatures by hand: what they give isn't missing.
use Rattle.std.specs.Prelude.{◌≡◌, ◌↔◌, ℕ, List, true, false}
use Rattle.std.specs.List.{Contains}
use Rattle.spec_bitcoin.specs.Keys.{Pair, has_signed}
use Rattle.spec_calculus.specs.Configuration.{Configuration}
use Rattle.spec_run.specs.declared.event.Event.{Event}
use Rattle.spec_run.specs.Setup.{Setup}
use Rattle.spec_run.specs.World.{World, live_position_at}
use Rattle.spec_run.specs.Compiled.{compiled_instance}
use Rattle.spec_run.specs.Signing.{initial_pairs, authorising_pairs}
use Rattle.spec_next.specs.declared.requirement.Requirement.{Requirement}
use Rattle.spec_next.specs.declared.requirement.Requirement.TheVariants as requirements
use Rattle.spec_next.specs.Hands.{is_in_hand}
use Rattle.spec_next.specs.Requirements.{requirements_of}
use Rattle.spec_next.specs.Prospects.{outstanding, prospect}

-- there are such pairs, and the book has all of them
pub record AreInBook (w : World) (pairs : List Pair) : Type 0 where
  pub one : Pair
  pub there : Contains pairs one
  pub all : (p : Pair) → Contains pairs p → has_signed w.book (p.0) (p.1) ≡ true

pub record HandsCount (s : Setup) (g : Configuration) (w : World) : Type 0 where
  -- of what an event lacks exactly that is outstanding which no signature by hand gives
  pub left : (e : Event) (x : Requirement) → Contains (outstanding s g w e) x ↔ (Contains (requirements_of s g w e) x × (is_in_hand s w x ≡ false))
  -- nothing else is said to be missing
  pub said : (e : Event) (x : Requirement) → Contains (prospect s g w e).requirements x → is_in_hand s w x ≡ false
  -- what is given by hand is exactly what `init` would sign
  pub starts : (party : List ℕ) (k : ℕ) → is_in_hand s w (requirements.Start party k) ≡ true
      ↔ AreInBook w (initial_pairs s party (compiled_instance s w k))
  -- or `authorise`
  pub authorises : (party : List ℕ) (n i : ℕ) → is_in_hand s w (requirements.Authorisation party n i) ≡ true
      ↔ AreInBook w (authorising_pairs s w party (live_position_at w n) i)

-- in any world
abbrev pub HandsCountTheorem : Type 0
HandsCountTheorem = (s : Setup) (g : Configuration) (w : World) → HandsCount s g w
