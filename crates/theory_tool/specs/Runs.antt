-- What is claimed of how runs end: with a collision or a guess exactly where one is there, and else at the end of all events.
use Rattle.std.specs.Prelude.{◌≡◌, ℕ, List, [], ◌∷◌, ◌⊎◌, ◌↔◌}
use Rattle.spec_run.specs.declared.event.Event.{Event}
use Rattle.spec_run.specs.Setup.{Setup}
use Rattle.spec_run.specs.World.{World}
use Rattle.spec_run.specs.Pending.{applied}
use Rattle.spec_run.specs.Event.{pending, opening_strings, opening_world}
use Rattle.spec_run.specs.Halting.{AreApart, Collides, Guesses, IsCalm, NothingHalts}
use Rattle.spec_text.specs.Played.{ending}
use Rattle.spec_tool.specs.Commands.{ending_status}

-- ---- one event

-- strings that the event hashes collide with those of the world or with one another
abbrev pub CollidesAt : Setup → World → Event → Type 0
CollidesAt s w e = (earlier : List ℕ) × (later : List ℕ) × Collides s.hash w.hashed (pending s w e).hashes earlier later

-- nothing collides, and a secret is given away by another than its owner
abbrev pub GuessesAt : Setup → World → Event → Type 0
GuessesAt s w e = (party : List ℕ) × (name : List ℕ) × (IsCalm s w e × Guesses s w e s.header.secrets party name)

-- ---- events in turn

-- the world that an event leaves where nothing halts it
abbrev pub left_by : Setup → World → Event → World
left_by s w e = applied w (pending s w e)

-- one of these events, from this world on, is halted by this, and none before it is halted by anything
abbrev pub HaltsBy : (Setup → World → Event → Type 0) → Setup → World → List Event → Type 0
HaltsBy cause s w [] = ⊥
HaltsBy cause s w (e ∷ es) = cause s w e ⊎ (NothingHalts s w e × HaltsBy cause s (left_by s w e) es)

-- none of these events is halted
abbrev pub NoneHalts : Setup → World → List Event → Type 0
NoneHalts s w [] = Unit {0}
NoneHalts s w (e ∷ es) = NothingHalts s w e × NoneHalts s (left_by s w e) es

-- ---- runs

-- no two different strings of the opening have one digest
abbrev pub OpensCalmly : Setup → Type 0
OpensCalmly s = AreApart s.hash (opening_strings s)

-- two have
abbrev pub OpeningCollides : Setup → Type 0
OpeningCollides s = (earlier : List ℕ) × (later : List ℕ) × Collides s.hash [] (opening_strings s) earlier later

-- an event guesses, and no collision comes before or with it
abbrev pub IsGuessing : Setup → List Event → Type 0
IsGuessing s es = OpensCalmly s × HaltsBy GuessesAt s (opening_world s) es

-- the opening collides, or an event, and no guess comes before it
abbrev pub IsColliding : Setup → List Event → Type 0
IsColliding s es = OpeningCollides s ⊎ (OpensCalmly s × HaltsBy CollidesAt s (opening_world s) es)

-- neither comes
abbrev pub IsUnhalted : Setup → List Event → Type 0
IsUnhalted s es = OpensCalmly s × NoneHalts s (opening_world s) es

-- of every setup and list of events
pub record RunsHaltByCauses : Type 0 where
  pub whole : (s : Setup) (es : List Event) → (ending_status (ending s es) ≡ 0) ↔ IsUnhalted s es
  pub guessed : (s : Setup) (es : List Event) → (ending_status (ending s es) ≡ 7) ↔ IsGuessing s es
  pub collided : (s : Setup) (es : List Event) → (ending_status (ending s es) ≡ 8) ↔ IsColliding s es
