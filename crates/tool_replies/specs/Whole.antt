-- A run that was played.
use Rattle.std.specs.Prelude.{◌≡◌, ℕ, List, Option, None}
use Rattle.spec_run.specs.declared.event.Event.{Event}
use Rattle.spec_run.specs.Setup.{Setup}
use Rattle.spec_run.specs.Translation.{trace, last_world, first_halt}
use Rattle.spec_run.specs.Statements.{IsRun}
use Rattle.bm_world.specs.Playing as world
use Rattle.bm_world.specs.Playing.{setup_in}
use Rattle.bm_world.specs.declared.halt.Halt.{Halt}
use Rattle.tool_replies.specs.Going.{StopIs}

-- the world is left by these events of this setup, stopped as is said
pub record IsLeft {H : Type 0} (digest : H → List ℕ → List ℕ) (s : Setup) (es : List Event) (left : world.Played H) (stop : Option (ℕ × Halt)) : Type 0 where
  pub setup : setup_in digest left ≡ s
  pub run : IsRun s es
  pub going : stop ≡ None → left.halt ≡ None
  pub stops : StopIs es stop (first_halt s es)
  pub trace : left.trace ≡ trace s es
  -- the last world; where the last event was halted, but for the messages that were hashed
  pub world : left.world ≡ record (last_world s es) { hashed = left.world.hashed }
  pub whole : stop ≡ None → left.world ≡ last_world s es
