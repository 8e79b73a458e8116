-- A run at its end.
use Rattle.std.specs.Prelude.{◌≡◌, ℕ, List, Some, None}
use Rattle.spec_run.specs.declared.event.Event.{Event}
use Rattle.spec_run.specs.Setup.{Setup}
use Rattle.spec_text.specs.PlanText.{unless_halted}
use Rattle.spec_text.specs.Played.{ending}
use Rattle.spec_tool.specs.Commands.{prints, ending_status}
use Rattle.spec_tool.specs.Replies.{printed}
use Rattle.spec_tool.specs.declared.reply.Reply.{Reply}
use Rattle.bm_world.specs.Playing as world
use Rattle.tool_replies.specs.Whole.{IsLeft}
use Rattle.bm_world.specs.declared.halt.Halt.{Halt}
use Rattle.tool_replies.specs.Halting.{halt_printed}

-- the run was halted, and this is replied whatever would be printed else
pub record IsHalted (s : Setup) (es : List Event) (reply : Reply) : Type 0 where
  pub halted : ending_status (ending s es) ≡ 0 → ⊥
  pub replied : (text : List ℕ) → printed reply ≡ prints (ending_status (ending s es)) (unless_halted (ending s es) text)

-- it wasn't, and this world was left by it
pub record IsWhole {H : Type 0} (digest : H → List ℕ → List ℕ) (s : Setup) (es : List Event) (left : world.Played H) : Type 0 where
  pub unhalted : ending_status (ending s es) ≡ 0
  pub told : (text : List ℕ) → unless_halted (ending s es) text ≡ text
  pub left_is : IsLeft digest s es left None

-- some run left this world, and nothing halted it
pub record IsLeftBySome {H : Type 0} (digest : H → List ℕ → List ℕ) (left : world.Played H) : Type 0 where
  pub setup : Setup
  pub events : List Event
  pub left_is : IsLeft digest setup events left None

-- it was halted by this, whose reply is that one
abbrev pub IsHaltedBy : Setup → List Event → Halt → Type 0
IsHaltedBy s es halt = (reply : Reply) → Some (printed reply) ≡ halt_printed halt → IsHalted s es reply
