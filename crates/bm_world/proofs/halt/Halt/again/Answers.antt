use Rattle.std.proofs.Common.{refl, inl, inr}
use Rattle.bm_world.proofs.halt.Halt.again.Goals as goal

pub returns-in-Ok : goal.returns-in-Ok
returns-in-Ok c = inl c.in-Ok.ensures

pub returns-in-Err : goal.returns-in-Err
returns-in-Err c = inr refl
