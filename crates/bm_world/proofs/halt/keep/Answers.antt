use Rattle.std.proofs.Common.{refl, inl, inr}
use Rattle.bm_world.proofs.halt.keep.Goals as goal

pub returns-in-Ok-clause-same : goal.returns-in-Ok-clause-same
returns-in-Ok-clause-same c = inl refl

pub returns-in-Err-clause-same : goal.returns-in-Err-clause-same
returns-in-Err-clause-same c = inr refl
