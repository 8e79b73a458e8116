-- What every run keeps, from its opening to its end.
use Rattle.std.specs.Prelude.{ℕ, List}
use Rattle.spec_calculus.specs.Configuration.{Configuration}
use Rattle.spec_run.specs.Setup.{Setup}
use Rattle.spec_run.specs.World.{World}
use Rattle.theory_world.specs.KeptApart.{NoCollision}
use Rattle.theory_run.specs.KeptBook.{KeptBook}
use Rattle.theory_run.specs.KeptPromises.{KeptPromises}
use Rattle.theory_run.specs.KeptLabels.{KeptLabels}
use Rattle.theory_run.specs.Tracks.{Tracks}

-- signatures, outputs, contracts and commitments are fine, and no two messages have one digest
pub record KeptBooks (s : Setup) (g : Configuration) (w : World) : Type 0 where
  pub book : KeptBook s g w
  pub promises : KeptPromises s w
  pub labels : KeptLabels s w
  pub clear : NoCollision s.hash w.hashed

-- and the configuration tracks the world, where these strings are posted in the whole run
pub record KeptRun (s : Setup) (z : List (List ℕ)) (g : Configuration) (w : World) : Type 0 where
  pub tracks : Tracks s z g w
  pub books : KeptBooks s g w
