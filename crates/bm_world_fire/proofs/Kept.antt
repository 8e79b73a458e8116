-- What every run keeps of the outputs that contracts hold.
use Rattle.spec_calculus.specs.Configuration.{Configuration}
use Rattle.spec_run.specs.Setup.{Setup}
use Rattle.spec_run.specs.World.{World}
use Rattle.theory_run.specs.KeptRuns.{KeptBooks}
use Rattle.theory_run.specs.KeptBook.{HeldFine}
use Rattle.theory_run.proofs.Events.Quiet.{IsActive, active}
use Rattle.bm_world_fire.specs.Standing.{AreStanding}

-- every live contract output holds a position of a compiled contract
pub standing_of : (s : Setup) (g : Configuration) (w : World) → KeptBooks s g w → AreStanding s w
standing_of s g w keeps = record {
  held = λ n held h.
      let at : IsActive w n held = active w n held h in
      let fine : HeldFine s w at.output held = keeps.book.held n at.output held at.there at.holds in
      record { instance = fine.instance; compiled = fine.compiled; here = fine.here; choice = fine.choice; stands = fine.stands };
}
