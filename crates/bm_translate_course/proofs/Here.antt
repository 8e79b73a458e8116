-- Every event of a run is one after which all is kept, and whose steps are legal.
use Rattle.std.proofs.Common.{List, refl}
use Rattle.spec_run.specs.declared.event.Event.{Event}
use Rattle.spec_run.specs.Setup.{Setup}
use Rattle.spec_run.specs.Statements.{IsRun, HoldsThroughout}
use Rattle.theory_run.proofs.Following.{Keeps, run_posts, holds_throughout}
use Rattle.theory_run.proofs.Simulated.{kept_run, opening_run, simulates, run_after}
use Rattle.bm_translate_course.specs.Courses.{here}

pub keeps_here : (s : Setup) (es : List Event) (run : IsRun s es) → Keeps s (here s (run_posts s es)) (kept_run s (run_posts s es)) (run_posts s es)
keeps_here s es run = record {
  step = λ before g w e k is calm unguessed begins.
      let z = run_posts s es in
      let after = run_after s run.setup z g w k e is calm unguessed begins in (
        record {
          kept = k;
          passed = refl;
          left = refl;
          legal = (simulates s run.setup z g w k e is calm unguessed begins).legal;
          after = after;
        },
        after,
      );
}

pub all_here : (s : Setup) (es : List Event) → IsRun s es → HoldsThroughout s (here s (run_posts s es)) es
all_here s es run =
    let z = run_posts s es in
    holds_throughout s (here s z) (kept_run s z) es (keeps_here s es run) run.events (opening_run s es run z)
