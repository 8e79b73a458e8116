use Rattle.std.proofs.Common.{◌≡◌, [], drop}
use Rattle.spec_run.specs.Translation.{translated, last_configuration}
use Rattle.bm_world_board.specs.Prepares.{setup_of}
use Rattle.bm_translate_course.specs.Courses.{events_of, end_of, IsUnderWay}
use Rattle.bm_translate_course.proofs.walking.walk.Given as goal

-- the run is under way: the events that are left stand for the rest of the steps
abbrev pub invariant-loop-recorded : goal.invariant-loop-recorded
invariant-loop-recorded g l =
    let s = setup_of (g.H.Hash32.digest_of l.trail.hasher) l.board in
    record {
      room : l.room.items ≡ [];
      under_way : IsUnderWay s l.board l.trail.messages (end_of s l.trace) l.running (drop l.recorded-index l.trace) l.all
          (translated s (events_of l.trace)) (last_configuration s (events_of l.trace));
    }
