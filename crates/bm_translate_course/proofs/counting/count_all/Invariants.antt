use Rattle.std.proofs.Common.{◌≡◌, [], drop}
use Rattle.spec_run.specs.Translation.{translated, last_configuration}
use Rattle.bm_world_board.specs.Prepares.{setup_of}
use Rattle.bm_translate_course.specs.Courses.{events_of, end_of}
use Rattle.bm_translate_course.proofs.Tally.{IsTallied}
use Rattle.bm_translate_course.proofs.counting.count_all.Given as goal

-- the run is under way: the steps so far are counted, and the events that are left stand for the rest
abbrev pub invariant-loop-recorded : goal.invariant-loop-recorded
invariant-loop-recorded g l =
    let s = setup_of (g.H.Hash32.digest_of l.trail.hasher) l.board in
    record {
      room : l.room.items ≡ [];
      tallied : IsTallied s l.board l.trail.messages (end_of s l.trace) l.running (drop l.recorded-index l.trace) l.count
          (translated s (events_of l.trace)) (last_configuration s (events_of l.trace));
    }
