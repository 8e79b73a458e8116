use Rattle.bm_world_board.specs.Prepares.{setup_of}
use Rattle.bm_translate_course.proofs.Course.{few_compiled}
use Rattle.bm_translate_course.proofs.walking.translate_run.Goals as goal

pub walk-requires-clause-few : goal.walk-requires-clause-few
walk-requires-clause-few g c =
    few_compiled (setup_of (g.H.Hash32.digest_of c.args.trail.now.hasher) c.args.board.now) c.args.board.now c.args.trail.now.messages
    c.args.trace.now c.requires.run
