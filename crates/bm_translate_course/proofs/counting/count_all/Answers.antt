use Rattle.std.proofs.Common.{[], ◌+◌, drop, refl, sym, subst, arith}
use Rattle.std.proofs.lemmas.List.{drop_all}
use Rattle.spec_run.specs.Translation.{translated, last_configuration}
use Rattle.bm_world_board.specs.Prepares.{setup_of}
use Rattle.bm_translate_course.specs.Courses.{events_of, end_of, IsUnderWay}
use Rattle.bm_translate_course.proofs.Course.{left_of, starts, few_outputs}
use Rattle.bm_translate_course.proofs.Tally.{IsTallied, next_counted, tallied_on, all_tallied}
use Rattle.bm_translate_course.proofs.counting.count_all.Goals as goal

pub loop-recorded-init : goal.loop-recorded-init
loop-recorded-init g c =
    let s = setup_of (g.H.Hash32.digest_of c.args.trail.now.hasher) c.args.board.now in
    let b = c.args.board.now in
    let ms = c.args.trail.now.messages in
    let trace = c.args.trace.now in
    let all = translated s (events_of trace) in
    let last = last_configuration s (events_of trace) in
    record {
      room = c.new-room.ensures.items;
      tallied = record {
        so_far = [];
        counted = refl;
        under_way = subst (λ r. IsUnderWay s b ms (end_of s trace) r trace [] all last) (sym c.requires.start) (starts s b ms trace c.requires.run);
      };
    }

pub pass-requires-clause-is : goal.pass-requires-clause-is
pass-requires-clause-is g c =
    let s = setup_of (g.H.Hash32.digest_of c.args.trail.now.hasher) c.args.board.now in
    let b = c.args.board.now in
    let ms = c.args.trail.now.messages in
    let trace = c.args.trace.now in
    let all = translated s (events_of trace) in
    let last = last_configuration s (events_of trace) in
    let x = c.recorded-item.result in
    let i = c.loop-recorded.recorded-index in
    next_counted s b ms (end_of s trace) (few_outputs s b ms trace c.requires.run c.requires.room) c.loop-recorded.running (drop (i + 1) trace)
    c.loop-recorded.count all last x
    (subst (λ rest. IsTallied s b ms (end_of s trace) c.loop-recorded.running rest c.loop-recorded.count all last)
    (left_of trace i x c.loop-recorded-test.true c.recorded-item.is) c.loop-recorded.invariant.tallied)

pub loop-recorded-preserved : goal.loop-recorded-preserved
loop-recorded-preserved g c =
    let s = setup_of (g.H.Hash32.digest_of c.args.trail.now.hasher) c.args.board.now in
    let b = c.args.board.now in
    let ms = c.args.trail.now.messages in
    let trace = c.args.trace.now in
    let all = translated s (events_of trace) in
    let last = last_configuration s (events_of trace) in
    let x = c.recorded-item.result in
    let i = c.loop-recorded.recorded-index in
    record {
      room = c.clear.ensures.items;
      tallied = tallied_on s b ms (end_of s trace) (few_outputs s b ms trace c.requires.run c.requires.room) c.loop-recorded.running
          (drop (i + 1) trace) c.loop-recorded.count all last x
          (subst (λ rest. IsTallied s b ms (end_of s trace) c.loop-recorded.running rest c.loop-recorded.count all last)
          (left_of trace i x c.loop-recorded-test.true c.recorded-item.is) c.loop-recorded.invariant.tallied)
          c.in_ok-made.made.items c.pass.new.running c.in_ok-count.count
          (let counted = c.in_ok-count.ensures in let long = c.len.ensures in omega (arith, counted, long)) c.in_ok-made.ensures;
    }

pub returns-clause-steps : goal.returns-clause-steps
returns-clause-steps g c =
    let s = setup_of (g.H.Hash32.digest_of c.args.trail.now.hasher) c.args.board.now in
    let b = c.args.board.now in
    let ms = c.args.trail.now.messages in
    let trace = c.args.trace.now in
    let all = translated s (events_of trace) in
    let last = last_configuration s (events_of trace) in
    (all_tallied s b ms (end_of s trace) (few_outputs s b ms trace c.requires.run c.requires.room) c.loop-recorded.running []
    c.loop-recorded.count all last
    (subst (λ rest. IsTallied s b ms (end_of s trace) c.loop-recorded.running rest c.loop-recorded.count all last)
    (drop_all c.loop-recorded.recorded-index trace c.loop-recorded-test.false) c.loop-recorded.invariant.tallied)).0

pub returns-clause-last : goal.returns-clause-last
returns-clause-last g c =
    let s = setup_of (g.H.Hash32.digest_of c.args.trail.now.hasher) c.args.board.now in
    let b = c.args.board.now in
    let ms = c.args.trail.now.messages in
    let trace = c.args.trace.now in
    let all = translated s (events_of trace) in
    let last = last_configuration s (events_of trace) in
    (all_tallied s b ms (end_of s trace) (few_outputs s b ms trace c.requires.run c.requires.room) c.loop-recorded.running []
    c.loop-recorded.count all last
    (subst (λ rest. IsTallied s b ms (end_of s trace) c.loop-recorded.running rest c.loop-recorded.count all last)
    (drop_all c.loop-recorded.recorded-index trace c.loop-recorded-test.false) c.loop-recorded.invariant.tallied)).1
