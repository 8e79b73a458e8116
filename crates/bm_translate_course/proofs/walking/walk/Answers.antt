use Rattle.std.proofs.Common.{[], ◌+◌, drop, sym, subst}
use Rattle.std.proofs.lemmas.List.{drop_all}
use Rattle.spec_run.specs.Translation.{translated, last_configuration}
use Rattle.bm_world_board.specs.Prepares.{setup_of}
use Rattle.bm_translate_course.specs.Courses.{events_of, end_of, IsUnderWay}
use Rattle.bm_translate_course.proofs.Course.{left_of, starts, few_outputs, is_next, goes_on, ended}
use Rattle.bm_translate_course.proofs.walking.walk.Goals as goal

pub loop-recorded-init : goal.loop-recorded-init
loop-recorded-init g c =
    let s = setup_of (g.H.Hash32.digest_of c.args.trail.now.hasher) c.args.board.now in
    let b = c.args.board.now in
    let ms = c.args.trail.now.messages in
    let trace = c.args.trace.now in
    let all = translated s (events_of trace) in
    let last = last_configuration s (events_of trace) in
    record {
      room = c.new-room.ensures.items;
      under_way = subst (λ xs. IsUnderWay s b ms (end_of s trace) c.args.running.now trace xs all last) (sym c.in_ok-all.ensures)
          (subst (λ r. IsUnderWay s b ms (end_of s trace) r trace [] all last) (sym c.requires.start) (starts s b ms trace c.requires.run));
    }

pub pass-requires-clause-is : goal.pass-requires-clause-is
pass-requires-clause-is g c =
    let s = setup_of (g.H.Hash32.digest_of c.args.trail.now.hasher) c.args.board.now in
    let b = c.args.board.now in
    let ms = c.args.trail.now.messages in
    let trace = c.args.trace.now in
    let all = translated s (events_of trace) in
    let last = last_configuration s (events_of trace) in
    let x = c.recorded-item.result in
    let i = c.loop-recorded.recorded-index in
    is_next s b ms (end_of s trace) (few_outputs s b ms trace c.requires.run c.requires.room) c.loop-recorded.running (drop (i + 1) trace)
    c.loop-recorded.all all last x
    (subst (λ rest. IsUnderWay s b ms (end_of s trace) c.loop-recorded.running rest c.loop-recorded.all all last)
    (left_of trace i x c.loop-recorded-test.true c.recorded-item.is) c.loop-recorded.invariant.under_way)

pub loop-recorded-preserved : goal.loop-recorded-preserved
loop-recorded-preserved g c =
    let s = setup_of (g.H.Hash32.digest_of c.args.trail.now.hasher) c.args.board.now in
    let b = c.args.board.now in
    let ms = c.args.trail.now.messages in
    let trace = c.args.trace.now in
    let all = translated s (events_of trace) in
    let last = last_configuration s (events_of trace) in
    let x = c.recorded-item.result in
    let i = c.loop-recorded.recorded-index in
    record {
      room = c.in_ok-push.ensures.taken;
      under_way = subst (λ xs. IsUnderWay s b ms (end_of s trace) c.pass.new.running (drop (i + 1) trace) xs all last) (sym c.in_ok-push.ensures.ok)
          (goes_on s b ms (end_of s trace) (few_outputs s b ms trace c.requires.run c.requires.room) c.loop-recorded.running (drop (i + 1) trace)
          c.loop-recorded.all all last x
          (subst (λ rest. IsUnderWay s b ms (end_of s trace) c.loop-recorded.running rest c.loop-recorded.all all last)
          (left_of trace i x c.loop-recorded-test.true c.recorded-item.is) c.loop-recorded.invariant.under_way)
          c.in_ok-made.made.items c.pass.new.running c.in_ok-made.ensures);
    }

pub returns-clause-steps : goal.returns-clause-steps
returns-clause-steps g c =
    let s = setup_of (g.H.Hash32.digest_of c.args.trail.now.hasher) c.args.board.now in
    let b = c.args.board.now in
    let ms = c.args.trail.now.messages in
    let trace = c.args.trace.now in
    let all = translated s (events_of trace) in
    let last = last_configuration s (events_of trace) in
    (ended s b ms (end_of s trace) (few_outputs s b ms trace c.requires.run c.requires.room) c.loop-recorded.running []
    c.loop-recorded.all all last
    (subst (λ rest. IsUnderWay s b ms (end_of s trace) c.loop-recorded.running rest c.loop-recorded.all all last)
    (drop_all c.loop-recorded.recorded-index trace c.loop-recorded-test.false) c.loop-recorded.invariant.under_way)).0

pub returns-clause-last : goal.returns-clause-last
returns-clause-last g c =
    let s = setup_of (g.H.Hash32.digest_of c.args.trail.now.hasher) c.args.board.now in
    let b = c.args.board.now in
    let ms = c.args.trail.now.messages in
    let trace = c.args.trace.now in
    let all = translated s (events_of trace) in
    let last = last_configuration s (events_of trace) in
    (ended s b ms (end_of s trace) (few_outputs s b ms trace c.requires.run c.requires.room) c.loop-recorded.running []
    c.loop-recorded.all all last
    (subst (λ rest. IsUnderWay s b ms (end_of s trace) c.loop-recorded.running rest c.loop-recorded.all all last)
    (drop_all c.loop-recorded.recorded-index trace c.loop-recorded-test.false) c.loop-recorded.invariant.under_way)).1
