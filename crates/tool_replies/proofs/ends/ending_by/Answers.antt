use Rattle.std.proofs.Common.{◌≡◌, length, Some, refl, subst}
use Rattle.std.specs.Prelude.{IfOk, option_map}
use Rattle.std.proofs.lemmas.Result.{IfOk-weaker}
use Rattle.std.proofs.lemmas.Option.{slice_get_within, slice_get_read}
use Rattle.spec_text.specs.PlayText.{Ending}
use Rattle.spec_text.specs.Played.{halted, ending}
use Rattle.bm_world.specs.Halts.{halt_of}
use Rattle.bm_report.specs.Endings.{ending_of}
use Rattle.bm_world.specs.Playing.{setup_in}
use Rattle.tool_replies.specs.Whole.{IsLeft}
use Rattle.tool_replies.proofs.Left.{last_is_numbered, event_is, whole_ends}
use Rattle.tool_replies.proofs.ends.ending_by.Goals as goal

pub whole_ending-requires : goal.whole_ending-requires
whole_ending-requires g c =
    let digest = g.H.Hash32.digest_of in
    let w = c.args.world.now in
    last_is_numbered digest (setup_in digest w) c.args.events.now w c.args.stop c.requires.left c.args.last c.requires.last

pub bounds-events-number : goal.bounds-events-number
bounds-events-number g c =
    let digest = g.H.Hash32.digest_of in
    let w = c.args.world.now in
    let l = subst (IsLeft digest (setup_in digest w) c.args.events.now w) c.in-Some.is c.requires.left in
    slice_get_within c.args.events.now c.in-Some.number (l.stops.0) (l.stops.2)

pub returns-in-None-clause-ending : goal.returns-in-None-clause-ending
returns-in-None-clause-ending g c =
    let digest = g.H.Hash32.digest_of in
    let w = c.args.world.now in
    let l = subst (IsLeft digest (setup_in digest w) c.args.events.now w) c.in-None.is c.requires.left in
    subst (λ (x : Ending). IfOk c.whole_ending.result (λ end. ending_of end ≡ x))
    (whole_ends digest (setup_in digest w) c.args.events.now w l c.ledger.result.now c.args.last _ c.ledger.ensures c.requires.last refl)
    c.whole_ending.ensures.whole

pub returns-in-Some-clause-ending : goal.returns-in-Some-clause-ending
returns-in-Some-clause-ending g c =
    let digest = g.H.Hash32.digest_of in
    let w = c.args.world.now in
    let es = c.args.events.now in
    let l = subst (IsLeft digest (setup_in digest w) es w) c.in-Some.is c.requires.left in
    let e = c.index-events-number.result in
    IfOk-weaker c.halted_ending.result (λ end. Some (ending_of end) ≡ option_map (halted e) (halt_of c.in-Some.halt))
    (λ end. ending_of end ≡ ending (setup_in digest w) es)
    (λ end told. event_is digest (setup_in digest w) es w c.in-Some.number c.in-Some.halt l e (ending_of end)
    (slice_get_read es (length es) c.in-Some.number e refl (slice_get_within es c.in-Some.number (l.stops.0) (l.stops.2)) c.index-events-number.is)
    told)
    c.halted_ending.ensures.ending
