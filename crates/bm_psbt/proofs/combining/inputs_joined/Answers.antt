use Rattle.spec_tool.specs.PsbtBytes as spec
use Rattle.bm_psbt.proofs.InputTurns.{joined_turn}
use Rattle.bm_psbt.proofs.combining.inputs_joined.Goals as goal

pub loop-input-preserved : goal.loop-input-preserved
loop-input-preserved c =
    let t = joined_turn c.args.inputs.now c.loop-input.rest.now c.in_ok-rest.rest.now
    c.loop-input.all c.push_joined.new.all c.loop-input.input-index c.input-item.result (spec.inputs_joined c.args.inputs.now c.args.others.now)
    c.loop-input-test.true c.input-item.is c.loop-input.invariant.inputs
    c.loop-input.invariant.others c.in_ok-rest.ensures.all c.in_ok-rest.ensures.rest c.loop-input.invariant.whole in
    record { inputs = t.inputs; others = t.others; whole = t.whole }
