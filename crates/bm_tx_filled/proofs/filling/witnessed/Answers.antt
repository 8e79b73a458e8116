use Rattle.std.proofs.Common.{◌∙◌, ◌∷◌, [], ◌++◌, ap}
use Rattle.bm_tx_filled.specs.Filled.{input_with}
use Rattle.bm_tx_filled.proofs.Inputs.{witnessed_step}
use Rattle.bm_tx_filled.proofs.filling.witnessed.Goals as goal

pub loop-k-preserved : goal.loop-k-preserved
loop-k-preserved c =
    let made = c.in_ok-input_with.ensures ∙ ap (input_with c.index-inputs-k.result) c.witness_at.ensures in
    witnessed_step c.args.inputs.now c.args.witnesses.now c.loop-k.k c.index-inputs-k.result c.loop-k.new _ _ c.loop-k-test.true c.index-inputs-k.is
    (c.in_ok-push.ensures.ok ∙ ap (λ i. c.loop-k.new ++ i ∷ []) made) c.loop-k.invariant
