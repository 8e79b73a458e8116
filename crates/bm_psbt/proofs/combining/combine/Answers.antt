use Rattle.bm_psbt.proofs.Combined.{joined_is_psbt}
use Rattle.bm_psbt.proofs.combining.combine.Goals as goal

pub made-requires : goal.made-requires
made-requires c =
    joined_is_psbt c.args.first.now c.args.second.now c.tx-tx.result.now c.in_ok-tx.tx c.inputs_of-inputs.result.now
    c.inputs_of-others.result.now c.in_ok-all.all
    c.tx-tx.ensures.is c.tx-tx.ensures.tx c.inputs_of-inputs.ensures.inputs c.inputs_of-others.ensures.inputs c.in_ok-tx.ensures c.in_ok-all.ensures
