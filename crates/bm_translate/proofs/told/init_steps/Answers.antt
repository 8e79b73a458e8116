use Rattle.std.proofs.Common.{◌∙◌}
use Rattle.bm_translate.proofs.Asked.{allows}
use Rattle.bm_translate.proofs.told.init_steps.Goals as goal

pub returns-clause-run : goal.returns-clause-run
returns-clause-run c = λ s w e money advertised.
    rw c.bindings_of.ensures at c.in_ok-made.ensures ∙ allows s c.args.config.now w money advertised c.args.contract c.args.party.now c.args.pre.now e
