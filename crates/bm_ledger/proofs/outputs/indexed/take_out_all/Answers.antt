use Rattle.std.proofs.Common.{◌∙◌}
use Rattle.bm_ledger.proofs.Thinning.{thinned}
use Rattle.bm_ledger.proofs.outputs.indexed.take_out_all.Goals as goal

pub returns-clause-removed : goal.returns-clause-removed
returns-clause-removed c =
    c.keep_numbered.ensures ∙ (thinned _ _ _ c.args.entries.now.items c.requires.indexed c.forget_numbers.ensures).0

pub returns-clause-indexed : goal.returns-clause-indexed
returns-clause-indexed c =
    rw (returns-clause-removed c) ((thinned _ _ _ c.args.entries.now.items c.requires.indexed c.forget_numbers.ensures).1)
