use Rattle.std.proofs.Common.{sym, subst}
use Rattle.std.specs.Prelude.{IfSome}
use Rattle.bm_syntax.specs.View.{guarded}
use Rattle.deal_finish.proofs.Bounded.{IsBoundedBranch, bounded_at, if_some_of}
use Rattle.deal_finish.proofs.branches.bounded_at.Goals as goal

pub returns-clause-bounded : goal.returns-clause-bounded
returns-clause-bounded c =
    if_some_of (λ b. guarded b.now) IsBoundedBranch c.at_path.result
    (subst (λ o. IfSome o IsBoundedBranch) (sym c.at_path.ensures)
    (bounded_at c.args.checked.now c.is_well_formed.ensures c.args.path.now))
