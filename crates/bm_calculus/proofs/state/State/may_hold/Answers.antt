use Rattle.std.proofs.Common.{rules}
use Rattle.bm_syntax.specs.View.{guarded}
use Rattle.bm_calculus.proofs.Taken.{bounded_taken}
use Rattle.bm_calculus.proofs.state.State.may_hold.Goals as goal

pub may_core_hold-requires : goal.may_core_hold-requires
may_core_hold-requires c =
    let bounded =
    bounded_taken c.args.self.now c.args.output c.args.branch c.in-Some.active.now c.in-Some-contract_at.checked.now
    (guarded c.in-Some-branch_in.taken.now) c.requires (search rules) (search rules) (search rules) in
    record { bounded = rw c.core.ensures bounded }
