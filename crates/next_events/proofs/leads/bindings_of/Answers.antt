use Rattle.std.proofs.Common.{sym}
use Rattle.next_events.proofs.Bound.{bindings_there, bindings_nowhere}
use Rattle.next_events.proofs.leads.bindings_of.Goals as goal

pub returns-in-Some : goal.returns-in-Some
returns-in-Some c =
    sym (bindings_there c.args.config.now.advertised c.args.contract c.in-Some.bindings.now (sym c.in-Some.ensures))

pub returns-in-None : goal.returns-in-None
returns-in-None c = sym (bindings_nowhere c.args.config.now.advertised c.args.contract (sym c.in-None.ensures))
