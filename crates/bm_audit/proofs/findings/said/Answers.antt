use Rattle.std.proofs.Common.{Some, None, refl, sym, ap}
use Rattle.spec_tool.specs.declared.finding.Kind.TheVariants as kinds
use Rattle.spec_tool.specs.Audit.{empty, not_hex, bad}
use Rattle.bm_audit.specs.Lines.{given_of}
use Rattle.bm_audit.proofs.Composed.{takes_quiet}
use Rattle.bm_audit.proofs.findings.said.Goals as goal

pub returns-in-Empty-clause-took : goal.returns-in-Empty-clause-took
returns-in-Empty-clause-took g c =
    takes_quiet g.H.Hash32.digest_of c.args.world.now c.args.catalog.now empty (given_of c.args.line.now) None (ap given_of (sym c.in-Empty.is))
    refl refl

pub returns-in-NotHex-clause-took : goal.returns-in-NotHex-clause-took
returns-in-NotHex-clause-took g c =
    takes_quiet g.H.Hash32.digest_of c.args.world.now c.args.catalog.now not_hex (given_of c.args.line.now) (Some kinds.NotHex)
    (ap given_of (sym c.in-NotHex.is)) refl refl

pub returns-in-Bad-clause-took : goal.returns-in-Bad-clause-took
returns-in-Bad-clause-took g c =
    takes_quiet g.H.Hash32.digest_of c.args.world.now c.args.catalog.now (bad c.in-Bad.place) (given_of c.args.line.now)
    (Some (kinds.Bad c.in-Bad.place)) (ap given_of (sym c.in-Bad.is)) refl refl

pub returns-in-Read-clause-took : goal.returns-in-Read-clause-took
returns-in-Read-clause-took g c = c.said_of.ensures.took (given_of c.args.line.now) (ap given_of (sym c.in-Read.is))

pub returns-in-Read-clause-stopped : goal.returns-in-Read-clause-stopped
returns-in-Read-clause-stopped g c = c.said_of.ensures.stopped (given_of c.args.line.now) (ap given_of (sym c.in-Read.is))
