use Rattle.std.proofs.Common.{◌∙◌, sym, map}
use Rattle.spec_bitcoin.specs.Keys.{pay_to}
use Rattle.deal_compile.proofs.Own.{nobody_of}
use Rattle.deal_compile.proofs.circle.paid_here.Goals as goal

pub returns-then-is_empty : goal.returns-then-is_empty
returns-then-is_empty g c =
    nobody_of (map (λ p. pay_to (g.H.Hash32.digest_of c.args.hasher.now (p.1))) c.args.scripts.now) c.args.payees.now c.args.parties.now
    (sym c.is_empty.ensures ∙ c.if-is_empty.true)
