use Rattle.std.proofs.Common.{◌≡◌, sym, ◌∙◌, arith}
use Rattle.std.proofs.lemmas.Slice.Eq.{bytes_eq-Decides}
use Rattle.deal_secrets.proofs.LinesSay.{secret_found}
use Rattle.deal_secrets.proofs.required.secret_named.Goals as goal

pub returns-then-eq : goal.returns-then-eq
returns-then-eq c =
    let same : c.in-Secret.name ≡ c.args.word.now =
    sym c.bytes.ensures.bytes ∙ (bytes_eq-Decides c.bytes.result.now c.args.word.now).0 (sym c.eq.ensures ∙ c.if-eq.true) in
    secret_found c.args.pre.now c.args.word.now c.in-Secret.name c.in-Secret.party c.entry-item.result c.loop-entry.entry-index
    (omega arith) c.entry-item.is c.in-Secret.is same c.loop-entry.invariant
