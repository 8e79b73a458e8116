use Rattle.std.proofs.Common.{◌≡◌, IfOk, subst}
use Rattle.deal_compile.proofs.Own.{circle_whole}
use Rattle.deal_compile.proofs.circle.circular.Goals as goal

pub returns : goal.returns
returns g c made placed =
    let hash = g.H.Hash32.digest_of c.args.hasher.now in
    let compiled = c.args.compiled.now in
    subst (λ name. IfOk c.first_circle.result (λ found. found ≡ name))
    (circle_whole hash c.args.checked.now c.args.deal.now compiled.transactions compiled.scripts made placed) c.first_circle.ensures
