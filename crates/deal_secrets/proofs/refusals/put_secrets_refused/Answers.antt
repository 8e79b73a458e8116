use Rattle.std.proofs.Common.{◌≡◌, ◌++◌, subst, OnOk}
use Rattle.deal_secrets.proofs.RefusedTold.{line_is}
use Rattle.deal_secrets.proofs.refusals.put_secrets_refused.Goals as goal

pub returns : goal.returns
returns c =
    subst (λ more. OnOk c.put_line.result (c.put_line.new.out.items ≡ c.args.out.now.items ++ more)) (line_is c.args.fault)
    c.put_line.ensures
