use Rattle.std.proofs.Common.{ap, ◌∙◌}
use Rattle.spec_data.specs.Lists.{look_up}
use Rattle.bm_translate.proofs.Lookups.{digests_none, digest_looked}
use Rattle.bm_translate.proofs.watching.digest_of.Goals as goal

pub returns-in-Some : goal.returns-in-Some
returns-in-Some c =
    c.digest_in.ensures ∙ ap (look_up c.args.secret.now.secret) c.in-Some.ensures.digests
    ∙ digest_looked c.args.exchange.now.promises c.args.secret.now

pub returns-in-None : goal.returns-in-None
returns-in-None c =
    ap (look_up c.args.secret.now.secret)
    (digests_none c.args.exchange.now.promises c.args.secret.now.contract c.args.secret.now.party c.in-None.ensures.there)
    ∙ digest_looked c.args.exchange.now.promises c.args.secret.now
