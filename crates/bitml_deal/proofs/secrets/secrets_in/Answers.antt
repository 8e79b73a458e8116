use Rattle.std.proofs.Common.{Some, sym, ap, subst, ◌∙◌}
use Rattle.std.specs.Prelude.{IfOk}
use Rattle.spec_tool.specs.Reads.{Text}
use Rattle.spec_chain.specs.Answers.{told_in}
use Rattle.spec_deal.specs.Setting.{deal_instance}
use Rattle.bitml_deal.specs.Later.{Tells}
use Rattle.bitml_deal.proofs.secrets.secrets_in.Goals as goal

pub returns-in-Some : goal.returns-in-Some
returns-in-Some g c =
    subst (λ (text : Text). IfOk c.secrets_of.result (Tells (told_in (g.H.Hash32.digest_of c.args.trail.now.hasher)
    (deal_instance c.args.compiled.now.contract c.args.compiled.now.deal) c.args.trail.now.messages text)))
    (ap Some c.as_slice.ensures ∙ sym c.in-Some.is) c.secrets_of.ensures
