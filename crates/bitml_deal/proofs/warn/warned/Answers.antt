use Rattle.std.proofs.Common.{refl, ◌∙◌}
use Rattle.spec_deal.specs.Setting.{deal_keys, deal_instance}
use Rattle.spec_deal.specs.WarnText.{warn_text}
use Rattle.bitml_deal.proofs.Replies.{replied}
use Rattle.bitml_deal.proofs.warn.warned.Goals as goal

pub returns : goal.returns
returns c = λ hash made.
    let keys = deal_keys c.args.compiled.now.deal in
    let s = deal_instance c.args.compiled.now.contract c.args.compiled.now.deal in
    replied c.new.result 0 (warn_text hash keys s c.args.strings.now) c.new.ensures.status
    (c.new.ensures.text ∙ c.in_ok-text.ensures hash keys s refl (c.as_slice.ensures ∙ made.transactions) (c.as_slice-2.ensures ∙ made.scripts))
