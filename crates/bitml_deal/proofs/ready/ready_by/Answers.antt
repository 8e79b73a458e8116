use Rattle.std.proofs.Common.{ℕ, Bool, refl, ap, ◌∙◌}
use Rattle.std.specs.Prelude.{if◌then◌else◌}
use Rattle.spec_deal.specs.Setting.{deal_keys, deal_instance}
use Rattle.spec_deal.specs.ReadyText.{is_ready, ready_text}
use Rattle.bitml_deal.proofs.Replies.{replied}
use Rattle.bitml_deal.proofs.ready.ready_by.Goals as goal

pub returns : goal.returns
returns c = λ hash made.
    let keys = deal_keys c.args.compiled.now.deal in
    let s = deal_instance c.args.compiled.now.contract c.args.compiled.now.deal in
    let transactions = c.as_slice-transactions.ensures ∙ made.transactions in
    let warnings = c.in_ok-warnings.ensures hash keys s refl transactions (c.as_slice-scripts.ensures ∙ made.scripts) in
    replied c.new.result (if is_ready hash keys s c.args.given.now then 0 else 16) (ready_text hash keys s c.args.given.now c.args.strings.now)
    (c.new.ensures.status ∙ c.status_of.ensures ∙ ap (λ (b : Bool). if b then 0 else 16) (c.in_ok-is_ready.ensures hash keys s transactions))
    (c.new.ensures.text ∙ c.in_ok-text.ensures hash keys s c.args.strings.now (c.deref.ensures.value ∙ warnings) transactions)
