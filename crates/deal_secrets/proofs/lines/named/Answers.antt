use Rattle.std.proofs.Common.{◌≡◌, List, ℕ, Some, subst, sym, ◌∙◌}
use Rattle.std.specs.Prelude.{IfOk, option_map}
use Rattle.spec_data.specs.Digits.{read_hex}
use Rattle.spec_deal.specs.Needed.{needed_secrets}
use Rattle.deal_secrets.specs.Offers.{string_of}
use Rattle.deal_secrets.proofs.LinesSay.{is_word}
use Rattle.deal_secrets.proofs.lines.named.Goals as goal

pub returns-in-Some-clause-shown : goal.returns-in-Some-clause-shown
returns-in-Some-clause-shown c =
    subst (λ (name : List ℕ). IfOk c.shown_by.result (λ shown. Some shown ≡ option_map (string_of c.args.line name) (read_hex c.args.word.now)))
    (is_word (needed_secrets c.args.checked.now) c.args.name.now c.in-Some.name (sym c.secret_of.ensures ∙ c.in-Some.is))
    c.shown_by.ensures.shown
