use Rattle.std.proofs.Common.{ℕ, List, sym, ap, ◌∙◌}
use Rattle.std.specs.Prelude.{is_some}
use Rattle.spec_data.specs.Lists.{is_among, look_up}
use Rattle.spec_deal.specs.Setting.{deal_keys}
use Rattle.deal_file.proofs.WholeLemmas.{looked_up}
use Rattle.deal_file.proofs.used.is_user.Goals as goal

pub returns : goal.returns
returns c =
    let deal = c.args.deal.now in
    c.uses_key.ensures (deal_keys deal) (λ name. looked_up deal.wallets name ∙ ap (is_among name) (sym c.requires.brought))
    (c.has_script-has_payee.ensures ∙ ap (λ (ps : List (List ℕ × List ℕ)). is_some (look_up c.args.party.now ps)) c.as_slice.ensures)
