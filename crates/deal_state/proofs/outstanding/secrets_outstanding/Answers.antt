use Rattle.std.proofs.Common.{◌≡◌, true, not, sym, subst, ap, ◌∙◌}
use Rattle.std.specs.Prelude.{is_some}
use Rattle.std.specs.List.{list_all}
use Rattle.std.proofs.lemmas.Result.{IfOk-weaker}
use Rattle.spec_data.specs.Lists.{look_up}
use Rattle.spec_terms.specs.Precondition.{secrets}
use Rattle.spec_run.specs.Firing.{revealed_by}
use Rattle.spec_deal.specs.SecretFile.{string_for}
use Rattle.deal_state.specs.Prospects.{hidden_in}
use Rattle.deal_state.proofs.Known.{some_known}
use Rattle.deal_state.proofs.outstanding.secrets_outstanding.Goals as goal

pub returns-clause-known : goal.returns-clause-known
returns-clause-known c =
    IfOk-weaker c.hidden.result _ _
    (λ v e.
    subst (λ names. list_all (λ a. is_some (look_up a (secrets c.args.checked.now.pre))) names ≡ true)
    (sym (e ∙ ap (hidden_in c.args.strings.now) (c.revealed_by.ensures ∙ ap revealed_by c.requires)))
    (some_known c.args.checked.now c.is_well_formed.ensures (λ a. not (is_some (string_for c.args.strings.now a))) c.args.which.now))
    c.hidden.ensures
