use Rattle.std.proofs.Common.{◌≡◌, drop}
use Rattle.std.specs.List.{list_any}
use Rattle.spec_page.specs.Statuses.{is_agreement}
use Rattle.draw_rows.proofs.looks.has_agreed.Given as goal

abbrev pub invariant-loop-agreement : goal.invariant-loop-agreement
invariant-loop-agreement l =
    list_any (is_agreement l.taking l.party) (drop l.agreement-index l.moment.agreed)
    ≡ list_any (is_agreement l.taking l.party) l.moment.agreed
