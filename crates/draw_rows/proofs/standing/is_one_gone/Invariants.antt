use Rattle.std.proofs.Common.{◌≡◌, drop}
use Rattle.std.specs.Prelude.{not}
use Rattle.std.specs.List.{list_any}
use Rattle.spec_terms.specs.Precondition.{persistent}
use Rattle.spec_next.specs.Requirements.{isnt_gone}
use Rattle.draw_rows.proofs.standing.is_one_gone.Given as goal

abbrev pub invariant-loop-entry : goal.invariant-loop-entry
invariant-loop-entry l =
    list_any (λ d. not (isnt_gone l.config l.contract (d.0))) (persistent (drop l.entry-index l.pre))
    ≡ list_any (λ d. not (isnt_gone l.config l.contract (d.0))) (persistent l.pre)
