use Rattle.std.proofs.Common.{◌≡◌, ◌++◌, drop, map}
use Rattle.std.specs.Prelude.{filter}
use Rattle.spec_terms.specs.Precondition.{secrets}
use Rattle.spec_calculus.specs.Offers.{is_enabled}
use Rattle.spec_calculus.specs.declared.step.Step.TheVariants as steps
use Rattle.spec_page.specs.EventWords.{shows_text}
use Rattle.draw_rows.proofs.going.put_reveals.Given as goal

abbrev pub invariant-loop-entry : goal.invariant-loop-entry
invariant-loop-entry l =
    l.found.items ++ map (λ x. shows_text (x.1) (x.0))
    (filter (λ x. is_enabled l.config (steps.Reveal l.contract (x.1) (x.0))) (secrets (drop l.entry-index l.pre)))
    ≡ l.initial.found.items ++ map (λ x. shows_text (x.1) (x.0))
    (filter (λ x. is_enabled l.config (steps.Reveal l.contract (x.1) (x.0))) (secrets l.pre))
