use Rattle.std.proofs.Common.{◌≡◌, ◌++◌, drop, map}
use Rattle.spec_terms.specs.Precondition.{secrets}
use Rattle.spec_next.specs.FirstLines.{placeholder, secret_lines}
use Rattle.next_text.proofs.header.put_secrets.Given as goal

abbrev pub invariant-loop-entry : goal.invariant-loop-entry
invariant-loop-entry l =
    l.out.items ++ secret_lines (secrets (drop l.entry-index l.pre)) (map (λ x. placeholder) (secrets (drop l.entry-index l.pre)))
    ≡ l.initial.out.items ++ secret_lines (secrets l.pre) (map (λ x. placeholder) (secrets l.pre))
