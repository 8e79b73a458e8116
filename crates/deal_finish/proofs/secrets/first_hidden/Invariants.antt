use Rattle.std.proofs.Common.{◌≡◌, drop, not}
use Rattle.std.specs.Prelude.{is_some}
use Rattle.std.specs.List.{find}
use Rattle.spec_deal.specs.SecretFile.{string_for}
use Rattle.deal_finish.proofs.secrets.first_hidden.Given as goal

abbrev pub invariant-loop-name : goal.invariant-loop-name
invariant-loop-name l =
    find (λ name. not (is_some (string_for l.strings name))) (drop l.name-index l.names)
    ≡ find (λ name. not (is_some (string_for l.strings name))) l.names
