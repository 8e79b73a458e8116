use Rattle.std.proofs.Common.{◌≡◌, ◌++◌, drop}
use Rattle.std.specs.List.{flat_map}
use Rattle.spec_terms.specs.Precondition.{secrets, names_of}
use Rattle.spec_deal.specs.SecretFile.{string_for}
use Rattle.spec_chain.specs.StateText.{string_line}
use Rattle.deal_state.proofs.text.put_secrets.Given as goal

abbrev pub invariant-loop-entry : goal.invariant-loop-entry
invariant-loop-entry l =
    l.out.items ++ flat_map (λ name. string_line name (string_for l.strings name)) (names_of (secrets (drop l.entry-index l.pre)))
    ≡ l.initial.out.items ++ flat_map (λ name. string_line name (string_for l.strings name)) (names_of (secrets l.pre))
