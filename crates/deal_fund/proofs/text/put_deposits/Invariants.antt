use Rattle.std.proofs.Common.{◌≡◌, ◌++◌, drop}
use Rattle.std.specs.List.{flat_map}
use Rattle.spec_terms.specs.Precondition.{deposits}
use Rattle.std.specs.Option.{option_map}
use Rattle.deal_fund.specs.Told.{deposit_text}
use Rattle.deal_fund.proofs.text.put_deposits.Given as goal

abbrev pub invariant-loop-entry : goal.invariant-loop-entry
invariant-loop-entry g l =
    let text = deposit_text (g.H.Hash32.digest_of l.hasher) (option_map (λ n. n.now) l.network) l.part in
    l.out.items ++ flat_map text (deposits (drop l.entry-index l.pre)) ≡ l.initial.out.items ++ flat_map text (deposits l.pre)
