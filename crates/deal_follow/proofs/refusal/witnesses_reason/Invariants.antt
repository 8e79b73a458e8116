use Rattle.std.proofs.Common.{◌≡◌, drop}
use Rattle.spec_chain.specs.Refusals.{witnesses_reason}
use Rattle.deal_follow.proofs.refusal.witnesses_reason.Given as goal

abbrev pub invariant-loop-one : goal.invariant-loop-one
invariant-loop-one g l =
    let hash = g.H.Hash32.digest_of l.hasher in
    witnesses_reason hash l.number (drop l.one-index l.spent) l.rest ≡ witnesses_reason hash 0 l.spent l.inputs
