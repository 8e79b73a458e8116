use Rattle.std.proofs.Common.{◌≡◌, drop}
use Rattle.std.specs.List.{list_any}
use Rattle.spec_chain.specs.Outputs.{is_deposit}
use Rattle.deal_state.proofs.outstanding.is_live.Given as goal

abbrev pub invariant-loop-output : goal.invariant-loop-output
invariant-loop-output l =
    list_any (is_deposit l.name) (drop l.output-index l.live) ≡ list_any (is_deposit l.name) l.live
