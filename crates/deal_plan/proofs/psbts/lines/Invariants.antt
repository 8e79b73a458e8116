use Rattle.std.proofs.Common.{◌≡◌, ◌++◌, drop, true}
use Rattle.std.specs.List.{flat_map, list_all}
use Rattle.spec_tool.specs.PsbtText.{psbt_line}
use Rattle.deal_compile.specs.Signable.{is_signable}
use Rattle.deal_plan.specs.PsbtParts.{psbt_for}
use Rattle.deal_plan.proofs.psbts.lines.Given as goal

abbrev pub invariant-loop-transaction : goal.invariant-loop-transaction
invariant-loop-transaction l = record {
  signable : list_all is_signable (drop l.transaction-index l.transactions) ≡ true;
  told : l.out.items ++ flat_map (λ t. psbt_line (psbt_for t)) (drop l.transaction-index l.transactions)
      ≡ flat_map (λ t. psbt_line (psbt_for t)) l.transactions;
}
