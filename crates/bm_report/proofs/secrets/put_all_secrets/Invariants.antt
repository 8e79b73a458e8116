use Rattle.std.proofs.Common.{◌≡◌, ◌+◌, ◌++◌, drop}
use Rattle.spec_text.specs.PlayText.{secret_lines}
use Rattle.bm_report.proofs.secrets.put_all_secrets.Given as goal

abbrev pub invariant-loop-contract : goal.invariant-loop-contract
invariant-loop-contract l = record {
  number : l.number ≡ 0 + l.contract-index;
  told : l.out.items ++ secret_lines l.config l.number (drop l.contract-index l.contracts)
      ≡ l.initial.out.items ++ secret_lines l.config 0 l.contracts;
}
