use Rattle.std.proofs.Common.{◌≡◌, ◌≤◌, ◌+◌, length}
use Rattle.spec_text.specs.Lines.{lines_of}
use Rattle.spec_tool.specs.Strategy.{rules_from}
use Rattle.bm_auto.specs.Gives.{with_rules}
use Rattle.bm_auto.proofs.read.read_strategy.Given as goal

abbrev pub invariant-loop-rest : goal.invariant-loop-rest
invariant-loop-rest l = record {
  told : with_rules l.rules.items (rules_from l.header (length l.rules.items) l.line (lines_of l.rest))
      ≡ rules_from l.header 0 1 (lines_of l.text);
  line : l.line + length l.rest ≤ 1 + length l.text;
}

abbrev pub decreases-loop-rest : goal.decreases-loop-rest
decreases-loop-rest l = length l.rest
