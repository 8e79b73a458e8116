use Rattle.std.proofs.Common.{arith}
use Rattle.bm_auto.proofs.RuleLemmas.{rules_more}
use Rattle.bm_auto.proofs.read.read_strategy.Goals as goal

pub loop-rest-preserved : goal.loop-rest-preserved
loop-rest-preserved c = record {
  told =
      let cut = c.first_line.result in
      rules_more c.args.header.now c.loop-rest.rules.items c.take_rule.new.rules.items c.loop-rest.line c.loop-rest.rest.now
      cut.0.now cut.1.now _ c.first_line.ensures.line c.in_default.ensures c.loop-rest.invariant.told;
  line = omega arith;
}
