-- How the code judges a strategy file, as the definitions have it.
use Rattle.std.specs.Prelude.{List, Ok, Err}
use Rattle.spec_text.specs.Refusals.{Judged}
use Rattle.spec_tool.specs.declared.rule.Rule.{Rule}
use Rattle.bm_auto.specs.declared.judging.StrategyJudgement.{StrategyJudgement}
use Rattle.bm_auto.specs.declared.judging.StrategyJudgement.TheVariants.{Taken, Refused}

abbrev pub judged : StrategyJudgement → Judged (List Rule)
judged (Taken rules) = Ok rules.items
judged (Refused why) = Err why
