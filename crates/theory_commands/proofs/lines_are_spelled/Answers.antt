use Rattle.theory_commands.proofs.LineEvents.{event_spelled, event_back, none_spelled, none_back}
use Rattle.theory_commands.proofs.LineParts.{header_says, header_back}
use Rattle.theory_commands.proofs.LineRules.{rule_spelled, rule_back, no_rule_spelled, no_rule_back}
use Rattle.theory_commands.proofs.lines_are_spelled.Goals as goal

pub returns : goal.returns
returns c = record {
  event = λ parties words e. (event_spelled parties words e, event_back parties words e);
  no_event = λ parties words. (none_spelled parties words, none_back parties words);
  header = λ h words said. (header_says h words said, header_back h words said);
  rule = λ h words r. (rule_spelled h words r, rule_back h words r);
  no_rule = λ h words. (no_rule_spelled h words, no_rule_back h words);
}
