use Rattle.tool_headline.proofs.Headlines.{headlines}
use Rattle.tool_headline.proofs.theorem.by_theorems.Goals as goal

pub returns : goal.returns
returns c = headlines (record {
  causes = c.requires.causes;
  statuses = c.requires.statuses;
  ends = c.requires.ends;
  headline = c.requires.headline;
  kept = c.requires.kept;
  leave = c.requires.leave;
  told = c.requires.told;
  commands = c.requires.commands;
  files = c.requires.files;
})
