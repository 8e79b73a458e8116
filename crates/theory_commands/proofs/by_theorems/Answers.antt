use Rattle.theory_commands.proofs.Commands.{commands_show}
use Rattle.theory_commands.proofs.by_theorems.Goals as goal

pub returns : goal.returns
returns c = commands_show (record {
  paths = c.requires.paths;
  scripts = c.requires.scripts;
  in_order = c.requires.in_order;
  money = c.requires.money;
  bounds = c.requires.bounds;
  sums = c.requires.sums;
  totals = c.requires.totals;
  sizes = c.requires.sizes;
  signers = c.requires.signers;
})
