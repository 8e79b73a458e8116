use Rattle.bitml_draw.proofs.Headlines.{draws_all}
use Rattle.bitml_draw.proofs.theorem.by_theorems.Goals as goal

pub returns : goal.returns
returns c = draws_all (record {
  valid = c.requires.valid;
  causes = c.requires.causes;
  runs = c.requires.runs;
  contracts = c.requires.contracts;
  files = c.requires.files;
  order = c.requires.order;
  formed = c.requires.formed;
  svgs = c.requires.svgs;
  apart = c.requires.apart;
  tells = c.requires.tells;
  ids = c.requires.ids;
  svg_ids = c.requires.svg_ids;
  safe = c.requires.safe;
  branches = c.requires.branches;
  events = c.requires.events;
  lines = c.requires.lines;
  outcomes = c.requires.outcomes;
  looks = c.requires.looks;
  moments = c.requires.moments;
  sums = c.requires.sums;
  money = c.requires.money;
})
