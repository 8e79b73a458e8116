use Rattle.bitml_next.proofs.Headlines.{tells_all}
use Rattle.bitml_next.proofs.theorem.by_theorems.Goals as goal

pub returns : goal.returns
returns c = tells_all (record {
  valid = c.requires.valid;
  asked = c.requires.asked;
  said = c.requires.said;
  once = c.requires.once;
  outstanding = c.requires.outstanding;
  waits = c.requires.waits;
  named = c.requires.named;
  never = c.requires.never;
  hands = c.requires.hands;
  listed = c.requires.listed;
  together = c.requires.together;
  read = c.requires.read;
  leads = c.requires.leads;
  last = c.requires.last;
  ready = c.requires.ready;
  by_hand = c.requires.by_hand;
  others = c.requires.others;
  alone = c.requires.alone;
  shown_alone = c.requires.shown_alone;
  lines = c.requires.lines;
  run = c.requires.run;
  go = c.requires.go;
  files = c.requires.files;
})
