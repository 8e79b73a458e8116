use Rattle.std.proofs.Common.{◌≡◌, ◌+◌, ◌++◌, map, drop}
use Rattle.spec_show.specs.Made.{parts_made}
use Rattle.bm_syntax.specs.View.{parts_view}
use Rattle.deal_show.specs.Making.{made_in}
use Rattle.deal_show.proofs.made.parts_made.Given as goal

-- what is there, and what is left, are the whole
abbrev pub invariant-loop-part : goal.invariant-loop-part
invariant-loop-part l = record {
  number : l.number ≡ 0 + l._part-index;
  told : map made_in l.made.items ++ parts_made l.path l.number (parts_view (drop l._part-index l.parts)) ≡ parts_made l.path 0 (parts_view l.parts);
}
