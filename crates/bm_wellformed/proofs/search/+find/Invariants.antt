use Rattle.std.proofs.Common.{◌≡◌, ◌+◌, ◌*◌, ◌≤◌, drop, length}
use Rattle.spec_terms.specs.Readable.{depth_of_choice, depth_of_parts}
use Rattle.bm_syntax.specs.View.{choice_view, parts_view}
use Rattle.bm_wellformed.specs.Small.{AreSmall, AreSmallParts}
use Rattle.bm_wellformed.specs.Search.{found_in_branches, found_in_parts}
use Rattle.bm_wellformed.proofs.search.+find.Given as goal

abbrev pub invariant-in_branches-loop-branch : goal.invariant-in_branches-loop-branch
invariant-in_branches-loop-branch l =
    let rest = choice_view (drop l.branch-index l.branches) in
    record {
      counted : l.number ≡ l.branch-index;
      small : AreSmall rest;
      low : length l.position + 2 * depth_of_choice rest ≤ 128;
      found : found_in_branches l.flaw l.advert l.position l.balance l.number rest
          ≡ found_in_branches l.flaw l.advert l.position l.balance 0 (choice_view l.branches);
    }

abbrev pub invariant-in_parts-loop-part : goal.invariant-in_parts-loop-part
invariant-in_parts-loop-part l =
    let rest = parts_view (drop l.part-index l.parts) in
    record {
      counted : l.number ≡ l.part-index;
      small : AreSmallParts rest;
      low : length l.path + 2 * depth_of_parts rest ≤ 127;
      found : found_in_parts l.flaw l.advert l.path l.number rest ≡ found_in_parts l.flaw l.advert l.path 0 (parts_view l.parts);
    }
