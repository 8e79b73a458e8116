-- A book to which pairs are added.
use Rattle.std.proofs.Common.{◌≡◌, List, length, take, sym, ap, ◌∙◌, arith, subst}
use Rattle.std.proofs.lemmas.List.{take-take}
use Rattle.spec_bitcoin.specs.Keys.{Pair}
use Rattle.spec_run.specs.Signing.{signed}
use Rattle.bm_world_board.specs.Prepares.{IsPrefix}
use Rattle.bm_world_board.proofs.Refusals.{prefix_signed}

prefix_then : (a b c : List Pair) → IsPrefix a b → IsPrefix b c → IsPrefix a c
prefix_then a b c f g = record {
  few = omega arith;
  same = sym (take-take (length a) (length b) c f.few) ∙ ap (take (length a)) g.same ∙ f.same;
}

-- a prefix of a book is one of the book with a pair more
pub prefix_longer : (first book next : List Pair) (pair : Pair) → IsPrefix first book → next ≡ signed book pair → IsPrefix first next
prefix_longer first book next pair f e = subst (IsPrefix first) (sym e) (prefix_then first book (signed book pair) f (prefix_signed book pair))
