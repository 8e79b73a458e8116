use Rattle.std.proofs.Common.{◌≡◌, ◌++◌, drop}
use Rattle.std.specs.List.{flat_map}
use Rattle.draw_page.specs.Pieces.{piece_text, pieces_text}
use Rattle.draw_page.proofs.pieces.put_all.Given as goal

abbrev pub invariant-loop-piece : goal.invariant-loop-piece
invariant-loop-piece l = l.out.items ++ flat_map piece_text (drop l.piece-index l.pieces) ≡ l.initial.out.items ++ pieces_text l.pieces
