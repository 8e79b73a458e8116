use Rattle.std.proofs.Common.{◌≡◌, ◌++◌, drop}
use Rattle.std.specs.List.{flat_map}
use Rattle.bm_text.specs.Pieces.{piece_text, pieces_text}
use Rattle.bm_text.proofs.pieces.put_all.Given as goal

abbrev pub invariant-loop-piece : goal.invariant-loop-piece
invariant-loop-piece l = l.out.items ++ flat_map piece_text (drop l.piece-index l.pieces) ≡ l.initial.out.items ++ pieces_text l.pieces
