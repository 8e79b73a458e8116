-- Pieces of a text, one behind another.
use Rattle.std.proofs.Common.{◌≡◌, ◌++◌, List, [], ◌∷◌, refl, sym, ap}
use Rattle.std.specs.List.{flat_map}
use Rattle.std.proofs.lemmas.List.{append-nil}
use Rattle.draw_page.specs.declared.pieces.Piece.{Piece}
use Rattle.draw_page.specs.Pieces.{piece_text, pieces_text}

pub pieces_text-flat_map : (ps : List Piece) → pieces_text ps ≡ flat_map piece_text ps
pieces_text-flat_map [] = refl
pieces_text-flat_map (p ∷ []) = sym (append-nil (piece_text p))
pieces_text-flat_map (p ∷ q ∷ ps) = ap (λ rest. piece_text p ++ rest) (pieces_text-flat_map (q ∷ ps))
