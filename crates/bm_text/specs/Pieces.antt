-- What a text is that is written piece by piece.
use Rattle.std.specs.Prelude.{List, [], ◌∷◌, ◌++◌, ℕ}
use Rattle.std.specs.Fmt.{decimal}
use Rattle.spec_data.specs.Digits.{hex_text}
use Rattle.bm_text.specs.declared.pieces.Piece.{Piece}
use Rattle.bm_text.specs.declared.pieces.Piece.TheVariants.{Text, Number, Hex}

-- what a piece writes
abbrev pub piece_text : Piece → List ℕ
piece_text (Text text) = text.now
piece_text (Number number) = decimal number
piece_text (Hex bytes) = hex_text bytes.now

-- what pieces write, one behind another
abbrev pub pieces_text : List Piece → List ℕ
pieces_text [] = []
pieces_text (p ∷ []) = piece_text p
pieces_text (p ∷ q ∷ ps) = piece_text p ++ pieces_text (q ∷ ps)
