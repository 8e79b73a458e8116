-- What a text of a page is that is written piece by piece.
use Rattle.std.specs.Prelude.{List, [], ◌∷◌, ◌++◌, ℕ}
use Rattle.std.specs.Fmt.{decimal}
use Rattle.spec_page.specs.Figures.{sum_text}
use Rattle.spec_page.specs.Html.{escaped}
use Rattle.draw_page.specs.declared.pieces.Piece.{Piece}
use Rattle.draw_page.specs.declared.pieces.Piece.TheVariants.{Mark, Said, Number, Sum, PlainNumber, PlainSum}

-- what a piece writes
abbrev pub piece_text : Piece → List ℕ
piece_text (Mark text) = text.now
piece_text (Said text) = escaped text.now
piece_text (Number number) = escaped (decimal number)
piece_text (Sum sum) = escaped (sum_text sum)
piece_text (PlainNumber number) = decimal number
piece_text (PlainSum sum) = sum_text sum

-- what pieces write, one behind another
abbrev pub pieces_text : List Piece → List ℕ
pieces_text [] = []
pieces_text (p ∷ []) = piece_text p
pieces_text (p ∷ q ∷ ps) = piece_text p ++ pieces_text (q ∷ ps)
