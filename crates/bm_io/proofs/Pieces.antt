-- One piece more is joined at the end.
use Rattle.std.proofs.Common.{◌≡◌, ℕ, List, [], ◌∷◌, ◌++◌, sym, ap, ◌∙◌, append_assoc, append-nil}
use Rattle.std.specs.List.{concat}

pub concat_piece : (pieces : List (List ℕ)) (piece : List ℕ) → concat (pieces ++ piece ∷ []) ≡ concat pieces ++ piece
concat_piece [] piece = append-nil piece
concat_piece (p ∷ ps) piece = ap (λ bytes. p ++ bytes) (concat_piece ps piece) ∙ sym (append_assoc p (concat ps) piece)

-- what is held is the pieces joined, with one piece more
pub held_is : (held new prefix bytes : List ℕ) (pieces now : List (List ℕ))
    → held ≡ concat pieces → new ≡ held ++ prefix → bytes ≡ prefix → now ≡ pieces ++ bytes ∷ [] → new ≡ concat now
held_is held new prefix bytes pieces now whole added same logged =
    added ∙ ap (λ (h : List ℕ). h ++ prefix) whole ∙ sym (concat_piece pieces prefix)
    ∙ ap (λ (b : List ℕ). concat (pieces ++ b ∷ [])) (sym same) ∙ ap concat (sym logged)
