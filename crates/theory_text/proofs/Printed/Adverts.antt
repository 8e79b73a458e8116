-- The canonical text of an advert spells it.
use Rattle.std.proofs.Common.{◌≡◌, ℕ, zero, suc, true, List, [], ◌∷◌, ◌++◌, refl, sym, ap, subst, arith, append_assoc, inl, inr}
use Rattle.std.specs.Prelude.{nat_le}
use Rattle.std.specs.Fmt.{decimal}
use Rattle.std.specs.List.{list_all}
use Rattle.spec_data.specs.Ranges.{max_money}
use Rattle.spec_terms.specs.Advert.{Advert}
use Rattle.spec_terms.specs.Readable.{is_some_list, is_readable_entry, is_readable}
use Rattle.spec_terms.specs.declared.pre.Pre.{Pre}
use Rattle.spec_terms.specs.declared.pre.Pre.TheVariants.{Persistent, Volatile, Secret}
use Rattle.spec_text.specs.declared.token.Keyword.TheVariants as word
use Rattle.spec_text.specs.declared.token.Symbol.TheVariants as mark
use Rattle.spec_text.specs.declared.lexeme.Lexeme.{Lexeme}
use Rattle.spec_text.specs.declared.lexeme.Lexeme.TheVariants.{Keyword as keyword, Symbol as symbol, Number as number}
use Rattle.spec_text.specs.Grammar.{entry, more_entries, SpellsFee, Spells}
use Rattle.spec_text.specs.Canonical.{entry_text, rest_entries_text, fee_text, advert_text}
use Rattle.spec_text.specs.Statements.{IsSpelledBy, PrintedAdvertTheorem}
use Rattle.theory_text.proofs.ListFacts.{and_left, and_right}
use Rattle.theory_text.proofs.Reader.{reader_is}
use Rattle.theory_text.proofs.Printed.Pieces.{Ends, Piece, Closed, nothing, open_ended, closed_closed, closed_then, piece_then, piece_closed, whole}
use Rattle.theory_text.proofs.Printed.Marks.{space, left_brace, right_brace_space, colon_space, colon_bang, colon_question, at_spaced, bar_spaced}
use Rattle.theory_text.proofs.Printed.WordPieces.{name_piece, secret_space, fee_space}
use Rattle.theory_text.proofs.Printed.NumberPieces.{number_piece}
use Rattle.theory_text.proofs.Printed.Tests.{le_is}
use Rattle.theory_text.proofs.Printed.Contracts.{ChoiceSpelled, choice_spelled}

-- ---- the precondition

money : (v : ℕ) → nat_le v max_money ≡ true → Piece (decimal v) (number v ∷ [])
money v h = number_piece v (omega (arith, le_is v max_money h))

entry_piece : (p : Pre) → is_readable_entry p ≡ true → Piece (entry_text p) (entry p)
entry_piece (Persistent party value x) h =
    piece_then (name_piece party (and_left _ _ h))
    (closed_then colon_bang (piece_then (money value (and_left _ _ (and_right _ _ h)))
    (closed_then at_spaced (name_piece x (and_right _ _ (and_right _ _ h)))) refl)) refl
entry_piece (Volatile party value x) h =
    piece_then (name_piece party (and_left _ _ h))
    (closed_then colon_question (piece_then (money value (and_left _ _ (and_right _ _ h)))
    (closed_then at_spaced (name_piece x (and_right _ _ (and_right _ _ h)))) refl)) refl
entry_piece (Secret party x) h =
    piece_then (name_piece party (and_left _ _ h)) (closed_then (closed_closed colon_space secret_space) (name_piece x (and_right _ _ h))) refl

rest_entries_end : (ps : List Pre) → Ends (rest_entries_text ps)
rest_entries_end [] = tt
rest_entries_end (p ∷ ps) = refl

more_entries_piece : (ps : List Pre) → list_all is_readable_entry ps ≡ true → Piece (rest_entries_text ps) (more_entries ps)
more_entries_piece [] h = open_ended nothing
more_entries_piece (p ∷ ps) h =
    closed_then bar_spaced (piece_then (entry_piece p (and_left _ _ h)) (more_entries_piece ps (and_right _ _ h)) (rest_entries_end ps))

-- ---- the fee

record FeeSpelled (fee : ℕ) : Type 0 where
  tokens : List Lexeme
  piece : Closed (fee_text fee) tokens
  spells : SpellsFee tokens fee

fee_spelled : (fee : ℕ) → nat_le fee max_money ≡ true → FeeSpelled fee
fee_spelled zero h = record { tokens = []; piece = nothing; spells = inl (refl, refl) }
fee_spelled (suc n) h =
    record { tokens = keyword word.Fee ∷ number (suc n) ∷ []; piece = closed_closed fee_space (piece_closed (money (suc n) h) space refl); spells = inr refl }

-- ---- adverts

record AdvertSpelled (advert : Advert) : Type 0 where
  tokens : List Lexeme
  piece : Piece (advert_text advert) tokens
  spells : Spells tokens advert

-- where the entries end the brace that closes follows
joined_parts : (p more fee root : List Lexeme) (brace : Lexeme) → (p ++ more) ++ brace ∷ (fee ++ root) ≡ (p ++ (more ++ brace ∷ [])) ++ (fee ++ root)
joined_parts p more fee root brace = simp append_assoc

advert_from : (p : Pre) (ps : List Pre) (advert : Advert) → advert.pre ≡ p ∷ ps → list_all is_readable_entry (p ∷ ps) ≡ true
    → FeeSpelled advert.fee → ChoiceSpelled advert.root → AdvertSpelled advert
advert_from p ps advert e h f c =
    let entries = piece_then (entry_piece p (and_left _ _ h)) (more_entries_piece ps (and_right _ _ h)) (rest_entries_end ps) in
    let piece = closed_then left_brace (piece_then entries (closed_then right_brace_space (closed_then f.piece c.piece)) refl) in
    let pre = symbol mark.LeftBrace ∷ (entry p ++ (more_entries ps ++ symbol mark.RightBrace ∷ [])) in
    record {
      tokens = symbol mark.LeftBrace ∷ ((entry p ++ more_entries ps) ++ symbol mark.RightBrace ∷ (f.tokens ++ c.tokens));
      piece = rw e piece;
      spells = record {
        pre_part = pre;
        fee_part = f.tokens;
        root_part = c.tokens;
        parts = ap (λ (ts : List Lexeme). symbol mark.LeftBrace ∷ ts) (joined_parts (entry p) (more_entries ps) f.tokens c.tokens (symbol mark.RightBrace));
        pre = rw e refl;
        fee = f.spells;
        root = c.spells;
      };
    }

some_entries : (advert : Advert) (pre : List Pre) → advert.pre ≡ pre → is_some_list pre ≡ true → list_all is_readable_entry pre ≡ true
    → FeeSpelled advert.fee → ChoiceSpelled advert.root → AdvertSpelled advert
some_entries advert [] e some h f c = absurd cc
some_entries advert (p ∷ ps) e some h f c = advert_from p ps advert e h f c

advert_spelled : (advert : Advert) → is_readable advert ≡ true → AdvertSpelled advert
advert_spelled advert h =
    let entries = and_left _ _ (and_left _ _ h) in
    let more = and_right _ _ h in
    let root = and_left _ _ (and_right _ _ more) in
    some_entries advert advert.pre refl (and_left _ _ entries) (and_right _ _ entries) (fee_spelled advert.fee (and_left _ _ more))
    (choice_spelled advert.root (and_left _ _ root) (and_right _ _ root))

-- the canonical text of a readable advert spells it
pub printed_is_spelled : (advert : Advert) → is_readable advert ≡ true → IsSpelledBy (advert_text advert) advert
printed_is_spelled advert h =
    let s = advert_spelled advert h in
    let w = whole (advert_text advert) s.tokens s.piece in
    record { tokens = w.tokens; cut = w.cut; spelled = subst (λ (ts : List Lexeme). Spells ts advert) (sym w.say) s.spells }

-- so it is read as that advert
pub printed_advert : PrintedAdvertTheorem
printed_advert advert h = reader_is.only (advert_text advert) advert (printed_is_spelled advert h) h
