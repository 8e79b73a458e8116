-- The canonical text of a contract spells it.
use Rattle.std.proofs.Common.{◌≡◌, ℕ, Bool, true, false, List, [], ◌∷◌, ◌++◌, refl, sym, subst, arith, append_assoc, inl, inr}
use Rattle.std.specs.Prelude.{codes, ◌||◌, nat_le}
use Rattle.std.specs.Fmt.{decimal}
use Rattle.std.specs.List.{list_all}
use Rattle.std.proofs.lemmas.List.{append-nil}
use Rattle.spec_data.specs.Ranges.{max_money, last_height}
use Rattle.spec_terms.specs.Term.{Pred, always, both, negation, equal, less, Guarded, auth, after, put_reveal, withdraw, split, Contract, no_branch, branch, Parts, no_part, part}
use Rattle.spec_terms.specs.Readable.{is_name, is_always, is_whole_prefix, is_readable_count, is_readable_split, has_readable_formulas, are_readable, is_readable_branch, are_readable_parts}
use Rattle.spec_text.specs.declared.token.Keyword.TheVariants as word
use Rattle.spec_text.specs.declared.token.Symbol.TheVariants as mark
use Rattle.spec_text.specs.declared.lexeme.Lexeme.{Lexeme}
use Rattle.spec_text.specs.declared.lexeme.Lexeme.TheVariants.{Keyword as keyword, Symbol as symbol, Name as name, Number as number}
use Rattle.spec_text.specs.Grammar.{more_names, names, SpellsHeading, SpellsBranch, SpellsChoice, SpellsMore, SpellsParts, SpellsMoreParts}
use Rattle.spec_text.specs.Canonical.{each_after, joined, heading_text, branch_text, choice_text, rest_text, parts_text, rest_parts_text}
use Rattle.theory_text.proofs.ListFacts.{and_left, and_right}
use Rattle.theory_text.proofs.Printed.Pieces.{Ends, Piece, nothing, open_ended, closed_closed, closed_then, piece_then}
use Rattle.theory_text.proofs.Printed.Marks.{left_paren, right_paren, left_bracket, right_bracket, plus_spaced, colon_spaced, dot_spaced, ampersand_spaced, arrow_spaced, comma_space}
use Rattle.theory_text.proofs.Printed.WordPieces.{name_piece, put_space, reveal_space, withdraw_space, split_space, after_space}
use Rattle.theory_text.proofs.Printed.NumberPieces.{number_piece}
use Rattle.theory_text.proofs.Printed.Tests.{le_is, condition_spelled}

-- ---- what stands before the point

each_ends : (xs : List (List ℕ)) → Ends (each_after (codes ", ") xs)
each_ends [] = tt
each_ends (x ∷ xs) = refl

more_piece : (xs : List (List ℕ)) → list_all is_name xs ≡ true → Piece (each_after (codes ", ") xs) (more_names xs)
more_piece [] h = open_ended nothing
more_piece (x ∷ xs) h = closed_then comma_space (piece_then (name_piece x (and_left _ _ h)) (more_piece xs (and_right _ _ h)) (each_ends xs))

names_piece : (x : List ℕ) (xs : List (List ℕ)) → list_all is_name (x ∷ xs) ≡ true → Piece (joined (codes ", ") (x ∷ xs)) (names x xs)
names_piece x xs h = piece_then (name_piece x (and_left _ _ h)) (more_piece xs (and_right _ _ h)) (each_ends xs)

record HeadingSpelled (puts reveals : List (List ℕ)) (test : Pred) : Type 0 where
  tokens : List Lexeme
  piece : Piece (heading_text puts reveals test) tokens
  spells : SpellsHeading tokens puts reveals test

put_only : (x : List ℕ) (xs : List (List ℕ)) (test : Pred) → (t : Bool) → is_always test ≡ t → t || false ≡ true → list_all is_name (x ∷ xs)
    ≡ true → HeadingSpelled (x ∷ xs) [] test
put_only x xs always t a w h = record { tokens = keyword word.Put ∷ names x xs; piece = closed_then put_space (names_piece x xs h); spells = (refl, refl) }
put_only x xs (both p q) t a w h = absurd cc
put_only x xs (negation p) t a w h = absurd cc
put_only x xs (equal e f) t a w h = absurd cc
put_only x xs (less e f) t a w h = absurd cc

heading_spelled : (puts reveals : List (List ℕ)) (test : Pred) → is_whole_prefix puts reveals test ≡ true → list_all is_name puts ≡ true
    → list_all is_name reveals ≡ true → has_readable_formulas test ≡ true → HeadingSpelled puts reveals test
heading_spelled [] [] test w h k l = absurd cc
heading_spelled (x ∷ xs) [] test w h k l = put_only x xs test (is_always test) refl w h
heading_spelled [] (a ∷ as') test w h k l =
    let c = condition_spelled test l in
    record {
      tokens = keyword word.Reveal ∷ (names a as' ++ c.tokens);
      piece = closed_then reveal_space (piece_then (names_piece a as' k) c.piece c.ends);
      spells = (c.tokens, refl, c.spells);
    }
heading_spelled (x ∷ xs) (a ∷ as') test w h k l =
    let c = condition_spelled test l in
    let t = keyword word.Reveal ∷ (names a as' ++ c.tokens) in
    record {
      tokens = keyword word.Put ∷ (names x xs ++ symbol mark.Ampersand ∷ t);
      piece = closed_then put_space (piece_then (names_piece x xs h)
          (closed_then (closed_closed ampersand_spaced reveal_space) (piece_then (names_piece a as' k) c.piece c.ends)) refl);
      spells = (t, refl, (c.tokens, refl, c.spells));
    }

-- ---- what is spelled

record BranchSpelled (b : Guarded) : Type 0 where
  tokens : List Lexeme
  piece : Piece (branch_text b) tokens
  spells : SpellsBranch tokens b

pub record ChoiceSpelled (c : Contract) : Type 0 where
  pub tokens : List Lexeme
  pub piece : Piece (choice_text c) tokens
  pub spells : SpellsChoice tokens c

record MoreSpelled (c : Contract) : Type 0 where
  tokens : List Lexeme
  piece : Piece (rest_text c) tokens
  spells : SpellsMore tokens c

record PartsSpelled (ps : Parts) : Type 0 where
  tokens : List Lexeme
  piece : Piece (parts_text ps) tokens
  spells : SpellsParts tokens ps

record MorePartsSpelled (ps : Parts) : Type 0 where
  tokens : List Lexeme
  piece : Piece (rest_parts_text ps) tokens
  spells : SpellsMoreParts tokens ps

-- ---- one production each

auth_spelled : (party : List ℕ) (body : Guarded) → is_name party ≡ true → BranchSpelled body → BranchSpelled (auth party body)
auth_spelled party body h s =
    record {
      tokens = name party ∷ symbol mark.Colon
          ∷ s.tokens;
      piece = piece_then (name_piece party h) (closed_then colon_spaced s.piece) refl;
      spells = (s.tokens, refl, s.spells);
    }

after_spelled : (height : ℕ) (body : Guarded) → nat_le height last_height ≡ true → BranchSpelled body → BranchSpelled (after height body)
after_spelled height body h s =
    record {
      tokens = keyword word.After ∷ number height ∷ symbol mark.Colon ∷ s.tokens;
      piece = closed_then after_space (piece_then (number_piece height (omega (arith, le_is height last_height h))) (closed_then colon_spaced s.piece) refl);
      spells = (s.tokens, refl, s.spells);
    }

headed_spelled : (puts reveals : List (List ℕ)) (test : Pred) (next : Contract) → HeadingSpelled puts reveals test → ChoiceSpelled next
    → BranchSpelled (put_reveal puts reveals test next)
headed_spelled puts reveals test next h s =
    record {
      tokens = h.tokens ++ symbol mark.Dot
          ∷ s.tokens;
      piece = piece_then h.piece (closed_then dot_spaced s.piece) refl;
      spells = (h.tokens, s.tokens, refl, h.spells, s.spells);
    }

withdraw_spelled : (party : List ℕ) → is_name party ≡ true → BranchSpelled (withdraw party)
withdraw_spelled party h = record { tokens = keyword word.Withdraw ∷ name party ∷ []; piece = closed_then withdraw_space (name_piece party h); spells = refl }

split_spelled : (ps : Parts) → PartsSpelled ps → BranchSpelled (split ps)
split_spelled ps s =
    record {
      tokens = keyword word.Split ∷ symbol mark.LeftBracket ∷ (s.tokens ++ symbol mark.RightBracket ∷ []);
      piece = closed_then (closed_closed split_space left_bracket) (piece_then s.piece (open_ended right_bracket) refl);
      spells = (s.tokens, refl, s.spells);
    }

rest_ends : (c : Contract) → Ends (rest_text c)
rest_ends no_branch = tt
rest_ends (branch b bs) = refl

-- one branch alone, and branches in brackets
choice_from : (b : Guarded) (bs : Contract) → BranchSpelled b → MoreSpelled bs → ChoiceSpelled (branch b bs)
choice_from b no_branch s m =
    record {
      tokens = s.tokens;
      piece = subst (λ (text : List ℕ). Piece text s.tokens) (sym (append-nil (branch_text b)))
          s.piece;
      spells = inl (s.spells, refl);
    }
choice_from b (branch c cs) s m =
    let t = s.tokens ++ (m.tokens ++ symbol mark.RightParen ∷ []) in
    let inner : Piece (branch_text b ++ (rest_text (branch c cs) ++ codes ")")) t =
    piece_then s.piece (piece_then m.piece (open_ended right_paren) refl) refl in
    let piece : Piece ((branch_text b ++ rest_text (branch c cs)) ++ codes ")") t =
    subst (λ (text : List ℕ). Piece text t) (sym (append_assoc (branch_text b) (rest_text (branch c cs)) (codes ")"))) inner in
    record { tokens = symbol mark.LeftParen ∷ t; piece = closed_then left_paren piece; spells = inr (s.tokens, m.tokens, refl, s.spells, m.spells) }

more_from : (b : Guarded) (bs : Contract) → BranchSpelled b → MoreSpelled bs → MoreSpelled (branch b bs)
more_from b bs s m = record {
  tokens = symbol mark.Plus
      ∷ (s.tokens ++ m.tokens);
  piece = closed_then plus_spaced
      (piece_then s.piece m.piece (rest_ends bs));
  spells = (s.tokens, m.tokens, refl, s.spells, m.spells);
}

rest_parts_ends : (ps : Parts) → Ends (rest_parts_text ps)
rest_parts_ends no_part = tt
rest_parts_ends (part v c ps) = refl

part_piece : (v : ℕ) (c : Contract) (ps : Parts) → nat_le v max_money ≡ true → (s : ChoiceSpelled c) (m : MorePartsSpelled ps)
    → Piece (decimal v ++ (codes " -> " ++ (choice_text c ++ rest_parts_text ps))) (number v ∷ symbol mark.Arrow ∷ (s.tokens ++ m.tokens))
part_piece v c ps h s m =
    piece_then (number_piece v (omega (arith, le_is v max_money h))) (closed_then arrow_spaced (piece_then s.piece m.piece (rest_parts_ends ps))) refl

parts_from : (v : ℕ) (c : Contract) (ps : Parts) → nat_le v max_money ≡ true → ChoiceSpelled c → MorePartsSpelled ps → PartsSpelled (part v c ps)
parts_from v c ps h s m = record {
  tokens = number v ∷ symbol mark.Arrow
      ∷ (s.tokens ++ m.tokens);
  piece = part_piece v c ps h s m;
  spells = (s.tokens, m.tokens, refl, s.spells, m.spells);
}

more_parts_from : (v : ℕ) (c : Contract) (ps : Parts) → nat_le v max_money ≡ true → ChoiceSpelled c → MorePartsSpelled ps → MorePartsSpelled (part v c ps)
more_parts_from v c ps h s m =
    record {
      tokens = symbol mark.Comma ∷ number v ∷ symbol mark.Arrow
          ∷ (s.tokens ++ m.tokens);
      piece = closed_then comma_space (part_piece v c ps h s m);
      spells = (s.tokens, m.tokens, refl, s.spells, m.spells);
    }

-- ---- contracts

mutual
  branch_spelled : (b : Guarded) → is_readable_branch b ≡ true → BranchSpelled b
  branch_spelled (auth party body) h = auth_spelled party body (and_left _ _ h) (branch_spelled body (and_right _ _ h))
  branch_spelled (after height body) h = after_spelled height body (and_left _ _ h) (branch_spelled body (and_right _ _ h))
  branch_spelled (put_reveal puts reveals test next) h =
      let first = and_left _ _ h in
      let second = and_right _ _ h in
      let third = and_right _ _ second in
      headed_spelled puts reveals test next
      (heading_spelled puts reveals test (and_left _ _ first) (and_left _ _ (and_right _ _ first)) (and_right _ _ (and_right _ _ first))
      (and_right _ _ (and_left _ _ second)))
      (choice_spelled next (and_left _ _ third) (and_right _ _ third))
  branch_spelled (withdraw party) h = withdraw_spelled party h
  branch_spelled (split ps) h = split_spelled ps (parts_spelled ps (and_left _ _ h) (and_right _ _ h))

  pub choice_spelled : (c : Contract) → is_readable_count c ≡ true → are_readable c ≡ true → ChoiceSpelled c
  choice_spelled no_branch some h = absurd cc
  choice_spelled (branch b bs) some h = choice_from b bs (branch_spelled b (and_left _ _ h)) (more_spelled bs (and_right _ _ h))

  more_spelled : (c : Contract) → are_readable c ≡ true → MoreSpelled c
  more_spelled no_branch h = record { tokens = []; piece = open_ended nothing; spells = refl }
  more_spelled (branch b bs) h = more_from b bs (branch_spelled b (and_left _ _ h)) (more_spelled bs (and_right _ _ h))

  parts_spelled : (ps : Parts) → is_readable_split ps ≡ true → are_readable_parts ps ≡ true → PartsSpelled ps
  parts_spelled no_part some h = absurd cc
  parts_spelled (part v c ps) some h =
      let first = and_left _ _ h in
      let next = and_right _ _ first in
      parts_from v c ps (and_left _ _ first) (choice_spelled c (and_left _ _ next) (and_right _ _ next)) (more_parts_spelled ps (and_right _ _ h))

  more_parts_spelled : (ps : Parts) → are_readable_parts ps ≡ true → MorePartsSpelled ps
  more_parts_spelled no_part h = record { tokens = []; piece = open_ended nothing; spells = refl }
  more_parts_spelled (part v c ps) h =
      let first = and_left _ _ h in
      let next = and_right _ _ first in
      more_parts_from v c ps (and_left _ _ first) (choice_spelled c (and_left _ _ next) (and_right _ _ next)) (more_parts_spelled ps (and_right _ _ h))
