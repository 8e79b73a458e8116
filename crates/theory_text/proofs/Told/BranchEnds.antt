-- Where branches, choices and parts end.
use Rattle.std.proofs.Common.{◌≡◌, ℕ, zero, suc, ◌-◌, ◌≤◌, inl, inr, Bool, true, false, List, [], ◌∷◌, refl, arith}
use Rattle.spec_terms.specs.Term.{Guarded, auth, after, put_reveal, withdraw, split, Contract, no_branch, branch, no_part, part}
use Rattle.spec_terms.specs.declared.limit.Limit.{Limit}
use Rattle.spec_data.specs.Ranges.{max_money, last_height}
use Rattle.spec_text.specs.declared.token.Keyword.TheVariants as word
use Rattle.spec_text.specs.declared.token.Symbol.TheVariants as mark
use Rattle.spec_text.specs.declared.lexeme.Lexeme.{Lexeme}
use Rattle.spec_text.specs.declared.lexeme.Lexeme.TheVariants.{Keyword as keyword, Symbol as symbol, Name as name, LongName as long_name}
use Rattle.spec_text.specs.Grammar.{SpellsBranch, SpellsChoice}
use Rattle.spec_text.specs.Reading.{taken, above}
use Rattle.spec_text.specs.ReadContract.{goes_on, parts_go_on}
use Rattle.theory_bitcoin.proofs.Languages.{Seq}
use Rattle.theory_text.proofs.Told.Tells.{Clear, Behind}
use Rattle.theory_text.proofs.Told.Sees.{Sees, As, clear_as, marks, is_mark, that, the_symbol, the_name, numbered, the_number}
use Rattle.theory_text.proofs.Told.Clears.{Clear_to, clear_to, clear_of, clear_less, clear_pure, clear_seq, clear_from, clear_none, clear_behind, clear_first, clear_zero}
use Rattle.theory_text.proofs.Told.CountedTexts.{clear_after}
use Rattle.theory_text.proofs.Told.Headings.{headed, puts_clear, reveals_clear}
use Rattle.theory_text.proofs.Told.BranchTexts.{BranchText, ChoiceText, BranchesText, PartsText, branch_nothing, branch_first, branches_nothing, parts_nothing}
use Rattle.theory_text.proofs.Told.BranchChains.{auth_from, after_from, puts_from, reveals_from, withdraw_from, split_from}
use Rattle.theory_text.proofs.Told.ChoiceChains.{plus_token, BranchesRest, branches_from, OneSeq, one_from, opened_from, comma_token, PartsRest, parts_from}

-- ---- the tokens between branches and between parts

plus_takes : (c : Lexeme) (o : Bool) → goes_on c ≡ taken o → c ≡ plus_token o
plus_takes (symbol mark.Plus) true h = refl
plus_takes (symbol mark.RightParen) false h = refl
plus_takes c o h = absurd cc

plus_back : (o : Bool) → goes_on (plus_token o) ≡ taken o
plus_back true = refl
plus_back false = refl

plus_low : (c : Lexeme) (w : Limit) → goes_on c ≡ above w → ⊥
plus_low (symbol mark.Plus) w h = absurd cc
plus_low (symbol mark.RightParen) w h = absurd cc
plus_low c w h = absurd cc

plus_mark : (o : Bool) → is_mark (plus_token o) ≡ true
plus_mark true = refl
plus_mark false = refl

pub the_plus : Sees plus_token goes_on
the_plus = marks true plus_takes plus_back plus_low plus_mark

comma_takes : (c : Lexeme) (o : Bool) → parts_go_on c ≡ taken o → c ≡ comma_token o
comma_takes (symbol mark.Comma) true h = refl
comma_takes (symbol mark.RightBracket) false h = refl
comma_takes c o h = absurd cc

comma_back : (o : Bool) → parts_go_on (comma_token o) ≡ taken o
comma_back true = refl
comma_back false = refl

comma_low : (c : Lexeme) (w : Limit) → parts_go_on c ≡ above w → ⊥
comma_low (symbol mark.Comma) w h = absurd cc
comma_low (symbol mark.RightBracket) w h = absurd cc
comma_low c w h = absurd cc

comma_mark : (o : Bool) → is_mark (comma_token o) ≡ true
comma_mark true = refl
comma_mark false = refl

pub the_comma : Sees comma_token parts_go_on
the_comma = marks true comma_takes comma_back comma_low comma_mark

-- ---- choices

branches_rest : (n : ℕ) (g : Guarded × ℕ) → Clear_to n (BranchesText (g.1)) → (o : Bool) → Clear_to n (BranchesRest g o)
branches_rest n g h true = clear_seq h (λ r. clear_pure (branch (g.0) (r.0), r.1))
branches_rest n g h false = clear_pure (branch (g.0) no_branch, g.1)

branches_to_clear : (n : ℕ) → ((b : ℕ) → Clear_to n (BranchText b)) → (m : ℕ) → m ≤ n → (b : ℕ) → Clear_to m (BranchesText b)
branches_to_clear n h zero le b = clear_zero (BranchesText b) (λ v l. branches_nothing (v.0) (l.0))
branches_to_clear n h (suc m) le b = clear_from (BranchesText b) (branches_from b)
    (clear_after (BranchText (b - 1)) (λ g. Seq (As plus_token) (BranchesRest g)) (λ v l. branch_nothing (v.0) (l.0)) (clear_less (suc m) le (h (b - 1)))
    (λ g. clear_seq (clear_to (clear_as the_plus)) (branches_rest m g (branches_to_clear n h m (omega arith) (g.1)))))

one_clear : (n : ℕ) (b : ℕ) → Clear_to n (BranchText (b - 1)) → Clear_to n (OneSeq b)
one_clear n b h = clear_seq h (λ g. clear_pure (branch (g.0) no_branch, g.1))

pub choice_nothing : (c : Contract) → SpellsChoice [] c → ⊥
choice_nothing no_branch l = l
choice_nothing (branch g bs) (inl w) = branch_nothing g w.0
choice_nothing (branch g bs) (inr w) = let k = w.2 in absurd cc

choice_part : (n : ℕ) → ((b : ℕ) → Clear_to (suc n) (BranchText b)) → (b : ℕ) (c : Lexeme) → Clear_to n (Behind c (ChoiceText b))
choice_part n h b (symbol mark.LeftParen) =
    clear_from (Behind (symbol mark.LeftParen) (ChoiceText b)) (opened_from b) (branches_to_clear (suc n) h n (omega arith) b)
choice_part n h b c = clear_from (Behind c (ChoiceText b)) (λ t v l. one_from b c t v refl l) (clear_behind c (one_clear (suc n) b (h (b - 1))))

choice_to_clear : (n : ℕ) → ((b : ℕ) → Clear_to n (BranchText b)) → (b : ℕ) → Clear_to n (ChoiceText b)
choice_to_clear zero h b = clear_zero (ChoiceText b) (λ v l. choice_nothing (v.0) (l.0))
choice_to_clear (suc n) h b = clear_first (ChoiceText b) (λ v l. choice_nothing (v.0) (l.0)) (choice_part n h b)

-- ---- parts

parts_rest : (m n : ℕ) (c : Contract × ℕ) → Clear_to m (PartsText (c.1)) → (o : Bool) → Clear_to m (PartsRest n c o)
parts_rest m n c h true = clear_seq h (λ r. clear_pure (part n (c.0) (r.0), r.1))
parts_rest m n c h false = clear_pure (part n (c.0) no_part, c.1)

as_nothing : {A : Type 0} (tok : A → Lexeme) (a : A) → As tok [] a → ⊥
as_nothing tok a l = let k = l.single in absurd cc

parts_to_clear : (n : ℕ) → ((b : ℕ) → Clear_to n (ChoiceText b)) → (m : ℕ) → m ≤ n → (b : ℕ) → Clear_to m (PartsText b)
parts_to_clear n h zero le b = clear_zero (PartsText b) (λ v l. parts_nothing (v.0) (l.0))
parts_to_clear n h (suc m) le b = clear_from (PartsText b) (parts_from b)
    (clear_after (As numbered) (λ v. Seq (As (that (symbol mark.Arrow)))
    (λ u. Seq (ChoiceText b) (λ c. Seq (As comma_token) (PartsRest v c)))) (as_nothing numbered) (clear_to (clear_as (the_number max_money)))
    (λ v. clear_seq (clear_to (clear_as (the_symbol mark.Arrow refl)))
    (λ u. clear_seq (clear_less m (omega arith) (h b))
    (λ c. clear_seq (clear_to (clear_as the_comma)) (parts_rest m v c (parts_to_clear n h m (omega arith) (c.1)))))))

-- ---- branches

no_long : (t : List Lexeme) (g : Guarded) → SpellsBranch (long_name ∷ t) g → ⊥
no_long t (auth party body) l = let k = l.1 in absurd cc
no_long t (after height body) l = let k = l.1 in absurd cc
no_long t (put_reveal puts reveals test next) l = let k = (headed long_name t l.0 l.1 puts reveals test l.2 l.3).3 in absurd cc
no_long t (withdraw p) l = absurd cc
no_long t (split parts) l = let k = l.1 in absurd cc

branch_part : (n : ℕ) → ((b : ℕ) → Clear_to n (BranchText b)) → (b : ℕ) (c : Lexeme) → Clear_to n (Behind c (BranchText b))
branch_part n h b (name party) = clear_from (Behind (name party) (BranchText b)) (auth_from party b)
    (clear_seq (clear_to (clear_as (the_symbol mark.Colon refl))) (λ u. clear_seq (h b) (λ g. clear_pure (auth party (g.0), g.1))))
branch_part n h b long_name = clear_none (Behind long_name (BranchText b)) (λ t v l. no_long t (v.0) (l.0))
branch_part n h b (keyword word.After) = clear_from (Behind (keyword word.After) (BranchText b)) (after_from b)
    (clear_seq (clear_to (clear_as (the_number last_height)))
    (λ k. clear_seq (clear_to (clear_as (the_symbol mark.Colon refl))) (λ u. clear_seq (h b) (λ g. clear_pure (after k (g.0), g.1)))))
branch_part n h b (keyword word.Put) = clear_from (Behind (keyword word.Put) (BranchText b)) (puts_from b)
    (clear_seq (clear_to puts_clear) (λ k. clear_seq (choice_to_clear n h b) (λ c. clear_pure (put_reveal (k.0) (k.1) (k.2) (c.0), c.1))))
branch_part n h b (keyword word.Reveal) = clear_from (Behind (keyword word.Reveal) (BranchText b)) (reveals_from b)
    (clear_seq (clear_to (reveals_clear [])) (λ k. clear_seq (choice_to_clear n h b) (λ c. clear_pure (put_reveal (k.0) (k.1) (k.2) (c.0), c.1))))
branch_part n h b (keyword word.Withdraw) = clear_from (Behind (keyword word.Withdraw) (BranchText b)) (withdraw_from b)
    (clear_seq (clear_to (clear_as the_name)) (λ x. clear_pure (withdraw x, b)))
branch_part n h b (keyword word.Split) = clear_from (Behind (keyword word.Split) (BranchText b)) (split_from b)
    (clear_seq (clear_to (clear_as (the_symbol mark.LeftBracket refl)))
    (λ u. clear_seq (parts_to_clear n (choice_to_clear n h) n (omega arith) b) (λ p. clear_pure (split (p.0), p.1))))
branch_part n h b c = clear_none (Behind c (BranchText b)) (λ t v l. branch_first c t (v.0) (l.0) refl)

branch_to_clear : (n : ℕ) (b : ℕ) → Clear_to n (BranchText b)
branch_to_clear zero b = clear_zero (BranchText b) (λ v l. branch_nothing (v.0) (l.0))
branch_to_clear (suc n) b = clear_first (BranchText b) (λ v l. branch_nothing (v.0) (l.0)) (branch_part n (branch_to_clear n) b)

pub branch_clear : (b : ℕ) → Clear (BranchText b)
branch_clear b = clear_of (λ n. branch_to_clear n b)

pub choice_clear : (b : ℕ) → Clear (ChoiceText b)
choice_clear b = clear_of (λ n. choice_to_clear n (branch_to_clear n) b)

pub branches_clear : (b : ℕ) → Clear (BranchesText b)
branches_clear b = clear_of (λ n. branches_to_clear n (branch_to_clear n) n (omega arith) b)

pub parts_clear : (b : ℕ) → Clear (PartsText b)
parts_clear b = clear_of (λ n. parts_to_clear n (choice_to_clear n (branch_to_clear n)) n (omega arith) b)
