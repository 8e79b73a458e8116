-- What the reader of predicates tells.
use Rattle.std.proofs.Common.{◌≡◌, ℕ, zero, suc, Bool, true, false, List, [], ◌∷◌, ◌++◌, refl, sym, ap, subst, ◌∙◌}
use Rattle.std.proofs.lemmas.List.{append-nil}
use Rattle.spec_terms.specs.Term.{Expr, constant, length_of, plus, Pred, always, both, negation, equal, less}
use Rattle.spec_terms.specs.declared.limit.Limit.{Limit}
use Rattle.spec_terms.specs.declared.limit.Limit.TheVariants as limits
use Rattle.spec_text.specs.declared.token.Keyword.TheVariants as word
use Rattle.spec_text.specs.declared.token.Symbol.TheVariants as mark
use Rattle.spec_text.specs.declared.lexeme.Lexeme.{Lexeme}
use Rattle.spec_text.specs.declared.lexeme.Lexeme.TheVariants.{Keyword as keyword, Symbol as symbol, Name as name, Number as number, LongName as long_name, HugeNumber as huge_number}
use Rattle.spec_text.specs.Grammar.{SpellsFormula, SpellsTest, StandsFor}
use Rattle.spec_text.specs.Reading.{taken, wrong, above}
use Rattle.spec_text.specs.ReadTest.{begins_formula, begins_test, a_relation, related, comparison_at, test_at}
use Rattle.theory_bitcoin.proofs.Languages.{Some_text, Nothing, Seq}
use Rattle.theory_text.proofs.Told.Tells.{Tells, Exact, Clear, pure, seq, transfer, Behind, behind}
use Rattle.theory_text.proofs.Told.FirstToken.{Begun, ended, stops_first, narrow}
use Rattle.theory_text.proofs.Told.Sees.{Sees, As, token, clear_as, marks, is_mark, that, the_symbol, the_keyword}
use Rattle.theory_text.proofs.Told.Clears.{Clear_to, clear_to, clear_of, clear_pure, clear_seq, clear_from, clear_first, clear_zero, clear_behind}
use Rattle.theory_text.proofs.Told.Formulas.{head_is, tail_is, not_wrong, formula_nothing, formula_first, formula_clear, a_formula}

-- ---- the first token

-- a text of both is nothing only if its first part is nothing
starts_nothing : (te tf : List Lexeme) (c : Lexeme) → [] ≡ te ++ c ∷ tf → ⊥
starts_nothing [] tf c e = absurd cc
starts_nothing (x ∷ te) tf c e = absurd cc

test_nothing : (p : Pred) → SpellsTest [] p → ⊥
test_nothing always l = absurd cc
test_nothing (both p q) l = let k = l.2 in absurd cc
test_nothing (negation p) l = let k = l.1 in absurd cc
test_nothing (equal e f) l = starts_nothing l.0 l.1 (symbol mark.Equal) l.2
test_nothing (less e f) l = starts_nothing l.0 l.1 (symbol mark.Less) l.2

test_wrong : (c : Lexeme) → begins_test c ≡ wrong → begins_formula c ≡ wrong
test_wrong (keyword word.True) h = absurd cc
test_wrong (keyword word.Not) h = absurd cc
test_wrong (symbol mark.LeftBracket) h = absurd cc
test_wrong c h = h

starts_wrong : (c : Lexeme) (t te tf : List Lexeme) (d : Lexeme) (e : Expr) → c ∷ t ≡ te ++ d ∷ tf → SpellsFormula te e → begins_formula c ≡ wrong → ⊥
starts_wrong c t [] tf d e is l h = formula_nothing e l
starts_wrong c t (x ∷ te) tf d e is l h = formula_first x te e l (not_wrong begins_formula c x t (te ++ d ∷ tf) is h)

test_first : (c : Lexeme) (t : List Lexeme) (p : Pred) → SpellsTest (c ∷ t) p → begins_test c ≡ wrong → ⊥
test_first c t always l h = let k = not_wrong begins_test c (keyword word.True) t [] l h in absurd cc
test_first c t (both p q) l h = let k = not_wrong begins_test c (symbol mark.LeftBracket) t _ l.2 h in absurd cc
test_first c t (negation p) l h = let k = not_wrong begins_test c (keyword word.Not) t _ l.1 h in absurd cc
test_first c t (equal e f) l h = starts_wrong c t l.0 l.1 (symbol mark.Equal) e l.2 l.3 (test_wrong c h)
test_first c t (less e f) l h = starts_wrong c t l.0 l.1 (symbol mark.Less) e l.2 l.3 (test_wrong c h)

some_test : Some_text SpellsTest
some_test = record { text = keyword word.True ∷ []; value = always; spelled = refl }

compared : (n : ℕ) → Some_text (Behind (number n) SpellsTest)
compared n =
    record { text = symbol mark.Equal ∷ number 0 ∷ []; value = equal (constant n) (constant 0); spelled = (number n ∷ [], number 0 ∷ [], refl, refl, refl) }

test_begins : (c : Lexeme) (v : Unit {0}) → begins_test c ≡ taken v → Some_text (Behind c SpellsTest)
test_begins (keyword word.True) v h = record { text = []; value = always; spelled = refl }
test_begins (keyword word.Not) v h = record { text = keyword word.True ∷ []; value = negation always; spelled = (keyword word.True ∷ [], refl, refl) }
test_begins (symbol mark.LeftBracket) v h =
    record {
      text = keyword word.True ∷ keyword word.And ∷ keyword word.True ∷ symbol mark.RightBracket
          ∷ [];
      value = both always always;
      spelled = (keyword word.True ∷ [], keyword word.True ∷ [], refl, refl, refl);
    }
test_begins (number n) v h = compared n
test_begins (symbol mark.Bar) v h = record {
  text = name [] ∷ symbol mark.Bar ∷ symbol mark.Equal ∷ number 0 ∷ [];
  value = equal (length_of []) (constant 0);
  spelled = (symbol mark.Bar ∷ name [] ∷ symbol mark.Bar ∷ [], number 0 ∷ [], refl, refl, refl);
}
test_begins (symbol mark.LeftParen) v h = record {
  text = number 0 ∷ symbol mark.Plus ∷ number 0 ∷ symbol mark.RightParen ∷ symbol mark.Equal ∷ number 0 ∷ [];
  value = equal (plus (constant 0) (constant 0)) (constant 0);
  spelled = (
    symbol mark.LeftParen ∷ number 0 ∷ symbol mark.Plus ∷ number 0 ∷ symbol mark.RightParen ∷ [],
    number 0
        ∷ [],
    refl,
    (number 0 ∷ [], number 0 ∷ [], refl, refl, refl),
    refl,
  );
}
test_begins c v h = absurd cc

formula_low : (c : Lexeme) (w : Limit) → begins_formula c ≡ above w → (n : ℕ) × StandsFor c (number n)
formula_low (number n) w h = (n, refl)
formula_low huge_number w h = (0, tt)
formula_low (symbol mark.Bar) w h = absurd cc
formula_low (symbol mark.LeftParen) w h = absurd cc
formula_low c w h = absurd cc

test_low : (c : Lexeme) (w : Limit) → begins_test c ≡ above w → begins_formula c ≡ above w
test_low (keyword word.True) w h = absurd cc
test_low (keyword word.Not) w h = absurd cc
test_low (symbol mark.LeftBracket) w h = absurd cc
test_low c w h = h

test_exceeds : (c : Lexeme) (w : Limit) → begins_test c ≡ above w → (d : Lexeme) × StandsFor c d × Some_text (Behind d SpellsTest)
test_exceeds c w h = let k = formula_low c w (test_low c w h) in (number k.0, k.1, compared k.0)

test_begun : Begun begins_test SpellsTest
test_begun = record {
  nothing = test_nothing;
  first = test_first;
  fair = record { names = λ b h. refl; numbers = λ n h. absurd cc };
  some = some_test;
  begins = test_begins;
  exceeds = test_exceeds;
}

-- ---- comparisons

abbrev relation_token : Bool → Lexeme
relation_token true = symbol mark.Equal
relation_token false = symbol mark.Less

relation_takes : (c : Lexeme) (o : Bool) → a_relation c ≡ taken o → c ≡ relation_token o
relation_takes (symbol mark.Equal) true h = refl
relation_takes (symbol mark.Less) false h = refl
relation_takes c o h = absurd cc

relation_back : (o : Bool) → a_relation (relation_token o) ≡ taken o
relation_back true = refl
relation_back false = refl

relation_low : (c : Lexeme) (w : Limit) → a_relation c ≡ above w → ⊥
relation_low (symbol mark.Equal) w h = absurd cc
relation_low (symbol mark.Less) w h = absurd cc
relation_low c w h = absurd cc

relation_mark : (o : Bool) → is_mark (relation_token o) ≡ true
relation_mark true = refl
relation_mark false = refl

the_relation : Sees relation_token a_relation
the_relation = marks true relation_takes relation_back relation_low relation_mark

abbrev Comparison : List Lexeme → Pred → Type 0
Comparison = Seq SpellsFormula (λ e. Seq (As relation_token) (λ o. Seq SpellsFormula (λ f. Nothing (related o e f))))

related_to : (t : List Lexeme) (o : Bool) (e f : Expr) (te tf : List Lexeme) → t ≡ te ++ relation_token o ∷ tf → SpellsFormula te e
    → SpellsFormula tf f → SpellsTest t (related o e f)
related_to t true e f te tf is l m = (te, tf, is, l, m)
related_to t false e f te tf is l m = (te, tf, is, l, m)

comparison_to : (t : List Lexeme) (p : Pred) → Comparison t p → SpellsTest t p
comparison_to t p s =
    let r = s.back.back in
    let is : t ≡ s.first ++ relation_token s.back.value ∷ (r.first ++ []) = s.parts ∙ rw (s.back.parts, s.back.prefix.single, r.parts, r.back.empty) refl in
    let is' : t ≡ s.first ++ relation_token s.back.value ∷ r.first = is ∙ rw (append-nil r.first) refl in
    subst (SpellsTest t) r.back.same (related_to t s.back.value s.value r.value s.first r.first is' s.prefix r.prefix)

comparison_of : (t : List Lexeme) (o : Bool) (e f : Expr) (te tf : List Lexeme) → t ≡ te ++ relation_token o ∷ tf → SpellsFormula te e
    → SpellsFormula tf f → Comparison t (related o e f)
comparison_of t o e f te tf is l m = record {
  first = te;
  second = relation_token o ∷ tf;
  value = e;
  parts = is;
  prefix = l;
  back = record {
    first = relation_token o ∷ [];
    second = tf;
    value = o;
    parts = refl;
    prefix = record { single = refl };
    back = record { first = tf; second = []; value = f; parts = sym (append-nil tf); prefix = m; back = record { empty = refl; same = refl } };
  };
}

-- the token begins a predicate that is no comparison
abbrev starts_word : Lexeme → Bool
starts_word (keyword word.True) = true
starts_word (keyword word.Not) = true
starts_word (symbol mark.LeftBracket) = true
starts_word _ = false

comparison_from : (c : Lexeme) (t : List Lexeme) (p : Pred) → starts_word c ≡ false → SpellsTest (c ∷ t) p → Comparison (c ∷ t) p
comparison_from c t always h l =
    let k : starts_word (keyword word.True) ≡ false = subst (λ (z : Lexeme). starts_word z ≡ false) (head_is c (keyword word.True) t [] l) h in
    absurd cc
comparison_from c t (both p q) h l =
    let k : starts_word (symbol mark.LeftBracket) ≡ false =
    subst (λ (z : Lexeme). starts_word z ≡ false) (head_is c (symbol mark.LeftBracket) t _ l.2) h in
    absurd cc
comparison_from c t (negation p) h l =
    let k : starts_word (keyword word.Not) ≡ false = subst (λ (z : Lexeme). starts_word z ≡ false) (head_is c (keyword word.Not) t _ l.1) h in
    absurd cc
comparison_from c t (equal e f) h l = comparison_of (c ∷ t) true e f l.0 l.1 l.2 l.3 l.4
comparison_from c t (less e f) h l = comparison_of (c ∷ t) false e f l.0 l.1 l.2 l.3 l.4

no_word : (c d : Lexeme) → starts_word c ≡ false → StandsFor c d → starts_word d ≡ false
no_word long_name (name bytes) h st = refl
no_word huge_number (number n) h st = refl
no_word c d h st = subst (λ (z : Lexeme). starts_word z ≡ false) st h

a_comparison : (d : ℕ) → Exact Comparison (comparison_at d)
unfolding comparison_at
a_comparison d =
    seq formula_clear (a_formula d) (λ e t l.
    seq (clear_as the_relation) (token the_relation) (λ o u m.
    seq formula_clear (a_formula d) (λ f w q.
    pure (related o e f))))

comparison_clear : (n : ℕ) → Clear_to n Comparison
comparison_clear n = clear_seq (clear_to formula_clear)
    (λ e. clear_seq (clear_to (clear_as the_relation)) (λ o. clear_seq (clear_to formula_clear) (λ f. clear_pure (related o e f))))

-- ---- the constant

always_from : (t : List Lexeme) (p : Pred) → Behind (keyword word.True) SpellsTest t p → Nothing always t p
always_from t always l = record { empty = cc; same = refl }
always_from t (both p q) l = let k = l.2 in absurd cc
always_from t (negation p) l = let k = l.1 in absurd cc
always_from t (equal e f) l = absurd (starts_wrong (keyword word.True) t l.0 l.1 (symbol mark.Equal) e l.2 l.3 refl)
always_from t (less e f) l = absurd (starts_wrong (keyword word.True) t l.0 l.1 (symbol mark.Less) e l.2 l.3 refl)

-- ---- the negation

abbrev Negation : List Lexeme → Pred → Type 0
Negation = Seq SpellsTest (λ p. Nothing (negation p))

negation_to : (t : List Lexeme) (p : Pred) → Negation t p → Behind (keyword word.Not) SpellsTest t p
negation_to t p s =
    let is : t ≡ s.first = s.parts ∙ rw (s.back.empty, append-nil s.first) refl in
    subst (Behind (keyword word.Not) SpellsTest t) s.back.same ((s.first, ap (λ (u : List Lexeme). keyword word.Not ∷ u) is, s.prefix))

negation_from : (t : List Lexeme) (p : Pred) → Behind (keyword word.Not) SpellsTest t p → Negation t p
negation_from t always l = absurd cc
negation_from t (both p q) l = let k = l.2 in absurd cc
negation_from t (negation p) l =
    record {
      first = t;
      second = [];
      value = p;
      parts = sym (append-nil t);
      prefix = subst (λ (z : List Lexeme). SpellsTest z p)
          (sym (tail_is _ _ t l.0 l.1)) l.2;
      back = record { empty = refl; same = refl };
    }
negation_from t (equal e f) l = absurd (starts_wrong (keyword word.Not) t l.0 l.1 (symbol mark.Equal) e l.2 l.3 refl)
negation_from t (less e f) l = absurd (starts_wrong (keyword word.Not) t l.0 l.1 (symbol mark.Less) e l.2 l.3 refl)

-- ---- both

abbrev Both : List Lexeme → Pred → Type 0
Both =
    Seq SpellsTest (λ p. Seq (As (that (keyword word.And))) (λ u. Seq SpellsTest (λ q. Seq (As (that (symbol mark.RightBracket))) (λ v. Nothing (both p q)))))

both_to : (t : List Lexeme) (p : Pred) → Both t p → Behind (symbol mark.LeftBracket) SpellsTest t p
both_to t p s =
    let r = s.back.back in
    let is : t ≡ s.first ++ keyword word.And ∷ (r.first ++ symbol mark.RightBracket ∷ []) =
    s.parts ∙ rw (s.back.parts, s.back.prefix.single, r.parts, r.back.parts, r.back.prefix.single, r.back.back.empty) refl in
    subst (Behind (symbol mark.LeftBracket) SpellsTest t) r.back.back.same
    ((s.first, r.first, ap (λ (u : List Lexeme). symbol mark.LeftBracket ∷ u) is, s.prefix, r.prefix))

both_from : (t : List Lexeme) (p : Pred) → Behind (symbol mark.LeftBracket) SpellsTest t p → Both t p
both_from t always l = absurd cc
both_from t (both p q) l = let k = l.2 in record {
  first = l.0;
  second = keyword word.And ∷ (l.1 ++ symbol mark.RightBracket ∷ []);
  value = p;
  parts = cc;
  prefix = l.3;
  back = record {
    first = keyword word.And ∷ [];
    second = l.1 ++ symbol mark.RightBracket ∷ [];
    value = tt;
    parts = refl;
    prefix = record { single = refl };
    back = record {
      first = l.1;
      second = symbol mark.RightBracket ∷ [];
      value = q;
      parts = refl;
      prefix = l.4;
      back = record {
        first = symbol mark.RightBracket
            ∷ [];
        second = [];
        value = tt;
        parts = refl;
        prefix = record { single = refl };
        back = record { empty = refl; same = refl };
      };
    };
  };
}
both_from t (negation p) l = let k = l.1 in absurd cc
both_from t (equal e f) l = absurd (starts_wrong (symbol mark.LeftBracket) t l.0 l.1 (symbol mark.Equal) e l.2 l.3 refl)
both_from t (less e f) l = absurd (starts_wrong (symbol mark.LeftBracket) t l.0 l.1 (symbol mark.Less) e l.2 l.3 refl)

-- ---- where a predicate ends

test_part : (n : ℕ) → Clear_to n SpellsTest → (c : Lexeme) → Clear_to n (Behind c SpellsTest)
test_part n h (keyword word.True) = clear_from (Behind (keyword word.True) SpellsTest) always_from (clear_pure always)
test_part n h (keyword word.Not) = clear_from (Behind (keyword word.Not) SpellsTest) negation_from (clear_seq h (λ p. clear_pure (negation p)))
test_part n h (symbol mark.LeftBracket) = clear_from (Behind (symbol mark.LeftBracket) SpellsTest) both_from
    (clear_seq h (λ p. clear_seq (clear_to (clear_as (the_keyword word.And refl)))
    (λ u. clear_seq h (λ q. clear_seq (clear_to (clear_as (the_symbol mark.RightBracket refl))) (λ v. clear_pure (both p q))))))
test_part n h c = clear_from (Behind c SpellsTest) (λ t p l. comparison_from c t p refl l) (clear_behind c (comparison_clear (suc n)))

test_clear_to : (n : ℕ) → Clear_to n SpellsTest
test_clear_to zero = clear_zero SpellsTest test_nothing
test_clear_to (suc n) = clear_first SpellsTest test_nothing (test_part n (test_clear_to n))

pub test_clear : Clear SpellsTest
test_clear = clear_of test_clear_to

-- ---- the reader

a_negation : (d : ℕ) → Exact SpellsTest (test_at d) → Exact (Behind (keyword word.Not) SpellsTest) (λ ts. test_at (suc d) (keyword word.Not ∷ ts))
unfolding test_at
a_negation d h = transfer (Behind (keyword word.Not) SpellsTest) negation_to negation_from (seq test_clear h (λ p t l. pure (negation p)))

a_both : (d : ℕ) → Exact SpellsTest (test_at d) → Exact (Behind (symbol mark.LeftBracket) SpellsTest) (λ ts. test_at (suc d) (symbol mark.LeftBracket ∷ ts))
unfolding test_at
a_both d h = transfer (Behind (symbol mark.LeftBracket) SpellsTest) both_to both_from
    (seq test_clear h (λ p t l.
    seq (clear_as (the_keyword word.And refl)) (token (the_keyword word.And refl)) (λ u m q.
    seq test_clear h (λ r w z.
    seq (clear_as (the_symbol mark.RightBracket refl)) (token (the_symbol mark.RightBracket refl)) (λ x y k.
    pure (both p r))))))

test_step : (d : ℕ) → Exact SpellsTest (test_at d) → (ts : List Lexeme) → Tells SpellsTest ts (test_at (suc d) ts)
unfolding test_at
test_step d h [] = ended begins_test SpellsTest test_begun
test_step d h (keyword word.True ∷ ts) = record { told = record { text = keyword word.True ∷ []; parts = refl; spelled = refl } }
test_step d h (keyword word.Not ∷ ts) = behind (keyword word.Not) SpellsTest ts (test_at (suc d) (keyword word.Not ∷ ts)) ((a_negation d h).tells ts)
test_step d h (symbol mark.LeftBracket ∷ ts) =
    behind (symbol mark.LeftBracket) SpellsTest ts (test_at (suc d) (symbol mark.LeftBracket ∷ ts)) ((a_both d h).tells ts)
test_step d h (c ∷ ts) = narrow Comparison SpellsTest starts_word c ts (λ e st. no_word c e refl st) comparison_to
    (λ e t p no' l. comparison_from e t p no' l) (comparison_at d (c ∷ ts)) ((a_comparison d).tells (c ∷ ts))

test_zero : (ts : List Lexeme) → Tells SpellsTest ts (test_at 0 ts)
unfolding test_at
test_zero [] = ended begins_test SpellsTest test_begun
test_zero (c ∷ ts) = stops_first begins_test SpellsTest test_begun limits.Depth (c ∷ ts)

-- predicates are read exactly
pub a_test : (d : ℕ) → Exact SpellsTest (test_at d)
a_test zero = record { some = some_test; tells = test_zero }
a_test (suc d) = record { some = some_test; tells = test_step d (a_test d) }
