-- With the first token: expressions, predicates and headings.
use Rattle.std.proofs.Common.{◌≡◌, ℕ, suc, Bool, true, false, List, [], ◌∷◌, ◌++◌, refl, ap, ◌∙◌, inl, inr, ◌⊎◌}
use Rattle.std.proofs.lemmas.List.{append-nil}
use Rattle.std.specs.Prelude.{Some, None, if◌then◌else◌, ◌==◌}
use Rattle.std.proofs.lemmas.Bool.Decides.{eqb_tells}
use Rattle.spec_terms.specs.Term.{Expr, constant, length_of, plus, minus, always, both, negation, equal, less}
use Rattle.spec_text.specs.declared.token.Keyword.{Keyword}
use Rattle.spec_text.specs.declared.token.Symbol.{Symbol}
use Rattle.spec_text.specs.declared.token.Keyword.TheVariants as word
use Rattle.spec_text.specs.declared.token.Symbol.TheVariants as mark
use Rattle.spec_text.specs.declared.lexeme.Lexeme.{Lexeme}
use Rattle.spec_text.specs.declared.lexeme.Lexeme.TheVariants.{Keyword as keyword, Symbol as symbol, Name as name, Number as number, HugeNumber as huge_number}
use Rattle.spec_text.specs.Grammar.{SpellsFormula, SpellsTest, more_names, SpellsReveals}
use Rattle.spec_text.specs.Reading.{is_symbol, is_keyword, symbol_number, keyword_number}
use Rattle.theory_text.proofs.Told.Sees.{the_symbol, the_keyword}
use Rattle.theory_limits.specs.Awaited.{this_symbol, this_word, operator, relation, formula, behind_put, behind_reveal, Next, next, next_formula, compared, next_test}
use Rattle.theory_limits.proofs.Texts.{add, Joined, Has, With_reveal, PutText, RevealText, Text, Texts, divided, Begun}

-- ---- one token

pub one : (c : Lexeme) (t u v : List Lexeme) → t ≡ u ++ v → u ≡ c ∷ [] → t ≡ c ∷ v
one c t u v e f = e ∙ ap (λ (z : List Lexeme). z ++ v) f

pub last : (t u v : List Lexeme) → t ≡ u ++ v → v ≡ [] → t ≡ u
last t u v e n = e ∙ ap (λ (z : List Lexeme). u ++ z) n ∙ append-nil u

pub number_same : (n : ℕ) → (n == n) ≡ true
number_same n = elim (eqb_tells n n) [ inl w ↦ w.0 | inr w ↦ absurd (w.1 refl) ]

pub begun_symbol : (s t : Symbol) (b : Bool) → is_symbol t s ≡ b → Begun (Text (this_symbol s)) (symbol t) (if b then Some [] else None)
begun_symbol s t true e =
    λ u n. (
      symbol t,
      refl,
      add (symbol t) n ∙ ap (λ (z : Lexeme). z ∷ [])
          ((the_symbol s (number_same (symbol_number s))).takes (symbol t) tt (rw e refl)),
    )
begun_symbol s t false e = tt

pub begun_word : (k w : Keyword) (b : Bool) → is_keyword w k ≡ b → Begun (Text (this_word k)) (keyword w) (if b then Some [] else None)
begun_word k w true e =
    λ u n. (
      keyword w,
      refl,
      add (keyword w) n ∙ ap (λ (z : Lexeme). z ∷ [])
          ((the_keyword k (number_same (keyword_number k))).takes (keyword w) tt (rw e refl)),
    )
begun_word k w false e = tt

-- ---- expressions

-- two texts, a token between them and one behind
middle : {A O B : List Lexeme → Type 0} (c d : Lexeme) (t : List Lexeme)
    (h : Joined A (Joined O (Joined B (Joined (λ u. u ≡ d ∷ []) (λ u. u ≡ [])))) t)
    → h.back.first ≡ c ∷ [] → t ≡ h.first ++ c ∷ (h.back.back.first ++ d ∷ [])
middle c d t h w =
    let o = h.back in
    let f = o.back in
    let e = f.back in
    let close : f.second ≡ d ∷ [] = one d f.second e.first e.second e.parts e.prefix ∙ add d e.back in
    h.parts ∙ ap (λ (z : List Lexeme). h.first ++ z) (one c h.second o.first o.second o.parts w)
    ∙ ap (λ (z : List Lexeme). h.first ++ c ∷ z) (f.parts ∙ ap (λ (z : List Lexeme). f.first ++ z) close)

signed_by : (d : ℕ) (t : List Lexeme) → (h : Texts (formula (suc d) ∷ operator ∷ formula (suc d) ∷ this_symbol mark.RightParen ∷ []) t)
    → Text operator (h.back.first) → Has SpellsFormula (symbol mark.LeftParen ∷ t)
signed_by d t h (inl w) =
    let f = h.back.back in
    let is =
    middle (symbol mark.Plus) (symbol mark.RightParen) t h w in
    record {
      value = plus h.prefix.value f.prefix.value;
      spelled = (h.first, f.first, add (symbol mark.LeftParen) is, h.prefix.spelled, f.prefix.spelled);
    }
signed_by d t h (inr w) =
    let f = h.back.back in
    let is =
    middle (symbol mark.Minus) (symbol mark.RightParen) t h w in
    record {
      value = minus h.prefix.value f.prefix.value;
      spelled = (h.first, f.first, add (symbol mark.LeftParen) is, h.prefix.spelled, f.prefix.spelled);
    }

pub begun_formula : (d : ℕ) (c : Lexeme) → Begun (Has SpellsFormula) c (next_formula d c)
begun_formula d (number n) = λ t e. (number n, refl, record { value = constant n; spelled = add (number n) e })
begun_formula d huge_number = λ t e. (number 0, tt, record { value = constant 0; spelled = add (number 0) e })
begun_formula d (symbol mark.Bar) = λ t h.
    let x = h.prefix.0 in
    let is : t ≡ name x ∷ symbol mark.Bar ∷ [] =
    one (name x) t h.first h.second h.parts h.prefix.1
    ∙ add (name x)
    (one (symbol mark.Bar) h.second h.back.first h.back.second h.back.parts h.back.prefix ∙ add (symbol mark.Bar) h.back.back) in
    (symbol mark.Bar, refl, record { value = length_of x; spelled = add (symbol mark.Bar) is })
begun_formula d (symbol mark.LeftParen) = λ t h. (symbol mark.LeftParen, refl, signed_by d t h h.back.prefix)
begun_formula d c = tt

-- ---- predicates

related_by : (d : ℕ) (c : Lexeme) (u v t : List Lexeme) (e : Expr) → SpellsFormula (c ∷ u) e → t ≡ u ++ v
    → (h : Texts (relation ∷ formula (suc d) ∷ []) v) → Text relation (h.first) → Has SpellsTest (c ∷ t)
related_by d c u v t e l is h (inl w) =
    let f = h.back in
    let text : t ≡ u ++ symbol mark.Equal ∷ f.first =
    is
    ∙ ap (λ (z : List Lexeme). u ++ z)
    (one (symbol mark.Equal) v h.first h.second h.parts w ∙ add (symbol mark.Equal) (last h.second f.first f.second f.parts f.back)) in
    record { value = equal e f.prefix.value; spelled = (c ∷ u, f.first, add c text, l, f.prefix.spelled) }
related_by d c u v t e l is h (inr w) =
    let f = h.back in
    let text : t ≡ u ++ symbol mark.Less ∷ f.first =
    is
    ∙ ap (λ (z : List Lexeme). u ++ z)
    (one (symbol mark.Less) v h.first h.second h.parts w ∙ add (symbol mark.Less) (last h.second f.first f.second f.parts f.back)) in
    record { value = less e f.prefix.value; spelled = (c ∷ u, f.first, add c text, l, f.prefix.spelled) }

begun_compared : (d : ℕ) (c : Lexeme) (n : Next) → Begun (Has SpellsFormula) c n → Begun (Has SpellsTest) c (compared d n)
begun_compared d c None h = tt
begun_compared d c (Some new) h = λ t ts.
    let w = divided new (relation ∷ formula (suc d) ∷ []) t ts in
    let r = h w.first w.prefix in
    (r.0, r.1, related_by d r.0 w.first w.second t r.2.value r.2.spelled w.parts w.back w.back.prefix)

pub begun_test : (d : ℕ) (c : Lexeme) → Begun (Has SpellsTest) c (next_test d c)
begun_test d (keyword word.True) =
    λ t e. (keyword word.True, refl, record { value = always; spelled = add (keyword word.True) e })
begun_test d (keyword word.Not) =
    λ t h. (
      keyword word.Not,
      refl,
      record {
        value = negation h.prefix.value;
        spelled = (h.first, add (keyword word.Not) (last t h.first h.second h.parts h.back), h.prefix.spelled);
      },
    )
begun_test d (symbol mark.LeftBracket) = λ t h.
    let f = h.back.back in
    let is =
    middle (keyword word.And) (symbol mark.RightBracket) t h h.back.prefix in (
      symbol mark.LeftBracket,
      refl,
      record {
        value = both h.prefix.value f.prefix.value;
        spelled = (h.first, f.first, add (symbol mark.LeftBracket) is, h.prefix.spelled, f.prefix.spelled);
      },
    )
begun_test d c = begun_compared d c (next_formula (suc d) c) (begun_formula (suc d) c)

-- ---- headings

-- a comma and a name before further names that are put
comma_put : (x : List ℕ) (xs : List (List ℕ)) (t : List Lexeme) → (t ≡ more_names xs) ⊎ With_reveal xs t
    → (symbol mark.Comma ∷ name x ∷ t ≡ more_names (x ∷ xs)) ⊎ With_reveal (x ∷ xs) (symbol mark.Comma ∷ name x ∷ t)
comma_put x xs t (inl e) = inl (ap (λ (z : List Lexeme). symbol mark.Comma ∷ name x ∷ z) e)
comma_put x xs t (inr r) =
    inr (record {
      reveal = r.reveal;
      first = r.first;
      others = r.others;
      condition = r.condition;
      parts = ap (λ (z : List Lexeme). symbol mark.Comma ∷ name x ∷ z) r.parts;
      spelled = r.spelled;
    })

-- a token, a name and a text up to its point
named : (x : List ℕ) (t u v b w text : List Lexeme) → t ≡ u ++ v → u ≡ name x ∷ [] → v ≡ b ++ w → w ≡ [] → b ≡ text ++ symbol mark.Dot ∷ []
    → t ≡ (name x ∷ text) ++ symbol mark.Dot ∷ []
named x t u v b w text e f g n k = one (name x) t u v e f ∙ add (name x) (last v b w g n ∙ k)

pub begun_put : (c : Lexeme) → Begun PutText c (next behind_put c)
begun_put (symbol mark.Comma) = λ t h.
    let b = h.back in
    let p = b.prefix in
    let x = h.prefix.0 in
    let is = named x t h.first h.second b.first b.second p.text h.parts h.prefix.1 b.parts b.back p.parts in (
      symbol mark.Comma,
      refl,
      record {
        text = symbol mark.Comma ∷ name x ∷ p.text;
        parts = add (symbol mark.Comma) is;
        names = x ∷ p.names;
        kind = comma_put x p.names p.text p.kind;
      },
    )
begun_put (symbol mark.Ampersand) = λ t h.
    let n = h.back in
    let b = n.back in
    let p = b.prefix in
    let a = n.prefix.0 in
    let is : t ≡ (keyword word.Reveal ∷ name a ∷ p.text) ++ symbol mark.Dot ∷ [] =
    one (keyword word.Reveal) t h.first h.second h.parts h.prefix
    ∙ add (keyword word.Reveal) (named a h.second n.first n.second b.first b.second p.text n.parts n.prefix.1 b.parts b.back p.parts) in
    let spelled : SpellsReveals (keyword word.Reveal ∷ name a ∷ p.text) a p.names p.condition =
    (p.test, add (keyword word.Reveal) (add (name a) p.named), p.spelled) in (
      symbol mark.Ampersand,
      refl,
      record {
        text = symbol mark.Ampersand ∷ keyword word.Reveal ∷ name a ∷ p.text;
        parts = add (symbol mark.Ampersand) is;
        names = [];
        kind =
            inr (record {
              reveal = keyword word.Reveal ∷ name a ∷ p.text;
              first = a;
              others = p.names;
              condition = p.condition;
              parts = refl;
              spelled = spelled;
            });
      },
    )
begun_put (symbol mark.Dot) =
    λ t e. (symbol mark.Dot, refl, record { text = []; parts = add (symbol mark.Dot) e; names = []; kind = inl refl })
begun_put c = tt

pub begun_reveal : (c : Lexeme) → Begun RevealText c (next behind_reveal c)
begun_reveal (symbol mark.Comma) = λ t h.
    let b = h.back in
    let p = b.prefix in
    let x = h.prefix.0 in
    let is = named x t h.first h.second b.first b.second p.text h.parts h.prefix.1 b.parts b.back p.parts in (
      symbol mark.Comma,
      refl,
      record {
        text = symbol mark.Comma ∷ name x ∷ p.text;
        parts = add (symbol mark.Comma) is;
        names = x ∷ p.names;
        test = p.test;
        condition = p.condition;
        named = ap (λ (z : List Lexeme). symbol mark.Comma ∷ name x ∷ z) p.named;
        spelled = p.spelled;
      },
    )
begun_reveal (keyword word.If) = λ t h.
    let is : t ≡ h.first ++ symbol mark.Dot ∷ [] = h.parts ∙ ap (λ (z : List Lexeme). h.first ++ z)
    (one (symbol mark.Dot) h.second h.back.first h.back.second h.back.parts h.back.prefix ∙ add (symbol mark.Dot) h.back.back) in (
      keyword word.If,
      refl,
      record {
        text = keyword word.If ∷ h.first;
        parts = add (keyword word.If) is;
        names = [];
        test = keyword word.If ∷ h.first;
        condition = h.prefix.value;
        named = refl;
        spelled = inr (h.first, refl, h.prefix.spelled);
      },
    )
begun_reveal (symbol mark.Dot) =
    λ t e. (
      symbol mark.Dot,
      refl,
      record {
        text = [];
        parts = add (symbol mark.Dot) e;
        names = [];
        test = [];
        condition = always;
        named = refl;
        spelled = inl (refl, refl);
      },
    )
begun_reveal c = tt
