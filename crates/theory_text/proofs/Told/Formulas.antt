-- What the reader of expressions tells.
use Rattle.std.proofs.Common.{◌≡◌, ℕ, zero, suc, Bool, true, false, List, [], ◌∷◌, ◌++◌, Ok, refl, ap, subst, ◌∙◌}
use Rattle.std.specs.Prelude.{nat_le}
use Rattle.spec_terms.specs.Term.{Expr, constant, length_of, plus, minus}
use Rattle.spec_terms.specs.Readable.{greatest_constant}
use Rattle.spec_terms.specs.declared.limit.Limit.{Limit}
use Rattle.spec_terms.specs.declared.limit.Limit.TheVariants as limits
use Rattle.spec_text.specs.declared.token.Symbol.TheVariants as mark
use Rattle.spec_text.specs.declared.lexeme.Lexeme.{Lexeme}
use Rattle.spec_text.specs.declared.lexeme.Lexeme.TheVariants.{Symbol as symbol, Name as name, Number as number, HugeNumber as huge_number}
use Rattle.spec_text.specs.Grammar.{SpellsFormula, StandsFor}
use Rattle.spec_text.specs.Reading.{◌>>=◌, Seen, taken, wrong, above, small_number, take_seen}
use Rattle.spec_text.specs.ReadTest.{begins_formula, begun, a_sign, signed, constant_at, length_at, formula_at}
use Rattle.theory_bitcoin.proofs.Languages.{Some_text, Nothing, Seq}
use Rattle.theory_text.proofs.Told.Tells.{Tells, Exact, Clear, pure, seq, transfer, Behind, behind}
use Rattle.theory_text.proofs.Told.FirstToken.{Begun, ended, wrong_first, exceeded_first, stops_first}
use Rattle.theory_text.proofs.Told.Sees.{Sees, As, token, clear_as, marks, is_mark, that, the_symbol, named, the_name}
use Rattle.theory_text.proofs.Told.Clears.{Clear_to, clear_to, clear_of, clear_pure, clear_seq, clear_from, clear_none, clear_first, clear_zero}

-- ---- the first token

pub formula_nothing : (a : Expr) → SpellsFormula [] a → ⊥
formula_nothing (constant n) l = absurd cc
formula_nothing (length_of x) l = absurd cc
formula_nothing (plus e f) l = let k = l.2 in absurd cc
formula_nothing (minus e f) l = let k = l.2 in absurd cc

pub head_is : (c d : Lexeme) (t u : List Lexeme) → c ∷ t ≡ d ∷ u → c ≡ d
head_is c d t u e = cc

pub tail_is : (c d : Lexeme) (t u : List Lexeme) → c ∷ t ≡ d ∷ u → t ≡ u
tail_is c d t u e = cc

small_begun : (n : ℕ) (b : Bool) → begun (small_number n b) ≡ wrong → ⊥
small_begun n true h = absurd cc
small_begun n false h = absurd cc

-- a token with this first value is not refused
pub not_wrong : {V : Type 0} (see : Lexeme → Seen V) (c d : Lexeme) (t u : List Lexeme) → c ∷ t ≡ d ∷ u → see c ≡ wrong → see d ≡ wrong
not_wrong see c d t u e h = subst (λ (z : Lexeme). see z ≡ wrong) (head_is c d t u e) h

pub formula_first : (c : Lexeme) (t : List Lexeme) (a : Expr) → SpellsFormula (c ∷ t) a → begins_formula c ≡ wrong → ⊥
formula_first c t (constant n) l h = small_begun n (nat_le n greatest_constant) (not_wrong begins_formula c (number n) t [] l h)
formula_first c t (length_of x) l h = let k = not_wrong begins_formula c (symbol mark.Bar) t _ l h in absurd cc
formula_first c t (plus e f) l h = let k = not_wrong begins_formula c (symbol mark.LeftParen) t _ l.2 h in absurd cc
formula_first c t (minus e f) l h = let k = not_wrong begins_formula c (symbol mark.LeftParen) t _ l.2 h in absurd cc

some_formula : Some_text SpellsFormula
some_formula = record { text = number 0 ∷ []; value = constant 0; spelled = refl }

formula_begins : (c : Lexeme) (v : Unit {0}) → begins_formula c ≡ taken v → Some_text (Behind c SpellsFormula)
formula_begins (number n) v h = record { text = []; value = constant n; spelled = refl }
formula_begins (symbol mark.Bar) v h = record { text = name [] ∷ symbol mark.Bar ∷ []; value = length_of []; spelled = refl }
formula_begins (symbol mark.LeftParen) v h =
    record {
      text = number 0 ∷ symbol mark.Plus ∷ number 0 ∷ symbol mark.RightParen
          ∷ [];
      value = plus (constant 0) (constant 0);
      spelled = (number 0 ∷ [], number 0 ∷ [], refl, refl, refl);
    }
formula_begins c v h = absurd cc

formula_exceeds : (c : Lexeme) (w : Limit) → begins_formula c ≡ above w → (d : Lexeme) × StandsFor c d × Some_text (Behind d SpellsFormula)
formula_exceeds (number n) w h = (number n, refl, record { text = []; value = constant n; spelled = refl })
formula_exceeds huge_number w h = (number 0, tt, record { text = []; value = constant 0; spelled = refl })
formula_exceeds (symbol mark.Bar) w h = absurd cc
formula_exceeds (symbol mark.LeftParen) w h = absurd cc
formula_exceeds c w h = absurd cc

formula_begun : Begun begins_formula SpellsFormula
formula_begun = record {
  nothing = formula_nothing;
  first = formula_first;
  fair = record { names = λ b h. refl; numbers = λ n h. absurd cc };
  some = some_formula;
  begins = formula_begins;
  exceeds = formula_exceeds;
}

-- ---- the length of a secret

abbrev Length : List Lexeme → Expr → Type 0
Length = Seq (As named) (λ x. Seq (As (that (symbol mark.Bar))) (λ u. Nothing (length_of x)))

length_to : (t : List Lexeme) (a : Expr) → Length t a → Behind (symbol mark.Bar) SpellsFormula t a
length_to t a s =
    let is : t ≡ name s.value ∷ symbol mark.Bar ∷ [] = s.parts ∙ rw (s.prefix.single, s.back.parts, s.back.prefix.single, s.back.back.empty) refl in
    subst (Behind (symbol mark.Bar) SpellsFormula t) s.back.back.same (ap (λ (u : List Lexeme). symbol mark.Bar ∷ u) is)

length_from : (t : List Lexeme) (a : Expr) → Behind (symbol mark.Bar) SpellsFormula t a → Length t a
length_from t (constant n) l = absurd cc
length_from t (length_of x) l = record {
  first = name x ∷ [];
  second = symbol mark.Bar ∷ [];
  value = x;
  parts = cc;
  prefix = record { single = refl };
  back = record {
    first = symbol mark.Bar ∷ [];
    second = [];
    value = tt;
    parts = refl;
    prefix = record { single = refl };
    back = record {
      empty = refl;
      same = refl;
    };
  };
}
length_from t (plus e f) l = let k = l.2 in absurd cc
length_from t (minus e f) l = let k = l.2 in absurd cc

a_length : Exact (Behind (symbol mark.Bar) SpellsFormula) length_at
unfolding length_at
a_length = transfer (Behind (symbol mark.Bar) SpellsFormula) length_to length_from
    (seq (clear_as the_name) (token the_name) (λ x t l.
    seq (clear_as (the_symbol mark.Bar refl)) (token (the_symbol mark.Bar refl)) (λ u m q.
    pure (length_of x))))

-- ---- a sum or a difference

abbrev sign_token : Bool → Lexeme
sign_token true = symbol mark.Plus
sign_token false = symbol mark.Minus

sign_takes : (c : Lexeme) (o : Bool) → a_sign c ≡ taken o → c ≡ sign_token o
sign_takes (symbol mark.Plus) true h = refl
sign_takes (symbol mark.Minus) false h = refl
sign_takes c o h = absurd cc

sign_back : (o : Bool) → a_sign (sign_token o) ≡ taken o
sign_back true = refl
sign_back false = refl

sign_low : (c : Lexeme) (w : Limit) → a_sign c ≡ above w → ⊥
sign_low (symbol mark.Plus) w h = absurd cc
sign_low (symbol mark.Minus) w h = absurd cc
sign_low c w h = absurd cc

sign_mark : (o : Bool) → is_mark (sign_token o) ≡ true
sign_mark true = refl
sign_mark false = refl

the_sign : Sees sign_token a_sign
the_sign = marks true sign_takes sign_back sign_low sign_mark

abbrev Pair : List Lexeme → Expr → Type 0
Pair = Seq SpellsFormula (λ e. Seq (As sign_token) (λ o. Seq SpellsFormula (λ f. Seq (As (that (symbol mark.RightParen))) (λ u. Nothing (signed o e f)))))

signed_to : (t : List Lexeme) (o : Bool) (e f : Expr) (te tf : List Lexeme) → t ≡ te ++ sign_token o ∷ (tf ++ symbol mark.RightParen ∷ [])
    → SpellsFormula te e → SpellsFormula tf f → Behind (symbol mark.LeftParen) SpellsFormula t (signed o e f)
signed_to t true e f te tf is l m = (te, tf, ap (λ (u : List Lexeme). symbol mark.LeftParen ∷ u) is, l, m)
signed_to t false e f te tf is l m = (te, tf, ap (λ (u : List Lexeme). symbol mark.LeftParen ∷ u) is, l, m)

pair_to : (t : List Lexeme) (v : Expr) → Pair t v → Behind (symbol mark.LeftParen) SpellsFormula t v
pair_to t v s =
    let r = s.back.back in
    let is : t ≡ s.first ++ sign_token s.back.value ∷ (r.first ++ symbol mark.RightParen ∷ []) =
    s.parts ∙ rw (s.back.parts, s.back.prefix.single, r.parts, r.back.parts, r.back.prefix.single, r.back.back.empty) refl in
    subst (Behind (symbol mark.LeftParen) SpellsFormula t) r.back.back.same (signed_to t s.back.value s.value r.value s.first r.first is s.prefix r.prefix)

pair_of : (t : List Lexeme) (o : Bool) (e f : Expr) (te tf : List Lexeme) → symbol mark.LeftParen ∷ t ≡ symbol mark.LeftParen
    ∷ (te ++ sign_token o ∷ (tf ++ symbol mark.RightParen ∷ [])) → SpellsFormula te e → SpellsFormula tf f → Pair t (signed o e f)
pair_of t o e f te tf is l m = record {
  first = te;
  second = sign_token o ∷ (tf ++ symbol mark.RightParen ∷ []);
  value = e;
  parts = cc;
  prefix = l;
  back = record {
    first = sign_token o ∷ [];
    second = tf ++ symbol mark.RightParen ∷ [];
    value = o;
    parts = refl;
    prefix = record { single = refl };
    back = record {
      first = tf;
      second = symbol mark.RightParen ∷ [];
      value = f;
      parts = refl;
      prefix = m;
      back = record {
        first = symbol mark.RightParen
            ∷ [];
        second = [];
        value = tt;
        parts = refl;
        prefix = record { single = refl };
        back = record { empty = refl; same = refl };
      };
    };
  };
}

pair_from : (t : List Lexeme) (a : Expr) → Behind (symbol mark.LeftParen) SpellsFormula t a → Pair t a
pair_from t (constant n) l = absurd cc
pair_from t (length_of x) l = absurd cc
pair_from t (plus e f) l = pair_of t true e f l.0 l.1 l.2 l.3 l.4
pair_from t (minus e f) l = pair_of t false e f l.0 l.1 l.2 l.3 l.4

-- ---- where an expression ends

number_from : (n : ℕ) (t : List Lexeme) (a : Expr) → Behind (number n) SpellsFormula t a → Nothing (constant n) t a
number_from n t (constant m) l = record {
  empty = cc;
  same = let e = head_is (number n) (number m) t [] l in let same : n ≡ m = cc in ap (λ (z : ℕ). constant z) same;
}
number_from n t (length_of x) l = absurd cc
number_from n t (plus e f) l = let q = l.2 in absurd cc
number_from n t (minus e f) l = let q = l.2 in absurd cc

number_clear : (n : ℕ) (k : ℕ) → Clear_to k (Behind (number n) SpellsFormula)
number_clear n k = clear_from (Behind (number n) SpellsFormula) (number_from n) (clear_pure (constant n))

no_formula : (c : Lexeme) (k : ℕ) → begins_formula c ≡ wrong → Clear_to k (Behind c SpellsFormula)
no_formula c k h = clear_none (Behind c SpellsFormula) (λ t a l. formula_first c t a l h)

no_huge : (t : List Lexeme) (a : Expr) → Behind huge_number SpellsFormula t a → ⊥
no_huge t (constant n) l = absurd cc
no_huge t (length_of x) l = absurd cc
no_huge t (plus e f) l = let k = l.2 in absurd cc
no_huge t (minus e f) l = let k = l.2 in absurd cc

formula_part : (n : ℕ) → Clear_to n SpellsFormula → (c : Lexeme) → Clear_to n (Behind c SpellsFormula)
formula_part n h (number m) = number_clear m n
formula_part n h huge_number = clear_none (Behind huge_number SpellsFormula) no_huge
formula_part n h (symbol mark.Bar) = clear_from (Behind (symbol mark.Bar) SpellsFormula) length_from
    (clear_seq (clear_to (clear_as the_name)) (λ x. clear_seq (clear_to (clear_as (the_symbol mark.Bar refl))) (λ u. clear_pure (length_of x))))
formula_part n h (symbol mark.LeftParen) = clear_from (Behind (symbol mark.LeftParen) SpellsFormula) pair_from
    (clear_seq h (λ e. clear_seq (clear_to (clear_as the_sign))
    (λ o. clear_seq h (λ f. clear_seq (clear_to (clear_as (the_symbol mark.RightParen refl))) (λ u. clear_pure (signed o e f))))))
formula_part n h c = no_formula c n refl

formula_clear_to : (n : ℕ) → Clear_to n SpellsFormula
formula_clear_to zero = clear_zero SpellsFormula formula_nothing
formula_clear_to (suc n) = clear_first SpellsFormula formula_nothing (formula_part n (formula_clear_to n))

pub formula_clear : Clear SpellsFormula
formula_clear = clear_of formula_clear_to

-- ---- the reader

constant_tells : (n : ℕ) (ts : List Lexeme) (b : Bool) → Tells SpellsFormula (number n ∷ ts) (take_seen (small_number n b) ts >>= λ v. Ok (constant (v.0), v.1))
constant_tells n ts true = record { told = record { text = number n ∷ []; parts = refl; spelled = refl } }
constant_tells n ts false = exceeded_first SpellsFormula (number n) (number n) ts limits.Number refl (record { text = []; value = constant n; spelled = refl })

a_pair : (d : ℕ) → Exact SpellsFormula (formula_at d)
    → Exact (Behind (symbol mark.LeftParen) SpellsFormula) (λ ts. formula_at (suc d) (symbol mark.LeftParen ∷ ts))
unfolding formula_at
a_pair d h = transfer (Behind (symbol mark.LeftParen) SpellsFormula) pair_to pair_from
    (seq formula_clear h (λ e t l.
    seq (clear_as the_sign) (token the_sign) (λ o u m.
    seq formula_clear h (λ f w q.
    seq (clear_as (the_symbol mark.RightParen refl)) (token (the_symbol mark.RightParen refl)) (λ x z r.
    pure (signed o e f))))))

formula_step : (d : ℕ) → Exact SpellsFormula (formula_at d) → (ts : List Lexeme) → Tells SpellsFormula ts (formula_at (suc d) ts)
unfolding formula_at constant_at
formula_step d h [] = ended begins_formula SpellsFormula formula_begun
formula_step d h (number n ∷ ts) = constant_tells n ts (nat_le n greatest_constant)
formula_step d h (huge_number ∷ ts) =
    exceeded_first SpellsFormula huge_number (number 0) ts limits.Number tt (record { text = []; value = constant 0; spelled = refl })
formula_step d h (symbol mark.Bar ∷ ts) = behind (symbol mark.Bar) SpellsFormula ts (length_at ts) (a_length.tells ts)
formula_step d h (symbol mark.LeftParen ∷ ts) =
    behind (symbol mark.LeftParen) SpellsFormula ts (formula_at (suc d) (symbol mark.LeftParen ∷ ts)) ((a_pair d h).tells ts)
formula_step d h (c ∷ ts) = wrong_first begins_formula SpellsFormula formula_begun c ts refl

formula_zero : (ts : List Lexeme) → Tells SpellsFormula ts (formula_at 0 ts)
unfolding formula_at
formula_zero [] = ended begins_formula SpellsFormula formula_begun
formula_zero (c ∷ ts) = stops_first begins_formula SpellsFormula formula_begun limits.Depth (c ∷ ts)

-- expressions are read exactly
pub a_formula : (d : ℕ) → Exact SpellsFormula (formula_at d)
a_formula zero = record { some = some_formula; tells = formula_zero }
a_formula (suc d) = record { some = some_formula; tells = formula_step d (a_formula d) }
