-- One token.
use Rattle.std.proofs.Common.{◌≡◌, ℕ, Bool, true, false, List, [], ◌∷◌, refl, sym, ap, subst, ◌∙◌}
use Rattle.std.proofs.lemmas.Bool.{eqb-true}
use Rattle.std.specs.Prelude.{if◌then◌else◌, ◌==◌, nat_le}
use Rattle.spec_terms.specs.declared.limit.Limit.{Limit}
use Rattle.spec_text.specs.declared.token.Keyword.{Keyword}
use Rattle.spec_text.specs.declared.token.Keyword.TheVariants as word
use Rattle.spec_text.specs.declared.token.Symbol.{Symbol}
use Rattle.spec_text.specs.declared.token.Symbol.TheVariants as mark
use Rattle.spec_text.specs.declared.lexeme.Lexeme.{Lexeme}
use Rattle.spec_text.specs.declared.lexeme.Lexeme.TheVariants.{Keyword as keyword, Symbol as symbol, Name as name, Number as number, LongName as long_name, HugeNumber as huge_number}
use Rattle.spec_text.specs.Grammar.{StandsFor}
use Rattle.spec_text.specs.Reading.{Seen, taken, wrong, above, take_seen, token_by, symbol_number, keyword_number, is_symbol, is_keyword, seen_if, a_symbol, a_keyword, a_name, small_number, a_number}
use Rattle.theory_bitcoin.proofs.Languages.{Some_text}
use Rattle.theory_text.proofs.Told.Tells.{Tells, Exact, Clear}
use Rattle.theory_text.proofs.Told.FirstToken.{exceeded_first}

-- a test takes for each value one token
pub record Sees {A : Type 0} (tok : A → Lexeme) (see : Lexeme → Seen A) : Type 0 where
  pub some : A
  pub takes : (c : Lexeme) (a : A) → see c ≡ taken a → c ≡ tok a
  pub refuses : (c : Lexeme) (a : A) → see c ≡ wrong → StandsFor c (tok a) → ⊥
  pub exceeds : (c : Lexeme) (w : Limit) → see c ≡ above w → (a : A) × StandsFor c (tok a)
  pub one : (a b : A) → tok a ≡ tok b → a ≡ b

-- the token of a value
pub record As {A : Type 0} (tok : A → Lexeme) (text : List Lexeme) (a : A) : Type 0 where
  pub single : text ≡ tok a ∷ []

as_some : {A : Type 0} {tok : A → Lexeme} (a : A) → Some_text (As tok)
as_some {tok = tok} a = record { text = tok a ∷ []; value = a; spelled = record { single = refl } }

refused : {A : Type 0} (tok : A → Lexeme) (see : Lexeme → Seen A) → Sees tok see → (c : Lexeme) (ts : List Lexeme) → see c ≡ wrong
    → (d e : Lexeme) (after further : List Lexeme) (a : A) → c ∷ ts ≡ d ∷ after → StandsFor d e → As tok (e ∷ further) a → ⊥
refused tok see s c ts h d e after further a at stands l =
    let same : c ≡ d = cc in
    let single = l.single in
    let is : e ≡ tok a = cc in
    s.refuses c a h (subst (λ (z : Lexeme). StandsFor c z) is (subst (λ (z : Lexeme). StandsFor z e) (sym same) stands))

token_at : {A : Type 0} (tok : A → Lexeme) (see : Lexeme → Seen A) → Sees tok see → (c : Lexeme) (ts : List Lexeme) (x : Seen A) → see c ≡ x
    → Tells (As tok) (c ∷ ts) (take_seen x ts)
token_at tok see s c ts (taken a) h =
    record { told = record { text = c ∷ []; parts = refl; spelled = record { single = ap (λ (z : Lexeme). z ∷ []) (s.takes c a h) } } }
token_at tok see s c ts wrong h = record {
  told = record {
    prefix = [];
    rest = c ∷ ts;
    parts = refl;
    left_is = refl;
    next = tok s.some;
    more = [];
    value = s.some;
    begins = record { single = refl };
    ends = λ d e after further a at stands l. refused tok see s c ts h d e after further a at stands l;
  };
}
token_at tok see s c ts (above w) h =
    let x = s.exceeds c w h in exceeded_first (As tok) c (tok x.0) ts w x.1 (record { text = []; value = x.0; spelled = record { single = refl } })

token_tells : {A : Type 0} (tok : A → Lexeme) (see : Lexeme → Seen A) → Sees tok see → (ts : List Lexeme) → Tells (As tok) ts (token_by see ts)
token_tells tok see s [] = record {
  told = record {
    prefix = [];
    rest = [];
    parts = refl;
    left_is = refl;
    next = tok s.some;
    more = [];
    value = s.some;
    begins = record { single = refl };
    ends = λ d e after further a at stands l. absurd cc;
  };
}
token_tells tok see s (c ∷ ts) = token_at tok see s c ts (see c) refl

-- the reader of one token is exact
pub token : {A : Type 0} {tok : A → Lexeme} {see : Lexeme → Seen A} → Sees tok see → Exact (As tok) (token_by see)
token {tok = tok} {see = see} s = record { some = as_some s.some; tells = token_tells tok see s }

pub clear_as : {A : Type 0} {tok : A → Lexeme} {see : Lexeme → Seen A} → Sees tok see → Clear (As tok)
clear_as {tok = tok} s = record {
  apart = λ t x u y a b l m e.
      let l1 = l.single in
      let m1 = m.single in
      let heads : tok a ≡ tok b = cc in
      (s.one a b heads, cc);
}

-- ---- symbols and keywords

abbrev pub is_mark : Lexeme → Bool
is_mark (keyword k) = true
is_mark (symbol s) = true
is_mark _ = false

mark_stands : (c d : Lexeme) → is_mark d ≡ true → StandsFor c d → c ≡ d
mark_stands long_name (name bytes) h st = absurd cc
mark_stands huge_number (number n) h st = absurd cc
mark_stands c d h st = st

abbrev took : {A : Type 0} → A → Seen A
took a = taken a

took_is : {A : Type 0} (a b : A) → took a ≡ took b → a ≡ b
took_is a b h = cc

wrong_took : {A : Type 0} (a : A) → wrong ≡ took a → ⊥
wrong_took a h = absurd cc

-- a test that takes nothing but symbols and keywords
pub marks : {A : Type 0} {tok : A → Lexeme} {see : Lexeme → Seen A} → A → ((c : Lexeme) (a : A) → see c ≡ taken a → c ≡ tok a)
    → ((a : A) → see (tok a) ≡ taken a) → ((c : Lexeme) (w : Limit) → see c ≡ above w → ⊥) → ((a : A) → is_mark (tok a) ≡ true) → Sees tok see
marks {A} {tok = tok} {see = see} v takes back low proper = record {
  some = v;
  takes = takes;
  refuses = λ c a h st. wrong_took a (sym h ∙ ap see (mark_stands c (tok a) (proper a) st) ∙ back a);
  exceeds = λ c w h. absurd (low c w h);
  one = λ a b e. took_is a b (sym (back a) ∙ ap see e ∙ back b);
}

-- the symbol with this number
symbol_at : ℕ → Symbol
symbol_at n =
    if n == 0 then mark.LeftBrace else if n == 1 then mark.RightBrace else if n == 2 then mark.LeftParen else if n == 3 then mark.RightParen
    else if n == 4 then mark.LeftBracket else if n == 5 then mark.RightBracket else if n == 6 then mark.Colon else if n == 7 then mark.Bang
    else if n == 8 then mark.Question else if n == 9 then mark.At else if n == 10 then mark.Dot else if n == 11 then mark.Comma
    else if n == 12 then mark.Ampersand else if n == 13 then mark.Plus else if n == 14 then mark.Minus else if n == 15 then mark.Arrow
    else if n == 16 then mark.Equal else if n == 17 then mark.Less else mark.Bar

symbol_back : (s : Symbol) → symbol_at (symbol_number s) ≡ s
unfolding symbol_at
symbol_back mark.LeftBrace = refl
symbol_back mark.RightBrace = refl
symbol_back mark.LeftParen = refl
symbol_back mark.RightParen = refl
symbol_back mark.LeftBracket = refl
symbol_back mark.RightBracket = refl
symbol_back mark.Colon = refl
symbol_back mark.Bang = refl
symbol_back mark.Question = refl
symbol_back mark.At = refl
symbol_back mark.Dot = refl
symbol_back mark.Comma = refl
symbol_back mark.Ampersand = refl
symbol_back mark.Plus = refl
symbol_back mark.Minus = refl
symbol_back mark.Arrow = refl
symbol_back mark.Equal = refl
symbol_back mark.Less = refl
symbol_back mark.Bar = refl

symbol_is : (a b : Symbol) → is_symbol a b ≡ true → a ≡ b
symbol_is a b h = sym (symbol_back a) ∙ ap symbol_at (eqb-true (symbol_number a) (symbol_number b) h) ∙ symbol_back b

-- the keyword with this number
keyword_at : ℕ → Keyword
keyword_at n =
    if n == 0 then word.Put else if n == 1 then word.Reveal else if n == 2 then word.If else if n == 3 then word.Withdraw
    else if n == 4 then word.Split else if n == 5 then word.After else if n == 6 then word.Secret else if n == 7 then word.True
    else if n == 8 then word.And else if n == 9 then word.Not else if n == 10 then word.Fee else word.Outside

keyword_back : (k : Keyword) → keyword_at (keyword_number k) ≡ k
unfolding keyword_at
keyword_back word.Put = refl
keyword_back word.Reveal = refl
keyword_back word.If = refl
keyword_back word.Withdraw = refl
keyword_back word.Split = refl
keyword_back word.After = refl
keyword_back word.Secret = refl
keyword_back word.True = refl
keyword_back word.And = refl
keyword_back word.Not = refl
keyword_back word.Fee = refl
keyword_back word.Outside = refl

keyword_is : (a b : Keyword) → is_keyword a b ≡ true → a ≡ b
keyword_is a b h = sym (keyword_back a) ∙ ap keyword_at (eqb-true (keyword_number a) (keyword_number b) h) ∙ keyword_back b

seen_yes : (b : Bool) (u : Unit {0}) → seen_if b ≡ taken u → b ≡ true
seen_yes true u h = refl
seen_yes false u h = absurd cc

seen_low : (b : Bool) (w : Limit) → seen_if b ≡ above w → ⊥
seen_low true w h = absurd cc
seen_low false w h = absurd cc

abbrev pub that : Lexeme → Unit {0} → Lexeme
that c u = c

symbol_takes : (s : Symbol) (c : Lexeme) (u : Unit {0}) → a_symbol s c ≡ taken u → c ≡ symbol s
symbol_takes s (symbol t) u h = ap (λ (z : Symbol). symbol z) (symbol_is t s (seen_yes (is_symbol t s) u h))
symbol_takes s c u h = absurd cc

symbol_low : (s : Symbol) (c : Lexeme) (w : Limit) → a_symbol s c ≡ above w → ⊥
symbol_low s (symbol t) w h = seen_low (is_symbol t s) w h
symbol_low s c w h = absurd cc

-- this symbol
pub the_symbol : (s : Symbol) → is_symbol s s ≡ true → Sees (that (symbol s)) (a_symbol s)
the_symbol s h = marks tt (symbol_takes s) (λ u. ap seen_if h) (symbol_low s) (λ u. refl)

keyword_takes : (k : Keyword) (c : Lexeme) (u : Unit {0}) → a_keyword k c ≡ taken u → c ≡ keyword k
keyword_takes k (keyword t) u h = ap (λ (z : Keyword). keyword z) (keyword_is t k (seen_yes (is_keyword t k) u h))
keyword_takes k c u h = absurd cc

keyword_low : (k : Keyword) (c : Lexeme) (w : Limit) → a_keyword k c ≡ above w → ⊥
keyword_low k (keyword t) w h = seen_low (is_keyword t k) w h
keyword_low k c w h = absurd cc

-- this keyword
pub the_keyword : (k : Keyword) → is_keyword k k ≡ true → Sees (that (keyword k)) (a_keyword k)
the_keyword k h = marks tt (keyword_takes k) (λ u. ap seen_if h) (keyword_low k) (λ u. refl)

-- ---- names and numbers

abbrev pub named : List ℕ → Lexeme
named bytes = name bytes

pub name_takes : (c : Lexeme) (a : List ℕ) → a_name c ≡ taken a → c ≡ name a
name_takes (name bytes) a h = ap (λ (z : List ℕ). name z) (took_is bytes a h)
name_takes c a h = absurd cc

name_refuses : (c : Lexeme) (a : List ℕ) → a_name c ≡ wrong → StandsFor c (name a) → ⊥
name_refuses (name bytes) a h st = absurd cc
name_refuses long_name a h st = absurd cc
name_refuses c a h st = absurd cc

name_exceeds : (c : Lexeme) (w : Limit) → a_name c ≡ above w → (a : List ℕ) × StandsFor c (name a)
name_exceeds long_name w h = ([], tt)
name_exceeds c w h = absurd cc

-- a name
pub the_name : Sees named a_name
the_name = record { some = []; takes = name_takes; refuses = name_refuses; exceeds = name_exceeds; one = λ a b e. cc }

abbrev pub numbered : ℕ → Lexeme
numbered n = number n

small_takes : (n : ℕ) (b : Bool) (a : ℕ) → small_number n b ≡ taken a → n ≡ a
small_takes n true a h = took_is n a h
small_takes n false a h = absurd cc

small_refuses : (n : ℕ) (b : Bool) → small_number n b ≡ wrong → ⊥
small_refuses n true h = absurd cc
small_refuses n false h = absurd cc

number_takes : (most : ℕ) (c : Lexeme) (a : ℕ) → a_number most c ≡ taken a → c ≡ number a
number_takes most (number n) a h = ap (λ (z : ℕ). number z) (small_takes n (nat_le n most) a h)
number_takes most c a h = absurd cc

number_refuses : (most : ℕ) (c : Lexeme) (a : ℕ) → a_number most c ≡ wrong → StandsFor c (number a) → ⊥
number_refuses most (number n) a h st = small_refuses n (nat_le n most) h
number_refuses most huge_number a h st = absurd cc
number_refuses most c a h st = absurd cc

number_exceeds : (most : ℕ) (c : Lexeme) (w : Limit) → a_number most c ≡ above w → (a : ℕ) × StandsFor c (number a)
number_exceeds most (number n) w h = (n, refl)
number_exceeds most huge_number w h = (0, tt)
number_exceeds most c w h = absurd cc

-- a number
pub the_number : (most : ℕ) → Sees numbered (a_number most)
the_number most = record { some = 0; takes = number_takes most; refuses = number_refuses most; exceeds = number_exceeds most; one = λ a b e. cc }
