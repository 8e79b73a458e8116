-- The walk over one token.
use Rattle.std.proofs.Common.{◌≡◌, ℕ, Bool, true, false, List, [], ◌∷◌, refl}
use Rattle.std.specs.Prelude.{nat_le}
use Rattle.spec_text.specs.declared.token.Keyword.{Keyword}
use Rattle.spec_text.specs.declared.token.Symbol.{Symbol}
use Rattle.spec_text.specs.declared.token.Symbol.TheVariants as mark
use Rattle.spec_text.specs.declared.lexeme.Lexeme.{Lexeme}
use Rattle.spec_text.specs.declared.lexeme.Lexeme.TheVariants.{Keyword as keyword, Symbol as symbol, Name as name, Number as number, LongName as long_name}
use Rattle.spec_text.specs.Reading.{token_by, is_symbol, is_keyword, a_symbol, a_keyword, a_name, a_number}
use Rattle.spec_text.specs.ReadTest.{a_sign, a_relation}
use Rattle.theory_limits.specs.Awaited.{Awaited, this_symbol, this_word, operator, relation}
use Rattle.theory_limits.specs.Awaited.{a_name as some_name, a_number as some_number}
use Rattle.theory_limits.proofs.Judged.{judged, followed, Walks}

symbol_by : (s t : Symbol) (more : List Awaited) (before : ℕ) (ts : List Lexeme) (b : Bool) → is_symbol t s ≡ b
    → judged (this_symbol s ∷ more) before (symbol t ∷ ts) ≡ followed (token_by (a_symbol s) (symbol t ∷ ts)) (judged more before)
symbol_by s t more before ts true e = rw e refl
symbol_by s t more before ts false e = rw e refl

symbol_goes : (s : Symbol) (more : List Awaited) (before : ℕ) (ts : List Lexeme)
    → judged (this_symbol s ∷ more) before ts ≡ followed (token_by (a_symbol s) ts) (judged more before)
symbol_goes s more before [] = refl
symbol_goes s more before (symbol t ∷ ts) = symbol_by s t more before ts (is_symbol t s) refl
symbol_goes s more before (t ∷ ts) = refl

pub walks_symbol : (s : Symbol) → Walks (this_symbol s ∷ []) (token_by (a_symbol s))
walks_symbol s = record { goes = symbol_goes s }

word_by : (k w : Keyword) (more : List Awaited) (before : ℕ) (ts : List Lexeme) (b : Bool) → is_keyword w k ≡ b
    → judged (this_word k ∷ more) before (keyword w ∷ ts) ≡ followed (token_by (a_keyword k) (keyword w ∷ ts)) (judged more before)
word_by k w more before ts true e = rw e refl
word_by k w more before ts false e = rw e refl

word_goes : (k : Keyword) (more : List Awaited) (before : ℕ) (ts : List Lexeme)
    → judged (this_word k ∷ more) before ts ≡ followed (token_by (a_keyword k) ts) (judged more before)
word_goes k more before [] = refl
word_goes k more before (keyword w ∷ ts) = word_by k w more before ts (is_keyword w k) refl
word_goes k more before (t ∷ ts) = refl

pub walks_word : (k : Keyword) → Walks (this_word k ∷ []) (token_by (a_keyword k))
walks_word k = record { goes = word_goes k }

name_goes : (more : List Awaited) (before : ℕ) (ts : List Lexeme)
    → judged (some_name ∷ more) before ts ≡ followed (token_by a_name ts) (judged more before)
name_goes more before [] = refl
name_goes more before (name x ∷ ts) = refl
name_goes more before (long_name ∷ ts) = refl
name_goes more before (t ∷ ts) = refl

pub walks_name : Walks (some_name ∷ []) (token_by a_name)
walks_name = record { goes = name_goes }

number_by : (most n : ℕ) (more : List Awaited) (before : ℕ) (ts : List Lexeme) (b : Bool) → nat_le n most ≡ b
    → judged (some_number most ∷ more) before (number n ∷ ts) ≡ followed (token_by (a_number most) (number n ∷ ts)) (judged more before)
number_by most n more before ts true e = rw e refl
number_by most n more before ts false e = rw e refl

number_goes : (most : ℕ) (more : List Awaited) (before : ℕ) (ts : List Lexeme)
    → judged (some_number most ∷ more) before ts ≡ followed (token_by (a_number most) ts) (judged more before)
number_goes most more before [] = refl
number_goes most more before (number n ∷ ts) = number_by most n more before ts (nat_le n most) refl
number_goes most more before (t ∷ ts) = refl

pub walks_number : (most : ℕ) → Walks (some_number most ∷ []) (token_by (a_number most))
walks_number most = record { goes = number_goes most }

operator_goes : (more : List Awaited) (before : ℕ) (ts : List Lexeme)
    → judged (operator ∷ more) before ts ≡ followed (token_by a_sign ts) (judged more before)
operator_goes more before [] = refl
operator_goes more before (symbol mark.Plus ∷ ts) = refl
operator_goes more before (t ∷ ts) = refl

pub walks_operator : Walks (operator ∷ []) (token_by a_sign)
walks_operator = record { goes = operator_goes }

relation_goes : (more : List Awaited) (before : ℕ) (ts : List Lexeme)
    → judged (relation ∷ more) before ts ≡ followed (token_by a_relation ts) (judged more before)
relation_goes more before [] = refl
relation_goes more before (symbol mark.Equal ∷ ts) = refl
relation_goes more before (t ∷ ts) = refl

pub walks_relation : Walks (relation ∷ []) (token_by a_relation)
walks_relation = record { goes = relation_goes }
