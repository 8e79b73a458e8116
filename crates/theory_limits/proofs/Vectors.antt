-- Worked marks of short texts.
use Rattle.std.proofs.Common.{◌≡◌, ℕ, zero, suc, List, [], ◌∷◌, ◌++◌, refl}
use Rattle.std.specs.Prelude.{codes, Some}
use Rattle.spec_terms.specs.declared.limit.Limit.{Limit}
use Rattle.spec_terms.specs.declared.limit.Limit.TheVariants as limits
use Rattle.spec_text.specs.declared.token.Keyword.TheVariants as word
use Rattle.spec_text.specs.declared.token.Symbol.TheVariants as mark
use Rattle.spec_text.specs.declared.lexeme.Lexeme.{Lexeme}
use Rattle.spec_text.specs.declared.lexeme.Lexeme.TheVariants.{Keyword as keyword, Symbol as symbol, Name as name, Number as number, LongName as long_name, HugeNumber as huge_number}
use Rattle.theory_limits.specs.Marks.{Mark, marks, grammar_end}

-- a mark of this quantity, with so many tokens left
abbrev at : Limit → ℕ → Mark
at w left = record { quantity = w; left = left }

-- so many times these tokens
abbrev times : ℕ → List Lexeme → List Lexeme
times zero t = []
times (suc n) t = t ++ times n t

abbrev a_secret : List Lexeme
a_secret = name (codes "A") ∷ symbol mark.Colon ∷ keyword word.Secret ∷ name (codes "a") ∷ []

abbrev more_secrets : ℕ → List Lexeme
more_secrets n = times n (symbol mark.Bar ∷ a_secret)

-- `{A: secret a}` and a contract
abbrev with_secret : List Lexeme → List Lexeme
with_secret t = symbol mark.LeftBrace ∷ (a_secret ++ symbol mark.RightBrace ∷ t)

abbrev payment : List Lexeme
payment = keyword word.Withdraw ∷ name (codes "A") ∷ []

abbrev wrappers : ℕ → List Lexeme
wrappers n = times n (name (codes "A") ∷ symbol mark.Colon ∷ [])

-- ---- depth

pub deepest : marks (with_secret (wrappers 63 ++ payment)) ≡ []
deepest = refl

pub too_deep : marks (with_secret (wrappers 64 ++ payment)) ≡ at limits.Depth 2 ∷ []
too_deep = refl

-- the name comes before the depth at one token
pub long_and_deep : marks (with_secret (wrappers 64 ++ long_name ∷ [])) ≡ at limits.Name 1 ∷ at limits.Depth 1 ∷ []
long_and_deep = refl

-- `reveal a if not not .. P . withdraw A`
abbrev revealed : ℕ → List Lexeme → List Lexeme
revealed n t =
    with_secret
    (keyword word.Reveal ∷ name (codes "a") ∷ keyword word.If ∷ (times n (keyword word.Not ∷ []) ++ (t ++ symbol mark.Dot ∷ payment)))

pub deepest_true : marks (revealed 63 (keyword word.True ∷ [])) ≡ []
deepest_true = refl

-- a comparison has its expressions under it
pub comparison_too_deep : marks (revealed 63 (number 0 ∷ symbol mark.Equal ∷ number 0 ∷ [])) ≡ at limits.Depth 6 ∷ at limits.Depth 4 ∷ []
comparison_too_deep = refl

pub constant_too_great : marks (revealed 0 (number 2147483648 ∷ symbol mark.Equal ∷ number 2147483647 ∷ [])) ≡ at limits.Number 6 ∷ []
constant_too_great = refl

-- ---- branches and parts

pub widest : marks
    (with_secret (symbol mark.LeftParen ∷ (payment ++ (times 31 (symbol mark.Plus ∷ payment) ++ symbol mark.RightParen ∷ [])))) ≡ []
widest = refl

pub too_wide : marks
    (with_secret (symbol mark.LeftParen ∷ (payment ++ (times 32 (symbol mark.Plus ∷ payment) ++ symbol mark.RightParen ∷ []))))
    ≡ at limits.Choice 3 ∷ []
too_wide = refl

abbrev a_part : List Lexeme
a_part = number 1 ∷ symbol mark.Arrow ∷ payment

-- the value comes before the number of parts at one token
pub too_many_parts : marks
    (with_secret
    (keyword word.Split ∷ symbol mark.LeftBracket ∷
    (a_part ++ (times 63 (symbol mark.Comma ∷ a_part) ++ symbol mark.Comma ∷ huge_number ∷ []))))
    ≡ at limits.Number 1 ∷ at limits.Split 1 ∷ []
too_many_parts = refl

-- a split of 64 parts with eight branches each: with the split itself the last of them is the 513th
abbrev eight : List Lexeme
eight =
    number 1 ∷ symbol mark.Arrow ∷ symbol mark.LeftParen ∷
    (payment ++ (times 7 (symbol mark.Plus ∷ payment) ++ symbol mark.RightParen ∷ []))

pub too_many_branches : marks
    (with_secret
    (keyword word.Split ∷ symbol mark.LeftBracket ∷ (eight ++ (times 63 (symbol mark.Comma ∷ eight) ++ symbol mark.RightBracket ∷ []))))
    ≡ at limits.Branches 4 ∷ []
too_many_branches = refl

-- ---- entries

pub most_entries : marks (symbol mark.LeftBrace ∷ (a_secret ++ (more_secrets 31 ++ symbol mark.RightBrace ∷ payment))) ≡ []
most_entries = refl

-- the 33rd is marked at its first token, whole or not
pub too_many_entries : marks
    (symbol mark.LeftBrace ∷
    (a_secret ++ (more_secrets 31 ++ symbol mark.Bar ∷ name (codes "A") ∷ symbol mark.Colon ∷ keyword word.Secret ∷ [])))
    ≡ at limits.Secrets 3 ∷ []
too_many_entries = refl

-- but not before its kind shows
pub no_kind : marks
    (symbol mark.LeftBrace ∷
    (a_secret ++ (more_secrets 31 ++ symbol mark.Bar ∷ name (codes "A") ∷ symbol mark.Colon ∷ name (codes "a") ∷ []))) ≡ []
no_kind = refl

pub no_kind_ends : grammar_end
    (symbol mark.LeftBrace ∷
    (a_secret ++ (more_secrets 31 ++ symbol mark.Bar ∷ name (codes "A") ∷ symbol mark.Colon ∷ name (codes "a") ∷ []))) ≡ Some 1
no_kind_ends = refl
