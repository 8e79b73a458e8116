-- The limits that the tokens of a contract text exceed, in order, and where its grammar ends.
use Rattle.std.specs.Prelude.{ℕ, suc, List, [], ◌∷◌, ◌++◌, length, if◌then◌else◌, nat_le, Option, Some, None}
use Rattle.spec_data.specs.Ranges.{max_money}
use Rattle.spec_terms.specs.Readable.{greatest_constant, most_depth, most_branches, most_choices, most_parts, most_deposits, most_secrets}
use Rattle.spec_terms.specs.declared.limit.Limit.{Limit}
use Rattle.spec_terms.specs.declared.limit.Limit.TheVariants as limits
use Rattle.spec_text.specs.declared.token.Keyword.TheVariants as word
use Rattle.spec_text.specs.declared.token.Symbol.TheVariants as mark
use Rattle.spec_text.specs.declared.lexeme.Lexeme.{Lexeme}
use Rattle.spec_text.specs.declared.lexeme.Lexeme.TheVariants.{Keyword as keyword, Symbol as symbol, Number as number}
use Rattle.spec_text.specs.declared.lexeme.Lexeme.TheVariants.{LongName as long_name, HugeNumber as huge_number}
use Rattle.theory_limits.specs.Awaited.{Awaited, a_name, a_number, formula, test, wrapped, branch, contract, part, entry, fee_or_contract}
use Rattle.theory_limits.specs.Awaited.{Next, next, an_advert}

-- ---- what one token exceeds

-- a quantity that has reached this number, where at most so much may be
abbrev pub over : Limit → ℕ → ℕ → List Limit
over w most n = if nat_le n most then [] else w ∷ []

-- the length of a name
abbrev pub long : Lexeme → List Limit
long long_name = limits.Name ∷ []
long _ = []

-- the size of a number
abbrev pub great : ℕ → Lexeme → List Limit
great most (number n) = over limits.Number most n
great most huge_number = limits.Number ∷ []
great most _ = []

-- A predicate: a comparison is a node and its first expression, which begins with the same token, a node under it.
abbrev pub over_test : ℕ → Lexeme → List Limit
over_test d (keyword k) = over limits.Depth most_depth d
over_test d (symbol mark.LeftBracket) = over limits.Depth most_depth d
over_test d t = great greatest_constant t ++ over limits.Depth most_depth (suc d)

-- the counts of a branch of this depth and number, where so many came in the whole contract before
abbrev pub over_counts : ℕ → ℕ → ℕ → List Limit
over_counts d k before =
    over limits.Depth most_depth d ++ (over limits.Branches most_branches (suc before) ++ over limits.Choice most_choices k)

abbrev pub over_branch : ℕ → ℕ → ℕ → Lexeme → List Limit
over_branch d k before t = long t ++ over_counts d k before

-- a contract without brackets is a branch
abbrev pub over_contract : ℕ → ℕ → Lexeme → List Limit
over_contract d before (symbol s) = []
over_contract d before t = over_branch d 1 before t

-- An entry, which is a deposit or a secret as soon as its party and colon are followed by what tells so, whole or not.
abbrev pub over_entry : ℕ → ℕ → List Lexeme → List Limit
over_entry deposits secrets (symbol mark.Colon ∷ symbol mark.Bang ∷ ts) = over limits.Deposits most_deposits (suc deposits)
over_entry deposits secrets (symbol mark.Colon ∷ symbol mark.Question ∷ ts) = over limits.Deposits most_deposits (suc deposits)
over_entry deposits secrets (symbol mark.Colon ∷ keyword word.Secret ∷ ts) = over limits.Secrets most_secrets (suc secrets)
over_entry deposits secrets _ = []

-- The quantities that are exceeded with a token, in their order, by what is awaited and how many branches came in the
-- whole contract before.
abbrev pub exceeded : Awaited → ℕ → Lexeme → List Lexeme → List Limit
exceeded a_name before t ts = long t
exceeded (a_number most) before t ts = great most t
exceeded (formula d) before t ts = great greatest_constant t ++ over limits.Depth most_depth d
exceeded (test d) before t ts = over_test d t
exceeded (wrapped d) before t ts = long t ++ over limits.Depth most_depth d
exceeded (branch d k) before t ts = over_branch d k before t
exceeded (contract d) before t ts = over_contract d before t
exceeded (part d k) before t ts = great max_money t ++ over limits.Split most_parts k
exceeded (entry deposits secrets) before t ts = long t ++ over_entry deposits secrets ts
exceeded fee_or_contract before (keyword word.Fee) ts = []
exceeded fee_or_contract before t ts = over_contract 1 before t
exceeded _ before t ts = []

-- how many branches came, with a contract that begins with this token, where so many came before
abbrev pub came_bare : Lexeme → ℕ → ℕ
came_bare (symbol s) before = before
came_bare t before = suc before

-- how many branches came with a token, where so many came before
abbrev pub came : Awaited → Lexeme → ℕ → ℕ
came (branch d k) t before = suc before
came (contract d) t before = came_bare t before
came fee_or_contract (keyword word.Fee) before = before
came fee_or_contract t before = came_bare t before
came _ t before = before

-- ---- the marks of a text

-- a quantity, and how many tokens are left from that on with which it is exceeded, itself included
pub record Mark : Type 0 where
  pub quantity : Limit
  pub left : ℕ

abbrev pub marks_at : ℕ → List Limit → List Mark
marks_at left [] = []
marks_at left (w ∷ ws) = record { quantity = w; left = left } ∷ marks_at left ws

-- the marks of a token and of those behind it, by what it lets await; none from a token on that can't come
abbrev pub marks_here : Next → List Mark → (List Awaited → List Mark) → List Mark
marks_here None here behind = []
marks_here (Some new) here behind = here ++ behind new

-- the marks of tokens in order, where so many branches came before
abbrev pub marks_from : List Awaited → ℕ → List Lexeme → List Mark
marks_from awaited before [] = []
marks_from [] before (t ∷ ts) = []
marks_from (a ∷ as') before (t ∷ ts) =
    marks_here (next a t) (marks_at (suc (length ts)) (exceeded a before t ts)) (λ new. marks_from (new ++ as') (came a t before) ts)

-- the marks of a contract text
abbrev pub marks : List Lexeme → List Mark
marks t = marks_from an_advert 0 t

-- ---- where the grammar ends

-- where the grammar ends from a token on, of which so many are left, by what it lets await
abbrev pub end_here : Next → ℕ → (List Awaited → Option ℕ) → Option ℕ
end_here None left behind = Some left
end_here (Some new) left behind = behind new

-- how many tokens are left from the first on that can't come; none where all can and nothing more is awaited
abbrev pub end_from : List Awaited → List Lexeme → Option ℕ
end_from [] [] = None
end_from (a ∷ as') [] = Some 0
end_from [] (t ∷ ts) = Some (suc (length ts))
end_from (a ∷ as') (t ∷ ts) = end_here (next a t) (suc (length ts)) (λ new. end_from (new ++ as') ts)

-- where the grammar ends in a contract text
abbrev pub grammar_end : List Lexeme → Option ℕ
grammar_end t = end_from an_advert t
