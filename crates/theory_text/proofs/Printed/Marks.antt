-- The symbols and spaces of canonical text.
use Rattle.std.proofs.Common.{◌≡◌, ℕ, false, List, [], ◌∷◌, Some, refl}
use Rattle.std.specs.Prelude.{codes}
use Rattle.spec_text.specs.declared.token.Kind.TheVariants as kind
use Rattle.spec_text.specs.declared.token.Symbol.{Symbol}
use Rattle.spec_text.specs.declared.token.Symbol.TheVariants as mark
use Rattle.spec_text.specs.declared.lexeme.Lexeme.{Lexeme}
use Rattle.spec_text.specs.declared.lexeme.Lexeme.TheVariants.{Symbol as symbol}
use Rattle.spec_text.specs.Lexis.{is_blank, Prefix, prefix, symbol_prefix}
use Rattle.theory_text.proofs.Printed.Pieces.{says_blank, says_token, Closed, closed_closed}

pub space : Closed (32 ∷ []) []
space = record { says = λ rest later h. says_blank rest later h }

-- ---- one symbol

-- whatever follows, the prefix is this symbol
abbrev IsMark : ℕ → Symbol → Type 0
IsMark b s = (rest : List ℕ) → let f : Prefix = (kind.Symbol s, 0) in prefix b rest ≡ Some f

a_mark : (b : ℕ) (s : Symbol) → is_blank b ≡ false → IsMark b s → Closed (b ∷ []) (symbol s ∷ [])
a_mark b s h is = record { says = λ rest later k. says_token b [] rest (kind.Symbol s) (symbol s) later h (is rest) refl k }

pub left_brace : Closed (codes "{") (symbol mark.LeftBrace ∷ [])
unfolding symbol_prefix
left_brace = a_mark 123 mark.LeftBrace refl (λ rest. refl)

pub right_brace : Closed (codes "}") (symbol mark.RightBrace ∷ [])
unfolding symbol_prefix
right_brace = a_mark 125 mark.RightBrace refl (λ rest. refl)

pub left_paren : Closed (codes "(") (symbol mark.LeftParen ∷ [])
unfolding symbol_prefix
left_paren = a_mark 40 mark.LeftParen refl (λ rest. refl)

pub right_paren : Closed (codes ")") (symbol mark.RightParen ∷ [])
unfolding symbol_prefix
right_paren = a_mark 41 mark.RightParen refl (λ rest. refl)

pub left_bracket : Closed (codes "[") (symbol mark.LeftBracket ∷ [])
unfolding symbol_prefix
left_bracket = a_mark 91 mark.LeftBracket refl (λ rest. refl)

pub right_bracket : Closed (codes "]") (symbol mark.RightBracket ∷ [])
unfolding symbol_prefix
right_bracket = a_mark 93 mark.RightBracket refl (λ rest. refl)

colon : Closed (codes ":") (symbol mark.Colon ∷ [])
unfolding symbol_prefix
colon = a_mark 58 mark.Colon refl (λ rest. refl)

bang : Closed (codes "!") (symbol mark.Bang ∷ [])
unfolding symbol_prefix
bang = a_mark 33 mark.Bang refl (λ rest. refl)

question : Closed (codes "?") (symbol mark.Question ∷ [])
unfolding symbol_prefix
question = a_mark 63 mark.Question refl (λ rest. refl)

at_sign : Closed (codes "@") (symbol mark.At ∷ [])
unfolding symbol_prefix
at_sign = a_mark 64 mark.At refl (λ rest. refl)

dot : Closed (codes ".") (symbol mark.Dot ∷ [])
unfolding symbol_prefix
dot = a_mark 46 mark.Dot refl (λ rest. refl)

comma : Closed (codes ",") (symbol mark.Comma ∷ [])
unfolding symbol_prefix
comma = a_mark 44 mark.Comma refl (λ rest. refl)

ampersand : Closed (codes "&") (symbol mark.Ampersand ∷ [])
unfolding symbol_prefix
ampersand = a_mark 38 mark.Ampersand refl (λ rest. refl)

plus : Closed (codes "+") (symbol mark.Plus ∷ [])
unfolding symbol_prefix
plus = a_mark 43 mark.Plus refl (λ rest. refl)

equal : Closed (codes "=") (symbol mark.Equal ∷ [])
unfolding symbol_prefix
equal = a_mark 61 mark.Equal refl (λ rest. refl)

less : Closed (codes "<") (symbol mark.Less ∷ [])
unfolding symbol_prefix
less = a_mark 60 mark.Less refl (λ rest. refl)

pub bar : Closed (codes "|") (symbol mark.Bar ∷ [])
unfolding symbol_prefix
bar = a_mark 124 mark.Bar refl (λ rest. refl)

-- a minus before a space
minus_space : Closed (codes "- ") (symbol mark.Minus ∷ [])
unfolding symbol_prefix
minus_space =
    record { says = λ rest later h. says_token 45 [] (32 ∷ rest) (kind.Symbol mark.Minus) (symbol mark.Minus) later refl refl refl (says_blank rest later h) }

arrow : Closed (codes "->") (symbol mark.Arrow ∷ [])
arrow = record { says = λ rest later h. says_token 45 (62 ∷ []) rest (kind.Symbol mark.Arrow) (symbol mark.Arrow) later refl refl refl h }

-- ---- symbols and spaces

pub after_space : {bytes : List ℕ} {said : List Lexeme} → Closed bytes said → Closed (32 ∷ bytes) said
after_space h = closed_closed space h

spaced : {b : ℕ} {said : Lexeme} → Closed (b ∷ []) (said ∷ []) → Closed (32 ∷ b ∷ 32 ∷ []) (said ∷ [])
spaced h = after_space (closed_closed h space)

pub plus_spaced : Closed (codes " + ") (symbol mark.Plus ∷ [])
plus_spaced = spaced plus

pub minus_spaced : Closed (codes " - ") (symbol mark.Minus ∷ [])
minus_spaced = after_space minus_space

pub equal_spaced : Closed (codes " = ") (symbol mark.Equal ∷ [])
equal_spaced = spaced equal

pub less_spaced : Closed (codes " < ") (symbol mark.Less ∷ [])
less_spaced = spaced less

pub colon_spaced : Closed (codes " : ") (symbol mark.Colon ∷ [])
colon_spaced = spaced colon

pub dot_spaced : Closed (codes " . ") (symbol mark.Dot ∷ [])
dot_spaced = spaced dot

pub at_spaced : Closed (codes " @ ") (symbol mark.At ∷ [])
at_spaced = spaced at_sign

pub bar_spaced : Closed (codes " | ") (symbol mark.Bar ∷ [])
bar_spaced = spaced bar

pub ampersand_spaced : Closed (codes " & ") (symbol mark.Ampersand ∷ [])
ampersand_spaced = spaced ampersand

pub arrow_spaced : Closed (codes " -> ") (symbol mark.Arrow ∷ [])
arrow_spaced = after_space (closed_closed arrow space)

pub comma_space : Closed (codes ", ") (symbol mark.Comma ∷ [])
comma_space = closed_closed comma space

pub right_brace_space : Closed (codes "} ") (symbol mark.RightBrace ∷ [])
right_brace_space = closed_closed right_brace space

-- behind the party of an entry
pub colon_space : Closed (codes ": ") (symbol mark.Colon ∷ [])
colon_space = closed_closed colon space

pub colon_bang : Closed (codes ":! ") (symbol mark.Colon ∷ symbol mark.Bang ∷ [])
colon_bang = closed_closed colon (closed_closed bang space)

pub colon_question : Closed (codes ":? ") (symbol mark.Colon ∷ symbol mark.Question ∷ [])
colon_question = closed_closed colon (closed_closed question space)
