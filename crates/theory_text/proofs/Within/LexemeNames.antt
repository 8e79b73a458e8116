-- The names among what the tokens of a text say are names.
use Rattle.std.proofs.Common.{◌≡◌, ℕ, zero, suc, ◌+◌, ◌-◌, Bool, true, false, List, [], ◌∷◌, take, drop, map, Option, Some, None, Ok, Err, refl, sym, ap, subst, ◌∙◌, arith}
use Rattle.std.specs.Prelude.{◌&&◌, if◌then◌else◌, ◌==◌, take_while}
use Rattle.std.specs.Str.{bytes_eq}
use Rattle.std.proofs.lemmas.List.{drop-drop}
use Rattle.spec_data.specs.Lists.{is_among}
use Rattle.spec_data.specs.Digits.{is_digit}
use Rattle.spec_terms.specs.Readable.{is_letter, is_name_byte, is_word, is_name, keywords as words}
use Rattle.spec_text.specs.declared.token.Token.{Token}
use Rattle.spec_text.specs.declared.token.Kind.{Kind}
use Rattle.spec_text.specs.declared.token.Kind.TheVariants as kind
use Rattle.spec_text.specs.declared.token.Keyword.{Keyword}
use Rattle.spec_text.specs.declared.token.Symbol.{Symbol}
use Rattle.spec_text.specs.declared.lexeme.Lexeme.{Lexeme}
use Rattle.spec_text.specs.declared.lexeme.Lexeme.TheVariants.{Name as name}
use Rattle.spec_text.specs.Lexeme.{fits_name, name_or_long, lexeme_of, token_bytes, lexeme_in, lexemes}
use Rattle.spec_text.specs.Lexis.{keywords, word_in, name_kind, kind_or_name, word_kind, symbols, symbol_in, Prefix, word_prefix, number_prefix, symbol_or_none, symbol_prefix, begins_greater, prefix, Tokens, with_token, token_at, Look, inside, blank, start, no_token, prefix_look, look, is_blank, left_of, from_look, tokens_from, tokens_of}
use Rattle.theory_text.proofs.ListFacts.{and_is, and_right, or_no, not_no, bytes_ne-back}
use Rattle.theory_text.proofs.Runs.{run_all, run_behind}

-- a name that a token says is one
abbrev pub HasName : Lexeme → Type 0
HasName (name bytes) = is_name bytes ≡ true
HasName _ = Unit {0}

abbrev pub HaveNames : List Lexeme → Type 0
HaveNames [] = Unit {0}
HaveNames (t ∷ ts) = HasName t × HaveNames ts

-- ---- a word

-- a row of a table that isn't taken
record Passed {A : Type 0} (t : Bool) (later : Option A) : Type 0 where
  other : t ≡ false
  none : later ≡ None

passed : {A : Type 0} (t : Bool) (x : A) (later : Option A) → (if t then Some x else later) ≡ None → Passed t later
passed true x later h = absurd cc
passed false x later h = record { other = refl; none = h }

-- a word that isn't in the table is none of its words
not_in : {A : Type 0} (rows : List (List ℕ × A)) (bytes : List ℕ) → word_in rows bytes ≡ None → is_among bytes (map (λ (row : List ℕ × A). row.0) rows) ≡ false
not_in [] bytes h = refl
not_in (row ∷ rows) bytes h =
    let p = passed (bytes_eq bytes row.0) row.1 (word_in rows bytes) h in
    or_no _ _ (bytes_ne-back bytes row.0 p.other) (not_in rows bytes p.none)

not_keyword : (bytes : List ℕ) → word_in keywords bytes ≡ None → is_among bytes words ≡ false
not_keyword bytes h = not_in keywords bytes h

fitting : (bytes : List ℕ) → is_word bytes ≡ true → is_among bytes words ≡ false → (t : Bool) → fits_name bytes ≡ t → HasName (name_or_long bytes t)
unfolding is_name
fitting bytes word other true h = and_is _ _ word (and_is _ _ (and_right _ _ h) (not_no _ other))
fitting bytes word other false h = tt

-- a word that is no keyword
other_word : (bytes : List ℕ) (k : Kind) → is_word bytes ≡ true → is_among bytes words ≡ false → HasName (lexeme_of k bytes)
other_word bytes kind.Name word other = fitting bytes word other (fits_name bytes) refl
other_word bytes (kind.Keyword k) word other = tt
other_word bytes (kind.Symbol s) word other = tt
other_word bytes kind.LongName word other = tt
other_word bytes (kind.Number n) word other = tt
other_word bytes kind.HugeNumber word other = tt

any_word : (bytes : List ℕ) (o : Option Keyword) → word_in keywords bytes ≡ o → is_word bytes ≡ true → HasName (lexeme_of (kind_or_name bytes o) bytes)
any_word bytes (Some k) h word = tt
any_word bytes None h word = other_word bytes (name_kind bytes) word (not_keyword bytes h)

-- ---- the token at the front

-- what the token at the front says
abbrev PrefixHasName : ℕ → List ℕ → Option Prefix → Type 0
PrefixHasName b bytes None = Unit {0}
PrefixHasName b bytes (Some f) = HasName (lexeme_of f.0 (take (f.1 + 1) (b ∷ bytes)))

word_case : (b : ℕ) (bytes : List ℕ) → is_letter b ≡ true → PrefixHasName b bytes (Some (word_prefix b bytes))
unfolding word_prefix
word_case b bytes h =
    let w = b ∷ take_while is_name_byte bytes in
    let said = any_word w (word_in keywords w) refl (and_is _ _ h (run_all is_name_byte bytes)) in
    subst (λ (said : List ℕ). HasName (lexeme_of (word_kind w) said)) (sym (run_behind is_name_byte b bytes)) said

number_said : (t : Bool) (n : ℕ) (bytes : List ℕ) → HasName (lexeme_of (if t then kind.Number n else kind.HugeNumber) bytes)
number_said true n bytes = tt
number_said false n bytes = tt

number_case : (b : ℕ) (bytes : List ℕ) → PrefixHasName b bytes (Some (number_prefix b bytes))
unfolding number_prefix
number_case b bytes = number_said _ _ _

symbol_said : (b : ℕ) (bytes : List ℕ) (o : Option Symbol) → PrefixHasName b bytes (symbol_or_none o)
symbol_said b bytes None = tt
symbol_said b bytes (Some s) = tt

symbol_case : (b : ℕ) (bytes : List ℕ) → PrefixHasName b bytes (symbol_prefix b)
unfolding symbol_prefix
symbol_case b bytes = symbol_said b bytes (symbol_in symbols b)

either_prefix : (b : ℕ) (bytes : List ℕ) (t : Bool) (x y : Option Prefix) → (t ≡ true → PrefixHasName b bytes x) → PrefixHasName b bytes y
    → PrefixHasName b bytes (if t then x else y)
either_prefix b bytes true x y f g = f refl
either_prefix b bytes false x y f g = g

prefix_has : (b : ℕ) (bytes : List ℕ) → PrefixHasName b bytes (prefix b bytes)
prefix_has b bytes =
    either_prefix b bytes (is_letter b) _ _ (word_case b bytes)
    (either_prefix b bytes (b == 48) _ _ (λ h. tt)
    (either_prefix b bytes (is_digit b) _ _ (λ h. number_case b bytes)
    (either_prefix b bytes ((b == 45) && begins_greater bytes) _ _ (λ h. tt) (symbol_case b bytes))))

-- ---- all tokens

abbrev TokensHaveNames : List ℕ → Tokens → Type 0
TokensHaveNames text (Ok tokens) = HaveNames (lexemes text tokens)
TokensHaveNames text (Err place) = Unit {0}

token_more : (text : List ℕ) (token : Token) (later : Tokens) → HasName (lexeme_in text token) → TokensHaveNames text later
    → TokensHaveNames text (with_token token later)
token_more text token (Ok tokens) h t = (h, t)
token_more text token (Err place) h t = tt

-- the bytes of the token that is at the front from a place on
pub token_bytes-at : (text : List ℕ) (place : ℕ) (f : Prefix) (rest : List ℕ) → drop place text ≡ rest → token_bytes text (token_at place f)
    ≡ take (f.1 + 1) rest
token_bytes-at text place f rest h =
    let n : place + f.1 + 1 - place ≡ f.1 + 1 = omega arith in
    ap (λ (k : ℕ). take k (drop place text)) n ∙ ap (take (f.1 + 1)) h

abbrev LookHasName : ℕ → List ℕ → Look → Type 0
LookHasName b bytes (inside left) = Unit {0}
LookHasName b bytes blank = Unit {0}
LookHasName b bytes (start f) = PrefixHasName b bytes (Some f)
LookHasName b bytes no_token = Unit {0}

prefix_looks : (b : ℕ) (bytes : List ℕ) (o : Option Prefix) → PrefixHasName b bytes o → LookHasName b bytes (prefix_look o)
prefix_looks b bytes None h = tt
prefix_looks b bytes (Some f) h = h

blank_or : (b : ℕ) (bytes : List ℕ) (t : Bool) → LookHasName b bytes (if t then blank else prefix_look (prefix b bytes))
blank_or b bytes true = tt
blank_or b bytes false = prefix_looks b bytes (prefix b bytes) (prefix_has b bytes)

look_has : (left b : ℕ) (bytes : List ℕ) → LookHasName b bytes (look left b bytes)
look_has zero b bytes = blank_or b bytes (is_blank b)
look_has (suc left) b bytes = tt

look_more : (text : List ℕ) (place b : ℕ) (bytes : List ℕ) (l : Look) (later : Tokens) → drop place text ≡ b ∷ bytes → LookHasName b bytes l
    → TokensHaveNames text later → TokensHaveNames text (from_look place l later)
look_more text place b bytes (inside left) later e h t = t
look_more text place b bytes blank later e h t = t
look_more text place b bytes (start f) later e h t =
    token_more text (token_at place f) later (subst (λ (said : List ℕ). HasName (lexeme_of f.0 said)) (sym (token_bytes-at text place f (b ∷ bytes) e)) h) t
look_more text place b bytes no_token later e h t = tt

-- what is behind the byte at a place
pub behind : (text : List ℕ) (place b : ℕ) (bytes : List ℕ) → drop place text ≡ b ∷ bytes → drop (place + 1) text ≡ bytes
behind text place b bytes e = sym (drop-drop 1 place text) ∙ ap (drop 1) e

tokens_have : (text : List ℕ) (bytes : List ℕ) (place left : ℕ) → drop place text ≡ bytes → TokensHaveNames text (tokens_from place left bytes)
tokens_have text [] place left e = tt
tokens_have text (b ∷ bytes) place left e =
    look_more text place b bytes (look left b bytes) _ e (look_has left b bytes)
    (tokens_have text bytes (place + 1) (left_of (look left b bytes)) (behind text place b bytes e))

cut_have : (text : List ℕ) (cut : Tokens) (tokens : List Token) → TokensHaveNames text cut → cut ≡ Ok tokens → HaveNames (lexemes text tokens)
cut_have text cut tokens h e = subst (TokensHaveNames text) e h

-- each name in a text is a name
pub text_has_names : (text : List ℕ) (tokens : List Token) → tokens_of text ≡ Ok tokens → HaveNames (lexemes text tokens)
text_has_names text tokens e = cut_have text (tokens_of text) tokens (tokens_have text text 0 0 refl) e
