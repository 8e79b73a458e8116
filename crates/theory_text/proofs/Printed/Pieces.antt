-- Pieces of text, with what their tokens say, whatever follows.
use Rattle.std.proofs.Common.{◌≡◌, ℕ, suc, ◌+◌, false, List, [], ◌∷◌, ◌++◌, length, take, drop, Some, Ok, refl, sym, ap, subst, ◌∙◌, arith, append_assoc}
use Rattle.std.proofs.lemmas.List.{drop-drop, take_at, drop_at, append-nil}
use Rattle.spec_terms.specs.Readable.{is_name_byte}
use Rattle.spec_text.specs.declared.token.Token.{Token}
use Rattle.spec_text.specs.declared.token.Kind.{Kind}
use Rattle.spec_text.specs.declared.lexeme.Lexeme.{Lexeme}
use Rattle.spec_text.specs.Lexeme.{lexeme_of, token_bytes, lexemes}
use Rattle.spec_text.specs.Lexis.{is_blank, Prefix, prefix, with_token, token_at, tokens_from}
use Rattle.theory_text.proofs.Runs.{Stops}
use Rattle.theory_text.proofs.Within.LexemeNames.{token_bytes-at, behind}

-- ---- the end of a text

-- the tokens of these bytes, from a place of the text on, and what they say
pub record SaysAt (text : List ℕ) (place : ℕ) (bytes : List ℕ) (said : List Lexeme) : Type 0 where
  pub tokens : List Token
  pub cut : tokens_from place 0 bytes ≡ Ok tokens
  pub say : lexemes text tokens ≡ said

-- what the bytes say at the end of any text
abbrev pub Says : List ℕ → List Lexeme → Type 0
Says bytes said = (text : List ℕ) (place : ℕ) → drop place text ≡ bytes → SaysAt text place bytes said

pub says_nothing : Says [] []
says_nothing text place e = record { tokens = []; cut = refl; say = refl }

-- a blank says nothing
pub says_blank : (rest : List ℕ) (said : List Lexeme) → Says rest said → Says (32 ∷ rest) said
says_blank rest said h text place e =
    let s = h text (place + 1) (behind text place 32 rest e) in
    record { tokens = s.tokens; cut = s.cut; say = s.say }

-- the bytes that still belong to a token are passed over
passed_over : (more rest : List ℕ) (place : ℕ) → tokens_from place (length more) (more ++ rest) ≡ tokens_from (place + length more) 0 rest
passed_over [] rest place = ap (λ (n : ℕ). tokens_from n 0 rest) (omega arith)
passed_over (b ∷ more) rest place =
    let e : place + 1 + length more ≡ place + suc (length more) = omega arith in
    passed_over more rest (place + 1) ∙ ap (λ (n : ℕ). tokens_from n 0 rest) e

-- a token at the front
at_token : (place b : ℕ) (bytes : List ℕ) (f : Prefix) → is_blank b ≡ false → prefix b bytes ≡ Some f → tokens_from place 0 (b ∷ bytes)
    ≡ with_token (token_at place f) (tokens_from (place + 1) f.1 bytes)
at_token place b bytes f h e = rw (h, e) refl

-- a token, and what is behind it
pub says_token : (b : ℕ) (more rest : List ℕ) (k : Kind) (t : Lexeme) (said : List Lexeme) → is_blank b ≡ false
    → (let f : Prefix = (k, length more) in prefix b (more ++ rest) ≡ Some f)
    → lexeme_of k (b ∷ more) ≡ t → Says rest said → Says ((b ∷ more) ++ rest) (t ∷ said)
says_token b more rest k t said h e is later text place at =
    let f : Prefix = (k, length more) in
    let first : drop (place + 1) text ≡ more ++ rest = behind text place b (more ++ rest) at in
    let there : drop (place + 1 + length more) text ≡ rest =
    sym (drop-drop (length more) (place + 1) text) ∙ (ap (drop (length more)) first ∙ drop_at more rest (length more) refl) in
    let s = later text (place + 1 + length more) there in
    let read : tokens_from (place + 1) (length more) (more ++ rest) ≡ Ok s.tokens = passed_over more rest (place + 1) ∙ s.cut in
    let n : length more + 1 ≡ suc (length more) = omega arith in
    let taken : take (length more + 1) (b ∷ (more ++ rest)) ≡ b ∷ more =
    ap (λ (i : ℕ). take i (b ∷ (more ++ rest))) n ∙ ap (λ (xs : List ℕ). b ∷ xs) (take_at more rest (length more) refl) in
    let bytes : token_bytes text (token_at place f) ≡ b ∷ more = token_bytes-at text place f (b ∷ (more ++ rest)) at ∙ taken in
    let one : lexeme_of k (token_bytes text (token_at place f)) ≡ t = ap (lexeme_of k) bytes ∙ is in
    record {
      tokens = token_at place f ∷ s.tokens;
      cut = at_token place b (more ++ rest) f h e ∙ ap (with_token (token_at place f)) read;
      say = λ i. one i ∷ s.say i;
    }

-- ---- pieces

-- no name or number goes on with these bytes
abbrev pub Ends : List ℕ → Type 0
Ends bytes = Stops is_name_byte bytes

pub ends_append : (xs ys : List ℕ) → Ends xs → Ends ys → Ends (xs ++ ys)
ends_append [] ys h k = k
ends_append (x ∷ xs) ys h k = h

-- what the bytes say where what follows ends a name or number
pub record Piece (bytes : List ℕ) (said : List Lexeme) : Type 0 where
  pub says : (rest : List ℕ) (later : List Lexeme) → Ends rest → Says rest later → Says (bytes ++ rest) (said ++ later)

-- what the bytes say whatever follows
pub record Closed (bytes : List ℕ) (said : List Lexeme) : Type 0 where
  pub says : (rest : List ℕ) (later : List Lexeme) → Says rest later → Says (bytes ++ rest) (said ++ later)

regroup : (xs ys rest : List ℕ) (s t later : List Lexeme) → Says (xs ++ (ys ++ rest)) (s ++ (t ++ later)) → Says ((xs ++ ys) ++ rest) ((s ++ t) ++ later)
regroup xs ys rest s t later h =
    subst (λ (bytes : List ℕ). Says bytes ((s ++ t) ++ later)) (sym (append_assoc xs ys rest))
    (subst (λ (said : List Lexeme). Says (xs ++ (ys ++ rest)) said) (sym (append_assoc s t later)) h)

pub nothing : Closed [] []
nothing = record { says = λ rest later h. h }

pub open_ended : {xs : List ℕ} {s : List Lexeme} → Closed xs s → Piece xs s
open_ended h = record { says = λ rest later ends k. h.says rest later k }

-- one piece after another, by what the first needs and what the second needs
pub closed_closed : {xs ys : List ℕ} {s t : List Lexeme} → Closed xs s → Closed ys t → Closed (xs ++ ys) (s ++ t)
closed_closed {xs} {ys} {s} {t} h k = record { says = λ rest later l. regroup xs ys rest s t later (h.says (ys ++ rest) (t ++ later) (k.says rest later l)) }

pub closed_then : {xs ys : List ℕ} {s t : List Lexeme} → Closed xs s → Piece ys t → Piece (xs ++ ys) (s ++ t)
closed_then {xs} {ys} {s} {t} h k =
    record { says = λ rest later ends l. regroup xs ys rest s t later (h.says (ys ++ rest) (t ++ later) (k.says rest later ends l)) }

pub piece_then : {xs ys : List ℕ} {s t : List Lexeme} → Piece xs s → Piece ys t → Ends ys → Piece (xs ++ ys) (s ++ t)
piece_then {xs} {ys} {s} {t} h k apart =
    record {
      says = λ rest later ends l. regroup xs ys rest s t later
          (h.says (ys ++ rest) (t ++ later) (ends_append ys rest apart ends) (k.says rest later ends l));
    }

-- a piece that ends in bytes that close it
pub piece_closed : {xs : List ℕ} {b : ℕ} {ys : List ℕ} {s t : List Lexeme} → Piece xs s → Closed (b ∷ ys) t → is_name_byte b ≡ false
    → Closed (xs ++ b ∷ ys) (s ++ t)
piece_closed {xs} {b} {ys} {s} {t} h k apart =
    record { says = λ rest later l. regroup xs (b ∷ ys) rest s t later (h.says (b ∷ (ys ++ rest)) (t ++ later) apart (k.says rest later l)) }

-- the tokens of a whole text
pub whole : (text : List ℕ) (said : List Lexeme) → Piece text said → SaysAt text 0 text said
whole text said h =
    let bytes : text ++ [] ≡ text = append-nil text in
    let all : said ++ [] ≡ said = append-nil said in
    let says : Says text said =
    subst (λ (xs : List ℕ). Says xs said) bytes (subst (λ (s : List Lexeme). Says (text ++ []) s) all (h.says [] [] tt says_nothing)) in
    says text 0 refl
