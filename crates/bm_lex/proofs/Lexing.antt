-- Tokens from a place on.
use Rattle.std.proofs.Common.{◌≡◌, ℕ, zero, suc, ◌+◌, ◌<◌, ◌≤◌, true, false, List, [], ◌∷◌, ◌++◌, length, drop, Some, None, Ok, Err, refl, sym, ap, ◌∙◌, arith, add-one, append_assoc, get_or, drop-cons}
use Rattle.std.proofs.lemmas.List.{drop-drop}
use Rattle.std.specs.List.{AllByRecursion}
use Rattle.spec_text.specs.declared.token.Token.{Token}
use Rattle.spec_text.specs.Lexis.{Tokens, Prefix, prefix, is_blank, with_token, token_at, tokens_from}
use Rattle.bm_lex.specs.Prefixes.{with_prefix, prefix_of}

-- the bytes that still belong to a token are passed over
pub passed_over : (place left : ℕ) (bytes : List ℕ) → left ≤ length bytes → tokens_from place left bytes ≡ tokens_from (place + left) 0 (drop left bytes)
passed_over place zero bytes h = rw (let e : place + 0 ≡ place = omega arith in e) refl
passed_over place (suc left) [] h = absurd (omega arith)
passed_over place (suc left) (b ∷ bytes) h =
    let e : place + 1 + left ≡ place + suc left = omega arith in
    passed_over (place + 1) left bytes (omega arith) ∙ ap (λ (n : ℕ). tokens_from n 0 (drop left bytes)) e

-- a blank is passed over
pub at_blank : (place b : ℕ) (bytes : List ℕ) → is_blank b ≡ true → tokens_from place 0 (b ∷ bytes) ≡ tokens_from (place + 1) 0 bytes
at_blank place b bytes h = rw h refl

-- a byte that begins no token
pub at_none : (place b : ℕ) (bytes : List ℕ) → is_blank b ≡ false → prefix b bytes ≡ None → tokens_from place 0 (b ∷ bytes) ≡ Err place
at_none place b bytes h e = rw (h, e) refl

-- a token
pub at_token : (place b : ℕ) (bytes : List ℕ) (f : Prefix) → is_blank b ≡ false → prefix b bytes ≡ Some f → f.1 ≤ length bytes
    → tokens_from place 0 (b ∷ bytes) ≡ with_token (token_at place f) (tokens_from (place + f.1 + 1) 0 (drop f.1 bytes))
at_token place b bytes f h e le =
    let n : place + 1 + f.1 ≡ place + f.1 + 1 = omega arith in
    rw (h, e) (ap (with_token (token_at place f)) (passed_over (place + 1) f.1 bytes le ∙ ap (λ (k : ℕ). tokens_from k 0 (drop f.1 bytes)) n))

-- a token goes to the end of those before it
pub onto_prefix : (prefix : List Token) (token : Token) (later : Tokens) → with_prefix prefix (with_token token later)
    ≡ with_prefix (prefix ++ token ∷ []) later
onto_prefix prefix token (Ok tokens) = ap (λ (ts : List Token). let r : Tokens = Ok ts in r) (simp append_assoc)
onto_prefix prefix token (Err place) = refl

-- the same at a list that isn't taken apart
at_prefix : (place : ℕ) (bytes : List ℕ) (f : Prefix) → is_blank (get_or bytes 0 0) ≡ false → Some f ≡ prefix_of bytes → f.1 < length bytes
    → tokens_from place 0 bytes ≡ with_token (token_at place f) (tokens_from (place + f.1 + 1) 0 (drop (f.1 + 1) bytes))
at_prefix place [] f h e le = absurd (omega arith)
at_prefix place (b ∷ bytes) f h e le = rw (add-one f.1) (at_token place b bytes f h (sym e) (omega arith))

-- a token that was read goes to those before it
pub next_token : (text : List ℕ) (place : ℕ) (f : Prefix) (tokens : List Token) (total : Tokens) → place < length text → is_blank (get_or text place 0) ≡ false
    → Some f ≡ prefix_of (drop place text) → f.1 < length (drop place text) → with_prefix tokens (tokens_from place 0 (drop place text)) ≡ total
    → with_prefix (tokens ++ token_at place f ∷ []) (tokens_from (place + f.1 + 1) 0 (drop (place + f.1 + 1) text)) ≡ total
next_token text place f tokens total less h e le told =
    let first : get_or (drop place text) 0 0 ≡ get_or text place 0 = ap (λ (xs : List ℕ). get_or xs 0 0) (drop-cons text place 0 less) in
    let is = at_prefix place (drop place text) f (ap is_blank first ∙ h) e le in
    let rest : drop (f.1 + 1) (drop place text) ≡ drop (place + f.1 + 1) text = drop-drop (f.1 + 1) place text ∙ ap (λ (n : ℕ). drop n text) (omega arith) in
    let one = ap (with_prefix tokens) (is ∙ ap (λ (bs : List ℕ). with_token (token_at place f) (tokens_from (place + f.1 + 1) 0 bs)) rest) in
    let two = onto_prefix tokens (token_at place f) (tokens_from (place + f.1 + 1) 0 (drop (place + f.1 + 1) text)) in
    sym (one ∙ two) ∙ told

-- what holds of all and of one more
pub all_and_one : (P : Token → Type 0) (tokens : List Token) (token : Token) → AllByRecursion P tokens → P token → AllByRecursion P (tokens ++ token ∷ [])
all_and_one P [] token all one = (one, tt)
all_and_one P (t ∷ tokens) token all one = (all.0, all_and_one P tokens token all.1 one)
