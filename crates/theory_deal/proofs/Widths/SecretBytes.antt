-- The strings of a file of secrets that is taken are of bytes.
use Rattle.std.proofs.Common.{◌≡◌, ℕ, ◌+◌, List, [], ◌∷◌, ◌++◌, length, Bool, true, false, Option, Some, None, refl, sym, subst, cond, inl, inr}
use Rattle.std.specs.Prelude.{◌⊎◌, codes, nat_lt}
use Rattle.std.specs.List.{find}
use Rattle.std.specs.Str.{bytes_eq}
use Rattle.spec_data.specs.Digits.{read_hex}
use Rattle.spec_data.specs.Hashes.{IsBytes}
use Rattle.spec_data.specs.Lists.{is_among}
use Rattle.spec_data.specs.Messages.{noted, noted_all, collision_with}
use Rattle.spec_compiler.specs.Keyed.Keys.{Keys}
use Rattle.spec_compiler.specs.Keyed.Instance.{Instance}
use Rattle.spec_compiler.specs.Scripts.{digest_of}
use Rattle.spec_text.specs.Lines.{lines_of, words_of}
use Rattle.spec_deal.specs.declared.entry.Shown.{Shown}
use Rattle.spec_deal.specs.declared.fault.SecretReason.TheVariants as reasons
use Rattle.spec_deal.specs.declared.fault.SecretFault.TheVariants as faults
use Rattle.spec_deal.specs.Hashed.{deal_strings}
use Rattle.spec_deal.specs.Needed.{needed_secrets}
use Rattle.spec_deal.specs.SecretFile.{Line, empty, bad, collides, gives, if_fits, hashed_line, has_length, if_new, with_bytes, named_line}
use Rattle.spec_deal.specs.SecretFile.{secret_line, state_words, line_says, SecretsRead, shows, refused, collided, read_lines}
use Rattle.spec_deal.specs.Sizes.{most_secrets_bytes}
use Rattle.theory_calculus.specs.Members.{Is_in}
use Rattle.theory_calculus.proofs.Members.{in_append}
use Rattle.theory_text.proofs.Lines.Hex.{read_hex_is}
use Rattle.theory_deal.specs.Whole.{AreRead}

-- each string is of bytes
abbrev pub ShownBytes : List Shown → Type 0
ShownBytes strings = (x : Shown) → Is_in x strings → IsBytes x.bytes

abbrev LineBytes : Line → Type 0
LineBytes empty = Unit {0}
LineBytes (bad reason) = Unit {0}
LineBytes (collides earlier later) = Unit {0}
LineBytes (gives shown) = IsBytes shown.bytes

abbrev IfBytes : SecretsRead → Type 0
IfBytes (shows strings) = ShownBytes strings
IfBytes (refused fault) = Unit {0}
IfBytes (collided earlier later) = Unit {0}

one_more : (taken : List Shown) (shown : Shown) → ShownBytes taken → IsBytes shown.bytes → ShownBytes (taken ++ shown ∷ [])
one_more taken shown h k x i = by_place (in_append x taken (shown ∷ []) i)
  where
    by_place : Is_in x taken ⊎ Is_in x (shown ∷ []) → IsBytes x.bytes
    by_place (inl a) = h x a
    by_place (inr (inl same)) = subst (λ (y : Shown). IsBytes y.bytes) (sym same) k
    by_place (inr (inr a)) = absurd a

module _ (hash : List ℕ → List ℕ) (s : Instance) where
  fits_bytes : (b : Bool) (shown : Shown) → IsBytes shown.bytes → LineBytes (if_fits b shown)
  fits_bytes true shown h = h
  fits_bytes false shown h = tt

  hashed_bytes : (shown : Shown) (o : Option (List ℕ × List ℕ)) → IsBytes shown.bytes → LineBytes (hashed_line hash s shown o)
  hashed_bytes shown (Some pair) h = tt
  hashed_bytes shown None h = fits_bytes (bytes_eq (hash shown.bytes) (digest_of s.hashes shown.name)) shown h

  new_bytes : (messages : List (List ℕ)) (shown : Shown) (o : Option Shown) → IsBytes shown.bytes → LineBytes (if_new hash s messages shown o)
  new_bytes messages shown (Some earlier) h = tt
  new_bytes messages shown None h = by_test (has_length shown.bytes)
    where
      by_test : (b : Bool) → LineBytes (cond b (hashed_line hash s shown (collision_with hash messages shown.bytes)) (bad reasons.Length))
      by_test true = hashed_bytes shown (collision_with hash messages shown.bytes) h
      by_test false = tt

  word_bytes : (messages : List (List ℕ)) (taken : List Shown) (n : ℕ) (name word : List ℕ) (o : Option (List ℕ)) → read_hex word ≡ o
      → LineBytes (with_bytes hash s messages taken n name o)
  word_bytes messages taken n name word None e = tt
  word_bytes messages taken n name word (Some bytes) e =
      new_bytes messages (record { line = n; name = name; bytes = bytes }) (find (λ (x : Shown). bytes_eq x.name name) taken)
      (read_hex_is word bytes e).bytes

  named_bytes : (messages : List (List ℕ)) (taken : List Shown) (n : ℕ) (name word : List ℕ)
      → LineBytes (named_line hash s messages taken n name word)
  named_bytes messages taken n name word = by_test (is_among name (needed_secrets s.advert))
    where
      by_test : (b : Bool) → LineBytes (cond b (with_bytes hash s messages taken n name (read_hex word)) (bad reasons.Foreign))
      by_test true = word_bytes messages taken n name word (read_hex word) refl
      by_test false = tt

  secret_line_bytes : (messages : List (List ℕ)) (taken : List Shown) (n : ℕ) (words : List (List ℕ))
      → LineBytes (secret_line hash s messages taken n words)
  secret_line_bytes messages taken n [] = tt
  secret_line_bytes messages taken n (word ∷ []) = tt
  secret_line_bytes messages taken n (word ∷ (name ∷ [])) = tt
  secret_line_bytes messages taken n (word ∷ (name ∷ (hex ∷ []))) = by_test (bytes_eq word (codes "secret"))
    where
      by_test : (b : Bool) → LineBytes (cond b (named_line hash s messages taken n name hex) (bad reasons.Form))
      by_test true = named_bytes messages taken n name hex
      by_test false = tt
  secret_line_bytes messages taken n (word ∷ (name ∷ (hex ∷ (next ∷ words)))) = tt

  line_bytes : (messages : List (List ℕ)) (taken : List Shown) (n : ℕ) (words : List (List ℕ))
      → LineBytes (line_says hash s messages taken n words)
  line_bytes messages taken n [] = tt
  line_bytes messages taken n (word ∷ words) = by_first (is_among word state_words)
    where
      by_first : (b : Bool) → LineBytes (cond b empty (secret_line hash s messages taken n (word ∷ words)))
      by_first true = tt
      by_first false = secret_line_bytes messages taken n (word ∷ words)

  lines_bytes : (messages : List (List ℕ)) (taken : List Shown) (n : ℕ) (lines : List (List ℕ)) → ShownBytes taken
      → IfBytes (read_lines hash s messages taken n lines)
  lines_bytes messages taken n [] h = h
  lines_bytes messages taken n (line ∷ lines) h =
      by_line (line_says hash s messages taken n (words_of line)) (line_bytes messages taken n (words_of line))
      (lines_bytes messages taken (n + 1) lines h)
      (λ shown k. lines_bytes (noted messages shown.bytes) (taken ++ shown ∷ []) (n + 1) lines (one_more taken shown h k))
    where
      by_line : (l : Line) → LineBytes l → IfBytes (read_lines hash s messages taken (n + 1) lines)
          → ((shown : Shown) → IsBytes shown.bytes
          → IfBytes (read_lines hash s (noted messages shown.bytes) (taken ++ shown ∷ []) (n + 1) lines))
          → IfBytes (elim l [
            | empty ↦ read_lines hash s messages taken (n + 1) lines
            | bad reason ↦ refused (faults.Line n reason)
            | collides earlier later ↦ collided earlier later
            | gives shown ↦ read_lines hash s (noted messages shown.bytes) (taken ++ shown ∷ []) (n + 1) lines
          ])
      by_line empty k same more = same
      by_line (bad reason) k same more = tt
      by_line (collides earlier later) k same more = tt
      by_line (gives shown) k same more = more shown k

pub secret_bytes : (hash : List ℕ → List ℕ) (keys : Keys) (s : Instance) (strings : List Shown) → AreRead hash keys s strings → ShownBytes strings
secret_bytes hash keys s strings (inl none) = subst ShownBytes (sym none) (λ x i. absurd i)
secret_bytes hash keys s strings (inr r) = by_size (nat_lt most_secrets_bytes (length (r.0))) (r.1)
  where
    by_size : (b : Bool)
        → cond b (refused faults.Size) (read_lines hash s (noted_all [] (deal_strings hash keys s)) [] 1 (lines_of (r.0))) ≡ shows strings
        → ShownBytes strings
    by_size true e = cc
    by_size false e = subst IfBytes e (lines_bytes hash s (noted_all [] (deal_strings hash keys s)) [] 1 (lines_of (r.0)) (λ x i. absurd i))
