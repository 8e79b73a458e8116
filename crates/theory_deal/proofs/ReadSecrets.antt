-- Each string that is taken of a file of secrets has the hash and the size of its secret.
use Rattle.std.proofs.Common.{◌≡◌, ℕ, ◌+◌, List, [], ◌∷◌, ◌++◌, length, Bool, true, false, Option, Some, None, refl, ap, subst, cond}
use Rattle.std.specs.Prelude.{nat_lt, ◌&&◌, codes}
use Rattle.std.specs.List.{find}
use Rattle.std.specs.Str.{bytes_eq}
use Rattle.std.proofs.lemmas.Bool.{and_from}
use Rattle.spec_data.specs.Digits.{read_hex}
use Rattle.spec_data.specs.Lists.{is_among}
use Rattle.spec_data.specs.Messages.{noted, noted_all, collision_with}
use Rattle.spec_compiler.specs.Scripts.{digest_of}
use Rattle.spec_compiler.specs.Keyed.Instance.{Instance}
use Rattle.spec_compiler.specs.Keyed.Statements.{is_secret}
use Rattle.spec_text.specs.Lines.{lines_of, words_of}
use Rattle.spec_deal.specs.declared.fault.SecretReason.TheVariants as reasons
use Rattle.spec_deal.specs.declared.fault.SecretFault.TheVariants as faults
use Rattle.spec_deal.specs.Sizes.{most_secrets_bytes}
use Rattle.spec_deal.specs.Needed.{needed_secrets}
use Rattle.spec_deal.specs.Hashed.{deal_strings}
use Rattle.spec_deal.specs.declared.entry.Shown.{Shown}
use Rattle.spec_deal.specs.SecretFile.{Line, empty, bad, collides, gives}
use Rattle.spec_deal.specs.SecretFile.{if_fits, hashed_line, has_length, if_new, with_bytes, named_line}
use Rattle.spec_deal.specs.SecretFile.{secret_line, state_words, line_says, SecretsRead, shows, refused, collided, read_lines, read_behind}
use Rattle.theory_calculus.proofs.Members.{all_append}
use Rattle.theory_deal.specs.Finished.{do_fit}
use Rattle.theory_deal.specs.Files.{SecretsFit}

module _ (hash : List ℕ → List ℕ) (s : Instance) where
  -- what a line gives fits
  abbrev LineFits : Line → Type 0
  LineFits empty = Unit {0}
  LineFits (bad reason) = Unit {0}
  LineFits (collides earlier later) = Unit {0}
  LineFits (gives x) = is_secret hash x.bytes (digest_of s.hashes x.name) ≡ true

  abbrev ReadFits : SecretsRead → Type 0
  ReadFits (shows strings) = do_fit hash s strings ≡ true
  ReadFits (refused fault) = Unit {0}
  ReadFits (collided earlier later) = Unit {0}

  hashed_fits : (x : Shown) (o : Option (List ℕ × List ℕ)) → has_length x.bytes ≡ true → LineFits (hashed_line hash s x o)
  hashed_fits x (Some pair) h = tt
  hashed_fits x None h = by_test (bytes_eq (hash x.bytes) (digest_of s.hashes x.name)) refl
    where
      by_test : (b : Bool) → bytes_eq (hash x.bytes) (digest_of s.hashes x.name) ≡ b → LineFits (if_fits b x)
      by_test true e = and_from (has_length x.bytes) (bytes_eq (hash x.bytes) (digest_of s.hashes x.name)) h e
      by_test false e = tt

  new_fits : (messages : List (List ℕ)) (x : Shown) (o : Option Shown) → LineFits (if_new hash s messages x o)
  new_fits messages x (Some earlier) = tt
  new_fits messages x None = by_test (has_length x.bytes) refl
    where
      by_test : (b : Bool) → has_length x.bytes ≡ b
          → LineFits (cond b (hashed_line hash s x (collision_with hash messages x.bytes)) (bad reasons.Length))
      by_test true e = hashed_fits x (collision_with hash messages x.bytes) e
      by_test false e = tt

  bytes_fit : (messages : List (List ℕ)) (taken : List Shown) (n : ℕ) (name : List ℕ) (o : Option (List ℕ))
      → LineFits (with_bytes hash s messages taken n name o)
  bytes_fit messages taken n name None = tt
  bytes_fit messages taken n name (Some bytes) =
      new_fits messages (record { line = n; name = name; bytes = bytes }) (find (λ (x : Shown). bytes_eq x.name name) taken)

  named_fits : (messages : List (List ℕ)) (taken : List Shown) (n : ℕ) (name word : List ℕ)
      → LineFits (named_line hash s messages taken n name word)
  named_fits messages taken n name word = by_test (is_among name (needed_secrets s.advert))
    where
      by_test : (b : Bool) → LineFits (cond b (with_bytes hash s messages taken n name (read_hex word)) (bad reasons.Foreign))
      by_test true = bytes_fit messages taken n name (read_hex word)
      by_test false = tt

  secret_line_fits : (messages : List (List ℕ)) (taken : List Shown) (n : ℕ) (words : List (List ℕ))
      → LineFits (secret_line hash s messages taken n words)
  secret_line_fits messages taken n [] = tt
  secret_line_fits messages taken n (word ∷ []) = tt
  secret_line_fits messages taken n (word ∷ (name ∷ [])) = tt
  secret_line_fits messages taken n (word ∷ (name ∷ (hex ∷ []))) = by_test (bytes_eq word (codes "secret"))
    where
      by_test : (b : Bool) → LineFits (cond b (named_line hash s messages taken n name hex) (bad reasons.Form))
      by_test true = named_fits messages taken n name hex
      by_test false = tt
  secret_line_fits messages taken n (word ∷ (name ∷ (hex ∷ (next ∷ words)))) = tt

  line_fits : (messages : List (List ℕ)) (taken : List Shown) (n : ℕ) (words : List (List ℕ))
      → LineFits (line_says hash s messages taken n words)
  line_fits messages taken n [] = tt
  line_fits messages taken n (word ∷ words) = by_first (is_among word state_words)
    where
      by_first : (b : Bool) → LineFits (cond b empty (secret_line hash s messages taken n (word ∷ words)))
      by_first true = tt
      by_first false = secret_line_fits messages taken n (word ∷ words)

  lines_fit : (messages : List (List ℕ)) (taken : List Shown) (n : ℕ) (lines : List (List ℕ)) → do_fit hash s taken ≡ true
      → ReadFits (read_lines hash s messages taken n lines)
  lines_fit messages taken n [] h = h
  lines_fit messages taken n (line ∷ lines) h =
      by_line (line_says hash s messages taken n (words_of line)) (line_fits messages taken n (words_of line))
      (lines_fit messages taken (n + 1) lines h)
      (λ x k. lines_fit (noted messages x.bytes) (taken ++ x ∷ []) (n + 1) lines
      (all_append (λ (y : Shown). is_secret hash y.bytes (digest_of s.hashes y.name)) taken (x ∷ []) h (ap (λ (b : Bool). b && true) k)))
    where
      by_line : (l : Line) → LineFits l → ReadFits (read_lines hash s messages taken (n + 1) lines)
          → ((x : Shown) → is_secret hash x.bytes (digest_of s.hashes x.name) ≡ true
          → ReadFits (read_lines hash s (noted messages x.bytes) (taken ++ x ∷ []) (n + 1) lines))
          → ReadFits (elim l [
            | empty ↦ read_lines hash s messages taken (n + 1) lines
            | bad reason ↦ refused (faults.Line n reason)
            | collides earlier later ↦ collided earlier later
            | gives shown ↦ read_lines hash s (noted messages shown.bytes) (taken ++ shown ∷ []) (n + 1) lines
          ])
      by_line empty k same more = same
      by_line (bad reason) k same more = tt
      by_line (collides earlier later) k same more = tt
      by_line (gives x) k same more = more x k

-- whatever strings were hashed before the file
pub behind_fit : (hash : List ℕ → List ℕ) (s : Instance) (messages : List (List ℕ)) (text : List ℕ) (strings : List Shown)
    → read_behind hash s messages text ≡ shows strings → do_fit hash s strings ≡ true
behind_fit hash s messages text strings e = by_size (nat_lt most_secrets_bytes (length text)) e
  where
    by_size : (b : Bool) → cond b (refused faults.Size) (read_lines hash s messages [] 1 (lines_of text)) ≡ shows strings
        → do_fit hash s strings ≡ true
    by_size true k = cc
    by_size false k = subst (ReadFits hash s) k (lines_fit hash s messages [] 1 (lines_of text) refl)

pub secrets_fit : SecretsFit
secrets_fit hash keys s text strings e = behind_fit hash s (noted_all [] (deal_strings hash keys s)) text strings e
