-- The secrets of the made header: each can be written in its line, and none has the name or the bytes of another.
use Rattle.std.proofs.Common.{◌≡◌, ℕ, ◌+◌, ◌<◌, ◌≤◌, false, List, [], ◌∷◌, ◌++◌, length, refl, sym, ap, subst, ◌∙◌, arith}
use Rattle.std.specs.Prelude.{◌==◌, codes}
use Rattle.std.specs.List.{list_any, AllByRecursion}
use Rattle.std.specs.Str.{bytes_eq}
use Rattle.std.proofs.lemmas.Bool.Decides.{nat_tests}
use Rattle.std.proofs.lemmas.List.{length-append}
use Rattle.std.proofs.lemmas.List.Folds.{list_any-append}
use Rattle.spec_data.specs.Hashes.{IsBytes}
use Rattle.spec_data.specs.Digits.{hex_text, read_hex}
use Rattle.spec_run.specs.declared.header.HeldSecret.{HeldSecret}
use Rattle.spec_text.specs.RunFile.{is_taken}
use Rattle.spec_text.specs.Generator.{Generated, party_a, secret_name, held}
use Rattle.theory_text.proofs.ListFacts.{or_no}
use Rattle.theory_text.proofs.Options.{some}
use Rattle.theory_text.proofs.Lines.Hex.{read_hex_is}
use Rattle.theory_text.proofs.Lines.HexBack.{hex_back}
use Rattle.theory_text.proofs.Lines.LineBytes.{LineWord, name_line, hex_line}
use Rattle.theory_text.proofs.Lines.ReadHeaders.{secret_words}
use Rattle.theory_text.proofs.Lines.Separated.{spaced}
use Rattle.theory_generator.proofs.Names.{secret_named, secret_short, names_apart}
use Rattle.theory_generator.proofs.NumberWords.{line_word}
use Rattle.theory_generator.proofs.Secrets.{bytes_cons, IsMade}

-- ---- its bytes

-- bytes that are written in at most so many digits, and read again
pub record IsWritten (bytes : List ℕ) : Type 0 where
  pub are : IsBytes bytes
  pub read : read_hex (hex_text bytes) ≡ some bytes
  pub short : length (hex_text bytes) ≤ 64

some_written : (b : ℕ) (bytes : List ℕ) → IsBytes (b ∷ bytes) → length bytes ≤ 31 → IsWritten (b ∷ bytes)
some_written b bytes h few =
    let read : read_hex (hex_text (b ∷ bytes)) ≡ some (b ∷ bytes) = hex_back (b ∷ bytes) h in
    record { are = h; read = read; short = omega (arith, (read_hex_is (hex_text (b ∷ bytes)) (b ∷ bytes) read).size, few) }

pub secret_written : (j : ℕ) (m : Generated) → IsMade j m → j < 256 → IsWritten m.1
secret_written j m made small =
    let bytes = bytes_cons j made.rest small made.are.bytes' in
    subst IsWritten (sym made.is) (some_written j made.rest bytes (omega (arith, made.are.size, made.short)))

-- ---- its line

pub record IsSecretLine (words : List (List ℕ)) : Type 0 where
  pub all : AllByRecursion LineWord words
  pub short : length (spaced words) ≤ 100

secret_line_of : (name hex : List ℕ) → LineWord name → LineWord hex → length name ≤ 4 → length hex ≤ 64
    → IsSecretLine (codes "secret" ∷ party_a ∷ name ∷ hex ∷ [])
secret_line_of name hex n h few short = record {
  all = (line_word _ refl, (line_word _ refl, (n, (h, tt))));
  short = omega (arith, length-append name (32 ∷ (hex ++ [])), length-append hex [], few, short);
}

pub secret_line_is : (j : ℕ) (m : Generated) → IsMade j m → j < 256 → IsSecretLine (secret_words (held j m))
secret_line_is j m made small =
    let w = secret_written j m made small in
    let name = name_line (secret_name j) (secret_named j (omega (arith, small))) in
    secret_line_of (secret_name j) (hex_text m.1) name (hex_line m.1 w.are w.read) (secret_short j (omega (arith, small))) w.short

-- ---- no other has its name or its bytes

-- no secret from number j on is taken
abbrev pub Untaken : ℕ → List HeldSecret → Type 0
Untaken j done = (k : ℕ) (rest : List ℕ) → j ≤ k → k < 1000 → list_any (is_taken party_a (secret_name k) (k ∷ rest)) done ≡ false

other_byte : (j k : ℕ) → j < k → (j == k) ≡ false
other_byte j k h = grind (arith, nat_tests)

other_bytes : (bytes : List ℕ) (j k : ℕ) (rest more : List ℕ) → bytes ≡ j ∷ more → j < k → bytes_eq bytes (k ∷ rest) ≡ false
other_bytes bytes j k rest more is h = ap (λ (xs : List ℕ). bytes_eq xs (k ∷ rest)) is ∙ rw (other_byte j k h) refl

pub untaken_more : (j : ℕ) (m : Generated) (done : List HeldSecret) → IsMade j m → Untaken j done → Untaken (j + 1) (done ++ held j m ∷ [])
untaken_more j m done made h k rest more less =
    let name = names_apart j k (omega (arith, more, less)) less (λ same. absurd (omega (arith, same, more))) in
    let bytes : bytes_eq m.1 (k ∷ rest) ≡ false = other_bytes m.1 j k rest made.rest made.is (omega (arith, more)) in
    let one : is_taken party_a (secret_name k) (k ∷ rest) (held j m) ≡ false = or_no _ _ name bytes in
    list_any-append (is_taken party_a (secret_name k) (k ∷ rest)) done (held j m ∷ [])
    ∙ or_no _ _ (h k rest (omega (arith, more)) less) (or_no _ _ one refl)

pub untaken_is : (j : ℕ) (m : Generated) (done : List HeldSecret) → IsMade j m → j < 1000 → Untaken j done
    → list_any (is_taken party_a (secret_name j) m.1) done ≡ false
untaken_is j m done made small h =
    ap (λ (xs : List ℕ). list_any (is_taken party_a (secret_name j) xs) done) made.is ∙ h j made.rest (omega arith) small
