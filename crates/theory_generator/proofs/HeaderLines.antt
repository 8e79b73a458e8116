-- The lines of the made header are read as it.
use Rattle.std.proofs.Common.{◌≡◌, ℕ, ◌+◌, ◌<◌, ◌≤◌, true, false, List, [], ◌∷◌, ◌++◌, length, map, Some, Ok}
use Rattle.std.proofs.Common.{refl, sym, ap, ◌∙◌, arith, append_assoc}
use Rattle.std.specs.Prelude.{codes}
use Rattle.std.specs.List.{list_any, AllByRecursion}
use Rattle.std.proofs.lemmas.Bool.{lt-ltb}
use Rattle.std.proofs.lemmas.List.{append-nil, length-append}
use Rattle.spec_data.specs.Ranges.{most_header_secrets}
use Rattle.spec_terms.specs.Readable.{is_name}
use Rattle.spec_run.specs.declared.header.Header.{Header}
use Rattle.spec_run.specs.declared.header.HeldSecret.{HeldSecret}
use Rattle.spec_text.specs.declared.run_fault.RunLimit.TheVariants as limits
use Rattle.spec_text.specs.Lines.{words_of}
use Rattle.spec_text.specs.RunFile.{Line, over, says, held_secret, no_header, is_taken, secret_of, header_words, header_line}
use Rattle.spec_text.specs.RunFile.{kept, header_step, read_header}
use Rattle.spec_text.specs.Generator.{Generated, party_a, party_b, secret_name, held, held_from, generated_header}
use Rattle.theory_text.proofs.Lines.LineBytes.{LineWord, line_is}
use Rattle.theory_text.proofs.Lines.ReadHeaders.{secret_words}
use Rattle.theory_text.proofs.Lines.Separated.{spaced, spaced_words}
use Rattle.theory_generator.proofs.Names.{secret_named}
use Rattle.theory_generator.proofs.NumberWords.{not_long}
use Rattle.theory_generator.proofs.Participants.{both_parties}
use Rattle.theory_generator.proofs.Secrets.{IsMade, AreGenerated}
use Rattle.theory_generator.proofs.GeneratedSecrets.{secret_written, secret_line_is, Untaken, untaken_more, untaken_is}

-- ---- the lines

abbrev pub prefix_lines : List (List ℕ)
prefix_lines = codes "party A" ∷ codes "party B" ∷ codes "honest A" ∷ codes "honest B" ∷ []

-- the lines of these secrets before others
abbrev pub secret_lines : List HeldSecret → List (List ℕ)
secret_lines ss = map (λ s. spaced (secret_words s)) ss

abbrev pub back_lines : List (List ℕ)
back_lines = codes "deposit A 1000000" ∷ codes "deposit B 0" ∷ codes "deposit B 1000000000" ∷ codes "--" ∷ []

-- the header with these secrets before its deposits
abbrev pub with_secrets : List HeldSecret → Header
with_secrets ss = record { parties = both_parties; honest = both_parties; secrets = ss; deposits = [] }

-- the header with these secrets and all deposits
abbrev pub with_deposits : List HeldSecret → Header
with_deposits ss = record {
  parties = both_parties;
  honest = both_parties;
  secrets = ss;
  deposits = (party_a, 1000000) ∷ (party_b, 0) ∷ (party_b, 1000000000) ∷ [];
}

-- ---- the lines without variables

prefix_read : (lines : List (List ℕ)) → read_header no_header 1 (prefix_lines ++ lines) ≡ read_header (with_secrets []) 5 lines
unfolding is_name
prefix_read lines = refl

back_read : (ss : List HeldSecret) (n : ℕ) (lines : List (List ℕ))
    → read_header (with_secrets ss) n (back_lines ++ lines) ≡ Ok (with_deposits ss, lines, n + 1 + 1 + 1 + 1)
back_read ss n lines = refl

-- ---- the line of a secret

line_words : (h : Header) (words : List (List ℕ)) → AllByRecursion LineWord words → length (spaced words) ≤ 100
    → header_line h (spaced words) ≡ header_words h words
line_words h words all short =
    not_long (spaced words) (over limits.Line) (header_words h (words_of (spaced words))) short
    ∙ ap (header_words h) (spaced_words words (line_is words all))

secret_read : (done : List HeldSecret) (name bytes : List ℕ) → is_name name ≡ true → list_any (is_taken party_a name bytes) done ≡ false
    → length done < 1000
    → secret_of (with_secrets done) party_a name (Some bytes) ≡ says (with_secrets (done ++ held_secret party_a name bytes ∷ []))
secret_read done name bytes named new few = rw (named, new, lt-ltb (length done) most_header_secrets few) refl

secret_says : (j : ℕ) (m : Generated) (done : List HeldSecret) → IsMade j m → j < 256 → length done < 1000 → Untaken j done
    → header_line (with_secrets done) (spaced (secret_words (held j m))) ≡ says (with_secrets (done ++ held j m ∷ []))
secret_says j m done made small few new =
    let line = secret_line_is j m made small in
    let named = secret_named j (omega (arith, small)) in
    line_words (with_secrets done) (secret_words (held j m)) line.all line.short
    ∙ (ap (secret_of (with_secrets done) party_a (secret_name j)) (secret_written j m made small).read
    ∙ secret_read done (secret_name j) m.1 named (untaken_is j m done made (omega (arith, small)) new) few)

-- ---- the lines of all secrets

record Reached (h k : Header) (n : ℕ) (lines rest : List (List ℕ)) : Type 0 where
  number : ℕ
  read : read_header h n lines ≡ read_header k number rest

one_read : (h k : Header) (n : ℕ) (line : List ℕ) (lines : List (List ℕ)) → header_line h line ≡ says k
    → read_header h n (line ∷ lines) ≡ read_header k (n + 1) lines
one_read h k n line lines e = ap (λ (said : Line Header). header_step h n lines said (read_header (kept h said) (n + 1) lines)) e

secrets_read : (j : ℕ) (ms : List Generated) (done : List HeldSecret) (n : ℕ) (rest : List (List ℕ))
    → AreGenerated j ms → j + length ms ≤ 100 → length done < j → Untaken j done
    → Reached (with_secrets done) (with_secrets (done ++ held_from j ms)) n (secret_lines (held_from j ms) ++ rest) rest
secrets_read j [] done n rest made small few new = record {
  number = n;
  read = ap (λ (ss : List HeldSecret). read_header (with_secrets ss) n rest) (sym (append-nil done));
}
secrets_read j (m ∷ ms) done n rest made small few new =
    let more = done ++ held j m ∷ [] in
    let line = spaced (secret_words (held j m)) in
    let later = secret_lines (held_from (j + 1) ms) ++ rest in
    let one = one_read (with_secrets done) (with_secrets more) n line later
    (secret_says j m done made.0 (omega (arith, small)) (omega (arith, few, small)) new) in
    let count : length more < j + 1 = omega (arith, length-append done (held j m ∷ []), few) in
    let r = secrets_read (j + 1) ms more (n + 1) rest made.1 (omega (arith, small)) count (untaken_more j m done made.0 new) in
    let all = append_assoc done (held j m ∷ []) (held_from (j + 1) ms) in
    record {
      number = r.number;
      read = one ∙ (r.read ∙ ap (λ (ss : List HeldSecret). read_header (with_secrets ss) r.number rest) all);
    }

-- ---- the header

-- the lines of the header of these secrets, and others
abbrev pub header_lines : List Generated → List (List ℕ) → List (List ℕ)
header_lines ms rest = prefix_lines ++ (secret_lines (held_from 1 ms) ++ (back_lines ++ rest))

-- what is read of them
pub record HeaderRead (ms : List Generated) (rest : List (List ℕ)) : Type 0 where
  pub number : ℕ
  pub read : read_header no_header 1 (header_lines ms rest) ≡ Ok (generated_header ms, rest, number)

pub header_read : (ms : List Generated) (rest : List (List ℕ)) → AreGenerated 1 ms → length ms ≤ 30 → HeaderRead ms rest
header_read ms rest made few =
    let r = secrets_read 1 ms [] 5 (back_lines ++ rest) made (omega (arith, few)) (omega arith) (λ k more h less. refl) in
    record {
      number = r.number + 1 + 1 + 1 + 1;
      read = prefix_read (secret_lines (held_from 1 ms) ++ (back_lines ++ rest)) ∙ (r.read ∙ back_read (held_from 1 ms) r.number rest);
    }
