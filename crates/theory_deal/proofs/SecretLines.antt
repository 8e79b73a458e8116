-- A file of secrets comes to what its lines come to.
use Rattle.std.proofs.Common.{◌≡◌, ℕ, ◌+◌, ◌<◌, ◌≤◌, List, [], ◌∷◌, ◌++◌, length, Bool, true, false, not, Option, Some, None, refl, sym, ap, subst, ◌∙◌, cond, arith, inl, inr}
use Rattle.std.specs.Prelude.{Decides, ◌↔◌, nat_le, nat_lt, ◌&&◌, codes}
use Rattle.std.specs.List.{find}
use Rattle.std.specs.Option.{option_map}
use Rattle.std.specs.Str.{bytes_eq}
use Rattle.std.proofs.lemmas.Bool.{false≢true, and_parts, and_from}
use Rattle.std.proofs.lemmas.Bool.Decides.{nat_tests}
use Rattle.std.proofs.lemmas.Slice.Eq.{bytes_eq-Decides}
use Rattle.spec_data.specs.Digits.{read_hex}
use Rattle.spec_data.specs.Lists.{is_among}
use Rattle.spec_data.specs.Messages.{noted, noted_all, is_twin, collision_with}
use Rattle.spec_data.specs.Ranges.{least_secret_bytes, most_item_bytes}
use Rattle.spec_compiler.specs.Scripts.{digest_of}
use Rattle.spec_compiler.specs.Keyed.Instance.{Instance}
use Rattle.spec_text.specs.Lines.{lines_of, words_of}
use Rattle.spec_deal.specs.declared.entry.Shown.{Shown}
use Rattle.spec_deal.specs.declared.fault.SecretReason.{SecretReason}
use Rattle.spec_deal.specs.declared.fault.SecretReason.TheVariants as reasons
use Rattle.spec_deal.specs.declared.fault.SecretFault.TheVariants as faults
use Rattle.spec_deal.specs.Sizes.{most_secrets_bytes}
use Rattle.spec_deal.specs.Needed.{needed_secrets}
use Rattle.spec_deal.specs.Hashed.{deal_strings}
use Rattle.spec_deal.specs.SecretFile.{Line, empty, bad, collides, gives}
use Rattle.spec_deal.specs.SecretFile.{if_fits, hashed_line, has_length, if_new, with_bytes, named_line}
use Rattle.spec_deal.specs.SecretFile.{secret_line, state_words, line_says, SecretsRead, shows, refused, collided, read_lines, read_behind}
use Rattle.theory_deal.specs.SecretLines.{NamesSecret, IsOfSecret, IsFresh, IsLong, IsHashed, IsOther, IsAlone, GivesString}
use Rattle.theory_deal.specs.SecretLines.{IsOfState, SaysNothing, IsNoSecret}
use Rattle.theory_deal.specs.SecretLines.{IsBadSecret, IsCollision, shown_in, SecretsCome, SecretsAre, SecretFilesAreRead}
use Rattle.theory_deal.proofs.FirstOf.{refuted, is_false, none_found, none_finds, found_first, first_found}

-- ---- tests

le_true : (m n : ℕ) → m ≤ n → nat_le m n ≡ true
le_true m n h = grind (arith, nat_tests)

le_from : (m n : ℕ) → nat_le m n ≡ true → m ≤ n
le_from m n h = grind (arith, nat_tests)

is_long : (bytes : List ℕ) → Decides (has_length bytes) (IsLong bytes)
is_long bytes = (
  λ e.
      let p = and_parts (nat_le least_secret_bytes (length bytes)) (nat_le (length bytes) most_item_bytes) e in
      (le_from least_secret_bytes (length bytes) p.0, le_from (length bytes) most_item_bytes p.1),
  λ h.
      and_from (nat_le least_secret_bytes (length bytes)) (nat_le (length bytes) most_item_bytes)
      (le_true least_secret_bytes (length bytes) h.0) (le_true (length bytes) most_item_bytes h.1),
)

not_true : (b : Bool) → not b ≡ true → b ≡ false
not_true true e = sym e
not_true false e = refl

is_other : (hash : List ℕ → List ℕ) (bytes earlier : List ℕ) → Decides (is_twin hash bytes earlier) (IsOther hash bytes earlier)
is_other hash bytes earlier = (
  λ e.
      let p = and_parts (bytes_eq (hash earlier) (hash bytes)) (not (bytes_eq earlier bytes)) e in (
        (bytes_eq-Decides (hash earlier) (hash bytes)).0 p.0,
        refuted (bytes_eq earlier bytes) (bytes_eq-Decides earlier bytes) (not_true (bytes_eq earlier bytes) p.1),
      ),
  λ h.
      and_from (bytes_eq (hash earlier) (hash bytes)) (not (bytes_eq earlier bytes))
      ((bytes_eq-Decides (hash earlier) (hash bytes)).1 h.0)
      (ap not (is_false (bytes_eq earlier bytes) (bytes_eq-Decides earlier bytes) h.1)),
)

is_of_secret : (name : List ℕ) (shown : Shown) → Decides (bytes_eq shown.name name) (IsOfSecret name shown)
is_of_secret name shown = bytes_eq-Decides shown.name name

-- the searches
abbrev of_secret : List ℕ → Shown → Bool
of_secret name shown = bytes_eq shown.name name

abbrev with_earlier : List ℕ → List ℕ → List ℕ × List ℕ
with_earlier bytes earlier = (earlier, bytes)

module _ (hash : List ℕ → List ℕ) (s : Instance) (messages : List (List ℕ)) (taken : List Shown) (n : ℕ) where
  -- what is claimed of a line that says this
  abbrev pub SecretSays : List (List ℕ) → Line → Type 0
  SecretSays words empty = SaysNothing words
  SecretSays words (bad reason) = IsBadSecret hash s messages taken words reason
  SecretSays words (collides earlier later) = IsCollision hash s messages taken words earlier later
  SecretSays words (gives shown) = (shown.line ≡ n) × GivesString hash s messages taken words shown.name shown.bytes

  -- ---- what a line says is so

  module _ (name word : List ℕ) where
    abbrev secret_words : List (List ℕ)
    secret_words = codes "secret" ∷ name ∷ word ∷ []

    fits_says : (bytes : List ℕ) → IsAlone hash s messages taken secret_words name bytes
        → SecretSays secret_words (if_fits (bytes_eq (hash bytes) (digest_of s.hashes name)) (shown_in n name bytes))
    fits_says bytes alone = by_test (bytes_eq (hash bytes) (digest_of s.hashes name)) refl
      where
        by_test : (b : Bool) → bytes_eq (hash bytes) (digest_of s.hashes name) ≡ b
            → SecretSays secret_words (if_fits b (shown_in n name bytes))
        by_test true e = (refl, record { alone = alone; fits = (bytes_eq-Decides (hash bytes) (digest_of s.hashes name)).0 e })
        by_test false e =
            (name, bytes, alone, refuted _ (bytes_eq-Decides (hash bytes) (digest_of s.hashes name)) e)

    hashed_says : (bytes : List ℕ) → IsHashed s taken secret_words name bytes → (o : Option (List ℕ))
        → find (is_twin hash bytes) messages ≡ o
        → SecretSays secret_words (hashed_line hash s (shown_in n name bytes) (option_map (with_earlier bytes) o))
    hashed_says bytes hashed None e =
        fits_says bytes (record {
          hashed = hashed;
          alone = none_found (is_twin hash bytes) (IsOther hash bytes) (is_other hash bytes) messages e;
        })
    hashed_says bytes hashed (Some earlier) e =
        (name, hashed, found_first (is_twin hash bytes) (IsOther hash bytes) (is_other hash bytes) messages earlier e)

    fresh_says : (bytes : List ℕ) → IsFresh s taken secret_words name bytes
        → SecretSays secret_words (if_new hash s messages (shown_in n name bytes) None)
    fresh_says bytes fresh = by_test (has_length bytes) refl
      where
        by_test : (b : Bool) → has_length bytes ≡ b
            → SecretSays secret_words
            (cond b (hashed_line hash s (shown_in n name bytes) (collision_with hash messages bytes)) (bad reasons.Length))
        by_test true e =
            hashed_says bytes (record { fresh = fresh; long = (is_long bytes).0 e }) (find (is_twin hash bytes) messages) refl
        by_test false e = (name, bytes, fresh, refuted (has_length bytes) (is_long bytes) e)

    new_says : (bytes : List ℕ) → NamesSecret s secret_words name bytes → (o : Option Shown) → find (of_secret name) taken ≡ o
        → SecretSays secret_words (if_new hash s messages (shown_in n name bytes) o)
    new_says bytes named None e =
        fresh_says bytes (record { named = named; fresh = none_found (of_secret name) (IsOfSecret name) (is_of_secret name) taken e })
    new_says bytes named (Some earlier) e =
        (name, bytes, earlier, named, found_first (of_secret name) (IsOfSecret name) (is_of_secret name) taken earlier e, refl)

    bytes_say : is_among name (needed_secrets s.advert) ≡ true → (o : Option (List ℕ)) → read_hex word ≡ o
        → SecretSays secret_words (with_bytes hash s messages taken n name o)
    bytes_say needed None e = (name, word, refl, needed, λ bytes k. by_none bytes (sym k ∙ e))
      where
        by_none : (bytes : List ℕ) → Some bytes ≡ None → ⊥
        by_none bytes k = cc
    bytes_say needed (Some bytes) e =
        new_says bytes (record { word = word; said = refl; needed = needed; digits = e }) (find (of_secret name) taken) refl

    named_says : SecretSays secret_words (named_line hash s messages taken n name word)
    named_says = by_test (is_among name (needed_secrets s.advert)) refl
      where
        by_test : (b : Bool) → is_among name (needed_secrets s.advert) ≡ b
            → SecretSays secret_words (cond b (with_bytes hash s messages taken n name (read_hex word)) (bad reasons.Foreign))
        by_test true e = bytes_say e (read_hex word) refl
        by_test false e = (name, word, refl, e)

  abbrev first_word : List ℕ → Bool
  first_word word = is_among word state_words

  secret_line_said : (a : List ℕ) (words : List (List ℕ)) → first_word a ≡ false
      → SecretSays (a ∷ words) (secret_line hash s messages taken n (a ∷ words))
  secret_line_said a [] h = record { some = λ e. cc; no_state = λ e. false≢true (sym h ∙ e); other = λ name word e. cc }
  secret_line_said a (b ∷ []) h = record { some = λ e. cc; no_state = λ e. false≢true (sym h ∙ e); other = λ name word e. cc }
  secret_line_said a (b ∷ (c ∷ [])) h = by_test (bytes_eq a (codes "secret")) refl
    where
      other_word : bytes_eq a (codes "secret") ≡ false → (name word : List ℕ) → a ∷ (b ∷ (c ∷ [])) ≡ codes "secret" ∷ (name ∷ (word ∷ []))
          → ⊥
      other_word e name word k =
          let same : a ≡ codes "secret" = cc in
          refuted _ (bytes_eq-Decides a (codes "secret")) e same

      by_test : (t : Bool) → bytes_eq a (codes "secret") ≡ t
          → SecretSays (a ∷ (b ∷ (c ∷ []))) (cond t (named_line hash s messages taken n b c) (bad reasons.Form))
      by_test true e =
          subst (λ (w : List ℕ). SecretSays (w ∷ b ∷ c ∷ []) (named_line hash s messages taken n b c))
          (sym ((bytes_eq-Decides a (codes "secret")).0 e)) (named_says b c)
      by_test false e = record { some = λ k. cc; no_state = λ k. false≢true (sym h ∙ k); other = other_word e }
  secret_line_said a (b ∷ (c ∷ (d ∷ words))) h =
      record { some = λ e. cc; no_state = λ e. false≢true (sym h ∙ e); other = λ name word e. cc }

  pub secret_said : (words : List (List ℕ)) → SecretSays words (line_says hash s messages taken n words)
  secret_said [] = inl refl
  secret_said (a ∷ words) = by_first (first_word a) refl
    where
      by_first : (t : Bool) → first_word a ≡ t
          → SecretSays (a ∷ words) (cond t empty (secret_line hash s messages taken n (a ∷ words)))
      by_first true e = inr e
      by_first false e = secret_line_said a words e

  -- ---- and what is so is said

  to_named : (words : List (List ℕ)) (name word : List ℕ) → words ≡ codes "secret" ∷ name ∷ word ∷ []
      → line_says hash s messages taken n words ≡ named_line hash s messages taken n name word
  to_named words name word e = ap (line_says hash s messages taken n) e

  to_bytes : (words : List (List ℕ)) (name word : List ℕ) → words ≡ codes "secret" ∷ name ∷ word ∷ []
      → is_among name (needed_secrets s.advert) ≡ true
      → line_says hash s messages taken n words ≡ with_bytes hash s messages taken n name (read_hex word)
  to_bytes words name word e k =
      to_named words name word e
      ∙ ap (λ (b : Bool). cond b (with_bytes hash s messages taken n name (read_hex word)) (bad reasons.Foreign)) k

  module _ (words : List (List ℕ)) (name bytes : List ℕ) where
    to_new : NamesSecret s words name bytes
        → line_says hash s messages taken n words ≡ if_new hash s messages (shown_in n name bytes) (find (of_secret name) taken)
    to_new h = to_bytes words name h.word h.said h.needed ∙ ap (with_bytes hash s messages taken n name) h.digits

    to_length : IsFresh s taken words name bytes
        → line_says hash s messages taken n words ≡ if_new hash s messages (shown_in n name bytes) None
    to_length h =
        to_new h.named
        ∙ ap (if_new hash s messages (shown_in n name bytes))
        (none_finds (of_secret name) (IsOfSecret name) (is_of_secret name) taken h.fresh)

    abbrev if_long : Bool → Line
    if_long b = cond b (hashed_line hash s (shown_in n name bytes) (collision_with hash messages bytes)) (bad reasons.Length)

    abbrev if_alone : Option (List ℕ) → Line
    if_alone o = hashed_line hash s (shown_in n name bytes) (option_map (with_earlier bytes) o)

    to_twins : IsHashed s taken words name bytes
        → line_says hash s messages taken n words ≡ if_alone (find (is_twin hash bytes) messages)
    to_twins h = to_length h.fresh ∙ ap if_long ((is_long bytes).1 h.long)

    to_digest : IsAlone hash s messages taken words name bytes
        → line_says hash s messages taken n words
        ≡ if_fits (bytes_eq (hash bytes) (digest_of s.hashes name)) (shown_in n name bytes)
    to_digest h =
        to_twins h.hashed
        ∙ ap if_alone (none_finds (is_twin hash bytes) (IsOther hash bytes) (is_other hash bytes) messages h.alone)

    pub string_said : GivesString hash s messages taken words name bytes
        → line_says hash s messages taken n words ≡ gives (shown_in n name bytes)
    string_said h =
        to_digest h.alone
        ∙ ap (λ (b : Bool). if_fits b (shown_in n name bytes)) ((bytes_eq-Decides (hash bytes) (digest_of s.hashes name)).1 h.fits)

  no_secret_in : (a : List ℕ) (words : List (List ℕ)) → IsNoSecret (a ∷ words)
      → secret_line hash s messages taken n (a ∷ words) ≡ bad reasons.Form
  no_secret_in a [] h = refl
  no_secret_in a (b ∷ []) h = refl
  no_secret_in a (b ∷ (c ∷ [])) h =
      ap (λ (t : Bool). cond t (named_line hash s messages taken n b c) (bad reasons.Form))
      (is_false (bytes_eq a (codes "secret")) (bytes_eq-Decides a (codes "secret"))
      (λ e. h.other b c (ap (λ (w : List ℕ). w ∷ b ∷ c ∷ []) e)))
  no_secret_in a (b ∷ (c ∷ (d ∷ words))) h = refl

  not_first : (b : Bool) → (b ≡ true → ⊥) → b ≡ false
  not_first true h = absurd (h refl)
  not_first false h = refl

  no_secret_said : (words : List (List ℕ)) → IsNoSecret words → line_says hash s messages taken n words ≡ bad reasons.Form
  no_secret_said [] h = absurd (h.some refl)
  no_secret_said (a ∷ words) h =
      ap (λ (t : Bool). cond t empty (secret_line hash s messages taken n (a ∷ words))) (not_first (first_word a) h.no_state)
      ∙ no_secret_in a words h

  pub nothing_said : (words : List (List ℕ)) → SaysNothing words → line_says hash s messages taken n words ≡ empty
  nothing_said words (inl e) = ap (line_says hash s messages taken n) e
  nothing_said [] (inr h) = absurd h
  nothing_said (a ∷ words) (inr h) = ap (λ (t : Bool). cond t empty (secret_line hash s messages taken n (a ∷ words))) h

  no_bytes : (name word : List ℕ) → ((bytes : List ℕ) → read_hex word ≡ Some bytes → ⊥)
      → with_bytes hash s messages taken n name (read_hex word) ≡ bad reasons.Value
  no_bytes name word none = by_bytes (read_hex word) refl
    where
      by_bytes : (o : Option (List ℕ)) → read_hex word ≡ o → with_bytes hash s messages taken n name o ≡ bad reasons.Value
      by_bytes None e = refl
      by_bytes (Some bytes) e = absurd (none bytes e)

  pub bad_secret_said : (words : List (List ℕ)) (reason : SecretReason) → IsBadSecret hash s messages taken words reason
      → line_says hash s messages taken n words ≡ bad reason
  bad_secret_said words reasons.Form h = no_secret_said words h
  bad_secret_said words reasons.Foreign h =
      to_named words h.0 h.1 h.2
      ∙ ap (λ (b : Bool). cond b (with_bytes hash s messages taken n h.0 (read_hex h.1)) (bad reasons.Foreign)) h.3
  bad_secret_said words reasons.Value h = to_bytes words h.0 h.1 h.2 h.3 ∙ no_bytes h.0 h.1 h.4
  bad_secret_said words (reasons.Repeated k) h =
      to_new words h.0 h.1 h.3
      ∙ ap (if_new hash s messages (shown_in n h.0 h.1))
      (first_found (of_secret h.0) (IsOfSecret h.0) (is_of_secret h.0) taken h.2 h.4)
      ∙ ap (λ m. bad (reasons.Repeated m)) h.5
  bad_secret_said words reasons.Length h =
      to_length words h.0 h.1 h.2 ∙ ap (if_long words h.0 h.1) (is_false (has_length h.1) (is_long h.1) h.3)
  bad_secret_said words reasons.Hash h =
      to_digest words h.0 h.1 h.2
      ∙ ap (λ (b : Bool). if_fits b (shown_in n h.0 h.1)) (is_false _ (bytes_eq-Decides (hash h.1) (digest_of s.hashes h.0)) h.3)

  pub collision_said : (words : List (List ℕ)) (earlier later : List ℕ) → IsCollision hash s messages taken words earlier later
      → line_says hash s messages taken n words ≡ collides earlier later
  collision_said words earlier later h =
      to_twins words h.0 later h.1
      ∙ ap (if_alone words h.0 later) (first_found (is_twin hash later) (IsOther hash later) (is_other hash later) messages earlier h.2)

-- ---- all lines

module _ (hash : List ℕ → List ℕ) (s : Instance) where
  -- what comes of a line that says this
  abbrev goes_on : List (List ℕ) → List Shown → ℕ → List (List ℕ) → Line → SecretsRead
  goes_on messages taken n lines says = elim says [
    | empty ↦ read_lines hash s messages taken (n + 1) lines
    | bad reason ↦ refused (faults.Line n reason)
    | collides earlier later ↦ collided earlier later
    | gives shown ↦ read_lines hash s (noted messages shown.bytes) (taken ++ shown ∷ []) (n + 1) lines
  ]

  lines_come : (messages : List (List ℕ)) (taken : List Shown) (n : ℕ) (lines : List (List ℕ))
      → SecretsCome hash s messages taken n lines (read_lines hash s messages taken n lines)
  lines_come messages taken n [] = refl
  lines_come messages taken n (line ∷ lines) =
      by_line (line_says hash s messages taken n (words_of line)) (secret_said hash s messages taken n (words_of line))
      (λ ms xs. lines_come ms xs (n + 1) lines)
    where
      by_line : (says : Line) → SecretSays hash s messages taken n (words_of line) says
          → ((ms : List (List ℕ)) (xs : List Shown) → SecretsCome hash s ms xs (n + 1) lines (read_lines hash s ms xs (n + 1) lines))
          → SecretsCome hash s messages taken n (line ∷ lines) (goes_on messages taken n lines says)
      by_line empty k later = inl (k, later messages taken)
      by_line (bad reason) k later = inr (inr (inl (reason, k, refl)))
      by_line (collides earlier other) k later = inr (inr (inr (earlier, other, k, refl)))
      by_line (gives shown) k later =
          let same : shown ≡ shown_in n shown.name shown.bytes =
          λ i. record { line = k.0 i; name = shown.name; bytes = shown.bytes } in
          inr (inl (
            shown.name,
            shown.bytes,
            k.1,
            subst (λ (x : Shown). SecretsCome hash s (noted messages shown.bytes) (taken ++ x ∷ []) (n + 1) lines
                (read_lines hash s (noted messages shown.bytes) (taken ++ shown ∷ []) (n + 1) lines)) same
                (later (noted messages shown.bytes) (taken ++ shown ∷ [])),
          ))

  lines_read : (messages : List (List ℕ)) (taken : List Shown) (n : ℕ) (lines : List (List ℕ)) (read : SecretsRead)
      → SecretsCome hash s messages taken n lines read → read_lines hash s messages taken n lines ≡ read
  lines_read messages taken n [] read h = sym h
  lines_read messages taken n (line ∷ lines) read (inl h) =
      ap (goes_on messages taken n lines) (nothing_said hash s messages taken n (words_of line) h.0)
      ∙ lines_read messages taken (n + 1) lines read h.1
  lines_read messages taken n (line ∷ lines) read (inr (inl h)) =
      ap (goes_on messages taken n lines) (string_said hash s messages taken n (words_of line) h.0 h.1 h.2)
      ∙ lines_read (noted messages h.1) (taken ++ shown_in n h.0 h.1 ∷ []) (n + 1) lines read h.3
  lines_read messages taken n (line ∷ lines) read (inr (inr (inl h))) =
      ap (goes_on messages taken n lines) (bad_secret_said hash s messages taken n (words_of line) h.0 h.1) ∙ sym h.2
  lines_read messages taken n (line ∷ lines) read (inr (inr (inr h))) =
      ap (goes_on messages taken n lines) (collision_said hash s messages taken n (words_of line) h.0 h.1 h.2) ∙ sym h.3

-- ---- files

lt_from : (m n : ℕ) → nat_lt m n ≡ true → m < n
lt_from m n h = grind (arith, nat_tests)

lt_true : (m n : ℕ) → m < n → nat_lt m n ≡ true
lt_true m n h = grind (arith, nat_tests)

not_lt : (m n : ℕ) → nat_lt m n ≡ false → n ≤ m
not_lt m n h = grind (arith, nat_tests)

lt_false : (m n : ℕ) → n ≤ m → nat_lt m n ≡ false
lt_false m n h = grind (arith, nat_tests)

abbrev unless_long : SecretsRead → Bool → SecretsRead
unless_long read b = cond b (refused faults.Size) read

read_by : (hash : List ℕ → List ℕ) (s : Instance) (messages : List (List ℕ)) (text : List ℕ) (read : SecretsRead)
    → (read_behind hash s messages text ≡ read) ↔ SecretsAre hash s messages text read
read_by hash s messages text read = (by_size (nat_lt most_secrets_bytes (length text)) refl, back)
  where
    by_size : (b : Bool) → nat_lt most_secrets_bytes (length text) ≡ b
        → cond b (refused faults.Size) (read_lines hash s messages [] 1 (lines_of text)) ≡ read → SecretsAre hash s messages text read
    by_size true k e = inl (lt_from most_secrets_bytes (length text) k, sym e)
    by_size false k e = inr (
      not_lt most_secrets_bytes (length text) k,
      subst (SecretsCome hash s messages [] 1 (lines_of text)) e (lines_come hash s messages [] 1 (lines_of text)),
    )

    back : SecretsAre hash s messages text read → read_behind hash s messages text ≡ read
    back (inl h) =
        ap (unless_long (read_lines hash s messages [] 1 (lines_of text))) (lt_true most_secrets_bytes (length text) h.0) ∙ sym h.1
    back (inr h) =
        ap (unless_long (read_lines hash s messages [] 1 (lines_of text))) (lt_false most_secrets_bytes (length text) h.0)
        ∙ lines_read hash s messages [] 1 (lines_of text) read h.1

pub secret_files_are_read : SecretFilesAreRead
secret_files_are_read = record {
  behind = read_by;
  first = λ hash keys s text read. read_by hash s (noted_all [] (deal_strings hash keys s)) text read;
}
