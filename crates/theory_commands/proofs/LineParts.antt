-- The words of a line of a header are read as what they say, and only as that.
use Rattle.std.proofs.Common.{◌≡◌, ℕ, ◌+◌, ◌≤◌, ◌<◌, Bool, true, false, not, List, [], ◌∷◌, length, Option, Some, None}
use Rattle.std.proofs.Common.{refl, sym, ap, subst, ◌∙◌, inl, inr, arith}
use Rattle.std.specs.Prelude.{◌&&◌, ◌||◌, if◌then◌else◌, nat_le, nat_lt, codes}
use Rattle.std.specs.List.{Contains, list_any, sum_by}
use Rattle.std.specs.Str.{bytes_eq}
use Rattle.std.proofs.lemmas.Bool.{and_parts, false_from_ne_true, false≢true}
use Rattle.std.proofs.lemmas.Bool.Decides.{nat_tests}
use Rattle.std.proofs.lemmas.Slice.Eq.{bytes_eq-Decides}
use Rattle.spec_data.specs.Digits.{read_hex}
use Rattle.spec_data.specs.Lists.{is_among}
use Rattle.spec_data.specs.Ranges.{max_money, most_parties, most_header_deposits, most_header_secrets}
use Rattle.spec_terms.specs.Readable.{is_name}
use Rattle.spec_run.specs.declared.header.Header.{Header}
use Rattle.spec_run.specs.declared.header.HeldSecret.{HeldSecret}
use Rattle.spec_text.specs.declared.run_fault.RunLimit.{RunLimit}
use Rattle.spec_text.specs.declared.run_fault.RunLimit.TheVariants as limits
use Rattle.spec_text.specs.Words.{amount}
use Rattle.spec_text.specs.RunFile.{Line, bad, over, empty, rule, says, spelled_within, is_taken, held_secret, party_line, honest_line}
use Rattle.spec_text.specs.RunFile.{secret_of, secret_line, deposit_of, deposit_line, rule_line, header_words}
use Rattle.theory_calculus.specs.Members.{Is_in}
use Rattle.theory_calculus.proofs.Members.{in_from_contains, contains_from_in}
use Rattle.theory_text.proofs.Lines.Decimals.{amount_back}
use Rattle.theory_text.proofs.Lines.PrintedWords.{same_bytes}
use Rattle.theory_commands.specs.LineForms.{Part, party, honest, secret, deposit, Differs, SpellsPart, with_part}
use Rattle.theory_commands.specs.LineForms.{IsFull, SaysOfHeader}
use Rattle.theory_commands.proofs.LineWords.{among_is, is_among_names, amount_spelled, bytes_spelled, bytes_back}

-- ---- tests

not_among : (a : List ℕ) (names : List (List ℕ)) → (Contains names a → ⊥) → is_among a names ≡ false
not_among a names f = false_from_ne_true (is_among a names) (λ e. f (among_is a names e))

among_not : (a : List ℕ) (names : List (List ℕ)) → is_among a names ≡ false → Contains names a → ⊥
among_not a names e c = false≢true (sym e ∙ is_among_names a names c)

not_is : (b : Bool) → not b ≡ true → b ≡ false
not_is true h = absurd (false≢true h)
not_is false h = refl

-- a secret is taken exactly where another doesn't differ from it
module _ (p n bytes : List ℕ) where
  taken_not : (other : HeldSecret) → Differs other (held_secret p n bytes) → is_taken p n bytes other ≡ false
  taken_not other d = by_tests (bytes_eq other.party p) (bytes_eq other.name n) (bytes_eq other.bytes bytes) refl refl refl
    where
      by_tests : (a b c : Bool) → bytes_eq other.party p ≡ a → bytes_eq other.name n ≡ b → bytes_eq other.bytes bytes ≡ c
          → ((a && b) || c) ≡ false
      by_tests true true c e f g = absurd (d.named (same_bytes other.party p e) (same_bytes other.name n f))
      by_tests true false true e f g = absurd (d.bytes (same_bytes other.bytes bytes g))
      by_tests true false false e f g = refl
      by_tests false b true e f g = absurd (d.bytes (same_bytes other.bytes bytes g))
      by_tests false b false e f g = refl

  not_taken : (other : HeldSecret) → is_taken p n bytes other ≡ false → Differs other (held_secret p n bytes)
  not_taken other h = record {
    bytes = λ e. same_bytes_no (bytes_eq other.party p && bytes_eq other.name n) h ((bytes_eq-Decides other.bytes bytes).1 e);
    named = λ e f. same_name_no ((bytes_eq-Decides other.party p).1 e) ((bytes_eq-Decides other.name n).1 f) h;
  }
    where
      same_bytes_no : (a : Bool) → (a || bytes_eq other.bytes bytes) ≡ false → bytes_eq other.bytes bytes ≡ true → ⊥
      same_bytes_no true k e = false≢true (sym k)
      same_bytes_no false k e = false≢true (sym k ∙ e)

      same_name_no : bytes_eq other.party p ≡ true → bytes_eq other.name n ≡ true
          → ((bytes_eq other.party p && bytes_eq other.name n) || bytes_eq other.bytes bytes) ≡ false → ⊥
      same_name_no e f k =
          false≢true (sym k ∙ (λ i. (e i && f i) || bytes_eq other.bytes bytes))

  none_taken : (ss : List HeldSecret) → ((other : HeldSecret) → Is_in other ss → Differs other (held_secret p n bytes))
      → list_any (is_taken p n bytes) ss ≡ false
  none_taken [] f = refl
  none_taken (s ∷ ss) f =
      (λ i. taken_not s (f s (inl refl)) i || list_any (is_taken p n bytes) ss) ∙ none_taken ss (λ other i. f other (inr i))

  all_differ : (ss : List HeldSecret) → list_any (is_taken p n bytes) ss ≡ false → (other : HeldSecret) → Is_in other ss
      → Differs other (held_secret p n bytes)
  all_differ [] h other i = absurd i
  all_differ (s ∷ ss) h other i = by_first (is_taken p n bytes s) refl h i (λ k j. all_differ ss k other j)
    where
      by_first : (b : Bool) → is_taken p n bytes s ≡ b → (b || list_any (is_taken p n bytes) ss) ≡ false → Is_in other (s ∷ ss)
          → (list_any (is_taken p n bytes) ss ≡ false → Is_in other ss → Differs other (held_secret p n bytes))
          → Differs other (held_secret p n bytes)
      by_first true e k j later = absurd (false≢true (sym k))
      by_first false e k (inl same) later = subst (λ (x : HeldSecret). Differs x (held_secret p n bytes)) (sym same) (not_taken s e)
      by_first false e k (inr j) later = later k j

le_test : (a b : ℕ) → a ≤ b → nat_le a b ≡ true
le_test a b h = grind (arith, nat_tests)

le_is : (a b : ℕ) → nat_le a b ≡ true → a ≤ b
le_is a b h = grind (arith, nat_tests)

lt_is : (a b : ℕ) → nat_lt a b ≡ true → b ≤ a → ⊥
lt_is a b h k = let l : a < b = grind (arith, nat_tests) in omega (arith, l, k)

ge_is : (a b : ℕ) → nat_lt a b ≡ false → b ≤ a
ge_is a b h = grind (arith, nat_tests)

-- ---- what a part is read as

module _ (h : Header) where
  -- with room for its kind or without
  abbrev within : Part → Line Header
  within (party a) = spelled_within true (nat_lt (length h.parties) most_parties) limits.Parties (with_part h (party a))
  within (honest a) = says (with_part h (honest a))
  within (secret s) = spelled_within true (nat_lt (length h.secrets) most_header_secrets) limits.Secrets (with_part h (secret s))
  within (deposit a v) = spelled_within true (nat_lt (length h.deposits) most_header_deposits) limits.Deposits (with_part h (deposit a v))

  part_is : (words : List (List ℕ)) (part : Part) → SpellsPart h words part → header_words h words ≡ within part
  part_is words (party a) (e, name, new) = ap (header_words h) e ∙ rw (name, not_among a h.parties new) refl
  part_is words (honest a) (e, there, new) =
      ap (header_words h) e ∙ rw (is_among_names a h.parties there, not_among a h.honest new) refl
  part_is words (secret s) (hex, e, there, name, spelled, differ) =
      ap (header_words h) e
      ∙ rw (
        bytes_back hex s.bytes spelled,
        is_among_names s.party h.honest there,
        name,
        none_taken s.party s.name s.bytes h.secrets (λ other i. differ other (contains_from_in h.secrets other i)),
      ) refl
  part_is words (deposit a v) (e, there, less, sum) =
      ap (header_words h) e
      ∙ rw (amount_back v less, is_among_names a h.parties there, le_test (sum_by (λ d. d.1) h.deposits + v) max_money sum) refl

  room_says : (b : Bool) (n most : ℕ) (limit : RunLimit) (next : Header) → nat_lt n most ≡ b → (most ≤ n → ⊥)
      → spelled_within true b limit next ≡ says next
  room_says true n most limit next e f = refl
  room_says false n most limit next e f = absurd (f (ge_is n most e))

  room_over : (b : Bool) (n most : ℕ) (limit : RunLimit) (next : Header) → nat_lt n most ≡ b → most ≤ n
      → spelled_within true b limit next ≡ over limit
  room_over true n most limit next e k = absurd (lt_is n most e k)
  room_over false n most limit next e k = refl

  within_says : (part : Part) → ((limit : RunLimit) → IsFull h part limit → ⊥) → within part ≡ says (with_part h part)
  within_says (party a) f = room_says _ (length h.parties) most_parties limits.Parties _ refl (λ k. f limits.Parties (refl, k))
  within_says (honest a) f = refl
  within_says (secret s) f = room_says _ (length h.secrets) most_header_secrets limits.Secrets _ refl (λ k. f limits.Secrets (refl, k))
  within_says (deposit a v) f = room_says _ (length h.deposits) most_header_deposits limits.Deposits _ refl (λ k. f limits.Deposits (refl, k))

  abbrev too_many : RunLimit → Line Header
  too_many limit = over limit

  within_over : (part : Part) (limit : RunLimit) → IsFull h part limit → within part ≡ over limit
  within_over (party a) limit (e, k) = room_over _ (length h.parties) most_parties limits.Parties _ refl k ∙ ap too_many (sym e)
  within_over (honest a) limit f = absurd f
  within_over (secret s) limit (e, k) = room_over _ (length h.secrets) most_header_secrets limits.Secrets _ refl k ∙ ap too_many (sym e)
  within_over (deposit a v) limit (e, k) =
      room_over _ (length h.deposits) most_header_deposits limits.Deposits _ refl k ∙ ap too_many (sym e)

  -- which isn't bad
  abbrev IsNotBad : Line Header → Type 0
  IsNotBad bad = ⊥
  IsNotBad _ = Unit {0}

  room_not_bad : (b : Bool) (limit : RunLimit) (next : Header) → IsNotBad (spelled_within true b limit next)
  room_not_bad true limit next = tt
  room_not_bad false limit next = tt

  within_not_bad : (part : Part) → IsNotBad (within part)
  within_not_bad (party a) = room_not_bad (nat_lt (length h.parties) most_parties) limits.Parties (with_part h (party a))
  within_not_bad (honest a) = tt
  within_not_bad (secret s) = room_not_bad (nat_lt (length h.secrets) most_header_secrets) limits.Secrets (with_part h (secret s))
  within_not_bad (deposit a v) = room_not_bad (nat_lt (length h.deposits) most_header_deposits) limits.Deposits (with_part h (deposit a v))

  -- ---- what is read is there

  -- what is said, where it isn't bad
  abbrev Found : List (List ℕ) → Line Header → Type 0
  Found words bad = Unit {0}
  Found words (over limit) = SaysOfHeader h words (over limit)
  Found words empty = SaysOfHeader h words empty
  Found words rule = SaysOfHeader h words rule
  Found words (says next) = SaysOfHeader h words (says next)

  found_part : (words : List (List ℕ)) (part : Part) (t r : Bool) (limit : RunLimit) → (t ≡ true → SpellsPart h words part)
      → (r ≡ true → (other : RunLimit) → IsFull h part other → ⊥) → (r ≡ false → IsFull h part limit)
      → Found words (spelled_within t r limit (with_part h part))
  found_part words part true true limit f g k = (part, f refl, g refl, refl)
  found_part words part true false limit f g k = (part, f refl, k refl)
  found_part words part false true limit f g k = tt
  found_part words part false false limit f g k = tt

  party_found : (ws : List (List ℕ)) → Found (codes "party" ∷ ws) (party_line h ws)
  party_found [] = tt
  party_found (a ∷ []) =
      found_part (codes "party" ∷ a ∷ []) (party a) (is_name a && not (is_among a h.parties)) (nat_lt (length h.parties) most_parties)
      limits.Parties
      (λ e. let p = and_parts (is_name a) (not (is_among a h.parties)) e in (refl, p.0, among_not a h.parties (not_is _ p.1)))
      (λ e other full. lt_is (length h.parties) most_parties e full.1) (λ e. (refl, ge_is (length h.parties) most_parties e))
  party_found (a ∷ b ∷ ws) = tt

  honest_found : (ws : List (List ℕ)) → Found (codes "honest" ∷ ws) (honest_line h ws)
  honest_found [] = tt
  honest_found (a ∷ []) =
      found_part (codes "honest" ∷ a ∷ []) (honest a) (is_among a h.parties && not (is_among a h.honest)) true limits.Parties
      (λ e. let p = and_parts (is_among a h.parties) (not (is_among a h.honest)) e in
      (refl, among_is a h.parties p.0, among_not a h.honest (not_is _ p.1)))
      (λ e other full. full) (λ e. absurd (false≢true (sym e)))
  honest_found (a ∷ b ∷ ws) = tt

  secret_found : (ws : List (List ℕ)) → Found (codes "secret" ∷ ws) (secret_line h ws)
  secret_found [] = tt
  secret_found (a ∷ []) = tt
  secret_found (a ∷ s ∷ []) = tt
  secret_found (a ∷ s ∷ word ∷ []) = by_bytes (read_hex word) refl
    where
      by_bytes : (o : Option (List ℕ)) → read_hex word ≡ o → Found (codes "secret" ∷ a ∷ s ∷ word ∷ []) (secret_of h a s o)
      by_bytes None e = tt
      by_bytes (Some bytes) e =
          let named = is_among a h.honest && is_name s in
          let other = list_any (is_taken a s bytes) h.secrets in
          found_part (codes "secret" ∷ a ∷ s ∷ word ∷ []) (secret (held_secret a s bytes)) (named && not other)
          (nat_lt (length h.secrets) most_header_secrets) limits.Secrets
          (λ t.
          let p = and_parts named (not other) t in
          let q = and_parts (is_among a h.honest) (is_name s) p.0 in (
            word,
            refl,
            among_is a h.honest q.0,
            q.1,
            bytes_spelled word bytes e,
            λ x i. all_differ a s bytes h.secrets (not_is _ p.1) x (in_from_contains h.secrets x i),
          ))
          (λ t o full. lt_is (length h.secrets) most_header_secrets t full.1) (λ t. (refl, ge_is (length h.secrets) most_header_secrets t))
  secret_found (a ∷ s ∷ word ∷ w ∷ ws) = tt

  deposit_found : (ws : List (List ℕ)) → Found (codes "deposit" ∷ ws) (deposit_line h ws)
  deposit_found [] = tt
  deposit_found (a ∷ []) = tt
  deposit_found (a ∷ word ∷ []) = by_value (amount word) refl
    where
      by_value : (o : Option ℕ) → amount word ≡ o → Found (codes "deposit" ∷ a ∷ word ∷ []) (deposit_of h a o)
      by_value None e = tt
      by_value (Some v) e =
          let sum = sum_by (λ d. d.1) h.deposits + v in
          let n = amount_spelled word v e in
          found_part (codes "deposit" ∷ a ∷ word ∷ []) (deposit a v) (is_among a h.parties && nat_le sum max_money)
          (nat_lt (length h.deposits) most_header_deposits) limits.Deposits
          (λ t.
          let p = and_parts (is_among a h.parties) (nat_le sum max_money) t in
          (ap (λ (w : List ℕ). codes "deposit" ∷ a ∷ w ∷ []) n.word', among_is a h.parties p.0, n.less, le_is sum max_money p.1))
          (λ t o full. lt_is (length h.deposits) most_header_deposits t full.1)
          (λ t. (refl, ge_is (length h.deposits) most_header_deposits t))
  deposit_found (a ∷ word ∷ w ∷ ws) = tt

  rule_found : (ws : List (List ℕ)) → Found (codes "--" ∷ ws) (rule_line ws)
  rule_found [] = refl
  rule_found (w ∷ ws) = tt

  either : (P : Line Header → Type 0) (b : Bool) (x y : Line Header) → (b ≡ true → P x) → (b ≡ false → P y) → P (if b then x else y)
  either P true x y f g = f refl
  either P false x y f g = g refl

  found : (words : List (List ℕ)) → Found words (header_words h words)
  found [] = refl
  found (word ∷ ws) =
      let P : Line Header → Type 0 = Found (word ∷ ws) in
      either P (bytes_eq word (codes "party")) _ _ (λ e. is (codes "party") (party_line h ws) e (party_found ws)) (λ n1.
      either P (bytes_eq word (codes "honest")) _ _ (λ e. is (codes "honest") (honest_line h ws) e (honest_found ws)) (λ n2.
      either P (bytes_eq word (codes "secret")) _ _ (λ e. is (codes "secret") (secret_line h ws) e (secret_found ws)) (λ n3.
      either P (bytes_eq word (codes "deposit")) _ _ (λ e. is (codes "deposit") (deposit_line h ws) e (deposit_found ws)) (λ n4.
      either P (bytes_eq word (codes "--")) _ _ (λ e. is (codes "--") (rule_line ws) e (rule_found ws)) (λ n5. tt)))))
    where
      is : (name : List ℕ) (x : Line Header) → bytes_eq word name ≡ true → Found (name ∷ ws) x → Found (word ∷ ws) x
      is name x same f = subst (λ (w : List ℕ). Found (w ∷ ws) x) (sym (same_bytes word name same)) f

  -- ---- both ways

  no_part : (words : List (List ℕ)) → header_words h words ≡ bad → (part : Part) → SpellsPart h words part → ⊥
  no_part words e part s = subst IsNotBad (sym (part_is words part s) ∙ e) (within_not_bad part)

  not_empty : (words : List (List ℕ)) → header_words h words ≡ bad → words ≡ [] → ⊥
  not_empty words e k = subst IsNotBad (sym (ap (header_words h) k) ∙ e) tt

  not_rule : (words : List (List ℕ)) → header_words h words ≡ bad → words ≡ codes "--" ∷ [] → ⊥
  not_rule words e k = subst IsNotBad (sym (ap (header_words h) k) ∙ e) tt

  by_found : (words : List (List ℕ)) (x : Line Header) → header_words h words ≡ x → Found words x → SaysOfHeader h words x
  by_found words bad e f = (not_empty words e, not_rule words e, no_part words e)
  by_found words (over limit) e f = f
  by_found words empty e f = f
  by_found words rule e f = f
  by_found words (says next) e f = f

  pub header_says : (words : List (List ℕ)) (x : Line Header) → header_words h words ≡ x → SaysOfHeader h words x
  header_says words x e = by_found words x e (subst (Found words) e (found words))

  bad_is : (words : List (List ℕ)) (x : Line Header) → header_words h words ≡ x → SaysOfHeader h words x → SaysOfHeader h words bad → x ≡ bad
  bad_is words bad e s f = refl
  bad_is words (over limit) e s f = absurd (f.2 (s.0) (s.1))
  bad_is words empty e s f = absurd (f.0 s)
  bad_is words rule e s f = absurd (f.1 s)
  bad_is words (says next) e s f = absurd (f.2 (s.0) (s.1))

  pub header_back : (words : List (List ℕ)) (x : Line Header) → SaysOfHeader h words x → header_words h words ≡ x
  header_back words bad f = bad_is words (header_words h words) refl (header_says words (header_words h words) refl) f
  header_back words (over limit) (part, s, full) = part_is words part s ∙ within_over part limit full
  header_back words empty e = ap (header_words h) e
  header_back words rule e = ap (header_words h) e
  header_back words (says next) (part, s, room, e) = part_is words part s ∙ (within_says part room ∙ ap (λ (k : Header). says k) (sym e))
