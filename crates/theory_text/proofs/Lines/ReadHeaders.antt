-- What is known of each part of a header that was read: it was new behind those before it.
use Rattle.std.proofs.Common.{◌≡◌, ℕ, ◌+◌, ◌≤◌, Bool, true, false, not, List, [], ◌∷◌, ◌++◌, length, Option, Some, None, refl, sym, ap, subst, ◌∙◌, arith, append_assoc}
use Rattle.std.specs.Prelude.{◌&&◌, ◌||◌, if◌then◌else◌, nat_lt, nat_le, codes}
use Rattle.std.specs.Fmt.{decimal}
use Rattle.std.specs.List.{list_any, list_all, sum_by}
use Rattle.std.specs.Str.{bytes_eq}
use Rattle.std.proofs.lemmas.List.{append-nil}
use Rattle.spec_bitcoin.specs.Spelling.{IsBytes}
use Rattle.spec_data.specs.Lists.{is_among}
use Rattle.spec_data.specs.Ranges.{max_money, most_parties, most_header_deposits, most_header_secrets}
use Rattle.spec_data.specs.Digits.{hex_text, read_hex}
use Rattle.spec_terms.specs.Readable.{is_name}
use Rattle.spec_run.specs.declared.header.Header.{Header}
use Rattle.spec_run.specs.declared.header.HeldSecret.{HeldSecret}
use Rattle.spec_text.specs.declared.run_fault.RunLimit.TheVariants as limits
use Rattle.spec_text.specs.Limits.{most_line_bytes}
use Rattle.spec_text.specs.Lines.{words_of}
use Rattle.spec_text.specs.Words.{amount}
use Rattle.spec_text.specs.RunFile.{over, says, is_long, no_header, party_line, honest_line, is_taken, held_secret, secret_of, secret_line, deposit_of, deposit_line, header_words, header_line}
use Rattle.theory_text.proofs.Options.{some}
use Rattle.theory_text.proofs.ListFacts.{and_is, and_left, and_right, all_push, among_more, by_test}
use Rattle.theory_text.proofs.Lines.Words.{total}
use Rattle.theory_text.proofs.Lines.Hex.{read_hex_is}
use Rattle.theory_text.proofs.Lines.HexBack.{read_hex_back}
use Rattle.theory_text.proofs.Lines.Separated.{spaced, spaced_length}
use Rattle.theory_text.proofs.Lines.PrintedWords.{same_bytes, amount_word}
use Rattle.theory_text.proofs.Lines.ValidHeaders.{says_header, within, rule_says}
use Rattle.theory_text.proofs.Lines.ValidRuns.{short_line}

-- ---- what each element is behind those before it

abbrev pub AllNew : {X : Type 0} → (List X → X → Type 0) → List X → List X → Type 0
AllNew P done [] = Unit {0}
AllNew P done (x ∷ xs) = P done x × AllNew P (done ++ x ∷ []) xs

new_push : {X : Type 0} (P : List X → X → Type 0) (done xs : List X) (x : X) → AllNew P done xs → P (done ++ xs) x → AllNew P done (xs ++ x ∷ [])
new_push P done [] x h p = (subst (λ (ys : List _). P ys x) (append-nil done) p, tt)
new_push P done (y ∷ xs) x h p = (h.0, new_push P (done ++ y ∷ []) xs x h.1 (subst (λ (ys : List _). P ys x) (sym (append_assoc done (y ∷ []) xs)) p))

new_weak : {X : Type 0} (P Q : List X → X → Type 0) (done xs : List X) → ((ys : List X) (x : X) → P ys x → Q ys x) → AllNew P done xs → AllNew Q done xs
new_weak P Q done [] f h = tt
new_weak P Q done (x ∷ xs) f h = (f done x h.0, new_weak P Q (done ++ x ∷ []) xs f h.1)

-- ---- the parts of a header

pub record NewParty (done : List (List ℕ)) (a : List ℕ) : Type 0 where
  pub spelled : (is_name a && not (is_among a done)) ≡ true
  pub room : nat_lt (length done) most_parties ≡ true

pub record NewHonest (parties done : List (List ℕ)) (a : List ℕ) : Type 0 where
  pub named : is_name a ≡ true
  pub spelled : (is_among a parties && not (is_among a done)) ≡ true

-- the words of the line of a secret
abbrev pub secret_words : HeldSecret → List (List ℕ)
secret_words s = codes "secret" ∷ s.party ∷ s.name ∷ hex_text s.bytes ∷ []

pub record NewSecret (honest : List (List ℕ)) (done : List HeldSecret) (s : HeldSecret) : Type 0 where
  pub named : is_name s.party ≡ true
  pub spelled : ((is_among s.party honest && is_name s.name) && not (list_any (is_taken s.party s.name s.bytes) done)) ≡ true
  pub room : nat_lt (length done) most_header_secrets ≡ true
  pub bytes' : IsBytes s.bytes
  pub read : read_hex (hex_text s.bytes) ≡ some s.bytes
  pub short : length (spaced (secret_words s)) ≤ most_line_bytes

pub record NewDeposit (parties : List (List ℕ)) (done : List (List ℕ × ℕ)) (d : List ℕ × ℕ) : Type 0 where
  pub named : is_name d.0 ≡ true
  pub spelled : (is_among d.0 parties && nat_le (sum_by (λ x. x.1) done + d.1) max_money) ≡ true
  pub room : nat_lt (length done) most_header_deposits ≡ true
  pub read : amount (decimal d.1) ≡ some d.1

pub record IsRead (h : Header) : Type 0 where
  pub party_names : list_all is_name h.parties ≡ true
  pub honest_names : list_all is_name h.honest ≡ true
  pub parties' : AllNew NewParty [] h.parties
  pub honest' : AllNew (NewHonest h.parties) [] h.honest
  pub secrets' : AllNew (NewSecret h.honest) [] h.secrets
  pub deposits' : AllNew (NewDeposit h.parties) [] h.deposits

-- one of names is a name
named_by : (a x : List ℕ) (xs : List (List ℕ)) (t : Bool) → bytes_eq x a ≡ t → is_name x ≡ true → (is_among a xs ≡ true → is_name a ≡ true)
    → (t || is_among a xs) ≡ true → is_name a ≡ true
named_by a x xs true e h f k = subst (λ (y : List ℕ). is_name y ≡ true) (same_bytes x a e) h
named_by a x xs false e h f k = f k

named_among : (a : List ℕ) (names : List (List ℕ)) → list_all is_name names ≡ true → is_among a names ≡ true → is_name a ≡ true
named_among a [] h k = absurd cc
named_among a (x ∷ xs) h k = named_by a x xs (bytes_eq x a) refl (and_left _ _ h) (named_among a xs (and_right (is_name x) _ h)) k

-- ---- what a line adds

with_party : (h : Header) (a : List ℕ) → IsRead h → (is_name a && not (is_among a h.parties)) ≡ true
    → nat_lt (length h.parties) most_parties ≡ true → IsRead (record h { parties = h.parties ++ a ∷ [] })
with_party h a is new room = record {
  party_names = all_push is_name h.parties a is.party_names (and_left _ _ new);
  honest_names = is.honest_names;
  parties' = new_push NewParty [] h.parties a is.parties' (record { spelled = new; room = room });
  honest' = new_weak (NewHonest h.parties) (NewHonest (h.parties ++ a ∷ [])) [] h.honest
      (λ done x p. record {
        named = p.named;
        spelled = and_is _ _ (among_more x a h.parties (and_left _ _ p.spelled))
            (and_right (is_among x h.parties) _ p.spelled);
      }) is.honest';
  secrets' = is.secrets';
  deposits' = new_weak (NewDeposit h.parties) (NewDeposit (h.parties ++ a ∷ [])) [] h.deposits
      (λ done d p. record {
        named = p.named;
        spelled = and_is _ _ (among_more d.0 a h.parties (and_left _ _ p.spelled))
            (and_right (is_among d.0 h.parties) _ p.spelled);
        room = p.room;
        read = p.read;
      }) is.deposits';
}

with_honest : (h : Header) (a : List ℕ) → IsRead h → (is_among a h.parties && not (is_among a h.honest)) ≡ true
    → IsRead (record h { honest = h.honest ++ a ∷ [] })
with_honest h a is new =
    let named = named_among a h.parties is.party_names (and_left _ _ new) in
    record {
      party_names = is.party_names;
      honest_names = all_push is_name h.honest a is.honest_names named;
      parties' = is.parties';
      honest' = new_push (NewHonest h.parties) [] h.honest a is.honest' (record { named = named; spelled = new });
      secrets' = new_weak (NewSecret h.honest) (NewSecret (h.honest ++ a ∷ [])) [] h.secrets
          (λ done s p. record {
            named = p.named;
            spelled = and_is _ _
                (and_is _ _ (among_more s.party a h.honest (and_left _ _ (and_left _ _ p.spelled)))
                (and_right (is_among s.party h.honest) _ (and_left _ _ p.spelled)))
                (and_right (is_among s.party h.honest && is_name s.name) _
                p.spelled);
            room = p.room;
            bytes' = p.bytes';
            read = p.read;
            short = p.short;
          }) is.secrets';
      deposits' = is.deposits';
    }

-- the canonical line of a secret is no longer than the line that it was read from
secret_short : (line a s word bytes : List ℕ) → words_of line ≡ codes "secret" ∷ a ∷ s ∷ word ∷ []
    → read_hex word ≡ some bytes → length (spaced (secret_words (held_secret a s bytes))) ≤ length line
secret_short line a s word bytes words read =
    let size = (read_hex_back word bytes read).size in
    let all = ap total words in
    let count = ap (length {A = List ℕ}) words in
    spaced_length line (secret_words (held_secret a s bytes)) (omega arith) (omega (arith, all, size)) (omega (arith, count))

with_secret : (h : Header) (a s word bytes line : List ℕ)
    → IsRead h → words_of line ≡ codes "secret" ∷ a ∷ s ∷ word ∷ [] → length line ≤ most_line_bytes → read_hex word ≡ some bytes
    → ((is_among a h.honest && is_name s) && not (list_any (is_taken a s bytes) h.secrets)) ≡ true
    → nat_lt (length h.secrets) most_header_secrets ≡ true → IsRead (record h { secrets = h.secrets ++ held_secret a s bytes ∷ [] })
with_secret h a s word bytes line is words fits read new room =
    let short = secret_short line a s word bytes words read in
    record {
      party_names = is.party_names;
      honest_names = is.honest_names;
      parties' = is.parties';
      honest' = is.honest';
      secrets' = new_push (NewSecret h.honest) [] h.secrets (held_secret a s bytes) is.secrets' (record {
        named = named_among a h.honest is.honest_names (and_left _ _ (and_left _ _ new));
        spelled = new;
        room = room;
        bytes' = (read_hex_is word bytes read).bytes;
        read = (read_hex_back word bytes read).read;
        short = omega (arith, short, fits);
      });
      deposits' = is.deposits';
    }

with_deposit : (h : Header) (a word : List ℕ) (v : ℕ) → IsRead h → amount word ≡ some v
    → (is_among a h.parties && nat_le (sum_by (λ d. d.1) h.deposits + v) max_money) ≡ true → nat_lt (length h.deposits) most_header_deposits
    ≡ true → IsRead (record h { deposits = h.deposits ++ (a, v) ∷ [] })
with_deposit h a word v is read new room = record {
  party_names = is.party_names;
  honest_names = is.honest_names;
  parties' = is.parties';
  honest' = is.honest';
  secrets' = is.secrets';
  deposits' = new_push (NewDeposit h.parties) [] h.deposits (a, v) is.deposits'
      (record {
        named = named_among a h.parties is.party_names (and_left _ _ new);
        spelled = new;
        room = room;
        read = ap amount
            (amount_word word v read) ∙ read;
      });
}

-- ---- lines

party_says : (h k : Header) (ws : List (List ℕ)) → IsRead h → party_line h ws ≡ says k → IsRead k
party_says h k [] is e = absurd cc
party_says h k (a ∷ []) is e = let w = within _ _ _ _ k e in subst IsRead w.same (with_party h a is w.spelled w.fits)
party_says h k (a ∷ b ∷ ws) is e = absurd cc

honest_says : (h k : Header) (ws : List (List ℕ)) → IsRead h → honest_line h ws ≡ says k → IsRead k
honest_says h k [] is e = absurd cc
honest_says h k (a ∷ []) is e = let w = within _ _ _ _ k e in subst IsRead w.same (with_honest h a is w.spelled)
honest_says h k (a ∷ b ∷ ws) is e = absurd cc

secret_of_says : (h k : Header) (a s word line : List ℕ) (bytes : Option (List ℕ)) → read_hex word ≡ bytes
    → words_of line ≡ codes "secret" ∷ a ∷ s ∷ word ∷ [] → length line ≤ most_line_bytes → IsRead h → secret_of h a s bytes ≡ says k → IsRead k
secret_of_says h k a s word line None read words fits is e = absurd cc
secret_of_says h k a s word line (Some bytes) read words fits is e =
    let w = within _ _ _ _ k e in subst IsRead w.same (with_secret h a s word bytes line is words fits read w.spelled w.fits)

secret_says : (h k : Header) (line : List ℕ) (ws : List (List ℕ))
    → words_of line ≡ codes "secret" ∷ ws → length line ≤ most_line_bytes → IsRead h → secret_line h ws ≡ says k → IsRead k
secret_says h k line [] words fits is e = absurd cc
secret_says h k line (a ∷ []) words fits is e = absurd cc
secret_says h k line (a ∷ s ∷ []) words fits is e = absurd cc
secret_says h k line (a ∷ s ∷ w ∷ []) words fits is e = secret_of_says h k a s w line (read_hex w) refl words fits is e
secret_says h k line (a ∷ s ∷ w ∷ v ∷ ws) words fits is e = absurd cc

deposit_of_says : (h k : Header) (a word : List ℕ) (v : Option ℕ) → amount word ≡ v → IsRead h → deposit_of h a v ≡ says k → IsRead k
deposit_of_says h k a word None read is e = absurd cc
deposit_of_says h k a word (Some v) read is e = let w = within _ _ _ _ k e in subst IsRead w.same (with_deposit h a word v is read w.spelled w.fits)

deposit_says : (h k : Header) (ws : List (List ℕ)) → IsRead h → deposit_line h ws ≡ says k → IsRead k
deposit_says h k [] is e = absurd cc
deposit_says h k (a ∷ []) is e = absurd cc
deposit_says h k (a ∷ w ∷ []) is e = deposit_of_says h k a w (amount w) refl is e
deposit_says h k (a ∷ w ∷ v ∷ ws) is e = absurd cc

words_say : (h k : Header) (line : List ℕ) (ws : List (List ℕ)) → words_of line ≡ ws → length line ≤ most_line_bytes → IsRead h
    → header_words h ws ≡ says k → IsRead k
words_say h k line [] words fits is e = absurd cc
words_say h k line (w ∷ ws) words fits is e =
    by_test (bytes_eq w (codes "party")) _ _ (says_header k) (IsRead k) e (λ same. party_says h k ws is) (λ e1.
    by_test (bytes_eq w (codes "honest")) _ _ (says_header k) (IsRead k) e1 (λ same. honest_says h k ws is) (λ e2.
    by_test (bytes_eq w (codes "secret")) _ _ (says_header k)
    (IsRead k) e2 (λ same. secret_says h k line ws (words ∙ ap (λ (x : List ℕ). x ∷ ws) (same_bytes w (codes "secret") same)) fits is) (λ e3.
    by_test (bytes_eq w (codes "deposit")) _ _ (says_header k) (IsRead k) e3 (λ same. deposit_says h k ws is) (λ e4.
    by_test (bytes_eq w (codes "--")) _ _ (says_header k) (IsRead k) e4 (λ same e5. absurd (rule_says k ws e5)) (λ e5. absurd cc)))))

line_by : (h k : Header) (line : List ℕ) (t : Bool) → is_long line ≡ t → IsRead h
    → (if t then over limits.Line else header_words h (words_of line)) ≡ says k → IsRead k
line_by h k line true long is e = absurd cc
line_by h k line false long is e = words_say h k line (words_of line) refl (short_line line long) is e

-- each line keeps what is known of the header
pub line_keeps : (h k : Header) (line : List ℕ) → IsRead h → header_line h line ≡ says k → IsRead k
line_keeps h k line is e = line_by h k line (is_long line) refl is e

pub no_header_read : IsRead no_header
no_header_read = record { party_names = refl; honest_names = refl; parties' = tt; honest' = tt; secrets' = tt; deposits' = tt }
