-- A file with the lines of these secrets gives just their strings.
use Rattle.std.proofs.Common.{◌≡◌, ℕ, ◌+◌, ◌<◌, ◌≤◌, List, [], ◌∷◌, ◌++◌, length, Bool, true, false, Option, Some, None, refl, sym, ap, subst, ◌∙◌, inl, inr, cond}
use Rattle.std.proofs.Common.{arith}
use Rattle.std.specs.Prelude.{◌⊎◌, ◌||◌, not, filter, flat_map, nat_lt, codes}
use Rattle.std.specs.List.{find, AllByRecursion, Contains}
use Rattle.std.specs.Option.{option_map}
use Rattle.std.specs.Str.{bytes_eq}
use Rattle.std.proofs.lemmas.Bool.{and_parts, both_ways, not-true}
use Rattle.std.proofs.lemmas.Bool.Decides.{nat_tests}
use Rattle.spec_data.specs.Digits.{hex_text, read_hex}
use Rattle.spec_data.specs.Hashes.{IsBytes}
use Rattle.spec_data.specs.Lists.{is_among, are_different, or_else}
use Rattle.spec_data.specs.Messages.{noted, is_twin, collision_with}
use Rattle.spec_compiler.specs.Scripts.{digest_of}
use Rattle.spec_compiler.specs.Keyed.Instance.{Instance}
use Rattle.spec_text.specs.Lines.{lines_of, words_of}
use Rattle.spec_deal.specs.declared.entry.Shown.{Shown}
use Rattle.spec_deal.specs.declared.fault.SecretReason.TheVariants as reasons
use Rattle.spec_deal.specs.declared.fault.SecretFault.TheVariants as faults
use Rattle.spec_deal.specs.Needed.{needed_secrets}
use Rattle.spec_deal.specs.SecretFile.{Line, empty, bad, collides, gives, if_fits, hashed_line, has_length, if_new, with_bytes, secret_line}
use Rattle.spec_deal.specs.SecretFile.{state_words, line_says, SecretsRead, shows, refused, collided, read_lines, read_behind, string_for}
use Rattle.spec_deal.specs.Sizes.{most_secrets_bytes}
use Rattle.theory_calculus.specs.Members.{Is_in}
use Rattle.theory_calculus.proofs.Members.{in_append, contains_from_in, found}
use Rattle.theory_calculus.proofs.Names.{bytes-true, bytes_refl}
use Rattle.theory_text.proofs.Lines.HexBack.{hex_back}
use Rattle.theory_text.proofs.Lines.LineBytes.{LineWord, name_line, hex_line, line_is}
use Rattle.theory_text.proofs.Lines.Separated.{spaced, spaced_words}
use Rattle.theory_play_text.specs.Printable.{IsNamed}
use Rattle.theory_state_text.specs.Secrets.{says_something, is_spoken, spoken, DoCollide, GivesThese}

-- ---- lines of secrets

abbrev pub secret_words : List ℕ → List ℕ → List (List ℕ)
secret_words name bytes = codes "secret" ∷ name ∷ hex_text bytes ∷ []

abbrev pub secret_lines_of : List ℕ → Option (List ℕ) → List (List ℕ)
secret_lines_of name None = []
secret_lines_of name (Some bytes) = spaced (secret_words name bytes) ∷ []

-- the lines of the secrets that these give, in order
abbrev pub secret_lines : List Shown → List (List ℕ) → List (List ℕ)
secret_lines strings names = flat_map (λ name. secret_lines_of name (string_for strings name)) names

-- a string that a secret of the contract may have
pub record IsKnown (hash : List ℕ → List ℕ) (s : Instance) (name bytes : List ℕ) : Type 0 where
  pub needed : is_among name (needed_secrets s.advert) ≡ true
  pub bytes_are : IsBytes bytes
  pub long : has_length bytes ≡ true
  pub fits : bytes_eq (hash bytes) (digest_of s.hashes name) ≡ true

-- ---- one line

read_back : (bytes : List ℕ) → IsBytes bytes → has_length bytes ≡ true → read_hex (hex_text bytes) ≡ Some bytes
read_back [] h long = cc
read_back (b ∷ bytes) h long = hex_back (b ∷ bytes) h

secret_word : LineWord (codes "secret")
secret_word = record {
  is = record { some = omega arith; lacks = (refl, (refl, (refl, (refl, (refl, (refl, tt)))))) };
  ends = (refl, (refl, (refl, (refl, (refl, (refl, tt))))));
}

pub words_fine : (name bytes : List ℕ) → IsNamed name → IsBytes bytes → has_length bytes ≡ true
    → AllByRecursion LineWord (secret_words name bytes)
words_fine name bytes named h long =
    (secret_word, (name_line name named, (hex_line bytes h (read_back bytes h long), tt)))

pub words_back : (name bytes : List ℕ) → IsNamed name → IsBytes bytes → has_length bytes ≡ true
    → words_of (spaced (secret_words name bytes)) ≡ secret_words name bytes
words_back name bytes named h long = spaced_words (secret_words name bytes) (line_is (secret_words name bytes) (words_fine name bytes named h long))

module _ (hash : List ℕ → List ℕ) (s : Instance) where
  -- a line that is read over
  quiet_line : (messages : List (List ℕ)) (taken : List Shown) (n : ℕ) (words : List (List ℕ)) → says_something words ≡ false
      → line_says hash s messages taken n words ≡ empty
  quiet_line messages taken n [] e = refl
  quiet_line messages taken n (word ∷ words) e = by_first (is_among word state_words) e
    where
      by_first : (b : Bool) → not b ≡ false → cond b empty (secret_line hash s messages taken n (word ∷ words)) ≡ empty
      by_first true f = refl
      by_first false f = cc

  unfound : (taken : List Shown) (name : List ℕ) → string_for taken name ≡ None → find (λ (x : Shown). bytes_eq x.name name) taken ≡ None
  unfound taken name e = by_entry (find (λ (x : Shown). bytes_eq x.name name) taken) refl e
    where
      by_entry : (o : Option Shown) → find (λ (x : Shown). bytes_eq x.name name) taken ≡ o → option_map (λ (x : Shown). x.bytes) o ≡ None → o ≡ None
      by_entry None f g = refl
      by_entry (Some x) f g = cc

  -- a line of a secret that has no string yet
  secret_said : (messages : List (List ℕ)) (taken : List Shown) (n : ℕ) (name bytes : List ℕ) → IsNamed name → IsKnown hash s name bytes
      → string_for taken name ≡ None
      → line_says hash s messages taken n (words_of (spaced (secret_words name bytes)))
      ≡ hashed_line hash s (record { line = n; name = name; bytes = bytes }) (collision_with hash messages bytes)
  secret_said messages taken n name bytes named k free =
      let shown : Shown = record { line = n; name = name; bytes = bytes } in
      ap (line_says hash s messages taken n) (words_back name bytes named k.bytes_are k.long)
      ∙ ap (λ (b : Bool). cond b (with_bytes hash s messages taken n name (read_hex (hex_text bytes))) (bad reasons.Foreign)) k.needed
      ∙ ap (with_bytes hash s messages taken n name) (read_back bytes k.bytes_are k.long)
      ∙ ap (if_new hash s messages shown) (unfound taken name free)
      ∙ ap (λ (b : Bool). cond b (hashed_line hash s shown (collision_with hash messages bytes)) (bad reasons.Length)) k.long

-- ---- strings by name

string_append : (xs ys : List Shown) (name : List ℕ) → string_for (xs ++ ys) name ≡ or_else (string_for xs name) (string_for ys name)
string_append [] ys name = refl
string_append (x ∷ xs) ys name = by_test (bytes_eq x.name name) (string_append xs ys name)
  where
    by_test : (b : Bool) → string_for (xs ++ ys) name ≡ or_else (string_for xs name) (string_for ys name)
        → option_map (λ (y : Shown). y.bytes) (cond b (Some x) (find (λ (y : Shown). bytes_eq y.name name) (xs ++ ys)))
        ≡ or_else (option_map (λ (y : Shown). y.bytes) (cond b (Some x) (find (λ (y : Shown). bytes_eq y.name name) xs))) (string_for ys name)
    by_test true e = refl
    by_test false e = e

or_none : {A : Type 0} (o : Option A) → or_else o None ≡ o
or_none None = refl
or_none (Some x) = refl

-- ---- the lines of a file

module _ (hash : List ℕ → List ℕ) (s : Instance) (strings : List Shown)
    (known : (name bytes : List ℕ) → string_for strings name ≡ Some bytes → IsKnown hash s name bytes)
    (named : (name : List ℕ) → is_among name (needed_secrets s.advert) ≡ true → IsNamed name) where
  -- the strings that are taken are those of all names but these, which come yet
  abbrev Taken : List Shown → List (List ℕ) → Type 0
  Taken taken names = (name : List ℕ) → string_for taken name ≡ cond (is_among name names) None (string_for strings name)

  -- the next name that has a string
  record Next (taken : List Shown) (names : List (List ℕ)) : Type 0 where
    name : List ℕ
    bytes : List ℕ
    rest : List (List ℕ)
    has : string_for strings name ≡ Some bytes
    lines : secret_lines strings names ≡ spaced (secret_words name bytes) ∷ secret_lines strings rest
    different : are_different (name ∷ rest) ≡ true
    left : Taken taken (name ∷ rest)

  -- or there is none
  abbrev Ended : List Shown → List (List ℕ) → Type 0
  Ended taken names = (secret_lines strings names ≡ []) × Taken taken []

  -- a name without a string is passed over
  passed : (taken : List Shown) (x : List ℕ) (names : List (List ℕ)) → string_for strings x ≡ None → Taken taken (x ∷ names) → Taken taken names
  passed taken x names e h name = by_same (bytes_eq x name) refl (h name)
    where
      nothing : (b : Bool) → string_for strings name ≡ None → cond b None (string_for strings name) ≡ None
      nothing true f = refl
      nothing false f = f

      by_same : (b : Bool) → bytes_eq x name ≡ b → string_for taken name ≡ cond (b || is_among name names) None (string_for strings name)
          → string_for taken name ≡ cond (is_among name names) None (string_for strings name)
      by_same true f k = k ∙ sym (nothing (is_among name names) (subst (λ y. string_for strings y ≡ None) (bytes-true x name f) e))
      by_same false f k = k

  next : (taken : List Shown) (names : List (List ℕ)) → are_different names ≡ true → Taken taken names
      → Ended taken names ⊎ Next taken names
  next taken [] d h = inl (refl, h)
  next taken (x ∷ names) d h =
      by_string (string_for strings x) refl
      (λ e. next taken names (and_parts (not (is_among x names)) (are_different names) d).1 (passed taken x names e h))
    where
      further : string_for strings x ≡ None → Ended taken names ⊎ Next taken names → Ended taken (x ∷ names) ⊎ Next taken (x ∷ names)
      further e (inl k) = inl (ap (λ o. secret_lines_of x o ++ secret_lines strings names) e ∙ k.0, k.1)
      further e (inr k) = inr (record {
        name = k.name;
        bytes = k.bytes;
        rest = k.rest;
        has = k.has;
        lines = ap (λ o. secret_lines_of x o ++ secret_lines strings names) e ∙ k.lines;
        different = k.different;
        left = k.left;
      })

      by_string : (o : Option (List ℕ)) → string_for strings x ≡ o
          → (string_for strings x ≡ None → Ended taken names ⊎ Next taken names) → Ended taken (x ∷ names) ⊎ Next taken (x ∷ names)
      by_string None e later = further e (later e)
      by_string (Some bytes) e later = inr (record {
        name = x;
        bytes = bytes;
        rest = names;
        has = e;
        lines = ap (λ o. secret_lines_of x o ++ secret_lines strings names) e;
        different = d;
        left = h;
      })

  -- the next string is taken
  one_more : (taken : List Shown) (names : List (List ℕ)) (k : Next taken names) (n : ℕ)
      → Taken (taken ++ record { line = n; name = k.name; bytes = k.bytes } ∷ []) k.rest
  one_more taken names k n name =
      string_append taken (record { line = n; name = k.name; bytes = k.bytes } ∷ []) name ∙ by_same (bytes_eq k.name name) refl (k.left name)
    where
      apart : is_among k.name k.rest ≡ false
      apart = not-true (is_among k.name k.rest) (and_parts (not (is_among k.name k.rest)) (are_different k.rest) k.different).0

      here : k.name ≡ name → cond (is_among name k.rest) None (string_for strings name) ≡ Some k.bytes
      here e =
          subst (λ x. cond (is_among x k.rest) None (string_for strings x) ≡ Some k.bytes) e
          (ap (λ (b : Bool). cond b None (string_for strings k.name)) apart ∙ k.has)

      by_same : (b : Bool) → bytes_eq k.name name ≡ b
          → string_for taken name ≡ cond (b || is_among name k.rest) None (string_for strings name)
          → or_else (string_for taken name)
          (option_map (λ (x : Shown). x.bytes) (cond b (Some (record { line = n; name = k.name; bytes = k.bytes })) None))
          ≡ cond (is_among name k.rest) None (string_for strings name)
      by_same true e h = ap (λ o. or_else o (Some k.bytes)) h ∙ sym (here (bytes-true k.name name e))
      by_same false e h = or_none (string_for taken name) ∙ h

  -- ---- messages

  module _ (messages : List (List ℕ)) where
    -- what was hashed, or is known
    abbrev IsHeard : List ℕ → Type 0
    IsHeard text = Contains messages text ⊎ ((other : List ℕ) × (string_for strings other ≡ Some text))

    abbrev AreHeard : List (List ℕ) → Type 0
    AreHeard texts = (text : List ℕ) → Is_in text texts → IsHeard text

    noted_heard : (heard : List (List ℕ)) (name bytes : List ℕ) → AreHeard heard → string_for strings name ≡ Some bytes → AreHeard (noted heard bytes)
    noted_heard heard name bytes h e = by_test (is_among bytes heard)
      where
        by_place : (text : List ℕ) → Is_in text heard ⊎ Is_in text (bytes ∷ []) → IsHeard text
        by_place text (inl i) = h text i
        by_place text (inr (inl same)) = inr (name, e ∙ ap Some (sym same))
        by_place text (inr (inr i)) = absurd i

        by_test : (b : Bool) → AreHeard (cond b heard (heard ++ bytes ∷ []))
        by_test true = h
        by_test false = λ text i. by_place text (in_append text heard (bytes ∷ []) i)

    -- what the lines come to
    abbrev Comes : SecretsRead → Type 0
    Comes (shows told) = (name : List ℕ) → string_for told name ≡ string_for strings name
    Comes (refused fault) = ⊥
    Comes (collided earlier later) = DoCollide hash messages strings earlier later

    abbrev after_line : List (List ℕ) → List Shown → ℕ → List (List ℕ) → Line → SecretsRead
    after_line heard taken n lines l = elim l [
      | empty ↦ read_lines hash s heard taken (n + 1) lines
      | bad reason ↦ refused (faults.Line n reason)
      | collides earlier later ↦ collided earlier later
      | gives shown ↦ read_lines hash s (noted heard shown.bytes) (taken ++ shown ∷ []) (n + 1) lines
    ]

    collide : (heard : List (List ℕ)) (name bytes : List ℕ) (pair : List ℕ × List ℕ) → AreHeard heard → string_for strings name ≡ Some bytes
        → collision_with hash heard bytes ≡ Some pair → DoCollide hash messages strings (pair.0) (pair.1)
    collide heard name bytes pair h e c = by_twin (find (is_twin hash bytes) heard) refl c
      where
        not_same : (b : Bool) → not b ≡ true → b ≡ true → ⊥
        not_same true f g = cc
        not_same false f g = cc

        of_twin : (x : List ℕ) → Is_in x heard × (is_twin hash bytes x ≡ true) → DoCollide hash messages strings x bytes
        of_twin x r =
            let p = and_parts (bytes_eq (hash x) (hash bytes)) (not (bytes_eq x bytes)) r.1 in
            record {
              name = name;
              given = e;
              heard = h x r.0;
              other = (
                bytes-true (hash x) (hash bytes) p.0,
                λ same. not_same (bytes_eq x bytes) p.1 (ap (bytes_eq x) (sym same) ∙ bytes_refl x),
              );
            }

        by_twin : (o : Option (List ℕ)) → find (is_twin hash bytes) heard ≡ o → option_map (λ earlier. (earlier, bytes)) o ≡ Some pair
            → DoCollide hash messages strings (pair.0) (pair.1)
        by_twin None f g = cc
        by_twin (Some x) f g =
            let same : (let q : List ℕ × List ℕ = (x, bytes) in q) ≡ pair = cc in
            subst (λ (q : List ℕ × List ℕ). DoCollide hash messages strings (q.0) (q.1)) same (of_twin x (found (is_twin hash bytes) heard x f))

    -- so they do whatever comes yet
    abbrev AllCome : ℕ → List (List ℕ) → Type 0
    AllCome n lines =
        (names heard : List (List ℕ)) (taken : List Shown) → filter is_spoken lines ≡ secret_lines strings names → are_different names ≡ true
        → Taken taken names → AreHeard heard → Comes (read_lines hash s heard taken n lines)

    lines_come : (n : ℕ) (lines : List (List ℕ)) → AllCome n lines
    lines_come n [] names heard taken e d t h = at_end (next taken names d t)
      where
        at_end : Ended taken names ⊎ Next taken names → (name : List ℕ) → string_for taken name ≡ string_for strings name
        at_end (inl k) = k.1
        at_end (inr k) = λ name. absurd (no (e ∙ k.lines))
          where
            no : {x : List ℕ} {xs : List (List ℕ)} → [] ≡ x ∷ xs → ⊥
            no f = cc
    lines_come n (line ∷ lines) names heard taken e d t h = by_spoken (is_spoken line) refl e (lines_come (n + 1) lines)
      where
        head_of : {x y : List ℕ} {xs ys : List (List ℕ)} → x ∷ xs ≡ y ∷ ys → x ≡ y
        head_of f = cc

        tail_of : {x y : List ℕ} {xs ys : List (List ℕ)} → x ∷ xs ≡ y ∷ ys → xs ≡ ys
        tail_of f = cc

        some_line : {x : List ℕ} {xs : List (List ℕ)} → x ∷ xs ≡ [] → ⊥
        some_line f = cc

        by_collision : AllCome (n + 1) lines → (k : Next taken names) → filter is_spoken lines ≡ secret_lines strings k.rest → (o : Option (List ℕ × List ℕ))
            → collision_with hash heard k.bytes ≡ o
            → Comes (after_line heard taken n lines (hashed_line hash s (record { line = n; name = k.name; bytes = k.bytes }) o))
        by_collision again k f (Some pair) c = collide heard k.name k.bytes pair h k.has c
        by_collision again k f None c =
            let shown : Shown = record { line = n; name = k.name; bytes = k.bytes } in
            subst (λ (b : Bool). Comes (after_line heard taken n lines (if_fits b shown))) (sym (known k.name k.bytes k.has).fits)
            (again k.rest (noted heard k.bytes) (taken ++ shown ∷ []) f
            (and_parts (not (is_among k.name k.rest)) (are_different k.rest) k.different).1 (one_more taken names k n)
            (noted_heard heard k.name k.bytes h k.has))

        free : (k : Next taken names) → string_for taken k.name ≡ None
        free k = k.left k.name ∙ ap (λ (b : Bool). cond (b || is_among k.name k.rest) None (string_for strings k.name)) (bytes_refl k.name)

        of_secret : AllCome (n + 1) lines → Ended taken names ⊎ Next taken names → line ∷ filter is_spoken lines ≡ secret_lines strings names
            → Comes (after_line heard taken n lines (line_says hash s heard taken n (words_of line)))
        of_secret again (inl k) f = absurd (some_line (f ∙ k.0))
        of_secret again (inr k) f =
            let whole = f ∙ k.lines in
            let fine = known k.name k.bytes k.has in
            subst (λ (l : Line). Comes (after_line heard taken n lines l))
            (sym (ap (λ (x : List ℕ). line_says hash s heard taken n (words_of x)) (head_of whole)
            ∙ secret_said hash s heard taken n k.name k.bytes (named k.name fine.needed) fine (free k)))
            (by_collision again k (tail_of whole) (collision_with hash heard k.bytes) refl)

        by_spoken : (b : Bool) → is_spoken line ≡ b
            → cond b (line ∷ filter is_spoken lines) (filter is_spoken lines) ≡ secret_lines strings names → AllCome (n + 1) lines
            → Comes (after_line heard taken n lines (line_says hash s heard taken n (words_of line)))
        by_spoken true q f again = of_secret again (next taken names d t) f
        by_spoken false q f again =
            subst (λ (l : Line). Comes (after_line heard taken n lines l)) (sym (quiet_line hash s heard taken n (words_of line) q))
            (again names heard taken f d t h)

    -- ---- the whole

    -- nothing is taken yet
    begun : (names : List (List ℕ)) → needed_secrets s.advert ≡ names → Taken [] names
    begun names all name = by_among (is_among name names) refl
      where
        by_string : is_among name names ≡ false → (o : Option (List ℕ)) → string_for strings name ≡ o → None ≡ string_for strings name
        by_string f None e = sym e
        by_string f (Some bytes) e =
            absurd (both_ways _ f (subst (λ ns. is_among name ns ≡ true) all (known name bytes e).needed))

        by_among : (b : Bool) → is_among name names ≡ b → None ≡ cond b None (string_for strings name)
        by_among true f = refl
        by_among false f = by_string f (string_for strings name) refl

    above : (m n : ℕ) → nat_lt m n ≡ true → m < n
    above m n h = grind (arith, nat_tests, h)

    not_above : (m n : ℕ) → nat_lt m n ≡ false → n ≤ m
    not_above m n h = grind (arith, nat_tests, h)

    pub file_gives : (text : List ℕ) → spoken text ≡ secret_lines strings (needed_secrets s.advert)
        → are_different (needed_secrets s.advert) ≡ true → GivesThese hash messages strings text (read_behind hash s messages text)
    file_gives text e d = by_size (nat_lt most_secrets_bytes (length text)) refl
      where
        by_read : (r : SecretsRead) → Comes r → length text ≤ most_secrets_bytes → GivesThese hash messages strings text r
        by_read (shows told) h l = (l, h)
        by_read (refused fault) h l = absurd h
        by_read (collided earlier later) h l = (l, h)

        by_size : (b : Bool) → nat_lt most_secrets_bytes (length text) ≡ b
            → GivesThese hash messages strings text (cond b (refused faults.Size) (read_lines hash s messages [] 1 (lines_of text)))
        by_size true f = (above most_secrets_bytes (length text) f, refl)
        by_size false f =
            by_read (read_lines hash s messages [] 1 (lines_of text))
            (lines_come 1 (lines_of text) (needed_secrets s.advert) messages [] e d (begun (needed_secrets s.advert) refl)
            (λ t i. inl (contains_from_in messages t i)))
            (not_above most_secrets_bytes (length text) f)
