-- Strings of a file whose hashes are those of the file's own lines: each is that which the first line of its name offers.
use Rattle.std.proofs.Common.{◌≡◌, ℕ, List, [], ◌∷◌, ◌++◌, Bool, true, false, cond, Option, Some, None}
use Rattle.std.proofs.Common.{refl, sym, ap, subst, ◌∙◌}
use Rattle.std.specs.Prelude.{if◌then◌else◌, option_map, codes}
use Rattle.std.specs.List.{find, flat_map}
use Rattle.std.specs.Option.{option_map_or}
use Rattle.std.specs.Str.{bytes_eq}
use Rattle.std.proofs.lemmas.Slice.Eq.{bytes_eq-Decides}
use Rattle.spec_data.specs.Digits.{read_hex}
use Rattle.spec_data.specs.Lists.{is_among}
use Rattle.spec_data.specs.Messages.{collision_with}
use Rattle.spec_terms.specs.Advert.{Advert}
use Rattle.spec_compiler.specs.Keyed.Instance.{Instance}
use Rattle.spec_compiler.specs.Scripts.{digest_of}
use Rattle.spec_text.specs.Lines.{lines_of, words_of}
use Rattle.spec_deal.specs.declared.entry.Shown.{Shown}
use Rattle.spec_deal.specs.declared.fault.SecretReason.TheVariants as reasons
use Rattle.spec_deal.specs.HashesText.{offered_by, offered, offering}
use Rattle.spec_deal.specs.Needed.{needed_secrets, deal_contract}
use Rattle.spec_deal.specs.SecretFile.{Line, empty, bad, collides, gives, has_length, if_fits, hashed_line, if_new, with_bytes, named_line}
use Rattle.spec_deal.specs.SecretFile.{secret_line, state_words, line_says}
use Rattle.deal_secrets.specs.Gives.{Added}
use Rattle.deal_secrets.specs.Offers.{string_of, shown_at, JudgesLine, IsWanted}

-- ---- what a line offers

abbrev offer_of : (List ℕ → List ℕ) → Shown → List (List ℕ × List ℕ)
offer_of hash x = (x.name, hash x.bytes) ∷ []

by_word : (hash : List ℕ → List ℕ) (n : ℕ) (name : List ℕ) (b : Bool) (o : Option (List ℕ))
    → (if b then option_map_or (λ bytes. offer_of hash (string_of n name bytes)) o [] else [])
    ≡ option_map_or (offer_of hash)
    (if b then option_map (string_of n name) o else None) []
by_word hash n name true None = refl
by_word hash n name true (Some bytes) = refl
by_word hash n name false o = refl

pub offers : (hash : List ℕ → List ℕ) (n : ℕ) (words : List (List ℕ))
    → offered_by hash words ≡ option_map_or (offer_of hash) (shown_at n words) []
offers hash n [] = refl
offers hash n (word ∷ []) = refl
offers hash n (word ∷ (name ∷ [])) = refl
offers hash n (word ∷ (name ∷ (hex ∷ []))) = by_word hash n name (bytes_eq word (codes "secret")) (read_hex hex)
offers hash n (word ∷ (name ∷ (hex ∷ (more ∷ words)))) = refl

-- ---- what a line gives is what it offers

abbrev Agrees : Line → Option Shown → Type 0
Agrees empty o = o ≡ None
Agrees (gives shown) o = o ≡ Some shown
Agrees (bad reason) o = Unit {0}
Agrees (collides earlier later) o = Unit {0}

-- no line of a string begins with such a word
no_offer : (n : ℕ) (word : List ℕ) (words : List (List ℕ)) → is_among word state_words ≡ true → shown_at n (word ∷ words) ≡ None
no_offer n word [] e = refl
no_offer n word (name ∷ []) e = refl
no_offer n word (name ∷ (hex ∷ [])) e = by_test (bytes_eq word (codes "secret")) refl
  where
    by_test : (b : Bool) → bytes_eq word (codes "secret") ≡ b
        → (if b then option_map (string_of n name) (read_hex hex) else None) ≡ None
    by_test true h =
        let same : word ≡ codes "secret" = (bytes_eq-Decides word (codes "secret")).0 h in
        let never : is_among (codes "secret") state_words ≡ true = subst (λ (w : List ℕ). is_among w state_words ≡ true) same e in
        cc
    by_test false h = refl
no_offer n word (name ∷ (hex ∷ (more ∷ words))) e = refl

module _ (hash : List ℕ → List ℕ) (s : Instance) (messages : List (List ℕ)) (taken : List Shown) (n : ℕ) where
  fitting : (b : Bool) (shown : Shown) → Agrees (if_fits b shown) (Some shown)
  fitting true shown = refl
  fitting false shown = tt

  hashed : (shown : Shown) (o : Option (List ℕ × List ℕ)) → Agrees (hashed_line hash s shown o) (Some shown)
  hashed shown None = fitting (bytes_eq (hash shown.bytes) (digest_of s.hashes shown.name)) shown
  hashed shown (Some pair) = tt

  long : (shown : Shown) (b : Bool)
      → Agrees (if b then hashed_line hash s shown (collision_with hash messages shown.bytes) else bad reasons.Length) (Some shown)
  long shown true = hashed shown (collision_with hash messages shown.bytes)
  long shown false = tt

  fresh_one : (shown : Shown) (o : Option Shown) → Agrees (if_new hash s messages shown o) (Some shown)
  fresh_one shown None = long shown (has_length shown.bytes)
  fresh_one shown (Some earlier) = tt

  spelled : (name : List ℕ) (o : Option (List ℕ))
      → Agrees (with_bytes hash s messages taken n name o) (option_map (string_of n name) o)
  spelled name None = tt
  spelled name (Some bytes) =
      fresh_one (string_of n name bytes) (find (λ (x : Shown). bytes_eq x.name name) taken)

  named : (name : List ℕ) (o : Option (List ℕ)) (b : Bool)
      → Agrees (if b then with_bytes hash s messages taken n name o else bad reasons.Foreign)
      (option_map (string_of n name) o)
  named name o true = spelled name o
  named name o false = tt

  worded : (name hex : List ℕ) (b : Bool)
      → Agrees (if b then named_line hash s messages taken n name hex else bad reasons.Form)
      (if b then option_map (string_of n name) (read_hex hex) else None)
  worded name hex true = named name (read_hex hex) (is_among name (needed_secrets s.advert))
  worded name hex false = tt

  secret_agrees : (words : List (List ℕ)) → Agrees (secret_line hash s messages taken n words) (shown_at n words)
  secret_agrees [] = tt
  secret_agrees (word ∷ []) = tt
  secret_agrees (word ∷ (name ∷ [])) = tt
  secret_agrees (word ∷ (name ∷ (hex ∷ []))) = worded name hex (bytes_eq word (codes "secret"))
  secret_agrees (word ∷ (name ∷ (hex ∷ (more ∷ words)))) = tt

  agrees : (words : List (List ℕ)) → Agrees (line_says hash s messages taken n words) (shown_at n words)
  agrees [] = refl
  agrees (word ∷ words) = by_test (is_among word state_words) refl
    where
      by_test : (b : Bool) → is_among word state_words ≡ b
          → Agrees (if b then empty else secret_line hash s messages taken n (word ∷ words)) (shown_at n (word ∷ words))
      by_test true e = no_offer n word words e
      by_test false e = secret_agrees (word ∷ words)

-- ---- strings that no line has given yet

abbrev pub is_named : List ℕ → Shown → Bool
is_named name x = bytes_eq x.name name

-- none of these is of this name, and the last isn't
none_behind : (name : List ℕ) (xs : List Shown) (x : Shown) → find (is_named name) (xs ++ x ∷ []) ≡ None
    → (find (is_named name) xs ≡ None) × (is_named name x ≡ false)
none_behind name [] x e = by_test (is_named name x) e
  where
    by_test : (b : Bool) → cond b (Some x) (find (is_named name) []) ≡ None → (find (is_named name) [] ≡ None) × (b ≡ false)
    by_test true h = cc
    by_test false h = (refl, refl)
none_behind name (y ∷ ys) x e = by_test (is_named name y) e (none_behind name ys x)
  where
    by_test : (b : Bool) → cond b (Some y) (find (is_named name) (ys ++ x ∷ [])) ≡ None
        → (find (is_named name) (ys ++ x ∷ []) ≡ None → (find (is_named name) ys ≡ None) × (is_named name x ≡ false))
        → (cond b (Some y) (find (is_named name) ys) ≡ None) × (is_named name x ≡ false)
    by_test true h go = cc
    by_test false h go = go h

-- of such a name the file offers what its rest does
abbrev pub Fresh : (List ℕ → List ℕ) → List Shown → List ℕ → List ℕ → Type 0
Fresh hash taken text rest =
    (name : List ℕ) → find (is_named name) taken ≡ None → digest_of (offered hash text) name ≡ digest_of (offered hash rest) name

offered_here : (hash : List ℕ → List ℕ) (n : ℕ) (rest more line : List ℕ) → lines_of rest ≡ line ∷ lines_of more
    → offered hash rest ≡ option_map_or (offer_of hash) (shown_at n (words_of line)) [] ++ offered hash more
offered_here hash n rest more line here =
    ap (flat_map (λ line. offered_by hash (words_of line))) here
    ∙ ap (λ offer. offer ++ offered hash more) (offers hash n (words_of line))

module _ (hash : List ℕ → List ℕ) (taken : List Shown) (n : ℕ) (text rest more line : List ℕ) (here : lines_of rest ≡ line ∷ lines_of more)
    (fresh : Fresh hash taken text rest) where
  -- a string of the next line has the digest that the file offers
  first_offer : (shown : Shown) → Some shown ≡ shown_at n (words_of line) → find (is_named shown.name) taken ≡ None
      → digest_of (offered hash text) shown.name ≡ hash shown.bytes
  first_offer shown is none =
      fresh shown.name none
      ∙ ap (λ offers. digest_of offers shown.name) (offered_here hash n rest more line here)
      ∙ ap (λ o. digest_of (option_map_or (offer_of hash) o [] ++ offered hash more) shown.name) (sym is)
      ∙ ap (λ b. if b then hash shown.bytes else digest_of (offered hash more) shown.name)
      ((bytes_eq-Decides shown.name shown.name).1 refl)

  -- so it fits where the deal has the file's own hashes, or these
  pub judged : (s : Instance) (wanted : Option (List (List ℕ × List ℕ))) → IsWanted hash s wanted text
      → JudgesLine hash s wanted taken n (words_of line)
  judged s None is shown at none =
      sym
      (ap (λ hashes. bytes_eq (hash shown.bytes) (digest_of hashes shown.name)) is
      ∙ ap (bytes_eq (hash shown.bytes)) (first_offer shown at none)
      ∙ (bytes_eq-Decides (hash shown.bytes) (hash shown.bytes)).1 refl)
  judged s (Some hashes) is shown at none = ap (λ hashes. bytes_eq (hash shown.bytes) (digest_of hashes shown.name)) (sym is)

  -- behind a line that is taken
  pub still_fresh : (s : Instance) (messages after : List (List ℕ)) (new : List Shown)
      → Added messages after taken new (line_says hash s messages taken n (words_of line)) → Fresh hash new text more
  still_fresh s messages after new added = by_line (line_says hash s messages taken n (words_of line)) added (agrees hash s messages taken n (words_of line))
    where
      by_line : (says : Line) → Added messages after taken new says → Agrees says (shown_at n (words_of line)) → Fresh hash new text more
      by_line empty add is name none =
          fresh name (ap (find (is_named name)) (sym (add.1)) ∙ none)
          ∙ ap (λ offers. digest_of offers name) (offered_here hash n rest more line here)
          ∙ ap (λ o. digest_of (option_map_or (offer_of hash) o [] ++ offered hash more) name) is
      by_line (gives shown) add is name none =
          let parts = none_behind name taken shown (ap (find (is_named name)) (sym (add.1)) ∙ none) in
          fresh name parts.0
          ∙ ap (λ offers. digest_of offers name) (offered_here hash n rest more line here)
          ∙ ap (λ o. digest_of (option_map_or (offer_of hash) o [] ++ offered hash more) name) is
          ∙ ap (λ b. if b then hash shown.bytes else digest_of (offered hash more) name) parts.1
      by_line (bad reason) add is name none = absurd add
      by_line (collides earlier later) add is name none = absurd add

-- a deal that has these hashes, or the file's own
abbrev pub some_deal : (List ℕ → List ℕ) → Advert → Option (List (List ℕ × List ℕ)) → List ℕ → Instance
some_deal hash advert None text = offering hash advert text
some_deal hash advert (Some hashes) text = record { contract = deal_contract; advert = advert; bound = []; hashes = hashes }

pub deal_wanted : (hash : List ℕ → List ℕ) (advert : Advert) (wanted : Option (List (List ℕ × List ℕ))) (text : List ℕ)
    → ((some_deal hash advert wanted text).advert ≡ advert) × IsWanted hash (some_deal hash advert wanted text) wanted text
deal_wanted hash advert None text = (refl, refl)
deal_wanted hash advert (Some hashes) text = (refl, refl)
