-- The need that a word names.
use Rattle.std.proofs.Common.{◌≡◌, ℕ, List, [], ◌∷◌, ◌++◌, map, Bool, true, false, cond, Option, Some, None}
use Rattle.std.proofs.Common.{refl, ap, ◌∙◌}
use Rattle.std.specs.Prelude.{◌||◌, option_map}
use Rattle.std.specs.List.{find}
use Rattle.std.specs.Str.{bytes_eq}
use Rattle.std.proofs.lemmas.Slice.Eq.{bytes_eq-Decides}
use Rattle.spec_data.specs.Lists.{is_among}
use Rattle.spec_terms.specs.Advert.{Advert}
use Rattle.spec_bitcoin.specs.declared.label.Label.{Label}
use Rattle.spec_bitcoin.specs.Keys.{label_text}
use Rattle.spec_text.specs.Words.{one_of, given}
use Rattle.spec_deal.specs.declared.deal.Needed.{Needed}
use Rattle.spec_deal.specs.declared.deal.Needed.TheVariants as needs
use Rattle.spec_deal.specs.Needed.{needed, needed_labels, needed_deposits, needed_secrets}
use Rattle.spec_deal.specs.DealFile.{label_of_word}
use Rattle.deal_file.specs.Keying.{need_key}
use Rattle.deal_file.specs.Entries.{needed_in}
use Rattle.deal_file.specs.Gives.{found_need}
use Rattle.deal_file.specs.declared.keying.Need.{Need}

abbrev or_found : {A : Type 0} → Option A → Option A → Option A
or_found None later = later
or_found (Some x) later = Some x

find_both : {A : Type 0} (p : A → Bool) (xs ys : List A) → find p (xs ++ ys) ≡ or_found (find p xs) (find p ys)
find_both p [] ys = refl
find_both p (x ∷ xs) ys = by_test (p x) (find_both p xs ys)
  where
    by_test : (b : Bool) → find p (xs ++ ys) ≡ or_found (find p xs) (find p ys)
        → cond b (Some x) (find p (xs ++ ys)) ≡ or_found (cond b (Some x) (find p xs)) (find p ys)
    by_test true h = refl
    by_test false h = h

none_behind : {A : Type 0} (o : Option A) → or_found o None ≡ o
none_behind None = refl
none_behind (Some x) = refl

-- ---- one kind

key_among : (ls : List Label) (w : List ℕ)
    → find (λ what. bytes_eq (need_key what) (75 ∷ w)) (map needs.Key ls) ≡ option_map needs.Key (find (λ l. bytes_eq (label_text l) w) ls)
key_among [] w = refl
key_among (l ∷ ls) w = by_test (bytes_eq (label_text l) w) (key_among ls w)
  where
    by_test : (b : Bool)
        → find (λ what. bytes_eq (need_key what) (75 ∷ w)) (map needs.Key ls) ≡ option_map needs.Key (find (λ l. bytes_eq (label_text l) w) ls)
        → cond b (Some (needs.Key l)) (find (λ what. bytes_eq (need_key what) (75 ∷ w)) (map needs.Key ls))
        ≡ option_map needs.Key (cond b (Some l) (find (λ l. bytes_eq (label_text l) w) ls))
    by_test true h = refl
    by_test false h = h

deposit_among : (ns : List (List ℕ)) (w : List ℕ)
    → find (λ what. bytes_eq (need_key what) (68 ∷ w)) (map needs.Deposit ns) ≡ option_map needs.Deposit (one_of ns w)
deposit_among [] w = refl
deposit_among (n ∷ ns) w = by_test (bytes_eq n w) refl (deposit_among ns w)
  where
    by_test : (b : Bool) → bytes_eq n w ≡ b
        → find (λ what. bytes_eq (need_key what) (68 ∷ w)) (map needs.Deposit ns) ≡ option_map needs.Deposit (one_of ns w)
        → cond b (Some (needs.Deposit n)) (find (λ what. bytes_eq (need_key what) (68 ∷ w)) (map needs.Deposit ns))
        ≡ option_map needs.Deposit (given (b || is_among w ns) w)
    by_test true e h = ap (λ x. Some (needs.Deposit x)) ((bytes_eq-Decides n w).0 e)
    by_test false e h = h

hash_among : (ns : List (List ℕ)) (w : List ℕ)
    → find (λ what. bytes_eq (need_key what) (72 ∷ w)) (map needs.Hash ns) ≡ option_map needs.Hash (one_of ns w)
hash_among [] w = refl
hash_among (n ∷ ns) w = by_test (bytes_eq n w) refl (hash_among ns w)
  where
    by_test : (b : Bool) → bytes_eq n w ≡ b
        → find (λ what. bytes_eq (need_key what) (72 ∷ w)) (map needs.Hash ns) ≡ option_map needs.Hash (one_of ns w)
        → cond b (Some (needs.Hash n)) (find (λ what. bytes_eq (need_key what) (72 ∷ w)) (map needs.Hash ns))
        ≡ option_map needs.Hash (given (b || is_among w ns) w)
    by_test true e h = ap (λ x. Some (needs.Hash x)) ((bytes_eq-Decides n w).0 e)
    by_test false e h = h

-- ---- other kinds

no_key : (k : ℕ) (ls : List Label) (w : List ℕ) → ((l : Label) → bytes_eq (need_key (needs.Key l)) (k ∷ w) ≡ false)
    → find (λ what. bytes_eq (need_key what) (k ∷ w)) (map needs.Key ls) ≡ None
no_key k [] w h = refl
no_key k (l ∷ ls) w h =
    ap (λ b. cond b (Some (needs.Key l)) (find (λ what. bytes_eq (need_key what) (k ∷ w)) (map needs.Key ls))) (h l) ∙ no_key k ls w h

no_deposit : (k : ℕ) (ns : List (List ℕ)) (w : List ℕ) → ((n : List ℕ) → bytes_eq (need_key (needs.Deposit n)) (k ∷ w) ≡ false)
    → find (λ what. bytes_eq (need_key what) (k ∷ w)) (map needs.Deposit ns) ≡ None
no_deposit k [] w h = refl
no_deposit k (n ∷ ns) w h =
    ap (λ b. cond b (Some (needs.Deposit n)) (find (λ what. bytes_eq (need_key what) (k ∷ w)) (map needs.Deposit ns))) (h n)
    ∙ no_deposit k ns w h

no_hash : (k : ℕ) (ns : List (List ℕ)) (w : List ℕ) → ((n : List ℕ) → bytes_eq (need_key (needs.Hash n)) (k ∷ w) ≡ false)
    → find (λ what. bytes_eq (need_key what) (k ∷ w)) (map needs.Hash ns) ≡ None
no_hash k [] w h = refl
no_hash k (n ∷ ns) w h =
    ap (λ b. cond b (Some (needs.Hash n)) (find (λ what. bytes_eq (need_key what) (k ∷ w)) (map needs.Hash ns))) (h n) ∙ no_hash k ns w h

-- ---- among all needs

module _ (advert : Advert) (w : List ℕ) where
  abbrev parts : (k : ℕ) → Option Needed
  parts k =
      or_found (find (λ what. bytes_eq (need_key what) (k ∷ w)) (map needs.Key (needed_labels advert)))
      (or_found (find (λ what. bytes_eq (need_key what) (k ∷ w)) (map needs.Deposit (needed_deposits advert)))
      (find (λ what. bytes_eq (need_key what) (k ∷ w)) (map needs.Hash (needed_secrets advert))))

  in_parts : (k : ℕ) → find (λ what. bytes_eq (need_key what) (k ∷ w)) (needed advert) ≡ parts k
  in_parts k =
      find_both (λ what. bytes_eq (need_key what) (k ∷ w)) (map needs.Key (needed_labels advert))
      (map needs.Deposit (needed_deposits advert) ++ map needs.Hash (needed_secrets advert))
      ∙ ap (or_found (find (λ what. bytes_eq (need_key what) (k ∷ w)) (map needs.Key (needed_labels advert))))
      (find_both (λ what. bytes_eq (need_key what) (k ∷ w)) (map needs.Deposit (needed_deposits advert))
      (map needs.Hash (needed_secrets advert)))

  key_named : find (λ what. bytes_eq (need_key what) (75 ∷ w)) (needed advert) ≡ option_map needs.Key (label_of_word advert w)
  key_named =
      in_parts 75
      ∙ (λ j. or_found (key_among (needed_labels advert) w j)
      (or_found (no_deposit 75 (needed_deposits advert) w (λ n. refl) j) (no_hash 75 (needed_secrets advert) w (λ n. refl) j)))
      ∙ none_behind (option_map needs.Key (label_of_word advert w))

  deposit_named : find (λ what. bytes_eq (need_key what) (68 ∷ w)) (needed advert)
      ≡ option_map needs.Deposit (one_of (needed_deposits advert) w)
  deposit_named =
      in_parts 68
      ∙ (λ j. or_found (no_key 68 (needed_labels advert) w (λ l. refl) j)
      (or_found (deposit_among (needed_deposits advert) w j) (no_hash 68 (needed_secrets advert) w (λ n. refl) j)))
      ∙ none_behind (option_map needs.Deposit (one_of (needed_deposits advert) w))

  hash_named : find (λ what. bytes_eq (need_key what) (72 ∷ w)) (needed advert) ≡ option_map needs.Hash (one_of (needed_secrets advert) w)
  hash_named =
      in_parts 72
      ∙ (λ j. or_found (no_key 72 (needed_labels advert) w (λ l. refl) j)
      (or_found (no_deposit 72 (needed_deposits advert) w (λ n. refl) j) (hash_among (needed_secrets advert) w j)))

pub named_key : (advert : Advert) (ns : List Need) (w : List ℕ) → map needed_in ns ≡ needed advert
    → found_need ns (75 ∷ w) ≡ option_map needs.Key (label_of_word advert w)
named_key advert ns w here = ap (find (λ what. bytes_eq (need_key what) (75 ∷ w))) here ∙ key_named advert w

pub named_deposit : (advert : Advert) (ns : List Need) (w : List ℕ) → map needed_in ns ≡ needed advert
    → found_need ns (68 ∷ w) ≡ option_map needs.Deposit (one_of (needed_deposits advert) w)
named_deposit advert ns w here = ap (find (λ what. bytes_eq (need_key what) (68 ∷ w))) here ∙ deposit_named advert w

pub named_hash : (advert : Advert) (ns : List Need) (w : List ℕ) → map needed_in ns ≡ needed advert
    → found_need ns (72 ∷ w) ≡ option_map needs.Hash (one_of (needed_secrets advert) w)
named_hash advert ns w here = ap (find (λ what. bytes_eq (need_key what) (72 ∷ w))) here ∙ hash_named advert w
