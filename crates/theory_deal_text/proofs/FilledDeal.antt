-- The text of `keys` with its blanks filled in is read as the deal that was filled in.
use Rattle.std.proofs.Common.{◌≡◌, ℕ, ◌+◌, ◌≤◌, ◌<◌, List, [], ◌∷◌, ◌++◌, length, map, Bool, true, false, not, Some, None, Ok}
use Rattle.std.proofs.Common.{refl, sym, ap, subst, ◌∙◌, cond, arith, inl, inr, append_assoc}
use Rattle.std.specs.Prelude.{flat_map, reverse, ◌==◌, ◌&&◌, ◌||◌, nat_lt, Result, Err}
use Rattle.std.specs.Fmt.{decimal}
use Rattle.std.specs.List.{find, AllByRecursion}
use Rattle.std.specs.Option.{option_map}
use Rattle.std.specs.Str.{bytes_eq}
use Rattle.std.proofs.lemmas.Bool.{eq-eqb}
use Rattle.std.proofs.lemmas.Bool.Decides.{nat_tests}
use Rattle.std.proofs.lemmas.List.{reverse-reverse, length-reverse}
use Rattle.spec_data.specs.Digits.{hex_text}
use Rattle.spec_data.specs.Hashes.{IsBytes}
use Rattle.spec_data.specs.Lists.{is_among, or_else}
use Rattle.spec_terms.specs.Advert.{Advert}
use Rattle.spec_terms.specs.Faults.{IsWellFormed}
use Rattle.spec_terms.specs.Parties.{participants}
use Rattle.spec_terms.specs.Precondition.{names_of}
use Rattle.spec_bitcoin.specs.declared.label.Label.{Label}
use Rattle.spec_bitcoin.specs.declared.tx.OutPoint.{OutPoint}
use Rattle.spec_bitcoin.specs.Keys.{label_text}
use Rattle.spec_text.specs.Lines.{lines_of}
use Rattle.spec_text.specs.Words.{◌>>=◌, given, small, digest}
use Rattle.spec_deal.specs.declared.deal.Deal.{Deal}
use Rattle.spec_deal.specs.declared.deal.Needed.{Needed}
use Rattle.spec_deal.specs.declared.deal.Needed.TheVariants as needs
use Rattle.spec_deal.specs.declared.entry.Entry.{Entry}
use Rattle.spec_deal.specs.declared.entry.Value.TheVariants.{Key as key, Place as place, Hash as hash}
use Rattle.spec_deal.specs.declared.fault.DealFault.{DealFault}
use Rattle.spec_deal.specs.declared.fault.DealFault.TheVariants as faults
use Rattle.spec_deal.specs.DealFile.{same_value, is_key, key_of_word, place_of_words, label_of_word, Line, empty, bad, gives}
use Rattle.spec_deal.specs.DealFile.{given_once, with_needed, line_says, read_entries, named_network, file_network}
use Rattle.spec_deal.specs.DealFile.{value_for, place_or_none, hash_or_none, network_given, script_given, wallet_given, with_script, with_key}
use Rattle.spec_deal.specs.DealFile.{deal_of, entry_keys, is_given, is_used, is_missing, first_missing, whole_deal, deal_judged, read_lines, read_deal}
use Rattle.spec_deal.specs.DealText.{keys_text}
use Rattle.spec_deal.specs.Needed.{needed_labels, needed_deposits, needed_secrets, needed, same_needed}
use Rattle.spec_deal.specs.Sizes.{most_deal_bytes}
use Rattle.spec_deal.specs.Verifier.{Verifier}
use Rattle.theory_calculus.specs.Members.{Is_in}
use Rattle.theory_calculus.proofs.Members.{in_left, in_right}
use Rattle.theory_calculus.proofs.Names.{bytes_refl}
use Rattle.theory_script.specs.Keyed.Listed.{PathsInOrder}
use Rattle.theory_text.proofs.Lines.Decimals.{small_back}
use Rattle.theory_deal.specs.SigningOrder.{IsAscending}
use Rattle.theory_play_text.specs.Lines.{Words}
use Rattle.theory_play_text.specs.Printable.{IsNamed}
use Rattle.theory_play_text.proofs.LegalSteps.{by_append}
use Rattle.theory_plan_text.specs.Audit.{IsShownLabel}
use Rattle.theory_plan_text.proofs.AnyLines.{text_of}
use Rattle.theory_deal_text.specs.Filled.{filled, Given, fillings, given_values, IsValue, Fits, given_deal}
use Rattle.theory_deal_text.specs.Filled.{FilledKeysAreTaken}
use Rattle.theory_deal_text.proofs.AskedSlots.{mapped_append}
use Rattle.theory_deal_text.proofs.Ascending.{map_in, ascend_back}
use Rattle.theory_deal_text.proofs.FilledApart.{needed_apart, values_apart}
use Rattle.theory_deal_text.proofs.FilledText.{Gift, of_label, of_deposit, of_secret, what_of, value_of, values_of, words_in, IsGood}
use Rattle.theory_deal_text.proofs.FilledText.{digits_read, reversed, words_back, given_lines, lines_filled}
use Rattle.theory_deal_text.proofs.KeysRead.{written, labels_asked, deposits_known, secrets_known, keys_written}

-- ---- what is given

abbrev gifts : Given → List Gift
gifts g =
    map (λ p. of_label (p.0) (p.1)) g.keys
    ++ (map (λ p. of_deposit (p.0) (p.1)) g.places ++ map (λ p. of_secret (p.0) (p.1)) g.hashes)

twice : {A B C : Type 0} (f : B → C) (g : A → B) (h : A → C) → ((x : A) → f (g x) ≡ h x) → (xs : List A) → map f (map g xs) ≡ map h xs
twice f g h e [] = refl
twice f g h e (x ∷ xs) = λ i. e x i ∷ twice f g h e xs i

-- a map over all of them
over : {B : Type 0} (f : Gift → B) (g : Given)
    → map f (gifts g)
    ≡ map (λ p. f (of_label (p.0) (p.1))) g.keys
    ++ (map (λ p. f (of_deposit (p.0) (p.1))) g.places ++ map (λ p. f (of_secret (p.0) (p.1))) g.hashes)
over f g =
    let keys = map (λ p. of_label (p.0) (p.1)) g.keys in
    let places = map (λ p. of_deposit (p.0) (p.1)) g.places in
    let hashes = map (λ p. of_secret (p.0) (p.1)) g.hashes in
    mapped_append f keys (places ++ hashes)
    ∙ ap (λ ys. map f keys ++ ys) (mapped_append f places hashes)
    ∙ (λ i. twice f (λ p. of_label (p.0) (p.1)) (λ p. f (of_label (p.0) (p.1))) (λ p. refl) g.keys i
    ++ (twice f (λ p. of_deposit (p.0) (p.1)) (λ p. f (of_deposit (p.0) (p.1))) (λ p. refl) g.places i
    ++ twice f (λ p. of_secret (p.0) (p.1)) (λ p. f (of_secret (p.0) (p.1))) (λ p. refl) g.hashes i))

named : {V : Type 0} (f : List ℕ → Needed) (ps : List (List ℕ × V)) → map (λ p. f (p.0)) ps ≡ map f (names_of ps)
named f [] = refl
named f (p ∷ ps) = ap (λ (r : List Needed). f (p.0) ∷ r) (named f ps)

module _ (v : Verifier) (advert : Advert) (well : IsWellFormed advert) (g : Given) (fits : Fits v advert g) where
  whats : map what_of (gifts g) ≡ needed advert
  whats =
      over what_of g
      ∙ (λ i. sym (twice needs.Key (λ (p : Label × List ℕ). p.0) (λ p. needs.Key (p.0)) (λ p. refl) g.keys) i
      ++ (named needs.Deposit g.places i ++ named needs.Hash g.hashes i))
      ∙ (λ i. map needs.Key (fits.labels i) ++ (map needs.Deposit (fits.deposits i) ++ map needs.Hash (fits.secrets i)))

  -- ---- each is good

  front : {X : Type 0} (P : X → Type 0) (xs ys : List X) → AllByRecursion P (xs ++ ys) → AllByRecursion P xs
  front P [] ys h = tt
  front P (x ∷ xs) ys h = (h.0, front P xs ys h.1)

  back : {X : Type 0} (P : X → Type 0) (xs ys : List X) → AllByRecursion P (xs ++ ys) → AllByRecursion P ys
  back P [] ys h = h
  back P (x ∷ xs) ys h = back P xs ys h.1

  good_keys : (ps : List (Label × List ℕ)) → AllByRecursion IsShownLabel (map (λ p. p.0) ps) → AllByRecursion (IsValue v) (map (λ p. key (p.1)) ps)
      → AllByRecursion (IsGood v) (map (λ p. of_label (p.0) (p.1)) ps)
  good_keys [] h k = tt
  good_keys (p ∷ ps) h k = ((h.0, k.0), good_keys ps h.1 k.1)

  good_places : (ps : List (List ℕ × OutPoint)) → AllByRecursion IsNamed (names_of ps) → AllByRecursion (IsValue v) (map (λ p. place (p.1)) ps)
      → AllByRecursion (IsGood v) (map (λ p. of_deposit (p.0) (p.1)) ps)
  good_places [] h k = tt
  good_places (p ∷ ps) h k = ((h.0, k.0), good_places ps h.1 k.1)

  good_hashes : (ps : List (List ℕ × List ℕ)) → AllByRecursion IsNamed (names_of ps) → AllByRecursion (IsValue v) (map (λ p. hash (p.1)) ps)
      → AllByRecursion (IsGood v) (map (λ p. of_secret (p.0) (p.1)) ps)
  good_hashes [] h k = tt
  good_hashes (p ∷ ps) h k = ((h.0, k.0), good_hashes ps h.1 k.1)

  good : AllByRecursion (IsGood v) (gifts g)
  good =
      let keys = map (λ p. key (p.1)) g.keys in
      let places = map (λ p. place (p.1)) g.places in
      let hashes = map (λ p. hash (p.1)) g.hashes in
      let rest = back (IsValue v) keys (places ++ hashes) fits.each in
      by_append (IsGood v) (map (λ p. of_label (p.0) (p.1)) g.keys)
      (map (λ p. of_deposit (p.0) (p.1)) g.places ++ map (λ p. of_secret (p.0) (p.1)) g.hashes)
      (good_keys g.keys (subst (AllByRecursion IsShownLabel) (sym fits.labels) (labels_asked advert well))
      (front (IsValue v) keys (places ++ hashes) fits.each))
      (by_append (IsGood v) (map (λ p. of_deposit (p.0) (p.1)) g.places) (map (λ p. of_secret (p.0) (p.1)) g.hashes)
      (good_places g.places (subst (AllByRecursion IsNamed) (sym fits.deposits) (deposits_known advert well))
      (front (IsValue v) places hashes rest))
      (good_hashes g.hashes (subst (AllByRecursion IsNamed) (sym fits.secrets) (secrets_known advert well))
      (back (IsValue v) places hashes rest)))

  -- ---- none is given twice

  abbrev Apart : Gift → Gift → Type 0
  Apart p q = (same_needed (what_of p) (what_of q) ≡ false) × (same_value (value_of p) (value_of q) ≡ false)

  both : (ps : List Gift) → IsAscending (λ p q. same_needed (what_of p) (what_of q) ≡ false) ps
      → IsAscending (λ p q. same_value (value_of p) (value_of q) ≡ false) ps → IsAscending Apart ps
  both [] h k = tt
  both (p ∷ ps) h k = (λ y i. (h.0 y i, k.0 y i), both ps h.1 k.1)

  apart : PathsInOrder → IsAscending Apart (gifts g)
  apart order =
      both (gifts g)
      (ascend_back (λ a b. same_needed a b ≡ false) what_of (gifts g)
      (subst (IsAscending (λ a b. same_needed a b ≡ false)) (sym whats) (needed_apart order advert well)))
      (ascend_back (λ a b. same_value a b ≡ false) value_of (gifts g)
      (subst (IsAscending (λ a b. same_value a b ≡ false)) (sym (over value_of g)) (values_apart (given_values g) fits.apart)))

  -- ---- a line gives what it says

  abbrev entry : ℕ → Gift → Entry
  entry n p = record { line = n; needed = what_of p; value = value_of p }

  abbrev entries_from : ℕ → List Gift → List Entry
  entries_from n [] = []
  entries_from n (p ∷ ps) = entry n p ∷ entries_from (n + 1) ps

  -- no entry gives the same, or to the same
  abbrev IsNew : List Entry → Gift → Type 0
  IsNew es p =
      (find (λ (x : Entry). same_needed x.needed (what_of p)) es ≡ None) × (find (λ (x : Entry). same_value x.value (value_of p)) es ≡ None)

  -- the contract needs it
  abbrev IsHere : Gift → Type 0
  IsHere (of_label label bytes) = label_of_word advert (label_text label) ≡ Some label
  IsHere (of_deposit name outpoint) = is_among name (needed_deposits advert) ≡ true
  IsHere (of_secret name bytes) = is_among name (needed_secrets advert) ≡ true

  key_read : (bytes : List ℕ) → IsValue v (key bytes) → key_of_word v (hex_text bytes) ≡ Some (key bytes)
  key_read bytes h =
      ap (λ o. o >>= λ b. given (is_key v b) (key b)) (digits_read bytes (some bytes h.1) h.0)
      ∙ ap (λ t. given t (key bytes)) h.1
    where
      some : (bs : List ℕ) → is_key v bs ≡ true → 0 < length bs
      some [] k = cc
      some (b ∷ bs) k = omega arith

  digest_read : (bytes : List ℕ) → IsBytes bytes → length bytes ≡ 32 → digest (hex_text bytes) ≡ Some bytes
  digest_read bytes h size =
      ap (λ o. o >>= λ b. given (length b == 32) b) (digits_read bytes (omega (arith, size)) h)
      ∙ ap (λ t. given t bytes) (eq-eqb (length bytes) 32 size)

  place_read : (outpoint : OutPoint) → IsValue v (place outpoint)
      → place_of_words (hex_text (reverse outpoint.txid)) (decimal outpoint.vout) ≡ Some (place outpoint)
  place_read outpoint h =
      let size = length-reverse outpoint.txid ∙ h.size in
      ap (option_map place)
      (ap (λ o. o >>= λ b. small (decimal outpoint.vout) >>= λ n. Some (record { txid = reverse b; vout = n }))
      (digest_read (reverse outpoint.txid) (reversed outpoint.txid h.txid) size)
      ∙ (ap (λ o. o >>= λ n. Some (record { txid = reverse (reverse outpoint.txid); vout = n })) (small_back outpoint.vout h.vout)
      ∙ ap (λ (t : List ℕ). Some (record { txid = t; vout = outpoint.vout })) (reverse-reverse outpoint.txid)))

  -- a new value to what is needed
  new_given : (es : List Entry) (n : ℕ) (p : Gift) → IsNew es p
      → with_needed es n (Some (what_of p)) (Some (value_of p)) ≡ gives (entry n p)
  new_given es n p h =
      (λ i. given_once (h.0 i) (h.1 i) (entry n p))

  line_gives : (es : List Entry) (n : ℕ) (p : Gift) → IsGood v p → IsHere p → IsNew es p
      → line_says v None advert es n (words_in p) ≡ gives (entry n p)
  line_gives es n (of_label label bytes) fine here new =
      (λ i. with_needed es n (option_map needs.Key (here i)) (key_read bytes fine.1 i)) ∙ new_given es n (of_label label bytes) new
  line_gives es n (of_deposit name outpoint) fine here new =
      (λ i. with_needed es n (option_map needs.Deposit (given (here i) name)) (place_read outpoint fine.1 i))
      ∙ new_given es n (of_deposit name outpoint) new
  line_gives es n (of_secret name bytes) fine here new =
      (λ i. with_needed es n (option_map needs.Hash (given (here i) name)) (option_map hash (digest_read bytes (fine.1).0 (fine.1).1 i)))
      ∙ new_given es n (of_secret name bytes) new

  -- ---- all lines

  none_behind : (p : Entry → Bool) (es : List Entry) (e : Entry) → find p es ≡ None → p e ≡ false → find p (es ++ e ∷ []) ≡ None
  none_behind p [] e h k = ap (λ (b : Bool). cond b (Some e) None) k
  none_behind p (x ∷ es) e h k = by_test (p x) h (λ m. none_behind p es e m k)
    where
      by_test : (b : Bool) → cond b (Some x) (find p es) ≡ None → (find p es ≡ None → find p (es ++ e ∷ []) ≡ None)
          → cond b (Some x) (find p (es ++ e ∷ [])) ≡ None
      by_test true m ih = cc
      by_test false m ih = ih m

  abbrev AllNew : List Entry → List Gift → Type 0
  AllNew es ps = AllByRecursion (IsNew es) ps

  still_new : (es : List Entry) (n : ℕ) (p : Gift) (qs : List Gift) → AllNew es qs → ((q : Gift) → Is_in q qs → Apart p q)
      → AllNew (es ++ entry n p ∷ []) qs
  still_new es n p [] h f = tt
  still_new es n p (q ∷ qs) h f =
      let a = f q (inl refl) in (
        (
          none_behind (λ (x : Entry). same_needed x.needed (what_of q)) es (entry n p) (h.0).0 a.0,
          none_behind (λ (x : Entry). same_value x.value (value_of q)) es (entry n p) (h.0).1 a.1,
        ),
        still_new es n p qs h.1 (λ r i. f r (inr i)),
      )

  read_all : (es : List Entry) (n : ℕ) (ps : List Gift) → AllByRecursion (IsGood v) ps → AllByRecursion IsHere ps → AllNew es ps
      → IsAscending Apart ps
      → read_entries v None advert es n (given_lines v ps) ≡ Ok (es ++ entries_from n ps)
  read_all es n [] fine here new order = ap (λ (x : List Entry). Ok x) (no_more es)
    where
      no_more : (xs : List Entry) → xs ≡ xs ++ []
      no_more [] = refl
      no_more (x ∷ xs) = ap (λ (ys : List Entry). x ∷ ys) (no_more xs)
  read_all es n (p ∷ ps) fine here new order =
      let next : Line → Result (List Entry) DealFault = λ line. elim line [
        | empty ↦ read_entries v None advert es (n + 1) (given_lines v ps)
        | bad reason ↦ Err (faults.Line n reason)
        | gives e ↦ read_entries v None advert (es ++ e ∷ []) (n + 1) (given_lines v ps)
      ] in
      ap (λ (words : Words). next (line_says v None advert es n words)) (words_back v p fine.0)
      ∙ (ap next (line_gives es n p fine.0 here.0 new.0)
      ∙ (read_all (es ++ entry n p ∷ []) (n + 1) ps fine.1 here.1 (still_new es n p ps new.1 order.0) order.1
      ∙ ap (λ (x : List Entry). Ok x) (append_assoc es (entry n p ∷ []) (entries_from (n + 1) ps))))

  -- ---- what the contract needs is found

  label_here : (ls : List Label) → IsAscending (λ a b. same_needed (needs.Key a) (needs.Key b) ≡ false) ls → (l : Label) → Is_in l ls
      → find (λ x. bytes_eq (label_text x) (label_text l)) ls ≡ Some l
  label_here [] h l i = absurd i
  label_here (x ∷ ls) h l (inl e) =
      ap (λ (b : Bool). cond b (Some x) (find (λ y. bytes_eq (label_text y) (label_text l)) ls))
      (ap (λ (y : Label). bytes_eq (label_text x) (label_text y)) e ∙ bytes_refl (label_text x))
      ∙ ap (λ (y : Label). Some y) (sym e)
  label_here (x ∷ ls) h l (inr i) =
      ap (λ (b : Bool). cond b (Some x) (find (λ y. bytes_eq (label_text y) (label_text l)) ls)) (h.0 l i) ∙ label_here ls h.1 l i

  in_names : {V : Type 0} (ps : List (List ℕ × V)) (p : List ℕ × V) → Is_in p ps → is_among (p.0) (names_of ps) ≡ true
  in_names [] p i = absurd i
  in_names {V} (q ∷ ps) p (inl e) =
      ap (λ (b : Bool). b || is_among (p.0) (names_of ps)) (ap (λ (x : List ℕ × V). bytes_eq (q.0) (x.0)) e ∙ bytes_refl (q.0))
  in_names (q ∷ ps) p (inr i) = by_test (bytes_eq (q.0) (p.0)) (in_names ps p i)
    where
      by_test : (b : Bool) → is_among (p.0) (names_of ps) ≡ true → (b || is_among (p.0) (names_of ps)) ≡ true
      by_test true k = refl
      by_test false k = k

  all_by : {X : Type 0} (P : X → Type 0) (xs : List X) → ((x : X) → Is_in x xs → P x) → AllByRecursion P xs
  all_by P [] f = tt
  all_by P (x ∷ xs) f = (f x (inl refl), all_by P xs (λ y i. f y (inr i)))

  through : {X : Type 0} (P : Gift → Type 0) (make : X → Gift) (xs : List X) → AllByRecursion (λ x. P (make x)) xs → AllByRecursion P (map make xs)
  through P make [] h = tt
  through P make (x ∷ xs) h = (h.0, through P make xs h.1)

  front_ascend : {X : Type 0} (R : X → X → Type 0) (xs ys : List X) → IsAscending R (xs ++ ys) → IsAscending R xs
  front_ascend R [] ys h = tt
  front_ascend R (x ∷ xs) ys h = (λ y i. h.0 y (in_left y xs ys i), front_ascend R xs ys h.1)

  labels_once : PathsInOrder → IsAscending (λ a b. same_needed (needs.Key a) (needs.Key b) ≡ false) (needed_labels advert)
  labels_once order =
      ascend_back (λ a b. same_needed a b ≡ false) needs.Key (needed_labels advert)
      (front_ascend (λ a b. same_needed a b ≡ false) (map needs.Key (needed_labels advert))
      (map needs.Deposit (needed_deposits advert) ++ map needs.Hash (needed_secrets advert)) (needed_apart order advert well))

  all_here : PathsInOrder → AllByRecursion IsHere (gifts g)
  all_here order =
      by_append IsHere (map (λ p. of_label (p.0) (p.1)) g.keys)
      (map (λ p. of_deposit (p.0) (p.1)) g.places ++ map (λ p. of_secret (p.0) (p.1)) g.hashes)
      (through IsHere (λ p. of_label (p.0) (p.1)) g.keys
      (all_by (λ (p : Label × List ℕ). label_of_word advert (label_text (p.0)) ≡ Some (p.0)) g.keys
      (λ p i. label_here (needed_labels advert) (labels_once order) (p.0)
      (subst (Is_in (p.0)) fits.labels (map_in (λ (q : Label × List ℕ). q.0) g.keys p i)))))
      (by_append IsHere (map (λ p. of_deposit (p.0) (p.1)) g.places) (map (λ p. of_secret (p.0) (p.1)) g.hashes)
      (through IsHere (λ p. of_deposit (p.0) (p.1)) g.places
      (all_by (λ (p : List ℕ × OutPoint). is_among (p.0) (needed_deposits advert) ≡ true) g.places
      (λ p i. subst (λ (ns : List (List ℕ)). is_among (p.0) ns ≡ true) fits.deposits (in_names g.places p i))))
      (through IsHere (λ p. of_secret (p.0) (p.1)) g.hashes
      (all_by (λ (p : List ℕ × List ℕ). is_among (p.0) (needed_secrets advert) ≡ true) g.hashes
      (λ p i. subst (λ (ns : List (List ℕ)). is_among (p.0) ns ≡ true) fits.secrets (in_names g.hashes p i)))))

  -- ---- the deal

  same_itself : (p : Gift) → same_needed (what_of p) (what_of p) ≡ true
  same_itself (of_label label bytes) = bytes_refl (label_text label)
  same_itself (of_deposit name outpoint) = bytes_refl name
  same_itself (of_secret name bytes) = bytes_refl name

  value_at : (n : ℕ) (ps : List Gift) → IsAscending Apart ps → (p : Gift) → Is_in p ps
      → value_for (entries_from n ps) (what_of p) ≡ Some (value_of p)
  value_at n [] h p i = absurd i
  value_at n (q ∷ ps) h p (inl e) =
      let later = find (λ (x : Entry). same_needed x.needed (what_of p)) (entries_from (n + 1) ps) in
      ap (λ (b : Bool). option_map (λ (x : Entry). x.value) (cond b (Some (entry n q)) later))
      (ap (λ (x : Gift). same_needed (what_of q) (what_of x)) e ∙ same_itself q)
      ∙ ap (λ (x : Gift). Some (value_of x)) (sym e)
  value_at n (q ∷ ps) h p (inr i) =
      let later = find (λ (x : Entry). same_needed x.needed (what_of p)) (entries_from (n + 1) ps) in
      ap (λ (b : Bool). option_map (λ (x : Entry). x.value) (cond b (Some (entry n q)) later)) (h.0 p i).0
      ∙ value_at (n + 1) ps h.1 p i

  given_at : (n : ℕ) (ps : List Gift) (p : Gift) → Is_in p ps → is_given (entries_from n ps) (what_of p) ≡ true
  given_at n [] p i = absurd i
  given_at n (q ∷ ps) p (inl e) =
      ap (λ (b : Bool). b || is_given (entries_from (n + 1) ps) (what_of p))
      (ap (λ (x : Gift). same_needed (what_of q) (what_of x)) e ∙ same_itself q)
  given_at n (q ∷ ps) p (inr i) = by_test (same_needed (what_of q) (what_of p)) (given_at (n + 1) ps p i)
    where
      by_test : (b : Bool) → is_given (entries_from (n + 1) ps) (what_of p) ≡ true
          → (b || is_given (entries_from (n + 1) ps) (what_of p)) ≡ true
      by_test true k = refl
      by_test false k = k

  -- nobody gives a network or where to pay
  no_network : (n : ℕ) (ps : List Gift) → value_for (entries_from n ps) needs.Network ≡ None
  no_network n [] = refl
  no_network n (of_label label bytes ∷ ps) = no_network (n + 1) ps
  no_network n (of_deposit name outpoint ∷ ps) = no_network (n + 1) ps
  no_network n (of_secret name bytes ∷ ps) = no_network (n + 1) ps

  no_payee : (n : ℕ) (ps : List Gift) (party : List ℕ) → value_for (entries_from n ps) (needs.Payee party) ≡ None
  no_payee n [] party = refl
  no_payee n (of_label label bytes ∷ ps) party = no_payee (n + 1) ps party
  no_payee n (of_deposit name outpoint ∷ ps) party = no_payee (n + 1) ps party
  no_payee n (of_secret name bytes ∷ ps) party = no_payee (n + 1) ps party

  module _ (order : PathsInOrder) where
    abbrev entries : List Entry
    entries = entries_from 1 (gifts g)

    none_missing : (ps : List Gift) → ((p : Gift) → Is_in p ps → Is_in p (gifts g))
        → find (is_missing advert (entries_from 1 (gifts g))) (map what_of ps) ≡ None
    none_missing [] f = refl
    none_missing (p ∷ ps) f =
        ap (λ (b : Bool). cond (not b && is_used (entry_keys advert entries) advert (what_of p)) (Some (what_of p))
        (find (is_missing advert entries) (map what_of ps)))
        (given_at 1 (gifts g) p (f p (inl refl)))
        ∙ none_missing ps (λ q i. f q (inr i))

    whole : first_missing advert (entries_from 1 (gifts g)) ≡ None
    whole = ap (find (is_missing advert entries)) (sym whats) ∙ none_missing (gifts g) (λ p i. i)

    value_is : (p : Gift) → Is_in p (gifts g) → value_for (entries_from 1 (gifts g)) (what_of p) ≡ Some (value_of p)
    value_is p i = value_at 1 (gifts g) (apart order) p i

    key_is : (p : Label × List ℕ) → Is_in p g.keys → value_for (entries_from 1 (gifts g)) (needs.Key (p.0)) ≡ Some (key (p.1))
    key_is p i =
        value_is (of_label (p.0) (p.1))
        (in_left (of_label (p.0) (p.1)) (map (λ q. of_label (q.0) (q.1)) g.keys)
        (map (λ q. of_deposit (q.0) (q.1)) g.places ++ map (λ q. of_secret (q.0) (q.1)) g.hashes)
        (map_in (λ (q : Label × List ℕ). of_label (q.0) (q.1)) g.keys p i))

    place_is : (p : List ℕ × OutPoint) → Is_in p g.places → value_for (entries_from 1 (gifts g)) (needs.Deposit (p.0)) ≡ Some (place (p.1))
    place_is p i =
        value_is (of_deposit (p.0) (p.1))
        (in_right (of_deposit (p.0) (p.1)) (map (λ q. of_label (q.0) (q.1)) g.keys)
        (map (λ q. of_deposit (q.0) (q.1)) g.places ++ map (λ q. of_secret (q.0) (q.1)) g.hashes)
        (in_left (of_deposit (p.0) (p.1)) (map (λ q. of_deposit (q.0) (q.1)) g.places) (map (λ q. of_secret (q.0) (q.1)) g.hashes)
        (map_in (λ (q : List ℕ × OutPoint). of_deposit (q.0) (q.1)) g.places p i)))

    hash_is : (p : List ℕ × List ℕ) → Is_in p g.hashes → value_for (entries_from 1 (gifts g)) (needs.Hash (p.0)) ≡ Some (hash (p.1))
    hash_is p i =
        value_is (of_secret (p.0) (p.1))
        (in_right (of_secret (p.0) (p.1)) (map (λ q. of_label (q.0) (q.1)) g.keys)
        (map (λ q. of_deposit (q.0) (q.1)) g.places ++ map (λ q. of_secret (q.0) (q.1)) g.hashes)
        (in_right (of_secret (p.0) (p.1)) (map (λ q. of_deposit (q.0) (q.1)) g.places) (map (λ q. of_secret (q.0) (q.1)) g.hashes)
        (map_in (λ (q : List ℕ × List ℕ). of_secret (q.0) (q.1)) g.hashes p i)))

    keys_are : (ps : List (Label × List ℕ)) → ((p : Label × List ℕ) → Is_in p ps → Is_in p g.keys)
        → flat_map (λ label. with_key label (value_for (entries_from 1 (gifts g)) (needs.Key label))) (map (λ p. p.0) ps) ≡ ps
    keys_are [] f = refl
    keys_are (p ∷ ps) f = λ i. with_key (p.0) (key_is p (f p (inl refl)) i) ++ keys_are ps (λ q j. f q (inr j)) i

    places_are : (ps : List (List ℕ × OutPoint)) → ((p : List ℕ × OutPoint) → Is_in p ps → Is_in p g.places)
        → map (λ name. (name, place_or_none (value_for (entries_from 1 (gifts g)) (needs.Deposit name)))) (names_of ps) ≡ ps
    places_are [] f = refl
    places_are (p ∷ ps) f = λ i. (p.0, place_or_none (place_is p (f p (inl refl)) i)) ∷ places_are ps (λ q j. f q (inr j)) i

    hashes_are : (ps : List (List ℕ × List ℕ)) → ((p : List ℕ × List ℕ) → Is_in p ps → Is_in p g.hashes)
        → map (λ name. (name, hash_or_none (value_for (entries_from 1 (gifts g)) (needs.Hash name)))) (names_of ps) ≡ ps
    hashes_are [] f = refl
    hashes_are (p ∷ ps) f = λ i. (p.0, hash_or_none (hash_is p (f p (inl refl)) i)) ∷ hashes_are ps (λ q j. f q (inr j)) i

    no_wallets : (ps : List (List ℕ × OutPoint)) → ((p : List ℕ × OutPoint) → Is_in p ps → Is_in p g.places)
        → flat_map (λ name. with_script name (wallet_given (value_for (entries_from 1 (gifts g)) (needs.Deposit name)))) (names_of ps) ≡ []
    no_wallets [] f = refl
    no_wallets (p ∷ ps) f = λ i. with_script (p.0) (wallet_given (place_is p (f p (inl refl)) i)) ++ no_wallets ps (λ q j. f q (inr j)) i

    no_payees : (parties : List (List ℕ))
        → flat_map (λ party. with_script party (script_given (value_for (entries_from 1 (gifts g)) (needs.Payee party)))) parties ≡ []
    no_payees [] = refl
    no_payees (party ∷ parties) = λ i. with_script party (script_given (no_payee 1 (gifts g) party i)) ++ no_payees parties i

    deal_is : deal_of advert (entries_from 1 (gifts g)) ≡ given_deal g
    deal_is = λ i. record {
      keys = (ap (flat_map (λ label. with_key label (value_for entries (needs.Key label)))) (sym fits.labels) ∙ keys_are g.keys (λ p j. j)) i;
      deposits = (ap (map (λ name. (name, place_or_none (value_for entries (needs.Deposit name))))) (sym fits.deposits) ∙ places_are g.places (λ p j. j)) i;
      hashes = (ap (map (λ name. (name, hash_or_none (value_for entries (needs.Hash name))))) (sym fits.secrets) ∙ hashes_are g.hashes (λ p j. j)) i;
      network = network_given (no_network 1 (gifts g) i);
      wallets = (ap (flat_map (λ name. with_script name (wallet_given (value_for entries (needs.Deposit name))))) (sym fits.deposits) ∙ no_wallets g.places (λ p j. j)) i;
      payees = no_payees (participants advert) i;
    }

    -- ---- the text

    filled_lines_are : lines_of (filled (fillings g) (keys_text advert)) ≡ given_lines v (gifts g)
    filled_lines_are =
        (λ i. lines_of (filled (sym (over values_of g) i) ((keys_written advert well ∙ ap (text_of written) (sym whats)) i)))
        ∙ lines_filled v (gifts g) good

    no_name : (p : Gift) → named_network (words_in p) ≡ None
    no_name (of_label label bytes) = refl
    no_name (of_deposit name outpoint) = refl
    no_name (of_secret name bytes) = refl

    no_names : (ps : List Gift) → AllByRecursion (IsGood v) ps → file_network (given_lines v ps) ≡ None
    no_names [] h = refl
    no_names (p ∷ ps) h =
        (λ i. or_else (named_network (words_back v p h.0 i)) (no_names ps h.1 i)) ∙ ap (λ o. or_else o None) (no_name p)

    new_all : (ps : List Gift) → AllNew [] ps
    new_all [] = tt
    new_all (p ∷ ps) = ((refl, refl), new_all ps)

    lines_read : read_lines v advert (given_lines v (gifts g)) ≡ Ok (entries_from 1 (gifts g))
    lines_read =
        ap (λ o. read_entries v o advert [] 1 (given_lines v (gifts g))) (no_names (gifts g) good)
        ∙ read_all [] 1 (gifts g) good (all_here order) (new_all (gifts g)) (apart order)

    taken : length (filled (fillings g) (keys_text advert)) ≤ most_deal_bytes
        → read_deal v advert (filled (fillings g) (keys_text advert)) ≡ Ok (given_deal g)
    taken few =
        let text = filled (fillings g) (keys_text advert) in
        let within : nat_lt most_deal_bytes (length text) ≡ false = grind (arith, nat_tests, few) in
        ap (λ (b : Bool). cond b (Err faults.Size) (deal_judged advert (read_lines v advert (lines_of text)))) within
        ∙ (ap (λ (ls : List (List ℕ)). deal_judged advert (read_lines v advert ls)) filled_lines_are
        ∙ (ap (deal_judged advert) lines_read
        ∙ (ap (whole_deal advert (entries_from 1 (gifts g))) whole
        ∙ ap (λ (d : Deal). Ok d) deal_is)))

pub filled_keys : PathsInOrder → FilledKeysAreTaken
filled_keys order v advert g well fits few = taken v advert well g fits order few
