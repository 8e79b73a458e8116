-- A deal file comes to what its lines come to, and to the first thing that no line gives.
use Rattle.std.proofs.Common.{◌≡◌, ℕ, ◌+◌, ◌<◌, ◌≤◌, List, [], ◌∷◌, ◌++◌, length, map, Bool, true, false, not, Option, Some, None, refl, sym, ap, subst, ◌∙◌, cond, arith, inl, inr}
use Rattle.std.specs.Prelude.{Decides, nat_lt, Result, Ok, Err, ◌&&◌, is_some, codes}
use Rattle.std.specs.List.{find, list_all, flat_map}
use Rattle.std.specs.Option.{option_map}
use Rattle.std.specs.Str.{bytes_eq}
use Rattle.std.proofs.lemmas.Bool.{and_parts, and_from}
use Rattle.std.proofs.lemmas.Bool.Decides.{nat_tests, Decides-and, Decides-like}
use Rattle.std.proofs.lemmas.Slice.Eq.{bytes_eq-Decides}
use Rattle.spec_data.specs.Lists.{or_else}
use Rattle.spec_terms.specs.Advert.{Advert}
use Rattle.spec_terms.specs.Parties.{participants}
use Rattle.spec_bitcoin.specs.declared.tx.OutPoint.{OutPoint}
use Rattle.spec_text.specs.Words.{given}
use Rattle.spec_address.specs.Address.{is_hrp}
use Rattle.spec_bitcoin.specs.declared.label.Label.{Label}
use Rattle.spec_text.specs.Lines.{lines_of, words_of}
use Rattle.spec_deal.specs.declared.deal.Deal.{Deal}
use Rattle.spec_deal.specs.declared.deal.Needed.{Needed}
use Rattle.spec_deal.specs.declared.deal.Needed.TheVariants as needs
use Rattle.spec_deal.specs.declared.entry.Value.{Value}
use Rattle.spec_deal.specs.declared.entry.Value.TheVariants.{Key as key, Place as place, Wallet as wallet, Hash as hash}
use Rattle.spec_deal.specs.declared.entry.Value.TheVariants.{Network as hrp, Script as script}
use Rattle.spec_deal.specs.declared.entry.Entry.{Entry}
use Rattle.spec_deal.specs.declared.fault.DealReason.{DealReason}
use Rattle.spec_deal.specs.declared.fault.DealFault.{DealFault}
use Rattle.spec_deal.specs.declared.fault.DealFault.TheVariants as faults
use Rattle.spec_deal.specs.Sizes.{most_deal_bytes}
use Rattle.spec_deal.specs.Needed.{needed, needed_labels, needed_deposits, needed_secrets, same_needed}
use Rattle.spec_deal.specs.Verifier.{Verifier}
use Rattle.spec_deal.specs.DealFile.{Line, empty, bad, gives, line_says, read_entries, value_for, key_or_none, place_or_none, hash_or_none}
use Rattle.spec_deal.specs.DealFile.{named_network, file_network, network_given, script_given, wallet_given, with_script, with_key}
use Rattle.spec_deal.specs.DealFile.{deal_of, entry_keys, is_given, is_used, is_missing, first_missing, whole_deal, deal_judged}
use Rattle.spec_deal.specs.DealFile.{read_lines, read_deal, read_part}
use Rattle.theory_deal.specs.FirstOf.{NoneIs, IsFirst}
use Rattle.theory_deal.specs.DealLines.{GivesTo, entry_in, EntriesCome, SaysNetwork, NamesOne, IsFileNetwork, IsGiven, IsMissing}
use Rattle.theory_deal.specs.DealLines.{IsPlaced, IsBrought, ArePairs, AreSome, IsOfNetwork, IsWhole, DealOf, PartIs, DealIs}
use Rattle.theory_deal.specs.DealLines.{DealFilesAreRead, PartsAreRead}
use Rattle.theory_deal.proofs.FirstOf.{refuted, is_false, none_found, none_finds, found_first, first_found, none_any}
use Rattle.theory_deal.proofs.DealLines.{gives_to, to_decides, EntrySays, entry_said, new_entry_said, bad_entry_said}
use Rattle.theory_deal.proofs.ReadDeals.{AllFit, ReadFits, entries_fit, IsValue, value_there, given_some, the_value, key_value, hash_value}
use Rattle.theory_deal.proofs.ReadDeals.{IsDepositValue, deposit_value, network_value, payee_value, deposits_given, secrets_given}

-- ---- lines

module _ (v : Verifier) (network : Option (List ℕ)) (advert : Advert) where
  -- what comes of a line that says this
  abbrev goes_on : List Entry → ℕ → List (List ℕ) → Line → Result (List Entry) DealFault
  goes_on entries n lines says = elim says [
    | empty ↦ read_entries v network advert entries (n + 1) lines
    | bad reason ↦ Err (faults.Line n reason)
    | gives e ↦ read_entries v network advert (entries ++ e ∷ []) (n + 1) lines
  ]

  pub entries_come : (entries : List Entry) (n : ℕ) (lines : List (List ℕ))
      → EntriesCome v network advert entries n lines (read_entries v network advert entries n lines)
  entries_come entries n [] = refl
  entries_come entries n (line ∷ lines) =
      by_line (line_says v network advert entries n (words_of line)) (entry_said v network advert entries n (words_of line))
      (λ es. entries_come es (n + 1) lines)
    where
      by_line : (says : Line) → EntrySays v network advert entries n (words_of line) says
          → ((es : List Entry) → EntriesCome v network advert es (n + 1) lines (read_entries v network advert es (n + 1) lines))
          → EntriesCome v network advert entries n (line ∷ lines) (goes_on entries n lines says)
      by_line empty k later = inl (k, later entries)
      by_line (bad reason) k later = inr (inr (reason, k, refl))
      by_line (gives e) k later =
          let same : e ≡ entry_in n e.needed e.value = λ i. record { line = k.0 i; needed = e.needed; value = e.value } in
          inr (inl (
            e.needed,
            e.value,
            k.1,
            subst (λ (x : Entry). EntriesCome v network advert (entries ++ x ∷ []) (n + 1) lines
                (read_entries v network advert (entries ++ e ∷ []) (n + 1) lines)) same
                (later (entries ++ e ∷ [])),
          ))

  entries_read : (entries : List Entry) (n : ℕ) (lines : List (List ℕ)) (read : Result (List Entry) DealFault)
      → EntriesCome v network advert entries n lines read → read_entries v network advert entries n lines ≡ read
  entries_read entries n [] read h = sym h
  entries_read entries n (line ∷ lines) read (inl h) =
      ap (λ words. goes_on entries n lines (line_says v network advert entries n words)) h.0
      ∙ entries_read entries (n + 1) lines read h.1
  entries_read entries n (line ∷ lines) read (inr (inl h)) =
      ap (goes_on entries n lines) (new_entry_said v network advert entries n (words_of line) h.0 h.1 h.2)
      ∙ entries_read (entries ++ entry_in n h.0 h.1 ∷ []) (n + 1) lines read h.3
  entries_read entries n (line ∷ lines) read (inr (inr h)) =
      ap (goes_on entries n lines) (bad_entry_said v network advert entries n (words_of line) h.0 h.1) ∙ sym h.2

-- ---- the network

named_decides : (line : List ℕ) → Decides (is_some (named_network (words_of line))) (NamesOne line)
named_decides line = by_words (words_of line) refl
  where
    by_test : (word part : List ℕ) (b : Bool) → (bytes_eq word (codes "network") && is_hrp part) ≡ b → words_of line ≡ word ∷ part ∷ []
        → Decides (is_some (given b part)) (NamesOne line)
    by_test word part true e w =
        let p = and_parts (bytes_eq word (codes "network")) (is_hrp part) e in
        let first : word ≡ codes "network" = (bytes_eq-Decides word (codes "network")).0 p.0 in (
          λ h. (part, record { said = w ∙ ap (λ (x : List ℕ). x ∷ part ∷ []) first; good = p.1 }),
          λ h. refl,
        )
    by_test word part false e w = (
      λ h. cc,
      λ h.
          let same : word ∷ part ∷ [] ≡ codes "network" ∷ h.0 ∷ [] = sym w ∙ h.1.said in
          let first : word ≡ codes "network" = cc in
          let second : part ≡ h.0 = cc in
          let yes : (bytes_eq word (codes "network") && is_hrp part) ≡ true =
          and_from (bytes_eq word (codes "network")) (is_hrp part) ((bytes_eq-Decides word (codes "network")).1 first)
          (ap is_hrp second ∙ h.1.good) in
          cc,
    )

    other : (words : List (List ℕ)) → words_of line ≡ words → ((word part : List ℕ) → words ≡ word ∷ part ∷ [] → ⊥) → NamesOne line → ⊥
    other words w no_two h = no_two (codes "network") h.0 (sym w ∙ h.1.said)

    by_words : (words : List (List ℕ)) → words_of line ≡ words → Decides (is_some (named_network words)) (NamesOne line)
    by_words [] w = (λ h. cc, λ h. absurd (other [] w (λ word part e. cc) h))
    by_words (word ∷ []) w = (λ h. cc, λ h. absurd (other (word ∷ []) w (λ x part e. cc) h))
    by_words (word ∷ (part ∷ [])) w = by_test word part (bytes_eq word (codes "network") && is_hrp part) refl w
    by_words (word ∷ (part ∷ (next ∷ words))) w = (λ h. cc, λ h. absurd (other (word ∷ part ∷ next ∷ words) w (λ x y e. cc) h))

-- what the words of a line name
named_is : (line part : List ℕ) → named_network (words_of line) ≡ Some part → SaysNetwork part line
named_is line part e = by_words (words_of line) refl e
  where
    by_test : (word other : List ℕ) (b : Bool) → (bytes_eq word (codes "network") && is_hrp other) ≡ b
        → words_of line ≡ word ∷ other ∷ [] → given b other ≡ Some part → SaysNetwork part line
    by_test word other false t w k = cc
    by_test word other true t w k =
        let p = and_parts (bytes_eq word (codes "network")) (is_hrp other) t in
        let first : word ≡ codes "network" = (bytes_eq-Decides word (codes "network")).0 p.0 in
        let same : other ≡ part = cc in
        record { said = w ∙ (λ i. first i ∷ same i ∷ []); good = ap is_hrp (sym same) ∙ p.1 }

    by_words : (words : List (List ℕ)) → words_of line ≡ words → named_network words ≡ Some part → SaysNetwork part line
    by_words [] w k = cc
    by_words (word ∷ []) w k = cc
    by_words (word ∷ (other ∷ [])) w k = by_test word other (bytes_eq word (codes "network") && is_hrp other) refl w k
    by_words (word ∷ (other ∷ (next ∷ words))) w k = cc

is_named : (line part : List ℕ) → SaysNetwork part line → named_network (words_of line) ≡ Some part
is_named line part h =
    ap named_network h.said ∙ ap (λ (b : Bool). given b part) (and_from true (is_hrp part) refl h.good)

no_name : (line : List ℕ) → (NamesOne line → ⊥) → named_network (words_of line) ≡ None
no_name line h = by_value (named_network (words_of line)) (is_false (is_some (named_network (words_of line))) (named_decides line) h)
  where
    by_value : (o : Option (List ℕ)) → is_some o ≡ false → o ≡ None
    by_value None e = refl
    by_value (Some part) e = cc

network_is : (lines : List (List ℕ)) → IsFileNetwork lines (file_network lines)
network_is [] = tt
network_is (line ∷ lines) = by_line (named_network (words_of line)) refl (file_network lines) (network_is lines)
  where
    by_rest : (none : NamesOne line → ⊥) (o : Option (List ℕ)) → IsFileNetwork lines o → IsFileNetwork (line ∷ lines) o
    by_rest none None h = (none, h)
    by_rest none (Some part) h = (h.0, inr (none, h.1), h.2)

    by_line : (o : Option (List ℕ)) → named_network (words_of line) ≡ o → (q : Option (List ℕ)) → IsFileNetwork lines q
        → IsFileNetwork (line ∷ lines) (or_else o q)
    by_line (Some part) e q h = let says = named_is line part e in (line, inl ((part, says), refl), says)
    by_line None e q h =
        by_rest (refuted (is_some (named_network (words_of line))) (named_decides line) (ap (λ (o : Option (List ℕ)). is_some o) e)) q h

-- and it is no other
network_only : (lines : List (List ℕ)) (network : Option (List ℕ)) → IsFileNetwork lines network → file_network lines ≡ network
network_only [] None h = refl
network_only [] (Some part) h = absurd h.1
network_only (line ∷ lines) None h =
    ap (λ (o : Option (List ℕ)). or_else o (file_network lines)) (no_name line h.0) ∙ network_only lines None h.1
network_only (line ∷ lines) (Some part) (first, inl h, says) =
    ap (λ (o : Option (List ℕ)). or_else o (file_network lines))
    (is_named line part (subst (SaysNetwork part) (sym h.1) says))
network_only (line ∷ lines) (Some part) (first, inr h, says) =
    ap (λ (o : Option (List ℕ)). or_else o (file_network lines)) (no_name line h.0)
    ∙ network_only lines (Some part) (first, h.1, says)

-- ---- what is given and what is missing

none_decides : (entries : List Entry) (what : Needed) → Decides (not (is_given entries what)) (NoneIs (GivesTo what) entries)
none_decides entries what = none_any (gives_to what) (GivesTo what) (to_decides what) entries

missing_decides : (advert : Advert) (entries : List Entry) (what : Needed)
    → Decides (is_missing advert entries what) (IsMissing advert entries what)
missing_decides advert entries what =
    Decides-like (is_missing advert entries what) (λ h. record { none = h.0; used = h.1 }) (λ (m : IsMissing advert entries what). (m.none, m.used))
    (Decides-and (not (is_given entries what)) (is_used (entry_keys advert entries) advert what) (none_decides entries what)
    (λ e. e, λ e. e))

module _ {X Y : Type 0} (f : X → Y) (R : X → Y → Type 0) where
  pairs_of : (t : X → Bool) → ((x : X) → t x ≡ true → R x (f x)) → (xs : List X) → list_all t xs ≡ true
      → ArePairs R xs (map (λ x. (x, f x)) xs)
  pairs_of t each [] h = refl
  pairs_of t each (x ∷ xs) h =
      let p = and_parts (t x) (list_all t xs) h in
      (f x, map (λ y. (y, f y)) xs, refl, each x p.0, pairs_of t each xs p.1)

  pairs_are : ((x : X) (y : Y) → R x y → f x ≡ y) → (xs : List X) (pairs : List (X × Y)) → ArePairs R xs pairs
      → map (λ x. (x, f x)) xs ≡ pairs
  pairs_are same [] pairs h = sym h
  pairs_are same (x ∷ xs) pairs h =
      let first = same x h.0 h.3 in
      let others = pairs_are same xs h.1 h.4 in
      (λ i. (x, first i) ∷ others i) ∙ sym h.2

-- what was found is given
value_is : (v : Verifier) (entries : List Entry) (what : Needed) (value : Value) → IsValue v entries what value → IsGiven entries what value
value_is v entries what value r =
    (r.entry, found_first (gives_to what) (GivesTo what) (to_decides what) entries r.entry r.finds, r.same)

-- and what is given is found
found_is : (entries : List Entry) (what : Needed) (value : Value) → IsGiven entries what value → value_for entries what ≡ Some value
found_is entries what value h =
    ap (option_map (λ (e : Entry). e.value)) (first_found (gives_to what) (GivesTo what) (to_decides what) entries h.0 h.1)
    ∙ ap (λ (x : Value). Some x) h.2

module _ {X Y : Type 0} (f : X → List (X × Y)) (R : X → Y → Type 0) where
  -- the pair that is made of one, or none
  abbrev OneOrNone : X → List (X × Y) → Type 0
  OneOrNone x [] = (y : Y) → R x y → ⊥
  OneOrNone x (p ∷ []) = (p.0 ≡ x) × R x p.1
  OneOrNone x (p ∷ (q ∷ ps)) = ⊥

  some_of : ((x : X) → OneOrNone x (f x)) → (xs : List X) → AreSome R xs (flat_map f xs)
  some_of each [] = refl
  some_of each (x ∷ xs) = by_one (f x) (each x) (flat_map f xs) (some_of each xs)
    where
      by_one : (ps : List (X × Y)) → OneOrNone x ps → (rest : List (X × Y)) → AreSome R xs rest → AreSome R (x ∷ xs) (ps ++ rest)
      by_one [] h rest k = inr (h, k)
      by_one (p ∷ []) h rest k = inl (p.1, rest, ap (λ (z : X). (z, p.1) ∷ rest) h.0, h.1, k)
      by_one (p ∷ (q ∷ ps)) h rest k = absurd h

  some_are : ((x : X) (y : Y) → R x y → f x ≡ (x, y) ∷ []) → ((x : X) → ((y : Y) → R x y → ⊥) → f x ≡ []) → (xs : List X) (pairs : List (X × Y))
      → AreSome R xs pairs → flat_map f xs ≡ pairs
  some_are one none [] pairs h = sym h
  some_are one none (x ∷ xs) pairs (inl h) =
      let first = one x h.0 h.3 in
      let others = some_are one none xs h.1 h.4 in
      (λ i. first i ++ others i) ∙ sym h.2
  some_are one none (x ∷ xs) pairs (inr h) =
      let first = none x h.0 in
      let others = some_are one none xs pairs h.1 in
      λ i. first i ++ others i

-- ---- the parts of a deal

none_some : {A : Type 0} (value : A) → None ≡ Some value → ⊥
none_some value e = cc

module _ (v : Verifier) (advert : Advert) (entries : List Entry) (all : AllFit v entries) where
  key_given : (label : Label)
      → OneOrNone (λ l. with_key l (value_for entries (needs.Key l))) (λ l bytes. IsGiven entries (needs.Key l) (key bytes)) label
      (with_key label (value_for entries (needs.Key label)))
  key_given label = by_value (value_for entries (needs.Key label)) refl
    where
      by_value : (o : Option Value) → value_for entries (needs.Key label) ≡ o
          → OneOrNone (λ l. with_key l (value_for entries (needs.Key l))) (λ l bytes. IsGiven entries (needs.Key l) (key bytes)) label
          (with_key label o)
      by_value None e = λ bytes g. none_some (key bytes) (sym e ∙ found_is entries (needs.Key label) (key bytes) g)
      by_value (Some value) e =
          let r = value_there v entries all (needs.Key label) value e in
          let k = key_value v label r.entry.needed value r.of_it r.fitting in (
            refl,
            subst (IsGiven entries (needs.Key label)) (k.1 ∙ ap (λ (x : Value). key (key_or_none (Some x))) (sym k.1))
                (value_is v entries (needs.Key label) value r),
          )

  place_given : (name : List ℕ) → is_given entries (needs.Deposit name) ≡ true
      → IsPlaced entries name (place_or_none (value_for entries (needs.Deposit name)))
  place_given name h =
      let x = the_value (value_for entries (needs.Deposit name)) (given_some entries (needs.Deposit name) h) in
      let r = value_there v entries all (needs.Deposit name) x.0 x.1 in
      subst (λ (o : Option Value). IsPlaced entries name (place_or_none o)) (sym x.1)
      (by_kind x.0 (value_is v entries (needs.Deposit name) x.0 r) (deposit_value v name r.entry.needed x.0 r.of_it r.fitting))
    where
      by_kind : (value : Value) → IsGiven entries (needs.Deposit name) value → IsDepositValue v value
          → IsPlaced entries name (place_or_none (Some value))
      by_kind value g (inl k) =
          inl (subst (IsGiven entries (needs.Deposit name)) (k.1 ∙ ap (λ (x : Value). place (place_or_none (Some x))) (sym k.1)) g)
      by_kind value g (inr k) = inr (
        k.1,
        subst (IsGiven entries (needs.Deposit name)) (k.2 ∙ ap (λ (x : Value). wallet (place_or_none (Some x)) k.1) (sym k.2)) g,
      )

  wallet_there : (name : List ℕ)
      → OneOrNone (λ n. with_script n (wallet_given (value_for entries (needs.Deposit n)))) (IsBrought entries) name
      (with_script name (wallet_given (value_for entries (needs.Deposit name))))
  wallet_there name = by_value (value_for entries (needs.Deposit name)) refl
    where
      abbrev_is : List (List ℕ × List ℕ) → Type 0
      abbrev_is ps = OneOrNone (λ n. with_script n (wallet_given (value_for entries (needs.Deposit n)))) (IsBrought entries) name ps

      other : (outpoint place_there : OutPoint) (own : List ℕ) → place place_there ≡ wallet outpoint own → ⊥
      other outpoint place_there own e = cc

      some_is : (a b : Value) → Some a ≡ Some b → a ≡ b
      some_is a b e = cc

      by_kind : (value : Value) → value_for entries (needs.Deposit name) ≡ Some value → IsGiven entries (needs.Deposit name) value
          → IsDepositValue v value → abbrev_is (with_script name (wallet_given (Some value)))
      by_kind value e g (inl k) =
          subst (λ (x : Value). abbrev_is (with_script name (wallet_given (Some x)))) (sym k.1)
          (λ own b.
          other b.0 k.0 own
          (some_is (place k.0) (wallet b.0 own)
          (ap (λ (x : Value). Some x) (sym k.1) ∙ sym e ∙ found_is entries (needs.Deposit name) (wallet b.0 own) b.1)))
      by_kind value e g (inr k) =
          subst (λ (x : Value). abbrev_is (with_script name (wallet_given (Some x)))) (sym k.2)
          (refl, (k.0, subst (IsGiven entries (needs.Deposit name)) k.2 g))

      by_value : (o : Option Value) → value_for entries (needs.Deposit name) ≡ o → abbrev_is (with_script name (wallet_given o))
      by_value None e = λ own b. none_some (wallet b.0 own) (sym e ∙ found_is entries (needs.Deposit name) (wallet b.0 own) b.1)
      by_value (Some value) e =
          let r = value_there v entries all (needs.Deposit name) value e in
          by_kind value e (value_is v entries (needs.Deposit name) value r) (deposit_value v name r.entry.needed value r.of_it r.fitting)

  hash_given : (name : List ℕ) → is_given entries (needs.Hash name) ≡ true
      → IsGiven entries (needs.Hash name) (hash (hash_or_none (value_for entries (needs.Hash name))))
  hash_given name h =
      let x = the_value (value_for entries (needs.Hash name)) (given_some entries (needs.Hash name) h) in
      let r = value_there v entries all (needs.Hash name) x.0 x.1 in
      let k = hash_value v name r.entry.needed x.0 r.of_it r.fitting in
      subst (IsGiven entries (needs.Hash name)) (k.1 ∙ ap (λ (y : Value). hash (hash_or_none (Some y))) (sym k.1)
      ∙ ap (λ (o : Option Value). hash (hash_or_none o)) (sym x.1)) (value_is v entries (needs.Hash name) x.0 r)

  network_there : IsOfNetwork entries (network_given (value_for entries needs.Network))
  network_there = by_value (value_for entries needs.Network) refl
    where
      by_value : (o : Option Value) → value_for entries needs.Network ≡ o → IsOfNetwork entries (network_given o)
      by_value None e = λ part g. none_some (hrp part) (sym e ∙ found_is entries needs.Network (hrp part) g)
      by_value (Some value) e =
          let r = value_there v entries all needs.Network value e in
          let k = network_value v r.entry.needed value r.of_it r.fitting in
          subst (λ (x : Value). IsOfNetwork entries (network_given (Some x))) (sym k.1)
          (subst (IsGiven entries needs.Network) k.1 (value_is v entries needs.Network value r))

  payee_there : (party : List ℕ)
      → OneOrNone (λ n. with_script n (script_given (value_for entries (needs.Payee n))))
      (λ n bytes. IsGiven entries (needs.Payee n) (script bytes)) party
      (with_script party (script_given (value_for entries (needs.Payee party))))
  payee_there party = by_value (value_for entries (needs.Payee party)) refl
    where
      abbrev_is : List (List ℕ × List ℕ) → Type 0
      abbrev_is ps =
          OneOrNone (λ n. with_script n (script_given (value_for entries (needs.Payee n))))
          (λ n bytes. IsGiven entries (needs.Payee n) (script bytes)) party ps

      by_value : (o : Option Value) → value_for entries (needs.Payee party) ≡ o → abbrev_is (with_script party (script_given o))
      by_value None e = λ bytes g. none_some (script bytes) (sym e ∙ found_is entries (needs.Payee party) (script bytes) g)
      by_value (Some value) e =
          let r = value_there v entries all (needs.Payee party) value e in
          let k = payee_value v party r.entry.needed value r.of_it r.fitting in
          subst (λ (x : Value). abbrev_is (with_script party (script_given (Some x)))) (sym k.1)
          (refl, subst (IsGiven entries (needs.Payee party)) k.1 (value_is v entries (needs.Payee party) value r))

-- ---- the deal

whole : (v : Verifier) (advert : Advert) (entries : List Entry) → AllFit v entries → first_missing advert entries ≡ None
    → IsWhole advert entries (deal_of advert entries)
whole v advert entries all none = record {
  none =
      none_found (is_missing advert entries) (IsMissing advert entries) (missing_decides advert entries) (needed advert) none;
  keys =
      some_of (λ label. with_key label (value_for entries (needs.Key label)))
      (λ label bytes. IsGiven entries (needs.Key label) (key bytes)) (key_given v advert entries all) (needed_labels advert);
  deposits =
      pairs_of (λ name. place_or_none (value_for entries (needs.Deposit name))) (IsPlaced entries)
      (λ name. is_given entries (needs.Deposit name)) (place_given v advert entries all) (needed_deposits advert)
      (deposits_given v advert entries all none);
  wallets =
      some_of (λ name. with_script name (wallet_given (value_for entries (needs.Deposit name)))) (IsBrought entries)
      (wallet_there v advert entries all) (needed_deposits advert);
  hashes =
      pairs_of (λ name. hash_or_none (value_for entries (needs.Hash name)))
      (λ name bytes. IsGiven entries (needs.Hash name) (hash bytes)) (λ name. is_given entries (needs.Hash name))
      (hash_given v advert entries all) (needed_secrets advert) (secrets_given v advert entries all none);
  network = network_there v advert entries all;
  payees =
      some_of (λ party. with_script party (script_given (value_for entries (needs.Payee party))))
      (λ party bytes. IsGiven entries (needs.Payee party) (script bytes)) (payee_there v advert entries all) (participants advert);
}

-- an option without what it may have
no_value : (v : Verifier) (entries : List Entry) → AllFit v entries → (label : Label)
    → ((bytes : List ℕ) → IsGiven entries (needs.Key label) (key bytes) → ⊥) → with_key label (value_for entries (needs.Key label)) ≡ []
no_value v entries all label none = by_value (value_for entries (needs.Key label)) refl
  where
    by_value : (o : Option Value) → value_for entries (needs.Key label) ≡ o → with_key label o ≡ []
    by_value None e = refl
    by_value (Some value) e =
        let r = value_there v entries all (needs.Key label) value e in
        let k = key_value v label r.entry.needed value r.of_it r.fitting in
        absurd (none k.0 (subst (IsGiven entries (needs.Key label)) k.1 (value_is v entries (needs.Key label) value r)))

no_wallet : (v : Verifier) (entries : List Entry) → AllFit v entries → (name : List ℕ)
    → ((own : List ℕ) → IsBrought entries name own → ⊥) → with_script name (wallet_given (value_for entries (needs.Deposit name))) ≡ []
no_wallet v entries all name none = by_value (value_for entries (needs.Deposit name)) refl
  where
    by_kind : (value : Value) → IsGiven entries (needs.Deposit name) value → IsDepositValue v value
        → with_script name (wallet_given (Some value)) ≡ []
    by_kind value g (inl k) = ap (λ (x : Value). with_script name (wallet_given (Some x))) k.1
    by_kind value g (inr k) = absurd (none k.1 (k.0, subst (IsGiven entries (needs.Deposit name)) k.2 g))

    by_value : (o : Option Value) → value_for entries (needs.Deposit name) ≡ o → with_script name (wallet_given o) ≡ []
    by_value None e = refl
    by_value (Some value) e =
        let r = value_there v entries all (needs.Deposit name) value e in
        by_kind value (value_is v entries (needs.Deposit name) value r) (deposit_value v name r.entry.needed value r.of_it r.fitting)

no_payee : (v : Verifier) (entries : List Entry) → AllFit v entries → (party : List ℕ)
    → ((bytes : List ℕ) → IsGiven entries (needs.Payee party) (script bytes) → ⊥)
    → with_script party (script_given (value_for entries (needs.Payee party))) ≡ []
no_payee v entries all party none = by_value (value_for entries (needs.Payee party)) refl
  where
    by_value : (o : Option Value) → value_for entries (needs.Payee party) ≡ o → with_script party (script_given o) ≡ []
    by_value None e = refl
    by_value (Some value) e =
        let r = value_there v entries all (needs.Payee party) value e in
        let k = payee_value v party r.entry.needed value r.of_it r.fitting in
        absurd (none k.0 (subst (IsGiven entries (needs.Payee party)) k.1 (value_is v entries (needs.Payee party) value r)))

network_same : (v : Verifier) (entries : List Entry) → AllFit v entries → (network : Option (List ℕ)) → IsOfNetwork entries network
    → network_given (value_for entries needs.Network) ≡ network
network_same v entries all (Some part) h =
    ap network_given (found_is entries needs.Network (hrp part) h)
network_same v entries all None h = by_value (value_for entries needs.Network) refl
  where
    by_value : (o : Option Value) → value_for entries needs.Network ≡ o → network_given o ≡ None
    by_value None e = refl
    by_value (Some value) e =
        let r = value_there v entries all needs.Network value e in
        let k = network_value v r.entry.needed value r.of_it r.fitting in
        absurd (h k.0 (subst (IsGiven entries needs.Network) k.1 (value_is v entries needs.Network value r)))

place_same : (entries : List Entry) (name : List ℕ) (outpoint : OutPoint) → IsPlaced entries name outpoint
    → place_or_none (value_for entries (needs.Deposit name)) ≡ outpoint
place_same entries name outpoint (inl g) = ap place_or_none (found_is entries (needs.Deposit name) (place outpoint) g)
place_same entries name outpoint (inr g) = ap place_or_none (found_is entries (needs.Deposit name) (wallet outpoint g.0) g.1)

whole_is : (v : Verifier) (advert : Advert) (entries : List Entry) (deal : Deal) → AllFit v entries → IsWhole advert entries deal
    → deal_of advert entries ≡ deal
whole_is v advert entries deal all h =
    let ks = some_are (λ label. with_key label (value_for entries (needs.Key label)))
    (λ label bytes. IsGiven entries (needs.Key label) (key bytes))
    (λ label bytes g. ap (with_key label) (found_is entries (needs.Key label) (key bytes) g)) (no_value v entries all)
    (needed_labels advert) deal.keys h.keys in
    let ds = pairs_are (λ name. place_or_none (value_for entries (needs.Deposit name))) (IsPlaced entries) (place_same entries)
    (needed_deposits advert) deal.deposits h.deposits in
    let hs = pairs_are (λ name. hash_or_none (value_for entries (needs.Hash name)))
    (λ name bytes. IsGiven entries (needs.Hash name) (hash bytes))
    (λ name bytes g. ap hash_or_none (found_is entries (needs.Hash name) (hash bytes) g)) (needed_secrets advert) deal.hashes h.hashes in
    let ws = some_are (λ name. with_script name (wallet_given (value_for entries (needs.Deposit name)))) (IsBrought entries)
    (λ name own b.
    ap (λ (o : Option Value). with_script name (wallet_given o)) (found_is entries (needs.Deposit name) (wallet b.0 own) b.1))
    (no_wallet v entries all) (needed_deposits advert) deal.wallets h.wallets in
    let ps = some_are (λ party. with_script party (script_given (value_for entries (needs.Payee party))))
    (λ party bytes. IsGiven entries (needs.Payee party) (script bytes))
    (λ party bytes g.
    ap (λ (o : Option Value). with_script party (script_given o)) (found_is entries (needs.Payee party) (script bytes) g))
    (no_payee v entries all) (participants advert) deal.payees h.payees in
    let n = network_same v entries all deal.network h.network in
    λ i. record { keys = ks i; deposits = ds i; hashes = hs i; network = n i; wallets = ws i; payees = ps i }

-- ---- files

lt_from : (m n : ℕ) → nat_lt m n ≡ true → m < n
lt_from m n h = grind (arith, nat_tests)

lt_true : (m n : ℕ) → m < n → nat_lt m n ≡ true
lt_true m n h = grind (arith, nat_tests)

not_lt : (m n : ℕ) → nat_lt m n ≡ false → n ≤ m
not_lt m n h = grind (arith, nat_tests)

lt_false : (m n : ℕ) → n ≤ m → nat_lt m n ≡ false
lt_false m n h = grind (arith, nat_tests)

abbrev unless_long : {R : Type 0} → Result R DealFault → Bool → Result R DealFault
unless_long read b = cond b (Err faults.Size) read

module _ (v : Verifier) (advert : Advert) (text : List ℕ) where
  abbrev entries_of : Result (List Entry) DealFault
  entries_of = read_lines v advert (lines_of text)

  -- the lines come to what they are read as, in the file's network
  part_is : PartIs v advert text (read_part v advert text)
  part_is = by_size (nat_lt most_deal_bytes (length text)) refl
    where
      by_size : (b : Bool) → nat_lt most_deal_bytes (length text) ≡ b → PartIs v advert text (unless_long (read_lines v advert (lines_of text)) b)
      by_size true e = inl (lt_from most_deal_bytes (length text) e, refl)
      by_size false e = inr (
        not_lt most_deal_bytes (length text) e,
        (
          file_network (lines_of text),
          network_is (lines_of text),
          entries_come v (file_network (lines_of text)) advert [] 1 (lines_of text),
        ),
      )

  part_read : (read : Result (List Entry) DealFault) → PartIs v advert text read → read_part v advert text ≡ read
  part_read read (inl h) = ap (unless_long entries_of) (lt_true most_deal_bytes (length text) h.0) ∙ sym h.1
  part_read read (inr h) =
      ap (unless_long entries_of) (lt_false most_deal_bytes (length text) h.0)
      ∙ ap (λ (n : Option (List ℕ)). read_entries v n advert [] 1 (lines_of text)) (network_only (lines_of text) h.1.0 h.1.1)
      ∙ entries_read v h.1.0 advert [] 1 (lines_of text) read h.1.2

  -- a deal is what its part comes to
  deal_of_part : read_deal v advert text ≡ deal_judged advert (read_part v advert text)
  deal_of_part = by_size (nat_lt most_deal_bytes (length text))
    where
      by_size : (b : Bool)
          → unless_long (deal_judged advert (read_lines v advert (lines_of text))) b
          ≡ deal_judged advert (unless_long (read_lines v advert (lines_of text)) b)
      by_size true = refl
      by_size false = refl

  -- entries that were read fit
  part_fits : (entries : List Entry) → read_part v advert text ≡ Ok entries → AllFit v entries
  part_fits entries e = by_size (nat_lt most_deal_bytes (length text)) e
    where
      by_size : (b : Bool) → unless_long (read_lines v advert (lines_of text)) b ≡ Ok entries → AllFit v entries
      by_size true k = cc
      by_size false k =
          subst (ReadFits v (file_network (lines_of text)) advert) k
          (entries_fit v (file_network (lines_of text)) advert [] 1 (lines_of text) refl)

  module _ (read : Result Deal DealFault) where
    by_missing : (entries : List Entry) (o : Option Needed) → AllFit v entries → first_missing advert entries ≡ o
        → whole_deal advert entries o ≡ read → DealOf advert entries read
    by_missing entries None all none k = inl (deal_of advert entries, whole v advert entries all none, sym k)
    by_missing entries (Some what) all first k = inr (
      what,
      found_first (is_missing advert entries) (IsMissing advert entries) (missing_decides advert entries) (needed advert) what first,
      sym k,
    )

    by_part : (r : Result (List Entry) DealFault) → read_part v advert text ≡ r → deal_judged advert r ≡ read → DealIs v advert text read
    by_part (Err fault) e k = inl (fault, subst (PartIs v advert text) e part_is, sym k)
    by_part (Ok entries) e k = inr (
      entries,
      subst (PartIs v advert text) e part_is,
      by_missing entries (first_missing advert entries) (part_fits entries e) refl k,
    )

    deal_is : (entries : List Entry) → AllFit v entries → DealOf advert entries read
        → whole_deal advert entries (first_missing advert entries) ≡ read
    deal_is entries all (inl h) =
        ap (whole_deal advert entries)
        (none_finds (is_missing advert entries) (IsMissing advert entries) (missing_decides advert entries) (needed advert) h.1.none)
        ∙ ap (λ (d : Deal). Ok d) (whole_is v advert entries h.0 all h.1)
        ∙ sym h.2
    deal_is entries all (inr h) =
        ap (whole_deal advert entries)
        (first_found (is_missing advert entries) (IsMissing advert entries) (missing_decides advert entries) (needed advert) h.0 h.1)
        ∙ sym h.2

    back : DealIs v advert text read → read_deal v advert text ≡ read
    back (inl h) = deal_of_part ∙ ap (deal_judged advert) (part_read (Err h.0) h.1) ∙ sym h.2
    back (inr h) =
        let e = part_read (Ok h.0) h.1 in
        deal_of_part ∙ ap (deal_judged advert) e ∙ deal_is h.0 (part_fits h.0 e) h.2

pub parts_are_read : PartsAreRead
parts_are_read v advert text read =
    (λ e. subst (PartIs v advert text) e (part_is v advert text), part_read v advert text read)

pub deal_files_are_read : DealFilesAreRead
deal_files_are_read v advert text read = (
  λ e. by_part v advert text read (read_part v advert text) refl (sym (deal_of_part v advert text) ∙ e),
  back v advert text read,
)
