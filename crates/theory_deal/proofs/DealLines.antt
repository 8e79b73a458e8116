-- What a line of a deal file says, by the words that it has.
use Rattle.std.proofs.Common.{◌≡◌, ℕ, ◌+◌, ◌<◌, List, [], ◌∷◌, length, Bool, true, false, Option, Some, None, refl, sym, ap, subst, ◌∙◌, cond, arith, inl, inr}
use Rattle.std.specs.Prelude.{Decides, ◌⊎◌, ◌↔◌, ◌^◌, ◌&&◌, ◌||◌, ◌==◌, codes, reverse}
use Rattle.std.specs.Fmt.{decimal}
use Rattle.std.specs.List.{find}
use Rattle.std.specs.Option.{option_map}
use Rattle.std.specs.Str.{bytes_eq}
use Rattle.std.proofs.lemmas.Bool.{and_parts, and_from, false≢true}
use Rattle.std.proofs.lemmas.Bool.Decides.{Decides-and, Decides-or, Decides-eqb, Decides-like}
use Rattle.std.proofs.lemmas.Slice.Eq.{bytes_eq-Decides}
use Rattle.spec_data.specs.Digits.{read_hex}
use Rattle.spec_data.specs.Lists.{is_among}
use Rattle.spec_data.specs.Lists.{or_else}
use Rattle.spec_terms.specs.Advert.{Advert}
use Rattle.spec_terms.specs.Parties.{participants}
use Rattle.spec_bitcoin.specs.declared.label.Label.{Label}
use Rattle.spec_bitcoin.specs.declared.tx.OutPoint.{OutPoint}
use Rattle.spec_bitcoin.specs.Keys.{label_text}
use Rattle.spec_bitcoin.specs.Live.{same_outpoint}
use Rattle.spec_text.specs.Words.{◌>>=◌, given, small, one_of, digest}
use Rattle.spec_address.specs.Address.{is_hrp, read_address}
use Rattle.spec_deal.specs.Payable.{is_payable, pays_to_wallet}
use Rattle.spec_deal.specs.declared.deal.Needed.{Needed}
use Rattle.spec_deal.specs.declared.deal.Needed.TheVariants as needs
use Rattle.spec_deal.specs.declared.entry.Value.{Value}
use Rattle.spec_deal.specs.declared.entry.Value.TheVariants.{Key as key, Place as place, Wallet as wallet, Hash as hash}
use Rattle.spec_deal.specs.declared.entry.Value.TheVariants.{Network as hrp, Script as script}
use Rattle.spec_deal.specs.declared.entry.Entry.{Entry}
use Rattle.spec_deal.specs.declared.fault.DealReason.{DealReason}
use Rattle.spec_deal.specs.declared.fault.DealReason.TheVariants as reasons
use Rattle.spec_deal.specs.Needed.{needed_labels, needed_deposits, needed_secrets, same_needed}
use Rattle.spec_deal.specs.Verifier.{Verifier}
use Rattle.spec_deal.specs.DealFile.{same_value}
use Rattle.spec_deal.specs.DealFile.{is_compressed, is_key, key_of_word, outpoint_of_words, place_of_words, hash_of_word, label_of_word}
use Rattle.spec_deal.specs.DealFile.{network_of_word, spelled_script, wallet_of_words, payee_of_word}
use Rattle.spec_deal.specs.DealFile.{Line, empty, bad, gives, given_once, with_value, with_needed, key_line, deposit_line, hash_line}
use Rattle.spec_deal.specs.DealFile.{network_line, payee_line, line_says}
use Rattle.theory_text.proofs.Lines.Decimals.{number_word, number_less, small_back}
use Rattle.theory_deal.specs.FirstOf.{NoneIs, IsFirst}
use Rattle.theory_deal.specs.DealLines.{HasText, NamesKey, NamesDeposit, NamesHash, IsCompressed, SpellsKey, SpellsDigest, SpellsNumber}
use Rattle.theory_deal.specs.DealLines.{NamesNetwork, NamesPayee, SpellsOutpoint, SpellsPlace, SpellsHash, SpellsNetwork, SpellsScript}
use Rattle.theory_deal.specs.DealLines.{SpellsWallet, SpellsPayee, IsSame, IsShared, GivesTo, GivesValue, GivesNew, GivesBad, AsLine}
use Rattle.theory_deal.specs.DealLines.{GivesEntry, IsNoEntry, IsBadEntry, entry_in}
use Rattle.theory_deal.proofs.FirstOf.{refuted, is_false, none_found, none_finds, found_first, first_found}

-- ---- what an option has

some_same : {A : Type 0} {a b : A} → Some a ≡ Some b → a ≡ b
some_same e = cc

module _ {A : Type 0} where
  -- it has exactly what passes
  abbrev IsFound : (A → Type 0) → Option A → Type 0
  IsFound P o = (x : A) → (o ≡ Some x) ↔ P x

  nothing_found : (P : A → Type 0) (o : Option A) → IsFound P o → o ≡ None → (x : A) → P x → ⊥
  nothing_found P o f e x h = none x (sym e ∙ (f x).1 h)
    where
      none : (y : A) → None ≡ Some y → ⊥
      none y k = cc

  found_nothing : (P : A → Type 0) (o : Option A) → IsFound P o → ((x : A) → P x → ⊥) → o ≡ None
  found_nothing P None f none = refl
  found_nothing P (Some x) f none = absurd (none x ((f x).0 refl))

-- ---- values

digest_found : (word : List ℕ) → IsFound (SpellsDigest word) (digest word)
digest_found word bytes = (
  by_hex (read_hex word) refl,
  λ h.
      ap (λ (o : Option (List ℕ)). o >>= λ bs. given (length bs == 32) bs) h.0
      ∙ ap (λ (b : Bool). given b bytes) ((Decides-eqb (length bytes) 32).1 h.1),
)
  where
    by_size : (bs : List ℕ) (b : Bool) → read_hex word ≡ Some bs → (length bs == 32) ≡ b → given b bs ≡ Some bytes
        → SpellsDigest word bytes
    by_size bs false e s m = cc
    by_size bs true e s m =
        (e ∙ m, ap (λ (xs : List ℕ). length xs) (sym (some_same m)) ∙ (Decides-eqb (length bs) 32).0 s)

    by_hex : (o : Option (List ℕ)) → read_hex word ≡ o → (o >>= λ bs. given (length bs == 32) bs) ≡ Some bytes
        → SpellsDigest word bytes
    by_hex None e k = cc
    by_hex (Some bs) e k = by_size bs (length bs == 32) e refl k

number_found : (word : List ℕ) → IsFound (SpellsNumber word) (small word)
number_found word n = (
  λ e. (sym (number_word (2 ^ 32) word n (omega arith) e), number_less (2 ^ 32) word n e),
  λ h. ap small h.0 ∙ small_back n h.1,
)

pub compressed : (bytes : List ℕ) → Decides (is_compressed bytes) (IsCompressed bytes)
compressed [] = (λ e. absurd (false≢true e), λ h. absurd (none h.0 h.1))
  where
    none : (rest : List ℕ) → ([] ≡ 2 ∷ rest) ⊎ ([] ≡ 3 ∷ rest) → ⊥
    none rest (inl e) = cc
    none rest (inr e) = cc
compressed (b ∷ bytes) =
    Decides-like (is_compressed (b ∷ bytes)) to from
    (Decides-and (b == 2 || b == 3) (length (b ∷ bytes) == 33)
    (Decides-or (b == 2) (b == 3) (Decides-eqb b 2) (Decides-eqb b 3)) (Decides-eqb (length (b ∷ bytes)) 33))
  where
    first : (b ≡ 2) ⊎ (b ≡ 3) → (b ∷ bytes ≡ 2 ∷ bytes) ⊎ (b ∷ bytes ≡ 3 ∷ bytes)
    first (inl e) = inl (ap (λ (x : ℕ). x ∷ bytes) e)
    first (inr e) = inr (ap (λ (x : ℕ). x ∷ bytes) e)

    to : ((b ≡ 2) ⊎ (b ≡ 3)) × (length (b ∷ bytes) ≡ 33) → IsCompressed (b ∷ bytes)
    to h = (bytes, first h.0, (let k = h.1 in omega (arith, k)))

    size : (rest : List ℕ) → bytes ≡ rest → length rest ≡ 32 → length (b ∷ bytes) ≡ 33
    size rest e k = let m : length bytes ≡ 32 = ap (λ (xs : List ℕ). length xs) e ∙ k in omega (arith, m)

    by_first : (rest : List ℕ) → length rest ≡ 32 → (b ∷ bytes ≡ 2 ∷ rest) ⊎ (b ∷ bytes ≡ 3 ∷ rest)
        → ((b ≡ 2) ⊎ (b ≡ 3)) × (length (b ∷ bytes) ≡ 33)
    by_first rest k (inl e) =
        let same : bytes ≡ rest = cc in
        let head : b ≡ 2 = cc in
        (inl head, size rest same k)
    by_first rest k (inr e) =
        let same : bytes ≡ rest = cc in
        let head : b ≡ 3 = cc in
        (inr head, size rest same k)

    from : IsCompressed (b ∷ bytes) → ((b ≡ 2) ⊎ (b ≡ 3)) × (length (b ∷ bytes) ≡ 33)
    from h = by_first h.0 h.2 h.1

key_found : (v : Verifier) (word : List ℕ) → IsFound (SpellsKey v word) (key_of_word v word)
key_found v word value = (
  by_hex (read_hex word) refl,
  λ h.
      ap (λ (o : Option (List ℕ)). o >>= λ bytes. given (is_key v bytes) (key bytes)) h.1
      ∙ ap (λ (b : Bool). given b (key h.0)) (and_from (is_compressed h.0) (v.is_point h.0) ((compressed h.0).1 h.2) h.3)
      ∙ ap (λ (x : Value). Some x) (sym h.4),
)
  where
    by_key : (bytes : List ℕ) (b : Bool) → read_hex word ≡ Some bytes → is_key v bytes ≡ b → given b (key bytes) ≡ Some value
        → SpellsKey v word value
    by_key bytes false e s m = cc
    by_key bytes true e s m =
        let p = and_parts (is_compressed bytes) (v.is_point bytes) s in
        (bytes, e, (compressed bytes).0 p.0, p.1, sym (some_same m))

    by_hex : (o : Option (List ℕ)) → read_hex word ≡ o → (o >>= λ bytes. given (is_key v bytes) (key bytes)) ≡ Some value
        → SpellsKey v word value
    by_hex None e k = cc
    by_hex (Some bytes) e k = by_key bytes (is_key v bytes) e refl k

outpoint_found : (txid vout : List ℕ) → IsFound (SpellsOutpoint txid vout) (outpoint_of_words txid vout)
outpoint_found txid vout outpoint = (
  by_both (digest txid) (small vout) refl refl,
  λ h.
      ap (λ (o : Option (List ℕ)). o >>= λ bytes. small vout >>= λ number. Some (record { txid = reverse bytes; vout = number }))
      ((digest_found txid h.0).1 h.2)
      ∙ ap (λ (o : Option ℕ). o >>= λ number. Some (record { txid = reverse h.0; vout = number })) ((number_found vout h.1).1 h.3)
      ∙ ap (λ (x : OutPoint). Some x) (sym h.4),
)
  where
    by_both : (o : Option (List ℕ)) (m : Option ℕ) → digest txid ≡ o → small vout ≡ m
        → (o >>= λ bytes. m >>= λ number. Some (record { txid = reverse bytes; vout = number })) ≡ Some outpoint
        → SpellsOutpoint txid vout outpoint
    by_both None m e k s = cc
    by_both (Some bytes) None e k s = cc
    by_both (Some bytes) (Some number) e k s =
        (bytes, number, (digest_found txid bytes).0 e, (number_found vout number).0 k, sym (some_same s))

place_found : (txid vout : List ℕ) → IsFound (SpellsPlace txid vout) (place_of_words txid vout)
place_found txid vout value = (
  by_outpoint (outpoint_of_words txid vout) refl,
  λ h. ap (option_map place) ((outpoint_found txid vout h.0).1 h.1) ∙ ap (λ (x : Value). Some x) (sym h.2),
)
  where
    by_outpoint : (o : Option OutPoint) → outpoint_of_words txid vout ≡ o → option_map place o ≡ Some value → SpellsPlace txid vout value
    by_outpoint None e k = cc
    by_outpoint (Some outpoint) e k = (outpoint, (outpoint_found txid vout outpoint).0 e, sym (some_same k))

-- ---- scripts

script_found : (network : Option (List ℕ)) (word : List ℕ) → IsFound (SpellsScript network word) (spelled_script network word)
script_found network word bytes = (by_hex (read_hex word) refl network refl, back)
  where
    by_hex : (o : Option (List ℕ)) → read_hex word ≡ o → (n : Option (List ℕ)) → network ≡ n
        → or_else o (n >>= λ part. read_address part word) ≡ Some bytes → SpellsScript network word bytes
    by_hex (Some digits) e n m k = inl (e ∙ k)
    by_hex None e None m k = cc
    by_hex None e (Some part) m k = inr (e, (part, m, k))

    back : SpellsScript network word bytes → spelled_script network word ≡ Some bytes
    back (inl h) = ap (λ (o : Option (List ℕ)). or_else o (network >>= λ part. read_address part word)) h
    back (inr h) =
        ap (λ (o : Option (List ℕ)). or_else o (network >>= λ part. read_address part word)) h.0
        ∙ ap (λ (n : Option (List ℕ)). n >>= λ part. read_address part word) h.1.1
        ∙ h.1.2

wallet_found : (v : Verifier) (network : Option (List ℕ)) (txid vout word : List ℕ)
    → IsFound (SpellsWallet v network txid vout word) (wallet_of_words v network txid vout word)
wallet_found v network txid vout word value = (
  by_both (outpoint_of_words txid vout) (spelled_script network word) refl refl,
  λ h.
      ap
      (λ (o : Option OutPoint).
      o >>= λ outpoint. spelled_script network word >>= λ bytes. given (pays_to_wallet v bytes) (wallet outpoint bytes))
      ((outpoint_found txid vout h.0).1 h.2)
      ∙ ap (λ (o : Option (List ℕ)). o >>= λ bytes. given (pays_to_wallet v bytes) (wallet h.0 bytes))
      ((script_found network word h.1).1 h.3)
      ∙ ap (λ (b : Bool). given b (wallet h.0 h.1)) h.4
      ∙ ap (λ (x : Value). Some x) (sym h.5),
)
  where
    by_test : (outpoint : OutPoint) (bytes : List ℕ) (b : Bool) → outpoint_of_words txid vout ≡ Some outpoint
        → spelled_script network word ≡ Some bytes → pays_to_wallet v bytes ≡ b → given b (wallet outpoint bytes) ≡ Some value
        → SpellsWallet v network txid vout word value
    by_test outpoint bytes false e k t s = cc
    by_test outpoint bytes true e k t s =
        (outpoint, bytes, (outpoint_found txid vout outpoint).0 e, (script_found network word bytes).0 k, t, sym (some_same s))

    by_both : (o : Option OutPoint) (m : Option (List ℕ)) → outpoint_of_words txid vout ≡ o → spelled_script network word ≡ m
        → (o >>= λ outpoint. m >>= λ bytes. given (pays_to_wallet v bytes) (wallet outpoint bytes)) ≡ Some value
        → SpellsWallet v network txid vout word value
    by_both None m e k s = cc
    by_both (Some outpoint) None e k s = cc
    by_both (Some outpoint) (Some bytes) e k s = by_test outpoint bytes (pays_to_wallet v bytes) e k refl s

payee_found : (v : Verifier) (network : Option (List ℕ)) (word : List ℕ)
    → IsFound (SpellsPayee v network word) (payee_of_word v network word)
payee_found v network word value = (
  by_script (spelled_script network word) refl,
  λ h.
      ap (λ (o : Option (List ℕ)). o >>= λ bytes. given (is_payable v bytes) (script bytes)) ((script_found network word h.0).1 h.1)
      ∙ ap (λ (b : Bool). given b (script h.0)) h.2
      ∙ ap (λ (x : Value). Some x) (sym h.3),
)
  where
    by_test : (bytes : List ℕ) (b : Bool) → spelled_script network word ≡ Some bytes → is_payable v bytes ≡ b
        → given b (script bytes) ≡ Some value → SpellsPayee v network word value
    by_test bytes false k t s = cc
    by_test bytes true k t s = (bytes, (script_found network word bytes).0 k, t, sym (some_same s))

    by_script : (o : Option (List ℕ)) → spelled_script network word ≡ o
        → (o >>= λ bytes. given (is_payable v bytes) (script bytes)) ≡ Some value → SpellsPayee v network word value
    by_script None k s = cc
    by_script (Some bytes) k s = by_test bytes (is_payable v bytes) k refl s

network_found : (word : List ℕ) → IsFound (SpellsNetwork word) (network_of_word word)
network_found word value = (
  by_test (is_hrp word) refl,
  λ h. ap (λ (b : Bool). given b (hrp word)) h.0 ∙ ap (λ (x : Value). Some x) (sym h.1),
)
  where
    by_test : (b : Bool) → is_hrp word ≡ b → given b (hrp word) ≡ Some value → SpellsNetwork word value
    by_test false e k = cc
    by_test true e k = (e, sym (some_same k))

hash_found : (word : List ℕ) → IsFound (SpellsHash word) (hash_of_word word)
hash_found word value = (
  by_digest (digest word) refl,
  λ h.
      ap (option_map hash) ((digest_found word h.0).1 h.1) ∙ ap (λ (x : Value). Some x) (sym h.2),
)
  where
    by_digest : (o : Option (List ℕ)) → digest word ≡ o → option_map hash o ≡ Some value → SpellsHash word value
    by_digest None e k = cc
    by_digest (Some bytes) e k = (bytes, (digest_found word bytes).0 e, sym (some_same k))

-- ---- names

has_text : (name : List ℕ) (label : Label) → Decides (bytes_eq (label_text label) name) (HasText name label)
has_text name label = bytes_eq-Decides (label_text label) name

abbrev is_text : List ℕ → Label → Bool
is_text name label = bytes_eq (label_text label) name

key_named : (advert : Advert) (name : List ℕ) → IsFound (NamesKey advert name) (option_map needs.Key (label_of_word advert name))
key_named advert name what = (
  by_found (find (is_text name) (needed_labels advert)) refl,
  λ h.
      ap (option_map needs.Key) (first_found (is_text name) (HasText name) (has_text name) (needed_labels advert) h.0 h.1)
      ∙ ap (λ (x : Needed). Some x) (sym h.2),
)
  where
    by_found : (o : Option Label) → find (is_text name) (needed_labels advert) ≡ o → option_map needs.Key o ≡ Some what
        → NamesKey advert name what
    by_found None e k = cc
    by_found (Some label) e k =
        (label, found_first (is_text name) (HasText name) (has_text name) (needed_labels advert) label e, sym (some_same k))

one_named : (make : List ℕ → Needed) (names : List (List ℕ)) (name : List ℕ)
    → IsFound (λ what. (is_among name names ≡ true) × (what ≡ make name)) (option_map make (one_of names name))
one_named make names name what = (
  by_test (is_among name names) refl,
  λ h.
      ap (λ (b : Bool). option_map make (given b name)) h.0 ∙ ap (λ (x : Needed). Some x) (sym h.1),
)
  where
    by_test : (b : Bool) → is_among name names ≡ b → option_map make (given b name) ≡ Some what
        → (is_among name names ≡ true) × (what ≡ make name)
    by_test false e k = cc
    by_test true e k = (e, sym (some_same k))

network_named : IsFound NamesNetwork (Some needs.Network)
network_named what = (λ e. sym (some_same e), λ h. ap (λ (x : Needed). Some x) (sym h))

-- ---- lines before this one

-- never
no_way : {P : Type 0} → (P → ⊥) → Decides false P
no_way f = (λ e. absurd (false≢true e), λ h. absurd (f h))

pub same_decides : (a b : Needed) → Decides (same_needed a b) (IsSame a b)
same_decides (needs.Key a) (needs.Key b) = bytes_eq-Decides (label_text a) (label_text b)
same_decides (needs.Deposit a) (needs.Deposit b) = bytes_eq-Decides a b
same_decides (needs.Hash a) (needs.Hash b) = bytes_eq-Decides a b
same_decides needs.Network needs.Network = (λ e. tt, λ h. refl)
same_decides (needs.Payee a) (needs.Payee b) = bytes_eq-Decides a b
same_decides (needs.Key a) (needs.Deposit b) = no_way (λ h. h)
same_decides (needs.Key a) (needs.Hash b) = no_way (λ h. h)
same_decides (needs.Key a) needs.Network = no_way (λ h. h)
same_decides (needs.Key a) (needs.Payee b) = no_way (λ h. h)
same_decides (needs.Deposit a) (needs.Key b) = no_way (λ h. h)
same_decides (needs.Deposit a) (needs.Hash b) = no_way (λ h. h)
same_decides (needs.Deposit a) needs.Network = no_way (λ h. h)
same_decides (needs.Deposit a) (needs.Payee b) = no_way (λ h. h)
same_decides (needs.Hash a) (needs.Key b) = no_way (λ h. h)
same_decides (needs.Hash a) (needs.Deposit b) = no_way (λ h. h)
same_decides (needs.Hash a) needs.Network = no_way (λ h. h)
same_decides (needs.Hash a) (needs.Payee b) = no_way (λ h. h)
same_decides needs.Network (needs.Key b) = no_way (λ h. h)
same_decides needs.Network (needs.Deposit b) = no_way (λ h. h)
same_decides needs.Network (needs.Hash b) = no_way (λ h. h)
same_decides needs.Network (needs.Payee b) = no_way (λ h. h)
same_decides (needs.Payee a) (needs.Key b) = no_way (λ h. h)
same_decides (needs.Payee a) (needs.Deposit b) = no_way (λ h. h)
same_decides (needs.Payee a) (needs.Hash b) = no_way (λ h. h)
same_decides (needs.Payee a) needs.Network = no_way (λ h. h)

outpoint_decides : (a b : OutPoint) → Decides (same_outpoint a b) (a ≡ b)
outpoint_decides a b =
    Decides-like (same_outpoint a b) (λ h. λ i. record { txid = h.0 i; vout = h.1 i })
    (λ e. (ap (λ (x : OutPoint). x.txid) e, ap (λ (x : OutPoint). x.vout) e))
    (Decides-and (bytes_eq a.txid b.txid) (a.vout == b.vout) (bytes_eq-Decides a.txid b.txid) (Decides-eqb a.vout b.vout))

pub value_decides : (a b : Value) → Decides (same_value a b) (IsShared a b)
value_decides (key a) (key b) = bytes_eq-Decides a b
value_decides (key a) (place b) = no_way (λ h. h)
value_decides (key a) (wallet b other) = no_way (λ h. h)
value_decides (key a) (hash b) = no_way (λ h. h)
value_decides (key a) (hrp b) = no_way (λ h. h)
value_decides (key a) (script b) = no_way (λ h. h)
value_decides (place a) (key b) = no_way (λ h. h)
value_decides (place a) (place b) = outpoint_decides a b
value_decides (place a) (wallet b other) = outpoint_decides a b
value_decides (place a) (hash b) = no_way (λ h. h)
value_decides (place a) (hrp b) = no_way (λ h. h)
value_decides (place a) (script b) = no_way (λ h. h)
value_decides (wallet a own) (key b) = no_way (λ h. h)
value_decides (wallet a own) (place b) = outpoint_decides a b
value_decides (wallet a own) (wallet b other) = outpoint_decides a b
value_decides (wallet a own) (hash b) = no_way (λ h. h)
value_decides (wallet a own) (hrp b) = no_way (λ h. h)
value_decides (wallet a own) (script b) = no_way (λ h. h)
value_decides (hash a) (key b) = no_way (λ h. h)
value_decides (hash a) (place b) = no_way (λ h. h)
value_decides (hash a) (wallet b other) = no_way (λ h. h)
value_decides (hash a) (hash b) = bytes_eq-Decides a b
value_decides (hash a) (hrp b) = no_way (λ h. h)
value_decides (hash a) (script b) = no_way (λ h. h)
value_decides (hrp a) (key b) = no_way (λ h. h)
value_decides (hrp a) (place b) = no_way (λ h. h)
value_decides (hrp a) (wallet b other) = no_way (λ h. h)
value_decides (hrp a) (hash b) = no_way (λ h. h)
value_decides (hrp a) (hrp b) = no_way (λ h. h)
value_decides (hrp a) (script b) = no_way (λ h. h)
value_decides (script a) (key b) = no_way (λ h. h)
value_decides (script a) (place b) = no_way (λ h. h)
value_decides (script a) (wallet b other) = no_way (λ h. h)
value_decides (script a) (hash b) = no_way (λ h. h)
value_decides (script a) (hrp b) = no_way (λ h. h)
value_decides (script a) (script b) = no_way (λ h. h)

-- the searches, and what they decide
abbrev pub gives_to : Needed → Entry → Bool
gives_to what entry = same_needed entry.needed what

abbrev gives_value : Value → Entry → Bool
gives_value value entry = same_value entry.value value

pub to_decides : (what : Needed) (entry : Entry) → Decides (gives_to what entry) (GivesTo what entry)
to_decides what entry = same_decides entry.needed what

of_decides : (value : Value) (entry : Entry) → Decides (gives_value value entry) (GivesValue value entry)
of_decides value entry = value_decides entry.value value

-- ---- what is named and spelled

module _ (Names : Needed → Type 0) (Spells : Value → Type 0) (entries : List Entry) (n : ℕ) where
  abbrev PartSays : Line → Type 0
  PartSays empty = ⊥
  PartSays (bad reason) = GivesBad Names Spells entries reason
  PartSays (gives e) = (e.line ≡ n) × GivesNew Names Spells entries e.needed e.value

  once_says : (what : Needed) (value : Value) → Names what → Spells value → (a b : Option Entry) → find (gives_to what) entries ≡ a
      → find (gives_value value) entries ≡ b → PartSays (given_once a b (entry_in n what value))
  once_says what value h k (Some earlier) b e f =
      (what, value, earlier, h, k, found_first (gives_to what) (GivesTo what) (to_decides what) entries earlier e, refl)
  once_says what value h k None (Some other) e f = (
    what,
    value,
    other,
    h,
    k,
    none_found (gives_to what) (GivesTo what) (to_decides what) entries e,
    found_first (gives_value value) (GivesValue value) (of_decides value) entries other f,
    refl,
  )
  once_says what value h k None None e f = (
    refl,
    (
      h,
      k,
      none_found (gives_to what) (GivesTo what) (to_decides what) entries e,
      none_found (gives_value value) (GivesValue value) (of_decides value) entries f,
    ),
  )

  value_says : (what : Needed) (w : Option Value) → Names what → IsFound Spells w → PartSays (with_value entries n what w)
  value_says what None f g = (what, f, λ value h. nothing_found Spells None g refl value h)
  value_says what (Some value) f g =
      once_says what value f ((g value).0 refl) (find (gives_to what) entries) (find (gives_value value) entries) refl refl

  part_says : (o : Option Needed) (w : Option Value) → IsFound Names o → IsFound Spells w → PartSays (with_needed entries n o w)
  part_says None w f g = λ what h. nothing_found Names None f refl what h
  part_says (Some what) w f g = value_says what w ((f what).0 refl) g

  -- ---- and what is so is said

  module _ (o : Option Needed) (w : Option Value) (f : IsFound Names o) (g : IsFound Spells w) where
    to_once : (what : Needed) (value : Value) → Names what → Spells value
        → with_needed entries n o w
        ≡ given_once (find (gives_to what) entries) (find (gives_value value) entries) (entry_in n what value)
    to_once what value h k =
        ap (λ (x : Option Needed). with_needed entries n x w) ((f what).1 h)
        ∙ ap (λ (x : Option Value). with_needed entries n (Some what) x) ((g value).1 k)

    to_second : (what : Needed) (value : Value) → Names what → Spells value → NoneIs (GivesTo what) entries
        → with_needed entries n o w ≡ given_once None (find (gives_value value) entries) (entry_in n what value)
    to_second what value h k none =
        to_once what value h k
        ∙ ap (λ (x : Option Entry). given_once x (find (gives_value value) entries) (entry_in n what value))
        (none_finds (gives_to what) (GivesTo what) (to_decides what) entries none)

    part_new : (what : Needed) (value : Value) → GivesNew Names Spells entries what value
        → with_needed entries n o w ≡ gives (entry_in n what value)
    part_new what value h =
        to_second what value h.0 h.1 h.2
        ∙ ap (λ (x : Option Entry). given_once None x (entry_in n what value))
        (none_finds (gives_value value) (GivesValue value) (of_decides value) entries h.3)

    part_bad : (reason : DealReason) → GivesBad Names Spells entries reason → with_needed entries n o w ≡ bad reason
    part_bad reasons.Form h = absurd h
    part_bad reasons.Foreign h = ap (λ (x : Option Needed). with_needed entries n x w) (found_nothing Names o f h)
    part_bad reasons.Value h =
        ap (λ (x : Option Needed). with_needed entries n x w) ((f h.0).1 h.1)
        ∙ ap (λ (x : Option Value). with_needed entries n (Some h.0) x) (found_nothing Spells w g h.2)
    part_bad (reasons.Repeated k) h =
        to_once h.0 h.1 h.3 h.4
        ∙ ap (λ (x : Option Entry). given_once x (find (gives_value h.1) entries) (entry_in n h.0 h.1))
        (first_found (gives_to h.0) (GivesTo h.0) (to_decides h.0) entries h.2 h.5)
        ∙ ap (λ (m : ℕ). bad (reasons.Repeated m)) h.6
    part_bad (reasons.Shared k) h =
        to_second h.0 h.1 h.3 h.4 h.5
        ∙ ap (λ (x : Option Entry). given_once None x (entry_in n h.0 h.1))
        (first_found (gives_value h.1) (GivesValue h.1) (of_decides h.1) entries h.2 h.6)
        ∙ ap (λ (m : ℕ). bad (reasons.Shared m)) h.7

-- ---- words of a line

differ : (a b : List ℕ) → bytes_eq a b ≡ false → a ≡ b → ⊥
differ a b e = refuted (bytes_eq a b) (bytes_eq-Decides a b) e

-- words are no line of a deal unless their first is a kind and the others are as many
record AreNone (a : List ℕ) (rest : List (List ℕ)) : Type 0 where
  key : a ≡ codes "key" → (name word : List ℕ) → rest ≡ name ∷ word ∷ [] → ⊥
  deposit : a ≡ codes "deposit" → (name txid vout : List ℕ) → rest ≡ name ∷ txid ∷ vout ∷ [] → ⊥
  wallet : a ≡ codes "deposit" → (name txid vout word : List ℕ) → rest ≡ name ∷ txid ∷ vout ∷ word ∷ [] → ⊥
  hash : a ≡ codes "hash" → (name word : List ℕ) → rest ≡ name ∷ word ∷ [] → ⊥
  network : a ≡ codes "network" → (word : List ℕ) → rest ≡ word ∷ [] → ⊥
  payee : a ≡ codes "pay" → (name word : List ℕ) → rest ≡ name ∷ word ∷ [] → ⊥

no_entry : (a : List ℕ) (rest : List (List ℕ)) → AreNone a rest → IsNoEntry (a ∷ rest)
no_entry a rest none = record {
  some = λ e. no_words e;
  no_key = λ name word e. none.key (first e) name word (others e);
  no_deposit = λ name txid vout e. none.deposit (first e) name txid vout (others e);
  no_wallet = λ name txid vout word e. none.wallet (first e) name txid vout word (others e);
  no_hash = λ name word e. none.hash (first e) name word (others e);
  no_network = λ word e. none.network (first e) word (others e);
  no_payee = λ name word e. none.payee (first e) name word (others e);
}
  where
    no_words : a ∷ rest ≡ [] → ⊥
    no_words e = cc

    first : {b : List ℕ} {more : List (List ℕ)} → a ∷ rest ≡ b ∷ more → a ≡ b
    first e = cc

    others : {b : List ℕ} {more : List (List ℕ)} → a ∷ rest ≡ b ∷ more → rest ≡ more
    others e = cc

-- how many words there are
abbrev count : List (List ℕ) → ℕ
count rest = length rest

-- as words behind a kind that stand in another number
not_two : (rest : List (List ℕ)) → (count rest ≡ 2 → ⊥) → (name word : List ℕ) → rest ≡ name ∷ word ∷ [] → ⊥
not_two rest h name word e = h (ap count e)

not_three : (rest : List (List ℕ)) → (count rest ≡ 3 → ⊥) → (name txid vout : List ℕ) → rest ≡ name ∷ txid ∷ vout ∷ [] → ⊥
not_three rest h name txid vout e = h (ap count e)

not_four : (rest : List (List ℕ)) → (count rest ≡ 4 → ⊥) → (name txid vout word : List ℕ)
    → rest ≡ name ∷ txid ∷ vout ∷ word ∷ [] → ⊥
not_four rest h name txid vout word e = h (ap count e)

not_one : (rest : List (List ℕ)) → (count rest ≡ 1 → ⊥) → (word : List ℕ) → rest ≡ word ∷ [] → ⊥
not_one rest h word e = h (ap count e)

-- by the kind of the first word, and how many are behind it
none_of : (a : List ℕ) (rest : List (List ℕ)) → (a ≡ codes "key" → count rest ≡ 2 → ⊥)
    → (a ≡ codes "deposit" → (count rest ≡ 3 → ⊥) × (count rest ≡ 4 → ⊥)) → (a ≡ codes "hash" → count rest ≡ 2 → ⊥)
    → (a ≡ codes "network" → count rest ≡ 1 → ⊥) → (a ≡ codes "pay" → count rest ≡ 2 → ⊥) → IsNoEntry (a ∷ rest)
none_of a rest k d h n p =
    no_entry a rest (record {
      key = λ e. not_two rest (k e);
      deposit = λ e. not_three rest (d e).0;
      wallet = λ e. not_four rest (d e).1;
      hash = λ e. not_two rest (h e);
      network = λ e. not_one rest (n e);
      payee = λ e. not_two rest (p e);
    })

module _ (v : Verifier) (network : Option (List ℕ)) (advert : Advert) (entries : List Entry) (n : ℕ) where
  -- what is claimed of a line that says this
  abbrev pub EntrySays : List (List ℕ) → Line → Type 0
  EntrySays words empty = words ≡ []
  EntrySays words (bad reason) = IsBadEntry v network advert entries words reason
  EntrySays words (gives e) = (e.line ≡ n) × GivesEntry v network advert entries words e.needed e.value

  by_part : (words : List (List ℕ)) (Names : Needed → Type 0) (Spells : Value → Type 0)
      → ((IsSo : (Needed → Type 0) → (Value → Type 0) → Type 0) → IsSo Names Spells → AsLine v network advert words IsSo)
      → (says : Line) → PartSays Names Spells entries n says → EntrySays words says
  by_part words Names Spells put empty h = absurd h
  by_part words Names Spells put (bad reason) h = inr (put (λ A B. GivesBad A B entries reason) h)
  by_part words Names Spells put (gives e) h = (h.0, put (λ A B. GivesNew A B entries e.needed e.value) h.1)

  -- a line of this kind with another number of words
  key_form : (rest : List (List ℕ)) → (count rest ≡ 2 → ⊥) → EntrySays (codes "key" ∷ rest) (bad reasons.Form)
  key_form rest h = inl (
    refl,
    none_of (codes "key") rest (λ e. h) (λ e. absurd (differ (codes "key") (codes "deposit") refl e))
        (λ e. absurd (differ (codes "key") (codes "hash") refl e)) (λ e. absurd (differ (codes "key") (codes "network") refl e))
        (λ e. absurd (differ (codes "key") (codes "pay") refl e)),
  )

  deposit_form : (rest : List (List ℕ)) → (count rest ≡ 3 → ⊥) → (count rest ≡ 4 → ⊥)
      → EntrySays (codes "deposit" ∷ rest) (bad reasons.Form)
  deposit_form rest h k = inl (
    refl,
    none_of (codes "deposit") rest (λ e. absurd (differ (codes "deposit") (codes "key") refl e)) (λ e. (h, k))
        (λ e. absurd (differ (codes "deposit") (codes "hash") refl e))
        (λ e. absurd (differ (codes "deposit") (codes "network") refl e))
        (λ e. absurd (differ (codes "deposit") (codes "pay") refl e)),
  )

  hash_form : (rest : List (List ℕ)) → (count rest ≡ 2 → ⊥) → EntrySays (codes "hash" ∷ rest) (bad reasons.Form)
  hash_form rest h = inl (
    refl,
    none_of (codes "hash") rest (λ e. absurd (differ (codes "hash") (codes "key") refl e))
        (λ e. absurd (differ (codes "hash") (codes "deposit") refl e)) (λ e. h)
        (λ e. absurd (differ (codes "hash") (codes "network") refl e)) (λ e. absurd (differ (codes "hash") (codes "pay") refl e)),
  )

  network_form : (rest : List (List ℕ)) → (count rest ≡ 1 → ⊥) → EntrySays (codes "network" ∷ rest) (bad reasons.Form)
  network_form rest h = inl (
    refl,
    none_of (codes "network") rest (λ e. absurd (differ (codes "network") (codes "key") refl e))
        (λ e. absurd (differ (codes "network") (codes "deposit") refl e))
        (λ e. absurd (differ (codes "network") (codes "hash") refl e)) (λ e. h)
        (λ e. absurd (differ (codes "network") (codes "pay") refl e)),
  )

  payee_form : (rest : List (List ℕ)) → (count rest ≡ 2 → ⊥) → EntrySays (codes "pay" ∷ rest) (bad reasons.Form)
  payee_form rest h = inl (
    refl,
    none_of (codes "pay") rest (λ e. absurd (differ (codes "pay") (codes "key") refl e))
        (λ e. absurd (differ (codes "pay") (codes "deposit") refl e)) (λ e. absurd (differ (codes "pay") (codes "hash") refl e))
        (λ e. absurd (differ (codes "pay") (codes "network") refl e)) (λ e. h),
  )

  key_says : (rest : List (List ℕ)) → EntrySays (codes "key" ∷ rest) (key_line v advert entries n rest)
  key_says [] = key_form [] (λ e. cc)
  key_says (a ∷ []) = key_form (a ∷ []) (λ e. omega (arith, e))
  key_says (a ∷ (b ∷ [])) =
      by_part (codes "key" ∷ a ∷ b ∷ []) (NamesKey advert a) (SpellsKey v b) (λ IsSo h. inl (a, b, refl, h))
      (with_needed entries n (option_map needs.Key (label_of_word advert a)) (key_of_word v b))
      (part_says (NamesKey advert a) (SpellsKey v b) entries n _ _ (key_named advert a) (key_found v b))
  key_says (a ∷ (b ∷ (c ∷ more))) = key_form (a ∷ b ∷ c ∷ more) (λ e. omega (arith, e))

  deposit_says : (rest : List (List ℕ)) → EntrySays (codes "deposit" ∷ rest) (deposit_line v network advert entries n rest)
  deposit_says [] = deposit_form [] (λ e. cc) (λ e. cc)
  deposit_says (a ∷ []) = deposit_form (a ∷ []) (λ e. omega (arith, e)) (λ e. omega (arith, e))
  deposit_says (a ∷ (b ∷ [])) = deposit_form (a ∷ b ∷ []) (λ e. omega (arith, e)) (λ e. omega (arith, e))
  deposit_says (a ∷ (b ∷ (c ∷ []))) =
      by_part (codes "deposit" ∷ a ∷ b ∷ c ∷ []) (NamesDeposit advert a) (SpellsPlace b c) (λ IsSo h. inr (inl (a, b, c, refl, h)))
      (with_needed entries n (option_map needs.Deposit (one_of (needed_deposits advert) a)) (place_of_words b c))
      (part_says (NamesDeposit advert a) (SpellsPlace b c) entries n _ _ (one_named needs.Deposit (needed_deposits advert) a)
      (place_found b c))
  deposit_says (a ∷ (b ∷ (c ∷ (d ∷ [])))) =
      by_part (codes "deposit" ∷ a ∷ b ∷ c ∷ d ∷ []) (NamesDeposit advert a) (SpellsWallet v network b c d)
      (λ IsSo h. inr (inr (inl (a, b, c, d, refl, h))))
      (with_needed entries n (option_map needs.Deposit (one_of (needed_deposits advert) a)) (wallet_of_words v network b c d))
      (part_says (NamesDeposit advert a) (SpellsWallet v network b c d) entries n _ _
      (one_named needs.Deposit (needed_deposits advert) a) (wallet_found v network b c d))
  deposit_says (a ∷ (b ∷ (c ∷ (d ∷ (x ∷ more))))) =
      deposit_form (a ∷ b ∷ c ∷ d ∷ x ∷ more) (λ e. omega (arith, e)) (λ e. omega (arith, e))

  hash_says : (rest : List (List ℕ)) → EntrySays (codes "hash" ∷ rest) (hash_line advert entries n rest)
  hash_says [] = hash_form [] (λ e. cc)
  hash_says (a ∷ []) = hash_form (a ∷ []) (λ e. omega (arith, e))
  hash_says (a ∷ (b ∷ [])) =
      by_part (codes "hash" ∷ a ∷ b ∷ []) (NamesHash advert a) (SpellsHash b) (λ IsSo h. inr (inr (inr (inl (a, b, refl, h)))))
      (with_needed entries n (option_map needs.Hash (one_of (needed_secrets advert) a)) (hash_of_word b))
      (part_says (NamesHash advert a) (SpellsHash b) entries n _ _ (one_named needs.Hash (needed_secrets advert) a) (hash_found b))
  hash_says (a ∷ (b ∷ (c ∷ more))) = hash_form (a ∷ b ∷ c ∷ more) (λ e. omega (arith, e))

  network_says : (rest : List (List ℕ)) → EntrySays (codes "network" ∷ rest) (network_line entries n rest)
  network_says [] = network_form [] (λ e. cc)
  network_says (a ∷ []) =
      by_part (codes "network" ∷ a ∷ []) NamesNetwork (SpellsNetwork a) (λ IsSo h. inr (inr (inr (inr (inl (a, refl, h))))))
      (with_value entries n needs.Network (network_of_word a))
      (value_says NamesNetwork (SpellsNetwork a) entries n needs.Network _ refl (network_found a))
  network_says (a ∷ (b ∷ more)) = network_form (a ∷ b ∷ more) (λ e. omega (arith, e))

  payee_says : (rest : List (List ℕ)) → EntrySays (codes "pay" ∷ rest) (payee_line v network advert entries n rest)
  payee_says [] = payee_form [] (λ e. cc)
  payee_says (a ∷ []) = payee_form (a ∷ []) (λ e. omega (arith, e))
  payee_says (a ∷ (b ∷ [])) =
      by_part (codes "pay" ∷ a ∷ b ∷ []) (NamesPayee advert a) (SpellsPayee v network b)
      (λ IsSo h. inr (inr (inr (inr (inr (a, b, refl, h))))))
      (with_needed entries n (option_map needs.Payee (one_of (participants advert) a)) (payee_of_word v network b))
      (part_says (NamesPayee advert a) (SpellsPayee v network b) entries n _ _ (one_named needs.Payee (participants advert) a)
      (payee_found v network b))
  payee_says (a ∷ (b ∷ (c ∷ more))) = payee_form (a ∷ b ∷ c ∷ more) (λ e. omega (arith, e))

  abbrev by_kinds : List (List ℕ) → Bool → Bool → Bool → Bool → Bool → Line
  by_kinds rest k d h m p =
      cond k (key_line v advert entries n rest)
      (cond d (deposit_line v network advert entries n rest)
      (cond h (hash_line advert entries n rest)
      (cond m (network_line entries n rest) (cond p (payee_line v network advert entries n rest) (bad reasons.Form)))))

  -- what a line says is so
  pub entry_said : (words : List (List ℕ)) → EntrySays words (line_says v network advert entries n words)
  entry_said [] = refl
  entry_said (a ∷ rest) =
      by_test (bytes_eq a (codes "key")) (bytes_eq a (codes "deposit")) (bytes_eq a (codes "hash")) (bytes_eq a (codes "network"))
      (bytes_eq a (codes "pay")) refl refl refl refl refl
    where
      by_test : (k d h m p : Bool) → bytes_eq a (codes "key") ≡ k → bytes_eq a (codes "deposit") ≡ d → bytes_eq a (codes "hash") ≡ h
          → bytes_eq a (codes "network") ≡ m → bytes_eq a (codes "pay") ≡ p → EntrySays (a ∷ rest) (by_kinds rest k d h m p)
      by_test true d h m p e f g i j =
          subst (λ (w : List ℕ). EntrySays (w ∷ rest) (key_line v advert entries n rest)) (sym ((bytes_eq-Decides a (codes "key")).0 e))
          (key_says rest)
      by_test false true h m p e f g i j =
          subst (λ (w : List ℕ). EntrySays (w ∷ rest) (deposit_line v network advert entries n rest))
          (sym ((bytes_eq-Decides a (codes "deposit")).0 f)) (deposit_says rest)
      by_test false false true m p e f g i j =
          subst (λ (w : List ℕ). EntrySays (w ∷ rest) (hash_line advert entries n rest)) (sym ((bytes_eq-Decides a (codes "hash")).0 g))
          (hash_says rest)
      by_test false false false true p e f g i j =
          subst (λ (w : List ℕ). EntrySays (w ∷ rest) (network_line entries n rest)) (sym ((bytes_eq-Decides a (codes "network")).0 i))
          (network_says rest)
      by_test false false false false true e f g i j =
          subst (λ (w : List ℕ). EntrySays (w ∷ rest) (payee_line v network advert entries n rest))
          (sym ((bytes_eq-Decides a (codes "pay")).0 j)) (payee_says rest)
      by_test false false false false false e f g i j = inl (
        refl,
        none_of a rest (λ s. absurd (differ a (codes "key") e s)) (λ s. absurd (differ a (codes "deposit") f s))
            (λ s. absurd (differ a (codes "hash") g s)) (λ s. absurd (differ a (codes "network") i s))
            (λ s. absurd (differ a (codes "pay") j s)),
      )

  -- ---- and what is so is said

  pub new_entry_said : (words : List (List ℕ)) (what : Needed) (value : Value) → GivesEntry v network advert entries words what value
      → line_says v network advert entries n words ≡ gives (entry_in n what value)
  new_entry_said words what value (inl h) =
      ap (line_says v network advert entries n) h.2
      ∙ part_new (NamesKey advert h.0) (SpellsKey v h.1) entries n _ _ (key_named advert h.0) (key_found v h.1) what value h.3
  new_entry_said words what value (inr (inl h)) =
      ap (line_says v network advert entries n) h.3
      ∙ part_new (NamesDeposit advert h.0) (SpellsPlace h.1 h.2) entries n _ _ (one_named needs.Deposit (needed_deposits advert) h.0)
      (place_found h.1 h.2) what value h.4
  new_entry_said words what value (inr (inr (inl h))) =
      ap (line_says v network advert entries n) h.4
      ∙ part_new (NamesDeposit advert h.0) (SpellsWallet v network h.1 h.2 h.3) entries n _ _
      (one_named needs.Deposit (needed_deposits advert) h.0) (wallet_found v network h.1 h.2 h.3) what value h.5
  new_entry_said words what value (inr (inr (inr (inl h)))) =
      ap (line_says v network advert entries n) h.2
      ∙ part_new (NamesHash advert h.0) (SpellsHash h.1) entries n _ _ (one_named needs.Hash (needed_secrets advert) h.0) (hash_found h.1)
      what value h.3
  new_entry_said words what value (inr (inr (inr (inr (inl h))))) =
      ap (line_says v network advert entries n) h.1
      ∙ part_new NamesNetwork (SpellsNetwork h.0) entries n _ _ network_named (network_found h.0) what value h.2
  new_entry_said words what value (inr (inr (inr (inr (inr h))))) =
      ap (line_says v network advert entries n) h.2
      ∙ part_new (NamesPayee advert h.0) (SpellsPayee v network h.1) entries n _ _ (one_named needs.Payee (participants advert) h.0)
      (payee_found v network h.1) what value h.3

  two_form : (rest : List (List ℕ)) → ((name word : List ℕ) → rest ≡ name ∷ word ∷ [] → ⊥)
      → (key_line v advert entries n rest ≡ bad reasons.Form)
      × ((hash_line advert entries n rest ≡ bad reasons.Form) × (payee_line v network advert entries n rest ≡ bad reasons.Form))
  two_form [] h = (refl, (refl, refl))
  two_form (a ∷ []) h = (refl, (refl, refl))
  two_form (a ∷ (b ∷ [])) h = absurd (h a b refl)
  two_form (a ∷ (b ∷ (c ∷ more))) h = (refl, (refl, refl))

  one_form : (rest : List (List ℕ)) → ((word : List ℕ) → rest ≡ word ∷ [] → ⊥) → network_line entries n rest ≡ bad reasons.Form
  one_form [] h = refl
  one_form (a ∷ []) h = absurd (h a refl)
  one_form (a ∷ (b ∷ more)) h = refl

  three_form : (rest : List (List ℕ)) → ((name txid vout : List ℕ) → rest ≡ name ∷ txid ∷ vout ∷ [] → ⊥)
      → ((name txid vout word : List ℕ) → rest ≡ name ∷ txid ∷ vout ∷ word ∷ [] → ⊥)
      → deposit_line v network advert entries n rest ≡ bad reasons.Form
  three_form [] h k = refl
  three_form (a ∷ []) h k = refl
  three_form (a ∷ (b ∷ [])) h k = refl
  three_form (a ∷ (b ∷ (c ∷ []))) h k = absurd (h a b c refl)
  three_form (a ∷ (b ∷ (c ∷ (d ∷ [])))) h k = absurd (k a b c d refl)
  three_form (a ∷ (b ∷ (c ∷ (d ∷ (x ∷ more))))) h k = refl

  no_entry_said : (words : List (List ℕ)) → IsNoEntry words → line_says v network advert entries n words ≡ bad reasons.Form
  no_entry_said [] h = absurd (h.some refl)
  no_entry_said (a ∷ rest) h =
      by_test (bytes_eq a (codes "key")) (bytes_eq a (codes "deposit")) (bytes_eq a (codes "hash")) (bytes_eq a (codes "network"))
      (bytes_eq a (codes "pay")) refl refl refl refl refl
    where
      both : (kind : List ℕ) (more : List (List ℕ)) → bytes_eq a kind ≡ true → rest ≡ more → a ∷ rest ≡ kind ∷ more
      both kind more e k = λ i. (bytes_eq-Decides a kind).0 e i ∷ k i

      by_test : (k d g m p : Bool) → bytes_eq a (codes "key") ≡ k → bytes_eq a (codes "deposit") ≡ d → bytes_eq a (codes "hash") ≡ g
          → bytes_eq a (codes "network") ≡ m → bytes_eq a (codes "pay") ≡ p → by_kinds rest k d g m p ≡ bad reasons.Form
      by_test true d g m p e f i j q = (two_form rest (λ name word s. h.no_key name word (both (codes "key") (name ∷ word ∷ []) e s))).0
      by_test false true g m p e f i j q =
          three_form rest (λ name txid vout s. h.no_deposit name txid vout (both (codes "deposit") (name ∷ txid ∷ vout ∷ []) f s))
          (λ name txid vout word s. h.no_wallet name txid vout word (both (codes "deposit") (name ∷ txid ∷ vout ∷ word ∷ []) f s))
      by_test false false true m p e f i j q =
          (two_form rest (λ name word s. h.no_hash name word (both (codes "hash") (name ∷ word ∷ []) i s))).1.0
      by_test false false false true p e f i j q =
          one_form rest (λ word s. h.no_network word (both (codes "network") (word ∷ []) j s))
      by_test false false false false true e f i j q =
          (two_form rest (λ name word s. h.no_payee name word (both (codes "pay") (name ∷ word ∷ []) q s))).1.1
      by_test false false false false false e f i j q = refl

  pub bad_entry_said : (words : List (List ℕ)) (reason : DealReason) → IsBadEntry v network advert entries words reason
      → line_says v network advert entries n words ≡ bad reason
  bad_entry_said words reason (inl h) = no_entry_said words h.1 ∙ ap (λ (r : DealReason). bad r) (sym h.0)
  bad_entry_said words reason (inr (inl h)) =
      ap (line_says v network advert entries n) h.2
      ∙ part_bad (NamesKey advert h.0) (SpellsKey v h.1) entries n _ _ (key_named advert h.0) (key_found v h.1) reason h.3
  bad_entry_said words reason (inr (inr (inl h))) =
      ap (line_says v network advert entries n) h.3
      ∙ part_bad (NamesDeposit advert h.0) (SpellsPlace h.1 h.2) entries n _ _ (one_named needs.Deposit (needed_deposits advert) h.0)
      (place_found h.1 h.2) reason h.4
  bad_entry_said words reason (inr (inr (inr (inl h)))) =
      ap (line_says v network advert entries n) h.4
      ∙ part_bad (NamesDeposit advert h.0) (SpellsWallet v network h.1 h.2 h.3) entries n _ _
      (one_named needs.Deposit (needed_deposits advert) h.0) (wallet_found v network h.1 h.2 h.3) reason h.5
  bad_entry_said words reason (inr (inr (inr (inr (inl h))))) =
      ap (line_says v network advert entries n) h.2
      ∙ part_bad (NamesHash advert h.0) (SpellsHash h.1) entries n _ _ (one_named needs.Hash (needed_secrets advert) h.0) (hash_found h.1)
      reason h.3
  bad_entry_said words reason (inr (inr (inr (inr (inr (inl h)))))) =
      ap (line_says v network advert entries n) h.1
      ∙ part_bad NamesNetwork (SpellsNetwork h.0) entries n _ _ network_named (network_found h.0) reason h.2
  bad_entry_said words reason (inr (inr (inr (inr (inr (inr h)))))) =
      ap (line_says v network advert entries n) h.2
      ∙ part_bad (NamesPayee advert h.0) (SpellsPayee v network h.1) entries n _ _ (one_named needs.Payee (participants advert) h.0)
      (payee_found v network h.1) reason h.3
