-- The keys of a deal that is taken have 33 bytes and are points, and its hashes have 32 bytes.
use Rattle.std.proofs.Common.{◌≡◌, ℕ, ◌+◌, List, [], ◌∷◌, ◌++◌, length, map, Bool, true}
use Rattle.std.proofs.Common.{false, not, Option, Some, None, refl, sym, ap, ◌∙◌, subst, arith, cond, inl, inr}
use Rattle.std.specs.Prelude.{Result, Ok, Err, nat_lt, ◌&&◌, ◌||◌, ◌==◌, ◌⊎◌, codes, is_some}
use Rattle.std.specs.List.{list_all, list_any, find, flat_map}
use Rattle.std.specs.Option.{option_map}
use Rattle.std.specs.Str.{bytes_eq}
use Rattle.std.proofs.lemmas.Bool.{and_parts, and_from}
use Rattle.std.proofs.lemmas.Slice.Eq.{bytes_eq-Decides}
use Rattle.spec_data.specs.Lists.{is_among}
use Rattle.spec_data.specs.Digits.{read_hex}
use Rattle.spec_terms.specs.Advert.{Advert}
use Rattle.spec_terms.specs.Parties.{participants}
use Rattle.spec_bitcoin.specs.declared.tx.OutPoint.{OutPoint}
use Rattle.spec_bitcoin.specs.declared.label.Label.{Label}
use Rattle.spec_compiler.specs.Scripts.{digest_of}
use Rattle.spec_compiler.specs.Keyed.Statements.{has_size}
use Rattle.spec_text.specs.Lines.{lines_of, words_of}
use Rattle.spec_text.specs.Words.{◌>>=◌, given, one_of}
use Rattle.spec_deal.specs.declared.deal.Deal.{Deal}
use Rattle.spec_deal.specs.declared.deal.Needed.{Needed}
use Rattle.spec_deal.specs.declared.deal.Needed.TheVariants as needs
use Rattle.spec_deal.specs.declared.fault.DealReason.TheVariants as reasons
use Rattle.spec_deal.specs.declared.fault.DealFault.{DealFault}
use Rattle.spec_deal.specs.declared.fault.DealFault.TheVariants as faults
use Rattle.spec_deal.specs.Sizes.{most_deal_bytes}
use Rattle.spec_deal.specs.Needed.{needed, needed_labels, needed_deposits, needed_secrets, same_needed, same_label}
use Rattle.spec_address.specs.Address.{is_hrp}
use Rattle.spec_deal.specs.Payable.{is_payable, pays_to_wallet}
use Rattle.spec_deal.specs.Setting.{key_at}
use Rattle.spec_deal.specs.Verifier.{Verifier}
use Rattle.spec_deal.specs.declared.entry.Value.{Value}
use Rattle.spec_deal.specs.declared.entry.Value.TheVariants.{Key as key, Place as place, Wallet as wallet, Hash as hash}
use Rattle.spec_deal.specs.declared.entry.Value.TheVariants.{Network as hrp, Script as script}
use Rattle.spec_deal.specs.declared.entry.Entry.{Entry}
use Rattle.spec_deal.specs.DealFile.{same_value}
use Rattle.spec_deal.specs.DealFile.{is_compressed, is_key, key_of_word, outpoint_of_words, place_of_words, hash_of_word, label_of_word}
use Rattle.spec_deal.specs.DealFile.{network_of_word, spelled_script, wallet_of_words, payee_of_word}
use Rattle.spec_deal.specs.DealFile.{Line, empty, bad, gives, given_once, with_value, with_needed, key_line, deposit_line, hash_line}
use Rattle.spec_deal.specs.DealFile.{network_line, payee_line, line_says, file_network, with_key, with_script, wallet_given, script_given}
use Rattle.spec_deal.specs.DealFile.{read_entries, read_lines, value_for, key_or_none, hash_or_none, entry_keys, is_used, is_missing}
use Rattle.spec_deal.specs.DealFile.{deal_of, is_given, first_missing, whole_deal, deal_judged, read_deal}
use Rattle.theory_calculus.specs.Members.{Is_in}
use Rattle.theory_calculus.proofs.Members.{all_append, all_in, all_map, all_then, found}
use Rattle.theory_calculus.proofs.Names.{bytes-true}
use Rattle.theory_deal.specs.Files.{IsSized, DealsAreSized, are_points, KeysArePoints, HasScripts, ScriptsArePayable}

-- ---- lists

pub there_found : {X : Type 0} (p : X → Bool) (xs : List X) → list_any p xs ≡ true → is_some (find p xs) ≡ true
there_found p [] h = cc
there_found p (x ∷ xs) h = by_test (p x) h (there_found p xs)
  where
    by_test : (b : Bool) → (b || list_any p xs) ≡ true → (list_any p xs ≡ true → is_some (find p xs) ≡ true)
        → is_some (cond b (Some x) (find p xs)) ≡ true
    by_test true k ih = refl
    by_test false k ih = ih k

all_right : {X : Type 0} (f : X → Bool) (xs ys : List X) → list_all f (xs ++ ys) ≡ true → list_all f ys ≡ true
all_right f [] ys h = h
all_right f (x ∷ xs) ys h = all_right f xs ys (and_parts (f x) (list_all f (xs ++ ys)) h).1

all_left : {X : Type 0} (f : X → Bool) (xs ys : List X) → list_all f (xs ++ ys) ≡ true → list_all f xs ≡ true
all_left f [] ys h = refl
all_left f (x ∷ xs) ys h = let p = and_parts (f x) (list_all f (xs ++ ys)) h in and_from _ _ p.0 (all_left f xs ys p.1)

or_later : (a b : Bool) → b ≡ true → (a || b) ≡ true
or_later true b h = refl
or_later false b h = h

-- what holds of each name holds of all
each_name : (f : List ℕ → Bool) (ns : List (List ℕ)) → ((n : List ℕ) → is_among n ns ≡ true → f n ≡ true) → list_all f ns ≡ true
each_name f [] g = refl
each_name f (n ∷ ns) g =
    and_from (f n) (list_all f ns)
    (g n (ap (λ (b : Bool). b || is_among n ns) ((bytes_eq-Decides n n).1 refl)))
    (each_name f ns (λ m k. g m (or_later (bytes_eq n m) (is_among m ns) k)))

-- and what holds of all holds of one of them
at_name : (f : List ℕ → Bool) (ns : List (List ℕ)) (m : List ℕ) → list_all f ns ≡ true → is_among m ns ≡ true → f m ≡ true
at_name f [] m h k = cc
at_name f (n ∷ ns) m h k =
    let p = and_parts (f n) (list_all f ns) h in
    by_test (bytes_eq n m) refl k p.0 (at_name f ns m p.1)
  where
    by_test : (b : Bool) → bytes_eq n m ≡ b → (b || is_among m ns) ≡ true → f n ≡ true → (is_among m ns ≡ true → f m ≡ true) → f m ≡ true
    by_test true e j x ih = subst (λ (y : List ℕ). f y ≡ true) (bytes-true n m e) x
    by_test false e j x ih = ih j

-- ---- what a line gives

-- a key that is a point to a label, a place to a deposit and a wallet's script beside it, a hash to a secret, an HRP to the network, and to a
-- payee a script where it may be paid
abbrev pub fits : Verifier → Needed → Value → Bool
fits v (needs.Key label) (key bytes) = is_key v bytes
fits v (needs.Deposit name) (place outpoint) = true
fits v (needs.Deposit name) (wallet outpoint own) = pays_to_wallet v own
fits v (needs.Hash name) (hash bytes) = has_size 32 bytes
fits v needs.Network (hrp part) = is_hrp part
fits v (needs.Payee party) (script bytes) = is_payable v bytes
fits v _ _ = false

abbrev pub entry_fits : Verifier → Entry → Bool
entry_fits v e = fits v e.needed e.value

abbrev pub AllFit : Verifier → List Entry → Type 0
AllFit v entries = list_all (entry_fits v) entries ≡ true

abbrev LineFits : Verifier → Line → Type 0
LineFits v empty = Unit {0}
LineFits v (bad reason) = Unit {0}
LineFits v (gives e) = entry_fits v e ≡ true

-- whatever is needed and given fits
abbrev BothFit : Verifier → Option Needed → Option Value → Type 0
BothFit v (Some what) (Some value) = fits v what value ≡ true
BothFit v (Some what) None = Unit {0}
BothFit v None value = Unit {0}

new_fits : (v : Verifier) (a b : Option Entry) (e : Entry) → entry_fits v e ≡ true → LineFits v (given_once a b e)
new_fits v (Some earlier) b e h = tt
new_fits v None (Some other) e h = tt
new_fits v None None e h = h

value_fits : (v : Verifier) (entries : List Entry) (n : ℕ) (what : Needed) (value : Option Value) → BothFit v (Some what) value
    → LineFits v (with_value entries n what value)
value_fits v entries n what None h = tt
value_fits v entries n what (Some value) h =
    new_fits v
    (find (λ (x : Entry). same_needed x.needed what) entries)
    (find (λ (x : Entry). same_value x.value value) entries)
    (record { line = n; needed = what; value = value }) h

needed_fits : (v : Verifier) (entries : List Entry) (n : ℕ) (what : Option Needed) (value : Option Value) → BothFit v what value
    → LineFits v (with_needed entries n what value)
needed_fits v entries n None value h = tt
needed_fits v entries n (Some what) value h = value_fits v entries n what value h

key_fits : (v : Verifier) (o : Option Label) (word : List ℕ) → BothFit v (option_map needs.Key o) (key_of_word v word)
key_fits v None word = tt
key_fits v (Some label) word = by_hex (read_hex word)
  where
    by_key : (bytes : List ℕ) (b : Bool) → is_key v bytes ≡ b → BothFit v (Some (needs.Key label)) (given b (key bytes))
    by_key bytes true e = e
    by_key bytes false e = tt

    by_hex : (o : Option (List ℕ)) → BothFit v (Some (needs.Key label)) (o >>= λ bytes. given (is_key v bytes) (key bytes))
    by_hex None = tt
    by_hex (Some bytes) = by_key bytes (is_key v bytes) refl

hash_fits : (v : Verifier) (o : Option (List ℕ)) (word : List ℕ) → BothFit v (option_map needs.Hash o) (hash_of_word word)
hash_fits v None word = tt
hash_fits v (Some name) word = by_hex (read_hex word)
  where
    by_size : (bytes : List ℕ) (b : Bool) → (length bytes == 32) ≡ b
        → BothFit v (Some (needs.Hash name)) (option_map hash (given b bytes))
    by_size bytes true e = e
    by_size bytes false e = tt

    by_hex : (o : Option (List ℕ))
        → BothFit v (Some (needs.Hash name)) (option_map hash (o >>= λ bytes. given (length bytes == 32) bytes))
    by_hex None = tt
    by_hex (Some bytes) = by_size bytes (length bytes == 32) refl

place_fits : (v : Verifier) (o : Option (List ℕ)) (txid vout : List ℕ) → BothFit v (option_map needs.Deposit o) (place_of_words txid vout)
place_fits v None txid vout = tt
place_fits v (Some name) txid vout = by_outpoint (outpoint_of_words txid vout)
  where
    by_outpoint : (o : Option OutPoint) → BothFit v (Some (needs.Deposit name)) (option_map place o)
    by_outpoint None = tt
    by_outpoint (Some outpoint) = refl

wallet_fits : (v : Verifier) (network o : Option (List ℕ)) (txid vout word : List ℕ)
    → BothFit v (option_map needs.Deposit o) (wallet_of_words v network txid vout word)
wallet_fits v network None txid vout word = tt
wallet_fits v network (Some name) txid vout word = by_both (outpoint_of_words txid vout) (spelled_script network word)
  where
    by_test : (outpoint : OutPoint) (bytes : List ℕ) (b : Bool) → pays_to_wallet v bytes ≡ b
        → BothFit v (Some (needs.Deposit name)) (given b (wallet outpoint bytes))
    by_test outpoint bytes true e = e
    by_test outpoint bytes false e = tt

    by_both : (p : Option OutPoint) (q : Option (List ℕ))
        → BothFit v (Some (needs.Deposit name))
        (p >>= λ outpoint. q >>= λ bytes. given (pays_to_wallet v bytes) (wallet outpoint bytes))
    by_both None q = tt
    by_both (Some outpoint) None = tt
    by_both (Some outpoint) (Some bytes) = by_test outpoint bytes (pays_to_wallet v bytes) refl

payee_fits : (v : Verifier) (network o : Option (List ℕ)) (word : List ℕ)
    → BothFit v (option_map needs.Payee o) (payee_of_word v network word)
payee_fits v network None word = tt
payee_fits v network (Some party) word = by_script (spelled_script network word)
  where
    by_test : (bytes : List ℕ) (b : Bool) → is_payable v bytes ≡ b → BothFit v (Some (needs.Payee party)) (given b (script bytes))
    by_test bytes true e = e
    by_test bytes false e = tt

    by_script : (o : Option (List ℕ)) → BothFit v (Some (needs.Payee party)) (o >>= λ bytes. given (is_payable v bytes) (script bytes))
    by_script None = tt
    by_script (Some bytes) = by_test bytes (is_payable v bytes) refl

network_fits : (v : Verifier) (word : List ℕ) → BothFit v (Some needs.Network) (network_of_word word)
network_fits v word = by_test (is_hrp word) refl
  where
    by_test : (b : Bool) → is_hrp word ≡ b → BothFit v (Some needs.Network) (given b (hrp word))
    by_test true e = e
    by_test false e = tt

-- ---- lines

module _ (v : Verifier) (network : Option (List ℕ)) (advert : Advert) where
  key_line_fits : (entries : List Entry) (n : ℕ) (words : List (List ℕ)) → LineFits v (key_line v advert entries n words)
  key_line_fits entries n [] = tt
  key_line_fits entries n (word ∷ []) = tt
  key_line_fits entries n (word ∷ (value ∷ [])) =
      needed_fits v entries n (option_map needs.Key (label_of_word advert word)) (key_of_word v value)
      (key_fits v (label_of_word advert word) value)
  key_line_fits entries n (word ∷ (value ∷ (next ∷ words))) = tt

  hash_line_fits : (entries : List Entry) (n : ℕ) (words : List (List ℕ)) → LineFits v (hash_line advert entries n words)
  hash_line_fits entries n [] = tt
  hash_line_fits entries n (word ∷ []) = tt
  hash_line_fits entries n (word ∷ (value ∷ [])) =
      needed_fits v entries n (option_map needs.Hash (one_of (needed_secrets advert) word)) (hash_of_word value)
      (hash_fits v (one_of (needed_secrets advert) word) value)
  hash_line_fits entries n (word ∷ (value ∷ (next ∷ words))) = tt

  deposit_line_fits : (entries : List Entry) (n : ℕ) (words : List (List ℕ)) → LineFits v (deposit_line v network advert entries n words)
  deposit_line_fits entries n [] = tt
  deposit_line_fits entries n (word ∷ []) = tt
  deposit_line_fits entries n (word ∷ (txid ∷ [])) = tt
  deposit_line_fits entries n (word ∷ (txid ∷ (vout ∷ []))) =
      needed_fits v entries n (option_map needs.Deposit (one_of (needed_deposits advert) word)) (place_of_words txid vout)
      (place_fits v (one_of (needed_deposits advert) word) txid vout)
  deposit_line_fits entries n (word ∷ (txid ∷ (vout ∷ (own ∷ [])))) =
      needed_fits v entries n (option_map needs.Deposit (one_of (needed_deposits advert) word)) (wallet_of_words v network txid vout own)
      (wallet_fits v network (one_of (needed_deposits advert) word) txid vout own)
  deposit_line_fits entries n (word ∷ (txid ∷ (vout ∷ (own ∷ (next ∷ words))))) = tt

  network_line_fits : (entries : List Entry) (n : ℕ) (words : List (List ℕ)) → LineFits v (network_line entries n words)
  network_line_fits entries n [] = tt
  network_line_fits entries n (word ∷ []) = value_fits v entries n needs.Network (network_of_word word) (network_fits v word)
  network_line_fits entries n (word ∷ (next ∷ words)) = tt

  payee_line_fits : (entries : List Entry) (n : ℕ) (words : List (List ℕ)) → LineFits v (payee_line v network advert entries n words)
  payee_line_fits entries n [] = tt
  payee_line_fits entries n (word ∷ []) = tt
  payee_line_fits entries n (word ∷ (value ∷ [])) =
      needed_fits v entries n (option_map needs.Payee (one_of (participants advert) word)) (payee_of_word v network value)
      (payee_fits v network (one_of (participants advert) word) value)
  payee_line_fits entries n (word ∷ (value ∷ (next ∷ words))) = tt

  line_fits : (entries : List Entry) (n : ℕ) (words : List (List ℕ)) → LineFits v (line_says v network advert entries n words)
  line_fits entries n [] = tt
  line_fits entries n (word ∷ words) =
      by_test (bytes_eq word (codes "key")) (bytes_eq word (codes "deposit")) (bytes_eq word (codes "hash"))
      (bytes_eq word (codes "network")) (bytes_eq word (codes "pay"))
    where
      by_test : (a b c d e : Bool)
          → LineFits v (cond a (key_line v advert entries n words)
          (cond b (deposit_line v network advert entries n words) (cond c (hash_line advert entries n words)
          (cond d (network_line entries n words) (cond e (payee_line v network advert entries n words) (bad reasons.Form))))))
      by_test true b c d e = key_line_fits entries n words
      by_test false true c d e = deposit_line_fits entries n words
      by_test false false true d e = hash_line_fits entries n words
      by_test false false false true e = network_line_fits entries n words
      by_test false false false false true = payee_line_fits entries n words
      by_test false false false false false = tt

  abbrev pub ReadFits : Result (List Entry) DealFault → Type 0
  ReadFits (Ok entries) = AllFit v entries
  ReadFits (Err fault) = Unit {0}

  pub entries_fit : (entries : List Entry) (n : ℕ) (lines : List (List ℕ)) → AllFit v entries
      → ReadFits (read_entries v network advert entries n lines)
  entries_fit entries n [] h = h
  entries_fit entries n (line ∷ lines) h =
      by_line (line_says v network advert entries n (words_of line)) (line_fits entries n (words_of line))
      (entries_fit entries (n + 1) lines h)
      (λ e k. entries_fit (entries ++ e ∷ []) (n + 1) lines
      (all_append (entry_fits v) entries (e ∷ []) h (ap (λ (b : Bool). b && true) k)))
    where
      by_line : (l : Line) → LineFits v l → ReadFits (read_entries v network advert entries (n + 1) lines)
          → ((e : Entry) → entry_fits v e ≡ true → ReadFits (read_entries v network advert (entries ++ e ∷ []) (n + 1) lines))
          → ReadFits (elim l [
            | empty ↦ read_entries v network advert entries (n + 1) lines
            | bad reason ↦ Err (faults.Line n reason)
            | gives e ↦ read_entries v network advert (entries ++ e ∷ []) (n + 1) lines
          ])
      by_line empty k same more = same
      by_line (bad reason) k same more = tt
      by_line (gives e) k same more = more e k

-- ---- what entries give

-- the value of this is that of an entry to it, which fits
pub record IsValue (v : Verifier) (entries : List Entry) (what : Needed) (value : Value) : Type 0 where
  pub entry : Entry
  pub finds : find (λ (e : Entry). same_needed e.needed what) entries ≡ Some entry
  pub of_it : same_needed entry.needed what ≡ true
  pub fitting : fits v entry.needed value ≡ true
  pub same : entry.value ≡ value

pub value_there : (v : Verifier) (entries : List Entry) → AllFit v entries → (what : Needed) (value : Value)
    → value_for entries what ≡ Some value → IsValue v entries what value
value_there v entries all what value h = by_found (find (λ (e : Entry). same_needed e.needed what) entries) refl h
  where
    by_found : (o : Option Entry) → find (λ (e : Entry). same_needed e.needed what) entries ≡ o
        → option_map (λ (e : Entry). e.value) o ≡ Some value → IsValue v entries what value
    by_found None e k = cc
    by_found (Some x) e k =
        let r = found (λ (y : Entry). same_needed y.needed what) entries x e in
        let same : x.value ≡ value = cc in
        record {
          entry = x;
          finds = e;
          of_it = r.1;
          fitting = subst (λ (y : Value). fits v x.needed y ≡ true) same (all_in (entry_fits v) entries x all r.0);
          same = same;
        }

-- what is given has a value
pub given_some : (entries : List Entry) (what : Needed) → is_given entries what ≡ true → is_some (value_for entries what) ≡ true
given_some entries what h =
    by_found (find (λ (e : Entry). same_needed e.needed what) entries) (there_found (λ (e : Entry). same_needed e.needed what) entries h)
  where
    by_found : (o : Option Entry) → is_some o ≡ true → is_some (option_map (λ (e : Entry). e.value) o) ≡ true
    by_found None k = cc
    by_found (Some x) k = refl

-- the value that is there
pub the_value : (o : Option Value) → is_some o ≡ true → (value : Value) × (o ≡ Some value)
the_value None h = cc
the_value (Some value) h = (value, refl)

-- values that fit a label, a deposit, a secret, the network, a payee

pub key_value : (v : Verifier) (label : Label) (what : Needed) (value : Value) → same_needed what (needs.Key label) ≡ true
    → fits v what value ≡ true → (bytes : List ℕ) × (value ≡ key bytes) × (is_key v bytes ≡ true)
key_value v label (needs.Key l) (key bytes) m h = (bytes, refl, h)
key_value v label (needs.Key l) (place outpoint) m h = cc
key_value v label (needs.Key l) (wallet outpoint own) m h = cc
key_value v label (needs.Key l) (hash bytes) m h = cc
key_value v label (needs.Key l) (hrp part) m h = cc
key_value v label (needs.Key l) (script bytes) m h = cc
key_value v label (needs.Deposit name) value m h = cc
key_value v label (needs.Hash name) value m h = cc
key_value v label needs.Network value m h = cc
key_value v label (needs.Payee party) value m h = cc

pub hash_value : (v : Verifier) (name : List ℕ) (what : Needed) (value : Value) → same_needed what (needs.Hash name) ≡ true
    → fits v what value ≡ true → (bytes : List ℕ) × (value ≡ hash bytes) × (has_size 32 bytes ≡ true)
hash_value v name (needs.Hash l) (hash bytes) m h = (bytes, refl, h)
hash_value v name (needs.Hash l) (place outpoint) m h = cc
hash_value v name (needs.Hash l) (wallet outpoint own) m h = cc
hash_value v name (needs.Hash l) (key bytes) m h = cc
hash_value v name (needs.Hash l) (hrp part) m h = cc
hash_value v name (needs.Hash l) (script bytes) m h = cc
hash_value v name (needs.Key label) value m h = cc
hash_value v name (needs.Deposit other) value m h = cc
hash_value v name needs.Network value m h = cc
hash_value v name (needs.Payee party) value m h = cc

-- a deposit has a place alone, or with the script of its wallet
abbrev pub IsDepositValue : Verifier → Value → Type 0
IsDepositValue v value =
    ((outpoint : OutPoint) × (value ≡ place outpoint))
    ⊎ ((outpoint : OutPoint) × (own : List ℕ) × (value ≡ wallet outpoint own) × (pays_to_wallet v own ≡ true))

pub deposit_value : (v : Verifier) (name : List ℕ) (what : Needed) (value : Value) → same_needed what (needs.Deposit name) ≡ true
    → fits v what value ≡ true → IsDepositValue v value
deposit_value v name (needs.Deposit l) (place outpoint) m h = inl (outpoint, refl)
deposit_value v name (needs.Deposit l) (wallet outpoint own) m h = inr (outpoint, own, refl, h)
deposit_value v name (needs.Deposit l) (hash bytes) m h = cc
deposit_value v name (needs.Deposit l) (key bytes) m h = cc
deposit_value v name (needs.Deposit l) (hrp part) m h = cc
deposit_value v name (needs.Deposit l) (script bytes) m h = cc
deposit_value v name (needs.Key label) value m h = cc
deposit_value v name (needs.Hash other) value m h = cc
deposit_value v name needs.Network value m h = cc
deposit_value v name (needs.Payee party) value m h = cc

pub network_value : (v : Verifier) (what : Needed) (value : Value) → same_needed what needs.Network ≡ true
    → fits v what value ≡ true → (part : List ℕ) × (value ≡ hrp part)
network_value v needs.Network (hrp part) m h = (part, refl)
network_value v needs.Network (place outpoint) m h = cc
network_value v needs.Network (wallet outpoint own) m h = cc
network_value v needs.Network (hash bytes) m h = cc
network_value v needs.Network (key bytes) m h = cc
network_value v needs.Network (script bytes) m h = cc
network_value v (needs.Key label) value m h = cc
network_value v (needs.Hash other) value m h = cc
network_value v (needs.Deposit other) value m h = cc
network_value v (needs.Payee party) value m h = cc

pub payee_value : (v : Verifier) (name : List ℕ) (what : Needed) (value : Value) → same_needed what (needs.Payee name) ≡ true
    → fits v what value ≡ true → (bytes : List ℕ) × (value ≡ script bytes) × (is_payable v bytes ≡ true)
payee_value v name (needs.Payee l) (script bytes) m h = (bytes, refl, h)
payee_value v name (needs.Payee l) (place outpoint) m h = cc
payee_value v name (needs.Payee l) (wallet outpoint own) m h = cc
payee_value v name (needs.Payee l) (hash bytes) m h = cc
payee_value v name (needs.Payee l) (key bytes) m h = cc
payee_value v name (needs.Payee l) (hrp part) m h = cc
payee_value v name (needs.Key label) value m h = cc
payee_value v name (needs.Hash other) value m h = cc
payee_value v name (needs.Deposit other) value m h = cc
payee_value v name needs.Network value m h = cc

-- ---- the deal

key_size : (v : Verifier) (bytes : List ℕ) → is_key v bytes ≡ true → length bytes ≡ 33
key_size v [] h = cc
key_size v (b ∷ bytes) h =
    let size = (and_parts (b == 2 || b == 3) (length (b ∷ bytes) == 33) (and_parts (is_compressed (b ∷ bytes)) (v.is_point (b ∷ bytes)) h).0).1 in
    grind (arith, size)

pub none_fail : {X : Type 0} (p : X → Bool) (xs : List X) → find p xs ≡ None → list_all (λ x. not (p x)) xs ≡ true
none_fail p [] h = refl
none_fail p (x ∷ xs) h = by_test (p x) h (none_fail p xs)
  where
    by_test : (b : Bool) → cond b (Some x) (find p xs) ≡ None → (find p xs ≡ None → list_all (λ y. not (p y)) xs ≡ true)
        → (not b && list_all (λ y. not (p y)) xs) ≡ true
    by_test true k ih = cc
    by_test false k ih = ih k

module _ (v : Verifier) (advert : Advert) (entries : List Entry) (all : AllFit v entries) where
  one_key : (label : Label) (value : Value) → value_for entries (needs.Key label) ≡ Some value → length (key_or_none (Some value)) ≡ 33
  one_key label value h =
      let r = value_there v entries all (needs.Key label) value h in
      let k = key_value v label r.entry.needed value r.of_it r.fitting in
      ap (λ (x : Value). length (key_or_none (Some x))) k.1 ∙ key_size v k.0 k.2

  abbrev pub keys_of : List Label → List (Label × List ℕ)
  keys_of ls = flat_map (λ l. with_key l (value_for entries (needs.Key l))) ls

  keys_long : (ls : List Label) (label : Label) → length (key_at (keys_of ls) label) ≡ 33
  keys_long [] label = refl
  keys_long (l ∷ ls) label = by_value (value_for entries (needs.Key l)) refl (keys_long ls label)
    where
      by_test : (value : Value) (b : Bool) → value_for entries (needs.Key l) ≡ Some value → length (key_at (keys_of ls) label) ≡ 33
          → length (cond b (key_or_none (Some value)) (key_at (keys_of ls) label)) ≡ 33
      by_test value true e ih = one_key l value e
      by_test value false e ih = ih

      by_value : (o : Option Value) → value_for entries (needs.Key l) ≡ o → length (key_at (keys_of ls) label) ≡ 33
          → length (key_at (with_key l o ++ keys_of ls) label) ≡ 33
      by_value None e ih = ih
      by_value (Some value) e ih = by_test value (same_label l label) e ih

  -- ---- points

  points : (ls : List Label) → list_all (λ (p : Label × List ℕ). v.is_point p.1) (keys_of ls) ≡ true
  points [] = refl
  points (l ∷ ls) = by_value (value_for entries (needs.Key l)) refl (points ls)
    where
      by_value : (o : Option Value) → value_for entries (needs.Key l) ≡ o
          → list_all (λ (p : Label × List ℕ). v.is_point p.1) (keys_of ls) ≡ true
          → list_all (λ (p : Label × List ℕ). v.is_point p.1) (with_key l o ++ keys_of ls) ≡ true
      by_value None e ih = ih
      by_value (Some value) e ih =
          let r = value_there v entries all (needs.Key l) value e in
          let k = key_value v l r.entry.needed value r.of_it r.fitting in
          and_from (v.is_point (key_or_none (Some value))) _
          (ap (λ (x : Value). v.is_point (key_or_none (Some x))) k.1 ∙ (and_parts (is_compressed k.0) (v.is_point k.0) k.2).1) ih

  -- ---- scripts

  wallets_pay : (ns : List (List ℕ))
      → list_all (λ (p : List ℕ × List ℕ). pays_to_wallet v p.1)
      (flat_map (λ name. with_script name (wallet_given (value_for entries (needs.Deposit name)))) ns)
      ≡ true
  wallets_pay [] = refl
  wallets_pay (n ∷ ns) = by_value (value_for entries (needs.Deposit n)) refl (wallets_pay ns)
    where
      rest : List (List ℕ × List ℕ)
      rest = flat_map (λ name. with_script name (wallet_given (value_for entries (needs.Deposit name)))) ns

      by_kind : (value : Value) → IsDepositValue v value → list_all (λ (p : List ℕ × List ℕ). pays_to_wallet v p.1) rest ≡ true
          → list_all (λ (p : List ℕ × List ℕ). pays_to_wallet v p.1) (with_script n (wallet_given (Some value)) ++ rest) ≡ true
      by_kind value (inl k) ih =
          ap (λ (x : Value). list_all (λ (p : List ℕ × List ℕ). pays_to_wallet v p.1) (with_script n (wallet_given (Some x)) ++ rest)) k.1
          ∙ ih
      by_kind value (inr k) ih =
          ap (λ (x : Value). list_all (λ (p : List ℕ × List ℕ). pays_to_wallet v p.1) (with_script n (wallet_given (Some x)) ++ rest)) k.2
          ∙ and_from (pays_to_wallet v k.1) _ k.3 ih

      by_value : (o : Option Value) → value_for entries (needs.Deposit n) ≡ o
          → list_all (λ (p : List ℕ × List ℕ). pays_to_wallet v p.1) rest ≡ true
          → list_all (λ (p : List ℕ × List ℕ). pays_to_wallet v p.1) (with_script n (wallet_given o) ++ rest) ≡ true
      by_value None e ih = ih
      by_value (Some value) e ih =
          let r = value_there v entries all (needs.Deposit n) value e in
          by_kind value (deposit_value v n r.entry.needed value r.of_it r.fitting) ih

  payees_pay : (ns : List (List ℕ))
      → list_all (λ (p : List ℕ × List ℕ). is_payable v p.1)
      (flat_map (λ party. with_script party (script_given (value_for entries (needs.Payee party)))) ns)
      ≡ true
  payees_pay [] = refl
  payees_pay (n ∷ ns) = by_value (value_for entries (needs.Payee n)) refl (payees_pay ns)
    where
      rest : List (List ℕ × List ℕ)
      rest = flat_map (λ party. with_script party (script_given (value_for entries (needs.Payee party)))) ns

      by_value : (o : Option Value) → value_for entries (needs.Payee n) ≡ o
          → list_all (λ (p : List ℕ × List ℕ). is_payable v p.1) rest ≡ true
          → list_all (λ (p : List ℕ × List ℕ). is_payable v p.1) (with_script n (script_given o) ++ rest) ≡ true
      by_value None e ih = ih
      by_value (Some value) e ih =
          let r = value_there v entries all (needs.Payee n) value e in
          let k = payee_value v n r.entry.needed value r.of_it r.fitting in
          ap (λ (x : Value). list_all (λ (p : List ℕ × List ℕ). is_payable v p.1) (with_script n (script_given (Some x)) ++ rest)) k.1
          ∙ and_from (is_payable v k.0) _ k.2 ih

  -- ---- what is needed

  -- nothing of what is needed is missing
  pub settled : first_missing advert entries ≡ None → list_all (λ what. not (is_missing advert entries what)) (needed advert) ≡ true
  settled h = none_fail (is_missing advert entries) (needed advert) h

  -- what is used of what isn't missing is given
  pub given_if : (what : Needed) → not (is_missing advert entries what) ≡ true
      → is_used (entry_keys advert entries) advert what ≡ true → is_given entries what ≡ true
  given_if what h u = by_test (is_given entries what) (is_used (entry_keys advert entries) advert what) refl u h
    where
      by_test : (a b : Bool) → is_given entries what ≡ a → b ≡ true → not (not a && b) ≡ true → is_given entries what ≡ true
      by_test true b e f k = e
      by_test false true e f k = cc
      by_test false false e f k = cc

  pub keys_settled : first_missing advert entries ≡ None
      → list_all (λ l. not (is_missing advert entries (needs.Key l))) (needed_labels advert) ≡ true
  keys_settled h =
      sym (all_map (λ what. not (is_missing advert entries what)) needs.Key (needed_labels advert))
      ∙ all_left (λ what. not (is_missing advert entries what)) (map needs.Key (needed_labels advert)) _ (settled h)

  -- of a label that is used a key is given
  pub used_value : first_missing advert entries ≡ None → (label : Label) → Is_in label (needed_labels advert)
      → is_used (entry_keys advert entries) advert (needs.Key label) ≡ true
      → (value : Value) × (value_for entries (needs.Key label) ≡ Some value)
  used_value h label i u =
      let there = given_if (needs.Key label)
      (all_in (λ l. not (is_missing advert entries (needs.Key l))) (needed_labels advert) label (keys_settled h) i) u in
      the_value (value_for entries (needs.Key label)) (given_some entries (needs.Key label) there)

  pub deposits_given : first_missing advert entries ≡ None
      → list_all (λ name. is_given entries (needs.Deposit name)) (needed_deposits advert) ≡ true
  deposits_given h =
      all_then (λ name. not (is_missing advert entries (needs.Deposit name))) (λ name. is_given entries (needs.Deposit name))
      (needed_deposits advert) (λ name k. given_if (needs.Deposit name) k refl)
      (sym (all_map (λ what. not (is_missing advert entries what)) needs.Deposit (needed_deposits advert))
      ∙ all_left (λ what. not (is_missing advert entries what)) (map needs.Deposit (needed_deposits advert))
      (map needs.Hash (needed_secrets advert))
      (all_right (λ what. not (is_missing advert entries what)) (map needs.Key (needed_labels advert)) _ (settled h)))

  pub secrets_given : first_missing advert entries ≡ None
      → list_all (λ name. is_given entries (needs.Hash name)) (needed_secrets advert) ≡ true
  secrets_given h =
      all_then (λ name. not (is_missing advert entries (needs.Hash name))) (λ name. is_given entries (needs.Hash name))
      (needed_secrets advert) (λ name k. given_if (needs.Hash name) k refl)
      (sym (all_map (λ what. not (is_missing advert entries what)) needs.Hash (needed_secrets advert))
      ∙ all_right (λ what. not (is_missing advert entries what)) (map needs.Deposit (needed_deposits advert))
      (map needs.Hash (needed_secrets advert))
      (all_right (λ what. not (is_missing advert entries what)) (map needs.Key (needed_labels advert)) _ (settled h)))

  -- ---- hashes

  one_hash : (name : List ℕ) → is_given entries (needs.Hash name) ≡ true
      → has_size 32 (hash_or_none (value_for entries (needs.Hash name))) ≡ true
  one_hash name h =
      let x = the_value (value_for entries (needs.Hash name)) (given_some entries (needs.Hash name) h) in
      let r = value_there v entries all (needs.Hash name) x.0 x.1 in
      let k = hash_value v name r.entry.needed x.0 r.of_it r.fitting in
      ap (λ (o : Option Value). has_size 32 (hash_or_none o)) x.1
      ∙ ap (λ (y : Value). has_size 32 (hash_or_none (Some y))) k.1
      ∙ k.2

  digest_sized : (ns : List (List ℕ)) (name : List ℕ) → is_among name ns ≡ true → is_given entries (needs.Hash name) ≡ true
      → has_size 32 (digest_of (map (λ n. (n, hash_or_none (value_for entries (needs.Hash n)))) ns) name) ≡ true
  digest_sized [] name h k = cc
  digest_sized (n ∷ ns) name h k = by_test (bytes_eq n name) refl h (λ m. digest_sized ns name m k)
    where
      by_test : (b : Bool) → bytes_eq n name ≡ b → (b || is_among name ns) ≡ true
          → (is_among name ns ≡ true
          → has_size 32 (digest_of (map (λ x. (x, hash_or_none (value_for entries (needs.Hash x)))) ns) name) ≡ true)
          → has_size 32 (cond b (hash_or_none (value_for entries (needs.Hash n)))
          (digest_of (map (λ x. (x, hash_or_none (value_for entries (needs.Hash x)))) ns) name)) ≡ true
      by_test true e m ih =
          one_hash n (subst (λ (x : List ℕ). is_given entries (needs.Hash x) ≡ true) (sym (bytes-true n name e)) k)
      by_test false e m ih = ih m

  hashes_sized : first_missing advert entries ≡ None
      → list_all (λ name. has_size 32 (digest_of (deal_of advert entries).hashes name)) (needed_secrets advert) ≡ true
  hashes_sized h =
      each_name (λ name. has_size 32 (digest_of (deal_of advert entries).hashes name)) (needed_secrets advert)
      (λ name m.
      digest_sized (needed_secrets advert) name m
      (at_name (λ n. is_given entries (needs.Hash n)) (needed_secrets advert) name (secrets_given h) m))

module _ (v : Verifier) (advert : Advert) (text : List ℕ) (deal : Deal) where
  -- a deal that is taken is that of entries that fit and that give all that is needed
  pub record IsOf : Type 0 where
    pub entries : List Entry
    pub read : read_lines v advert (lines_of text) ≡ Ok entries
    pub fit : AllFit v entries
    pub none : first_missing advert entries ≡ None
    pub same : deal_of advert entries ≡ deal

  pub is_of : read_deal v advert text ≡ Ok deal → IsOf
  is_of e = by_size (nat_lt most_deal_bytes (length text)) e
    where
      by_missing : (entries : List Entry) (o : Option Needed) → read_lines v advert (lines_of text) ≡ Ok entries → AllFit v entries
          → first_missing advert entries ≡ o → whole_deal advert entries o ≡ Ok deal → IsOf
      by_missing entries (Some what) read all is k = cc
      by_missing entries None read all is k = record { entries = entries; read = read; fit = all; none = is; same = cc }

      by_entries : (r : Result (List Entry) DealFault) → read_lines v advert (lines_of text) ≡ r
          → ReadFits v (file_network (lines_of text)) advert r → deal_judged advert r ≡ Ok deal → IsOf
      by_entries (Err fault) read h k = cc
      by_entries (Ok entries) read h k = by_missing entries (first_missing advert entries) read h refl k

      by_size : (b : Bool) → cond b (Err faults.Size) (deal_judged advert (read_lines v advert (lines_of text))) ≡ Ok deal → IsOf
      by_size true k = cc
      by_size false k =
          by_entries (read_lines v advert (lines_of text)) refl
          (entries_fit v (file_network (lines_of text)) advert [] 1 (lines_of text) refl) k

pub deals_are_sized : DealsAreSized
deals_are_sized v hash_of advert text deal e =
    let d = is_of v advert text deal e in
    subst (IsSized hash_of advert) d.same (record {
      are_keys = λ label. keys_long v advert d.entries d.fit (needed_labels advert) label;
      applied = λ checked. record { checked = checked; committed = hashes_sized v advert d.entries d.fit d.none };
    })

pub keys_are_points : KeysArePoints
keys_are_points v advert text deal e =
    let d = is_of v advert text deal e in
    subst (λ (x : Deal). are_points v x ≡ true) d.same (points v advert d.entries d.fit (needed_labels advert))

pub scripts_are_payable : ScriptsArePayable
scripts_are_payable v advert text deal e =
    let d = is_of v advert text deal e in
    subst (HasScripts v) d.same (record {
      wallets = wallets_pay v advert d.entries d.fit (needed_deposits advert);
      payees = payees_pay v advert d.entries d.fit (participants advert);
    })
