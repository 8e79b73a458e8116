-- The deposits of a deal that is taken lie at different places, since no line gives a value that another has given.
use Rattle.std.proofs.Common.{◌≡◌, ℕ, ◌+◌, List, [], ◌∷◌, ◌++◌, map, Bool, true, false, Option, Some, None, refl, sym, ap, ◌∙◌, subst, cond}
use Rattle.std.proofs.Common.{inl, inr}
use Rattle.std.specs.Prelude.{◌⊎◌, ◌||◌, Result, Ok, Err, codes}
use Rattle.std.specs.List.{find}
use Rattle.std.specs.Option.{option_map}
use Rattle.std.specs.Str.{bytes_eq}
use Rattle.std.proofs.lemmas.Bool.{both_ways}
use Rattle.spec_data.specs.Lists.{is_among, look_up}
use Rattle.spec_terms.specs.Advert.{Advert}
use Rattle.spec_terms.specs.Parties.{participants}
use Rattle.spec_bitcoin.specs.declared.tx.OutPoint.{OutPoint}
use Rattle.spec_bitcoin.specs.Live.{same_outpoint}
use Rattle.spec_compiler.specs.Keyed.Transactions.{outpoint_or_none}
use Rattle.spec_text.specs.Lines.{lines_of, words_of}
use Rattle.spec_text.specs.Words.{one_of}
use Rattle.spec_deal.specs.declared.deal.Deal.{Deal}
use Rattle.spec_deal.specs.declared.deal.Needed.{Needed}
use Rattle.spec_deal.specs.declared.deal.Needed.TheVariants as needs
use Rattle.spec_deal.specs.declared.entry.Value.{Value}
use Rattle.spec_deal.specs.declared.entry.Value.TheVariants.{Key as key, Place as place, Wallet as wallet, Hash as hash}
use Rattle.spec_deal.specs.declared.entry.Value.TheVariants.{Network as hrp, Script as script}
use Rattle.spec_deal.specs.declared.entry.Entry.{Entry}
use Rattle.spec_deal.specs.declared.fault.DealReason.TheVariants as reasons
use Rattle.spec_deal.specs.declared.fault.DealFault.{DealFault}
use Rattle.spec_deal.specs.declared.fault.DealFault.TheVariants as faults
use Rattle.spec_deal.specs.DealFile.{same_value, key_of_word, place_of_words, hash_of_word, label_of_word}
use Rattle.spec_deal.specs.DealFile.{Line, empty, bad, gives, given_once, with_value, with_needed, key_line, deposit_line, hash_line}
use Rattle.spec_deal.specs.DealFile.{network_line, payee_line, line_says, network_of_word, wallet_of_words, payee_of_word}
use Rattle.spec_deal.specs.DealFile.{file_network, read_entries, value_for, place_or_none, is_given, read_deal}
use Rattle.spec_deal.specs.Needed.{needed_deposits, needed_secrets, same_needed}
use Rattle.spec_deal.specs.Verifier.{Verifier}
use Rattle.theory_calculus.specs.Members.{Is_in}
use Rattle.theory_calculus.proofs.Members.{in_append, found}
use Rattle.theory_calculus.proofs.Names.{bytes-true, all_among}
use Rattle.theory_world.proofs.Same.{place-true}
use Rattle.theory_deal.proofs.Listed.{none_found}
use Rattle.theory_deal.proofs.DealLines.{value_decides}
use Rattle.theory_deal.proofs.ReadDeals.{AllFit, value_there, given_some, the_value, IsDepositValue, deposit_value, deposits_given, is_of}
use Rattle.theory_deal.specs.DealLines.{IsShared}

-- ---- entries

-- each value that may not be given twice is given once
abbrev pub EachOnce : List Entry → Type 0
EachOnce entries = (x y : Entry) → Is_in x entries → Is_in y entries → IsShared x.value y.value → x ≡ y

-- none of these gives its value
abbrev IsNew : List Entry → Entry → Type 0
IsNew entries e = find (λ (x : Entry). same_value x.value e.value) entries ≡ None

-- what is shared is shared both ways
shared_back : (a b : Value) → IsShared a b → IsShared b a
shared_back (key a) (key b) h = sym h
shared_back (place a) (place b) h = sym h
shared_back (place a) (wallet b other) h = sym h
shared_back (wallet a own) (place b) h = sym h
shared_back (wallet a own) (wallet b other) h = sym h
shared_back (hash a) (hash b) h = sym h
shared_back (key a) (place b) h = absurd h
shared_back (key a) (wallet b other) h = absurd h
shared_back (key a) (hash b) h = absurd h
shared_back (key a) (hrp b) h = absurd h
shared_back (key a) (script b) h = absurd h
shared_back (place a) (key b) h = absurd h
shared_back (place a) (hash b) h = absurd h
shared_back (place a) (hrp b) h = absurd h
shared_back (place a) (script b) h = absurd h
shared_back (wallet a own) (key b) h = absurd h
shared_back (wallet a own) (hash b) h = absurd h
shared_back (wallet a own) (hrp b) h = absurd h
shared_back (wallet a own) (script b) h = absurd h
shared_back (hash a) (key b) h = absurd h
shared_back (hash a) (place b) h = absurd h
shared_back (hash a) (wallet b other) h = absurd h
shared_back (hash a) (hrp b) h = absurd h
shared_back (hash a) (script b) h = absurd h
shared_back (hrp a) (key b) h = absurd h
shared_back (hrp a) (place b) h = absurd h
shared_back (hrp a) (wallet b other) h = absurd h
shared_back (hrp a) (hash b) h = absurd h
shared_back (hrp a) (hrp b) h = absurd h
shared_back (hrp a) (script b) h = absurd h
shared_back (script a) (key b) h = absurd h
shared_back (script a) (place b) h = absurd h
shared_back (script a) (wallet b other) h = absurd h
shared_back (script a) (hash b) h = absurd h
shared_back (script a) (hrp b) h = absurd h
shared_back (script a) (script b) h = absurd h

-- what gives the same isn't new
not_new : (entries : List Entry) (e x : Entry) → IsNew entries e → Is_in x entries → IsShared x.value e.value → ⊥
not_new entries e x new i same =
    both_ways _ (none_found (λ (y : Entry). same_value y.value e.value) entries x new i) ((value_decides x.value e.value).1 same)

one_more : (entries : List Entry) (e : Entry) → EachOnce entries → IsNew entries e → EachOnce (entries ++ e ∷ [])
one_more entries e once new x y i j same = by_both (in_append x entries (e ∷ []) i) (in_append y entries (e ∷ []) j)
  where
    by_both : Is_in x entries ⊎ Is_in x (e ∷ []) → Is_in y entries ⊎ Is_in y (e ∷ []) → x ≡ y
    by_both (inl a) (inl b) = once x y a b same
    by_both (inl a) (inr (inl b)) = absurd (not_new entries e x new a (subst (λ (z : Entry). IsShared x.value z.value) b same))
    by_both (inr (inl a)) (inl b) =
        absurd (not_new entries e y new b (subst (λ (z : Entry). IsShared y.value z.value) a (shared_back x.value y.value same)))
    by_both (inr (inl a)) (inr (inl b)) = a ∙ sym b
    by_both (inl a) (inr (inr b)) = absurd b
    by_both (inr (inr a)) b = absurd a
    by_both (inr (inl a)) (inr (inr b)) = absurd b

-- ---- lines

abbrev GivesNew : List Entry → Line → Type 0
GivesNew entries empty = Unit {0}
GivesNew entries (bad reason) = Unit {0}
GivesNew entries (gives e) = IsNew entries e

once_new : (entries : List Entry) (a b : Option Entry) (e : Entry) → find (λ (x : Entry). same_value x.value e.value) entries ≡ b
    → GivesNew entries (given_once a b e)
once_new entries (Some earlier) b e h = tt
once_new entries None (Some other) e h = tt
once_new entries None None e h = h

value_new : (entries : List Entry) (n : ℕ) (what : Needed) (value : Option Value) → GivesNew entries (with_value entries n what value)
value_new entries n what None = tt
value_new entries n what (Some value) =
    once_new entries
    (find (λ (x : Entry). same_needed x.needed what) entries)
    (find (λ (x : Entry). same_value x.value value) entries)
    (record { line = n; needed = what; value = value }) refl

needed_new : (entries : List Entry) (n : ℕ) (what : Option Needed) (value : Option Value) → GivesNew entries (with_needed entries n what value)
needed_new entries n None value = tt
needed_new entries n (Some what) value = value_new entries n what value

module _ (v : Verifier) (network : Option (List ℕ)) (advert : Advert) where
  key_new : (entries : List Entry) (n : ℕ) (words : List (List ℕ)) → GivesNew entries (key_line v advert entries n words)
  key_new entries n [] = tt
  key_new entries n (word ∷ []) = tt
  key_new entries n (word ∷ (value ∷ [])) = needed_new entries n (option_map needs.Key (label_of_word advert word)) (key_of_word v value)
  key_new entries n (word ∷ (value ∷ (next ∷ words))) = tt

  hash_new : (entries : List Entry) (n : ℕ) (words : List (List ℕ)) → GivesNew entries (hash_line advert entries n words)
  hash_new entries n [] = tt
  hash_new entries n (word ∷ []) = tt
  hash_new entries n (word ∷ (value ∷ [])) =
      needed_new entries n (option_map needs.Hash (one_of (needed_secrets advert) word)) (hash_of_word value)
  hash_new entries n (word ∷ (value ∷ (next ∷ words))) = tt

  deposit_new : (entries : List Entry) (n : ℕ) (words : List (List ℕ)) → GivesNew entries (deposit_line v network advert entries n words)
  deposit_new entries n [] = tt
  deposit_new entries n (word ∷ []) = tt
  deposit_new entries n (word ∷ (txid ∷ [])) = tt
  deposit_new entries n (word ∷ (txid ∷ (vout ∷ []))) =
      needed_new entries n (option_map needs.Deposit (one_of (needed_deposits advert) word)) (place_of_words txid vout)
  deposit_new entries n (word ∷ (txid ∷ (vout ∷ (own ∷ [])))) =
      needed_new entries n (option_map needs.Deposit (one_of (needed_deposits advert) word)) (wallet_of_words v network txid vout own)
  deposit_new entries n (word ∷ (txid ∷ (vout ∷ (own ∷ (next ∷ words))))) = tt

  network_new : (entries : List Entry) (n : ℕ) (words : List (List ℕ)) → GivesNew entries (network_line entries n words)
  network_new entries n [] = tt
  network_new entries n (word ∷ []) = value_new entries n needs.Network (network_of_word word)
  network_new entries n (word ∷ (next ∷ words)) = tt

  payee_new : (entries : List Entry) (n : ℕ) (words : List (List ℕ)) → GivesNew entries (payee_line v network advert entries n words)
  payee_new entries n [] = tt
  payee_new entries n (word ∷ []) = tt
  payee_new entries n (word ∷ (value ∷ [])) =
      needed_new entries n (option_map needs.Payee (one_of (participants advert) word)) (payee_of_word v network value)
  payee_new entries n (word ∷ (value ∷ (next ∷ words))) = tt

  line_new : (entries : List Entry) (n : ℕ) (words : List (List ℕ)) → GivesNew entries (line_says v network advert entries n words)
  line_new entries n [] = tt
  line_new entries n (word ∷ words) =
      by_test (bytes_eq word (codes "key")) (bytes_eq word (codes "deposit")) (bytes_eq word (codes "hash"))
      (bytes_eq word (codes "network")) (bytes_eq word (codes "pay"))
    where
      by_test : (a b c d e : Bool)
          → GivesNew entries (cond a (key_line v advert entries n words)
          (cond b (deposit_line v network advert entries n words) (cond c (hash_line advert entries n words)
          (cond d (network_line entries n words) (cond e (payee_line v network advert entries n words) (bad reasons.Form))))))
      by_test true b c d e = key_new entries n words
      by_test false true c d e = deposit_new entries n words
      by_test false false true d e = hash_new entries n words
      by_test false false false true e = network_new entries n words
      by_test false false false false true = payee_new entries n words
      by_test false false false false false = tt

  abbrev pub IfOnce : Result (List Entry) DealFault → Type 0
  IfOnce (Ok entries) = EachOnce entries
  IfOnce (Err fault) = Unit {0}

  pub entries_once : (entries : List Entry) (n : ℕ) (lines : List (List ℕ)) → EachOnce entries → IfOnce (read_entries v network advert entries n lines)
  entries_once entries n [] h = h
  entries_once entries n (line ∷ lines) h =
      by_line (line_says v network advert entries n (words_of line)) (line_new entries n (words_of line)) (entries_once entries (n + 1) lines h)
      (λ e new. entries_once (entries ++ e ∷ []) (n + 1) lines (one_more entries e h new))
    where
      by_line : (l : Line) → GivesNew entries l → IfOnce (read_entries v network advert entries (n + 1) lines)
          → ((e : Entry) → IsNew entries e → IfOnce (read_entries v network advert (entries ++ e ∷ []) (n + 1) lines))
          → IfOnce (elim l [
            | empty ↦ read_entries v network advert entries (n + 1) lines
            | bad reason ↦ Err (faults.Line n reason)
            | gives e ↦ read_entries v network advert (entries ++ e ∷ []) (n + 1) lines
          ])
      by_line empty k same more = same
      by_line (bad reason) k same more = tt
      by_line (gives e) k same more = more e k

  -- ---- deposits

  -- the entry that gives a deposit's place, with or without a script
  record GivesPlace (entries : List Entry) (name : List ℕ) : Type 0 where
    entry : Entry
    among : Is_in entry entries
    of_name : entry.needed ≡ needs.Deposit name
    at_place : IsShared entry.value (place (place_or_none (value_for entries (needs.Deposit name))))

  gives_place : (entries : List Entry) (name : List ℕ) → AllFit v entries → is_given entries (needs.Deposit name) ≡ true
      → GivesPlace entries name
  gives_place entries name all given =
      let x = the_value (value_for entries (needs.Deposit name)) (given_some entries (needs.Deposit name) given) in
      let r = value_there v entries all (needs.Deposit name) x.0 x.1 in
      record {
        entry = r.entry;
        among = (found (λ (y : Entry). same_needed y.needed (needs.Deposit name)) entries r.entry r.finds).0;
        of_name = named r.entry.needed r.of_it;
        at_place =
            subst (λ (o : Option Value). IsShared r.entry.value (place (place_or_none o))) (sym x.1)
            (subst (λ (y : Value). IsShared y (place (place_or_none (Some x.0)))) (sym r.same)
            (by_kind x.0 (deposit_value v name r.entry.needed x.0 r.of_it r.fitting)));
      }
    where
      named : (what : Needed) → same_needed what (needs.Deposit name) ≡ true → what ≡ needs.Deposit name
      named (needs.Deposit other) m = ap needs.Deposit (bytes-true other name m)
      named (needs.Key label) m = cc
      named (needs.Hash other) m = cc
      named needs.Network m = cc
      named (needs.Payee party) m = cc

      by_kind : (value : Value) → IsDepositValue v value → IsShared value (place (place_or_none (Some value)))
      by_kind value (inl k) = subst (λ (y : Value). IsShared y (place (place_or_none (Some y)))) (sym k.1) refl
      by_kind value (inr k) = subst (λ (y : Value). IsShared y (place (place_or_none (Some y)))) (sym k.2) refl

  -- two that are at one place share it
  share_place : (a b : Value) (outpoint : OutPoint) → IsShared a (place outpoint) → IsShared b (place outpoint) → IsShared a b
  share_place (place a) (place b) outpoint h k = h ∙ sym k
  share_place (place a) (wallet b own) outpoint h k = h ∙ sym k
  share_place (wallet a own) (place b) outpoint h k = h ∙ sym k
  share_place (wallet a own) (wallet b other) outpoint h k = h ∙ sym k
  share_place (key a) b outpoint h k = absurd h
  share_place (hash a) b outpoint h k = absurd h
  share_place (hrp a) b outpoint h k = absurd h
  share_place (script a) b outpoint h k = absurd h
  share_place (place a) (key b) outpoint h k = absurd k
  share_place (place a) (hash b) outpoint h k = absurd k
  share_place (place a) (hrp b) outpoint h k = absurd k
  share_place (place a) (script b) outpoint h k = absurd k
  share_place (wallet a own) (key b) outpoint h k = absurd k
  share_place (wallet a own) (hash b) outpoint h k = absurd k
  share_place (wallet a own) (hrp b) outpoint h k = absurd k
  share_place (wallet a own) (script b) outpoint h k = absurd k

  same_name : (entries : List Entry) (a b : List ℕ) → EachOnce entries → GivesPlace entries a → GivesPlace entries b
      → place_or_none (value_for entries (needs.Deposit a)) ≡ place_or_none (value_for entries (needs.Deposit b)) → a ≡ b
  same_name entries a b once x y same =
      let value : IsShared x.entry.value y.entry.value =
      share_place x.entry.value y.entry.value (place_or_none (value_for entries (needs.Deposit b)))
      (subst (λ (o : OutPoint). IsShared x.entry.value (place o)) same x.at_place) y.at_place in
      let entry = once x.entry y.entry x.among y.among value in
      let what : needs.Deposit a ≡ needs.Deposit b = sym x.of_name ∙ (ap (λ (e : Entry). e.needed) entry ∙ y.of_name) in
      cc

-- what stands beside a name
beside_name : {V : Type 0} (f : List ℕ → V) (names : List (List ℕ)) (name : List ℕ) → is_among name names ≡ true
    → look_up name (map (λ n. (n, f n)) names) ≡ Some (f name)
beside_name f [] name h = cc
beside_name f (n ∷ names) name h = by_test (bytes_eq n name) refl h (beside_name f names name)
  where
    by_test : (b : Bool) → bytes_eq n name ≡ b → (b || is_among name names) ≡ true
        → (is_among name names ≡ true → look_up name (map (λ m. (m, f m)) names) ≡ Some (f name))
        → cond b (Some (f n)) (look_up name (map (λ m. (m, f m)) names)) ≡ Some (f name)
    by_test true e k ih = ap (λ m. Some (f m)) (bytes-true n name e)
    by_test false e k ih = ih k

-- where the deposit of a name lies
abbrev pub place_of : Deal → List ℕ → OutPoint
place_of deal name = outpoint_or_none (look_up name deal.deposits)

-- deposits at one place are one
pub places_apart : (v : Verifier) (advert : Advert) (text : List ℕ) (deal : Deal) → read_deal v advert text ≡ Ok deal → (a b : List ℕ)
    → is_among a (needed_deposits advert) ≡ true → is_among b (needed_deposits advert) ≡ true
    → same_outpoint (place_of deal a) (place_of deal b) ≡ true → a ≡ b
places_apart v advert text deal e a b i j same =
    let d = is_of v advert text deal e in
    let once : EachOnce d.entries =
    subst (IfOnce v (file_network (lines_of text)) advert) d.read
    (entries_once v (file_network (lines_of text)) advert [] 1 (lines_of text) (λ x y p q r. absurd p)) in
    let all = deposits_given v advert d.entries d.fit d.none in
    let given : (name : List ℕ) → is_among name (needed_deposits advert) ≡ true → is_given d.entries (needs.Deposit name) ≡ true =
    λ name k. all_among (λ n. is_given d.entries (needs.Deposit n)) (needed_deposits advert) name all k in
    let lies : (name : List ℕ) → is_among name (needed_deposits advert) ≡ true
    → place_of deal name ≡ place_or_none (value_for d.entries (needs.Deposit name)) =
    λ name k.
    ap (λ (x : Deal). place_of x name) (sym d.same)
    ∙ ap outpoint_or_none
    (beside_name (λ n. place_or_none (value_for d.entries (needs.Deposit n))) (needed_deposits advert) name k) in
    same_name v (file_network (lines_of text)) advert d.entries a b once
    (gives_place v (file_network (lines_of text)) advert d.entries a d.fit (given a i))
    (gives_place v (file_network (lines_of text)) advert d.entries b d.fit (given b j))
    (sym (lies a i) ∙ (place-true (place_of deal a) (place_of deal b) same ∙ lies b j))
