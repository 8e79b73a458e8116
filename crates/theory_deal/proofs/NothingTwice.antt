-- A deal file that is taken gives nothing twice.
use Rattle.std.proofs.Common.{◌≡◌, ℕ, ◌+◌, List, [], ◌∷◌, ◌++◌, length, Bool, true, false, Option, Some, None, refl, sym, ap, subst, ◌∙◌, cond, inl, inr}
use Rattle.std.specs.Prelude.{Result, Ok, Err, nat_lt, ◌||◌, codes}
use Rattle.std.specs.List.{find, list_any}
use Rattle.std.specs.Option.{option_map}
use Rattle.std.specs.Str.{bytes_eq}
use Rattle.spec_terms.specs.Advert.{Advert}
use Rattle.spec_terms.specs.Parties.{participants}
use Rattle.spec_bitcoin.specs.Keys.{label_text}
use Rattle.spec_text.specs.Lines.{lines_of, words_of}
use Rattle.spec_text.specs.Words.{one_of}
use Rattle.spec_deal.specs.declared.deal.Needed.{Needed}
use Rattle.spec_deal.specs.declared.deal.Needed.TheVariants as needs
use Rattle.spec_deal.specs.declared.fault.DealReason.TheVariants as reasons
use Rattle.spec_deal.specs.declared.fault.DealFault.{DealFault}
use Rattle.spec_deal.specs.declared.fault.DealFault.TheVariants as faults
use Rattle.spec_deal.specs.declared.entry.Value.{Value}
use Rattle.spec_deal.specs.declared.entry.Entry.{Entry}
use Rattle.spec_deal.specs.Sizes.{most_deal_bytes}
use Rattle.spec_deal.specs.Needed.{needed_deposits, needed_secrets, same_needed}
use Rattle.spec_deal.specs.Verifier.{Verifier}
use Rattle.spec_deal.specs.DealFile.{key_of_word, place_of_words, hash_of_word, label_of_word, same_value}
use Rattle.spec_deal.specs.DealFile.{Line, empty, bad, gives, given_once, with_value, with_needed, key_line, deposit_line, hash_line}
use Rattle.spec_deal.specs.DealFile.{network_line, payee_line, line_says, network_of_word, wallet_of_words, payee_of_word}
use Rattle.spec_deal.specs.DealFile.{file_network, read_entries, read_lines, deal_judged}
use Rattle.theory_calculus.specs.Members.{Is_in}
use Rattle.theory_calculus.proofs.Names.{bytes_refl}
use Rattle.theory_deal.specs.NothingTwice.{GiveSame, NothingTwice}
use Rattle.theory_deal.specs.SigningOrder.{IsAscending}

same_again : (what : Needed) → same_needed what what ≡ true
same_again (needs.Key label) = bytes_refl (label_text label)
same_again (needs.Deposit name) = bytes_refl name
same_again (needs.Hash name) = bytes_refl name
same_again needs.Network = refl
same_again (needs.Payee party) = bytes_refl party

abbrev gives_to : Needed → Entry → Bool
gives_to what x = same_needed x.needed what

abbrev is_there : List Entry → Needed → Bool
is_there entries what = list_any (gives_to what) entries

-- what isn't found isn't there
absent : (what : Needed) (entries : List Entry) → find (gives_to what) entries ≡ None → is_there entries what ≡ false
absent what [] h = refl
absent what (x ∷ xs) h = by_test (gives_to what x) h (absent what xs)
  where
    by_test : (b : Bool) → cond b (Some x) (find (gives_to what) xs) ≡ None
        → (find (gives_to what) xs ≡ None → is_there xs what ≡ false) → (b || is_there xs what) ≡ false
    by_test true k ih = cc
    by_test false k ih = ih k

there_later : (what : Needed) (entries : List Entry) (e : Entry) → is_there entries what ≡ true
    → is_there (entries ++ e ∷ []) what ≡ true
there_later what [] e h = cc
there_later what (x ∷ xs) e h = by_test (gives_to what x) h (there_later what xs e)
  where
    by_test : (b : Bool) → (b || is_there xs what) ≡ true → (is_there xs what ≡ true → is_there (xs ++ e ∷ []) what ≡ true)
        → (b || is_there (xs ++ e ∷ []) what) ≡ true
    by_test true k ih = refl
    by_test false k ih = ih k

there_now : (entries : List Entry) (e : Entry) → is_there (entries ++ e ∷ []) e.needed ≡ true
there_now [] e = ap (λ (b : Bool). b || false) (same_again e.needed)
there_now (x ∷ xs) e = by_test (gives_to e.needed x) (there_now xs e)
  where
    by_test : (b : Bool) → is_there (xs ++ e ∷ []) e.needed ≡ true → (b || is_there (xs ++ e ∷ []) e.needed) ≡ true
    by_test true k = refl
    by_test false k = k

-- ---- what two words give

-- what is given behind these entries is this, and it is new
abbrev Tells : List Entry → Option Needed → Line → Type 0
Tells entries what empty = ⊥
Tells entries what (bad reason) = Unit {0}
Tells entries what (gives e) = (what ≡ Some e.needed) × (find (gives_to e.needed) entries ≡ None)

once_tells : (entries : List Entry) (a b : Option Entry) (e : Entry) → find (gives_to e.needed) entries ≡ a
    → Tells entries (Some e.needed) (given_once a b e)
once_tells entries (Some earlier) b e h = tt
once_tells entries None (Some other) e h = tt
once_tells entries None None e h = (refl, h)

value_tells : (entries : List Entry) (n : ℕ) (what : Needed) (value : Option Value) → Tells entries (Some what) (with_value entries n what value)
value_tells entries n what None = tt
value_tells entries n what (Some value) =
    once_tells entries (find (gives_to what) entries) (find (λ (x : Entry). same_value x.value value) entries)
    (record { line = n; needed = what; value = value }) refl

needed_tells : (entries : List Entry) (n : ℕ) (what : Option Needed) (value : Option Value)
    → Tells entries what (with_needed entries n what value)
needed_tells entries n None value = tt
needed_tells entries n (Some what) value = value_tells entries n what value

module _ (v : Verifier) (network : Option (List ℕ)) (advert : Advert) where
  -- what a line gives that begins with these two words
  abbrev what_of : List ℕ → List ℕ → Option Needed
  what_of kind name =
      cond (bytes_eq kind (codes "key")) (option_map needs.Key (label_of_word advert name))
      (cond (bytes_eq kind (codes "deposit")) (option_map needs.Deposit (one_of (needed_deposits advert) name))
      (cond (bytes_eq kind (codes "hash")) (option_map needs.Hash (one_of (needed_secrets advert) name))
      (cond (bytes_eq kind (codes "network")) (Some needs.Network)
      (cond (bytes_eq kind (codes "pay")) (option_map needs.Payee (one_of (participants advert) name)) None))))

  key_tells : (entries : List Entry) (n : ℕ) (name : List ℕ) (rest : List (List ℕ))
      → Tells entries (option_map needs.Key (label_of_word advert name)) (key_line v advert entries n (name ∷ rest))
  key_tells entries n name [] = tt
  key_tells entries n name (value ∷ []) =
      needed_tells entries n (option_map needs.Key (label_of_word advert name)) (key_of_word v value)
  key_tells entries n name (value ∷ (next ∷ words)) = tt

  deposit_tells : (entries : List Entry) (n : ℕ) (name : List ℕ) (rest : List (List ℕ))
      → Tells entries (option_map needs.Deposit (one_of (needed_deposits advert) name)) (deposit_line v network advert entries n (name ∷ rest))
  deposit_tells entries n name [] = tt
  deposit_tells entries n name (txid ∷ []) = tt
  deposit_tells entries n name (txid ∷ (vout ∷ [])) =
      needed_tells entries n (option_map needs.Deposit (one_of (needed_deposits advert) name)) (place_of_words txid vout)
  deposit_tells entries n name (txid ∷ (vout ∷ (own ∷ []))) =
      needed_tells entries n (option_map needs.Deposit (one_of (needed_deposits advert) name)) (wallet_of_words v network txid vout own)
  deposit_tells entries n name (txid ∷ (vout ∷ (own ∷ (next ∷ words)))) = tt

  network_tells : (entries : List Entry) (n : ℕ) (name : List ℕ) (rest : List (List ℕ))
      → Tells entries (Some needs.Network) (network_line entries n (name ∷ rest))
  network_tells entries n name [] = value_tells entries n needs.Network (network_of_word name)
  network_tells entries n name (next ∷ words) = tt

  payee_tells : (entries : List Entry) (n : ℕ) (name : List ℕ) (rest : List (List ℕ))
      → Tells entries (option_map needs.Payee (one_of (participants advert) name)) (payee_line v network advert entries n (name ∷ rest))
  payee_tells entries n name [] = tt
  payee_tells entries n name (value ∷ []) =
      needed_tells entries n (option_map needs.Payee (one_of (participants advert) name)) (payee_of_word v network value)
  payee_tells entries n name (value ∷ (next ∷ words)) = tt

  hash_tells : (entries : List Entry) (n : ℕ) (name : List ℕ) (rest : List (List ℕ))
      → Tells entries (option_map needs.Hash (one_of (needed_secrets advert) name)) (hash_line advert entries n (name ∷ rest))
  hash_tells entries n name [] = tt
  hash_tells entries n name (value ∷ []) =
      needed_tells entries n (option_map needs.Hash (one_of (needed_secrets advert) name)) (hash_of_word value)
  hash_tells entries n name (value ∷ (next ∷ words)) = tt

  line_tells : (entries : List Entry) (n : ℕ) (kind name : List ℕ) (rest : List (List ℕ))
      → Tells entries (what_of kind name) (line_says v network advert entries n (kind ∷ (name ∷ rest)))
  line_tells entries n kind name rest =
      by_test (bytes_eq kind (codes "key")) (bytes_eq kind (codes "deposit")) (bytes_eq kind (codes "hash"))
      (bytes_eq kind (codes "network")) (bytes_eq kind (codes "pay"))
    where
      by_test : (a b c d e : Bool)
          → Tells entries
          (cond a (option_map needs.Key (label_of_word advert name))
          (cond b (option_map needs.Deposit (one_of (needed_deposits advert) name))
          (cond c (option_map needs.Hash (one_of (needed_secrets advert) name))
          (cond d (Some needs.Network) (cond e (option_map needs.Payee (one_of (participants advert) name)) None)))))
          (cond a (key_line v advert entries n (name ∷ rest))
          (cond b (deposit_line v network advert entries n (name ∷ rest))
          (cond c (hash_line advert entries n (name ∷ rest))
          (cond d (network_line entries n (name ∷ rest))
          (cond e (payee_line v network advert entries n (name ∷ rest)) (bad reasons.Form))))))
      by_test true b c d e = key_tells entries n name rest
      by_test false true c d e = deposit_tells entries n name rest
      by_test false false true d e = hash_tells entries n name rest
      by_test false false false true e = network_tells entries n name rest
      by_test false false false false true = payee_tells entries n name rest
      by_test false false false false false = tt

  of_line : (entries : List Entry) (n : ℕ) (line kind name : List ℕ) (rest : List (List ℕ)) → words_of line ≡ kind ∷ (name ∷ rest)
      → Tells entries (what_of kind name) (line_says v network advert entries n (words_of line))
  of_line entries n line kind name rest e =
      subst (λ (ws : List (List ℕ)). Tells entries (what_of kind name) (line_says v network advert entries n ws)) (sym e)
      (line_tells entries n kind name rest)

  -- ---- lines

  abbrev on : List Entry → ℕ → List (List ℕ) → Line → Result (List Entry) DealFault
  on entries n lines l = elim l [
    | empty ↦ read_entries v network advert entries (n + 1) lines
    | bad reason ↦ Err (faults.Line n reason)
    | gives e ↦ read_entries v network advert (entries ++ e ∷ []) (n + 1) lines
  ]

  -- what is there isn't given again
  not_again : (entries : List Entry) (n : ℕ) (lines : List (List ℕ)) (all : List Entry) (what : Needed) (line kind name : List ℕ)
      (rest : List (List ℕ)) → read_entries v network advert entries n lines ≡ Ok all → is_there entries what ≡ true
      → Is_in line lines → words_of line ≡ kind ∷ (name ∷ rest) → what_of kind name ≡ Some what → ⊥
  not_again entries n [] all what line kind name rest read there i words is = absurd i
  not_again entries n (l ∷ lines) all what line kind name rest read there (inl same) words is =
      here (line_says v network advert entries n (words_of l))
      (of_line entries n l kind name rest (subst (λ (x : List ℕ). words_of x ≡ kind ∷ (name ∷ rest)) same words)) read
    where
      here : (x : Line) → Tells entries (what_of kind name) x → on entries n lines x ≡ Ok all → ⊥
      here empty t r = t
      here (bad reason) t r = cc
      here (gives e) t r =
          let k : Some e.needed ≡ Some what = sym t.0 ∙ is in
          let w : e.needed ≡ what = cc in
          let none : is_there entries e.needed ≡ false = absent e.needed entries t.1 in
          let no : is_there entries what ≡ false = subst (λ (x : Needed). is_there entries x ≡ false) w none in
          cc
  not_again entries n (l ∷ lines) all what line kind name rest read there (inr i) words is =
      later (line_says v network advert entries n (words_of l)) read
      (λ r. not_again entries (n + 1) lines all what line kind name rest r there i words is)
      (λ e r. not_again (entries ++ e ∷ []) (n + 1) lines all what line kind name rest r (there_later what entries e there) i words is)
    where
      later : (x : Line) → on entries n lines x ≡ Ok all
          → (read_entries v network advert entries (n + 1) lines ≡ Ok all → ⊥)
          → ((e : Entry) → read_entries v network advert (entries ++ e ∷ []) (n + 1) lines ≡ Ok all → ⊥) → ⊥
      later empty r same more = same r
      later (bad reason) r same more = cc
      later (gives e) r same more = more e r

  -- so no line gives what one before it gave
  apart : (entries : List Entry) (n : ℕ) (lines : List (List ℕ)) (all : List Entry) → read_entries v network advert entries n lines ≡ Ok all
      → IsAscending (λ (a b : List ℕ). GiveSame a b → ⊥) lines
  apart entries n [] all read = tt
  apart entries n (l ∷ lines) all read = (
    λ b i same.
        first b i same (line_says v network advert entries n (words_of l))
        (of_line entries n l same.kind same.name same.rest same.one) read,
    rest_apart (line_says v network advert entries n (words_of l)) read (λ r. apart entries (n + 1) lines all r)
        (λ e r. apart (entries ++ e ∷ []) (n + 1) lines all r),
  )
    where
      first : (b : List ℕ) → Is_in b lines → (same : GiveSame l b) → (x : Line)
          → Tells entries (what_of same.kind same.name) x → on entries n lines x ≡ Ok all → ⊥
      first b i same empty t r = t
      first b i same (bad reason) t r = cc
      first b i same (gives e) t r =
          not_again (entries ++ e ∷ []) (n + 1) lines all e.needed b same.kind same.name same.others r (there_now entries e) i same.other
          t.0

      rest_apart : (x : Line) → on entries n lines x ≡ Ok all
          → (read_entries v network advert entries (n + 1) lines ≡ Ok all → IsAscending (λ (a b : List ℕ). GiveSame a b → ⊥) lines)
          → ((e : Entry) → read_entries v network advert (entries ++ e ∷ []) (n + 1) lines ≡ Ok all
          → IsAscending (λ (a b : List ℕ). GiveSame a b → ⊥) lines)
          → IsAscending (λ (a b : List ℕ). GiveSame a b → ⊥) lines
      rest_apart empty r same more = same r
      rest_apart (bad reason) r same more = cc
      rest_apart (gives e) r same more = more e r

pub nothing_twice : NothingTwice
nothing_twice v advert text deal e = by_size (nat_lt most_deal_bytes (length text)) e
  where
    by_entries : (r : Result (List Entry) DealFault) → read_lines v advert (lines_of text) ≡ r → deal_judged advert r ≡ Ok deal
        → IsAscending (λ (a b : List ℕ). GiveSame a b → ⊥) (lines_of text)
    by_entries (Err fault) is k = cc
    by_entries (Ok entries) is k = apart v (file_network (lines_of text)) advert [] 1 (lines_of text) entries is

    by_size : (b : Bool) → cond b (Err faults.Size) (deal_judged advert (read_lines v advert (lines_of text))) ≡ Ok deal
        → IsAscending (λ (a b : List ℕ). GiveSame a b → ⊥) (lines_of text)
    by_size true k = cc
    by_size false k = by_entries (read_lines v advert (lines_of text)) refl k
