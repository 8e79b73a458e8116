-- What is found by a key among needs and entries.
use Rattle.std.proofs.Common.{◌≡◌, ℕ, List, [], ◌∷◌, ◌++◌, map, Bool, true, false, cond, Option, Some, None}
use Rattle.std.proofs.Common.{refl, sym, ap, ◌∙◌, arith, append-nil}
use Rattle.std.specs.Prelude.{◌^◌, ◌&&◌, ◌==◌, nat_lt, option_map}
use Rattle.std.specs.List.{filter, find, list_all}
use Rattle.std.proofs.lemmas.List.Elements.{filter-append}
use Rattle.std.specs.Str.{bytes_eq}
use Rattle.spec_bitcoin.specs.declared.tx.OutPoint.{OutPoint}
use Rattle.spec_deal.specs.declared.deal.Needed.{Needed}
use Rattle.spec_deal.specs.declared.deal.Needed.TheVariants as needs
use Rattle.spec_deal.specs.declared.entry.Entry.{Entry}
use Rattle.spec_deal.specs.declared.entry.Value.{Value}
use Rattle.spec_deal.specs.declared.entry.Value.TheVariants as values
use Rattle.spec_deal.specs.Needed.{same_needed}
use Rattle.spec_deal.specs.DealFile.{same_value}
use Rattle.spec_bitcoin.specs.Live.{same_outpoint}
use Rattle.deal_index.proofs.Finding.{find_by, find_map, find_alike, same_numbered}
use Rattle.deal_file.specs.Keying.{need_key, place_key, value_key, is_sized, is_unique}
use Rattle.deal_file.specs.Entries.{needed_in, entry_in, worth_of, is_unique_in}
use Rattle.deal_file.specs.declared.keying.Need.{Need}
use Rattle.deal_file.specs.declared.keying.Given.{Given}
use Rattle.deal_file.specs.declared.keying.Worth.{Worth}

-- ---- keys tell apart

pub need_same : (a b : Needed) → bytes_eq (need_key a) (need_key b) ≡ same_needed a b
need_same (needs.Key a) (needs.Key b) = refl
need_same (needs.Key a) (needs.Deposit b) = refl
need_same (needs.Key a) (needs.Hash b) = refl
need_same (needs.Key a) needs.Network = refl
need_same (needs.Key a) (needs.Payee b) = refl
need_same (needs.Deposit a) (needs.Key b) = refl
need_same (needs.Deposit a) (needs.Deposit b) = refl
need_same (needs.Deposit a) (needs.Hash b) = refl
need_same (needs.Deposit a) needs.Network = refl
need_same (needs.Deposit a) (needs.Payee b) = refl
need_same (needs.Hash a) (needs.Key b) = refl
need_same (needs.Hash a) (needs.Deposit b) = refl
need_same (needs.Hash a) (needs.Hash b) = refl
need_same (needs.Hash a) needs.Network = refl
need_same (needs.Hash a) (needs.Payee b) = refl
need_same needs.Network (needs.Key b) = refl
need_same needs.Network (needs.Deposit b) = refl
need_same needs.Network (needs.Hash b) = refl
need_same needs.Network needs.Network = refl
need_same needs.Network (needs.Payee b) = refl
need_same (needs.Payee a) (needs.Key b) = refl
need_same (needs.Payee a) (needs.Deposit b) = refl
need_same (needs.Payee a) (needs.Hash b) = refl
need_same (needs.Payee a) needs.Network = refl
need_same (needs.Payee a) (needs.Payee b) = refl

swapped : (a b : Bool) → (a && b) ≡ (b && a)
swapped true true = refl
swapped true false = refl
swapped false true = refl
swapped false false = refl

-- places are the same where their keys are
place_same : (a b : OutPoint) → nat_lt a.vout (2 ^ 32) ≡ true → nat_lt b.vout (2 ^ 32) ≡ true
    → bytes_eq (place_key a) (place_key b) ≡ same_outpoint a b
place_same a b h k =
    same_numbered a.vout b.vout a.txid b.txid (grind (arith, h)) (grind (arith, k))
    ∙ swapped (a.vout == b.vout) (bytes_eq a.txid b.txid)

-- a value that may be given once alone is the same as those whose keys are its key
pub value_same : (a b : Value) → is_sized a ≡ true → is_sized b ≡ true → is_unique b ≡ true
    → bytes_eq (value_key a) (value_key b) ≡ same_value a b
value_same (values.Key a) (values.Key b) h k u = refl
value_same (values.Key a) (values.Place b) h k u = refl
value_same (values.Key a) (values.Wallet b other) h k u = refl
value_same (values.Key a) (values.Hash b) h k u = refl
value_same (values.Key a) (values.Network b) h k u = absurd cc
value_same (values.Key a) (values.Script b) h k u = absurd cc
value_same (values.Place a) (values.Key b) h k u = refl
value_same (values.Place a) (values.Place b) h k u = place_same a b h k
value_same (values.Place a) (values.Wallet b other) h k u = place_same a b h k
value_same (values.Place a) (values.Hash b) h k u = refl
value_same (values.Place a) (values.Network b) h k u = absurd cc
value_same (values.Place a) (values.Script b) h k u = absurd cc
value_same (values.Wallet a own) (values.Key b) h k u = refl
value_same (values.Wallet a own) (values.Place b) h k u = place_same a b h k
value_same (values.Wallet a own) (values.Wallet b other) h k u = place_same a b h k
value_same (values.Wallet a own) (values.Hash b) h k u = refl
value_same (values.Wallet a own) (values.Network b) h k u = absurd cc
value_same (values.Wallet a own) (values.Script b) h k u = absurd cc
value_same (values.Hash a) (values.Key b) h k u = refl
value_same (values.Hash a) (values.Place b) h k u = refl
value_same (values.Hash a) (values.Wallet b other) h k u = refl
value_same (values.Hash a) (values.Hash b) h k u = refl
value_same (values.Hash a) (values.Network b) h k u = absurd cc
value_same (values.Hash a) (values.Script b) h k u = absurd cc
value_same (values.Network a) (values.Key b) h k u = refl
value_same (values.Network a) (values.Place b) h k u = refl
value_same (values.Network a) (values.Wallet b other) h k u = refl
value_same (values.Network a) (values.Hash b) h k u = refl
value_same (values.Network a) (values.Network b) h k u = absurd cc
value_same (values.Network a) (values.Script b) h k u = absurd cc
value_same (values.Script a) (values.Key b) h k u = refl
value_same (values.Script a) (values.Place b) h k u = refl
value_same (values.Script a) (values.Wallet b other) h k u = refl
value_same (values.Script a) (values.Hash b) h k u = refl
value_same (values.Script a) (values.Network b) h k u = absurd cc
value_same (values.Script a) (values.Script b) h k u = absurd cc

-- no other value is the same as one that may be given once alone
pub other_apart : (a b : Value) → is_unique a ≡ false → is_unique b ≡ true → same_value a b ≡ false
other_apart (values.Key a) (values.Key b) h u = absurd cc
other_apart (values.Key a) (values.Place b) h u = absurd cc
other_apart (values.Key a) (values.Wallet b other) h u = absurd cc
other_apart (values.Key a) (values.Hash b) h u = absurd cc
other_apart (values.Key a) (values.Network b) h u = absurd cc
other_apart (values.Key a) (values.Script b) h u = absurd cc
other_apart (values.Place a) (values.Key b) h u = absurd cc
other_apart (values.Place a) (values.Place b) h u = absurd cc
other_apart (values.Place a) (values.Wallet b other) h u = absurd cc
other_apart (values.Place a) (values.Hash b) h u = absurd cc
other_apart (values.Place a) (values.Network b) h u = absurd cc
other_apart (values.Place a) (values.Script b) h u = absurd cc
other_apart (values.Wallet a own) (values.Key b) h u = absurd cc
other_apart (values.Wallet a own) (values.Place b) h u = absurd cc
other_apart (values.Wallet a own) (values.Wallet b other) h u = absurd cc
other_apart (values.Wallet a own) (values.Hash b) h u = absurd cc
other_apart (values.Wallet a own) (values.Network b) h u = absurd cc
other_apart (values.Wallet a own) (values.Script b) h u = absurd cc
other_apart (values.Hash a) (values.Key b) h u = absurd cc
other_apart (values.Hash a) (values.Place b) h u = absurd cc
other_apart (values.Hash a) (values.Wallet b other) h u = absurd cc
other_apart (values.Hash a) (values.Hash b) h u = absurd cc
other_apart (values.Hash a) (values.Network b) h u = absurd cc
other_apart (values.Hash a) (values.Script b) h u = absurd cc
other_apart (values.Network a) (values.Key b) h u = refl
other_apart (values.Network a) (values.Place b) h u = refl
other_apart (values.Network a) (values.Wallet b other) h u = refl
other_apart (values.Network a) (values.Hash b) h u = refl
other_apart (values.Network a) (values.Network b) h u = absurd cc
other_apart (values.Network a) (values.Script b) h u = absurd cc
other_apart (values.Script a) (values.Key b) h u = refl
other_apart (values.Script a) (values.Place b) h u = refl
other_apart (values.Script a) (values.Wallet b other) h u = refl
other_apart (values.Script a) (values.Hash b) h u = refl
other_apart (values.Script a) (values.Network b) h u = absurd cc
other_apart (values.Script a) (values.Script b) h u = absurd cc

-- a value that may be given again is the same as no other
pub never_same : (a b : Value) → is_unique b ≡ false → same_value a b ≡ false
never_same (values.Key a) (values.Key b) u = absurd cc
never_same (values.Key a) (values.Place b) u = absurd cc
never_same (values.Key a) (values.Wallet b other) u = absurd cc
never_same (values.Key a) (values.Hash b) u = absurd cc
never_same (values.Key a) (values.Network b) u = refl
never_same (values.Key a) (values.Script b) u = refl
never_same (values.Place a) (values.Key b) u = absurd cc
never_same (values.Place a) (values.Place b) u = absurd cc
never_same (values.Place a) (values.Wallet b other) u = absurd cc
never_same (values.Place a) (values.Hash b) u = absurd cc
never_same (values.Place a) (values.Network b) u = refl
never_same (values.Place a) (values.Script b) u = refl
never_same (values.Wallet a own) (values.Key b) u = absurd cc
never_same (values.Wallet a own) (values.Place b) u = absurd cc
never_same (values.Wallet a own) (values.Wallet b other) u = absurd cc
never_same (values.Wallet a own) (values.Hash b) u = absurd cc
never_same (values.Wallet a own) (values.Network b) u = refl
never_same (values.Wallet a own) (values.Script b) u = refl
never_same (values.Hash a) (values.Key b) u = absurd cc
never_same (values.Hash a) (values.Place b) u = absurd cc
never_same (values.Hash a) (values.Wallet b other) u = absurd cc
never_same (values.Hash a) (values.Hash b) u = absurd cc
never_same (values.Hash a) (values.Network b) u = refl
never_same (values.Hash a) (values.Script b) u = refl
never_same (values.Network a) (values.Key b) u = absurd cc
never_same (values.Network a) (values.Place b) u = absurd cc
never_same (values.Network a) (values.Wallet b other) u = absurd cc
never_same (values.Network a) (values.Hash b) u = absurd cc
never_same (values.Network a) (values.Network b) u = refl
never_same (values.Network a) (values.Script b) u = refl
never_same (values.Script a) (values.Key b) u = absurd cc
never_same (values.Script a) (values.Place b) u = absurd cc
never_same (values.Script a) (values.Wallet b other) u = absurd cc
never_same (values.Script a) (values.Hash b) u = absurd cc
never_same (values.Script a) (values.Network b) u = refl
never_same (values.Script a) (values.Script b) u = refl

-- ---- entries

-- the entry that is given to what is needed
pub entry_found : (gs : List Given) (what : Needed) (key : List ℕ) → key ≡ need_key what
    → option_map entry_in (find (λ (g : Given). bytes_eq (need_key g.entry.needed) key) gs)
    ≡ find (λ (x : Entry). same_needed x.needed what) (map entry_in gs)
entry_found gs what key here =
    ap (λ k. option_map entry_in (find (λ (g : Given). bytes_eq (need_key g.entry.needed) k) gs)) here
    ∙ ap (option_map entry_in)
    (find_alike (λ (g : Given). bytes_eq (need_key g.entry.needed) (need_key what)) (λ (g : Given). same_needed g.entry.needed what)
    (λ g. need_same g.entry.needed what) gs)
    ∙ sym (find_map entry_in (λ (x : Entry). same_needed x.needed what) gs)

-- a test that only values pass that may be given once alone finds among them what it finds among all
find_unique : (p : Entry → Bool) → ((e : Entry) → is_unique_in e ≡ false → p e ≡ false) → (es : List Entry)
    → find p (filter is_unique_in es) ≡ find p es
find_unique p apart [] = refl
find_unique p apart (e ∷ es) = by_test (is_unique_in e) refl (find_unique p apart es)
  where
    by_test : (b : Bool) → is_unique_in e ≡ b → find p (filter is_unique_in es) ≡ find p es
        → find p (cond b (e ∷ filter is_unique_in es) (filter is_unique_in es)) ≡ cond (p e) (Some e) (find p es)
    by_test true h more = ap (cond (p e) (Some e)) more
    by_test false h more = more ∙ ap (λ b. cond b (Some e) (find p es)) (sym (apart e h))

-- the value that was given
pub worth_found : (es : List Entry) (ws : List Worth) (value : Value) (key : List ℕ) → ws ≡ map worth_of (filter is_unique_in es)
    → list_all (λ (w : Worth). is_sized w.value) ws ≡ true → key ≡ value_key value → is_sized value ≡ true → is_unique value ≡ true
    → find (λ (w : Worth). bytes_eq (value_key w.value) key) ws
    ≡ option_map worth_of (find (λ (x : Entry). same_value x.value value) es)
worth_found es ws value key tied all here sized unique =
    ap (λ k. find (λ (w : Worth). bytes_eq (value_key w.value) k) ws) here
    ∙ find_by (λ (w : Worth). bytes_eq (value_key w.value) (value_key value)) (λ (w : Worth). same_value w.value value)
    (λ (w : Worth). is_sized w.value) (λ w h. value_same w.value value h sized unique) ws all
    ∙ ap (find (λ (w : Worth). same_value w.value value)) tied
    ∙ find_map worth_of (λ (w : Worth). same_value w.value value) (filter is_unique_in es)
    ∙ ap (option_map worth_of)
    (find_unique (λ (x : Entry). same_value x.value value) (λ e h. other_apart e.value value h unique) es)

-- no entry has a value that may be given again
pub none_same : (es : List Entry) (value : Value) → is_unique value ≡ false → find (λ (x : Entry). same_value x.value value) es ≡ None
none_same [] value h = refl
none_same (e ∷ es) value h =
    ap (λ b. cond b (Some e) (find (λ (x : Entry). same_value x.value value) es)) (never_same e.value value h) ∙ none_same es value h

pub line_found : (o : Option Entry) → option_map (λ (w : Worth). w.line) (option_map worth_of o) ≡ option_map (λ (e : Entry). e.line) o
line_found None = refl
line_found (Some e) = refl

pub told_push : (gs : List Given) (entry : Entry) → map entry_in (gs ++ (record { entry = entry }) ∷ []) ≡ map entry_in gs ++ entry ∷ []
told_push [] entry = refl
told_push (g ∷ gs) entry = ap (λ more. entry_in g ∷ more) (told_push gs entry)

worth_push : (es : List Entry) (entry : Entry) → map worth_of (es ++ entry ∷ []) ≡ map worth_of es ++ worth_of entry ∷ []
worth_push [] entry = refl
worth_push (e ∷ es) entry = ap (λ more. worth_of e ∷ more) (worth_push es entry)

filter_unique : (es : List Entry) (entry : Entry) → is_unique entry.value ≡ true
    → filter is_unique_in (es ++ entry ∷ []) ≡ filter is_unique_in es ++ entry ∷ []
filter_unique es entry h =
    filter-append is_unique_in es (entry ∷ []) ∙ ap (λ b. filter is_unique_in es ++ cond b (entry ∷ []) []) h

filter_other : (es : List Entry) (entry : Entry) → is_unique entry.value ≡ false
    → filter is_unique_in (es ++ entry ∷ []) ≡ filter is_unique_in es
filter_other es entry h =
    filter-append is_unique_in es (entry ∷ []) ∙ ap (λ b. filter is_unique_in es ++ cond b (entry ∷ []) []) h
    ∙ append-nil (filter is_unique_in es)

-- one more value is found
pub tied_unique : (es new : List Entry) (ws more : List Worth) (entry : Entry) → ws ≡ map worth_of (filter is_unique_in es)
    → is_unique entry.value ≡ true → new ≡ es ++ entry ∷ [] → more ≡ ws ++ worth_of entry ∷ [] → more ≡ map worth_of (filter is_unique_in new)
tied_unique es new ws more entry tied unique told pushed =
    pushed ∙ ap (λ xs. xs ++ worth_of entry ∷ []) tied ∙ sym (worth_push (filter is_unique_in es) entry)
    ∙ ap (map worth_of) (sym (filter_unique es entry unique)) ∙ ap (λ xs. map worth_of (filter is_unique_in xs)) (sym told)

-- no more values are
pub tied_other : (es new : List Entry) (ws : List Worth) (entry : Entry) → ws ≡ map worth_of (filter is_unique_in es)
    → is_unique entry.value ≡ false → new ≡ es ++ entry ∷ [] → ws ≡ map worth_of (filter is_unique_in new)
tied_other es new ws entry tied other told =
    tied ∙ ap (map worth_of) (sym (filter_other es entry other)) ∙ ap (λ xs. map worth_of (filter is_unique_in xs)) (sym told)

pub needs_push : (ns : List Need) (what : Needed) → map needed_in (ns ++ (record { needed = what }) ∷ []) ≡ map needed_in ns ++ what ∷ []
needs_push [] what = refl
needs_push (n ∷ ns) what = ap (λ more. needed_in n ∷ more) (needs_push ns what)

pub need_found : (ns : List Need) (key : List ℕ)
    → option_map needed_in (find (λ (n : Need). bytes_eq (need_key n.needed) key) ns)
    ≡ find (λ what. bytes_eq (need_key what) key) (map needed_in ns)
need_found ns key = sym (find_map needed_in (λ what. bytes_eq (need_key what) key) ns)
