-- The keys of a deal that is taken are different, since no line gives a value that another has given.
use Rattle.std.proofs.Common.{◌≡◌, ℕ, List, [], ◌∷◌, ◌++◌, Bool, true, false, Option, Some, None, refl, sym, ap, ◌∙◌, subst, cond}
use Rattle.std.proofs.Common.{inl, inr}
use Rattle.std.specs.Prelude.{Result, Ok}
use Rattle.std.specs.List.{find, flat_map}
use Rattle.std.specs.Option.{option_map}
use Rattle.std.specs.Str.{bytes_eq}
use Rattle.std.proofs.lemmas.Bool.{both_ways}
use Rattle.spec_terms.specs.Advert.{Advert}
use Rattle.spec_bitcoin.specs.declared.label.Label.{Label}
use Rattle.spec_bitcoin.specs.Keys.{label_text}
use Rattle.spec_compiler.specs.Keyed.Keys.{key_in}
use Rattle.spec_text.specs.Lines.{lines_of}
use Rattle.spec_deal.specs.declared.deal.Deal.{Deal}
use Rattle.spec_deal.specs.declared.deal.Needed.{Needed}
use Rattle.spec_deal.specs.declared.deal.Needed.TheVariants as needs
use Rattle.spec_deal.specs.declared.entry.Value.{Value}
use Rattle.spec_deal.specs.declared.entry.Value.TheVariants.{Key as key}
use Rattle.spec_deal.specs.declared.entry.Entry.{Entry}
use Rattle.spec_deal.specs.DealFile.{file_network, with_key, value_for, key_or_none, is_used, read_deal}
use Rattle.spec_deal.specs.Needed.{needed_labels, same_needed}
use Rattle.spec_deal.specs.Setting.{key_at, deal_keys}
use Rattle.spec_deal.specs.Verifier.{Verifier}
use Rattle.theory_calculus.specs.Members.{Is_in}
use Rattle.theory_calculus.proofs.Members.{found}
use Rattle.theory_calculus.proofs.Names.{bytes-true, bytes_refl}
use Rattle.theory_deal.proofs.ReadDeals.{value_there, key_value, used_value, is_of}
use Rattle.theory_deal.specs.DealLines.{IsShared}
use Rattle.theory_deal.proofs.Ledger.PlacesApart.{EachOnce, IfOnce, entries_once}

-- labels with one text are needed alike
same_key : (a b : Label) → label_text a ≡ label_text b → (what : Needed) → same_needed what (needs.Key a) ≡ same_needed what (needs.Key b)
same_key a b e (needs.Key label) = ap (bytes_eq (label_text label)) e
same_key a b e (needs.Deposit name) = refl
same_key a b e (needs.Hash name) = refl
same_key a b e needs.Network = refl
same_key a b e (needs.Payee party) = refl

pub same_value_for : (entries : List Entry) (a b : Label) → label_text a ≡ label_text b → value_for entries (needs.Key a) ≡ value_for entries (needs.Key b)
same_value_for entries a b e =
    λ i. option_map (λ (x : Entry). x.value) (find (λ (x : Entry). same_key a b e x.needed i) entries)

-- the key that the deal has for a label that is given
pub key_is : (entries : List Entry) (ls : List Label) (label : Label) (value : Value) → Is_in label ls
    → value_for entries (needs.Key label) ≡ Some value
    → key_at (flat_map (λ l. with_key l (value_for entries (needs.Key l))) ls) label ≡ key_or_none (Some value)
key_is entries [] label value h e = absurd h
key_is entries (l ∷ ls) label value h e = by_value (value_for entries (needs.Key l)) refl h (λ i. key_is entries ls label value i e)
  where
    rest : List (Label × List ℕ)
    rest = flat_map (λ x. with_key x (value_for entries (needs.Key x))) ls

    absent : Option Value → Is_in label (l ∷ ls) → value_for entries (needs.Key l) ≡ None → Is_in label ls
    absent o (inr k) n = k
    absent o (inl same) n =
        let q : Some value ≡ None = sym e ∙ ap (λ (x : Label). value_for entries (needs.Key x)) same ∙ n in
        cc

    by_test : (other : Value) (b : Bool) → bytes_eq (label_text l) (label_text label) ≡ b → value_for entries (needs.Key l) ≡ Some other
        → Is_in label (l ∷ ls) → (Is_in label ls → key_at rest label ≡ key_or_none (Some value))
        → cond b (key_or_none (Some other)) (key_at rest label) ≡ key_or_none (Some value)
    by_test other true t o k later =
        ap key_or_none (sym o ∙ same_value_for entries l label (bytes-true (label_text l) (label_text label) t) ∙ e)
    by_test other false t o (inl same) later =
        absurd (both_ways _ t (subst (λ (x : Label). bytes_eq (label_text x) (label_text label) ≡ true) same (bytes_refl (label_text label))))
    by_test other false t o (inr k) later = later k

    by_value : (o : Option Value) → value_for entries (needs.Key l) ≡ o → Is_in label (l ∷ ls)
        → (Is_in label ls → key_at rest label ≡ key_or_none (Some value))
        → key_at (with_key l o ++ rest) label ≡ key_or_none (Some value)
    by_value None o k later = later (absent None k o)
    by_value (Some other) o k later = by_test other (bytes_eq (label_text l) (label_text label)) refl o k later

one_text : (what : Needed) (a b : Label) → same_needed what (needs.Key a) ≡ true → same_needed what (needs.Key b) ≡ true
    → label_text a ≡ label_text b
one_text (needs.Key label) a b h k =
    sym (bytes-true (label_text label) (label_text a) h) ∙ bytes-true (label_text label) (label_text b) k
one_text (needs.Deposit name) a b h k = cc
one_text (needs.Hash name) a b h k = cc
one_text needs.Network a b h k = cc
one_text (needs.Payee party) a b h k = cc

-- labels are the same that share a value
key_shares : (a b : List ℕ) → a ≡ b → IsShared (key a) (key b)
key_shares a b e = e

-- labels of given keys with one key have one text
pub keys_apart : (v : Verifier) (hash_of : List ℕ → List ℕ) (advert : Advert) (text : List ℕ) (deal : Deal) → read_deal v advert text ≡ Ok deal
    → (a b : Label) → Is_in a (needed_labels advert) → Is_in b (needed_labels advert)
    → is_used (deal_keys deal) advert (needs.Key a) ≡ true → is_used (deal_keys deal) advert (needs.Key b) ≡ true
    → key_in hash_of (deal_keys deal) a ≡ key_in hash_of (deal_keys deal) b → label_text a ≡ label_text b
keys_apart v hash_of advert text deal e a b i j used_a used_b same =
    let d = is_of v advert text deal e in
    let once : EachOnce d.entries =
    subst (IfOnce v (file_network (lines_of text)) advert) d.read
    (entries_once v (file_network (lines_of text)) advert [] 1 (lines_of text) (λ x y p q r. absurd p)) in
    let x = used_value v advert d.entries d.fit d.none a i (subst (λ (z : Deal). is_used (deal_keys z) advert (needs.Key a) ≡ true) (sym d.same) used_a) in
    let y = used_value v advert d.entries d.fit d.none b j (subst (λ (z : Deal). is_used (deal_keys z) advert (needs.Key b) ≡ true) (sym d.same) used_b) in
    let r = value_there v d.entries d.fit (needs.Key a) x.0 x.1 in
    let q = value_there v d.entries d.fit (needs.Key b) y.0 y.1 in
    let k = key_value v a r.entry.needed x.0 r.of_it r.fitting in
    let m = key_value v b q.entry.needed y.0 q.of_it q.fitting in
    let lies : (label : Label) (value : Value) → Is_in label (needed_labels advert) → value_for d.entries (needs.Key label) ≡ Some value
    → key_at deal.keys label ≡ key_or_none (Some value) =
    λ label value s t. ap (λ (z : Deal). key_at z.keys label) (sym d.same) ∙ key_is d.entries (needed_labels advert) label value s t in
    let bytes : k.0 ≡ m.0 =
    ap (λ (z : Value). key_or_none (Some z)) (sym k.1) ∙ sym (lies a x.0 i x.1) ∙ same ∙ lies b y.0 j y.1
    ∙ ap (λ (z : Value). key_or_none (Some z)) m.1 in
    let shared : IsShared r.entry.value q.entry.value =
    subst (λ (z : Value). IsShared z q.entry.value) (sym (r.same ∙ k.1))
    (subst (λ (z : Value). IsShared (key k.0) z) (sym (q.same ∙ m.1)) (key_shares k.0 m.0 bytes)) in
    let entry = once r.entry q.entry
    (found (λ (z : Entry). same_needed z.needed (needs.Key a)) d.entries r.entry r.finds).0
    (found (λ (z : Entry). same_needed z.needed (needs.Key b)) d.entries q.entry q.finds).0 shared in
    one_text r.entry.needed a b r.of_it (subst (λ (z : Entry). same_needed z.needed (needs.Key b) ≡ true) (sym entry) q.of_it)
