-- The index of a list of transactions, with one more.
use Rattle.std.proofs.Common.{◌≡◌, ℕ, ◌+◌, List, [], ◌∷◌, ◌++◌, length, Bool, true, false, cond, Option, Some, None}
use Rattle.std.proofs.Common.{refl, sym, ap, subst, ◌∙◌, arith, append-nil, take, get_or, ◌<◌, ◌≤◌, add-one}
use Rattle.std.proofs.Math.Seq.{take-suc}
use Rattle.std.proofs.lemmas.List.{length-take-le, take_all}
use Rattle.std.specs.Prelude.{if◌then◌else◌}
use Rattle.std.specs.Ordering.{nat_cmp, is_eq}
use Rattle.std.specs.declared.cmp.Ordering.{Ordering}
use Rattle.std.specs.Cmp.{eq_by_cmp_equiv}
use Rattle.std.specs.Cmp.Lexicographic.{slice_cmp, nat_list_cmp_total}
use Rattle.std.specs.Str.{bytes_eq}
use Rattle.std.specs.Map.{lookup}
use Rattle.std.specs.BTreeMap as tree
use Rattle.std.specs.BTreeMap.{BTreeMap}
use Rattle.std.specs.Global.{Vec}
use Rattle.std.proofs.lemmas.Slice.Eq.{bytes_eq-Decides}
use Rattle.spec_data.proofs.MapLemmas.{other_entries, apart_in_order}
use Rattle.spec_bitcoin.specs.Spelling.{stripped}
use Rattle.bm_audit_listed.specs.declared.entries.Candidate.{Candidate}
use Rattle.bm_audit_listed.specs.Indexed.{places_from, places_or_none, found_at, IsIndexed, Leaves, Adds}

abbrev pub Index : Type 0
Index = BTreeMap (Vec ℕ) (List ℕ)

-- ---- the index at any bytes, after a change at some

abbrev pub vec_cmp : List ℕ → Vec ℕ → Ordering
vec_cmp bs k = slice_cmp nat_cmp bs k.items

abbrev pub Changes : Index → Index → List ℕ → Option (List ℕ) → Type 0
Changes m n bs w = tree.UpdatesBy (λ x y. slice_cmp nat_cmp x.items y.items) (λ k. slice_cmp nat_cmp bs k.items) m n w

got_after : (bs : List ℕ) (m n : Index) (w : Option (List ℕ)) → Changes m n bs w → (q : List ℕ)
    → tree.get_by (vec_cmp q) n ≡ cond (bytes_eq bs q) w (tree.get_by (vec_cmp q) m)
got_after bs m n w h q =
    elim (bytes_eq bs q) as (λ b. bytes_eq bs q ≡ b → tree.get_by (vec_cmp q) n ≡ cond b w (tree.get_by (vec_cmp q) m)) [
      | true ↦ λ t. subst (λ l. tree.get_by (vec_cmp l) n ≡ w) ((bytes_eq-Decides bs q).0 t) h.1
      | false ↦ λ t.
          other_entries _ _ _ _ h.3 _ (λ x y. (eq_by_cmp_equiv nat_list_cmp_total).congr q x.items y.items)
          (λ k. apart_in_order bs q k.items t)
    ] refl

placed_by : (b : Bool) (w o : Option (List ℕ)) → places_or_none (cond b w o) ≡ cond b (places_or_none w) (places_or_none o)
placed_by true w o = refl
placed_by false w o = refl

found_after : (bs : List ℕ) (m n : Index) (w : Option (List ℕ)) → Changes m n bs w → (q : List ℕ)
    → found_at n q ≡ cond (bytes_eq bs q) (places_or_none w) (found_at m q)
found_after bs m n w h q =
    ap places_or_none (got_after bs m n w h q) ∙ placed_by (bytes_eq bs q) w (tree.get_by (vec_cmp q) m)

pub leaves_by : (old new : Index) (bytes : List ℕ) → Changes old new bytes None → Leaves old new bytes
leaves_by old new bytes h = record { at = found_after bytes old new None h }

pub adds_by : (old mid new : Index) (bytes before pushed : List ℕ) (place : ℕ) → before ≡ found_at old bytes → Leaves old mid bytes
    → pushed ≡ before ++ place ∷ [] → Changes mid new bytes (Some pushed) → Adds old new bytes place
adds_by old mid new bytes before pushed place taken left more h = record {
  at = λ q.
      found_after bytes mid new (Some pushed) h q ∙ by_same q;
}
  where
    by_same : (q : List ℕ) → cond (bytes_eq bytes q) pushed (found_at mid q)
        ≡ cond (bytes_eq bytes q) (found_at old q ++ place ∷ []) (found_at old q)
    by_same q =
        elim (bytes_eq bytes q) as (λ b. bytes_eq bytes q ≡ b
        → cond b pushed (found_at mid q) ≡ cond b (found_at old q ++ place ∷ []) (found_at old q)) [
          | true ↦ λ t.
              more ∙ ap (λ (ps : List ℕ). ps ++ place ∷ []) (taken ∙ ap (found_at old) ((bytes_eq-Decides bytes q).0 t))
          | false ↦ λ t. left.at q ∙ ap (λ b. cond b [] (found_at old q)) t
        ] refl

-- ---- one transaction more

places_push : (k : ℕ) (bytes : List ℕ) (cs : List Candidate) (c : Candidate)
    → places_from k bytes (cs ++ c ∷ []) ≡ places_from k bytes cs ++ (if bytes_eq (stripped c.tx) bytes then (k + length cs) ∷ [] else [])
places_push k bytes [] c =
    let e : k + 0 ≡ k = omega arith in
    ap (λ (n : ℕ). if bytes_eq (stripped c.tx) bytes then n ∷ [] else []) (sym e)
places_push k bytes (x ∷ cs) c =
    let e : k + 1 + length cs ≡ k + length (x ∷ cs) = omega arith in
    by_test (bytes_eq (stripped x.tx) bytes) (
    places_push (k + 1) bytes cs c
    ∙ ap (λ (n : ℕ). places_from (k + 1) bytes cs ++ (if bytes_eq (stripped c.tx) bytes then n ∷ [] else [])) e
    )
  where
    by_test : (b : Bool) → places_from (k + 1) bytes (cs ++ c ∷ [])
        ≡ places_from (k + 1) bytes cs ++ (if bytes_eq (stripped c.tx) bytes then (k + length (x ∷ cs)) ∷ [] else [])
        → (if b then k ∷ places_from (k + 1) bytes (cs ++ c ∷ []) else places_from (k + 1) bytes (cs ++ c ∷ []))
        ≡ (if b then k ∷ places_from (k + 1) bytes cs else places_from (k + 1) bytes cs)
        ++ (if bytes_eq (stripped c.tx) bytes then (k + length (x ∷ cs)) ∷ [] else [])
    by_test true later = ap (λ (rest : List ℕ). k ∷ rest) later
    by_test false later = later

-- the index of no transaction
pub indexed_none : (index : Index) → index.entries ≡ [] → IsIndexed [] index
indexed_none index e = record { at = λ q. ap (λ es. places_or_none (lookup (λ k. is_eq (vec_cmp q k)) es)) e }

pub indexed_more : (cs : List Candidate) (old new : Index) (c : Candidate) (place : ℕ) → place ≡ length cs → IsIndexed cs old
    → Adds old new (stripped c.tx) place → IsIndexed (cs ++ c ∷ []) new
indexed_more cs old new c place here is adds = record {
  at = λ q.
      adds.at q
      ∙ ap (λ (ps : List ℕ). if bytes_eq (stripped c.tx) q then ps ++ place ∷ [] else ps) (is.at q)
      ∙ by_test q (bytes_eq (stripped c.tx) q)
      ∙ sym (places_push 0 q cs c);
}
  where
    e : place ≡ 0 + length cs
    e = omega (arith, here)

    by_test : (q : List ℕ) (b : Bool) → (if b then places_from 0 q cs ++ place ∷ [] else places_from 0 q cs)
        ≡ places_from 0 q cs ++ (if b then (0 + length cs) ∷ [] else [])
    by_test q true = ap (λ (n : ℕ). places_from 0 q cs ++ n ∷ []) e
    by_test q false = sym (append-nil (places_from 0 q cs))

-- the transactions of a list one after another
pub indexed_next : (cs : List Candidate) (n : ℕ) (c : Candidate) (old new : Index) → n < length cs → c ≡ get_or cs n c
    → IsIndexed (take n cs) old → Adds old new (stripped c.tx) n → IsIndexed (take (n + 1) cs) new
indexed_next cs n c old new less here is adds =
    let within : n ≤ length cs = omega arith in
    let count : n ≡ length (take n cs) = sym (length-take-le n cs within) in
    let grown : take n cs ++ c ∷ [] ≡ take (n + 1) cs =
    ap (λ (x : Candidate). take n cs ++ x ∷ []) here ∙ sym (take-suc cs n c less) ∙ ap (λ (k : ℕ). take k cs) (sym (add-one n)) in
    subst (λ (xs : List Candidate). IsIndexed xs new) grown (indexed_more (take n cs) old new c n count is adds)

pub indexed_all : (cs : List Candidate) (n : ℕ) (index : Index) → length cs ≤ n → IsIndexed (take n cs) index → IsIndexed cs index
indexed_all cs n index over is = subst (λ (xs : List Candidate). IsIndexed xs index) (take_all n cs over) is
