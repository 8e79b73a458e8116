-- What a later world keeps: outputs but for their life, signatures, messages, and compiled contracts.
use Rattle.std.proofs.Common.{◌≡◌, ℕ, zero, suc, ◌+◌, List, [], ◌∷◌, ◌++◌, length, Bool, true, false, Option, Some, None, refl, sym, ap, ◌∙◌, subst, arith, inl, inr}
use Rattle.std.specs.Prelude.{◌==◌, ◌⊎◌, slice_get, is_some, if◌then◌else◌, option_map}
use Rattle.std.specs.List.{list_any, list_all}
use Rattle.std.proofs.lemmas.Bool.{and_parts, and_from, or_left}
use Rattle.spec_data.specs.Lists.{has_number}
use Rattle.spec_terms.specs.Advert.{Advert}
use Rattle.spec_terms.specs.Parties.{participants}
use Rattle.spec_bitcoin.specs.declared.tx.TxOut.{TxOut}
use Rattle.spec_calculus.specs.declared.parts.Advertised.{Advertised}
use Rattle.spec_compiler.specs.Instance.{Instance}
use Rattle.spec_run.specs.Setup.{Setup, contract_at}
use Rattle.spec_run.specs.World.{ContractPosition, Output, Promise, World, output_at, bindings_at, is_advertised, is_promise_of, has_promised, have_promised, digests_at}
use Rattle.spec_run.specs.Compiled.{outpoint_of, bound_outpoints, instance_of, is_complete, instance_if_complete, compiled_instance}
use Rattle.spec_run.specs.Ledger.{spend_from, made_from}
use Rattle.theory_calculus.proofs.Members.{all_then}
use Rattle.theory_world.proofs.Tests.{any-append}
use Rattle.theory_world.specs.KeptApart.{are_made}

-- ---- outputs by number, after a transaction

pub get-spent : (k n : ℕ) (ns : List ℕ) (os : List Output) → slice_get (spend_from k ns os) n
    ≡ option_map (λ (o : Output). if has_number (n + k) ns then record o { live = false } else o) (slice_get os n)
get-spent k n ns [] = refl
get-spent k zero ns (o ∷ os) = let z : 0 + k ≡ k = omega arith in rw z refl
get-spent k (suc n) ns (o ∷ os) = let z : n + (k + 1) ≡ suc n + k = omega arith in rw z at (get-spent (k + 1) n ns os)

pub get-prefix : {X : Type 0} (xs ys : List X) (n : ℕ) (x : X) → slice_get xs n ≡ Some x → slice_get (xs ++ ys) n ≡ Some x
get-prefix [] ys n x h = cc
get-prefix (y ∷ xs) ys zero x h = h
get-prefix (y ∷ xs) ys (suc n) x h = get-prefix xs ys n x h

-- an element of two joined lists stands in the first, or so many places after it in the second
pub get-split : {X : Type 0} (xs ys : List X) (n : ℕ) (x : X) → slice_get (xs ++ ys) n ≡ Some x
    → (slice_get xs n ≡ Some x) ⊎ ((m : ℕ) × (n ≡ length xs + m) × (slice_get ys m ≡ Some x))
get-split [] ys n x h = inr (n, omega arith, h)
get-split (y ∷ xs) ys zero x h = inl h
get-split (y ∷ xs) ys (suc n) x h = elim (get-split xs ys n x h) [
  | inl a ↦ inl a
  | inr b ↦ inr (b.0, (let e = b.1 in omega (arith, e)), b.2)
]

-- new output m
pub get-made : (held : ℕ → Option ContractPosition) (id : List ℕ) (k m : ℕ) (os : List TxOut) (x : Output) → slice_get (made_from held id k os) m ≡ Some x
    → (o : TxOut) × (slice_get os m ≡ Some o)
    × (x ≡ record { outpoint = record { txid = id; vout = m + k }; value = o.value; script = o.script; live = true; holds = held (m + k) })
get-made held id k m [] x h = cc
get-made held id k zero (o ∷ os) x h =
    let z : 0 + k ≡ k = omega arith in
    let e : record { outpoint = record { txid = id; vout = k }; value = o.value; script = o.script; live = true; holds = held k } ≡ x = cc in
    (o, refl, rw z (sym e))
get-made held id k (suc m) (o ∷ os) x h =
    let z : m + (k + 1) ≡ suc m + k = omega arith in
    let r = get-made held id (k + 1) m os x h in
    (r.0, r.1, rw z at r.2)

-- ---- frames

-- the second output is the first, but that it may have been spent
pub record SameOutput (o p : Output) : Type 0 where
  pub outpoint : p.outpoint ≡ o.outpoint
  pub script : p.script ≡ o.script
  pub value : p.value ≡ o.value
  pub holds : p.holds ≡ o.holds
  pub dead : o.live ≡ false → p.live ≡ false

pub record Lasts (os ps : List Output) : Type 0 where
  pub last : (n : ℕ) (o : Output) → slice_get os n ≡ Some o → (p : Output) × (slice_get ps n ≡ Some p) × SameOutput o p

pub lasts_refl : (os : List Output) → Lasts os os
lasts_refl os = record { last = λ n o h. (o, h, record { outpoint = refl; script = refl; value = refl; holds = refl; dead = λ e. e }) }

pub lasts_same : (os ps : List Output) → ps ≡ os → Lasts os ps
lasts_same os ps e = subst (Lasts os) (sym e) (lasts_refl os)

pub lasts_spent : (ns : List ℕ) (os news : List Output) → Lasts os (spend_from 0 ns os ++ news)
lasts_spent ns os news = record { last = λ n o h. by_test n o h (has_number (n + 0) ns) refl }
  where
    by_test : (n : ℕ) (o : Output) → slice_get os n ≡ Some o → (b : Bool) → has_number (n + 0) ns ≡ b → (p : Output)
        × (slice_get (spend_from 0 ns os ++ news) n ≡ Some p) × SameOutput o p
    by_test n o h true e =
        let g : slice_get (spend_from 0 ns os) n ≡ Some (record o { live = false }) = get-spent 0 n ns os ∙ rw (h, e) refl in (
          record o { live = false },
          get-prefix (spend_from 0 ns os) news n (record o { live = false })
              g,
          record { outpoint = refl; script = refl; value = refl; holds = refl; dead = λ x. refl },
        )
    by_test n o h false e =
        let g : slice_get (spend_from 0 ns os) n ≡ Some o = get-spent 0 n ns os ∙ rw (h, e) refl in
        (o, get-prefix (spend_from 0 ns os) news n o g, record { outpoint = refl; script = refl; value = refl; holds = refl; dead = λ x. x })

-- ---- compiled contracts

pub record IsCompiledAt (s : Setup) (w : World) (k : ℕ) (st : Instance) : Type 0 where
  pub advert : Advert
  pub there : contract_at s k ≡ Some advert
  pub advertised : is_advertised w k ≡ true
  pub promised : have_promised w k (participants advert) ≡ true
  pub is : st ≡ instance_of w k advert

pub compiled_is : (s : Setup) (w : World) (k : ℕ) (st : Instance) → compiled_instance s w k ≡ Some st → IsCompiledAt s w k st
compiled_is s w k st h = by_contract (contract_at s k) refl h
  where
    by_test : (a : Advert) → contract_at s k ≡ Some a → (b : Bool) → is_complete w k a ≡ b → (if b then Some (instance_of w k a) else None)
        ≡ Some st → IsCompiledAt s w k st
    by_test a e true f q =
        let p = and_parts (is_advertised w k) (have_promised w k (participants a)) f in
        let z : instance_of w k a ≡ st = cc in record { advert = a; there = e; advertised = p.0; promised = p.1; is = sym z }
    by_test a e false f q = cc

    by_contract : (o : Option Advert) → contract_at s k ≡ o → instance_if_complete w k o ≡ Some st → IsCompiledAt s w k st
    by_contract None e q = cc
    by_contract (Some a) e q = by_test a e (is_complete w k a) refl q

pub compiled_from : (s : Setup) (w : World) (k : ℕ) (a : Advert) → contract_at s k ≡ Some a → is_advertised w k ≡ true
    → have_promised w k (participants a) ≡ true → compiled_instance s w k ≡ Some (instance_of w k a)
compiled_from s w k a e f g =
    let c : is_complete w k a ≡ true = and_from _ _ f g in
    ap (instance_if_complete w k) e ∙ rw c refl

pub bindings-more : (xs ys : List Advertised) (k : ℕ) → list_any (λ a. a.contract == k) xs ≡ true → bindings_at (xs ++ ys) k ≡ bindings_at xs k
bindings-more [] ys k h = cc
bindings-more (x ∷ xs) ys k h = grind (arith, bindings-more xs ys k)

pub digests-other : (ps qs : List Promise) (k : ℕ) → list_any (λ p. p.contract == k) qs ≡ false → digests_at (ps ++ qs) k ≡ digests_at ps k
digests-other [] [] k h = refl
digests-other [] (q ∷ qs) k h = grind (arith, digests-other [] qs k)
digests-other (p ∷ ps) qs k h = grind (arith, digests-other ps qs k)

places-last : (w next : World) (bs : List (List ℕ × ℕ)) → Lasts w.outputs next.outputs → are_made w bs ≡ true → bound_outpoints next bs ≡ bound_outpoints w bs
places-last w next [] l h = refl
places-last w next (b ∷ bs) l h =
    let p = and_parts (is_some (output_at w (b.1))) (are_made w bs) h in
    let e = by_output (output_at w (b.1)) refl p.0 in
    let ih = places-last w next bs l p.1 in
    λ i. (b.0, e i) ∷ ih i
  where
    by_output : (o : Option Output) → output_at w (b.1) ≡ o → is_some o ≡ true → outpoint_of (output_at next (b.1)) ≡ outpoint_of o
    by_output None e q = cc
    by_output (Some o) e q = let r = l.last (b.1) o e in ap outpoint_of r.1 ∙ r.2.outpoint

-- a contract that is compiled stays so
pub compiled_stays : (s : Setup) (w next : World) (new : List Advertised) (ps : List Promise) (k : ℕ) (st : Instance)
    → next.advertised ≡ w.advertised ++ new → next.promises ≡ w.promises ++ ps → Lasts w.outputs next.outputs
    → are_made w (bindings_at w.advertised k) ≡ true → list_any (λ p. p.contract == k) ps ≡ false
    → compiled_instance s w k ≡ Some st → compiled_instance s next k ≡ Some st
compiled_stays s w next new ps k st ea ep l made other h =
    let c = compiled_is s w k st h in
    let adv : is_advertised next k ≡ true =
    ap (list_any (λ a. a.contract == k)) ea ∙ any-append (λ a. a.contract == k) w.advertised new ∙ or_left _ _ c.advertised in
    let pro : have_promised next k (participants c.advert) ≡ true =
    all_then (has_promised w k) (has_promised next k) (participants c.advert)
    (λ a i. ap (list_any (is_promise_of k a)) ep ∙ any-append (is_promise_of k a) w.promises ps ∙ or_left _ _ i) c.promised in
    let b : bindings_at next.advertised k ≡ bindings_at w.advertised k = ap (λ xs. bindings_at xs k) ea ∙ bindings-more w.advertised new k c.advertised in
    let pl : bound_outpoints next (bindings_at next.advertised k) ≡ bound_outpoints w (bindings_at w.advertised k) =
    ap (bound_outpoints next) b ∙ places-last w next (bindings_at w.advertised k) l made in
    let d : digests_at next.promises k ≡ digests_at w.promises k = ap (λ xs. digests_at xs k) ep ∙ digests-other w.promises ps k other in
    let e : instance_of next k c.advert ≡ instance_of w k c.advert = λ i. record { contract = k; advert = c.advert; bound = pl i; hashes = d i } in
    compiled_from s next k c.advert c.there adv pro ∙ ap Some (e ∙ sym c.is)
