-- Bytes of transactions and of what is signed are read in one way.
use Rattle.std.proofs.Common.{◌≡◌, ℕ, ◌+◌, ◌<◌, ◌≤◌, ◌^◌, List, [], ◌∷◌, ◌++◌, length, map, true, refl, sym, ap, ◌∙◌, arith, length-append}
use Rattle.std.specs.List.{flat_map, AllByRecursion}
use Rattle.std.specs.Int.{w32}
use Rattle.std.proofs.lemmas.List.Concat.{flat_map-cons}
use Rattle.spec_data.specs.Lists.{is_among}
use Rattle.spec_bitcoin.specs.declared.tx.OutPoint.{OutPoint}
use Rattle.spec_bitcoin.specs.declared.tx.TxIn.{TxIn}
use Rattle.spec_bitcoin.specs.declared.tx.TxOut.{TxOut}
use Rattle.spec_bitcoin.specs.declared.tx.Tx.{Tx}
use Rattle.spec_bitcoin.specs.Spelling.{word, long_word, sized, place_bytes, output_bytes, IsPlace, IsInput, IsOutput, IsTransaction}
use Rattle.spec_bitcoin.specs.Digests.{double, places_list, sequences_list, outputs_list, shared_strings, preimage}
use Rattle.theory_bitcoin.proofs.Formats.{wide32, wide64}
use Rattle.theory_bitcoin.specs.Places.{AllPlaces}
use Rattle.theory_bitcoin.proofs.Apart.{cut, all_places, all_outputs, inputs_places, number_once, places}
use Rattle.spec_run.specs.Conditions.{HashesBytes}
use Rattle.theory_world.specs.KeptApart.{NoCollision}
use Rattle.theory_world.proofs.Hashed.{among_left, among_right, among_head, among_tail}
use Rattle.theory_world.specs.Transactions.{AllSequences, IsNumbered, HeardLists}

-- ---- lists that are joined

pub split_right : {X : Type 0} (xs ys us vs : List X) → length us ≡ length vs → xs ++ us ≡ ys ++ vs → (xs ≡ ys) × (us ≡ vs)
split_right xs ys us vs l e =
    let n : length xs + length us ≡ length ys + length vs = sym (length-append xs us) ∙ ap length e ∙ length-append ys vs in
    cut xs ys us vs (omega (arith, l, n)) e

-- ---- parts

pub word-apart : (n m : ℕ) → n < 2 ^ 32 → m < 2 ^ 32 → word n ≡ word m → n ≡ m
word-apart n m h k e = number_once w32 (2 ^ 32) wide32 n m h k e

pub place-size : (p : OutPoint) → IsPlace p → length (place_bytes p) ≡ 36
place-size p h = length-append p.txid (word p.vout) ∙ (let a = h.size in let b = wide32.len p.vout in omega (arith, a, b))

pub place-apart : (p q : OutPoint) → IsPlace p → IsPlace q → place_bytes p ≡ place_bytes q → p ≡ q
place-apart p q h k e = (places p q [] [] h k (ap (λ t. t ++ []) e)).0

-- ---- the three lists

abbrev sequence_text : TxIn → List ℕ
sequence_text i = word i.sequence

pub sequences-apart : (xs ys : List TxIn) → AllSequences xs → AllSequences ys → flat_map sequence_text xs ≡ flat_map sequence_text ys
    → map (λ i. i.sequence) xs ≡ map (λ i. i.sequence) ys
sequences-apart [] [] h k e = refl
sequences-apart [] (y ∷ ys) h k e =
    let n = ap length (e ∙ flat_map-cons sequence_text y ys) ∙ length-append (sequence_text y) (flat_map sequence_text ys) in
    let m = wide32.len y.sequence in
    absurd (omega (arith, n, m))
sequences-apart (x ∷ xs) [] h k e =
    let n = ap length (sym (flat_map-cons sequence_text x xs) ∙ e) in
    let l = length-append (sequence_text x) (flat_map sequence_text xs) in
    let m = wide32.len x.sequence in
    absurd (omega (arith, n, l, m))
sequences-apart (x ∷ xs) (y ∷ ys) h k e =
    let r = cut (sequence_text x) (sequence_text y) (flat_map sequence_text xs) (flat_map sequence_text ys)
    (wide32.len x.sequence ∙ sym (wide32.len y.sequence)) (sym (flat_map-cons sequence_text x xs) ∙ e ∙ flat_map-cons sequence_text y ys) in
    let a = word-apart x.sequence y.sequence h.0 k.0 r.0 in
    let b = sequences-apart xs ys h.1 k.1 r.1 in
    λ i. a i ∷ b i

pub inputs_sequences : (is : List TxIn) → AllByRecursion IsInput is → AllSequences is
inputs_sequences [] h = tt
inputs_sequences (i ∷ is) h = (h.0.sequence, inputs_sequences is h.1)

-- each output has a byte at least
pub few_outputs : (os : List TxOut) → length os ≤ length (flat_map output_bytes os)
few_outputs [] = omega arith
few_outputs (o ∷ os) =
    let a = ap length (flat_map-cons output_bytes o os) ∙ length-append (output_bytes o) (flat_map output_bytes os) in
    let b = length-append (long_word o.value) (sized o.script) in
    let c = wide64.len o.value in
    let r = few_outputs os in
    omega (arith, a, b, c, r)

pub numbered_few : (tx : Tx) → IsNumbered tx → length tx.outputs ≤ 2 ^ 32
numbered_few tx h = let a = few_outputs tx.outputs in let b = h.size in omega (arith, a, b)

pub numbered : (tx : Tx) → IsTransaction tx → length (flat_map output_bytes tx.outputs) < 2 ^ 32 → IsNumbered tx
numbered tx h size = record {
  version = h.version;
  places = inputs_places tx.inputs h.inputs;
  sequences = inputs_sequences tx.inputs
      h.inputs;
  outputs = h.outputs;
  size = size;
  lock = h.lock;
}

-- ---- what is signed

-- two transactions with the same version, spent places, sequences, outputs and lock
pub record SameSigned (a b : Tx) : Type 0 where
  pub version : a.version ≡ b.version
  pub places : map (λ i. i.prev) a.inputs ≡ map (λ i. i.prev) b.inputs
  pub sequences : map (λ i. i.sequence) a.inputs ≡ map (λ i. i.sequence) b.inputs
  pub outputs : a.outputs ≡ b.outputs
  pub lock : a.lock ≡ b.lock

pub heard_lists : (hash : List ℕ → List ℕ) (hs : List (List ℕ)) (tx : Tx)
    → ((t : List ℕ) → is_among t (shared_strings hash tx) ≡ true → is_among t hs ≡ true) → HeardLists hash hs tx
heard_lists hash hs tx h =
    let p = places_list tx in
    let q = sequences_list tx in
    let o = outputs_list tx in
    let prefix : List (List ℕ) = (p ∷ hash p ∷ []) ++ (q ∷ hash q ∷ []) in
    let last : List (List ℕ) = o ∷ hash o ∷ [] in
    record {
      places = h p (among_left p prefix last (among_left p (p ∷ hash p ∷ []) (q ∷ hash q ∷ []) (among_head p (hash p ∷ []))));
      places_hash = h (hash p) (among_left (hash p) prefix last
          (among_left (hash p) (p ∷ hash p ∷ []) (q ∷ hash q ∷ []) (among_tail (hash p) p (hash p ∷ []) (among_head (hash p) []))));
      sequences = h q (among_left q prefix last (among_right q (p ∷ hash p ∷ []) (q ∷ hash q ∷ []) (among_head q (hash q ∷ []))));
      sequences_hash = h (hash q) (among_left (hash q) prefix last
          (among_right (hash q) (p ∷ hash p ∷ []) (q ∷ hash q ∷ []) (among_tail (hash q) q (hash q ∷ []) (among_head (hash q) []))));
      outputs = h o (among_right o prefix last (among_head o (hash o ∷ [])));
      outputs_hash = h (hash o) (among_right (hash o) prefix last (among_tail (hash o) o (hash o ∷ []) (among_head (hash o) [])));
    }

pub double-apart : (hash : List ℕ → List ℕ) (hs : List (List ℕ)) → NoCollision hash hs → (t u : List ℕ) → is_among t hs ≡ true
    → is_among (hash t) hs ≡ true → is_among u hs ≡ true → is_among (hash u) hs ≡ true → double hash t ≡ double hash u → t ≡ u
double-apart hash hs clear t u h h' k k' e = clear.one t u h k (clear.one (hash t) (hash u) h' k' e)

pub preimage-apart : (hash : List ℕ → List ℕ) → HashesBytes hash → (hs : List (List ℕ)) → NoCollision hash hs → (a b : Tx) → IsNumbered a
    → IsNumbered b → HeardLists hash hs a → HeardLists hash hs b
    → (i j : TxIn) → IsPlace i.prev → IsPlace j.prev → (s t : List ℕ) (v u : ℕ) → preimage hash a i s v ≡ preimage hash b j t u → SameSigned a b
unfolding preimage places_list sequences_list outputs_list
preimage-apart hash size hs clear a b fa fb ha hb i j pi pj s t v u e =
    let d = λ (m : List ℕ) (n : List ℕ). size.size (hash m) ∙ sym (size.size (hash n)) in
    let r1 = split_right _ _ (word 1) (word 1) refl e in
    let r2 = split_right _ _ (word a.lock) (word b.lock) (wide32.len a.lock ∙ sym (wide32.len b.lock)) r1.0 in
    let r3 = split_right _ _ (double hash (outputs_list a)) (double hash (outputs_list b)) (d (outputs_list a) (outputs_list b)) r2.0 in
    let r4 = split_right _ _ (word i.sequence) (word j.sequence) (wide32.len i.sequence ∙ sym (wide32.len j.sequence)) r3.0 in
    let r5 = split_right _ _ (long_word v) (long_word u) (wide64.len v ∙ sym (wide64.len u)) r4.0 in
    let prefix : Tx → TxIn → List ℕ = λ tx k. word tx.version ++ double hash (places_list tx) ++ double hash (sequences_list tx) ++ place_bytes k.prev in
    let len : (tx : Tx) (k : TxIn) → IsPlace k.prev → length (prefix tx k) ≡ 104 = λ tx k p.
    let l1 = length-append (word tx.version ++ double hash (places_list tx) ++ double hash (sequences_list tx)) (place_bytes k.prev) in
    let l2 = length-append (word tx.version ++ double hash (places_list tx)) (double hash (sequences_list tx)) in
    let l3 = length-append (word tx.version) (double hash (places_list tx)) in
    let m1 = place-size k.prev p in
    let m2 = size.size (hash (sequences_list tx)) in
    let m3 = size.size (hash (places_list tx)) in
    let m4 = wide32.len tx.version in
    omega (arith, l1, l2, l3, m1, m2, m3, m4) in
    let r6 = cut (prefix a i) (prefix b j) (sized s) (sized t) (len a i pi ∙ sym (len b j pj)) r5.0 in
    let r7 = split_right _ _ (place_bytes i.prev) (place_bytes j.prev) (place-size i.prev pi ∙ sym (place-size j.prev pj)) r6.0 in
    let r8 = split_right _ _ (double hash (sequences_list a)) (double hash (sequences_list b)) (d (sequences_list a) (sequences_list b)) r7.0 in
    let r9 = split_right (word a.version) (word b.version)
    (double hash (places_list a)) (double hash (places_list b)) (d (places_list a) (places_list b)) r8.0 in
    let places = double-apart hash hs clear (places_list a) (places_list b) ha.places ha.places_hash hb.places hb.places_hash r9.1 in
    let sequences = double-apart hash hs clear (sequences_list a) (sequences_list b) ha.sequences ha.sequences_hash hb.sequences hb.sequences_hash r8.1 in
    let outputs = double-apart hash hs clear (outputs_list a) (outputs_list b) ha.outputs ha.outputs_hash hb.outputs hb.outputs_hash r3.1 in
    record {
      version = word-apart a.version b.version fa.version fb.version r9.0;
      places = all_places a.inputs b.inputs fa.places fb.places places;
      sequences = sequences-apart a.inputs b.inputs fa.sequences fb.sequences sequences;
      outputs = all_outputs a.outputs b.outputs fa.outputs fb.outputs outputs;
      lock = word-apart a.lock b.lock fa.lock fb.lock r2.1;
    }
