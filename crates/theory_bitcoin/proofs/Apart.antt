-- The bytes that are hashed for a transaction tell it, but for its witnesses.
use Rattle.std.proofs.Common.{◌≡◌, ℕ, suc, ◌<◌, ◌^◌, true, false, List, [], ◌∷◌, ◌++◌, length, map, refl, sym, ap, subst, ◌∙◌, append_assoc, arith, length-append}
use Rattle.std.specs.Int.{Width, w32, w64, to_le_bytes, from_le_bytes}
use Rattle.std.specs.List.{flat_map, AllByRecursion}
use Rattle.std.proofs.lemmas.List.Concat.{flat_map-cons}
use Rattle.spec_bitcoin.specs.declared.tx.OutPoint.{OutPoint}
use Rattle.spec_bitcoin.specs.declared.tx.TxIn.{TxIn}
use Rattle.spec_bitcoin.specs.declared.tx.TxOut.{TxOut}
use Rattle.spec_bitcoin.specs.declared.tx.Tx.{Tx}
use Rattle.spec_bitcoin.specs.Spelling.{compact, sized, word, long_word, place_bytes, output_bytes, inputs_bytes, outputs_bytes, stripped, IsString, IsPlace, IsInput, IsOutput, IsTransaction, Spells}
use Rattle.spec_bitcoin.specs.Digests.{double, places_list, sequences_list, outputs_list, preimage}
use Rattle.spec_bitcoin.specs.Reading.{is_zero, string_at, output_at, with_witnesses}
use Rattle.theory_bitcoin.specs.Apart.{bare_input, bare, IsSigned, IsSameSigned}
use Rattle.theory_bitcoin.proofs.Exact.{same_answer}
use Rattle.theory_bitcoin.proofs.Formats.{IsWide, wide32, wide64}
use Rattle.theory_bitcoin.proofs.Parts.{IsBare, body_bytes, Plain, String, the_string, Output, an_output}
use Rattle.theory_bitcoin.proofs.Transactions.{with_bytes, starts_plain, bare_marked}
use Rattle.theory_bitcoin.proofs.Top.{one_transaction}
use Rattle.theory_bitcoin.specs.Places.{AllPlaces}

-- ---- prefixes of one length

pub cut : {X : Type 0} (a b x y : List X) → length a ≡ length b → a ++ x ≡ b ++ y → (a ≡ b) × (x ≡ y)
cut [] [] x y n e = (refl, e)
cut [] (c ∷ b) x y n e = absurd (omega (arith, n))
cut (c ∷ a) [] x y n e = absurd (omega (arith, n))
cut (c ∷ a) (d ∷ b) x y n e =
    let heads : c ≡ d = cc in
    let tails : a ++ x ≡ b ++ y = cc in
    let r = cut a b x y (omega (arith, n)) tails in
    ((λ i. heads i ∷ r.0 i), r.1)

pub number_once : (w : Width) (limit : ℕ) → IsWide w limit → (m n : ℕ) → m < limit → n < limit → to_le_bytes w m ≡ to_le_bytes w n → m ≡ n
number_once w limit wide m n h k e = sym (wide.again m h) ∙ ap (from_le_bytes w) e ∙ wide.again n k

-- a word and what stands behind it
words : (m n : ℕ) (x y : List ℕ) → m < 2 ^ 32 → n < 2 ^ 32 → word m ++ x ≡ word n ++ y → (m ≡ n) × (x ≡ y)
words m n x y h k e = let r = cut (word m) (word n) x y refl e in (number_once w32 (2 ^ 32) wide32 m n h k r.0, r.1)

long_words : (m n : ℕ) (x y : List ℕ) → m < 2 ^ 64 → n < 2 ^ 64 → long_word m ++ x ≡ long_word n ++ y → (m ≡ n) × (x ≡ y)
long_words m n x y h k e = let r = cut (long_word m) (long_word n) x y refl e in (number_once w64 (2 ^ 64) wide64 m n h k r.0, r.1)

pub strings : (s t x y : List ℕ) → IsString s → IsString t → sized s ++ x ≡ sized t ++ y → (s ≡ t) × (x ≡ y)
strings s t x y h k e =
    same_answer String string_at the_string (sized s) x (sized t) y s t (record { same = refl; fits = h }) (record { same = refl; fits = k }) e

pub places : (p q : OutPoint) (x y : List ℕ) → IsPlace p → IsPlace q → place_bytes p ++ x ≡ place_bytes q ++ y → (p ≡ q) × (x ≡ y)
places p q x y h k e =
    let f : p.txid ++ (word p.vout ++ x) ≡ q.txid ++ (word q.vout ++ y) = sym (append_assoc p.txid (word p.vout) x) ∙ e ∙ append_assoc q.txid (word q.vout) y in
    let r = cut p.txid q.txid (word p.vout ++ x) (word q.vout ++ y) (omega (arith, h.size, k.size)) f in
    let u = words p.vout q.vout x y h.vout k.vout r.1 in
    let same : p ≡ q = λ i. record { txid = r.0 i; vout = u.0 i } in
    (same, u.1)

digests : (hash : List ℕ → List ℕ) (m n x y : List ℕ) → ((message : List ℕ) → length (hash message) ≡ 32) → double hash m ++ x
    ≡ double hash n ++ y → (double hash m ≡ double hash n) × (x ≡ y)
digests hash m n x y is_hash e = cut (double hash m) (double hash n) x y (omega (arith, is_hash (hash m), is_hash (hash n))) e

-- ---- the digest

regroup : (a b c d e f g h k l : List ℕ) → a ++ b ++ c ++ d ++ e ++ f ++ g ++ h ++ k ++ l ≡ a ++ (b ++ (c ++ (d ++ (e ++ (f ++ (g ++ (h ++ (k ++ l))))))))
regroup a b c d e f g h k l = simp append_assoc

abbrev parts_of : (List ℕ → List ℕ) → Tx → TxIn → List ℕ → ℕ → List ℕ
parts_of hash tx i s v =
    word tx.version ++ (double hash (places_list tx)
    ++ (double hash (sequences_list tx) ++ (place_bytes i.prev
    ++ (sized s ++ (long_word v ++ (word i.sequence ++ (double hash (outputs_list tx) ++ (word tx.lock ++ word 1))))))))

preimage_is : (hash : List ℕ → List ℕ) (tx : Tx) (i : TxIn) (s : List ℕ) (v : ℕ) → preimage hash tx i s v ≡ parts_of hash tx i s v
unfolding preimage
preimage_is hash tx i s v = regroup (word tx.version) (double hash (places_list tx)) (double hash (sequences_list tx)) (place_bytes i.prev)
    (sized s) (long_word v) (word i.sequence) (double hash (outputs_list tx)) (word tx.lock) (word 1)

pub preimage_once : (hash : List ℕ → List ℕ) (a b : Tx) (i j : TxIn) (s t : List ℕ) (v w : ℕ)
    → ((message : List ℕ) → length (hash message) ≡ 32) → IsSigned a i s v → IsSigned b j t w → preimage hash a i s v
    ≡ preimage hash b j t w → IsSameSigned hash a b i j s t v w
preimage_once hash a b i j s t v w is_hash h k e =
    let e0 : parts_of hash a i s v ≡ parts_of hash b j t w = sym (preimage_is hash a i s v) ∙ e ∙ preimage_is hash b j t w in
    let r1 = words a.version b.version _ _ h.version k.version e0 in
    let r2 = digests hash (places_list a) (places_list b) _ _ is_hash r1.1 in
    let r3 = digests hash (sequences_list a) (sequences_list b) _ _ is_hash r2.1 in
    let r4 = places i.prev j.prev _ _ h.prev k.prev r3.1 in
    let r5 = strings s t _ _ h.scripted k.scripted r4.1 in
    let r6 = long_words v w _ _ h.worth k.worth r5.1 in
    let r7 = words i.sequence j.sequence _ _ h.sequence k.sequence r6.1 in
    let r8 = digests hash (outputs_list a) (outputs_list b) _ _ is_hash r7.1 in
    let r9 = words a.lock b.lock (word 1) (word 1) h.lock k.lock r8.1 in
    record { version = r1.0; places = r2.0; sequences = r3.0; prev = r4.0; script = r5.0; value = r6.0; sequence = r7.0; outputs = r8.0; lock = r9.0 }

-- ---- its lists

abbrev prev_bytes : TxIn → List ℕ
prev_bytes i = place_bytes i.prev

some_place : (p : OutPoint) (x : List ℕ) → [] ≡ place_bytes p ++ x → IsPlace p → ⊥
some_place p x e h =
    let n : 0 ≡ length (place_bytes p ++ x) = ap length e in
    omega (arith, n, length-append (place_bytes p) x, length-append p.txid (word p.vout), h.size)

pub inputs_places : (is : List TxIn) → AllByRecursion IsInput is → AllPlaces is
inputs_places [] h = tt
inputs_places (i ∷ is) h = (h.0.prev, inputs_places is h.1)

pub all_places : (xs ys : List TxIn) → AllPlaces xs → AllPlaces ys → flat_map prev_bytes xs ≡ flat_map prev_bytes ys
    → map (λ (i : TxIn). i.prev) xs ≡ map (λ (i : TxIn). i.prev) ys
all_places [] [] h k e = refl
all_places [] (y ∷ ys) h k e = absurd (some_place y.prev (flat_map prev_bytes ys) (e ∙ flat_map-cons prev_bytes y ys) k.0)
all_places (x ∷ xs) [] h k e = absurd (some_place x.prev (flat_map prev_bytes xs) (sym e ∙ flat_map-cons prev_bytes x xs) h.0)
all_places (x ∷ xs) (y ∷ ys) h k e =
    let r = places x.prev y.prev (flat_map prev_bytes xs)
    (flat_map prev_bytes ys) h.0 k.0 (sym (flat_map-cons prev_bytes x xs) ∙ e ∙ flat_map-cons prev_bytes y ys) in
    let rest = all_places xs ys h.1 k.1 r.1 in
    λ i. r.0 i ∷ rest i

pub places_once : (a b : Tx) → AllByRecursion IsInput a.inputs → AllByRecursion IsInput b.inputs → places_list a ≡ places_list b
    → map (λ (i : TxIn). i.prev) a.inputs ≡ map (λ (i : TxIn). i.prev) b.inputs
unfolding places_list
places_once a b h k e = all_places a.inputs b.inputs (inputs_places a.inputs h) (inputs_places b.inputs k) e

some_output : (o : TxOut) (x : List ℕ) → [] ≡ output_bytes o ++ x → ⊥
some_output o x e =
    let n : 0 ≡ length (output_bytes o ++ x) = ap length e in
    omega (arith, n, length-append (output_bytes o) x, length-append (long_word o.value) (sized o.script))

pub all_outputs : (xs ys : List TxOut) → AllByRecursion IsOutput xs → AllByRecursion IsOutput ys → flat_map output_bytes xs ≡ flat_map output_bytes ys → xs ≡ ys
all_outputs [] [] h k e = refl
all_outputs [] (y ∷ ys) h k e = absurd (some_output y (flat_map output_bytes ys) (e ∙ flat_map-cons output_bytes y ys))
all_outputs (x ∷ xs) [] h k e = absurd (some_output x (flat_map output_bytes xs) (sym e ∙ flat_map-cons output_bytes x xs))
all_outputs (x ∷ xs) (y ∷ ys) h k e =
    let f : output_bytes x ++ flat_map output_bytes xs ≡ output_bytes y ++ flat_map output_bytes ys =
    sym (flat_map-cons output_bytes x xs) ∙ e ∙ flat_map-cons output_bytes y ys in
    let r = same_answer Output output_at an_output (output_bytes x) (flat_map output_bytes xs)
    (output_bytes y) (flat_map output_bytes ys) x y (record { same = refl; fits = h.0 }) (record { same = refl; fits = k.0 }) f in
    let rest = all_outputs xs ys h.1 k.1 r.1 in
    λ i. r.0 i ∷ rest i

pub outputs_once : (a b : Tx) → AllByRecursion IsOutput a.outputs → AllByRecursion IsOutput b.outputs → outputs_list a ≡ outputs_list b → a.outputs ≡ b.outputs
unfolding outputs_list
outputs_once a b h k e = all_outputs a.outputs b.outputs h k e

-- ---- the txid

abbrev witness_of : TxIn → List (List ℕ)
witness_of i = i.witness

together : (xs : List TxIn) → with_witnesses (map bare_input xs) (map witness_of xs) ≡ xs
together [] = refl
together (x ∷ xs) = ap (λ (l : List TxIn). x ∷ l) (together xs)

bares_each : (xs : List TxIn) → AllByRecursion IsInput xs → AllByRecursion IsBare (map bare_input xs)
bares_each [] h = tt
bares_each (x ∷ xs) h = (record { prev = h.0.prev; script_sig = h.0.script_sig; sequence = h.0.sequence; bare = refl }, bares_each xs h.1)

bares_fit : (xs : List TxIn) → AllByRecursion IsInput xs → AllByRecursion IsInput (map bare_input xs)
bares_fit [] h = tt
bares_fit (x ∷ xs) h = (record { prev = h.0.prev; script_sig = h.0.script_sig; sequence = h.0.sequence; items = omega arith; witness = tt }, bares_fit xs h.1)

bares_length : (xs : List TxIn) → length (map bare_input xs) ≡ length xs
bares_length [] = refl
bares_length (x ∷ xs) = ap suc (bares_length xs)

bares_bytes : (xs : List TxIn) → inputs_bytes (map bare_input xs) ≡ inputs_bytes xs
bares_bytes xs = sym (with_bytes (map bare_input xs) (map witness_of xs)) ∙ ap inputs_bytes (together xs)

pub stripped_bare : (tx : Tx) → stripped (bare tx) ≡ stripped tx
unfolding stripped
stripped_bare tx = ap (λ (l : List ℕ). word tx.version ++ l ++ outputs_bytes tx.outputs ++ word tx.lock) (bares_bytes tx.inputs)

bare_spells : (tx : Tx) → IsTransaction tx → Spells (stripped tx) (bare tx)
bare_spells tx h =
    let n = bares_length tx.inputs in
    record {
      same = rw (bare_marked (map bare_input tx.inputs) (bares_each tx.inputs h.inputs)) (sym (stripped_bare tx));
      fits = record {
        version = h.version;
        some = omega (arith, n, h.some);
        few_inputs = omega (arith, n, h.few_inputs);
        inputs = bares_fit tx.inputs h.inputs;
        few_outputs = h.few_outputs;
        outputs = h.outputs;
        lock = h.lock;
      };
    }

pub stripped_once : (a b : Tx) → IsTransaction a → IsTransaction b → stripped a ≡ stripped b → bare a ≡ bare b
stripped_once a b h k e =
    one_transaction (stripped a) (bare a) (bare b) (bare_spells a h) (subst (λ (l : List ℕ). Spells l (bare b)) (sym e) (bare_spells b k))

-- ---- without inputs

no_inputs : (tx : Tx) → tx.inputs ≡ [] → stripped tx ≡ word tx.version ++ (0 ∷ (outputs_bytes tx.outputs ++ word tx.lock))
unfolding stripped compact
no_inputs tx e =
    ap (λ (xs : List TxIn). word tx.version ++ inputs_bytes xs ++ outputs_bytes tx.outputs ++ word tx.lock) e ∙ simp append_assoc

with_inputs : (tx : Tx) → stripped tx ≡ word tx.version ++ (body_bytes (map bare_input tx.inputs, tx.outputs) ++ word tx.lock)
unfolding stripped
with_inputs tx =
    let r : stripped tx ≡ word tx.version ++ (inputs_bytes tx.inputs ++ outputs_bytes tx.outputs ++ word tx.lock) = simp append_assoc in
    r ∙ ap (λ (l : List ℕ). word tx.version ++ (l ++ outputs_bytes tx.outputs ++ word tx.lock)) (sym (bares_bytes tx.inputs))

zero_first : (b : ℕ) (rest x y : List ℕ) → 0 ∷ x ≡ (b ∷ rest) ++ y → is_zero b ≡ false → ⊥
zero_first b rest x y e h = let same : 0 ≡ b = cc in absurd (true_false (subst (λ (c : ℕ). is_zero c ≡ false) (sym same) h))
  where
    true_false : true ≡ false → ⊥
    true_false k = cc

pub inputless_apart : (a b : Tx) → a.inputs ≡ [] → IsTransaction b → stripped a ≡ stripped b → ⊥
inputless_apart a b none h e =
    let n = bares_length b.inputs in
    let plain : Plain (body_bytes (map bare_input b.inputs, b.outputs)) (map bare_input b.inputs, b.outputs) = record {
      same = refl;
      fits = record {
        inputs = record {
          some = omega (arith, n, h.some);
          few = omega (arith, n, h.few_inputs);
          each = bares_each b.inputs
              h.inputs;
        };
        outputs = record { few = h.few_outputs; each = h.outputs };
      };
    } in
    let s = starts_plain.starts (body_bytes (map bare_input b.inputs, b.outputs)) (map bare_input b.inputs, b.outputs) plain in
    let r = cut (word a.version) (word b.version) _ _ refl (sym (no_inputs a none) ∙ e ∙ with_inputs b) in
    zero_first s.0 s.1 (outputs_bytes a.outputs ++ word a.lock) (word b.lock) (r.1 ∙ ap (λ (l : List ℕ). l ++ word b.lock) s.2) s.3
