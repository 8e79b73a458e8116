-- Transactions without their witnesses: sameness, ids and digests.
use Rattle.std.proofs.Common.{◌≡◌, ℕ, ◌+◌, ◌*◌, ◌<◌, ◌^◌, List, [], ◌∷◌, ◌++◌, length, map, true, refl, sym, ap, ◌∙◌, subst, arith, length-append, append_assoc}
use Rattle.std.specs.Prelude.{◌==◌, ◌&&◌}
use Rattle.std.specs.List.{flat_map}
use Rattle.std.specs.Str.{bytes_eq}
use Rattle.std.specs.Cmp.Lexicographic.{pointwise}
use Rattle.std.proofs.lemmas.Bool.{and_parts, and_from, eq-eqb, eqb-true}
use Rattle.std.proofs.lemmas.List.Concat.{flat_map-cons}
use Rattle.spec_data.specs.Lists.{is_among}
use Rattle.spec_bitcoin.specs.declared.tx.TxIn.{TxIn}
use Rattle.spec_bitcoin.specs.declared.tx.TxOut.{TxOut}
use Rattle.spec_bitcoin.specs.declared.tx.Tx.{Tx}
use Rattle.spec_bitcoin.specs.Spelling.{word, long_word, sized, place_bytes, compact, input_bytes, output_bytes, outputs_bytes, stripped, IsPlace}
use Rattle.spec_bitcoin.specs.Digests.{double, txid, places_list, sequences_list, outputs_list, preimage}
use Rattle.spec_bitcoin.specs.Live.{same_outpoint}
use Rattle.theory_bitcoin.proofs.Formats.{wide32}
use Rattle.theory_bitcoin.specs.Places.{AllPlaces}
use Rattle.theory_bitcoin.proofs.Apart.{cut, all_outputs, stripped_bare}
use Rattle.theory_bitcoin.specs.Apart.{bare_input, bare}
use Rattle.theory_calculus.proofs.Names.{bytes-true, bytes_refl}
use Rattle.spec_run.specs.Ledger.{same_input, same_output, same_bare}
use Rattle.theory_world.proofs.Same.{place-true, place_refl}
use Rattle.theory_world.specs.Transactions.{AllSequences, IsNumbered, HeardLists, NoScripts}
use Rattle.theory_world.proofs.Ledger.Preimages.{split_right, word-apart, place-size, place-apart, few_outputs, SameSigned}
use Rattle.theory_world.proofs.Ledger.Counts.{count-apart, counts_apart, count_size, some_count}

-- ---- sameness

inputs-true : (xs ys : List TxIn) → pointwise same_input xs ys ≡ true → map bare_input xs ≡ map bare_input ys
inputs-true [] [] h = refl
inputs-true [] (y ∷ ys) h = cc
inputs-true (x ∷ xs) [] h = cc
inputs-true (x ∷ xs) (y ∷ ys) h =
    let p = and_parts (same_input x y) (pointwise same_input xs ys) h in
    let q = and_parts (same_outpoint x.prev y.prev && bytes_eq x.script_sig y.script_sig) (x.sequence == y.sequence) p.0 in
    let r = and_parts (same_outpoint x.prev y.prev) (bytes_eq x.script_sig y.script_sig) q.0 in
    let a = place-true x.prev y.prev r.0 in
    let b = bytes-true x.script_sig y.script_sig r.1 in
    let c = eqb-true x.sequence y.sequence q.1 in
    let d = inputs-true xs ys p.1 in
    λ i. record { prev = a i; script_sig = b i; sequence = c i; witness = [] } ∷ d i

outputs-true : (xs ys : List TxOut) → pointwise same_output xs ys ≡ true → xs ≡ ys
outputs-true [] [] h = refl
outputs-true [] (y ∷ ys) h = cc
outputs-true (x ∷ xs) [] h = cc
outputs-true (x ∷ xs) (y ∷ ys) h =
    let p = and_parts (same_output x y) (pointwise same_output xs ys) h in
    let q = and_parts (x.value == y.value) (bytes_eq x.script y.script) p.0 in
    let a = eqb-true x.value y.value q.0 in
    let b = bytes-true x.script y.script q.1 in
    let d = outputs-true xs ys p.1 in
    λ i. record { value = a i; script = b i } ∷ d i

pub same-true : (a b : Tx) → same_bare a b ≡ true → bare a ≡ bare b
same-true a b h =
    let p = and_parts ((a.version == b.version) && pointwise same_input a.inputs b.inputs && pointwise same_output a.outputs b.outputs) (a.lock == b.lock) h in
    let q = and_parts ((a.version == b.version) && pointwise same_input a.inputs b.inputs) (pointwise same_output a.outputs b.outputs) p.0 in
    let r = and_parts (a.version == b.version) (pointwise same_input a.inputs b.inputs) q.0 in
    let v = eqb-true a.version b.version r.0 in
    let i = inputs-true a.inputs b.inputs r.1 in
    let o = outputs-true a.outputs b.outputs q.1 in
    let l = eqb-true a.lock b.lock p.1 in
    λ j. record { version = v j; inputs = i j; outputs = o j; lock = l j }

input_refl : (x : TxIn) → same_input x x ≡ true
input_refl x = and_from _ _ (and_from _ _ (place_refl x.prev) (bytes_refl x.script_sig)) (eq-eqb x.sequence x.sequence refl)

inputs_refl : (xs : List TxIn) → pointwise same_input xs xs ≡ true
inputs_refl [] = refl
inputs_refl (x ∷ xs) = and_from _ _ (input_refl x) (inputs_refl xs)

outputs_refl : (xs : List TxOut) → pointwise same_output xs xs ≡ true
outputs_refl [] = refl
outputs_refl (x ∷ xs) = and_from _ _ (and_from _ _ (eq-eqb x.value x.value refl) (bytes_refl x.script)) (outputs_refl xs)

pub bare_refl : (a : Tx) → same_bare a a ≡ true
bare_refl a =
    and_from _ _ (and_from _ _ (and_from _ _ (eq-eqb a.version a.version refl) (inputs_refl a.inputs)) (outputs_refl a.outputs)) (eq-eqb a.lock a.lock refl)

-- witnesses aren't looked at
inputs-bare : (xs ys : List TxIn) → pointwise same_input (map bare_input xs) (map bare_input ys) ≡ pointwise same_input xs ys
inputs-bare [] [] = refl
inputs-bare [] (y ∷ ys) = refl
inputs-bare (x ∷ xs) [] = refl
inputs-bare (x ∷ xs) (y ∷ ys) = ap (λ b. same_input x y && b) (inputs-bare xs ys)

pub same_from : (a b : Tx) → bare a ≡ bare b → same_bare a b ≡ true
same_from a b e =
    let t : same_bare (bare a) (bare b) ≡ true = subst (λ x. same_bare (bare a) x ≡ true) e (bare_refl (bare a)) in
    let r : same_bare (bare a) (bare b) ≡ same_bare a b =
    ap (λ x. (a.version == b.version) && x && pointwise same_output a.outputs b.outputs && (a.lock == b.lock)) (inputs-bare a.inputs b.inputs) in
    sym r ∙ t

-- ---- bytes

flat-bare : (f : TxIn → List ℕ) → ((i : TxIn) → f (bare_input i) ≡ f i) → (xs : List TxIn) → flat_map f (map bare_input xs) ≡ flat_map f xs
flat-bare f h [] = refl
flat-bare f h (x ∷ xs) = flat_map-cons f (bare_input x) (map bare_input xs) ∙ (λ j. h x j ++ flat-bare f h xs j) ∙ sym (flat_map-cons f x xs)

pub txid-bare : (hash : List ℕ → List ℕ) (tx : Tx) → txid hash (bare tx) ≡ txid hash tx
txid-bare hash tx = ap (double hash) (stripped_bare tx)

pub places-bare : (tx : Tx) → places_list (bare tx) ≡ places_list tx
unfolding places_list
places-bare tx = flat-bare (λ i. place_bytes i.prev) (λ i. refl) tx.inputs

pub sequences-bare : (tx : Tx) → sequences_list (bare tx) ≡ sequences_list tx
unfolding sequences_list
sequences-bare tx = flat-bare (λ i. word i.sequence) (λ i. refl) tx.inputs

pub outputs-bare : (tx : Tx) → outputs_list (bare tx) ≡ outputs_list tx
unfolding outputs_list
outputs-bare tx = refl

-- a preimage reads no witness
pub preimage-bare : (hash : List ℕ → List ℕ) (tx : Tx) (i : TxIn) (s : List ℕ) (v : ℕ) → preimage hash (bare tx) (bare_input i) s v ≡ preimage hash tx i s v
unfolding preimage
preimage-bare hash tx i s v =
    λ j. word tx.version ++ double hash (places-bare tx j) ++ double hash (sequences-bare tx j) ++ place_bytes i.prev ++ sized s
    ++ long_word v ++ word i.sequence ++ double hash (outputs-bare tx j) ++ word tx.lock ++ word 1

-- ---- one transaction of one id

empty_script : sized [] ≡ 0 ∷ []
unfolding compact
empty_script = refl

-- an input that gives no script has 41 bytes
input_size : (i : TxIn) → i.script_sig ≡ [] → IsPlace i.prev → length (input_bytes i) ≡ 41
input_size i none place =
    let a = length-append (place_bytes i.prev ++ sized i.script_sig) (word i.sequence) in
    let b = length-append (place_bytes i.prev) (sized i.script_sig) in
    let c = place-size i.prev place in
    let d : length (sized i.script_sig) ≡ 1 = ap (λ t. length (sized t)) none ∙ ap length empty_script in
    let e = wide32.len i.sequence in
    omega (arith, a, b, c, d, e)

inputs_size : (is : List TxIn) → NoScripts is → AllPlaces is → length (flat_map input_bytes is) ≡ 41 * length is
inputs_size [] none places = refl
inputs_size (i ∷ is) none places =
    let a = ap length (flat_map-cons input_bytes i is) ∙ length-append (input_bytes i) (flat_map input_bytes is) in
    let b = input_size i none.0 places.0 in
    let r = inputs_size is none.1 places.1 in
    omega (arith, a, b, r)

input-apart : (x y : TxIn) → x.script_sig ≡ [] → y.script_sig ≡ [] → IsPlace x.prev → IsPlace y.prev → x.sequence < 2 ^ 32
    → y.sequence < 2 ^ 32 → input_bytes x ≡ input_bytes y → bare_input x ≡ bare_input y
input-apart x y nx ny px py sx sy e =
    let r = split_right (place_bytes x.prev ++ sized x.script_sig)
    (place_bytes y.prev ++ sized y.script_sig) (word x.sequence) (word y.sequence) (wide32.len x.sequence ∙ sym (wide32.len y.sequence)) e in
    let q = cut (place_bytes x.prev) (place_bytes y.prev) (sized x.script_sig) (sized y.script_sig) (place-size x.prev px ∙ sym (place-size y.prev py)) r.0 in
    let a = place-apart x.prev y.prev px py q.0 in
    let b = word-apart x.sequence y.sequence sx sy r.1 in
    let c = nx ∙ sym ny in
    λ i. record { prev = a i; script_sig = c i; sequence = b i; witness = [] }

inputs-apart : (xs ys : List TxIn) → NoScripts xs → NoScripts ys → AllPlaces xs → AllPlaces ys → AllSequences xs → AllSequences ys
    → length xs ≡ length ys → flat_map input_bytes xs ≡ flat_map input_bytes ys → map bare_input xs ≡ map bare_input ys
inputs-apart [] [] nx ny px py sx sy l e = refl
inputs-apart [] (y ∷ ys) nx ny px py sx sy l e = absurd (omega (arith, l))
inputs-apart (x ∷ xs) [] nx ny px py sx sy l e = absurd (omega (arith, l))
inputs-apart (x ∷ xs) (y ∷ ys) nx ny px py sx sy l e =
    let r = cut (input_bytes x) (input_bytes y) (flat_map input_bytes xs) (flat_map input_bytes ys)
    (input_size x nx.0 px.0 ∙ sym (input_size y ny.0 py.0)) (sym (flat_map-cons input_bytes x xs) ∙ e ∙ flat_map-cons input_bytes y ys) in
    let a = input-apart x y nx.0 ny.0 px.0 py.0 sx.0 sy.0 r.0 in
    let b = inputs-apart xs ys nx.1 ny.1 px.1 py.1 sx.1 sy.1 (omega (arith, l)) r.1 in
    λ i. a i ∷ b i

-- the bytes between version and lock
abbrev between : Tx → List ℕ
between tx = compact (length tx.inputs) ++ (flat_map input_bytes tx.inputs ++ outputs_bytes tx.outputs)

stripped_is : (tx : Tx) → stripped tx ≡ (word tx.version ++ between tx) ++ word tx.lock
unfolding stripped
stripped_is tx =
    let c = compact (length tx.inputs) in
    let i = flat_map input_bytes tx.inputs in
    let o = outputs_bytes tx.outputs in
    ap (λ t. t ++ word tx.lock) (append_assoc (word tx.version) (c ++ i) o ∙ ap (λ t. word tx.version ++ t) (append_assoc c i o))

-- a count of few things is short
outputs_size : (os : List TxOut) → length (flat_map output_bytes os) < 2 ^ 32 → length (outputs_bytes os) < 2 ^ 33
outputs_size os h =
    let a = length-append (compact (length os)) (flat_map output_bytes os) in
    let b = count_size (length os) in
    omega (arith, a, b, h)

-- transactions of the same bytes are the same but for witnesses
pub stripped-apart : (a b : Tx) → NoScripts a.inputs → NoScripts b.inputs → IsNumbered a → IsNumbered b → stripped a ≡ stripped b → bare a ≡ bare b
stripped-apart a b na nb fa fb e =
    let r1 = split_right (word a.version ++ between a) (word b.version ++ between b)
    (word a.lock) (word b.lock) (wide32.len a.lock ∙ sym (wide32.len b.lock)) (sym (stripped_is a) ∙ e ∙ stripped_is b) in
    let r2 = cut (word a.version) (word b.version) (between a) (between b) (wide32.len a.version ∙ sym (wide32.len b.version)) r1.0 in
    let la = length-append (flat_map input_bytes a.inputs) (outputs_bytes a.outputs) in
    let lb = length-append (flat_map input_bytes b.inputs) (outputs_bytes b.outputs) in
    let ia = inputs_size a.inputs na fa.places in
    let ib = inputs_size b.inputs nb fb.places in
    let oa = outputs_size a.outputs fa.size in
    let ob = outputs_size b.outputs fb.size in
    let n : length a.inputs ≡ length b.inputs =
    count-apart (length a.inputs) (length b.inputs) (length (outputs_bytes a.outputs)) (length (outputs_bytes b.outputs))
    (flat_map input_bytes a.inputs ++ outputs_bytes a.outputs) (flat_map input_bytes b.inputs ++ outputs_bytes b.outputs) r2.1
    (la ∙ ap (λ k. k + length (outputs_bytes a.outputs)) ia) (lb ∙ ap (λ k. k + length (outputs_bytes b.outputs)) ib) (omega (arith, oa)) (omega (arith, ob)) in
    let r3 = cut (compact (length a.inputs)) (compact (length b.inputs)) (flat_map input_bytes a.inputs ++ outputs_bytes a.outputs)
    (flat_map input_bytes b.inputs ++ outputs_bytes b.outputs) (ap (λ k. length (compact k)) n) r2.1 in
    let r4 = cut (flat_map input_bytes a.inputs)
    (flat_map input_bytes b.inputs) (outputs_bytes a.outputs) (outputs_bytes b.outputs) (ia ∙ ap (λ k. 41 * k) n ∙ sym ib) r3.1 in
    let ca = few_outputs a.outputs in
    let cb = few_outputs b.outputs in
    let sa = fa.size in
    let sb = fb.size in
    let r5 = counts_apart (length a.outputs) (length b.outputs)
    (flat_map output_bytes a.outputs) (flat_map output_bytes b.outputs) (omega (arith, ca, sa)) (omega (arith, cb, sb)) r4.1 in
    let v = word-apart a.version b.version fa.version fb.version r2.0 in
    let i = inputs-apart a.inputs b.inputs na nb fa.places fb.places fa.sequences fb.sequences n r4.0 in
    let o = all_outputs a.outputs b.outputs fa.outputs fb.outputs r5 in
    let l = word-apart a.lock b.lock fa.lock fb.lock r1.1 in
    λ j. record { version = v j; inputs = i j; outputs = o j; lock = l j }

none_between : (tx : Tx) → tx.inputs ≡ [] → between tx ≡ 0 ∷ outputs_bytes tx.outputs
unfolding compact
none_between tx h = ap (λ is. compact (length is) ++ (flat_map input_bytes is ++ outputs_bytes tx.outputs)) h

-- and none has the bytes of one without inputs
pub inputless_apart : (a b : Tx) → a.inputs ≡ [] → 0 < length b.inputs → stripped a ≡ stripped b → ⊥
inputless_apart a b none some e =
    let r1 = split_right (word a.version ++ between a) (word b.version ++ between b)
    (word a.lock) (word b.lock) (wide32.len a.lock ∙ sym (wide32.len b.lock)) (sym (stripped_is a) ∙ e ∙ stripped_is b) in
    let r2 = cut (word a.version) (word b.version) (between a) (between b) (wide32.len a.version ∙ sym (wide32.len b.version)) r1.0 in
    some_count (length b.inputs) (outputs_bytes a.outputs) (flat_map input_bytes b.inputs ++ outputs_bytes b.outputs) some (sym (none_between a none) ∙ r2.1)

-- where no script is given, what is signed the same is the same
signed_inputs : (xs ys : List TxIn) → NoScripts xs → NoScripts ys → map (λ i. i.prev) xs ≡ map (λ i. i.prev) ys → map (λ i. i.sequence) xs
    ≡ map (λ i. i.sequence) ys → map bare_input xs ≡ map bare_input ys
signed_inputs [] [] h k e f = refl
signed_inputs [] (y ∷ ys) h k e f = cc
signed_inputs (x ∷ xs) [] h k e f = cc
signed_inputs (x ∷ xs) (y ∷ ys) h k e f =
    let a : x.prev ≡ y.prev = cc in
    let b : map (λ i. i.prev) xs ≡ map (λ i. i.prev) ys = cc in
    let c : x.sequence ≡ y.sequence = cc in
    let d : map (λ i. i.sequence) xs ≡ map (λ i. i.sequence) ys = cc in
    let g = signed_inputs xs ys h.1 k.1 b d in
    let s = h.0 ∙ sym k.0 in
    λ i. record { prev = a i; script_sig = s i; sequence = c i; witness = [] } ∷ g i

pub signed-bare : (a b : Tx) → SameSigned a b → NoScripts a.inputs → NoScripts b.inputs → bare a ≡ bare b
signed-bare a b e h k =
    let i = signed_inputs a.inputs b.inputs h k e.places e.sequences in
    let v = e.version in
    let o = e.outputs in
    let l = e.lock in
    λ j. record { version = v j; inputs = i j; outputs = o j; lock = l j }

-- ---- numbers say nothing of witnesses

bare_places : (xs : List TxIn) → AllPlaces xs → AllPlaces (map bare_input xs)
bare_places [] h = tt
bare_places (x ∷ xs) h = (h.0, bare_places xs h.1)

full_places : (xs : List TxIn) → AllPlaces (map bare_input xs) → AllPlaces xs
full_places [] h = tt
full_places (x ∷ xs) h = (h.0, full_places xs h.1)

bare_sequences : (xs : List TxIn) → AllSequences xs → AllSequences (map bare_input xs)
bare_sequences [] h = tt
bare_sequences (x ∷ xs) h = (h.0, bare_sequences xs h.1)

full_sequences : (xs : List TxIn) → AllSequences (map bare_input xs) → AllSequences xs
full_sequences [] h = tt
full_sequences (x ∷ xs) h = (h.0, full_sequences xs h.1)

pub bare_numbered : (a b : Tx) → bare a ≡ bare b → IsNumbered b → IsNumbered a
bare_numbered a b e h =
    let bares : IsNumbered (bare b) = record {
      version = h.version;
      places = bare_places b.inputs h.places;
      sequences = bare_sequences b.inputs h.sequences;
      outputs = h.outputs;
      size = h.size;
      lock = h.lock;
    } in
    let x = subst IsNumbered (sym e) bares in
    record {
      version = x.version;
      places = full_places a.inputs x.places;
      sequences = full_sequences a.inputs
          x.sequences;
      outputs = x.outputs;
      size = x.size;
      lock = x.lock;
    }

-- ---- what is heard of one is heard of the other

pub bare_lists : (hash : List ℕ → List ℕ) (hs : List (List ℕ)) (a b : Tx) → bare a ≡ bare b → HeardLists hash hs a → HeardLists hash hs b
bare_lists hash hs a b e h =
    let p : places_list a ≡ places_list b = sym (places-bare a) ∙ ap places_list e ∙ places-bare b in
    let q : sequences_list a ≡ sequences_list b = sym (sequences-bare a) ∙ ap sequences_list e ∙ sequences-bare b in
    let o : outputs_list a ≡ outputs_list b = sym (outputs-bare a) ∙ ap outputs_list e ∙ outputs-bare b in
    record {
      places = subst (λ t. is_among t hs ≡ true) p h.places;
      places_hash = subst (λ t. is_among (hash t) hs ≡ true) p h.places_hash;
      sequences = subst (λ t. is_among t hs ≡ true) q h.sequences;
      sequences_hash = subst (λ t. is_among (hash t) hs ≡ true) q h.sequences_hash;
      outputs = subst (λ t. is_among t hs ≡ true) o h.outputs;
      outputs_hash = subst (λ t. is_among (hash t) hs ≡ true) o h.outputs_hash;
    }

pub same_preimage : (hash : List ℕ → List ℕ) (a b : Tx) (i j : TxIn) (s : List ℕ) (v : ℕ) → bare a ≡ bare b → bare_input i ≡ bare_input j
    → preimage hash a i s v ≡ preimage hash b j s v
same_preimage hash a b i j s v e f = sym (preimage-bare hash a i s v) ∙ (λ k. preimage hash (e k) (f k) s v) ∙ preimage-bare hash b j s v
