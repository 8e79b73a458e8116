-- The reader of transactions is exact for their spelling.
use Rattle.std.proofs.Common.{◌≡◌, lit<, ℕ, zero, suc, ◌^◌, ◌<◌, Bool, true, false, List, [], ◌∷◌, ◌++◌, length, map, Ok, Err, refl, sym, ap, subst, ◌∙◌, append_assoc, arith, inl, inr, ◌⊎◌}
use Rattle.std.specs.Prelude.{◌||◌, if◌then◌else◌}
use Rattle.std.specs.Int.{w32}
use Rattle.std.specs.List.{flat_map, AllByRecursion}
use Rattle.std.proofs.lemmas.List.{append-nil}
use Rattle.std.proofs.lemmas.List.Concat.{flat_map-cons}
use Rattle.spec_bitcoin.specs.declared.tx.TxIn.{TxIn}
use Rattle.spec_bitcoin.specs.declared.tx.TxOut.{TxOut}
use Rattle.spec_bitcoin.specs.declared.tx.Tx.{Tx}
use Rattle.spec_bitcoin.specs.Spelling.{word, input_bytes, inputs_bytes, witness_bytes, witnesses_bytes, is_filled, is_marked, stripped, marked, IsString, IsInput, IsTransaction, Spells}
use Rattle.spec_bitcoin.specs.Reading.{◌>>=◌, byte_where, choose, number_at, compact_at, is_zero, is_one, inputs_at, plain_at, witnesses_at, with_witnesses, marked_at, transaction_at, Body}
use Rattle.theory_bitcoin.proofs.Exact.{Exact, One, Starts, bind, pure, one, either, transfer, ok_err}
use Rattle.theory_bitcoin.proofs.Formats.{Number, number, wide32}
use Rattle.theory_bitcoin.proofs.Parts.{IsBare, AreOutputs, body_bytes, IsBody, Plain, the_body}
use Rattle.theory_bitcoin.proofs.Witnesses.{IsWitness, Stacks, the_stacks, stacks_to, stacks_from, any_filled, filled_by}
use Rattle.theory_bitcoin.proofs.Languages.{Seq, Nothing}

-- ---- the marked form

abbrev whole_body : Body → List (List (List ℕ)) → Body
whole_body body ws = (with_witnesses body.0 ws, body.1)

abbrev AfterBody : Body → List ℕ → Body → Type 0
AfterBody body = Seq (Stacks (length body.0) false) (λ ws. Nothing (whole_body body ws))

abbrev AfterFlag : ℕ → List ℕ → Body → Type 0
AfterFlag flag = Seq Plain AfterBody

abbrev AfterMarker : ℕ → List ℕ → Body → Type 0
AfterMarker marker = Seq (One is_one) AfterFlag

abbrev Marked : List ℕ → Body → Type 0
Marked = Seq (One is_zero) AfterMarker

a_marked : Exact Marked marked_at
unfolding marked_at
a_marked =
    bind (One is_zero) AfterMarker (byte_where is_zero)
    (λ marker bytes. byte_where is_one bytes >>= λ flag. plain_at flag.1 >>= λ body. witnesses_at (length body.0.0) false body.1
    >>= λ ws. Ok (whole_body body.0 ws.0, ws.1)) (one is_zero 0 refl (lit< tt))
    (λ marker t l. bind (One is_one) AfterFlag (byte_where is_one)
    (λ flag bytes. plain_at bytes >>= λ body. witnesses_at (length body.0.0) false body.1 >>= λ ws. Ok (whole_body body.0 ws.0, ws.1))
    (one is_one 1 refl (lit< tt))
    (λ flag t l. bind Plain AfterBody plain_at (λ body bytes. witnesses_at (length body.0) false bytes >>= λ ws. Ok (whole_body body ws.0, ws.1)) the_body
    (λ body t l. bind (Stacks (length body.0) false) (λ ws. Nothing (whole_body body ws)) (witnesses_at (length body.0) false)
    (λ ws bytes. Ok (whole_body body ws, bytes)) (the_stacks (length body.0) false)
    (λ ws t l. pure (whole_body body ws)))))

-- ---- which form it is

starts_marked : Starts is_zero true Marked
starts_marked = record { starts = λ text body s. (s.value, s.second, s.parts ∙ ap (λ (l : List ℕ). l ++ s.second) s.prefix.single, s.prefix.passes) }

plain_byte : (b : ℕ) (rest : List ℕ) (body : Body) (t : Bool) → is_zero b ≡ t → plain_at (b ∷ rest ++ []) ≡ Ok (body, []) → (c : ℕ)
    × (more : List ℕ) × (b ∷ rest ≡ c ∷ more) × (is_zero c ≡ false)
unfolding plain_at inputs_at compact_at
plain_byte b rest body true is e =
    let one : plain_at (b ∷ rest ++ []) ≡ Err (suc (length (rest ++ []))) = rw is refl in
    absurd (ok_err (body, []) (suc (length (rest ++ []))) (sym one ∙ e))
plain_byte b rest body false is e = (b, rest, refl, is)

plain_start : (text : List ℕ) (body : Body) → plain_at (text ++ []) ≡ Ok (body, []) → (b : ℕ) × (rest : List ℕ) × (text ≡ b ∷ rest) × (is_zero b ≡ false)
unfolding plain_at inputs_at compact_at
plain_start [] body e = absurd cc
plain_start (b ∷ rest) body e = plain_byte b rest body (is_zero b) refl e

pub starts_plain : Starts is_zero false Plain
starts_plain = record { starts = λ text body s. plain_start text body (the_body.again text [] body s) }

-- ---- the whole

abbrev Either : List ℕ → Body → Type 0
Either text body = Marked text body ⊎ Plain text body

abbrev Word : List ℕ → ℕ → Type 0
Word = Number w32 0 (2 ^ 32)

abbrev made : ℕ → Body → ℕ → Tx
made version body lock = record { version = version; inputs = body.0; outputs = body.1; lock = lock }

abbrev AfterEither : ℕ → Body → List ℕ → Tx → Type 0
AfterEither version body = Seq Word (λ lock. Nothing (made version body lock))

abbrev AfterVersion : ℕ → List ℕ → Tx → Type 0
AfterVersion version = Seq Either (AfterEither version)

abbrev TxSeq : List ℕ → Tx → Type 0
TxSeq = Seq Word AfterVersion

a_sequence : Exact TxSeq transaction_at
unfolding transaction_at
a_sequence =
    bind Word AfterVersion (number_at w32) (λ version bytes. choose is_zero marked_at plain_at bytes >>= λ body. number_at w32 body.1
    >>= λ lock. Ok (made version body.0 lock.0, lock.1)) (number w32 (2 ^ 32) wide32)
    (λ version t l. bind Either (AfterEither version) (choose is_zero marked_at plain_at)
    (λ body bytes. number_at w32 bytes >>= λ lock. Ok (made version body lock.0, lock.1))
    (either is_zero Marked Plain marked_at plain_at starts_marked starts_plain a_marked the_body)
    (λ body t l. bind Word (λ lock. Nothing (made version body lock)) (number_at w32) (λ lock bytes. Ok (made version body lock, bytes))
    (number w32 (2 ^ 32) wide32)
    (λ lock t l. pure (made version body lock))))

-- ---- inputs and their witnesses

with_length : (xs : List TxIn) (ws : List (List (List ℕ))) → length (with_witnesses xs ws) ≡ length xs
with_length [] ws = refl
with_length (x ∷ xs) [] = refl
with_length (x ∷ xs) (w ∷ ws) = ap suc (with_length xs ws)

with_inputs : (xs : List TxIn) (ws : List (List (List ℕ))) → flat_map input_bytes (with_witnesses xs ws) ≡ flat_map input_bytes xs
with_inputs [] ws = refl
with_inputs (x ∷ xs) [] = refl
with_inputs (x ∷ xs) (w ∷ ws) =
    flat_map-cons input_bytes (record x { witness = w }) (with_witnesses xs ws)
    ∙ ap (λ (l : List ℕ). input_bytes x ++ l) (with_inputs xs ws) ∙ sym (flat_map-cons input_bytes x xs)

pub with_bytes : (xs : List TxIn) (ws : List (List (List ℕ))) → inputs_bytes (with_witnesses xs ws) ≡ inputs_bytes xs
with_bytes xs ws = rw (with_length xs ws, with_inputs xs ws) refl

with_witness_bytes : (xs : List TxIn) (ws : List (List (List ℕ))) → length ws ≡ length xs → witnesses_bytes (with_witnesses xs ws) ≡ flat_map witness_bytes ws
with_witness_bytes [] [] e = refl
with_witness_bytes [] (w ∷ ws) e = absurd (omega (arith, e))
with_witness_bytes (x ∷ xs) [] e = absurd (omega (arith, e))
with_witness_bytes (x ∷ xs) (w ∷ ws) e =
    flat_map-cons (λ (i : TxIn). witness_bytes i.witness) (record x { witness = w }) (with_witnesses xs ws)
    ∙ ap (λ (l : List ℕ). witness_bytes w ++ l) (with_witness_bytes xs ws (omega (arith, e))) ∙ sym (flat_map-cons witness_bytes w ws)

with_marked : (xs : List TxIn) (ws : List (List (List ℕ))) → length ws ≡ length xs → is_marked (with_witnesses xs ws) ≡ any_filled ws
with_marked [] [] e = refl
with_marked [] (w ∷ ws) e = absurd (omega (arith, e))
with_marked (x ∷ xs) [] e = absurd (omega (arith, e))
with_marked (x ∷ xs) (w ∷ ws) e = ap (λ b. is_filled w || b) (with_marked xs ws (omega (arith, e)))

with_each : (xs : List TxIn) (ws : List (List (List ℕ))) → length ws ≡ length xs → AllByRecursion IsBare xs → AllByRecursion IsWitness ws
    → AllByRecursion IsInput (with_witnesses xs ws)
with_each [] ws e h k = tt
with_each (x ∷ xs) [] e h k = absurd (omega (arith, e))
with_each (x ∷ xs) (w ∷ ws) e h k = (
  record { prev = h.0.prev; script_sig = h.0.script_sig; sequence = h.0.sequence; items = k.0.few; witness = k.0.each },
  with_each xs ws (omega (arith, e)) h.1 k.1,
)

pub bare_marked : (xs : List TxIn) → AllByRecursion IsBare xs → is_marked xs ≡ false
bare_marked [] h = refl
bare_marked (x ∷ xs) h = rw (h.0.bare) (bare_marked xs h.1)

bare_each : (xs : List TxIn) → AllByRecursion IsBare xs → AllByRecursion IsInput xs
bare_each [] h = tt
bare_each (x ∷ xs) h =
    let bare = h.0.bare in (
      record {
        prev = h.0.prev;
        script_sig = h.0.script_sig;
        sequence = h.0.sequence;
        items = rw bare (lit< tt);
        witness = subst
            (λ (w : List (List ℕ)). AllByRecursion IsString w) (sym bare) tt;
      },
      bare_each xs h.1,
    )

-- ---- in the format's own words

-- without marker
plain_spells : (text : List ℕ) (version : ℕ) (body : Body) (lock : ℕ) → version < 2 ^ 32 → lock < 2 ^ 32 → IsBody body → text ≡ word version
    ++ (body_bytes body ++ (word lock ++ [])) → Spells text (made version body lock)
unfolding stripped
plain_spells text version body lock v l h e =
    let bare = bare_marked body.0 h.inputs.each in
    let whole : word version ++ (body_bytes body ++ (word lock ++ [])) ≡ stripped (made version body lock) = simp (append_assoc, append-nil) in
    record {
      same = rw bare (e ∙ whole);
      fits = record {
        version = v;
        some = h.inputs.some;
        few_inputs = h.inputs.few;
        inputs = bare_each body.0 h.inputs.each;
        few_outputs = h.outputs.few;
        outputs = h.outputs.each;
        lock = l;
      };
    }

marked_text : (version lock : ℕ) (xs : List TxIn) (os : List TxOut) (ws : List (List (List ℕ))) → length ws ≡ length xs
    → word version ++ (0 ∷ (1 ∷ (body_bytes (xs, os) ++ flat_map witness_bytes ws)) ++ word lock) ≡ marked (made version (whole_body (xs, os) ws) lock)
unfolding marked
marked_text version lock xs os ws e =
    rw (with_bytes xs ws, with_witness_bytes xs ws e) (simp append_assoc)

-- with marker
marked_spells : (text : List ℕ) (version : ℕ) (body : Body) (ws : List (List (List ℕ))) (lock : ℕ) → version < 2 ^ 32 → lock < 2 ^ 32
    → IsBody body → length ws ≡ length body.0 → AllByRecursion IsWitness ws → any_filled ws ≡ true
    → text ≡ word version ++ (0 ∷ (1 ∷ (body_bytes body ++ flat_map witness_bytes ws)) ++ word lock) → Spells text (made version (whole_body body ws) lock)
marked_spells text version body ws lock v l h len each filled e =
    let n = with_length body.0 ws in
    record {
      same = rw (with_marked body.0 ws len ∙ filled) (e ∙ marked_text version lock body.0 body.1 ws len);
      fits = record {
        version = v;
        some = omega (arith, n, h.inputs.some);
        few_inputs = omega (arith, n, h.inputs.few);
        inputs = with_each body.0 ws len h.inputs.each each;
        few_outputs = h.outputs.few;
        outputs = h.outputs.each;
        lock = l;
      };
    }

zero_byte : (b : ℕ) → is_zero b ≡ true → b ≡ 0
zero_byte b h = grind arith

one_byte : (b : ℕ) → is_one b ≡ true → b ≡ 1
one_byte b h = grind arith

filled_of : (n : ℕ) (text : List ℕ) (ws : List (List (List ℕ))) → 0 < n → Stacks n false text ws → any_filled ws ≡ true
filled_of zero text ws some s = absurd (omega (arith, some))
filled_of (suc n) text ws some s = filled_by n false text ws s

spells_either : (text t : List ℕ) (version : ℕ) (body : Body) (lock : ℕ) → version < 2 ^ 32 → lock < 2 ^ 32 → Either t body → text
    ≡ word version ++ (t ++ (word lock ++ [])) → Spells text (made version body lock)
spells_either text t version body lock v l (inr h) e =
    plain_spells text version body lock v l h.fits (e ∙ ap (λ (u : List ℕ). word version ++ (u ++ (word lock ++ []))) h.same)
spells_either text t version body lock v l (inl s) e =
    let plain = s.back.back.prefix in
    let stacks = s.back.back.back.prefix in
    let ws = stacks_to (length s.back.back.value.0) false s.back.back.back.first s.back.back.back.value stacks in
    let marker = zero_byte s.value s.prefix.passes in
    let flag = one_byte s.back.value s.back.prefix.passes in
    let parts : t ≡ 0 ∷ (1 ∷ (body_bytes s.back.back.value ++ flat_map witness_bytes s.back.back.back.value)) =
    s.parts ∙ rw (
      s.prefix.single,
      marker,
      s.back.parts,
      s.back.prefix.single,
      flag,
      s.back.back.parts,
      plain.same,
      s.back.back.back.parts,
      ws.same,
      s.back.back.back.back.empty,
      append-nil (flat_map witness_bytes s.back.back.back.value),
    ) refl in
    let whole : text ≡ word version ++ (0 ∷ (1 ∷ (body_bytes s.back.back.value ++ flat_map witness_bytes s.back.back.back.value)) ++ word lock) =
    e ∙ ap (λ (u : List ℕ). word version ++ (u ++ (word lock ++ []))) parts
    ∙ ap (λ (u : List ℕ). word version ++ (0 ∷ (1 ∷ (body_bytes s.back.back.value ++ flat_map witness_bytes s.back.back.back.value)) ++ u))
    (append-nil (word lock)) in
    subst (λ (b : Body). Spells text (made version b lock)) s.back.back.back.back.same
    (marked_spells text version s.back.back.value s.back.back.back.value lock v l plain.fits ws.len ws.each
    (filled_of (length s.back.back.value.0) s.back.back.back.first s.back.back.back.value plain.fits.inputs.some stacks) whole)

spells_to : (text : List ℕ) (tx : Tx) → TxSeq text tx → Spells text tx
spells_to text tx s =
    let e : text ≡ word s.value ++ (s.back.first ++ (word s.back.back.value ++ [])) =
    s.parts ∙ rw (s.prefix.bytes, s.back.parts, s.back.back.parts, s.back.back.prefix.bytes, s.back.back.back.empty) refl in
    subst (Spells text) s.back.back.back.same
    (spells_either text s.back.first s.value s.back.value s.back.back.value s.prefix.most s.back.back.prefix.most s.back.prefix e)

-- ---- from a spelling

abbrev bare_of : TxIn → TxIn
bare_of i = record i { witness = [] }

abbrev witness_of : TxIn → List (List ℕ)
witness_of i = i.witness

together : (xs : List TxIn) → with_witnesses (map bare_of xs) (map witness_of xs) ≡ xs
together [] = refl
together (x ∷ xs) = ap (λ (l : List TxIn). x ∷ l) (together xs)

as_many : (xs : List TxIn) → length (map witness_of xs) ≡ length (map bare_of xs)
as_many [] = refl
as_many (x ∷ xs) = ap suc (as_many xs)

bares_each : (xs : List TxIn) → AllByRecursion IsInput xs → AllByRecursion IsBare (map bare_of xs)
bares_each [] h = tt
bares_each (x ∷ xs) h = (record { prev = h.0.prev; script_sig = h.0.script_sig; sequence = h.0.sequence; bare = refl }, bares_each xs h.1)

witnesses_each : (xs : List TxIn) → AllByRecursion IsInput xs → AllByRecursion IsWitness (map witness_of xs)
witnesses_each [] h = tt
witnesses_each (x ∷ xs) h = (record { few = h.0.items; each = h.0.witness }, witnesses_each xs h.1)

bares_length : (xs : List TxIn) → length (map bare_of xs) ≡ length xs
bares_length [] = refl
bares_length (x ∷ xs) = ap suc (bares_length xs)

empty_witness : (w : List (List ℕ)) (b : Bool) → (is_filled w || b) ≡ false → (w ≡ []) × (b ≡ false)
empty_witness [] b h = (refl, h)
empty_witness (x ∷ w) b h = cc

unmarked_each : (xs : List TxIn) → is_marked xs ≡ false → AllByRecursion IsInput xs → AllByRecursion IsBare xs
unmarked_each [] h k = tt
unmarked_each (x ∷ xs) h k =
    let e = empty_witness x.witness (is_marked xs) h in
    (record { prev = k.0.prev; script_sig = k.0.script_sig; sequence = k.0.sequence; bare = e.0 }, unmarked_each xs e.1 k.1)

-- a body between version and lock
between : (text t : List ℕ) (tx : Tx) (body : Body) → IsTransaction tx → made tx.version body tx.lock ≡ tx → Either t body → text
    ≡ word tx.version ++ (t ++ word tx.lock) → TxSeq text tx
between text t tx body fits same h e = record {
  first = word tx.version;
  second = t ++ word tx.lock;
  value = tx.version;
  parts = e;
  prefix = record { bytes = refl; least = omega arith; most = fits.version };
  back = record {
    first = t;
    second = word tx.lock;
    value = body;
    parts = refl;
    prefix = h;
    back = record {
      first = word tx.lock;
      second = [];
      value = tx.lock;
      parts = sym (append-nil (word tx.lock));
      prefix = record { bytes = refl; least = omega arith; most = fits.lock };
      back = record { empty = refl; same = same };
    };
  };
}

from_plain : (text : List ℕ) (tx : Tx) → IsTransaction tx → is_marked tx.inputs ≡ false → text ≡ stripped tx → TxSeq text tx
unfolding stripped
from_plain text tx fits bare e =
    let whole : stripped tx ≡ word tx.version ++ (body_bytes (tx.inputs, tx.outputs) ++ word tx.lock) = simp append_assoc in
    between text (body_bytes (tx.inputs, tx.outputs)) tx (tx.inputs, tx.outputs) fits refl
    (inr (record {
      same = refl;
      fits = record {
        inputs = record { some = fits.some; few = fits.few_inputs; each = unmarked_each tx.inputs bare fits.inputs };
        outputs = record {
          few = fits.few_outputs;
          each = fits.outputs;
        };
      };
    }))
    (e ∙ whole)

-- marker, flag, body and witnesses
abbrev marked_parts : List TxIn → List TxOut → List ℕ
marked_parts xs os = 0 ∷ (1 ∷ (body_bytes (map bare_of xs, os) ++ flat_map witness_bytes (map witness_of xs)))

is_marked_text : (xs : List TxIn) (os : List TxOut) → AllByRecursion IsInput xs → 0 < length xs → length xs < 2 ^ 64 → AreOutputs os
    → is_marked xs ≡ true → Marked (marked_parts xs os) (with_witnesses (map bare_of xs) (map witness_of xs), os)
is_marked_text xs os each some few outputs h =
    let n = bares_length xs in
    let filled : any_filled (map witness_of xs) ≡ true = sym (with_marked (map bare_of xs) (map witness_of xs) (as_many xs)) ∙ ap is_marked (together xs) ∙ h in
    record {
      first = 0 ∷ [];
      second = 1 ∷ (body_bytes (map bare_of xs, os) ++ flat_map witness_bytes (map witness_of xs));
      value = 0;
      parts = refl;
      prefix = record { single = refl; passes = refl; fits = lit< tt };
      back = record {
        first = 1 ∷ [];
        second = body_bytes (map bare_of xs, os) ++ flat_map witness_bytes (map witness_of xs);
        value = 1;
        parts = refl;
        prefix = record { single = refl; passes = refl; fits = lit< tt };
        back = record {
          first = body_bytes (map bare_of xs, os);
          second = flat_map witness_bytes (map witness_of xs);
          value = (map bare_of xs, os);
          parts = refl;
          prefix = record {
            same = refl;
            fits = record {
              inputs = record { some = omega (arith, n, some); few = omega (arith, n, few); each = bares_each xs each };
              outputs = outputs;
            };
          };
          back = record {
            first = flat_map witness_bytes (map witness_of xs);
            second = [];
            value = map witness_of xs;
            parts = sym (append-nil (flat_map witness_bytes (map witness_of xs)));
            prefix = stacks_from (length (map bare_of xs)) false (map witness_of xs) (as_many xs) (witnesses_each xs each) filled;
            back = record { empty = refl; same = refl };
          };
        };
      };
    }

from_marked : (text : List ℕ) (tx : Tx) → IsTransaction tx → is_marked tx.inputs ≡ true → text ≡ marked tx → TxSeq text tx
from_marked text tx fits h e =
    let same = together tx.inputs in
    let whole : marked tx ≡ word tx.version ++ (marked_parts tx.inputs tx.outputs ++ word tx.lock) =
    ap (λ (xs : List TxIn). marked (made tx.version (xs, tx.outputs) tx.lock)) (sym same)
    ∙ sym (marked_text tx.version tx.lock (map bare_of tx.inputs) tx.outputs (map witness_of tx.inputs) (as_many tx.inputs)) in
    between text (marked_parts tx.inputs tx.outputs) tx (with_witnesses (map bare_of tx.inputs) (map witness_of tx.inputs), tx.outputs) fits
    (ap (λ (xs : List TxIn). made tx.version (xs, tx.outputs) tx.lock) same)
    (inl (is_marked_text tx.inputs tx.outputs fits.inputs fits.some fits.few_inputs (record { few = fits.few_outputs; each = fits.outputs }) h))
    (e ∙ whole)

spells_from : (text : List ℕ) (tx : Tx) → Spells text tx → TxSeq text tx
spells_from text tx s = by_form (is_marked tx.inputs) refl s.same
  where
    by_form : (b : Bool) → is_marked tx.inputs ≡ b → text ≡ (if b then marked tx else stripped tx) → TxSeq text tx
    by_form true h e = from_marked text tx s.fits h e
    by_form false h e = from_plain text tx s.fits h e

pub the_transaction : Exact (λ text tx. Spells text tx) transaction_at
the_transaction = transfer TxSeq (λ text tx. Spells text tx) transaction_at spells_to spells_from a_sequence
