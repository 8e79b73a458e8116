-- The readers of a transaction's parts are exact.
use Rattle.std.proofs.Common.{◌≡◌, lit<, ℕ, zero, suc, ◌^◌, ◌<◌, List, [], ◌∷◌, ◌++◌, length, Result, Ok, refl, sym, ap, subst, ◌∙◌, append_assoc, arith}
use Rattle.std.specs.Int.{w32, w64}
use Rattle.std.specs.List.{flat_map, AllByRecursion}
use Rattle.std.proofs.lemmas.List.{append-nil}
use Rattle.std.proofs.lemmas.List.Concat.{flat_map-cons}
use Rattle.spec_bitcoin.specs.declared.tx.TxIn.{TxIn}
use Rattle.spec_bitcoin.specs.declared.tx.TxOut.{TxOut}
use Rattle.spec_bitcoin.specs.Spelling.{compact, sized, word, long_word, input_bytes, output_bytes, inputs_bytes, outputs_bytes, IsString, IsPlace, IsOutput}
use Rattle.spec_bitcoin.specs.Reading.{◌>>=◌, chunk, many, any, not_zero, number_at, compact_at, string_at, input_at, inputs_at, output_at, outputs_at, plain_at, Body}
use Rattle.theory_bitcoin.proofs.Exact.{Exact, Chunk, Many, bind, pure, transfer, a_chunk, several}
use Rattle.theory_bitcoin.proofs.Formats.{Number, number, wide32, wide64, Count, count, Text, a_string, counted_some, not_zero_head, form_of}
use Rattle.theory_bitcoin.proofs.Languages.{Seq, Nothing}

-- ---- values by their spelling

-- the text is the spelling of the value, and the value has one
pub record Is {A : Type 0} (f : A → List ℕ) (Fits : A → Type 0) (text : List ℕ) (a : A) : Type 0 where
  pub same : text ≡ f a
  pub fits : Fits a

-- the same of so many values
pub record Are {A : Type 0} (f : A → List ℕ) (Fits : A → Type 0) (n : ℕ) (text : List ℕ) (xs : List A) : Type 0 where
  pub same : text ≡ flat_map f xs
  pub len : length xs ≡ n
  pub each : AllByRecursion Fits xs

module _ {A : Type 0} (f : A → List ℕ) (Fits : A → Type 0) where
  are_to : (n : ℕ) (text : List ℕ) (xs : List A) → Many (Is f Fits) n text xs → Are f Fits n text xs
  unfolding Many
  are_to zero text xs s = subst (Are f Fits 0 text) s.same (record { same = s.empty; len = refl; each = tt })
  are_to (suc n) text xs s =
      let others = are_to n s.back.first s.back.value s.back.prefix in
      let is : text ≡ flat_map f (s.value ∷ s.back.value) =
      s.parts ∙ rw
      (s.prefix.same, s.back.parts, others.same, s.back.back.empty, append-nil (flat_map f s.back.value), flat_map-cons f s.value s.back.value) refl in
      subst (Are f Fits (suc n) text) s.back.back.same (record { same = is; len = ap suc others.len; each = (s.prefix.fits, others.each) })

  are_from : (n : ℕ) (text : List ℕ) (xs : List A) → Are f Fits n text xs → Many (Is f Fits) n text xs
  unfolding Many
  are_from zero text [] h = record { empty = h.same; same = refl }
  are_from zero text (x ∷ xs) h = absurd (omega (arith, h.len))
  are_from (suc n) text [] h = absurd (omega (arith, h.len))
  are_from (suc n) text (x ∷ xs) h =
      let others = are_from n (flat_map f xs) xs (record { same = refl; len = omega (arith, h.len); each = h.each.1 }) in
      record {
        first = f x;
        second = flat_map f xs;
        value = x;
        parts = h.same ∙ flat_map-cons f x xs;
        prefix = record { same = refl; fits = h.each.0 };
        back = record {
          first = flat_map f xs;
          second = [];
          value = xs;
          parts = sym
              (append-nil (flat_map f xs));
          prefix = others;
          back = record { empty = refl; same = refl };
        };
      }

  pub the_many : (read : List ℕ → Result (A × List ℕ) ℕ) → Exact (Is f Fits) read → (n : ℕ) → Exact (Are f Fits n) (many read n)
  the_many read x n = transfer (Many (Is f Fits) n) (Are f Fits n) (many read n) (are_to n) (are_from n) (several (Is f Fits) read x n)

-- ---- strings

abbrev pub String : List ℕ → List ℕ → Type 0
String = Is sized IsString

pub the_string : Exact String string_at
the_string = transfer Text String string_at (λ t b h. record { same = h.same; fits = record { bytes = h.fits; size = h.most } })
    (λ t b h. record { same = h.same; most = h.fits.size; fits = h.fits.bytes }) a_string

-- ---- inputs without witnesses

-- what has a spelling as an input, and no witness
pub record IsBare (input : TxIn) : Type 0 where
  pub prev : IsPlace input.prev
  pub script_sig : IsString input.script_sig
  pub sequence : input.sequence < 2 ^ 32
  pub bare : input.witness ≡ []

abbrev Word : List ℕ → ℕ → Type 0
Word = Number w32 0 (2 ^ 32)

abbrev made : List ℕ → ℕ → List ℕ → ℕ → TxIn
made id vout script sequence = record { prev = record { txid = id; vout = vout }; script_sig = script; sequence = sequence; witness = [] }

abbrev AfterScript : List ℕ → ℕ → List ℕ → List ℕ → TxIn → Type 0
AfterScript id vout script = Seq Word (λ sequence. Nothing (made id vout script sequence))

abbrev AfterVout : List ℕ → ℕ → List ℕ → TxIn → Type 0
AfterVout id vout = Seq String (AfterScript id vout)

abbrev AfterId : List ℕ → List ℕ → TxIn → Type 0
AfterId id = Seq Word (AfterVout id)

abbrev InputSeq : List ℕ → TxIn → Type 0
InputSeq = Seq (Chunk 32) AfterId

abbrev BareInput : List ℕ → TxIn → Type 0
BareInput = Is input_bytes IsBare

input_to : (text : List ℕ) (i : TxIn) → InputSeq text i → BareInput text i
input_to text i s =
    let id = s.value in
    let v = s.back.value in
    let script = s.back.back.value in
    let sequence = s.back.back.back.value in
    let is : text ≡ id ++ (word v ++ (sized script ++ (word sequence ++ []))) =
    s.parts ∙ rw (
      s.prefix.same,
      s.back.parts,
      s.back.prefix.bytes,
      s.back.back.parts,
      s.back.back.prefix.same,
      s.back.back.back.parts,
      s.back.back.back.prefix.bytes,
      s.back.back.back.back.empty,
    ) refl in
    let whole : id ++ (word v ++ (sized script ++ (word sequence ++ []))) ≡ input_bytes (made id v script sequence) = simp (append_assoc, append-nil) in
    subst (BareInput text) s.back.back.back.back.same (record {
      same = is ∙ whole;
      fits = record {
        prev = record { txid = s.prefix.fits; size = s.prefix.len; vout = s.back.prefix.most };
        script_sig = s.back.back.prefix.fits;
        sequence = s.back.back.back.prefix.most;
        bare = refl;
      };
    })

input_from : (text : List ℕ) (i : TxIn) → BareInput text i → InputSeq text i
input_from text i h =
    let parts : input_bytes i ≡ i.prev.txid ++ (word i.prev.vout ++ (sized i.script_sig ++ word i.sequence)) = simp append_assoc in
    let same : made i.prev.txid i.prev.vout i.script_sig i.sequence ≡ i =
    ap (λ (w : List (List ℕ)). record { prev = i.prev; script_sig = i.script_sig; sequence = i.sequence; witness = w }) (sym h.fits.bare) in
    record {
      first = i.prev.txid;
      second = word i.prev.vout ++ (sized i.script_sig ++ word i.sequence);
      value = i.prev.txid;
      parts = h.same ∙ parts;
      prefix = record { same = refl; len = h.fits.prev.size; fits = h.fits.prev.txid };
      back = record {
        first = word i.prev.vout;
        second = sized i.script_sig ++ word i.sequence;
        value = i.prev.vout;
        parts = refl;
        prefix = record { bytes = refl; least = omega arith; most = h.fits.prev.vout };
        back = record {
          first = sized i.script_sig;
          second = word i.sequence;
          value = i.script_sig;
          parts = refl;
          prefix = record { same = refl; fits = h.fits.script_sig };
          back = record {
            first = word i.sequence;
            second = [];
            value = i.sequence;
            parts = sym (append-nil (word i.sequence));
            prefix = record { bytes = refl; least = omega arith; most = h.fits.sequence };
            back = record { empty = refl; same = same };
          };
        };
      };
    }

an_input : Exact BareInput input_at
unfolding input_at
an_input = transfer InputSeq BareInput input_at input_to input_from
    (bind (Chunk 32) AfterId (chunk 32) (λ id bytes. number_at w32 bytes >>= λ vout. string_at vout.1 >>= λ script. number_at w32 script.1
    >>= λ sequence. Ok (made id vout.0 script.0 sequence.0, sequence.1)) (a_chunk 32)
    (λ id t l. bind Word (AfterVout id) (number_at w32)
    (λ vout bytes. string_at bytes >>= λ script. number_at w32 script.1 >>= λ sequence. Ok
    (made id vout script.0 sequence.0, sequence.1)) (number w32 (2 ^ 32) wide32)
    (λ vout t l. bind String (AfterScript id vout) string_at
    (λ script bytes. number_at w32 bytes >>= λ sequence. Ok (made id vout script sequence.0, sequence.1)) the_string
    (λ script t l. bind Word (λ sequence. Nothing (made id vout script sequence)) (number_at w32)
    (λ sequence bytes. Ok (made id vout script sequence, bytes)) (number w32 (2 ^ 32) wide32)
    (λ sequence t l. pure (made id vout script sequence))))))

-- at least one input
pub record AreInputs (inputs : List TxIn) : Type 0 where
  pub some : 0 < length inputs
  pub few : length inputs < 2 ^ 64
  pub each : AllByRecursion IsBare inputs

abbrev pub Inputs : List ℕ → List TxIn → Type 0
Inputs = Is inputs_bytes AreInputs

inputs_to : (text : List ℕ) (xs : List TxIn) → Seq (Count not_zero) (Are input_bytes IsBare) text xs → Inputs text xs
inputs_to text xs s =
    record {
      same = s.parts ∙ rw (s.prefix.bytes, s.back.same, s.back.len) refl;
      fits = record { some = counted_some s.value s.first s.prefix (length xs) s.back.len; few = omega (arith, s.back.len, s.prefix.most); each = s.back.each };
    }

inputs_from : (text : List ℕ) (xs : List TxIn) → Inputs text xs → Seq (Count not_zero) (Are input_bytes IsBare) text xs
inputs_from text xs h = record {
  first = compact (length xs);
  second = flat_map input_bytes xs;
  value = length xs;
  parts = h.same;
  prefix = record { bytes = refl; most = h.fits.few; head = λ b rest e. not_zero_head (length xs) h.fits.some b rest (form_of (length xs)) e };
  back = record { same = refl; len = refl; each = h.fits.each };
}

pub the_inputs : Exact Inputs inputs_at
unfolding inputs_at
the_inputs = transfer (Seq (Count not_zero) (Are input_bytes IsBare)) Inputs inputs_at inputs_to inputs_from
    (bind (Count not_zero) (Are input_bytes IsBare) (compact_at not_zero) (many input_at) (count not_zero 1 refl (lit< tt))
    (λ n t l. the_many input_bytes IsBare input_at an_input n))

-- ---- outputs

abbrev Long : List ℕ → ℕ → Type 0
Long = Number w64 0 (2 ^ 64)

abbrev paid : ℕ → List ℕ → TxOut
paid value script = record { value = value; script = script }

abbrev OutputSeq : List ℕ → TxOut → Type 0
OutputSeq = Seq Long (λ value. Seq String (λ script. Nothing (paid value script)))

abbrev pub Output : List ℕ → TxOut → Type 0
Output = Is output_bytes IsOutput

output_to : (text : List ℕ) (o : TxOut) → OutputSeq text o → Output text o
output_to text o s =
    let is : text ≡ long_word s.value ++ (sized s.back.value ++ []) = s.parts ∙ rw (s.prefix.bytes, s.back.parts, s.back.prefix.same, s.back.back.empty) refl in
    let whole : long_word s.value ++ (sized s.back.value ++ []) ≡ output_bytes (paid s.value s.back.value) =
    ap (λ (l : List ℕ). long_word s.value ++ l) (append-nil (sized s.back.value)) in
    subst (Output text) s.back.back.same (record { same = is ∙ whole; fits = record { value = s.prefix.most; script = s.back.prefix.fits } })

output_from : (text : List ℕ) (o : TxOut) → Output text o → OutputSeq text o
output_from text o h = record {
  first = long_word o.value;
  second = sized o.script;
  value = o.value;
  parts = h.same;
  prefix = record { bytes = refl; least = omega arith; most = h.fits.value };
  back = record {
    first = sized o.script;
    second = [];
    value = o.script;
    parts = sym (append-nil (sized o.script));
    prefix = record { same = refl; fits = h.fits.script };
    back = record { empty = refl; same = refl };
  };
}

pub an_output : Exact Output output_at
unfolding output_at
an_output = transfer OutputSeq Output output_at output_to output_from
    (bind Long (λ value. Seq String (λ script. Nothing (paid value script))) (number_at w64)
    (λ value bytes. string_at bytes >>= λ script. Ok (paid value script.0, script.1)) (number w64 (2 ^ 64) wide64)
    (λ value t l. bind String (λ script. Nothing (paid value script)) string_at (λ script bytes. Ok (paid value script, bytes)) the_string
    (λ script t l. pure (paid value script))))

pub record AreOutputs (outputs : List TxOut) : Type 0 where
  pub few : length outputs < 2 ^ 64
  pub each : AllByRecursion IsOutput outputs

abbrev pub Outputs : List ℕ → List TxOut → Type 0
Outputs = Is outputs_bytes AreOutputs

outputs_to : (text : List ℕ) (xs : List TxOut) → Seq (Count any) (Are output_bytes IsOutput) text xs → Outputs text xs
outputs_to text xs s =
    record {
      same = s.parts ∙ rw (s.prefix.bytes, s.back.same, s.back.len)
          refl;
      fits = record { few = omega (arith, s.back.len, s.prefix.most); each = s.back.each };
    }

outputs_from : (text : List ℕ) (xs : List TxOut) → Outputs text xs → Seq (Count any) (Are output_bytes IsOutput) text xs
outputs_from text xs h = record {
  first = compact (length xs);
  second = flat_map output_bytes xs;
  value = length xs;
  parts = h.same;
  prefix = record { bytes = refl; most = h.fits.few; head = λ b rest e. refl };
  back = record { same = refl; len = refl; each = h.fits.each };
}

pub the_outputs : Exact Outputs outputs_at
unfolding outputs_at
the_outputs = transfer (Seq (Count any) (Are output_bytes IsOutput)) Outputs outputs_at outputs_to outputs_from
    (bind (Count any) (Are output_bytes IsOutput) (compact_at any) (many output_at) (count any 0 refl (lit< tt))
    (λ n t l. the_many output_bytes IsOutput output_at an_output n))

-- ---- inputs and outputs

abbrev pub body_bytes : Body → List ℕ
body_bytes body = inputs_bytes body.0 ++ outputs_bytes body.1

pub record IsBody (body : Body) : Type 0 where
  pub inputs : AreInputs body.0
  pub outputs : AreOutputs body.1

abbrev pub Plain : List ℕ → Body → Type 0
Plain = Is body_bytes IsBody

abbrev both : List TxIn → List TxOut → Body
both inputs outputs = (inputs, outputs)

abbrev BodySeq : List ℕ → Body → Type 0
BodySeq = Seq Inputs (λ inputs. Seq Outputs (λ outputs. Nothing (both inputs outputs)))

body_to : (text : List ℕ) (body : Body) → BodySeq text body → Plain text body
body_to text body s =
    let is : text ≡ inputs_bytes s.value ++ (outputs_bytes s.back.value ++ []) =
    s.parts ∙ rw (s.prefix.same, s.back.parts, s.back.prefix.same, s.back.back.empty) refl in
    let whole : inputs_bytes s.value ++ (outputs_bytes s.back.value ++ []) ≡ body_bytes (both s.value s.back.value) =
    ap (λ (l : List ℕ). inputs_bytes s.value ++ l) (append-nil (outputs_bytes s.back.value)) in
    subst (Plain text) s.back.back.same (record { same = is ∙ whole; fits = record { inputs = s.prefix.fits; outputs = s.back.prefix.fits } })

body_from : (text : List ℕ) (body : Body) → Plain text body → BodySeq text body
body_from text body h = record {
  first = inputs_bytes body.0;
  second = outputs_bytes body.1;
  value = body.0;
  parts = h.same;
  prefix = record { same = refl; fits = h.fits.inputs };
  back = record {
    first = outputs_bytes body.1;
    second = [];
    value = body.1;
    parts = sym (append-nil (outputs_bytes body.1));
    prefix = record { same = refl; fits = h.fits.outputs };
    back = record { empty = refl; same = refl };
  };
}

pub the_body : Exact Plain plain_at
unfolding plain_at
the_body = transfer BodySeq Plain plain_at body_to body_from
    (bind Inputs (λ inputs. Seq Outputs (λ outputs. Nothing (both inputs outputs))) inputs_at
    (λ inputs bytes. outputs_at bytes >>= λ outputs. Ok (both inputs outputs.0, outputs.1)) the_inputs
    (λ inputs t l. bind Outputs (λ outputs. Nothing (both inputs outputs)) outputs_at (λ outputs bytes. Ok (both inputs outputs, bytes))
    the_outputs (λ outputs t l. pure (both inputs outputs))))
