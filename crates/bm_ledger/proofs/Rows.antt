-- The refusals of an input by its hashes, and what holds where none is.
use Rattle.std.proofs.Common.{◌≡◌, ℕ, ◌+◌, List, ◌∷◌, length, Bool, true, false, not, ◌&&◌, Option, Some, None, refl, sym, ap, ◌∙◌}
use Rattle.std.specs.Prelude.{is_some, ◌==◌, if◌then◌else◌}
use Rattle.std.specs.Option.{option_and_then, option_map}
use Rattle.spec_data.specs.Lists.{first_reason, or_else}
use Rattle.spec_bitcoin.specs.declared.tx.TxIn.{TxIn}
use Rattle.spec_bitcoin.specs.declared.tx.TxOut.{TxOut}
use Rattle.spec_bitcoin.specs.declared.tx.Tx.{Tx}
use Rattle.spec_bitcoin.specs.declared.verdict.Refusal.{Refusal}
use Rattle.spec_bitcoin.specs.declared.verdict.Refusal.TheVariants.{NotWitnessScript, ScriptSigNotEmpty}
use Rattle.spec_bitcoin.specs.Spelling.{is_filled}
use Rattle.spec_bitcoin.specs.Keys.{Pair}
use Rattle.spec_bitcoin.specs.Live.{Entry, at_place}
use Rattle.spec_bitcoin.specs.Verdict.{pays_to_script, input_row, input_refusal, inputs_refusal, has_repeat, first_missing, whole_row, refusal_of}
use Rattle.bm_ledger.specs.declared.hashes.InputHashes.{InputHashes}
use Rattle.bm_ledger.specs.Judging.{unfilled_refusal, hashes_with, row_with, spending_refusal, input_hashes}

and-true : (b : Bool) → b && true ≡ b
and-true true = refl
and-true false = refl

and-false : (b : Bool) → b && false ≡ false
and-false true = refl
and-false false = refl

-- ---- an input by its hashes

row_filled : (hash : List ℕ → List ℕ) (book : List Pair) (tx : Tx) (k : ℕ) (input : TxIn) (output : TxOut) → is_filled input.witness ≡ true
    → input_row hash book tx k input output ≡ row_with hash book (hashes_with hash tx input output) k input output
row_filled hash book tx k input output h = rw (h, and-true (pays_to_script output.script)) refl

row_unfilled : (hash : List ℕ → List ℕ) (book : List Pair) (tx : Tx) (k : ℕ) (input : TxIn) (output : TxOut) → is_filled input.witness
    ≡ false → first_reason (input_row hash book tx k input output) ≡ Some (unfilled_refusal k input)
row_unfilled hash book tx k input output h = rw (h, and-false (pays_to_script output.script)) (by_sig (length input.script_sig == 0))
  where
    by_sig : (b : Bool) → (if not b then Some (ScriptSigNotEmpty k) else Some (NotWitnessScript k))
        ≡ Some (if b then NotWitnessScript k else ScriptSigNotEmpty k)
    by_sig true = refl
    by_sig false = refl

pub input_refusal-hashes : (hash : List ℕ → List ℕ) (book : List Pair) (live : List Entry) (tx : Tx) (k : ℕ) (input : TxIn)
    → input_refusal hash book live tx k input
    ≡ option_and_then (λ p. spending_refusal hash book k input (input_hashes hash live tx input) p.1) (at_place live input.prev)
input_refusal-hashes hash book live tx k input =
    elim (at_place live input.prev) as (λ o. option_and_then (λ p. first_reason (input_row hash book tx k input p.1)) o ≡ option_and_then
    (λ p. spending_refusal hash book k input (if is_filled input.witness then option_map (λ q. hashes_with hash tx input q.1) o else None) p.1) o) [
      | None ↦ refl
      | Some p ↦
          elim (is_filled input.witness) as (λ b. is_filled input.witness ≡ b → first_reason (input_row hash book tx k input p.1)
          ≡ spending_refusal hash book k input (if b then Some (hashes_with hash tx input p.1) else None) p.1) [
            | true ↦ λ h. ap first_reason (row_filled hash book tx k input p.1 h)
            | false ↦ λ h. row_unfilled hash book tx k input p.1 h
          ] refl
    ]

-- the refusal after an input, where what it is hashed to is given
pub next_refusal : (hash other : List ℕ → List ℕ) (book : List Pair) (live : List Entry) (tx : Tx) (k : ℕ) (input : TxIn)
    (hashes : Option InputHashes) (first next : Option Refusal) → other ≡ hash → hashes ≡ input_hashes hash live tx input → next
    ≡ or_else first (option_and_then (λ p. spending_refusal other book k input hashes p.1) (at_place live input.prev)) → next
    ≡ or_else first (input_refusal hash book live tx k input)
next_refusal hash other book live tx k input hashes first next same are is =
    is
    ∙ ap (or_else first) (
    ap (λ h. option_and_then (λ (p : ℕ × TxOut). spending_refusal h book k input hashes p.1) (at_place live input.prev)) same
    ∙ ap (λ hs. option_and_then (λ (p : ℕ × TxOut). spending_refusal hash book k input hs p.1) (at_place live input.prev)) are
    ∙ sym (input_refusal-hashes hash book live tx k input))

or_else-assoc : {R : Type 0} (a b c : Option R) → or_else (or_else a b) c ≡ or_else a (or_else b c)
or_else-assoc None b c = refl
or_else-assoc (Some x) b c = refl

-- one input more
pub inputs_refusal-step : (hash : List ℕ → List ℕ) (book : List Pair) (live : List Entry) (tx : Tx) (k : ℕ) (input : TxIn)
    (rest all : List TxIn) (first next whole : Option Refusal) → all ≡ input ∷ rest → or_else first (inputs_refusal hash book live tx k all)
    ≡ whole → next ≡ or_else first (input_refusal hash book live tx k input) → or_else next (inputs_refusal hash book live tx (k + 1) rest) ≡ whole
inputs_refusal-step hash book live tx k input rest all first next whole e so_far is =
    ap (λ o. or_else o (inputs_refusal hash book live tx (k + 1) rest)) is
    ∙ or_else-assoc first (input_refusal hash book live tx k input) (inputs_refusal hash book live tx (k + 1) rest)
    ∙ ap (λ l. or_else first (inputs_refusal hash book live tx k l)) (sym e)
    ∙ so_far

-- ---- where nothing is wrong

passed : {R : Type 0} (b : Bool) (x : R) (o : Option R) → (if b then Some x else o) ≡ None → (b ≡ false) × (o ≡ None)
passed true x o h = cc
passed false x o h = (refl, h)

not_some : {A : Type 0} (o : Option A) → is_some o ≡ false → o ≡ None
not_some None h = refl
not_some (Some x) h = cc

first_none : {R : Type 0} (a b : Option R) → or_else a b ≡ None → a ≡ None
first_none None b h = refl
first_none (Some x) b h = cc

pub whole_passed : (hash : List ℕ → List ℕ) (book : List Pair) (tip : ℕ) (live : List Entry) (tx : Tx) → refusal_of hash book tip live tx
    ≡ None → first_reason (whole_row tip live tx) ≡ None
whole_passed hash book tip live tx h = first_none (first_reason (whole_row tip live tx)) (inputs_refusal hash book live tx 0 tx.inputs) h

pub none_repeats : (tip : ℕ) (live : List Entry) (tx : Tx) → first_reason (whole_row tip live tx) ≡ None → has_repeat tx.inputs ≡ false
none_repeats tip live tx h = (passed (has_repeat tx.inputs) _ _ (passed (length tx.outputs == 0) _ _ (passed (length tx.inputs == 0) _ _ h).1).1).0

pub none_missing : (tip : ℕ) (live : List Entry) (tx : Tx) → first_reason (whole_row tip live tx) ≡ None → first_missing live tx.inputs ≡ None
none_missing tip live tx h =
    not_some (first_missing live tx.inputs) (passed (is_some (first_missing live tx.inputs)) _ _
    (passed (has_repeat tx.inputs) _ _ (passed (length tx.outputs == 0) _ _ (passed (length tx.inputs == 0) _ _ h).1).1).1).0
