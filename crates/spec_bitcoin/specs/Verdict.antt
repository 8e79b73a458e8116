-- The verdict on a transaction: Bitcoin's conditions of acceptance in their order (BIP 141, BIP 143), and the strings hashed to reach it.
use Rattle.std.specs.Prelude.{ℕ, ◌+◌, List, [], ◌∷◌, ◌++◌, length, drop, map, sum_by, Bool, false, not, ◌&&◌, ◌||◌, ◌==◌, nat_lt, nat_le}
use Rattle.std.specs.Prelude.{if◌then◌else◌, Option, Some, None, is_some}
use Rattle.std.specs.List.{list_any, position_from, flat_map}
use Rattle.std.specs.Option.{option_and_then, option_map_or}
use Rattle.std.specs.Str.{bytes_eq}
use Rattle.spec_data.specs.Lists.{first_reason, or_else}
use Rattle.spec_data.specs.Ranges.{max_money, last_height, most_item_bytes}
use Rattle.spec_bitcoin.specs.declared.tx.TxIn.{TxIn}
use Rattle.spec_bitcoin.specs.declared.tx.TxOut.{TxOut}
use Rattle.spec_bitcoin.specs.declared.tx.Tx.{Tx}
use Rattle.spec_bitcoin.specs.declared.verdict.Refusal.{Refusal}
use Rattle.spec_bitcoin.specs.declared.verdict.Refusal.TheVariants.{NoInput, NoOutput, InputRepeated, MissingInput, ValueLimit}
use Rattle.spec_bitcoin.specs.declared.verdict.Refusal.TheVariants.{InsufficientIn, NotFinal, ScriptSigNotEmpty, NotWitnessScript}
use Rattle.spec_bitcoin.specs.declared.verdict.Refusal.TheVariants.{ScriptMismatch, ItemTooLong, ScriptFalse}
use Rattle.spec_bitcoin.specs.declared.verdict.Verdict.{Verdict}
use Rattle.spec_bitcoin.specs.declared.verdict.Verdict.TheVariants.{Accepted, Refused}
use Rattle.spec_bitcoin.specs.Spelling.{is_filled}
use Rattle.spec_bitcoin.specs.Digests.{txid_strings, shared_strings, digest, digest_strings}
use Rattle.spec_bitcoin.specs.Keys.{Pair, is_valid}
use Rattle.spec_bitcoin.specs.Live.{Entry, Chain, same_outpoint, at_place}
use Rattle.spec_bitcoin.specs.Meaning.{script_meaning}

-- ---- the whole transaction

-- two inputs spend one output
abbrev pub has_repeat : List TxIn → Bool
has_repeat [] = false
has_repeat (i ∷ is) = list_any (λ j. same_outpoint j.prev i.prev) is || has_repeat is

-- the first input whose output isn't live
abbrev pub first_missing : List Entry → List TxIn → Option ℕ
first_missing live inputs = position_from (λ i. not (is_some (at_place live i.prev))) 0 inputs

-- the number of an option, 0 where there is none
abbrev pub number_or_zero : Option ℕ → ℕ
number_or_zero None = 0
number_or_zero (Some n) = n

-- the sum of the outputs, in satoshi
abbrev pub total_of : List TxOut → ℕ
total_of outputs = sum_by (λ o. o.value) outputs

-- the value that an input spends
abbrev pub spent_value : List Entry → TxIn → ℕ
spent_value live i = option_map_or (λ p. p.1.value) (at_place live i.prev) 0

-- the sum of what the inputs spend
abbrev pub spent_total : List Entry → List TxIn → ℕ
spent_total live inputs = sum_by (spent_value live) inputs

-- whether the sequences let the lock bind
abbrev pub heeds_lock : List TxIn → Bool
heeds_lock inputs = list_any (λ i. not (i.sequence == 4294967295)) inputs

-- the lock binds, and it isn't reached or isn't a height
abbrev pub is_not_final : ℕ → Tx → Bool
is_not_final tip tx = heeds_lock tx.inputs && (not (tx.lock == 0) && (nat_lt tip tx.lock || nat_lt last_height tx.lock))

-- the conditions on the whole transaction, in their order; one output above the most makes the sum exceed it
abbrev pub whole_row : ℕ → List Entry → Tx → List (Bool × Refusal)
whole_row tip live tx =
    (length tx.inputs == 0, NoInput)
    ∷ (length tx.outputs == 0, NoOutput)
    ∷ (has_repeat tx.inputs, InputRepeated)
    ∷ (is_some (first_missing live tx.inputs), MissingInput (number_or_zero (first_missing live tx.inputs)))
    ∷ (nat_lt max_money (total_of tx.outputs), ValueLimit)
    ∷ (nat_lt (spent_total live tx.inputs) (total_of tx.outputs), InsufficientIn)
    ∷ (is_not_final tip tx, NotFinal)
    ∷ []

-- ---- an input

-- whether an output pays to the hash of a script: 00 20 and 32 bytes
abbrev pub pays_to_script : List ℕ → Bool
pays_to_script [] = false
pays_to_script (a ∷ []) = false
pays_to_script (a ∷ b ∷ program) = a == 0 && (b == 32 && length program == 32)

-- the hash that an output pays to
abbrev pub program_of : List ℕ → List ℕ
program_of script = drop 2 script

-- the script of a witness, its last item
abbrev pub script_of : List (List ℕ) → List ℕ
script_of [] = []
script_of (x ∷ []) = x
script_of (x ∷ (y ∷ rest)) = script_of (y ∷ rest)

-- the items before a witness's script, on which it runs
abbrev pub items_of : List (List ℕ) → List (List ℕ)
items_of [] = []
items_of (x ∷ []) = []
items_of (x ∷ (y ∷ rest)) = x ∷ items_of (y ∷ rest)

-- the item has more bytes than an item may have
abbrev pub is_long : List ℕ → Bool
is_long item = nat_lt most_item_bytes (length item)

-- whether the script of an input's witness is true, where it spends this output
abbrev pub runs_true : (List ℕ → List ℕ) → List Pair → Tx → TxIn → TxOut → Bool
runs_true hash book tx input output =
    script_meaning hash (is_valid book (digest hash tx input (script_of input.witness) output.value))
    (script_of input.witness) (items_of input.witness)

-- the conditions on input k, which spends this output, in their order
abbrev pub input_row : (List ℕ → List ℕ) → List Pair → Tx → ℕ → TxIn → TxOut → List (Bool × Refusal)
input_row hash book tx k input output =
    (not (length input.script_sig == 0), ScriptSigNotEmpty k)
    ∷ (not (pays_to_script output.script && is_filled input.witness), NotWitnessScript k)
    ∷ (not (bytes_eq (hash (script_of input.witness)) (program_of output.script)), ScriptMismatch k)
    ∷ (list_any is_long (items_of input.witness), ItemTooLong k)
    ∷ (not (runs_true hash book tx input output), ScriptFalse k)
    ∷ []

-- the refusal of input k; none where its output isn't live
abbrev pub input_refusal : (List ℕ → List ℕ) → List Pair → List Entry → Tx → ℕ → TxIn → Option Refusal
input_refusal hash book live tx k input =
    option_and_then (λ p. first_reason (input_row hash book tx k input p.1)) (at_place live input.prev)

-- the first refusal of an input, counted from k
abbrev pub inputs_refusal : (List ℕ → List ℕ) → List Pair → List Entry → Tx → ℕ → List TxIn → Option Refusal
inputs_refusal hash book live tx k [] = None
inputs_refusal hash book live tx k (i ∷ is) = or_else (input_refusal hash book live tx k i) (inputs_refusal hash book live tx (k + 1) is)

-- ---- the verdict

-- the first refusal that holds
abbrev pub refusal_of : (List ℕ → List ℕ) → List Pair → ℕ → List Entry → Tx → Option Refusal
refusal_of hash book tip live tx = or_else (first_reason (whole_row tip live tx)) (inputs_refusal hash book live tx 0 tx.inputs)

-- the birth number of the output that an input spends, 0 where it isn't live
abbrev pub spent_number : List Entry → TxIn → ℕ
spent_number live i = option_map_or (λ p. p.0) (at_place live i.prev) 0

-- as many numbers as there are outputs, from this one on
abbrev pub numbers_from : ℕ → List TxOut → List ℕ
numbers_from n [] = []
numbers_from n (o ∷ os) = n ∷ numbers_from (n + 1) os

-- the verdict, by the refusal
abbrev pub verdict_for : Chain → Tx → Option Refusal → Verdict
verdict_for chain tx None = Accepted (map (spent_number chain.live) tx.inputs) (numbers_from chain.births tx.outputs)
verdict_for chain tx (Some refusal) = Refused refusal

-- accepted with the birth numbers of what was spent and made, or refused
abbrev pub verdict : (List ℕ → List ℕ) → List Pair → Chain → Tx → Verdict
verdict hash book chain tx = verdict_for chain tx (refusal_of hash book chain.tip chain.live tx)

-- ---- the strings

-- what is hashed for an input that spends a live output and has a witness
abbrev pub spending_strings : (List ℕ → List ℕ) → Tx → TxIn → TxOut → List (List ℕ)
spending_strings hash tx input output = script_of input.witness ∷ digest_strings hash tx input (script_of input.witness) output.value

-- what is hashed for an input
abbrev pub input_strings : (List ℕ → List ℕ) → List Entry → Tx → TxIn → List (List ℕ)
input_strings hash live tx input =
    if is_filled input.witness then option_map_or (λ p. spending_strings hash tx input p.1) (at_place live input.prev) [] else []

-- what is hashed for a transaction, whatever its verdict
abbrev pub transaction_strings : (List ℕ → List ℕ) → List Entry → Tx → List (List ℕ)
transaction_strings hash live tx = txid_strings hash tx ++ shared_strings hash tx ++ flat_map (input_strings hash live tx) tx.inputs
