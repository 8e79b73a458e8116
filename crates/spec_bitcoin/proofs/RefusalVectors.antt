-- Each refusal of the ledger comes before those behind it in the list: for each a transaction with its fault and with every later fault
-- that can stand beside it. The rows of faults are worked out, too.
use Rattle.std.proofs.Common.{◌≡◌, ℕ, List, [], ◌∷◌, Bool, true, false, replicate, refl, codes}
use Rattle.std.specs.Prelude.{sum, ◌%◌, map}
use Rattle.spec_bitcoin.specs.declared.tx.TxIn.{TxIn}
use Rattle.spec_bitcoin.specs.declared.tx.TxOut.{TxOut}
use Rattle.spec_bitcoin.specs.declared.tx.Tx.{Tx}
use Rattle.spec_bitcoin.specs.declared.label.Label.TheVariants.{Deposit}
use Rattle.spec_bitcoin.specs.declared.verdict.Verdict.{Verdict}
use Rattle.spec_bitcoin.specs.declared.verdict.Verdict.TheVariants.{Refused}
use Rattle.spec_bitcoin.specs.declared.verdict.Refusal.TheVariants.{NoInput, NoOutput, InputRepeated, MissingInput}
use Rattle.spec_bitcoin.specs.declared.verdict.Refusal.TheVariants.{ValueLimit, InsufficientIn, NotFinal, ScriptSigNotEmpty}
use Rattle.spec_bitcoin.specs.declared.verdict.Refusal.TheVariants.{NotWitnessScript, ScriptMismatch, ItemTooLong, ScriptFalse}
use Rattle.spec_bitcoin.specs.Spelling.{compact}
use Rattle.spec_bitcoin.specs.Digests.{places_list, sequences_list, outputs_list, preimage, digest}
use Rattle.spec_bitcoin.specs.Numbers.{number_of_item, item_of_number, signed_bytes}
use Rattle.spec_bitcoin.specs.Scripts.{ops_of}
use Rattle.spec_bitcoin.specs.Meaning.{script_meaning}
use Rattle.spec_bitcoin.specs.Keys.{label_text, key_of, deposit_script, pay_to_key, signature_of}
use Rattle.spec_bitcoin.specs.Live.{Chain, opening_chain}
use Rattle.spec_bitcoin.specs.Verdict.{verdict, whole_row, input_row}

-- a hash of 32 bytes: the sum of the bytes modulo 256, and zeros
abbrev toy : List ℕ → List ℕ
toy message = sum message % 256 ∷ replicate 31 0

abbrev key : List ℕ
key = key_of toy (Deposit (codes "A"))

-- the two live outputs: one pays to a deposit script, the other to no hash
abbrev to_script : TxOut
to_script = record { value = 10; script = pay_to_key toy key }

abbrev to_none : TxOut
to_none = record { value = 10; script = 0x51 ∷ [] }

abbrev chain : Chain
chain = opening_chain (replicate 32 7) (to_script ∷ to_none ∷ [])

-- ---- inputs

-- of output 0 or 1 of the opening transaction; the sequence lets a lock bind
abbrev input : ℕ → List ℕ → List (List ℕ) → TxIn
input vout sig witness =
    record { prev = record { txid = replicate 32 7; vout = vout }; script_sig = sig; sequence = 4294967294; witness = witness }

abbrev missing : TxIn
missing = record { prev = record { txid = replicate 32 8; vout = 0 }; script_sig = []; sequence = 4294967294; witness = [] }

abbrev long : List ℕ
long = replicate 521 1

-- with the five faults of an input, and with each of them taken away in turn
abbrev five_faults : TxIn
five_faults = input 1 (0 ∷ []) (long ∷ (0 ∷ []) ∷ [])

abbrev four_faults : TxIn
four_faults = input 1 [] (long ∷ (0 ∷ []) ∷ [])

abbrev three_faults : TxIn
three_faults = input 0 [] (long ∷ (0 ∷ []) ∷ [])

abbrev two_faults : TxIn
two_faults = input 0 [] (long ∷ deposit_script key ∷ [])

abbrev one_fault : TxIn
one_fault = input 0 [] ([] ∷ deposit_script key ∷ [])

-- ---- transactions

abbrev paying : ℕ → List TxOut
paying v = record { value = v; script = 0x51 ∷ [] } ∷ []

abbrev too_much : List TxOut
too_much = paying 2100000000000001

abbrev transaction : List TxIn → List TxOut → ℕ → Tx
transaction inputs outputs lock = record { version = 2; inputs = inputs; outputs = outputs; lock = lock }

abbrev judged : Tx → Verdict
judged tx = verdict toy [] chain tx

-- which of the conditions on the whole fail
abbrev whole : Tx → List Bool
whole tx = map (λ p. p.0) (whole_row 0 chain.live tx)

-- which of the conditions on an input fail
abbrev inner : Tx → TxIn → TxOut → List Bool
inner tx i o = map (λ p. p.0) (input_row toy [] tx 0 i o)

-- ---- the faults of the inputs

abbrev alone : TxIn → Tx
alone i = transaction (i ∷ []) (paying 10) 0

faults_of_five : inner (alone five_faults) five_faults to_none ≡ true ∷ true ∷ true ∷ true ∷ true ∷ []
unfolding label_text script_meaning ops_of preimage compact places_list sequences_list outputs_list item_of_number signed_bytes
    number_of_item
faults_of_five = refl

faults_of_four : inner (alone four_faults) four_faults to_none ≡ false ∷ true ∷ true ∷ true ∷ true ∷ []
unfolding label_text script_meaning ops_of preimage compact places_list sequences_list outputs_list item_of_number signed_bytes
    number_of_item
faults_of_four = refl

faults_of_three : inner (alone three_faults) three_faults to_script ≡ false ∷ false ∷ true ∷ true ∷ true ∷ []
unfolding label_text script_meaning ops_of preimage compact places_list sequences_list outputs_list item_of_number signed_bytes
    number_of_item
faults_of_three = refl

faults_of_two : inner (alone two_faults) two_faults to_script ≡ false ∷ false ∷ false ∷ true ∷ true ∷ []
unfolding label_text script_meaning ops_of preimage compact places_list sequences_list outputs_list item_of_number signed_bytes
    number_of_item
faults_of_two = refl

faults_of_one : inner (alone one_fault) one_fault to_script ≡ false ∷ false ∷ false ∷ false ∷ true ∷ []
unfolding label_text script_meaning ops_of preimage compact places_list sequences_list outputs_list item_of_number signed_bytes
    number_of_item
faults_of_one = refl

-- ---- the faults of the whole: no input, no output, a repeated input, a missing one, too much, too little, not final

faults_of_the_whole :
    map whole (
    transaction [] [] 0
    ∷ transaction [] too_much 0
    ∷ transaction (missing ∷ missing ∷ five_faults ∷ []) [] 500000000
    ∷ transaction (missing ∷ missing ∷ five_faults ∷ []) too_much 500000000
    ∷ transaction (five_faults ∷ missing ∷ []) too_much 500000000
    ∷ transaction (five_faults ∷ []) too_much 500000000
    ∷ transaction (five_faults ∷ []) (paying 11) 500000000
    ∷ transaction (five_faults ∷ []) (paying 10) 500000000
    ∷ alone five_faults
    ∷ [])
    ≡ (true ∷ true ∷ false ∷ false ∷ false ∷ false ∷ false ∷ [])
    ∷ (true ∷ false ∷ false ∷ false ∷ true ∷ true ∷ false ∷ [])
    ∷ (false ∷ true ∷ true ∷ true ∷ false ∷ false ∷ true ∷ [])
    ∷ (false ∷ false ∷ true ∷ true ∷ true ∷ true ∷ true ∷ [])
    ∷ (false ∷ false ∷ false ∷ true ∷ true ∷ true ∷ true ∷ [])
    ∷ (false ∷ false ∷ false ∷ false ∷ true ∷ true ∷ true ∷ [])
    ∷ (false ∷ false ∷ false ∷ false ∷ false ∷ true ∷ true ∷ [])
    ∷ (false ∷ false ∷ false ∷ false ∷ false ∷ false ∷ true ∷ [])
    ∷ (false ∷ false ∷ false ∷ false ∷ false ∷ false ∷ false ∷ [])
    ∷ []
unfolding label_text
faults_of_the_whole = refl

-- ---- the first of them is the answer

first_of_the_whole :
    map judged (
    transaction [] [] 0
    ∷ transaction [] too_much 0
    ∷ transaction (missing ∷ missing ∷ five_faults ∷ []) [] 500000000
    ∷ transaction (missing ∷ missing ∷ five_faults ∷ []) too_much 500000000
    ∷ transaction (five_faults ∷ missing ∷ []) too_much 500000000
    ∷ transaction (five_faults ∷ []) too_much 500000000
    ∷ transaction (five_faults ∷ []) (paying 11) 500000000
    ∷ transaction (five_faults ∷ []) (paying 10) 500000000
    ∷ [])
    ≡ Refused NoInput
    ∷ Refused NoInput
    ∷ Refused NoOutput
    ∷ Refused InputRepeated
    ∷ Refused (MissingInput 1)
    ∷ Refused ValueLimit
    ∷ Refused InsufficientIn
    ∷ Refused NotFinal
    ∷ []
unfolding label_text script_meaning ops_of preimage compact places_list sequences_list outputs_list item_of_number signed_bytes
    number_of_item
first_of_the_whole = refl

first_of_an_input :
    map (λ i. judged (alone i)) (five_faults ∷ four_faults ∷ three_faults ∷ two_faults ∷ one_fault ∷ [])
    ≡ Refused (ScriptSigNotEmpty 0)
    ∷ Refused (NotWitnessScript 0)
    ∷ Refused (ScriptMismatch 0)
    ∷ Refused (ItemTooLong 0)
    ∷ Refused (ScriptFalse 0)
    ∷ []
unfolding label_text script_meaning ops_of preimage compact places_list sequences_list outputs_list item_of_number signed_bytes
    number_of_item
first_of_an_input = refl

-- the last fault of one input comes before the first of the next
first_input_first : judged (transaction (one_fault ∷ five_faults ∷ []) (paying 20) 0) ≡ Refused (ScriptFalse 0)
unfolding label_text script_meaning ops_of preimage compact places_list sequences_list outputs_list item_of_number signed_bytes
    number_of_item
first_input_first = refl

-- an input without fault before one with all of them
abbrev with_sound : List (List ℕ) → Tx
with_sound witness = transaction (input 0 [] witness ∷ five_faults ∷ []) (paying 20) 0

abbrev to_be_signed : List ℕ
to_be_signed = digest toy (with_sound []) (input 0 [] []) (deposit_script key) 10

later_input :
    verdict toy ((key, to_be_signed) ∷ []) chain (with_sound (signature_of key to_be_signed ∷ deposit_script key ∷ []))
    ≡ Refused (ScriptSigNotEmpty 1)
unfolding label_text script_meaning ops_of preimage compact places_list sequences_list outputs_list item_of_number signed_bytes
    number_of_item
later_input = refl

-- the ends of what is final: a lock that is reached, one that isn't, the last height, and a sequence under which no lock binds
abbrev locked : ℕ → ℕ → Tx
locked sequence lock =
    transaction (record { prev = record { txid = replicate 32 7; vout = 0 }; script_sig = 0 ∷ []; sequence = sequence; witness = [] } ∷ [])
    (paying 10) lock

abbrev at_height : ℕ → Tx → Verdict
at_height tip tx = verdict toy [] (record chain { tip = tip }) tx

finality :
    at_height 7 (locked 4294967294 7) ∷ at_height 7 (locked 4294967294 8) ∷ at_height 7 (locked 4294967295 8)
    ∷ at_height 499999999 (locked 0 499999999) ∷ at_height 600000000 (locked 0 500000000) ∷ []
    ≡ Refused (ScriptSigNotEmpty 0) ∷ Refused NotFinal ∷ Refused (ScriptSigNotEmpty 0)
    ∷ Refused (ScriptSigNotEmpty 0) ∷ Refused NotFinal ∷ []
unfolding label_text script_meaning ops_of preimage compact places_list sequences_list outputs_list item_of_number signed_bytes
    number_of_item
finality = refl
