-- A move of a party's deposits, signed and handed to the ledger, over Bitcoin's transactions.
use Rattle.std.specs.Prelude.{ℕ, List, [], ◌∷◌, map, sum_by, Bool, not, nat_lt, if◌then◌else◌, Option, Some, None, is_some}
use Rattle.spec_data.specs.Lists.{are_distinct, first_reason}
use Rattle.spec_bitcoin.specs.declared.tx.TxIn.{TxIn}
use Rattle.spec_bitcoin.specs.declared.tx.TxOut.{TxOut}
use Rattle.spec_bitcoin.specs.declared.tx.Tx.{Tx}
use Rattle.spec_bitcoin.specs.declared.verdict.Refusal.TheVariants.{InputRepeated, ValueLimit, InsufficientIn}
use Rattle.spec_bitcoin.specs.Digests.{digest}
use Rattle.spec_bitcoin.specs.Keys.{Pair, signature_of}
use Rattle.spec_bitcoin.specs.Verdict.{number_or_zero}
use Rattle.spec_data.specs.Ranges.{max_money}
use Rattle.spec_calculus.specs.declared.step.Owner.TheVariants.{Party}
use Rattle.spec_calculus.specs.Same.{owner_eq}
use Rattle.spec_compiler.specs.Instance.{deposit_key}
use Rattle.spec_compiler.specs.Transactions.{party_script}
use Rattle.spec_run.specs.declared.outcome.Reason.{Reason}
use Rattle.spec_run.specs.declared.outcome.Reason.TheVariants as reason
use Rattle.spec_run.specs.Setup.{Setup}
use Rattle.spec_run.specs.World.{World, output_at, is_deposit}
use Rattle.spec_run.specs.Owners.{paid_to, owner_of, deposit_value}
use Rattle.spec_run.specs.Compiled.{outpoint_of}
use Rattle.spec_run.specs.Signing.{with_pairs}
use Rattle.spec_run.specs.Ledger.{reaches}
use Rattle.spec_run.specs.Pending.{Pending, unless}

-- ---- refusals

-- the first of the numbers that is no live deposit's
abbrev pub first_dead : World → List ℕ → Option ℕ
first_dead w [] = None
first_dead w (n ∷ ns) = if is_deposit (output_at w n) then first_dead w ns else Some n

-- the first of the numbers whose deposit has another owner
abbrev pub first_foreign : Setup → World → List ℕ → List ℕ → Option ℕ
first_foreign s w party [] = None
first_foreign s w party (n ∷ ns) = if owner_eq (owner_of s (output_at w n)) (Party party) then first_foreign s w party ns else Some n

-- what these deposits are worth
abbrev pub value_in : World → List ℕ → ℕ
value_in w inputs = sum_by (λ n. deposit_value (output_at w n)) inputs

-- what these outputs are worth
abbrev pub value_out : List (List ℕ × ℕ) → ℕ
value_out outputs = sum_by (λ o. o.1) outputs

-- `give A #n .. -> B v ..`: the inputs are live deposits, the party's own and different, and pay for the outputs; one output above
-- the most makes their sum exceed it
abbrev pub give_row : Setup → World → List ℕ → List ℕ → List (List ℕ × ℕ) → List (Bool × Reason)
give_row s w party inputs outputs =
    (is_some (first_dead w inputs), reason.NotLiveOutput (number_or_zero (first_dead w inputs)))
    ∷ (is_some (first_foreign s w party inputs), reason.NotOwnerOutput (number_or_zero (first_foreign s w party inputs)))
    ∷ (not (are_distinct inputs), reason.Ledger InputRepeated)
    ∷ (nat_lt max_money (value_out outputs), reason.Ledger ValueLimit)
    ∷ (nat_lt (value_in w inputs) (value_out outputs), reason.Ledger InsufficientIn)
    ∷ []

-- ---- the transaction

-- the input that spends the output of this number, without its witness; no lock binds it
abbrev pub given_input : World → ℕ → TxIn
given_input w n = record { prev = outpoint_of (output_at w n); script_sig = []; sequence = 0xffffffff; witness = [] }

-- an output to a party
abbrev pub given_output : Setup → List ℕ × ℕ → TxOut
given_output s o = record { value = o.1; script = paid_to s (o.0) }

-- the transaction without witnesses
abbrev pub unsigned_gift : Setup → World → List ℕ → List (List ℕ × ℕ) → Tx
unsigned_gift s w inputs outputs =
    record { version = 2; inputs = map (given_input w) inputs; outputs = map (given_output s) outputs; lock = 0 }

-- the digest of the input that spends the output of this number
abbrev pub given_digest : Setup → World → List ℕ → Tx → ℕ → List ℕ
given_digest s w party tx n = digest s.hash tx (given_input w n) (party_script s.hash party) (deposit_value (output_at w n))

-- the witness of a party's deposit
abbrev pub deposit_witness : Setup → List ℕ → List ℕ → List (List ℕ)
deposit_witness s party digest = signature_of (deposit_key s.hash party) digest ∷ (party_script s.hash party ∷ [])

-- the input with its witness
abbrev pub signed_input : Setup → World → List ℕ → Tx → ℕ → TxIn
signed_input s w party tx n = record (given_input w n) { witness = deposit_witness s party (given_digest s w party tx n) }

-- the transaction with its witnesses
abbrev pub gift : Setup → World → List ℕ → List ℕ → List (List ℕ × ℕ) → Tx
gift s w party inputs outputs =
    record (unsigned_gift s w inputs outputs) { inputs = map (signed_input s w party (unsigned_gift s w inputs outputs)) inputs }

-- what the party signs
abbrev pub given_pairs : Setup → World → List ℕ → List ℕ → List (List ℕ × ℕ) → List Pair
given_pairs s w party inputs outputs =
    map {B = Pair} (λ n. (deposit_key s.hash party, given_digest s w party (unsigned_gift s w inputs outputs) n)) inputs

abbrev pub give_pending : Setup → World → List ℕ → List ℕ → List (List ℕ × ℕ) → Pending
give_pending s w party inputs outputs =
    unless (first_reason (give_row s w party inputs outputs)) w []
    (reaches s w (with_pairs w (given_pairs s w party inputs outputs)) (gift s w party inputs outputs))
