-- The transaction of a gift, by the outputs that were made, the giver's key and the script of its deposits.
use Rattle.std.specs.Prelude.{◌≡◌, ℕ, List, [], ◌∷◌, ◌++◌, map, Bool, Option, Some, None, slice_get, is_some, if◌then◌else◌}
use Rattle.std.specs.List.{flat_map}
use Rattle.spec_data.specs.Lists.{first_reason}
use Rattle.spec_bitcoin.specs.declared.tx.TxIn.{TxIn}
use Rattle.spec_bitcoin.specs.declared.tx.Tx.{Tx}
use Rattle.spec_bitcoin.specs.Digests.{digest, txid_strings, shared_strings, digest_strings}
use Rattle.spec_bitcoin.specs.Keys.{Pair, signature_of}
use Rattle.spec_calculus.specs.declared.step.Owner.{Owner}
use Rattle.spec_calculus.specs.declared.step.Owner.TheVariants.{Party, Outside}
use Rattle.spec_calculus.specs.Same.{owner_eq}
use Rattle.spec_run.specs.World.{Output, World, is_deposit}
use Rattle.spec_run.specs.Owners.{deposit_value}
use Rattle.spec_run.specs.Compiled.{outpoint_of}
use Rattle.spec_run.specs.Setup.{Setup}
use Rattle.spec_run.specs.Pending.{Pending}
use Rattle.spec_run.specs.Ledger.{reaches}
use Rattle.spec_run.specs.Signing.{with_pairs}
use Rattle.spec_run.specs.Giving.{give_row, given_pairs, gift}
use Rattle.bm_world_board.specs.Reaching.{IsFresh}
use Rattle.bm_world_board.specs.declared.accounts.Account.{Account}
use Rattle.bm_world_board.specs.Accounts.{owner_in}

-- ---- refusals

-- the owner of a live deposit, by the accounts of the parties
abbrev pub owner_by : List Account → Option Output → Owner
owner_by accounts None = Outside
owner_by accounts (Some o) = if is_deposit (Some o) then owner_in accounts o.script else Outside

-- the first of the numbers whose deposit has another owner
abbrev pub first_foreign_by : List Account → List Output → List ℕ → List ℕ → Option ℕ
first_foreign_by accounts outputs party [] = None
first_foreign_by accounts outputs party (n ∷ ns) =
    if owner_eq (owner_by accounts (slice_get outputs n)) (Party party) then first_foreign_by accounts outputs party ns else Some n

-- ---- a gift that isn't refused before it is signed

-- the world with what the giver signs
abbrev pub signed_world : Setup → World → List ℕ → List ℕ → List (List ℕ × ℕ) → World
signed_world s w party inputs outputs = with_pairs w (given_pairs s w party inputs outputs)

-- what it comes to
abbrev pub gift_pending : Setup → World → List ℕ → List ℕ → List (List ℕ × ℕ) → Pending
gift_pending s w party inputs outputs = reaches s w (signed_world s w party inputs outputs) (gift s w party inputs outputs)

-- where it isn't refused, and is accepted, and its strings don't collide, no live output has its id
abbrev pub IsFreshGift : Setup → World → List ℕ → List ℕ → List (List ℕ × ℕ) → Type 0
IsFreshGift s w party inputs outputs =
    first_reason (give_row s w party inputs outputs) ≡ None → IsFresh s (signed_world s w party inputs outputs) (gift s w party inputs outputs)

-- ---- what a gift names

-- whether there is an output of this number
abbrev pub has_output : List Output → ℕ → Bool
has_output outputs n = is_some (slice_get outputs n)

-- ---- what never lies at one place

-- outputs lie at different places
pub record LieApart (w : World) : Type 0 where
  pub apart : (m n : ℕ) (o p : Output) → slice_get w.outputs m ≡ Some o → slice_get w.outputs n ≡ Some p → o.outpoint ≡ p.outpoint → m ≡ n

-- ---- the signed transaction

-- the input that spends the output of this number, without its witness
abbrev pub input_of : List Output → ℕ → TxIn
input_of outputs n = record { prev = outpoint_of (slice_get outputs n); script_sig = []; sequence = 0xffffffff; witness = [] }

-- its digest, where the output pays to this script
abbrev pub digest_of : (List ℕ → List ℕ) → List Output → Tx → List ℕ → ℕ → List ℕ
digest_of hash outputs tx script n = digest hash tx (input_of outputs n) script (deposit_value (slice_get outputs n))

-- what is hashed for it
abbrev pub strings_of : (List ℕ → List ℕ) → List Output → Tx → List ℕ → ℕ → List (List ℕ)
strings_of hash outputs tx script n = script ∷ digest_strings hash tx (input_of outputs n) script (deposit_value (slice_get outputs n))

-- what the account signs for it
abbrev pub pair_of : (List ℕ → List ℕ) → List Output → Account → Tx → ℕ → Pair
pair_of hash outputs account tx n = (account.key, digest_of hash outputs tx account.script n)

-- the witness of an account's deposit
abbrev pub witness_of : Account → List ℕ → List (List ℕ)
witness_of account digest = signature_of account.key digest ∷ (account.script ∷ [])

-- the input with its witness
abbrev pub signed_input : (List ℕ → List ℕ) → List Output → Account → Tx → ℕ → TxIn
signed_input hash outputs account tx n =
    record (input_of outputs n) { witness = witness_of account (digest_of hash outputs tx account.script n) }

-- the transaction with its witnesses
abbrev pub signed_tx : (List ℕ → List ℕ) → List Output → Account → Tx → List ℕ → Tx
signed_tx hash outputs account tx inputs = record tx { inputs = map (signed_input hash outputs account tx) inputs }

-- what is hashed for it
abbrev pub gift_strings : (List ℕ → List ℕ) → List Output → List ℕ → Tx → List ℕ → List (List ℕ)
gift_strings hash outputs script tx inputs =
    txid_strings hash tx ++ shared_strings hash tx ++ flat_map (strings_of hash outputs tx script) inputs
