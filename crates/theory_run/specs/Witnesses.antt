-- What is claimed of what an accepted transaction shows to everybody: the witnesses of its inputs, of each input all that it holds.
use Rattle.std.specs.Prelude.{◌≡◌, ◌⊎◌, ℕ, List, true, Some, slice_get}
use Rattle.spec_data.specs.Lists.{is_among}
use Rattle.spec_bitcoin.specs.declared.tx.TxIn.{TxIn}
use Rattle.spec_bitcoin.specs.declared.tx.Tx.{Tx}
use Rattle.spec_run.specs.declared.event.Event.{Event}
use Rattle.spec_run.specs.Setup.{Setup}
use Rattle.spec_run.specs.World.{World}
use Rattle.spec_run.specs.Pending.{Pending, Went}
use Rattle.spec_run.specs.Event.{event}

-- the string stands in the witness of some input
pub record IsShown (tx : Tx) (string : List ℕ) : Type 0 where
  pub number : ℕ
  pub input : TxIn
  pub there : slice_get tx.inputs number ≡ Some input
  pub item : is_among string input.witness ≡ true

pub record Posts (w next : World) (tx : Tx) : Type 0 where
  -- each item of the witness of each input is posted
  pub each : (number : ℕ) (input : TxIn) → slice_get tx.inputs number ≡ Some input
      → (item : List ℕ) → is_among item input.witness ≡ true → is_among item next.posted ≡ true
  -- what was posted before stays
  pub stays : (string : List ℕ) → is_among string w.posted ≡ true → is_among string next.posted ≡ true
  -- and nothing else is posted
  pub only : (string : List ℕ) → is_among string next.posted ≡ true → (is_among string w.posted ≡ true) ⊎ IsShown tx string

-- an event whose transaction is accepted posts what the witnesses of all its inputs hold
abbrev pub WitnessesArePosted : Type 0
WitnessesArePosted =
    (s : Setup) (w next : World) (e : Event) (d : Pending) (tx : Tx) → event s w e ≡ Went d next → d.tx ≡ Some tx → Posts w next tx
