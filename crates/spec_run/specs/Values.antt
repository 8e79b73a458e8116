-- What the live outputs of a world are worth, and what an event does to it and to all else.
use Rattle.std.specs.Prelude.{◌≡◌, ℕ, ◌+◌, ◌≤◌, List, [], ◌∷◌, Bool, true, false, if◌then◌else◌}
use Rattle.spec_run.specs.declared.outcome.Outcome.{Outcome}
use Rattle.spec_run.specs.declared.outcome.Outcome.TheVariants as outcomes
use Rattle.spec_run.specs.World.{Output, World}
use Rattle.spec_run.specs.Pending.{Answer, Went, Halted}

-- the values of the live ones of these outputs, added up
abbrev pub total_live : List Output → ℕ
total_live [] = 0
total_live (o ∷ os) = (if o.live then o.value else 0) + total_live os

-- what all live outputs are worth, in satoshi
abbrev pub live_value : World → ℕ
live_value w = total_live w.outputs

abbrev pub is_done : Outcome → Bool
is_done outcomes.Done = true
is_done (outcomes.Accepted spent made lock) = false
is_done (outcomes.Refused reason) = false

abbrev pub is_accepted : Outcome → Bool
is_accepted outcomes.Done = false
is_accepted (outcomes.Accepted spent made lock) = true
is_accepted (outcomes.Refused reason) = false

abbrev pub is_refused : Outcome → Bool
is_refused outcomes.Done = false
is_refused (outcomes.Accepted spent made lock) = false
is_refused (outcomes.Refused reason) = true

-- the live value doesn't grow, and where no transaction was accepted it stays
pub record KeepsValue (w : World) (outcome : Outcome) (next : World) : Type 0 where
  pub no_more : live_value next ≤ live_value w
  pub the_same : is_accepted outcome ≡ false → live_value next ≡ live_value w

abbrev pub ValueKept : World → Answer → Type 0
ValueKept w (Halted halt) = Unit {0}
ValueKept w (Went d next) = KeepsValue w d.outcome next

-- a refused event leaves the world as it was, but for the messages that were hashed
abbrev pub RefusedKept : World → Answer → Type 0
RefusedKept w (Halted halt) = Unit {0}
RefusedKept w (Went d next) = is_refused d.outcome ≡ true → next ≡ record w { hashed = next.hashed }
