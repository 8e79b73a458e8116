-- What the parties have told each other.
use Rattle.std.specs.Prelude.{ℕ, List, [], ◌∷◌, if◌then◌else◌}
use Rattle.spec_calculus.specs.declared.parts.Advertised.{Advertised}
use Rattle.spec_run.specs.World.{Promise, is_promise_of}

pub record Exchanged : Type 0 where
  -- the strings that were posted, in order
  pub posted : List (List ℕ)
  -- the contracts that are advertised, each with its bindings in the precondition's order
  pub advertised : List Advertised
  -- the commitments, in order
  pub promises : List Promise

-- the digests that the party has committed for the contract, none where it hasn't
abbrev pub digests_by : List Promise → ℕ → List ℕ → List (List ℕ × List ℕ)
digests_by [] contract party = []
digests_by (p ∷ rest) contract party = if is_promise_of contract party p then p.digests else digests_by rest contract party
