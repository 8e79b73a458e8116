-- When a configuration of the calculus and a world agree.
use Rattle.std.specs.Prelude.{◌≡◌, ℕ, ◌+◌, List, [], ◌∷◌, map, length, Bool, true, false, if◌then◌else◌, Option, Some, None}
use Rattle.std.specs.List.{list_all, cons_option}
use Rattle.spec_terms.specs.declared.path.PathStep.{PathStep}
use Rattle.spec_bitcoin.specs.declared.tx.OutPoint.{OutPoint}
use Rattle.spec_bitcoin.specs.Live.{same_outpoint}
use Rattle.spec_compiler.specs.Instance.{Instance}
use Rattle.spec_compiler.specs.ByPath.{outpoint_at}
use Rattle.spec_calculus.specs.declared.parts.Deposit.{Deposit}
use Rattle.spec_calculus.specs.declared.parts.ActiveContract.{ActiveContract}
use Rattle.spec_calculus.specs.declared.parts.Committed.{Committed}
use Rattle.spec_calculus.specs.declared.parts.Revealed.{Revealed}
use Rattle.spec_calculus.specs.Configuration.{Configuration}
use Rattle.spec_calculus.specs.Branches.{is_revealed}
use Rattle.spec_run.specs.Setup.{Setup}
use Rattle.spec_run.specs.World.{ContractPosition, Output, Promise, World, is_deposit, live_position}
use Rattle.spec_run.specs.Owners.{owner_by}
use Rattle.spec_run.specs.Compiled.{compiled_instance}
use Rattle.spec_run.specs.Secrets.{shown}

-- ---- what the calculus sees of the outputs

-- the output of this number as a deposit
abbrev pub deposit_in : Setup → ℕ → Output → Option Deposit
deposit_in s k o = if is_deposit (Some o) then Some record { number = k; owner = owner_by s o.script; value = o.value } else None

-- what lies at a live output as an active contract
abbrev pub active_by : ℕ → ℕ → Option ContractPosition → Option ActiveContract
active_by k value None = None
active_by k value (Some held) = Some record { number = k; contract = held.contract; position = held.position; balance = value }

-- the output of this number as an active contract
abbrev pub active_in : ℕ → Output → Option ActiveContract
active_in k o = active_by k o.value (live_position (Some o))

-- what is seen of the outputs from number k on
abbrev pub seen_from : {X : Type 0} → (ℕ → Output → Option X) → ℕ → List Output → List X
seen_from see k [] = []
seen_from see k (o ∷ os) = cons_option (see k o) (seen_from see (k + 1) os)

abbrev pub deposits_from : Setup → ℕ → List Output → List Deposit
deposits_from s k outputs = seen_from (deposit_in s) k outputs

abbrev pub actives_from : ℕ → List Output → List ActiveContract
actives_from k outputs = seen_from active_in k outputs

-- ---- where contract outputs lie

-- whether the place is this one
abbrev pub is_outpoint : OutPoint → Option OutPoint → Bool
is_outpoint outpoint None = false
is_outpoint outpoint (Some other) = same_outpoint outpoint other

-- where the output of a position lies, where the contract is compiled
abbrev pub compiled_outpoint : Setup → Option Instance → List PathStep → Option OutPoint
compiled_outpoint s None position = None
compiled_outpoint s (Some instance) position = outpoint_at s.hash instance position

-- whether what is held lies at this place, where there is something
abbrev pub is_placed_by : Setup → World → OutPoint → Option ContractPosition → Bool
is_placed_by s w outpoint None = true
is_placed_by s w outpoint (Some held) = is_outpoint outpoint (compiled_outpoint s (compiled_instance s w held.contract) held.position)

-- whether a live contract output lies where its position was compiled to
abbrev pub is_placed : Setup → World → Output → Bool
is_placed s w o = is_placed_by s w o.outpoint (live_position (Some o))

-- ---- agreement

abbrev pub committed_pair : Committed → ℕ × List ℕ
committed_pair c = (c.contract, c.party)

abbrev pub promised_pair : Promise → ℕ × List ℕ
promised_pair p = (p.contract, p.party)

pub record Agree (s : Setup) (g : Configuration) (w : World) : Type 0 where
  -- 1 the time is the tip, and the next name is the next birth number
  pub time : g.time ≡ w.tip
  pub next : g.next ≡ length w.outputs
  -- 2 the deposits are the live outputs that are no contract outputs, with their owners and values
  pub deposits : g.deposits ≡ deposits_from s 0 w.outputs
  -- 3 the active contracts are the live contract outputs, with contract, position and value, and these lie where they were compiled to
  pub active : g.active ≡ actives_from 0 w.outputs
  pub placed : list_all (is_placed s w) w.outputs ≡ true
  -- 4 a secret is revealed exactly where it is committed and a string that fits it is posted
  pub revealed : (x : Revealed) → is_revealed g.revealed x.contract x.party x.secret ≡ shown s w x
  -- 5 the same contracts are advertised with the same bindings, and the same parties have committed
  pub advertised : g.advertised ≡ w.advertised
  pub committed : map committed_pair g.committed ≡ map promised_pair w.promises
