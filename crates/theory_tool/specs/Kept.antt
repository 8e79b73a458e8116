-- What holds of every run of valid files, whatever is printed of it: of money, of refusals, of honest parties' deposits, of contracts
-- that begin, and of every world that it comes to.
use Rattle.std.specs.Prelude.{◌≡◌, ℕ, ◌+◌, ◌≤◌, List, length, true, Some, None, Ok, slice_get, take}
use Rattle.spec_terms.specs.Advert.{Advert}
use Rattle.spec_run.specs.declared.event.Event.{Event}
use Rattle.spec_run.specs.declared.event.Run.{Run}
use Rattle.spec_run.specs.Setup.{Setup}
use Rattle.spec_run.specs.Conditions.{HashesBytes}
use Rattle.spec_run.specs.Event.{opening_collision}
use Rattle.spec_run.specs.Translation.{Turn, course, last_world}
use Rattle.spec_run.specs.Statements.{Claim, HoldsThroughout, spends_with_leave}
use Rattle.spec_run.specs.Values.{KeepsValue, is_refused}
use Rattle.spec_text.specs.Refusals.{run_of}
use Rattle.spec_tool.specs.Commands.{contracts_from, setup_of}
use Rattle.theory_run.specs.Sound.{IsSoundThroughout}
use Rattle.theory_run.specs.WorldsOfRuns.{IsWorldOfRun}
use Rattle.theory_offers.specs.Authorised.{SignedThroughout}
use Rattle.theory_offers.specs.Begun.{EndorsedThroughout}
use Rattle.theory_offers.specs.BoundDeposits.{bound_deposits}

-- ---- any run

-- what all live outputs are worth doesn't grow by the event, and stays where no transaction was accepted
abbrev pub value_kept : Claim
value_kept before g w t = KeepsValue w t.outcome t.world

-- a refused event leaves the world as it was, but for the messages that were hashed
abbrev pub refusals_kept : Claim
refusals_kept before g w t = is_refused t.outcome ≡ true → t.world ≡ record w { hashed = t.world.hashed }

-- ---- a run whose opening strings don't collide

-- the world that each turn left is one of the run up to there
abbrev pub EveryWorldIsOfRun : Setup → List Event → Type 0
EveryWorldIsOfRun s es =
    (n : ℕ) (t : Turn) → slice_get (course s es).turns n ≡ Some t → IsWorldOfRun s (take (n + 1) es) t.world

pub record IsSafe (s : Setup) (es : List Event) : Type 0 where
  -- an honest party's live deposit goes only by its own gift, or by a transaction of a contract that it endorsed or started
  pub honest_deposits : HoldsThroughout s (spends_with_leave s) es
  -- and never by a transaction of a contract that isn't compiled yet, though it is bound to it
  pub bound : HoldsThroughout s (bound_deposits s) es
  -- a contract begins only where it is endorsed, and stays endorsed
  pub endorsed : EndorsedThroughout s es
  -- each authorisation has its signature, and an honest party's signature of a branch that asks it stands for its authorisation
  pub signed : SignedThroughout s es
  -- hashed messages, signatures under each key, places of contract outputs, different commitments and bounded money: of the last world,
  -- and of the world after every event
  pub world : IsWorldOfRun s es (last_world s es)
  pub worlds : EveryWorldIsOfRun s es
  -- a legal run leads to every configuration: numbers stand apart, each contract can pay for each of its branches, money is bounded
  pub sound : IsSoundThroughout s es

-- ---- all of it

pub record KeepsRun (s : Setup) (es : List Event) : Type 0 where
  pub value : HoldsThroughout s value_kept es
  pub refusals : HoldsThroughout s refusals_kept es
  pub safe : opening_collision s ≡ None → IsSafe s es

-- so it is of every hash of 32 bytes, and of a run file and up to 16 contract files that aren't refused
abbrev pub RunsAreKept : Type 0
RunsAreKept = (hash : List ℕ → List ℕ) → HashesBytes hash
    → (run_file : List ℕ) (contract_files : List (List ℕ)) (run : Run) (contracts : List Advert)
    → run_of run_file ≡ Ok run → contracts_from 0 contract_files ≡ Ok contracts → length contract_files ≤ 16
    → KeepsRun (setup_of hash run contracts) run.events
