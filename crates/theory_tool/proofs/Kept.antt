-- What holds of every run of valid files, by the theorems on one event and on runs.
use Rattle.std.proofs.Common.{◌≡◌, ℕ, List, [], ◌∷◌, refl, subst}
use Rattle.spec_calculus.specs.Configuration.{Configuration}
use Rattle.spec_run.specs.declared.event.Event.{Event}
use Rattle.spec_run.specs.declared.outcome.Record.{Record}
use Rattle.spec_run.specs.Setup.{Setup}
use Rattle.spec_run.specs.World.{World}
use Rattle.spec_run.specs.Pending.{Pending, Answer, Went, Halted}
use Rattle.spec_run.specs.Event.{event, opening_world, goes_on, played_from, played}
use Rattle.spec_run.specs.Values.{ValueKept, RefusedKept}
use Rattle.spec_run.specs.Translation.{turns_from, turn_of, world_after, opening_configuration}
use Rattle.spec_run.specs.Statements.{Claim, IsRun, HoldsFrom, HoldsThroughout}
use Rattle.spec_tool.specs.Commands.{setup_of}
use Rattle.theory_world.proofs.Refused.{refusals_keep}
use Rattle.theory_world.proofs.Ledger.Worth.{values_keep}
use Rattle.theory_run.proofs.Honest.Throughout.{honest_deposits}
use Rattle.theory_run.proofs.Worlds.WorldsOfRuns.{worlds_of_runs, worlds_of_turns}
use Rattle.theory_run.proofs.Soundness.{sound_runs}
use Rattle.theory_offers.proofs.Authorised.{authorisations_signed}
use Rattle.theory_offers.proofs.BegunInRun.{endorsed_before_start}
use Rattle.theory_offers.proofs.BoundDeposits.{deposits_stay}
use Rattle.theory_tool.specs.Kept.{value_kept, refusals_kept, IsSafe, RunsAreKept}
use Rattle.theory_tool.proofs.Headlines.{valid_runs_are}

-- ---- one event, and every event

-- the claim holds of each event that goes on, in a run that posts these strings
abbrev HoldsOfEach : Claim → Setup → List (List ℕ) → Type 0
HoldsOfEach claim s strings = (before : List Record) (g : Configuration) (w : World) (e : Event) (d : Pending) (next : World)
    → event s w e ≡ Went d next → claim before g w (turn_of s strings g w (record { event = e; pending = d; world = next }))

module _ (claim : Claim) (s : Setup) (strings : List (List ℕ)) (holds : HoldsOfEach claim s strings) where
  -- where the event comes to this, and the claim holds of what comes after it
  onto : (before : List Record) (g : Configuration) (w : World) (e : Event) (es : List Event) (a : Answer) → event s w e ≡ a
      → ((before' : List Record) (g' : Configuration) (w' : World)
      → HoldsFrom claim before' g' w' (turns_from s strings g' w' (played_from s w' es).passed))
      → HoldsFrom claim before g w (turns_from s strings g w (goes_on e a (λ next. played_from s next es)).passed)
  onto before g w e es (Halted halt) is later = tt
  onto before g w e es (Went d next) is later = (holds before g w e d next is, later _ _ next)

  holds_from : (es : List Event) (before : List Record) (g : Configuration) (w : World)
      → HoldsFrom claim before g w (turns_from s strings g w (played_from s w es).passed)
  holds_from [] before g w = tt
  holds_from (e ∷ es) before g w = onto before g w e es (event s w e) refl (holds_from es)

posts : Setup → List Event → List (List ℕ)
posts s es = (world_after (opening_world s) (played s es).passed).posted

never_grows : (s : Setup) (es : List Event) → HoldsThroughout s value_kept es
unfolding posts
never_grows s es =
    holds_from value_kept s (posts s es) (λ before g w e d next is. subst (ValueKept w) is (values_keep s w e)) es []
    (opening_configuration s) (opening_world s)

keeps_refused : (s : Setup) (es : List Event) → HoldsThroughout s refusals_kept es
unfolding posts
keeps_refused s es =
    holds_from refusals_kept s (posts s es) (λ before g w e d next is. subst (RefusedKept w) is (refusals_keep s w e)) es []
    (opening_configuration s) (opening_world s)

-- ---- runs

safe : (s : Setup) (es : List Event) → IsRun s es → IsSafe s es
safe s es is = record {
  honest_deposits = honest_deposits s es is;
  bound = deposits_stay s es is;
  endorsed = endorsed_before_start s es is;
  signed = authorisations_signed s es is;
  world = worlds_of_runs s es is;
  worlds = worlds_of_turns s es is;
  sound = sound_runs s es is;
}

pub kept : RunsAreKept
kept hash bytes run_file contract_files run contracts r c few =
    let s : Setup = setup_of hash run contracts in
    record {
      value = never_grows s run.events;
      refusals = keeps_refused s run.events;
      safe = λ opens. safe s run.events (valid_runs_are hash bytes run_file contract_files run contracts r c few opens);
    }
