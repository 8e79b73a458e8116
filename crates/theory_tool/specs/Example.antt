-- A run to which all that is claimed of runs applies: its contract has a secret and a split, and more may be taken at its end.
use Rattle.std.specs.Prelude.{◌≡◌, ℕ, List, [], ◌∷◌, ◌++◌, map, None, Ok, codes}
use Rattle.std.specs.List.{flat_map}
use Rattle.spec_terms.specs.Advert.{Advert}
use Rattle.spec_calculus.specs.declared.step.Step.{Step}
use Rattle.spec_calculus.specs.declared.step.Step.TheVariants as steps
use Rattle.spec_run.specs.declared.event.Event.{Event}
use Rattle.spec_run.specs.declared.event.Event.TheVariants as events
use Rattle.spec_run.specs.declared.event.Run.{Run}
use Rattle.spec_run.specs.declared.outcome.Outcome.TheVariants.{Done, Accepted}
use Rattle.spec_run.specs.Conditions.{HashesBytes}
use Rattle.spec_run.specs.Offers.{Offer, offers}
use Rattle.spec_run.specs.Statements.{IsRun}
use Rattle.spec_run.specs.Translation.{trace, first_halt, last_configuration}
use Rattle.spec_text.specs.RunText.{newline}
use Rattle.spec_text.specs.Refusals.{run_of}
use Rattle.spec_tool.specs.Commands.{contracts_from, setup_of}

-- A shows a secret and shares with B, or B takes all after some time
abbrev pub example_contract : List ℕ
example_contract = codes
    "{A:! 100 @ x | B:! 0 @ y | A: secret a} (reveal a . split [60 -> withdraw A, 40 -> withdraw B] + after 1000 : withdraw B)"

abbrev pub example_lines : List (List ℕ)
example_lines =
    codes "party A"
    ∷ codes "party B"
    ∷ codes "honest A"
    ∷ codes "honest B"
    ∷ codes "secret A a 00112233445566778899aabbccddeeff"
    ∷ codes "deposit A 100"
    ∷ codes "deposit B 0"
    ∷ codes "--"
    ∷ codes "advertise 0 x=#0 y=#1"
    ∷ codes "commit 0 A"
    ∷ codes "commit 0 B"
    ∷ codes "endorse 0 A"
    ∷ codes "endorse 0 B"
    ∷ codes "init 0 A"
    ∷ codes "init 0 B"
    ∷ codes "fire init 0"
    ∷ codes "reveal 0 A a"
    ∷ codes "fire #2 0"
    ∷ codes "fire #3 0"
    ∷ []

-- the run up to the split
abbrev pub example_run : List ℕ
example_run = flat_map (λ line. line ++ newline) example_lines

-- a step with its event
abbrev pub offering : Step → Event → Offer
offering step event = record { step = step; event = event }

pub record RunWithOffers : Type 0 where
  pub hash : List ℕ → List ℕ
  pub bytes : HashesBytes hash
  -- both texts are taken, so they make a run of which the theorems on runs speak
  pub run : Run
  pub contract : Advert
  pub valid : run_of example_run ≡ Ok run
  pub well_formed : contracts_from 0 (example_contract ∷ []) ≡ Ok (contract ∷ [])
  pub is_run : IsRun (setup_of hash run (contract ∷ [])) run.events
  -- nothing halts it, and no event is refused
  pub whole : first_halt (setup_of hash run (contract ∷ [])) run.events ≡ None
  pub outcomes : map (λ r. r.outcome) (trace (setup_of hash run (contract ∷ [])) run.events)
      ≡ Done ∷ Done ∷ Done ∷ Done ∷ Done ∷ Done ∷ Done
      ∷ Accepted (0 ∷ 1 ∷ []) ((2, 100) ∷ []) 0
      ∷ Done
      ∷ Accepted (2 ∷ []) ((3, 100) ∷ []) 0
      ∷ Accepted (3 ∷ []) ((4, 60) ∷ (5, 40) ∷ []) 0
      ∷ []
  -- both shares may be taken
  pub offered : offers (last_configuration (setup_of hash run (contract ∷ [])) run.events)
      ≡ offering (steps.Withdraw 4 0) (events.Fire 4 0) ∷ offering (steps.Withdraw 5 0) (events.Fire 5 0) ∷ []
