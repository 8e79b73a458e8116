-- What is claimed of `play`, over the text that it prints.
use Rattle.std.specs.Prelude.{◌≡◌, ◌≤◌, ℕ, List, [], ◌∷◌, map, length, Some, None, Ok}
use Rattle.std.specs.List.{Contains}
use Rattle.spec_terms.specs.Advert.{Advert}
use Rattle.spec_calculus.specs.declared.step.Step.{Step}
use Rattle.spec_calculus.specs.Configuration.{Configuration}
use Rattle.spec_calculus.specs.Steps.{Legal, after_steps}
use Rattle.spec_run.specs.declared.event.Event.{Event}
use Rattle.spec_run.specs.declared.event.Run.{Run}
use Rattle.spec_run.specs.Setup.{Setup}
use Rattle.spec_run.specs.World.{World}
use Rattle.spec_run.specs.Pending.{Collided, Guessed}
use Rattle.spec_run.specs.Agreement.{Agree}
use Rattle.spec_run.specs.Conditions.{HashesBytes}
use Rattle.spec_run.specs.Event.{opening_collision}
use Rattle.spec_run.specs.Translation.{Turn, opening_configuration, course, last_world, last_configuration, first_halt, in_order}
use Rattle.spec_run.specs.Offers.{Offer, offers}
use Rattle.spec_run.specs.Halting.{OpeningIs}
use Rattle.spec_run.specs.Statements.{Simulates, HoldsThroughout, licensed, IsKept, OffersThroughout, HaltsRightly}
use Rattle.spec_run.specs.HaveEvents.{OffersAreComplete}
use Rattle.spec_text.specs.Refusals.{run_of}
use Rattle.spec_text.specs.declared.entry.Entry.{Entry}
use Rattle.spec_text.specs.PlayText.{Ending, whole, guessed, collided, report_text}
use Rattle.spec_text.specs.Played.{entries, live_outputs, ending}
use Rattle.spec_tool.specs.Commands.{Printed, contracts_from, setup_of, ending_status, play_answer}

-- the entry is the turn's
pub record IsEntryOf (e : Entry) (t : Turn) : Type 0 where
  pub event : e.event ≡ t.event
  pub outcome : e.outcome ≡ t.outcome
  pub steps : e.steps ≡ t.steps

-- there is an entry for each turn, in order
abbrev pub AreEntriesOf : List Entry → List Turn → Type 0
AreEntriesOf [] [] = Unit {0}
AreEntriesOf (e ∷ es) (t ∷ ts) = IsEntryOf e t × AreEntriesOf es ts
AreEntriesOf _ _ = ⊥

-- the printed tip, live outputs and configuration are those of the last world, to which the steps lead
pub record IsLastShown (s : Setup) (w : World) (steps : List Step) (tip : ℕ) (live : List (ℕ × ℕ)) (g : Configuration) : Type 0 where
  pub leads : after_steps (opening_configuration s) steps ≡ g
  pub agrees : Agree s g w
  pub height : tip ≡ w.tip
  pub outputs : live ≡ live_outputs w

-- the printed end is where the steps lead, and the run's halt where it has one
abbrev pub EndsRun : Setup → List Event → List Step → Ending → Type 0
EndsRun s es steps (whole tip live g offered) =
    (first_halt s es ≡ None) × IsLastShown s (last_world s es) steps tip live g × (offered ≡ map (λ o. o.event) (offers g))
EndsRun s es steps (guessed event party secret) = first_halt s es ≡ Some (event, Guessed party secret)
EndsRun s es steps (collided None earlier later) = opening_collision s ≡ Some (earlier, later)
EndsRun s es steps (collided (Some event) earlier later) = first_halt s es ≡ Some (event, Collided earlier later)

-- what is printed, entries and an end, is of the run
pub record IsShown (s : Setup) (es : List Event) (shown : List Entry) (end : Ending) : Type 0 where
  pub turns : AreEntriesOf shown (course s es).turns
  -- the printed steps in order are a legal run of the calculus from the opening
  pub legal : Legal (opening_configuration s) (in_order (map (λ e. e.steps) shown))
  pub ends : EndsRun s es (in_order (map (λ e. e.steps) shown)) end

-- what holds of a run whose opening strings don't collide: of all its events, or of those before the first halt
pub record IsFaithful (s : Setup) (es : List Event) : Type 0 where
  -- its steps are a legal run of the calculus, event by event, and configuration and world agree at the opening
  -- and after every event
  pub simulates : Simulates s es
  -- honest parties authorise only by their own events
  pub licensed : HoldsThroughout s (licensed s) es
  -- every enabled and authorised contract step at the end has a compiled transaction that the ledger accepts, and
  -- its event leads to the step
  pub offers : (offer : Offer) → Contains (offers (last_configuration s es)) offer
      → IsKept s (last_configuration s es) (last_world s es) offer
  -- and so it is at the opening and after every event; what is offered there is what the run offers that ends there
  pub offers_throughout : OffersThroughout s es
  -- all contract steps that may be taken are offered, in order and each beside its event, at the opening, after every event and at the end
  pub offers_complete : OffersAreComplete s es
  -- each event goes on where nothing halts it, and the run halts only where strings collide or a secret is given away
  pub halts : HaltsRightly s es
  -- and it is what is printed
  pub shown : IsShown s es (entries s es) (ending s es)

-- What `play` shows of a valid run file and well-formed contracts: the ledger's run of all events with a legal
-- run of the calculus beside it, or a collision or guessed secret at its end.
pub record Headline (hash : List ℕ → List ℕ) (run_file : List ℕ) (contract_files : List (List ℕ)) (printed : Printed) : Type 0 where
  pub run : Run
  pub contracts : List Advert
  -- the run file is valid, and the contract files are well-formed
  pub valid : run_of run_file ≡ Ok run
  pub well_formed : contracts_from 0 contract_files ≡ Ok contracts
  -- the bytes written are the text of the run's entries and of its end
  pub text : printed.text
      ≡ report_text run.header.deposits (entries (setup_of hash run contracts) run.events) (ending (setup_of hash run contracts) run.events)
  -- 0 at the end of all events, 7 after a guess, 8 after a collision
  pub status : printed.status ≡ ending_status (ending (setup_of hash run contracts) run.events)
  -- where the opening is said to collide it does
  pub opening : OpeningIs (setup_of hash run contracts) (opening_collision (setup_of hash run contracts))
  -- and then that is what is shown
  pub unopened : (pair : List ℕ × List ℕ) → opening_collision (setup_of hash run contracts) ≡ Some pair
      → ending (setup_of hash run contracts) run.events ≡ collided None (pair.0) (pair.1)
  -- what it shows is a faithful run, unless the opening collides
  pub faithful : opening_collision (setup_of hash run contracts) ≡ None → IsFaithful (setup_of hash run contracts) run.events

-- what `play` answers is its headline, for every hash of 32 bytes, run file and up to 16 contract files that aren't refused
abbrev pub HeadlineTheorem : Type 0
HeadlineTheorem = (hash : List ℕ → List ℕ) → HashesBytes hash
    → (run_file : List ℕ) (contract_files : List (List ℕ)) (run : Run) (contracts : List Advert)
    → run_of run_file ≡ Ok run → contracts_from 0 contract_files ≡ Ok contracts → length contract_files ≤ 16
    → Headline hash run_file contract_files (play_answer hash run_file contract_files)
