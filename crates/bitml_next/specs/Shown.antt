-- What is known of that which the program says of a run, and of the first lines of one.
use Rattle.std.specs.Prelude.{◌≡◌, ◌↔◌, ℕ, ◌≤◌, List, [], ◌∷◌, length, map, Option, Some, None, Ok}
use Rattle.std.specs.List.{Contains}
use Rattle.spec_data.specs.Digits.{hex_text}
use Rattle.spec_data.specs.Ranges.{most_contracts}
use Rattle.spec_terms.specs.Advert.{Advert}
use Rattle.spec_terms.specs.Term.{Guarded}
use Rattle.spec_calculus.specs.declared.parts.ActiveContract.{ActiveContract}
use Rattle.spec_calculus.specs.Beginning.{contract_at}
use Rattle.spec_calculus.specs.Branches.{active_at}
use Rattle.spec_calculus.specs.Steps.{branch_at}
use Rattle.spec_run.specs.declared.event.Event.{Event}
use Rattle.spec_run.specs.declared.event.Run.{Run}
use Rattle.spec_run.specs.Event.{opening_collision}
use Rattle.spec_run.specs.Offers.{Offer, offers}
use Rattle.spec_run.specs.Setup.{Setup}
use Rattle.spec_run.specs.Statements.{IsRun}
use Rattle.spec_run.specs.Translation.{last_configuration, last_world}
use Rattle.spec_text.specs.Refusals.{contract_of, run_of}
use Rattle.spec_text.specs.RunText.{run_text}
use Rattle.spec_tool.specs.Reads.{Read, Text, texts_read}
use Rattle.spec_tool.specs.Commands.{Printed, contracts_from, setup_of}
use Rattle.spec_next.specs.declared.form.Form.{Form}
use Rattle.spec_next.specs.declared.form.Form.TheVariants as forms
use Rattle.spec_next.specs.declared.outlook.Outlook.{Outlook}
use Rattle.spec_next.specs.Candidates.{candidates, all_candidates}
use Rattle.spec_next.specs.FirstLines.{begin_text, first_lines, first_run, first_events}
use Rattle.spec_next.specs.NextAnswer.{NextCommand, form_of, party_of}
use Rattle.spec_next.specs.Forms.{next_text}
use Rattle.spec_next.specs.Prospects.{outlooks}
use Rattle.theory_next.specs.Asked.{RulingIsMeant, IsAsked}
use Rattle.theory_next.specs.ByHand.{HandsBring}
use Rattle.theory_next.specs.Candidates.{IsSaid}
use Rattle.theory_next.specs.FirstEvents.{AreLong, GoesThroughOrHalts}
use Rattle.theory_next.specs.FirstRun.{first_setup, HasRoom, AreSecrets}
use Rattle.theory_next.specs.Hands.{HandsCount}
use Rattle.theory_next.specs.Lasting.{RefusalsLast}
use Rattle.theory_next.specs.Leads.{LeadIsMeant}
use Rattle.theory_next.specs.Listed.{ListsAll}
use Rattle.theory_next.specs.MetAlone.{MetAlone}
use Rattle.theory_next.specs.MetShown.{MetShown}
use Rattle.theory_next.specs.Named.{WaitsByLines}
use Rattle.theory_next.specs.Never.{SaysWhatLacks, ShowsWhatComes}
use Rattle.theory_next.specs.Once.{EachOnce}
use Rattle.theory_next.specs.Others.{OthersCome}
use Rattle.theory_next.specs.Ready.{ReadyComes}
use Rattle.theory_next.specs.Together.{LinesNameAll}
use Rattle.theory_next.specs.Waits.{WaitsForThose}
use Rattle.theory_next.specs.Requirements.{RequirementsAreExact}
use Rattle.theory_next_text.specs.Sayable.{IsSayable}
use Rattle.theory_next_text.specs.Statements.{IsReadAs}
use Rattle.bitml_next.specs.Files.{SaysRefusals}

-- ---- after a run

-- what is said of these events after they are played
pub record SaysOfRun (form : Form) (party : Option (List ℕ)) (s : Setup) (es : List Event) (text : List ℕ) : Type 0 where
  -- it is the text of what may come next in this form, for all or for this party
  pub told : text ≡ next_text form party s es
  -- an event can come exactly where it is done or accepted, and halts nothing; it can't, with a reason, exactly where it is refused for that;
  -- and halts exactly where it halts the run
  pub meant : (e : Event) → RulingIsMeant s (last_world s es) e
  -- of each contract exactly the events of these kinds are asked, for each party, secret, live output and branch
  pub asked : (k : ℕ) (advert : Advert) (e : Event)
      → Contains (candidates s (last_configuration s es) (last_world s es) k advert) e
      ↔ IsAsked s (last_configuration s es) (last_world s es) k advert e
  -- everything that the calculus offers is said to come, unless it halts the run
  pub offered : (offer : Offer) → Contains (offers (last_configuration s es)) offer
      → IsSaid s (last_configuration s es) (last_world s es) offer.event
  -- no event is asked twice
  pub once : EachOnce (all_candidates s (last_configuration s es) (last_world s es))
  -- what is missing is exactly what fails
  pub outstanding : (e : Event) → RequirementsAreExact s (last_configuration s es) (last_world s es) e
  -- it is said, or of what never comes that alone
  pub said : (e : Event) → SaysWhatLacks s (last_configuration s es) (last_world s es) e
  -- what a signature by hand gives isn't said to be missing
  pub hands : HandsCount s (last_configuration s es) (last_world s es)
  -- refusals that are said to stay so do, but for a repeated digest, of which this says nothing
  pub lasting : RefusalsLast
  -- which of a contract's events are ahead
  pub shown : (k : ℕ) (advert : Advert) → ShowsWhatComes s (last_configuration s es) (last_world s es) k advert
  -- all of these are listed, but for what may come later than another that is
  pub listed : (o : Outlook) → ListsAll party o
  -- a line of what several parties lack names exactly those
  pub together : LinesNameAll
  -- the lines are read as exactly this, in order, by those whom the run declares: each event with what it would come to, what its branch
  -- makes, what is missing, each once, and who is waited for; if names and numbers are such as a line may have
  pub read : form ≡ forms.Lines
      → IsSayable s.header.parties (last_configuration s es) (outlooks s (last_configuration s es) (last_world s es))
      → IsReadAs s.header.parties party (last_configuration s es) (outlooks s (last_configuration s es) (last_world s es)) text
  -- a branch is said to pay, or to lead to, what its step makes in the calculus
  pub leads : (n i : ℕ) (a : ActiveContract) (b : Guarded) → active_at (last_configuration s es).active n ≡ Some a
      → branch_at (last_configuration s es) n i ≡ Some b → LeadIsMeant (last_configuration s es) n i a b
  -- a contract waits exactly for those who can give now something that is missing
  pub waits : (k : ℕ) (advert : Advert) → contract_at (last_configuration s es).contracts k ≡ Some advert
      → WaitsForThose s (last_configuration s es) (last_world s es) k advert
  -- and `waits A` is printed exactly where a printed line names A for something that A can do now, or says that A can do what an event lacks
  -- that isn't printed
  pub named : (k : ℕ) (advert : Advert) → contract_at (last_configuration s es).contracts k ≡ Some advert
      → WaitsByLines s (last_configuration s es) (last_world s es) party k advert
  -- where nothing is missing, a contract begins and a branch is taken
  pub ready : ReadyComes s es
  -- and exactly where nothing is said to be missing, whatever was signed by hand
  pub by_hand : HandsBring s es
  -- and what else nothing is said to be missing for can come, unless it halts the run
  pub others : OthersCome s es
  -- where an authorisation or a height alone is missing for a branch and is met, the branch can come
  pub alone : MetAlone s es
  -- and where a secret alone is said to be missing and is shown, the branch can come, or lacks its predicate alone
  pub shown_alone : MetShown s es

-- ---- the first lines

pub record BeginsARun (hash : List ℕ → List ℕ) (advert : Advert) (text : List ℕ) : Type 0 where
  pub told : text ≡ begin_text advert
  -- with the bytes of the secrets filled in, the lines are the text of the run that begins the contract
  pub filled : (strings : List (List ℕ)) → first_lines advert (map hex_text strings) ≡ run_text (first_run advert strings)
  -- which is a run of which the theorems on runs speak, whatever the secrets are, if they differ
  pub runs : (strings : List (List ℕ)) → HasRoom advert → AreSecrets advert strings → opening_collision (first_setup hash advert strings) ≡ None
      → IsRun (first_setup hash advert strings) (first_events advert)
  -- and if the secrets have the size of secrets, each of its events is done or accepted, unless it halts as such a run may
  pub goes : (strings : List (List ℕ)) → HasRoom advert → AreSecrets advert strings → AreLong strings
      → opening_collision (first_setup hash advert strings) ≡ None
      → GoesThroughOrHalts (first_setup hash advert strings) (first_events advert)

-- ---- files

-- a run and contracts are taken, and nothing halts
abbrev pub ShowsRun : (List ℕ → List ℕ) → Form → Option (List ℕ) → List Text → Printed → Type 0
ShowsRun hash form party texts printed =
    (run_file contract_file : List ℕ) (contract_files : List (List ℕ)) (run : Run) (contracts : List Advert)
    → texts ≡ Some run_file ∷ Some contract_file ∷ map Some contract_files → length (contract_file ∷ contract_files) ≤ most_contracts
    → run_of run_file ≡ Ok run → contracts_from 0 (contract_file ∷ contract_files) ≡ Ok contracts → printed.status ≡ 0
    → SaysOfRun form party (setup_of hash run contracts) run.events printed.text

-- a contract is taken
abbrev pub ShowsContract : (List ℕ → List ℕ) → List Text → Printed → Type 0
ShowsContract hash texts printed =
    (contract_file : List ℕ) (advert : Advert) → texts ≡ Some contract_file ∷ [] → contract_of contract_file ≡ Ok advert
    → BeginsARun hash advert printed.text

abbrev pub ShowsTexts : (List ℕ → List ℕ) → Form → Option (List ℕ) → Option (List Text) → Printed → Type 0
ShowsTexts hash form party None printed = Unit {0}
ShowsTexts hash form party (Some texts) printed =
    ShowsRun hash form party texts printed × ShowsContract hash texts printed × SaysRefusals texts printed

abbrev pub Shows : (List ℕ → List ℕ) → Option NextCommand → List Read → Printed → Type 0
Shows hash None reads printed = Unit {0}
Shows hash (Some command) reads printed = ShowsTexts hash (form_of command) (party_of command) (texts_read reads) printed
