-- What is claimed of the printed lines that name a party: a contract waits for it exactly where a printed line names it for something that
-- it can do now, or says that it can do what an event lacks that isn't listed.
use Rattle.std.specs.Prelude.{◌≡◌, ◌↔◌, ◌⊎◌, ℕ, List, [], ◌∷◌, ◌++◌, map, flat_map, codes, true, false, Option, Some, None}
use Rattle.std.specs.List.{Contains}
use Rattle.spec_terms.specs.Advert.{Advert}
use Rattle.spec_terms.specs.Parties.{participants}
use Rattle.spec_calculus.specs.Configuration.{Configuration}
use Rattle.spec_calculus.specs.Beginning.{contract_at}
use Rattle.spec_run.specs.declared.event.Event.{Event}
use Rattle.spec_run.specs.declared.event.Event.TheVariants as events
use Rattle.spec_run.specs.Setup.{Setup}
use Rattle.spec_run.specs.World.{World}
use Rattle.spec_run.specs.Translation.{last_configuration, last_world}
use Rattle.spec_run.specs.Statements.{IsRun}
use Rattle.spec_text.specs.RunText.{newline, event_text}
use Rattle.spec_next.specs.declared.lead.Lead.{Lead}
use Rattle.spec_next.specs.declared.requirement.Requirement.{Requirement}
use Rattle.spec_next.specs.declared.outlook.Prospect.{Prospect}
use Rattle.spec_next.specs.declared.outlook.Outlook.{Outlook}
use Rattle.spec_next.specs.Leads.{lead_at}
use Rattle.spec_next.specs.Listed.{before, from_branches, is_asked, by_party, is_meant, of_party, listed_of}
use Rattle.spec_next.specs.OutlookText.{prospect_line, lead_line, waits_line, contract_line, outlook_text}
use Rattle.spec_next.specs.Prospects.{prospect, outlook}
use Rattle.spec_next.specs.Together.{once, joined_line}
use Rattle.theory_next.specs.Candidates.{GoesThrough}
use Rattle.theory_next.specs.Listed.{ComesLater}
use Rattle.theory_next.specs.Waits.{IsIts, IsGivenBy, GivenByEvent, GivenByHand}

-- ---- the lines of a contract

-- of all that is missing together
abbrev pub requirement_lines : List Requirement → List (List ℕ)
requirement_lines required = once (map (joined_line required) required)

-- of what a branch makes, if it is there
abbrev pub lead_lines : Option Lead → List (List ℕ)
lead_lines None = []
lead_lines (Some l) = lead_line l ∷ []

abbrev pub event_lines : Configuration → Event → List (List ℕ)
event_lines g (events.Fire n i) = lead_lines (lead_at g n i)
event_lines g _ = []

-- of the authorisation of a branch or the branch
abbrev pub branch_lines : Configuration → Prospect → List (List ℕ)
branch_lines g p = prospect_line p ∷ (event_lines g p.event ++ requirement_lines p.requirements)

-- what is missing for all events before the branches
abbrev pub all_missing : List Prospect → List Requirement
all_missing ps = flat_map (λ p. p.requirements) ps

-- of these events
abbrev pub prospects_lines : Configuration → List Prospect → List (List ℕ)
prospects_lines g ps =
    (map prospect_line (before ps) ++ requirement_lines (all_missing (before ps))) ++ flat_map (branch_lines g) (from_branches ps)

-- all lines of a contract, for all or for one party
abbrev pub printed_lines : Option (List ℕ) → Configuration → Outlook → List (List ℕ)
printed_lines asker g o =
    contract_line o.contract ∷ (prospects_lines g (listed_of asker o) ++ map waits_line (of_party asker o.waits))

-- the text of lines
abbrev pub in_lines : List (List ℕ) → List ℕ
in_lines lines = flat_map (λ line. line) lines

-- ---- which name a party

-- it stands in the line as a word
pub record NamesParty (line party : List ℕ) : Type 0 where
  pub front : List ℕ
  pub back : List ℕ
  pub is : line ≡ front ++ (codes " " ++ (party ++ (codes " " ++ back)))

-- of these what is missing is printed together: of all events before the branches, or of one behind them
abbrev pub IsTogether : Option (List ℕ) → Outlook → List Requirement → Type 0
IsTogether asker o all =
    (all ≡ all_missing (before (listed_of asker o)))
    ⊎ ((p : Prospect) × Contains (from_branches (listed_of asker o)) p × (all ≡ p.requirements))

-- a printed line of what is missing names the party for something that it can do now
pub record IsNamed (s : Setup) (g : Configuration) (w : World) (asker : Option (List ℕ)) (o : Outlook) (party : List ℕ) : Type 0 where
  pub all : List Requirement
  pub together : IsTogether asker o all
  pub requirement : Requirement
  pub there : Contains all requirement
  pub line : Contains (printed_lines asker g o) (joined_line all requirement)
  pub names : NamesParty (joined_line all requirement) party
  pub its : IsIts requirement party
  pub given : GivenByEvent s g w o requirement ⊎ GivenByHand s w requirement

-- a printed line says that the party's event can come, which gives what an event lacks that isn't printed: since another party asks, or
-- since it may come later than one that is
pub record IsOffered (s : Setup) (g : Configuration) (w : World) (asker : Option (List ℕ)) (o : Outlook) (party : List ℕ) : Type 0 where
  pub event : Event
  pub line : Contains (printed_lines asker g o) (codes "can " ++ (event_text event ++ newline))
  pub goes : GoesThrough s w event
  pub lacking : Prospect
  pub ahead : Contains o.prospects lacking
  pub left_out : (is_asked asker lacking ≡ false) ⊎ ComesLater (by_party asker o.prospects) lacking
  pub requirement : Requirement
  pub outstanding : Contains lacking.requirements requirement
  pub its : IsIts requirement party
  pub gives_it : IsGivenBy requirement event
  pub listed : Contains o.prospects (prospect s g w event)

-- ---- the claim

-- `waits A` may be printed: A takes part, and all are asked for or A is
pub record MayWait (asker : Option (List ℕ)) (advert : Advert) (party : List ℕ) : Type 0 where
  pub meant : is_meant asker party ≡ true
  pub participant : Contains (participants advert) party

-- each event of the contract is printed
pub record PrintsAll (asker : Option (List ℕ)) (o : Outlook) : Type 0 where
  pub asked : (p : Prospect) → Contains o.prospects p → is_asked asker p ≡ true
  pub none_later : (p : Prospect) → ComesLater (by_party asker o.prospects) p → ⊥

pub record WaitsByLines (s : Setup) (g : Configuration) (w : World) (asker : Option (List ℕ)) (k : ℕ) (advert : Advert) : Type 0 where
  -- the text of a contract is its lines
  pub text : outlook_text asker g (outlook s g w k advert) ≡ in_lines (printed_lines asker g (outlook s g w k advert))
  -- `waits A` exactly where a line names A for something that A can do now, or says that A can do what an event lacks that isn't printed
  pub waits : (party : List ℕ) → Contains (of_party asker (outlook s g w k advert).waits) party
      ↔ (MayWait asker advert party
      × (IsNamed s g w asker (outlook s g w k advert) party ⊎ IsOffered s g w asker (outlook s g w k advert) party))
  -- where each event is printed, exactly where a line of what is missing names A so
  pub plainly : PrintsAll asker (outlook s g w k advert)
      → (party : List ℕ) → Contains (of_party asker (outlook s g w k advert).waits) party
      ↔ (MayWait asker advert party × IsNamed s g w asker (outlook s g w k advert) party)

-- so it is of each contract after every run, whoever asks
abbrev pub WaitsAreNamed : Type 0
WaitsAreNamed =
    (s : Setup) (es : List Event) → IsRun s es → (asker : Option (List ℕ)) (k : ℕ) (advert : Advert)
    → contract_at (last_configuration s es).contracts k ≡ Some advert
    → WaitsByLines s (last_configuration s es) (last_world s es) asker k advert
