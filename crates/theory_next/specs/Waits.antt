-- What is claimed of the parties on whom a contract waits: they are exactly those who can give now something that is missing.
use Rattle.std.specs.Prelude.{◌≡◌, ◌↔◌, ◌⊎◌, ℕ, List, true, Some, None}
use Rattle.std.specs.List.{Contains}
use Rattle.spec_terms.specs.Advert.{Advert}
use Rattle.spec_terms.specs.Parties.{participants}
use Rattle.spec_calculus.specs.Configuration.{Configuration}
use Rattle.spec_calculus.specs.Beginning.{contract_at}
use Rattle.spec_run.specs.declared.event.Event.{Event}
use Rattle.spec_run.specs.declared.event.Event.TheVariants as events
use Rattle.spec_run.specs.Setup.{Setup}
use Rattle.spec_run.specs.World.{World, is_advertised}
use Rattle.spec_run.specs.Committing.{names_fit, repeated_digest}
use Rattle.spec_run.specs.Translation.{last_configuration, last_world}
use Rattle.spec_run.specs.Statements.{IsRun}
use Rattle.spec_next.specs.declared.requirement.Requirement.{Requirement}
use Rattle.spec_next.specs.declared.requirement.Requirement.TheVariants as requirements
use Rattle.spec_next.specs.declared.outlook.Prospect.{Prospect}
use Rattle.spec_next.specs.declared.outlook.Outlook.{Outlook}
use Rattle.spec_next.specs.Prospects.{prospect, outlook}
use Rattle.theory_next.specs.Candidates.{GoesThrough}
use Rattle.theory_next.specs.Ready.{CanUnlessHalts}

-- ---- what can be given now

-- the event that gives it, if it is one that is listed
abbrev pub IsGivenBy : Requirement → Event → Type 0
IsGivenBy (requirements.Commitment party k) e = (digests : List (List ℕ × List ℕ)) × (e ≡ events.Commit k party digests)
IsGivenBy (requirements.Endorsement party k) e = e ≡ events.Endorse k party
IsGivenBy (requirements.Start party k) e = e ≡ events.Init k party
IsGivenBy (requirements.Authorisation party n i) e = e ≡ events.Authorise party n i
IsGivenBy (requirements.Secret party k secret) e = e ≡ events.Reveal k party secret
IsGivenBy _ e = ⊥

-- it is listed, and goes through
pub record GivenByEvent (s : Setup) (g : Configuration) (w : World) (o : Outlook) (requirement : Requirement) : Type 0 where
  pub event : Event
  pub gives_it : IsGivenBy requirement event
  pub listed : Contains o.prospects (prospect s g w event)
  pub goes : GoesThrough s w event

-- the contract is advertised, and whatever digests the party commits to it, if they have the right names and none was committed before or
-- stands twice, the commitment comes, unless it halts the run
pub record Commits (s : Setup) (w : World) (k : ℕ) (party : List ℕ) : Type 0 where
  pub advertised : is_advertised w k ≡ true
  pub taken : (digests : List (List ℕ × List ℕ)) → names_fit s k party digests ≡ true → repeated_digest s w k party digests ≡ None
      → CanUnlessHalts s w (events.Commit k party digests)

-- an event gives it that isn't listed, since its digests or its string are the party's to choose
abbrev pub GivenByHand : Setup → World → Requirement → Type 0
GivenByHand s w (requirements.Digest party k secret) = Commits s w k party
GivenByHand s w (requirements.Posted party secret) = (bytes : List ℕ) → CanUnlessHalts s w (events.Post bytes)
GivenByHand s w _ = ⊥

-- it is for this party to give: by its own event, or its own digest or string
abbrev pub IsIts : Requirement → List ℕ → Type 0
IsIts (requirements.Digest party k secret) who = party ≡ who
IsIts (requirements.Commitment party k) who = party ≡ who
IsIts (requirements.Endorsement party k) who = party ≡ who
IsIts (requirements.Start party k) who = party ≡ who
IsIts (requirements.Authorisation party n i) who = party ≡ who
IsIts (requirements.Secret party k secret) who = party ≡ who
IsIts (requirements.Posted party secret) who = party ≡ who
IsIts _ who = ⊥

-- the party can give what is missing for one of these events
pub record CanGive (s : Setup) (g : Configuration) (w : World) (o : Outlook) (party : List ℕ) : Type 0 where
  pub lacking : Prospect
  pub shown : Contains o.prospects lacking
  pub requirement : Requirement
  pub outstanding : Contains lacking.requirements requirement
  pub its : IsIts requirement party
  pub given : GivenByEvent s g w o requirement ⊎ GivenByHand s w requirement

-- ---- the claim

-- a contract waits exactly for those of its participants who can give something
pub record WaitsForThose (s : Setup) (g : Configuration) (w : World) (k : ℕ) (advert : Advert) : Type 0 where
  pub waits : (party : List ℕ) → Contains (outlook s g w k advert).waits party
      ↔ (Contains (participants advert) party × CanGive s g w (outlook s g w k advert) party)

-- so it is of each contract after every run
abbrev pub WaitsAreMeant : Type 0
WaitsAreMeant =
    (s : Setup) (es : List Event) → IsRun s es → (k : ℕ) (advert : Advert)
    → contract_at (last_configuration s es).contracts k ≡ Some advert
    → WaitsForThose s (last_configuration s es) (last_world s es) k advert
