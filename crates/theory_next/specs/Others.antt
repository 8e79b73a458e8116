-- What is claimed of advertisements, commitments, endorsements, signatures of initial transactions, reveals and authorisations: those for which nothing is said
-- to be missing can come, unless they halt the run.
use Rattle.std.specs.Prelude.{◌≡◌, ℕ, List, [], true, None, Some}
use Rattle.std.specs.List.{Contains}
use Rattle.spec_data.specs.Lists.{is_among}
use Rattle.spec_terms.specs.Advert.{Advert}
use Rattle.spec_terms.specs.Core.{asks}
use Rattle.spec_terms.specs.Parties.{participants}
use Rattle.spec_terms.specs.Precondition.{secrets}
use Rattle.spec_terms.specs.Term as term
use Rattle.spec_calculus.specs.Beginning.{contract_at}
use Rattle.spec_calculus.specs.Steps.{branch_at}
use Rattle.spec_run.specs.declared.event.Event.{Event}
use Rattle.spec_run.specs.declared.event.Event.TheVariants as events
use Rattle.spec_run.specs.Setup.{Setup, is_declared, is_honest}
use Rattle.spec_run.specs.Translation.{last_configuration, last_world, first_halt}
use Rattle.spec_run.specs.Statements.{IsRun}
use Rattle.spec_next.specs.Candidates.{advertising}
use Rattle.spec_next.specs.declared.requirement.Requirement.TheVariants as requirements
use Rattle.spec_next.specs.Prospects.{is_ahead, prospect}
use Rattle.spec_next.specs.Requirements.{requirements_of}
use Rattle.theory_next.specs.Ready.{CanUnlessHalts}

-- nothing is said to be missing for the event
abbrev pub NothingSaid : Setup → List Event → Event → Type 0
NothingSaid s es e = (prospect s (last_configuration s es) (last_world s es) e).requirements ≡ []

-- it can come after the run, unless it halts that
abbrev pub ComesAfter : Setup → List Event → Event → Type 0
ComesAfter s es e = CanUnlessHalts s (last_world s es) e

-- this is the contract's number
abbrev pub IsNumberOf : Setup → List Event → ℕ → Advert → Type 0
IsNumberOf s es k advert = contract_at (last_configuration s es).contracts k ≡ Some advert

pub record OthersCome (s : Setup) (es : List Event) : Type 0 where
  -- a contract that isn't advertised can be, with the deposits that fit
  pub advertisements : (k : ℕ) (advert : Advert) → IsNumberOf s es k advert
      → is_ahead s (last_world s es) (advertising (last_configuration s es) k advert) ≡ true
      → NothingSaid s es (advertising (last_configuration s es) k advert)
      → ComesAfter s es (advertising (last_configuration s es) k advert)
  -- a participant that hasn't committed can, without digests
  pub commitments : (k : ℕ) (advert : Advert) (party : List ℕ) → IsNumberOf s es k advert → Contains (participants advert) party
      → is_ahead s (last_world s es) (events.Commit k party []) ≡ true → NothingSaid s es (events.Commit k party [])
      → ComesAfter s es (events.Commit k party [])
  -- each participant can endorse the contract, and sign its initial transaction
  pub endorsements : (k : ℕ) (advert : Advert) (party : List ℕ) → IsNumberOf s es k advert → Contains (participants advert) party
      → NothingSaid s es (events.Endorse k party) → ComesAfter s es (events.Endorse k party)
  pub inits : (k : ℕ) (advert : Advert) (party : List ℕ) → IsNumberOf s es k advert → Contains (participants advert) party
      → NothingSaid s es (events.Init k party) → ComesAfter s es (events.Init k party)
  -- an honest party can reveal each of its secrets that isn't posted
  pub reveals : (k : ℕ) (advert : Advert) (party secret : List ℕ) → IsNumberOf s es k advert
      → Contains (secrets advert.pre) (secret, party) → is_honest s party ≡ true
      → is_ahead s (last_world s es) (events.Reveal k party secret) ≡ true → NothingSaid s es (events.Reveal k party secret)
      → ComesAfter s es (events.Reveal k party secret)
  -- so each secret of an honest party that is missing for a branch is shown by its reveal, which can come
  pub shown : (n i : ℕ) (party : List ℕ) (k : ℕ) (secret : List ℕ)
      → Contains (requirements_of s (last_configuration s es) (last_world s es) (events.Fire n i)) (requirements.Secret party k secret)
      → ComesAfter s es (events.Reveal k party secret)
  -- whoever is declared and asked can authorise a branch, for which nothing is ever missing
  pub authorisations : (party : List ℕ) (n i : ℕ) (b : term.Guarded) → is_declared s party ≡ true
      → branch_at (last_configuration s es) n i ≡ Some b → is_among party (asks b) ≡ true
      → ComesAfter s es (events.Authorise party n i)

-- after every run that doesn't halt
abbrev pub OthersComeTheorem : Type 0
OthersComeTheorem = (s : Setup) (es : List Event) → IsRun s es → first_halt s es ≡ None → OthersCome s es
