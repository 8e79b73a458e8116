-- What is claimed of what never comes: an event that lacks such says that alone, and where it is before the beginning, its contract shows
-- no other event before the beginning.
use Rattle.std.specs.Prelude.{◌≡◌, ◌↔◌, ◌⊎◌, ℕ, List, [], ◌++◌, true, false, codes}
use Rattle.std.specs.List.{Contains}
use Rattle.spec_terms.specs.Advert.{Advert}
use Rattle.spec_calculus.specs.Configuration.{Configuration}
use Rattle.spec_run.specs.declared.event.Event.{Event}
use Rattle.spec_run.specs.declared.outcome.Reason.{Reason}
use Rattle.spec_run.specs.Setup.{Setup}
use Rattle.spec_run.specs.World.{World}
use Rattle.spec_text.specs.RunText.{newline, event_text}
use Rattle.spec_next.specs.declared.requirement.Requirement.{Requirement}
use Rattle.spec_next.specs.declared.outlook.Ruling.TheVariants as rulings
use Rattle.spec_next.specs.declared.outlook.Prospect.{Prospect}
use Rattle.spec_run.specs.declared.event.Event.TheVariants as events
use Rattle.spec_next.specs.Candidates.{candidates}
use Rattle.spec_next.specs.OutlookText.{prospect_line}
use Rattle.spec_next.specs.Prospects.{ruling, lasting, is_never, is_refused, is_lost, goes_on, is_over, useful, outstanding, prospect, prospects_of, outlook}
use Rattle.theory_next.specs.Ahead.{IsAhead}

-- ---- what is said of an event

-- all that an event with this refusal lacks: what stays so of the refusal, and its conditions that fail and that no signature by hand meets
abbrev pub all_lacking : Setup → Configuration → World → Event → Reason → List Requirement
all_lacking s g w e reason = lasting reason ++ outstanding s g w e

pub record SaysWhatLacks (s : Setup) (g : Configuration) (w : World) (e : Event) : Type 0 where
  -- nothing, where it isn't refused
  pub nothing : is_refused (ruling s w e) ≡ false → (prospect s g w e).requirements ≡ []
  -- all that it lacks, where each may come
  pub all : (reason : Reason) → ruling s w e ≡ rulings.Cannot reason
      → ((x : Requirement) → Contains (all_lacking s g w e reason) x → is_never x ≡ false)
      → (prospect s g w e).requirements ≡ all_lacking s g w e reason
  -- where some never comes, exactly what never comes
  pub never : (reason : Reason) → ruling s w e ≡ rulings.Cannot reason → (y : Requirement) → Contains (all_lacking s g w e reason) y → is_never y ≡ true
      → (x : Requirement) → Contains (prospect s g w e).requirements x ↔ (Contains (all_lacking s g w e reason) x × (is_never x ≡ true))
  -- and its line begins with `can ` exactly where it can come
  pub can : ruling s w e ≡ rulings.Can → prospect_line (prospect s g w e) ≡ codes "can " ++ (event_text e ++ newline)
  pub printed : (rest : List ℕ) → prospect_line (prospect s g w e) ≡ codes "can " ++ rest → ruling s w e ≡ rulings.Can

-- ---- what is shown of a contract

-- what it would show if all may come
abbrev pub all_ahead : Setup → Configuration → World → ℕ → Advert → List Prospect
all_ahead s g w k advert = useful (is_over g w k) (prospects_of s g w (candidates s g w k advert))

-- one of these that goes before the beginning never comes
pub record NeverBegins (ps : List Prospect) : Type 0 where
  pub lost : Prospect
  pub there : Contains ps lost
  pub is_lost : is_lost lost ≡ true
  pub before : goes_on lost.event lost.ruling ≡ false

pub record ShowsWhatComes (s : Setup) (g : Configuration) (w : World) (k : ℕ) (advert : Advert) : Type 0 where
  -- all, where the contract may begin
  pub all : (NeverBegins (all_ahead s g w k advert) → ⊥) → (outlook s g w k advert).prospects ≡ all_ahead s g w k advert
  -- where it never does, exactly the events that never come, and those by which a contract goes on that has begun or begins
  pub never : NeverBegins (all_ahead s g w k advert) → (p : Prospect) → Contains (outlook s g w k advert).prospects p
      ↔ (Contains (all_ahead s g w k advert) p × ((is_lost p ≡ true) ⊎ (goes_on p.event p.ruling ≡ true)))
  -- of one that is over, nothing but a beginning that isn't refused
  pub over : is_over g w k ≡ true → (p : Prospect) → Contains (outlook s g w k advert).prospects p
      → (p.event ≡ events.FireInit k) × (is_refused p.ruling ≡ false)
  -- and of one that isn't, all that is ahead
  pub going : is_over g w k ≡ false → all_ahead s g w k advert ≡ prospects_of s g w (candidates s g w k advert)
  -- what is ahead is each candidate that isn't both refused and behind the contract
  pub ahead : (p : Prospect) → Contains (prospects_of s g w (candidates s g w k advert)) p ↔ IsAhead s g w (candidates s g w k advert) p

-- of every event and contract in any world
pub record NeverIsSaid : Type 0 where
  pub events : (s : Setup) (g : Configuration) (w : World) (e : Event) → SaysWhatLacks s g w e
  pub contracts : (s : Setup) (g : Configuration) (w : World) (k : ℕ) (advert : Advert) → ShowsWhatComes s g w k advert
