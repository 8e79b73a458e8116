-- What calls that ask what would come leave.
use Rattle.std.specs.Prelude.{◌≡◌, ℕ, List, [], ◌∷◌, ◌++◌, None}
use Rattle.std.specs.List.{AllByRecursion}
use Rattle.spec_data.specs.Messages.{noted_all}
use Rattle.spec_terms.specs.Advert.{Advert}
use Rattle.spec_calculus.specs.Configuration.{Configuration}
use Rattle.spec_run.specs.declared.event.Event.{Event}
use Rattle.spec_run.specs.Conditions.{IsEvent}
use Rattle.spec_run.specs.Event.{pending}
use Rattle.spec_next.specs.declared.outlook.Prospect.{Prospect}
use Rattle.spec_next.specs.declared.outlook.Outlook.{Outlook}
use Rattle.spec_next.specs.Candidates.{candidates, candidates_from, all_candidates}
use Rattle.spec_next.specs.Prospects.{outlooks}
use Rattle.spec_next.specs.Foreseen.{foreseen_strings, foreseen_collision}
use Rattle.bm_world.specs.Playing.{Played, setup_in}
use Rattle.bm_world_heard.specs.Heard.{Hears, Calm, Reaches}
use Rattle.next_outlook.specs.Foretold.{foretold, all_foretold, foretold_outlook, foretold_outlooks}

-- what this event would come to was asked, and was told
pub record SeesOne {H : Type 0} (digest : H → List ℕ → List ℕ) (old new : Played H) (g : Configuration) (e : Event)
    (before later : List Prospect) : Type 0 where
  pub calm : Calm digest old new (pending (setup_in digest old) old.world e).hashes
  pub told : later ≡ before ++ foretold (setup_in digest old) g old.world e

-- the same of these events
pub record Sees {H : Type 0} (digest : H → List ℕ → List ℕ) (old new : Played H) (g : Configuration) (es : List Event)
    (prospects : List Prospect) : Type 0 where
  pub calm : Calm digest old new (foreseen_strings (setup_in digest old) old.world es)
  pub told : prospects ≡ all_foretold (setup_in digest old) g old.world es

-- of the candidates of contract k
pub record SeesContract {H : Type 0} (digest : H → List ℕ → List ℕ) (old new : Played H) (g : Configuration) (k : ℕ) (advert : Advert)
    (outlook : Outlook) : Type 0 where
  pub calm : Calm digest old new (foreseen_strings (setup_in digest old) old.world (candidates (setup_in digest old) g old.world k advert))
  pub told : outlook ≡ foretold_outlook (setup_in digest old) g old.world k advert

-- and what is told was added
pub record AddsContract {H : Type 0} (digest : H → List ℕ → List ℕ) (old new : Played H) (g : Configuration) (k : ℕ) (advert : Advert)
    (before later : List Outlook) : Type 0 where
  pub calm : Calm digest old new (foreseen_strings (setup_in digest old) old.world (candidates (setup_in digest old) g old.world k advert))
  pub told : later ≡ before ++ foretold_outlook (setup_in digest old) g old.world k advert ∷ []

-- of all these contracts
pub record SeesContracts {H : Type 0} (digest : H → List ℕ → List ℕ) (old new : Played H) (g : Configuration) (all : List Advert)
    (outlooks : List Outlook) : Type 0 where
  pub calm : Calm digest old new
      (foreseen_strings (setup_in digest old) old.world (candidates_from (setup_in digest old) g old.world 0 all))
  pub told : outlooks ≡ foretold_outlooks (setup_in digest old) g old.world 0 all

-- ---- underway

-- some of all these events were asked, and these are left
pub record Midway {H : Type 0} (digest : H → List ℕ → List ℕ) (old now : Played H) (g : Configuration) (rest all : List Event)
    (prospects : List Prospect) : Type 0 where
  pub reach : Reaches digest old now (foreseen_strings (setup_in digest old) old.world rest)
      (foreseen_strings (setup_in digest old) old.world all)
  pub told : prospects ++ all_foretold (setup_in digest old) g old.world rest ≡ all_foretold (setup_in digest old) g old.world all
  pub are : AllByRecursion (IsEvent (setup_in digest old)) rest

-- the same of contracts, of which those from number k on are left
pub record MidwayContracts {H : Type 0} (digest : H → List ℕ → List ℕ) (old now : Played H) (g : Configuration) (k : ℕ)
    (rest all : List Advert) (outlooks : List Outlook) : Type 0 where
  pub reach : Reaches digest old now
      (foreseen_strings (setup_in digest old) old.world (candidates_from (setup_in digest old) g old.world k rest))
      (foreseen_strings (setup_in digest old) old.world (candidates_from (setup_in digest old) g old.world 0 all))
  pub told : outlooks ++ foretold_outlooks (setup_in digest old) g old.world k rest ≡ foretold_outlooks (setup_in digest old) g old.world 0 all

-- ---- the whole call

-- in a run that goes on exactly this was told; the strings of the candidates were hashed and no others, and nothing collided
pub record Looked {H : Type 0} (digest : H → List ℕ → List ℕ) (old new : Played H) (g : Configuration) (told : List Outlook) : Type 0 where
  pub going : old.halt ≡ None
  pub hears : Hears old new (noted_all old.world.hashed
      (foreseen_strings (setup_in digest old) old.world (all_candidates (setup_in digest old) g old.world)))
  pub calm : foreseen_collision (setup_in digest old) g old.world ≡ None
  pub outlooks : told ≡ outlooks (setup_in digest old) g old.world
