-- What is claimed of the events that are listed of a contract: nothing is left out but what may come later than another that is listed.
use Rattle.std.specs.Prelude.{◌≡◌, ◌⊎◌, ℕ, ◌<◌, List, true, Option, Some}
use Rattle.std.specs.List.{Contains}
use Rattle.spec_next.specs.declared.outlook.Prospect.{Prospect}
use Rattle.spec_next.specs.declared.outlook.Outlook.{Outlook}
use Rattle.spec_next.specs.Listed.{phase, is_later, listed, is_asked, by_party, listed_of}

-- the event is refused and may come yet, and another that is so, and of an earlier phase, is listed of these
pub record ComesLater (ps : List Prospect) (p : Prospect) : Type 0 where
  pub later : is_later p ≡ true
  pub of_phase : ℕ
  pub is_of : phase p.event ≡ Some of_phase
  pub sooner : Prospect
  pub there : Contains (listed ps) sooner
  pub may_come : is_later sooner ≡ true
  pub sooner_phase : ℕ
  pub is_sooner : phase sooner.event ≡ Some sooner_phase
  pub before : sooner_phase < of_phase

pub record ListsAll (party : Option (List ℕ)) (o : Outlook) : Type 0 where
  -- nothing is added: each is ahead of the contract and, if one party asks, its own, one that anybody can bring, or one that never comes
  pub own : (p : Prospect) → Contains (listed_of party o) p → Contains o.prospects p × (is_asked party p ≡ true)
  -- nothing is left out; so all that can come, would halt or never comes is listed
  pub all : (p : Prospect) → Contains o.prospects p → is_asked party p ≡ true
      → Contains (listed_of party o) p ⊎ ComesLater (by_party party o.prospects) p

-- of every contract
abbrev pub NothingIsLeftOut : Type 0
NothingIsLeftOut = (party : Option (List ℕ)) (o : Outlook) → ListsAll party o
