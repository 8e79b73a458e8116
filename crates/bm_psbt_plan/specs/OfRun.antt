-- What the contract of a run is compiled to.
use Rattle.std.specs.Prelude.{◌≡◌, ℕ, List, Option, Some}
use Rattle.std.specs.Option.{option_map}
use Rattle.spec_terms.specs.Advert.{Advert}
use Rattle.spec_run.specs.declared.event.Event.{Event}
use Rattle.spec_run.specs.Setup.{Setup, contract_at}
use Rattle.spec_run.specs.Compiled.{compiled_instance}
use Rattle.spec_run.specs.Statements.{IsRun}
use Rattle.spec_run.specs.Translation.{last_world}
use Rattle.bm_compile.specs.Numbered.{Numbered, numbered}

-- there is a run by this hash whose first contract is this one, and it is compiled so at the end, if it is compiled there
pub record IsOfRun (hash : List ℕ → List ℕ) (advert : Advert) (compiled : Option Numbered) : Type 0 where
  pub setup : Setup
  pub events : List Event
  pub run : IsRun setup events
  pub hash_is : setup.hash ≡ hash
  pub contract_is : contract_at setup 0 ≡ Some advert
  pub compiled_is : compiled ≡ option_map (numbered hash) (compiled_instance setup (last_world setup events) 0)
