-- The configuration: all that the calculus knows at a moment.
use Rattle.std.specs.Prelude.{ℕ, List}
use Rattle.spec_terms.specs.Advert.{Advert}
use Rattle.spec_calculus.specs.declared.parts.Deposit.{Deposit}
use Rattle.spec_calculus.specs.declared.parts.ActiveContract.{ActiveContract}
use Rattle.spec_calculus.specs.declared.parts.Advertised.{Advertised}
use Rattle.spec_calculus.specs.declared.parts.Committed.{Committed}
use Rattle.spec_calculus.specs.declared.parts.Revealed.{Revealed}
use Rattle.spec_calculus.specs.declared.parts.InitAuthorisation.{InitAuthorisation}
use Rattle.spec_calculus.specs.declared.parts.BranchAuthorisation.{BranchAuthorisation}
use Rattle.spec_calculus.specs.declared.parts.MoveAuthorisation.{MoveAuthorisation}

pub record Configuration : Type 0 where
  -- the height, in blocks
  pub time : ℕ
  -- the number that the next deposit or contract is named by
  pub next : ℕ
  -- the live deposits, in the order of their numbers
  pub deposits : List Deposit
  -- the active contracts, in the order of their numbers
  pub active : List ActiveContract
  -- what follows stands in the order in which it came
  pub advertised : List Advertised
  pub committed : List Committed
  pub revealed : List Revealed
  pub init_authorised : List InitAuthorisation
  pub branch_authorised : List BranchAuthorisation
  pub move_authorised : List MoveAuthorisation
  -- what follows never changes: who is declared, who of them is honest, and the contracts by their place
  pub parties : List (List ℕ)
  pub honest : List (List ℕ)
  pub contracts : List Advert
