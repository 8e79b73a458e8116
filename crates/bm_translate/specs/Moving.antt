-- The move of a transaction, by the accounts of the parties and the deposits that are live.
use Rattle.std.specs.Prelude.{ℕ, List, [], ◌∷◌, ◌++◌, map, if◌then◌else◌}
use Rattle.spec_data.specs.Lists.{is_among}
use Rattle.spec_calculus.specs.declared.parts.Deposit.{Deposit}
use Rattle.spec_calculus.specs.declared.step.Owner.{Owner}
use Rattle.spec_calculus.specs.declared.step.Owner.TheVariants.{Party, Outside}
use Rattle.spec_calculus.specs.declared.step.Move.{Move}
use Rattle.spec_calculus.specs.declared.step.Step.{Step}
use Rattle.spec_calculus.specs.declared.step.Step.TheVariants as steps
use Rattle.spec_calculus.specs.Moves.{owner_at}
use Rattle.spec_bitcoin.specs.declared.tx.Tx.{Tx}
use Rattle.spec_run.specs.Steps.{parties_once, auth_move}
use Rattle.bm_world_board.specs.declared.accounts.Account.{Account}
use Rattle.bm_world_board.specs.Accounts.{owner_in}

-- the move of a transaction that spends the outputs of these numbers
abbrev pub move_by : List Account → Tx → List ℕ → Move
move_by accounts tx spent = record { inputs = spent; outputs = map (λ o. (owner_in accounts o.script, o.value)) tx.outputs }

-- the parties so far, and a party that owns something if it is new
abbrev pub with_owner : List (List ℕ) → Owner → List (List ℕ)
with_owner names Outside = names
with_owner names (Party party) = if is_among party names then names else names ++ party ∷ []

-- the parties so far, and each new one of these owners, once
abbrev pub with_owners : List (List ℕ) → List Owner → List (List ℕ)
with_owners names [] = names
with_owners names (owner ∷ owners) = with_owners (with_owner names owner) owners

-- each party that owns an input agrees, and then the move is made
abbrev pub moved_steps : List Account → List Deposit → Tx → List ℕ → List Step
moved_steps accounts deposits tx spent =
    map (auth_move (move_by accounts tx spent)) (parties_once (map (owner_at deposits) spent)) ++ steps.Move (move_by accounts tx spent) ∷ []
