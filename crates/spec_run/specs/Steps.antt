-- The steps of the calculus that an event stands for.
use Rattle.std.specs.Prelude.{ℕ, List, [], ◌∷◌, ◌++◌, map, Bool, false, not, ◌&&◌, Option, Some, None}
use Rattle.std.specs.List.{filter}
use Rattle.std.specs.Str.{bytes_eq}
use Rattle.spec_data.specs.Lists.{look_up}
use Rattle.spec_terms.specs.Term as term
use Rattle.spec_terms.specs.Term.{put_reveal, withdraw, split, auth, after}
use Rattle.spec_terms.specs.Core.{core, is_asked}
use Rattle.spec_terms.specs.Precondition.{Holding, persistent}
use Rattle.spec_bitcoin.specs.declared.tx.TxOut.{TxOut}
use Rattle.spec_bitcoin.specs.declared.tx.Tx.{Tx}
use Rattle.spec_calculus.specs.declared.parts.Revealed.{Revealed}
use Rattle.spec_calculus.specs.declared.step.Owner.{Owner}
use Rattle.spec_calculus.specs.declared.step.Owner.TheVariants.{Party, Outside}
use Rattle.spec_calculus.specs.declared.step.Move.{Move}
use Rattle.spec_calculus.specs.declared.step.Step.{Step}
use Rattle.spec_calculus.specs.declared.step.Step.TheVariants as steps
use Rattle.spec_calculus.specs.Configuration.{Configuration}
use Rattle.spec_calculus.specs.Beginning.{is_init_authorised}
use Rattle.spec_calculus.specs.Branches.{has_branch_authorised}
use Rattle.spec_run.specs.declared.event.Event.{Event}
use Rattle.spec_run.specs.declared.event.Event.TheVariants as events
use Rattle.spec_run.specs.declared.outcome.Outcome.{Outcome}
use Rattle.spec_run.specs.declared.outcome.Outcome.TheVariants as outcomes
use Rattle.spec_run.specs.Setup.{Setup, pre_at, people_at}
use Rattle.spec_run.specs.World.{World, output_at, is_deposit, bindings_at}
use Rattle.spec_run.specs.Pending.{Pending}
use Rattle.spec_run.specs.Owners.{owner_by, owner_of}
use Rattle.spec_run.specs.Advertising.{arranged, deposit_names}
use Rattle.spec_run.specs.Committing.{secrets_at, committed_digests}
use Rattle.spec_run.specs.Ledger.{Kind, Begins, Takes, Moves, kind_of, position_branch}
use Rattle.spec_run.specs.Secrets.{newly_shown, lengths_in_run}

-- ---- secrets

abbrev pub reveal_step : Revealed → Step
reveal_step x = steps.Reveal x.contract x.party x.secret

-- each secret that came to be shown between the two worlds is revealed, by contract and precondition
abbrev pub reveals : Setup → World → World → List Step
reveals s w next = map reveal_step (newly_shown s w next)

-- ---- moves

-- each party that stands in the list, once, in the order in which they first come
abbrev pub parties_once : List Owner → List (List ℕ)
parties_once [] = []
parties_once (Outside ∷ owners) = parties_once owners
parties_once (Party party ∷ owners) = party ∷ filter (λ other. not (bytes_eq other party)) (parties_once owners)

-- an output as one of a move
abbrev pub moved_output : Setup → TxOut → Owner × ℕ
moved_output s o = (owner_by s o.script, o.value)

-- the move of a transaction that spends the outputs of these numbers
abbrev pub move_of : Setup → Tx → List ℕ → Move
move_of s tx spent = record { inputs = spent; outputs = map (moved_output s) tx.outputs }

abbrev pub auth_move : Move → List ℕ → Step
auth_move action party = steps.AuthMove party action

-- the owners of the outputs of these numbers
abbrev pub owners_of : Setup → World → List ℕ → List Owner
owners_of s w numbers = map (λ n. owner_of s (output_at w n)) numbers

-- each party that owns an input agrees, and then the move is made
abbrev pub move_steps : Setup → World → Tx → List ℕ → List Step
move_steps s w tx spent = map (auth_move (move_of s tx spent)) (parties_once (owners_of s w spent)) ++ steps.Move (move_of s tx spent) ∷ []

-- ---- contracts

-- the owner of each of these deposits lets the contract take it
abbrev pub auth_inits : ℕ → List (List ℕ × Holding) → List Step
auth_inits contract [] = []
auth_inits contract (d ∷ ds) = steps.AuthInit contract (d.1).owner (d.0) ∷ auth_inits contract ds

-- the persistent deposits of a contract that it may not take yet
abbrev pub unauthorised : Configuration → ℕ → List (List ℕ × Holding) → List (List ℕ × Holding)
unauthorised g contract deposits = filter (λ d. not (is_init_authorised g.init_authorised contract (d.0))) deposits

-- what is missing is authorised, and then the contract begins
abbrev pub begin_steps : Setup → Configuration → ℕ → List Step
begin_steps s g contract = auth_inits contract (unauthorised g contract (persistent (pre_at s contract))) ++ steps.Init contract ∷ []

abbrev pub auth_branch : ℕ → ℕ → List ℕ → Step
auth_branch output branch party = steps.AuthBranch party output branch

-- whether a branch asks the party, and the party hasn't authorised it
abbrev pub is_awaited : Configuration → ℕ → ℕ → term.Guarded → List ℕ → Bool
is_awaited g output branch b party = is_asked b party && not (has_branch_authorised g.branch_authorised output branch party)

-- the step that a core is
abbrev pub core_step : ℕ → ℕ → term.Guarded → List Step
core_step output branch (put_reveal puts reveals test next) = steps.PutReveal output branch ∷ []
core_step output branch (withdraw party) = steps.Withdraw output branch ∷ []
core_step output branch (split parts) = steps.Split output branch ∷ []
core_step output branch (auth party body) = []
core_step output branch (after height body) = []

-- the participants whom a branch asks authorise it where they haven't, and then it is taken
abbrev pub branch_steps : Configuration → List (List ℕ) → ℕ → ℕ → Option term.Guarded → List Step
branch_steps g people output branch None = []
branch_steps g people output branch (Some b) =
    map (auth_branch output branch) (filter (is_awaited g output branch b) people) ++ core_step output branch (core b)

-- the steps of an accepted transaction, by what it is
abbrev pub kind_steps : Setup → Configuration → World → Tx → List ℕ → Kind → List Step
-- the initial transaction of a contract: AuthInit for each persistent deposit that isn't authorised, then Init
kind_steps s g w tx spent (Begins contract) = begin_steps s g contract
-- another transaction that spends a contract output: AuthBranch for each who is asked and hasn't authorised, then the branch's step
kind_steps s g w tx spent (Takes held output branch) =
    branch_steps g (people_at s held.contract) output branch (position_branch s held branch)
-- every other: AuthMove for each party that owns an input, then Move
kind_steps s g w tx spent Moves = move_steps s w tx spent

-- before these the secrets that the transaction shows are revealed
abbrev pub accepted_steps : Setup → Configuration → World → World → List ℕ → Option Tx → List Step
accepted_steps s g w next spent None = []
accepted_steps s g w next spent (Some tx) = reveals s w next ++ kind_steps s g w tx spent (kind_of s w tx spent)

-- ---- events that are done

-- whether it is a deposit of the party
abbrev pub is_of_party : List ℕ → List ℕ × Holding → Bool
is_of_party party d = bytes_eq (d.1).owner party

-- whether the number is there and names a live deposit
abbrev pub names_deposit : World → Option ℕ → Bool
names_deposit w None = false
names_deposit w (Some number) = is_deposit (output_at w number)

-- whether a deposit of a contract is bound to a live one
abbrev pub is_bound_live : World → ℕ → List ℕ × Holding → Bool
is_bound_live w contract d = names_deposit w (look_up (d.0) (bindings_at w.advertised contract))

-- a party lets the contract take each of its persistent deposits that is bound to a live one
abbrev pub init_steps : Setup → World → ℕ → List ℕ → List Step
init_steps s w contract party =
    auth_inits contract (filter (λ d. is_of_party party d && is_bound_live w contract d) (persistent (pre_at s contract)))

-- the lengths of what a party commits, in the precondition's order
abbrev pub commit_lengths : Setup → List (List ℕ) → ℕ → List ℕ → List (List ℕ × List ℕ) → List (List ℕ × Option ℕ)
commit_lengths s strings contract party digests =
    lengths_in_run s strings party (arranged [] (secrets_at s contract party) (committed_digests s contract party digests))

-- the steps of an event that is done, from one world to the next, in a run that posts these strings
abbrev pub done_steps : Setup → List (List ℕ) → World → World → Event → List Step
-- Advertise, its bindings in the precondition's order
done_steps s strings w next (events.Advertise contract bindings) =
    steps.Advertise contract (arranged 0 (deposit_names s contract) bindings) ∷ []
-- Commit, then Reveal for each of its secrets that has a fitting posted string
done_steps s strings w next (events.Commit contract party digests) =
    steps.Commit contract party (commit_lengths s strings contract party digests) ∷ reveals s w next
-- none
done_steps s strings w next (events.Endorse contract party) = []
-- AuthInit for each persistent deposit of the party whose bound output is live
done_steps s strings w next (events.Init contract party) = init_steps s w contract party
-- AuthBranch
done_steps s strings w next (events.Authorise party output branch) = steps.AuthBranch party output branch ∷ []
-- Reveal for each committed secret whose fitting string came to be posted
done_steps s strings w next (events.Reveal contract party secret) = reveals s w next
done_steps s strings w next (events.Post bytes) = reveals s w next
-- none; what is handed to the ledger isn't done but accepted
done_steps s strings w next (events.Sign party label digest) = []
done_steps s strings w next (events.Give party inputs outputs) = []
done_steps s strings w next (events.Append bytes) = []
done_steps s strings w next (events.FireInit contract) = []
done_steps s strings w next (events.Fire output branch) = []
-- Delay
done_steps s strings w next (events.Mine blocks) = steps.Delay blocks ∷ []

-- ---- all events

-- a refused event has none
abbrev pub outcome_steps : Setup → List (List ℕ) → Configuration → World → World → Event → Option Tx → Outcome → List Step
outcome_steps s strings g w next e tx outcomes.Done = done_steps s strings w next e
outcome_steps s strings g w next e tx (outcomes.Accepted spent made lock) = accepted_steps s g w next spent tx
outcome_steps s strings g w next e tx (outcomes.Refused reason) = []

-- the steps of an event that came to this and left the second world. The configuration is the one before the event, and the strings
-- are those that are posted in the whole run
abbrev pub steps_of : Setup → List (List ℕ) → Configuration → World → World → Event → Pending → List Step
steps_of s strings g w next e d = outcome_steps s strings g w next e d.tx d.outcome
