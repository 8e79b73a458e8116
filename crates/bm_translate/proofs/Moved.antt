-- The steps of a move by the accounts and the live deposits are those of the definitions.
use Rattle.std.proofs.Common.{◌≡◌, ℕ, List, [], ◌∷◌, ◌++◌, map, refl, ap, ◌∙◌}
use Rattle.spec_calculus.specs.Configuration.{Configuration}
use Rattle.spec_calculus.specs.Moves.{owner_at}
use Rattle.spec_calculus.specs.declared.step.Owner.{Owner}
use Rattle.spec_calculus.specs.declared.step.Step.TheVariants as steps
use Rattle.spec_bitcoin.specs.declared.tx.TxOut.{TxOut}
use Rattle.spec_bitcoin.specs.declared.tx.Tx.{Tx}
use Rattle.spec_run.specs.Setup.{Setup}
use Rattle.spec_run.specs.World.{World}
use Rattle.spec_run.specs.Owners.{owner_among, owner_by}
use Rattle.spec_run.specs.Steps.{moved_output, move_of, auth_move, parties_once, owners_of, move_steps}
use Rattle.theory_run.specs.Tracks.{AgreeOnMoney}
use Rattle.theory_run.proofs.Steps.Moved.{owner_there}
use Rattle.bm_world_board.specs.declared.accounts.Account.{Account}
use Rattle.bm_world_board.specs.Accounts.{account_of, owner_in}
use Rattle.bm_translate.specs.Moving.{move_by, moved_steps}

among_is : (s : Setup) (parties : List (List ℕ)) (script : List ℕ)
    → owner_in (map (account_of s.hash) parties) script ≡ owner_among s parties script
among_is s [] script = refl
among_is s (party ∷ parties) script = rw (among_is s parties script) refl

owner_is : (s : Setup) (accounts : List Account) (script : List ℕ) → accounts ≡ map (account_of s.hash) s.header.parties
    → owner_in accounts script ≡ owner_by s script
owner_is s accounts script e = ap (λ (l : List Account). owner_in l script) e ∙ among_is s s.header.parties script

outputs_are : (s : Setup) (accounts : List Account) (outputs : List TxOut) → accounts ≡ map (account_of s.hash) s.header.parties
    → map {B = Owner × ℕ} (λ o. (owner_in accounts o.script, o.value)) outputs ≡ map (moved_output s) outputs
outputs_are s accounts [] e = refl
outputs_are s accounts (o ∷ os) e = rw (owner_is s accounts o.script e, outputs_are s accounts os e) refl

move_is : (s : Setup) (accounts : List Account) (tx : Tx) (spent : List ℕ) → accounts ≡ map (account_of s.hash) s.header.parties
    → move_by accounts tx spent ≡ move_of s tx spent
move_is s accounts tx spent e = ap (λ outputs. record { inputs = spent; outputs = outputs }) (outputs_are s accounts tx.outputs e)

owners_are : (s : Setup) (g : Configuration) (w : World) → AgreeOnMoney s g w → (numbers : List ℕ)
    → map (owner_at g.deposits) numbers ≡ owners_of s w numbers
owners_are s g w money [] = refl
owners_are s g w money (n ∷ numbers) = rw (owner_there s g w money n, owners_are s g w money numbers) refl

pub moves : (s : Setup) (g : Configuration) (w : World) (accounts : List Account) (tx : Tx) (spent : List ℕ)
    → accounts ≡ map (account_of s.hash) s.header.parties → AgreeOnMoney s g w → moved_steps accounts g.deposits tx spent ≡ move_steps s w tx spent
moves s g w accounts tx spent e money = λ i.
    map (auth_move (move_is s accounts tx spent e i)) (parties_once (owners_are s g w money spent i))
    ++ steps.Move (move_is s accounts tx spent e i) ∷ []
