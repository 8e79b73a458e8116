-- Deposits that a precondition needs, by the accounts of the parties.
use Rattle.std.specs.Prelude.{ℕ, List, [], ◌∷◌, Bool, false, ◌&&◌, ◌==◌, if◌then◌else◌, Option, Some, None, slice_get}
use Rattle.spec_data.specs.Lists.{look_up}
use Rattle.spec_terms.specs.Precondition.{Holding, holding, deposits}
use Rattle.spec_terms.specs.declared.pre.Pre.{Pre}
use Rattle.spec_calculus.specs.declared.step.Owner.TheVariants.{Party}
use Rattle.spec_calculus.specs.Same.{owner_eq}
use Rattle.spec_run.specs.World.{Output, is_deposit}
use Rattle.bm_world_board.specs.declared.accounts.Account.{Account}
use Rattle.bm_world_board.specs.Accounts.{owner_in}

-- an owner and a value as a deposit that is needed
abbrev pub holding_by : List ℕ × ℕ → Holding
holding_by p = holding (p.0) (p.1)

-- whether it is a live deposit of this owner and value
abbrev pub suits_by : List Account → Holding → Output → Bool
suits_by accounts required o = is_deposit (Some o) && owner_eq (owner_in accounts o.script) (Party required.owner) && (o.value == required.value)

-- whether there is one, and it is needed
abbrev pub suits_if : List Account → Option Holding → Option Output → Bool
suits_if accounts None output = false
suits_if accounts (Some required) None = false
suits_if accounts (Some required) (Some o) = suits_by accounts required o

-- the name of the first binding to a deposit of another owner or value than the precondition needs
abbrev pub unsuited_by : List Account → List Output → List Pre → List (List ℕ × ℕ) → Option (List ℕ)
unsuited_by accounts outputs entries [] = None
unsuited_by accounts outputs entries (b ∷ bs) =
    if suits_if accounts (look_up (b.0) (deposits entries)) (slice_get outputs (b.1)) then unsuited_by accounts outputs entries bs else Some (b.0)
