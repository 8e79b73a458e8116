-- Advertising a contract with the deposits that it binds.
use Rattle.std.specs.Prelude.{ℕ, List, [], ◌∷◌, ◌++◌, Bool, not, ◌&&◌, if◌then◌else◌, Option, Some, None, is_some}
use Rattle.std.specs.List.{list_all, list_any}
use Rattle.spec_data.specs.Lists.{is_among, are_different, has_number, look_up, first_reason}
use Rattle.spec_terms.specs.Precondition.{deposits, names_of}
use Rattle.spec_run.specs.declared.outcome.Reason.{Reason}
use Rattle.spec_run.specs.declared.outcome.Reason.TheVariants as reason
use Rattle.spec_run.specs.Setup.{Setup, has_contract, pre_at, people_at, is_honest, bytes_or_none}
use Rattle.spec_run.specs.World.{World, output_at, is_deposit, is_advertised}
use Rattle.spec_run.specs.Owners.{suits}
use Rattle.spec_run.specs.Pending.{Pending, done, unless}

-- whether the names are these, each once, in any order
abbrev pub are_rearranged : List (List ℕ) → List (List ℕ) → Bool
are_rearranged names required = are_different names && list_all (λ n. is_among n required) names && list_all (λ n. is_among n names) required

-- what was looked up, or else this
abbrev pub or_else_this : {V : Type 0} → V → Option V → V
or_else_this other None = other
or_else_this other (Some v) = v

-- what stands beside each of the names, in their order
abbrev pub arranged : {V : Type 0} → V → List (List ℕ) → List (List ℕ × V) → List (List ℕ × V)
arranged other [] entries = []
arranged other (name ∷ names) entries = (name, or_else_this other (look_up name entries)) ∷ arranged other names entries

-- ---- bindings that can't be

-- the name of the first binding to one of these numbers or to one that stands earlier
abbrev pub repeated : List ℕ → List (List ℕ × ℕ) → Option (List ℕ)
repeated seen [] = None
repeated seen (b ∷ bs) = if has_number (b.1) seen then Some (b.0) else repeated (seen ++ b.1 ∷ []) bs

-- the name of the first binding to no live deposit
abbrev pub not_live : World → List (List ℕ × ℕ) → Option (List ℕ)
not_live w [] = None
not_live w (b ∷ bs) = if is_deposit (output_at w (b.1)) then not_live w bs else Some (b.0)

-- the name of the first binding to a deposit of another owner or value than the precondition needs
abbrev pub unsuited : Setup → World → ℕ → List (List ℕ × ℕ) → Option (List ℕ)
unsuited s w contract [] = None
unsuited s w contract (b ∷ bs) =
    if suits s (look_up (b.0) (deposits (pre_at s contract))) (output_at w (b.1)) then unsuited s w contract bs else Some (b.0)

-- ---- the event

-- the names of the deposits of a contract's precondition
abbrev pub deposit_names : Setup → ℕ → List (List ℕ)
deposit_names s contract = names_of (deposits (pre_at s contract))

-- `advertise K x=#n ..`: the contract is there and not advertised yet, the names are those of its deposits, no two bind one output,
-- all are bound to live deposits of the owner and value that are needed, and a participant is honest
abbrev pub advertise_row : Setup → World → ℕ → List (List ℕ × ℕ) → List (Bool × Reason)
advertise_row s w contract bindings =
    (not (has_contract s contract), reason.NoContract)
    ∷ (is_advertised w contract, reason.AdvertFull)
    ∷ (not (are_rearranged (names_of bindings) (deposit_names s contract)), reason.WrongNames)
    ∷ (is_some (repeated [] bindings), reason.DepositRepeated (bytes_or_none (repeated [] bindings)))
    ∷ (is_some (not_live w bindings), reason.NotLive (bytes_or_none (not_live w bindings)))
    ∷ (is_some (unsuited s w contract bindings), reason.WrongDeposit (bytes_or_none (unsuited s w contract bindings)))
    ∷ (not (list_any (is_honest s) (people_at s contract)), reason.NoHonest)
    ∷ []

abbrev pub advertise_pending : Setup → World → ℕ → List (List ℕ × ℕ) → Pending
advertise_pending s w contract bindings =
    unless (first_reason (advertise_row s w contract bindings)) w []
    (done (record w {
      advertised = w.advertised
          ++ record { contract = contract; bindings = arranged 0 (deposit_names s contract) bindings } ∷ [];
    }) [])
