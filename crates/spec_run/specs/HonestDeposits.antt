-- Whose event spent an honest party's deposit: its own gift, or a contract's transaction that the party had signed for.
use Rattle.std.specs.Prelude.{◌≡◌, ℕ, List, [], Bool, true, false, ◌&&◌, ◌||◌, ◌==◌, Option, Some, None}
use Rattle.std.specs.List.{list_any}
use Rattle.std.specs.Str.{bytes_eq}
use Rattle.spec_data.specs.Lists.{has_number, look_up}
use Rattle.spec_terms.specs.Core.{core, puts_of}
use Rattle.spec_terms.specs.Term as term
use Rattle.spec_terms.specs.Precondition.{Holding, persistent, volatile}
use Rattle.spec_terms.specs.declared.path.PathStep.{PathStep}
use Rattle.spec_bitcoin.specs.declared.tx.Tx.{Tx}
use Rattle.spec_compiler.specs.Instance.{Instance}
use Rattle.spec_compiler.specs.declared.unsigned.Unsigned.{Unsigned}
use Rattle.spec_compiler.specs.Transactions.{tx_of}
use Rattle.spec_compiler.specs.ByPath.{unsigned_at}
use Rattle.spec_calculus.specs.declared.step.Owner.TheVariants.{Party}
use Rattle.spec_run.specs.declared.event.Event.{Event}
use Rattle.spec_run.specs.declared.event.Event.TheVariants as events
use Rattle.spec_run.specs.declared.outcome.Outcome.{Outcome}
use Rattle.spec_run.specs.declared.outcome.Outcome.TheVariants as outcomes
use Rattle.spec_run.specs.declared.outcome.Record.{Record}
use Rattle.spec_run.specs.Setup.{Setup, pre_at, is_honest}
use Rattle.spec_run.specs.World.{World, output_at, is_deposit, bindings_at}
use Rattle.spec_run.specs.Owners.{owner_of}
use Rattle.spec_run.specs.Ledger.{Kind, Begins, Takes, Moves, same_bare, is_initial, kind_of, position_path, position_branch}
use Rattle.spec_run.specs.Compiled.{compiled_instance}
use Rattle.spec_run.specs.Values.{is_done}

-- ---- what was done before

-- whether the event is the party's signature of its deposits of the contract
abbrev pub is_init : ℕ → List ℕ → Event → Bool
is_init contract party (events.Init k a) = (k == contract) && bytes_eq a party
is_init contract party _ = false

-- whether the event is the party's endorsement of the contract
abbrev pub is_endorse : ℕ → List ℕ → Event → Bool
is_endorse contract party (events.Endorse k a) = (k == contract) && bytes_eq a party
is_endorse contract party _ = false

-- whether an event that passes the test was done
abbrev pub was_done : (Event → Bool) → List Record → Bool
was_done test records = list_any (λ r. is_done r.outcome && test r.event) records

-- ---- what a transaction takes

-- whether the number is this one
abbrev pub is_number : ℕ → Option ℕ → Bool
is_number number None = false
is_number number (Some other) = other == number

-- whether it is a deposit of the party that is bound to this number
abbrev pub is_bound_to : World → ℕ → List ℕ → ℕ → List ℕ × Holding → Bool
is_bound_to w contract party number d = bytes_eq (d.1).owner party && is_number number (look_up (d.0) (bindings_at w.advertised contract))

-- whether a persistent deposit of the party in the contract is bound to this number
abbrev pub takes_persistent : Setup → World → ℕ → List ℕ → ℕ → Bool
takes_persistent s w contract party number = list_any (is_bound_to w contract party number) (persistent (pre_at s contract))

-- whether the party owns a volatile deposit of this name that is bound to this number
abbrev pub is_put_of : World → ℕ → List ℕ → ℕ → List ℕ → Option Holding → Bool
is_put_of w contract party number name None = false
is_put_of w contract party number name (Some d) = is_bound_to w contract party number (name, d)

-- the names that a branch puts
abbrev pub put_by : Option term.Guarded → List (List ℕ)
put_by None = []
put_by (Some b) = puts_of (core b)

-- whether a branch puts a deposit of the party that is bound to this number
abbrev pub takes_put : Setup → World → ℕ → Option term.Guarded → List ℕ → ℕ → Bool
takes_put s w contract b party number =
    list_any (λ name. is_put_of w contract party number name (look_up name (volatile (pre_at s contract)))) (put_by b)

-- ---- leave to spend

-- whether the event is the party's gift of this deposit among others
abbrev pub gives : List ℕ → ℕ → Event → Bool
gives party number (events.Give a inputs outputs) = bytes_eq a party && has_number number inputs
gives party number _ = false

-- whether it is this transaction, but for witnesses
abbrev pub is_but_for_witnesses : Tx → Option Unsigned → Bool
is_but_for_witnesses tx None = false
is_but_for_witnesses tx (Some d) = same_bare tx (tx_of d)

-- whether it is the transaction of this path, but for witnesses, of a contract that is compiled so
abbrev pub is_of_path : Setup → Tx → List PathStep → Option Instance → Bool
is_of_path s tx path None = false
is_of_path s tx path (Some instance) = is_but_for_witnesses tx (unsigned_at s.hash instance path)

-- whether a transaction of this kind is the compiled one, and takes the party's deposit by what the party signed before
abbrev pub by_contract : Setup → World → List Record → List ℕ → ℕ → Tx → Kind → Bool
by_contract s w before party number tx (Begins contract) =
    is_initial s tx (compiled_instance s w contract) && takes_persistent s w contract party number
    && was_done (is_init contract party) before
by_contract s w before party number tx (Takes held output branch) =
    is_of_path s tx (position_path held branch) (compiled_instance s w held.contract)
    && takes_put s w held.contract (position_branch s held branch) party number
    && was_done (is_endorse held.contract party) before
by_contract s w before party number tx Moves = false

abbrev pub by_transaction : Setup → World → List Record → List ℕ → ℕ → List ℕ → Option Tx → Bool
by_transaction s w before party number spent None = false
by_transaction s w before party number spent (Some tx) = by_contract s w before party number tx (kind_of s w tx spent)

-- whether an event, after these records, had the party's leave to spend the deposit of this number
abbrev pub has_leave : Setup → World → List Record → Event → Option Tx → List ℕ → ℕ → Outcome → Bool
has_leave s w before e tx party number outcomes.Done = false
has_leave s w before e tx party number (outcomes.Accepted spent made lock) =
    gives party number e || by_transaction s w before party number spent tx
has_leave s w before e tx party number (outcomes.Refused reason) = false

-- a deposit of an honest party that was live before what is recorded and isn't after it went with the party's leave
abbrev pub SpendsWithLeave : Setup → List Record → World → Record → World → Type 0
SpendsWithLeave s before w r next =
    (party : List ℕ) (number : ℕ) → is_honest s party ≡ true → owner_of s (output_at w number) ≡ Party party
    → is_deposit (output_at next number) ≡ false
    → has_leave s w before r.event r.tx party number r.outcome ≡ true
