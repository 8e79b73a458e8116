-- What a commitment says, and what it needs of the world.
use Rattle.std.specs.Prelude.{◌≡◌, ℕ, List, [], Bool, true, slice_get, is_some}
use Rattle.std.specs.List.{list_all}
use Rattle.spec_data.specs.Lists.{look_up, first_reason}
use Rattle.spec_terms.specs.Precondition.{deposits}
use Rattle.spec_bitcoin.specs.declared.tx.OutPoint.{OutPoint}
use Rattle.spec_run.specs.declared.header.HeldSecret.{HeldSecret}
use Rattle.spec_run.specs.Setup.{Setup, held_among, bytes_or_none, pre_at}
use Rattle.spec_run.specs.World.{Output, Promise, World, bindings_at, is_advertised}
use Rattle.spec_run.specs.Compiled.{outpoint_of}
use Rattle.spec_run.specs.Committing.{digest_row, with_promise, committed_pending}
use Rattle.spec_run.specs.Pending.{Pending, unless}
use Rattle.bm_world_board.specs.declared.pending_change.Change.TheVariants.{Commit}
use Rattle.bm_world_board.specs.declared.pending_change.Promising.{Promising}
use Rattle.bm_world_board.specs.Prepares.{changed}

-- ---- secrets that are held

-- the bytes of the party's secret, none where it isn't held
abbrev pub own_string : List HeldSecret → List ℕ → List ℕ → List ℕ
own_string secrets party name = bytes_or_none (held_among party name secrets)

-- its name with its digest
abbrev pub own_digest : (List ℕ → List ℕ) → List HeldSecret → List ℕ → List ℕ → List ℕ × List ℕ
own_digest hash secrets party name = (name, hash (own_string secrets party name))

-- ---- the commitment

abbrev pub promise_in : Promising → Promise
promise_in p = record { contract = p.contract; party = p.party; digests = p.digests }

-- the world with it
abbrev pub promised : World → Promising → World
promised w p = changed w (Commit p)

-- what is left to pending effect once the digests are known, whose strings are then hashed
abbrev pub later_pending : Setup → World → ℕ → List ℕ → List (List ℕ × List ℕ) → Pending
later_pending s w contract party digests =
    unless (first_reason (digest_row s w contract party digests)) w []
    (committed_pending s (with_promise s w contract party digests) contract party [])

-- ---- bindings

-- where the deposit of a binding lies
abbrev pub placed_at : List Output → List ℕ × ℕ → List ℕ × OutPoint
placed_at outputs b = (b.0, outpoint_of (slice_get outputs (b.1)))

-- whether each binding is to an output that was made
abbrev pub are_made : List Output → List (List ℕ × ℕ) → Bool
are_made outputs bindings = list_all (λ b. is_some (slice_get outputs (b.1))) bindings

-- whether each deposit of the contract is bound
abbrev pub has_all_bound : Setup → ℕ → List (List ℕ × ℕ) → Bool
has_all_bound s contract bindings = list_all (λ d. is_some (look_up (d.0) bindings)) (deposits (pre_at s contract))

-- where the contract is advertised, its deposits are bound, to outputs that were made
pub record IsBoundAt (s : Setup) (w : World) (contract : ℕ) : Type 0 where
  pub made : is_advertised w contract ≡ true → are_made w.outputs (bindings_at w.advertised contract) ≡ true
  pub bound : is_advertised w contract ≡ true → has_all_bound s contract (bindings_at w.advertised contract) ≡ true
