-- A pending effect by its row of refusals.
use Rattle.std.proofs.Common.{◌≡◌, ℕ, List, [], ◌∷◌, ◌++◌, length, true, false, Option, Some, None, sym, ap, subst, ◌∙◌, arith, length-append}
use Rattle.std.specs.Prelude.{if◌then◌else◌}
use Rattle.std.proofs.lemmas.List.{take_all, take-append-le}
use Rattle.spec_bitcoin.specs.Keys.{Pair, has_signed}
use Rattle.spec_run.specs.declared.outcome.Reason.{Reason}
use Rattle.spec_run.specs.World.{World}
use Rattle.spec_run.specs.Pending.{Pending, refused, unless}
use Rattle.spec_run.specs.Signing.{signed}
use Rattle.bm_hash.specs.declared.messages.TrailError.{TrailError}
use Rattle.bm_hash.specs.Messages.{evidence_of}
use Rattle.bm_hash.specs.Trails.{Stops}
use Rattle.bm_hash.proofs.HashesLemmas.{hashed_none}
use Rattle.bm_world_board.specs.declared.pending_change.PendingChange.{PendingChange}
use Rattle.bm_world_board.specs.declared.pending_change.Change.TheVariants.{Nothing}
use Rattle.bm_world_board.specs.Prepares.{as_pending, IsReady, Prepares, IsPrefix}

pub refused_by : (o : Option Reason) (r : Reason) (w : World) (hashes : List (List ℕ)) (d : Pending) → o ≡ Some r → refused w hashes r ≡ unless o w hashes d
refused_by o r w hashes d e = sym (ap (λ x. unless x w hashes d) e)

pub passed_by : (o : Option Reason) (w : World) (hashes : List (List ℕ)) (d : Pending) → o ≡ None → d ≡ unless o w hashes d
passed_by o w hashes d e = sym (ap (λ x. unless x w hashes d) e)

module _ (hash : List ℕ → List ℕ) where
  -- refused before anything is hashed
  pub prepares_refused : (w : World) (old : List (List ℕ)) (o : Option Reason) (r : Reason) (d : Pending) (x : PendingChange) → o ≡ Some r
      → ((v : World) (hashes : List (List ℕ)) → as_pending v hashes x ≡ refused v hashes r)
      → x.change ≡ Nothing → evidence_of hash old ≡ None → Prepares hash w old old (unless o w [] d) x
  prepares_refused w old o r d x e same nothing clear =
      subst (λ y. Prepares hash w old old y x) (refused_by o r w [] d e)
      (record { same = same w []; hashed = hashed_none hash old clear; ready = subst (IsReady hash w) (sym nothing) tt })

  -- not refused
  pub prepares_passed : (v w : World) (old new : List (List ℕ)) (o : Option Reason) (hashes : List (List ℕ)) (d : Pending)
      (x : PendingChange) → o ≡ None → Prepares hash v old new d x → Prepares hash v old new (unless o w hashes d) x
  prepares_passed v w old new o hashes d x e h = subst (λ y. Prepares hash v old new y x) (passed_by o w hashes d e) h

  pub stops_passed : (w : World) (old new : List (List ℕ)) (o : Option Reason) (hashes : List (List ℕ)) (d : Pending) (error : TrailError)
      → o ≡ None → Stops hash old new d.hashes error → Stops hash old new ((unless o w hashes d).hashes) error
  stops_passed w old new o hashes d error e h = subst (λ (y : Pending). Stops hash old new y.hashes error) (passed_by o w hashes d e) h

-- a book is a prefix of itself
pub prefix_same : (pairs : List Pair) → IsPrefix pairs pairs
prefix_same pairs = record { few = omega arith; same = take_all (length pairs) pairs (omega arith) }

pub prefix_more : (pairs more : List Pair) → IsPrefix pairs (pairs ++ more)
prefix_more pairs more = record {
  few = omega (arith, length-append pairs more);
  same = take-append-le (length pairs) pairs more
      (omega arith) ∙ take_all (length pairs) pairs (omega arith);
}

pub prefix_signed : (pairs : List Pair) (pair : Pair) → IsPrefix pairs (signed pairs pair)
prefix_signed pairs pair = elim (has_signed pairs (pair.0) (pair.1)) as (λ b. IsPrefix pairs (if b then pairs else pairs ++ pair ∷ [])) [ true ↦ prefix_same pairs | false ↦ prefix_more pairs (pair ∷ []) ]
