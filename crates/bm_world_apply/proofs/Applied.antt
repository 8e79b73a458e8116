-- What was prepared is made.
use Rattle.std.proofs.Common.{◌≡◌, ℕ, List, ◌++◌, length, Result, Ok, Err, refl, ap, ◌∙◌, arith}
use Rattle.std.specs.Prelude.{OnErr}
use Rattle.std.proofs.lemmas.List.{take_all}
use Rattle.spec_run.specs.World.{World}
use Rattle.bm_exchange.specs.Exchanged.{Exchanged}
use Rattle.bm_world_board.specs.declared.board.Board.{Board}
use Rattle.bm_world_board.specs.declared.pending_change.Change.{Change}
use Rattle.bm_world_board.specs.declared.pending_change.Change.TheVariants.{Nothing, Blocks, Advertise, Commit, Append}
use Rattle.bm_world_board.specs.declared.pending_change.PendingChange.{PendingChange}
use Rattle.bm_world_board.specs.Prepares.{world_of, changed}
use Rattle.bm_world_apply.specs.Applying.{Grows, Makes}

-- what holds anyhow holds on an error
pub on_err : {T E : Type 0} (r : Result T E) (P : Type 0) → P → OnErr r P
on_err (Ok x) P p = tt
on_err (Err e) P p = p

pub grows_same : (e : Exchanged) → Grows e e
grows_same e = record { rest = refl; few = omega arith; same = take_all (length e.posted) e.posted (omega arith) }

-- a change doesn't read what is posted
changed-posted : (w : World) (posted : List (List ℕ)) (change : Change) → changed (record w { posted = posted }) change
    ≡ record (changed w change) { posted = posted }
changed-posted w posted Nothing = refl
changed-posted w posted (Blocks blocks) = refl
changed-posted w posted (Advertise told) = refl
changed-posted w posted (Commit p) = refl
changed-posted w posted (Append a) = refl

-- nor what is hashed
pub changed-hashed : (w : World) (hashed : List (List ℕ)) (change : Change) → changed (record w { hashed = hashed }) change
    ≡ record (changed w change) { hashed = hashed }
changed-hashed w hashed Nothing = refl
changed-hashed w hashed (Blocks blocks) = refl
changed-hashed w hashed (Advertise told) = refl
changed-hashed w hashed (Commit p) = refl
changed-hashed w hashed (Append a) = refl

pub makes : (old new : Board) (exchange : Exchanged) (x : PendingChange) → exchange ≡ record old.exchange { posted = old.exchange.posted ++ x.posts }
    → ((messages : List (List ℕ)) → world_of new messages ≡ changed (world_of (record old { exchange = exchange }) messages) x.change) → new
    ≡ record (record old { exchange = exchange }) { coins = new.coins; exchange = new.exchange; begun = new.begun } → Makes old new x
makes old new exchange x posts world rest = record {
  world = λ messages.
      world messages ∙ ap (λ e. changed (world_of (record old { exchange = e }) messages) x.change) posts
      ∙ changed-posted (world_of old messages) (old.exchange.posted ++ x.posts) x.change;
  header = ap (λ (b : Board). b.header) rest;
  contracts = ap (λ (b : Board). b.contracts) rest;
  accounts = ap (λ (b : Board). b.accounts) rest;
  known = ap (λ (b : Board). b.known) rest;
  compiled = ap (λ (b : Board). b.compiled) rest;
}
