-- Blocks that come: nothing is hashed, nothing is posted, and no contract is compiled.
use Rattle.std.proofs.Common.{◌≡◌, ℕ, List, [], ◌∷◌, ◌++◌, ◌+◌, ◌≤◌, None, refl, sym, subst, ◌∙◌, append-nil}
use Rattle.std.specs.List.{find}
use Rattle.std.proofs.lemmas.Bool.{le-leb}
use Rattle.spec_data.specs.Ranges.{last_height}
use Rattle.spec_data.specs.Lists.{first_reason}
use Rattle.spec_run.specs.declared.event.Event.TheVariants as events
use Rattle.spec_run.specs.declared.header.HeldSecret.{HeldSecret}
use Rattle.spec_run.specs.declared.outcome.Outcome.TheVariants as outcomes
use Rattle.spec_run.specs.declared.outcome.Record.{Record}
use Rattle.spec_run.specs.World.{World}
use Rattle.spec_run.specs.Pending.{Pending, is_guessed, done}
use Rattle.spec_run.specs.Event.{mine_row, mine_pending}
use Rattle.bm_hash.proofs.HashesLemmas.{hashed_none}
use Rattle.bm_world_board.specs.declared.board.Board.{Board}
use Rattle.bm_world_board.specs.declared.pending_change.Change.TheVariants.{Blocks}
use Rattle.bm_world_board.specs.declared.pending_change.PendingChange.{PendingChange}
use Rattle.bm_world_board.specs.Prepares.{setup_of, world_of, Prepares}
use Rattle.bm_world_board.specs.Secrets.{secret_strings}
use Rattle.bm_world_board.proofs.Refusals.{passed_by}
use Rattle.bm_world_apply.specs.Applying.{Makes}
use Rattle.bm_world_apply.proofs.Unguessed.{none_guessed}
use Rattle.bm_world.specs.declared.halt.Halt.TheVariants.{Memory}
use Rattle.bm_world_board.specs.Playable.{IsPlayable}
use Rattle.bm_world.specs.Playing.{IsCompiledAfter, GoesOn, Halts}
use Rattle.bm_world.proofs.Compiling.{still_compiled}
use Rattle.bm_world.proofs.Played.{short_halts, passes_by, goes_by}

-- what would be prepared
abbrev passed : ℕ → PendingChange
passed blocks = record { outcome = outcomes.Done; posts = []; allowed = None; change = Blocks blocks }

-- where nothing is posted nothing is guessed
unguessed : (posted : List (List ℕ)) (secrets : List HeldSecret) → find (is_guessed posted [] None) secrets ≡ None
unguessed posted secrets = none_guessed (secret_strings secrets) posted [] None refl secrets refl

-- before the limit of time nothing refuses them
mine_is : (w : World) (blocks : ℕ) → w.tip + blocks ≤ last_height → done (record w { tip = w.tip + blocks }) [] ≡ mine_pending w blocks
mine_is w blocks few = passed_by (first_reason (mine_row w blocks)) w [] (done (record w { tip = w.tip + blocks }) []) within
  where
    within : first_reason (mine_row w blocks) ≡ None
    within = rw (le-leb (w.tip + blocks) last_height few) refl

module _ (hash : List ℕ → List ℕ) (old : Board) (messages : List (List ℕ)) (blocks : ℕ) where
  -- memory is short before anything is hashed
  pub short_passing : Halts (setup_of hash old) (world_of old messages) messages (events.Mine blocks) Memory
  short_passing = short_halts (setup_of hash old) (world_of old messages) messages (events.Mine blocks)
      (record { prefix = []; back = (mine_pending (world_of old messages) blocks).hashes; strings = refl; messages = refl })

  -- they are recorded, and they come
  pub goes_passing : (new : Board) (before later : List Record) → old.coins.tip + blocks ≤ last_height
      → IsPlayable (setup_of hash old) old messages
      → new ≡ record old { coins = record old.coins { tip = old.coins.tip + blocks } }
      → later ≡ before ++ record { event = events.Mine blocks; outcome = outcomes.Done; tx = None } ∷ []
      → GoesOn (setup_of hash old) (world_of old messages) new messages before later (events.Mine blocks) outcomes.Done
  goes_passing new before later few playable left recorded =
      let s = setup_of hash old in
      let w = world_of old messages in
      let prepares : Prepares hash w messages messages (mine_pending w blocks) (passed blocks) =
      subst (λ (d : Pending). Prepares hash w messages messages d (passed blocks)) (mine_is w blocks few)
      (record { same = refl; hashed = hashed_none hash messages playable.clear; ready = few }) in
      let compiled : IsCompiledAfter s w old.compiled (events.Mine blocks) None =
      playable.compiled ∙ sym (still_compiled s playable.setup playable.kept.config w playable.kept.books (events.Mine blocks) tt) in
      let passes = passes_by s w w messages (events.Mine blocks) (passed blocks) playable.clear prepares old.compiled None
      (unguessed old.exchange.posted old.header.secrets) compiled in
      let makes : Makes old new (passed blocks) =
      subst (λ b. Makes old b (passed blocks)) (sym left) (record {
        world = λ ms i. record (world_of old ms) { tip = old.coins.tip + blocks; posted = sym (append-nil old.exchange.posted) i };
        header = refl;
        contracts = refl;
        accounts = refl;
        known = refl;
        compiled = refl;
      }) in
      goes_by s w w messages old.compiled (events.Mine blocks) (passed blocks) None playable.clear passes old new new before later
      refl refl refl makes refl refl recorded
