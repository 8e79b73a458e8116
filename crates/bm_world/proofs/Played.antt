-- What an event leaves, by what was prepared of it.
use Rattle.std.proofs.Common.{◌≡◌, ℕ, List, [], ◌∷◌, ◌++◌, length, ◌+◌, ◌*◌, ◌<◌, ◌≤◌, Bool, true, false, Option, Some, None, refl, sym, ap, subst, ◌∙◌, append-nil, length-append, arith, inl, inr}
use Rattle.std.specs.Prelude.{is_some, not, if◌then◌else◌}
use Rattle.std.specs.List.{find}
use Rattle.std.proofs.lemmas.Option.{none-some, same_Some}
use Rattle.spec_data.specs.Lists.{is_among, first_reason}
use Rattle.spec_data.specs.Ranges.{most_header_deposits, most_gift_outputs}
use Rattle.spec_data.proofs.ListLemmas.{or_else-none}
use Rattle.spec_bitcoin.specs.Verdict.{whole_row, inputs_refusal}
use Rattle.spec_run.specs.declared.event.Event.{Event}
use Rattle.spec_run.specs.declared.header.HeldSecret.{HeldSecret}
use Rattle.spec_run.specs.declared.outcome.Outcome.{Outcome}
use Rattle.spec_run.specs.declared.outcome.Record.{Record}
use Rattle.spec_run.specs.Setup.{Setup}
use Rattle.spec_run.specs.World.{World}
use Rattle.spec_data.specs.Messages as run_messages
use Rattle.spec_data.specs.Messages.{collision}
use Rattle.spec_run.specs.Pending.{Pending, Went, Halted, is_guessed, guess, applied, apply}
use Rattle.spec_run.specs.Pending as run
use Rattle.spec_run.specs.Event.{pending, event, record_of}
use Rattle.spec_run.specs.Ledger.{live_from}
use Rattle.spec_run.specs.Conditions.{IsSetup, IsEvent}
use Rattle.spec_run.specs.Steps.{steps_of}
use Rattle.spec_run.specs.Values.{is_refused}
use Rattle.spec_calculus.specs.Steps.{after_steps}
use Rattle.theory_world.proofs.Hashed.{noted_more, all_more}
use Rattle.theory_run.proofs.Fewer.{Within}
use Rattle.theory_run.specs.KeptRuns.{KeptBooks}
use Rattle.theory_run.proofs.Facts.Bookkeeping.{keeps_after}
use Rattle.bm_hash.specs.declared.messages.TrailError.{TrailError}
use Rattle.bm_hash.specs.declared.messages.TrailError.TheVariants as trail
use Rattle.bm_world.specs.Halts.{halt_of, IsAgain}
use Rattle.bm_hash.specs.Messages.{evidence_of, noted, noted_all}
use Rattle.bm_hash.specs.Trails.{Hashed, Stops}
use Rattle.bm_world_board.specs.declared.board.Board.{Board}
use Rattle.bm_world.specs.declared.halt.Halt.{Halt}
use Rattle.bm_world.specs.declared.halt.Halt.TheVariants.{Collided, Guessed, Memory}
use Rattle.bm_world_board.specs.declared.pending_change.Change.{Change}
use Rattle.bm_world_board.specs.declared.pending_change.Change.TheVariants.{Nothing, Blocks, Advertise, Commit, Append}
use Rattle.bm_world_board.specs.declared.pending_change.PendingChange.{PendingChange}
use Rattle.bm_compile.specs.Numbered.{Numbered}
use Rattle.bm_match.specs.Matches.{all_compiled}
use Rattle.bm_world_board.specs.Compiling.{placed}
use Rattle.bm_world_board.specs.Prepares.{world_of, tx_in, changed, IsReady, Prepares}
use Rattle.bm_world_apply.specs.Applying.{IsMakeable, Makes}
use Rattle.bm_world_board.specs.Playable.{Kept, IsPlayable}
use Rattle.bm_world.specs.Playing.{most_records, HashedPrefix, JudgedHalts, Halts, IsCompiledAfter, Passes, Tests, SameBoard, GoesOn, IsWorld}
use Rattle.bm_hash.proofs.Collisions.{hashed_adds, stopped_shows}
use Rattle.bm_world_apply.proofs.Applied.{changed-hashed}
use Rattle.bm_world.specs.Reached.{IsReached}
use Rattle.bm_world.proofs.Heard.{kept_heard}
use Rattle.bm_world.proofs.Found.{found_there, found_more}
use Rattle.bm_world.specs.Reached.{IsReached, AreFound}
use Rattle.bm_world.proofs.Reaching.{IsCalm, calm_of, reached_more, reached_later}
use Rattle.theory_run.proofs.Events.Births.{event_grows}
use Rattle.bm_world.proofs.Posts.{posts_reached}

-- ---- a ready change can be made

makeable : (hash : List ℕ → List ℕ) (b : Board) (messages : List (List ℕ)) (change : Change) → IsReady hash (world_of b messages) change
    → IsMakeable b change
makeable hash b messages Nothing h = tt
makeable hash b messages (Blocks blocks) h = h
makeable hash b messages (Advertise told) h = tt
makeable hash b messages (Commit p) h = tt
makeable hash b messages (Append a) h = record {
  room = h.room;
  passed = (or_else-none (first_reason (whole_row b.coins.tip (live_from 0 b.coins.outputs) a.tx))
      (inputs_refusal hash b.book (live_from 0 b.coins.outputs) a.tx 0 a.tx.inputs) h.passed).0;
  numbers = h.numbers;
  new = h.new;
}

pub makeable_of : (hash : List ℕ → List ℕ) (b : Board) (old new : List (List ℕ)) (d : Pending) (x : PendingChange)
    → Prepares hash (world_of b old) old new d x → IsMakeable b x.change
makeable_of hash b old new d x h = makeable hash b old x.change h.ready

-- ---- halts

-- what was there is there still
noted_within : (hash : List ℕ → List ℕ) (ms : List (List ℕ)) (x : List ℕ) → Within ms (noted hash ms x)
noted_within hash ms x m h = by_test (is_some (evidence_of hash ms))
  where
    by_test : (b : Bool) → is_among m (if b then ms else run_messages.noted ms x) ≡ true
    by_test true = h
    by_test false = noted_more ms x m h

within_all : (hash : List ℕ → List ℕ) (ms xs : List (List ℕ)) → Within ms (noted_all hash ms xs)
within_all hash ms [] m h = h
within_all hash ms (x ∷ xs) m h = within_all hash (noted hash ms x) xs m (noted_within hash ms x m h)

pub prefix_within : (hash : List ℕ → List ℕ) (old new xs : List (List ℕ)) → HashedPrefix hash old new xs → Within old new
prefix_within hash old new xs h m i = subst (λ l. is_among m l ≡ true) (sym h.messages) (within_all hash old h.prefix m i)

-- a halt that an error of the trail makes, which now has these messages
pub record IsShown (hash : List ℕ → List ℕ) (messages : List (List ℕ)) (error : TrailError) (halt : Halt) : Type 0 where
  pub memory : error ≡ trail.Memory → halt ≡ Memory
  pub collided : (earlier later : List ℕ) → halt ≡ Collided earlier later → evidence_of hash messages ≡ Some (earlier, later)
  pub unguessed : (party secret : List ℕ) → halt ≡ Guessed party secret → ⊥

pub shown_by : {H : Type 0} (digest : H → List ℕ → List ℕ) (old new : H) (messages : List (List ℕ)) (error : TrailError) (halt : Halt)
    → new ≡ old → (error ≡ trail.Memory → halt ≡ Memory)
    → ((earlier later : List ℕ) → halt ≡ Collided earlier later → evidence_of (digest new) messages ≡ Some (earlier, later))
    → ((party secret : List ℕ) → halt ≡ Guessed party secret → ⊥) → IsShown (digest old) messages error halt
shown_by digest old new messages error halt same memory collided unguessed = record {
  memory = memory;
  collided = λ earlier later is. ap (λ h. evidence_of (digest h) messages) (sym same) ∙ collided earlier later is;
  unguessed = unguessed;
}

-- what collides is what halts the event
cause_of : (s : Setup) (w : World) (e : Event) (halt : Halt)
    → ((earlier later : List ℕ) → halt ≡ Collided earlier later → collision s.hash w.hashed ((pending s w e).hashes) ≡ Some (earlier, later))
    → ((party secret : List ℕ) → halt ≡ Guessed party secret → ⊥) → (h : run.Halt) → halt_of halt ≡ Some h → event s w e ≡ Halted h
cause_of s w e (Collided earlier later) collided unguessed h is =
    ap (λ o. apply w (pending s w e) o (guess s w.posted ((pending s w e).posts) ((pending s w e).allowed))) (collided earlier later refl)
    ∙ ap Halted (same_Some (run.Collided earlier later) h is)
cause_of s w e (Guessed party secret) collided unguessed h is = absurd (unguessed party secret refl)
cause_of s w e Memory collided unguessed h is = absurd (none-some h is)

-- memory is short after some of the strings
pub short_halts : (s : Setup) (w : World) (new : List (List ℕ)) (e : Event) → HashedPrefix s.hash w.hashed new (pending s w e).hashes
    → Halts s w new e Memory
short_halts s w new e hashed = record {
  hashed = hashed;
  cause = λ h is. absurd (none-some h is);
  shown = λ earlier later x. cc;
}

-- the preparing stopped
pub preparing_halts : (s : Setup) (w : World) (new : List (List ℕ)) (e : Event) (error : TrailError) (halt : Halt)
    → evidence_of s.hash w.hashed ≡ None → Stops s.hash w.hashed new ((pending s w e).hashes) error → IsShown s.hash new error halt
    → Halts s w new e halt
preparing_halts s w new e trail.Collided halt clear h is =
    let i = stopped_shows s.hash w.hashed new ((pending s w e).hashes) clear h in
    record {
      hashed = record {
        prefix = (pending s w e).hashes;
        back = [];
        strings = sym (append-nil (pending s w e).hashes);
        messages = (h.collided refl).0;
      };
      cause = cause_of s w e halt (λ earlier later x. sym i.0 ∙ is.collided earlier later x) is.unguessed;
      shown = is.collided;
    }
preparing_halts s w new e trail.Memory halt clear h is =
    let m = h.memory refl in
    subst (Halts s w new e) (sym (is.memory refl))
    (short_halts s w new e (record { prefix = m.0; back = m.1; strings = m.2; messages = m.3 }))

-- the halt that is kept
pub halts_again : (s : Setup) (w : World) (new : List (List ℕ)) (e : Event) (halt kept : Halt) → IsAgain halt kept → Halts s w new e halt
    → Halts s w new e kept
halts_again s w new e halt kept (inl same) h = subst (Halts s w new e) (sym same) h
halts_again s w new e halt kept (inr memory) h = subst (Halts s w new e) (sym memory) (short_halts s w new e h.hashed)

-- all is hashed
all_hashed : (hash : List ℕ → List ℕ) (old new xs : List (List ℕ)) → Hashed hash old new xs → HashedPrefix hash old new xs
all_hashed hash old new xs h = record { prefix = xs; back = []; strings = sym (append-nil xs); messages = h.all }

module _ (s : Setup) (w v : World) (new : List (List ℕ)) (e : Event) (x : PendingChange) (clear : evidence_of s.hash w.hashed ≡ None)
    (prepares : Prepares s.hash v w.hashed new (pending s w e) x) where
  heard : (new ≡ run_messages.noted_all w.hashed (pending s w e).hashes) × (collision s.hash w.hashed (pending s w e).hashes ≡ None)
  heard = hashed_adds s.hash w.hashed new ((pending s w e).hashes) clear prepares.hashed

  same_guess : find (is_guessed w.posted x.posts x.allowed) s.header.secrets
      ≡ guess s w.posted ((pending s w e).posts) ((pending s w e).allowed)
  same_guess = ap (λ (d : Pending). guess s w.posted d.posts d.allowed) prepares.same

  -- memory is short
  pub memory_halts : Halts s w new e Memory
  memory_halts = short_halts s w new e (all_hashed s.hash w.hashed new (pending s w e).hashes prepares.hashed)

  -- a secret is guessed
  pub guess_halts : (held : HeldSecret) → find (is_guessed w.posted x.posts x.allowed) s.header.secrets ≡ Some held
      → Halts s w new e (Guessed held.party held.name)
  guess_halts held found = record {
    hashed = all_hashed s.hash w.hashed new (pending s w e).hashes prepares.hashed;
    cause = λ h is.
        (λ i. apply w (pending s w e) (heard.1 i) ((sym same_guess ∙ found) i))
        ∙ ap Halted (same_Some (run.Guessed held.party held.name) h is);
    shown = λ earlier later y. cc;
  }

  -- nothing collides, and no secret is guessed
  pub passes_by : (compiled : List (Option Numbered)) (entry : Option (ℕ × Numbered))
      → find (is_guessed w.posted x.posts x.allowed) s.header.secrets ≡ None → IsCompiledAfter s w compiled e entry
      → Passes s w v new compiled e x entry
  passes_by compiled entry unguessed placed = record {
    went = λ i. apply w (pending s w e) (heard.1 i) ((sym same_guess ∙ unguessed) i);
    prepares = prepares;
    placed = placed;
  }

-- ---- an event that goes on

module _ (s : Setup) (w v : World) (new : List (List ℕ)) (compiled : List (Option Numbered)) (e : Event) (x : PendingChange)
    (entry : Option (ℕ × Numbered)) (clear : evidence_of s.hash w.hashed ≡ None)
    (passes : Passes s w v new compiled e x entry) where
  abbrev d : Pending
  d = pending s w e

  messages_are : new ≡ run_messages.noted_all w.hashed (pending s w e).hashes
  messages_are = (hashed_adds s.hash w.hashed new (pending s w e).hashes clear passes.prepares.hashed).0

  pub tests_by : Tests s w new e (not (is_refused x.outcome))
  tests_by = record {
    went = passes.went;
    hashed = messages_are;
    clear = passes.prepares.hashed.clear;
    passes = ap (λ (y : Pending). not (is_refused y.outcome)) passes.prepares.same;
  }

  -- what was prepared is made, and the contract is placed
  pub goes_by : (mid made last : Board) (trace later : List Record) → v ≡ world_of mid w.hashed → mid.exchange.posted ≡ w.posted
      → mid.compiled ≡ compiled
      → Makes mid made x → last ≡ record made { compiled = last.compiled } → last.compiled ≡ placed entry made.compiled
      → later ≡ trace ++ record { event = e; outcome = x.outcome; tx = tx_in x.change } ∷ [] → GoesOn s w last new trace later e x.outcome
  goes_by mid made last trace later at posted before makes rest put t =
      let world : changed (world_of mid w.hashed) x.change ≡ (pending s w e).world =
      ap (λ y. changed y x.change) (sym at) ∙ ap (λ (y : Pending). y.world) passes.prepares.same in
      let posts : x.posts ≡ (pending s w e).posts = ap (λ (y : Pending). y.posts) passes.prepares.same in
      let next : world_of last new ≡ applied w (pending s w e) =
      ap (λ b. world_of b new) rest
      ∙ makes.world new
      ∙ ap (λ (y : World). record y { posted = mid.exchange.posted ++ x.posts }) (changed-hashed (world_of mid w.hashed) new x.change)
      ∙ (λ i. record (world i) { hashed = messages_are i; posted = posted i ++ posts i }) in
      record {
        goes = record {
          went = passes.went ∙ (λ i. Went (pending s w e) (sym next i));
          outcome = ap (λ (y : Pending). y.outcome) passes.prepares.same;
          trace = t ∙ ap (λ (y : Pending). trace ++ record_of e y ∷ []) passes.prepares.same;
        };
        compiled = put ∙ ap (placed entry) (makes.compiled ∙ before) ∙ passes.placed ∙ ap (all_compiled s) (sym next);
        clear = passes.prepares.hashed.clear;
      }

-- ---- what is kept

pub kept_after : (s : Setup) (w next : World) (e : Event) → IsSetup s → IsEvent s e → Kept s w → IsCalm s w next (pending s w e) → Kept s next
kept_after s w next e setup is kept calm = record {
  config = after_steps kept.config (steps_of s [] kept.config w (applied w (pending s w e)) e (pending s w e));
  books = subst (λ v. KeptBooks s (after_steps kept.config (steps_of s [] kept.config w (applied w (pending s w e)) e (pending s w e))) v)
      calm.left (keeps_after s setup [] kept.config w kept.books e is calm.calm);
}

-- there are few outputs after one more event
few_after : (s : Setup) → IsSetup s → (w next : World) (before trace : List Record) (e : Event) → IsEvent s e
    → IsCalm s w next (pending s w e) → trace ≡ before ++ record_of e (pending s w e) ∷ []
    → length w.outputs ≤ most_header_deposits + most_gift_outputs * length before
    → length next.outputs ≤ most_header_deposits + most_gift_outputs * length trace
few_after s setup w next before trace e is calm at few =
    let grows = event_grows s setup w e is in
    let same : length (pending s w e).world.outputs ≡ length next.outputs = ap (λ (v : World). length v.outputs) calm.left in
    let count = ap length at ∙ length-append before (record_of e (pending s w e) ∷ []) in
    omega (arith, grows, same, count, few)

-- the world after an event that went on
pub world_after : (s t : Setup) (old new : Board) (messages later : List (List ℕ)) (before trace : List Record) (e : Event)
    (outcome : Outcome) (halt : Option Halt) → IsWorld s old messages before None → IsEvent s e
    → GoesOn s (world_of old messages) new later before trace e outcome → SameBoard old new → t ≡ s → IsWorld t new later trace halt
world_after s t old new messages later before trace e outcome halt was is goes same at =
    let calm = calm_of s (world_of old messages) (world_of new later) (pending s (world_of old messages) e) goes.goes.went in
    let reached_there : IsReached s (world_of new later) trace =
    subst (IsReached s (world_of new later)) (sym goes.goes.trace)
    (reached_more s (world_of old messages) (world_of new later) before e was.reached is calm) in
    subst (λ x. IsWorld x new later trace halt) (sym at) (record {
      setup = was.setup;
      accounts = same.accounts ∙ was.accounts;
      known = same.known ∙ was.known;
      compiled = goes.compiled;
      few = few_after s was.setup (world_of old messages) (world_of new later) before trace e is calm goes.goes.trace was.few;
      reached = reached_there;
      found = found_there s (world_of new later) trace was.setup reached_there goes.clear;
      kept = λ h. kept_after s (world_of old messages) (world_of new later) e was.setup is (was.kept refl) calm;
      clear = λ h. goes.clear;
    })

-- the world after a halt
pub world_halted : (s t : Setup) (b : Board) (old later xs : List (List ℕ)) (trace : List Record) (halt : Halt)
    → IsWorld s b old trace None → HashedPrefix s.hash old later xs → t ≡ s → IsWorld t b later trace (Some halt)
world_halted s t b old later xs trace halt was prefix at = subst (λ x. IsWorld x b later trace (Some halt)) (sym at) (record {
  setup = was.setup;
  accounts = was.accounts;
  known = was.known;
  compiled = was.compiled;
  few = was.few;
  reached = reached_later s (world_of b old) later trace (prefix_within s.hash old later xs prefix) was.reached;
  found = subst (λ ms. AreFound s.hash ms b.exchange.posted) (sym prefix.messages)
      (found_more s.hash old prefix.prefix b.exchange.posted was.found);
  kept = λ h. cc;
  clear = λ h. cc;
})

-- before an event nothing has halted, and there is room
pub playable_of : (s : Setup) (b : Board) (messages : List (List ℕ)) (trace : List Record) (halt : Option Halt)
    → IsWorld s b messages trace halt → halt ≡ None → length trace < most_records → IsPlayable s b messages
playable_of s b messages trace halt is none few =
    let outputs = is.few in
    record {
      setup = is.setup;
      accounts = is.accounts;
      known = is.known;
      compiled = is.compiled;
      kept = is.kept none;
      clear = is.clear none;
      posted = posts_reached s (world_of b messages) trace is.setup is.reached;
      room = omega (arith, outputs, few);
    }

-- the world where only more was hashed
pub world_hears : (s t : Setup) (b : Board) (old later xs : List (List ℕ)) (trace : List Record) (halt : Option Halt)
    → IsWorld s b old trace None → t ≡ s
    → later ≡ run_messages.noted_all old xs → evidence_of s.hash later ≡ None → collision s.hash old xs ≡ None
    → IsWorld t b later trace halt
world_hears s t b old later xs trace halt was at hashed clear calm = subst (λ x. IsWorld x b later trace halt) (sym at) (record {
  setup = was.setup;
  accounts = was.accounts;
  known = was.known;
  compiled = was.compiled;
  few = was.few;
  reached = reached_later s (world_of b old) later trace (λ m i. subst (λ l. is_among m l ≡ true) (sym hashed) (all_more old xs m i))
      was.reached;
  found = found_there s (world_of b later) trace was.setup
      (reached_later s (world_of b old) later trace (λ m i. subst (λ l. is_among m l ≡ true) (sym hashed) (all_more old xs m i))
      was.reached) clear;
  kept = λ h. subst (λ l. Kept s (world_of b l)) (sym hashed) (kept_heard s (world_of b old) xs was.setup (was.kept refl) calm);
  clear = λ h. clear;
})

-- ---- a transaction that is judged

short_judged : (hash : List ℕ → List ℕ) (old new xs : List (List ℕ)) → HashedPrefix hash old new xs → JudgedHalts hash old new xs Memory
short_judged hash old new xs hashed = record {
  hashed = hashed;
  collided = λ earlier later x. cc;
  shown = λ earlier later x. cc;
  unguessed = λ party secret x. cc;
}

-- the call stopped
pub judged_halts : (hash : List ℕ → List ℕ) (old new xs : List (List ℕ)) (error : TrailError) (halt : Halt) → evidence_of hash old ≡ None
    → Stops hash old new xs error → IsShown hash new error halt → JudgedHalts hash old new xs halt
judged_halts hash old new xs trail.Collided halt clear h is = record {
  hashed = record { prefix = xs; back = []; strings = sym (append-nil xs); messages = (h.collided refl).0 };
  collided = λ earlier later x. sym (stopped_shows hash old new xs clear h).0 ∙ is.collided earlier later x;
  shown = is.collided;
  unguessed = is.unguessed;
}
judged_halts hash old new xs trail.Memory halt clear h is =
    let m = h.memory refl in
    subst (JudgedHalts hash old new xs) (sym (is.memory refl))
    (short_judged hash old new xs (record { prefix = m.0; back = m.1; strings = m.2; messages = m.3 }))

-- the halt that is kept
pub judged_again : (hash : List ℕ → List ℕ) (old new xs : List (List ℕ)) (halt kept : Halt) → IsAgain halt kept
    → JudgedHalts hash old new xs halt → JudgedHalts hash old new xs kept
judged_again hash old new xs halt kept (inl same) h = subst (JudgedHalts hash old new xs) (sym same) h
judged_again hash old new xs halt kept (inr memory) h = subst (JudgedHalts hash old new xs) (sym memory) (short_judged hash old new xs h.hashed)
