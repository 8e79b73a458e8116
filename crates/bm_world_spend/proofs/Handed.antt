-- A gift that is handed to the ledger, after its strings were hashed for its digests and its pairs signed.
use Rattle.std.proofs.Common.{◌≡◌, ℕ, List, [], ◌++◌, Bool, true, false, Option, Some, None, refl, sym, ap, ◌∙◌, subst, append-nil}
use Rattle.std.specs.Prelude.{is_some, if◌then◌else◌}
use Rattle.spec_bitcoin.specs.declared.tx.Tx.{Tx}
use Rattle.spec_bitcoin.specs.declared.verdict.Refusal.{Refusal}
use Rattle.spec_bitcoin.specs.Keys.{Pair}
use Rattle.spec_bitcoin.specs.Verdict.{refusal_of, verdict_for}
use Rattle.spec_data.specs.Messages.{collision}
use Rattle.spec_run.specs.Setup.{Setup}
use Rattle.spec_run.specs.World.{World}
use Rattle.spec_run.specs.Pending.{Pending}
use Rattle.spec_run.specs.Ledger.{live_from, chain_of, strings_of, items_of, judged, reaches}
use Rattle.bm_hash.specs.declared.messages.TrailError.{TrailError}
use Rattle.bm_hash.specs.Messages.{evidence_of}
use Rattle.bm_hash.specs.Trails.{Hashed, Stops}
use Rattle.bm_hash.proofs.HashesLemmas.{Stops-first}
use Rattle.bm_world_board.specs.declared.pending_change.Change.{Change}
use Rattle.bm_world_board.specs.declared.pending_change.Change.TheVariants.{Nothing, Blocks, Advertise, Commit, Append}
use Rattle.bm_world_board.specs.declared.pending_change.PendingChange.{PendingChange}
use Rattle.bm_world_board.specs.Prepares.{as_pending, changed, tx_in, IsReady, Prepares}
use Rattle.bm_world_board.specs.Reaching.{IsFresh, reaches_in}
use Rattle.bm_world_spend.proofs.Twice.{hashed_again, calm_again, stops_again}

-- a world with other pairs and other messages
abbrev pub world_with : World → List Pair → List (List ℕ) → World
world_with w book messages = record w { book = book; hashed = messages }

-- a change reads neither the pairs nor the messages
changed_back : (w : World) (book : List Pair) (messages : List (List ℕ)) (c : Change)
    → world_with (changed (world_with w book messages) c) w.book w.hashed ≡ changed w c
changed_back w book messages Nothing = refl
changed_back w book messages (Blocks blocks) = refl
changed_back w book messages (Advertise told) = refl
changed_back w book messages (Commit p) = refl
changed_back w book messages (Append a) = refl

module _ (hash : List ℕ → List ℕ) where
  -- a change that appends nothing can be made whatever is signed or hashed
  ready_unsigned : (w : World) (book : List Pair) (messages : List (List ℕ)) (c : Change) → tx_in c ≡ None
      → IsReady hash (world_with w book messages) c → IsReady hash w c
  ready_unsigned w book messages Nothing none h = tt
  ready_unsigned w book messages (Blocks blocks) none h = h
  ready_unsigned w book messages (Advertise told) none h = tt
  ready_unsigned w book messages (Commit p) none h = tt
  ready_unsigned w book messages (Append a) none h = cc

  -- and any change whatever is hashed
  ready_unheard : (w : World) (messages : List (List ℕ)) (c : Change) → IsReady hash (world_with w w.book messages) c → IsReady hash w c
  ready_unheard w messages Nothing h = tt
  ready_unheard w messages (Blocks blocks) h = h
  ready_unheard w messages (Advertise told) h = tt
  ready_unheard w messages (Commit p) h = tt
  ready_unheard w messages (Append a) h = record { room = h.room; passed = h.passed; numbers = h.numbers; id = h.id; new = h.new }

-- the pending effect of a world with other pairs and messages, in the world itself
abbrev back : World → Pending → Pending
back w d = record d { world = world_with d.world w.book w.hashed }

as_pending-back : (w : World) (book : List Pair) (messages hashes : List (List ℕ)) (x : PendingChange)
    → back w (as_pending (world_with w book messages) hashes x) ≡ as_pending w hashes x
as_pending-back w book messages hashes x =
    ap (λ next. record { outcome = x.outcome; tx = tx_in x.change; world = next; hashes = hashes; posts = x.posts; allowed = x.allowed })
    (changed_back w book messages x.change)

-- w is the world before the event, and `next` has what it has signed
module _ (s : Setup) (w : World) (book : List Pair) (tx : Tx) where
  abbrev next : World
  next = record w { book = book }

  abbrev refusal : Option Refusal
  refusal = refusal_of s.hash book w.tip (live_from 0 w.outputs) tx

  abbrev strings : List (List ℕ)
  strings = strings_of s next tx

  -- the pending effect by the refusal
  abbrev by_refusal : Option Refusal → Pending
  by_refusal o = judged s w next tx (verdict_for (chain_of next) tx o)

  -- the same in the world with other messages
  abbrev heard : List (List ℕ) → World
  heard messages = world_with w book messages

  abbrev heard_by : List (List ℕ) → Option Refusal → Pending
  heard_by messages o = judged s (heard messages) (heard messages) tx (verdict_for (chain_of (heard messages)) tx o)

  -- ---- while the strings are hashed for the digests

  pub stops_signing : (old new : List (List ℕ)) (e : TrailError) → Stops s.hash old new strings e → Stops s.hash old new ((reaches s w next tx).hashes) e
  stops_signing old new e h = by_case refusal
    where
      by_case : (o : Option Refusal) → Stops s.hash old new ((by_refusal o).hashes) e
      by_case None = Stops-first s.hash old new strings (items_of tx) e h
      by_case (Some r) = h

  -- ---- once they are

  module _ (old mid : List (List ℕ)) (at : w.hashed ≡ old) (clear : evidence_of s.hash old ≡ None) (first : Hashed s.hash old mid strings) where
    -- no live output has its id
    pub fresh_again : IsFresh s next tx → IsFresh s (heard mid) tx
    fresh_again fresh none calm =
        fresh none (subst (λ l. collision s.hash l (strings ++ items_of tx) ≡ None) (sym at) (calm_again s.hash old mid strings clear first (items_of tx) calm))

    pub stops_handing : (new : List (List ℕ)) (e : TrailError) → Stops s.hash mid new ((reaches_in s (heard mid) tx).hashes) e
        → Stops s.hash old new ((reaches s w next tx).hashes) e
    stops_handing new e h = by_case refusal h
      where
        by_case : (o : Option Refusal) → Stops s.hash mid new ((heard_by mid o).hashes) e → Stops s.hash old new ((by_refusal o).hashes) e
        by_case None k = stops_again s.hash old mid strings clear first new (items_of tx) e k
        by_case (Some r) k =
            subst (λ l. Stops s.hash old new l e) (append-nil strings)
            (stops_again s.hash old mid strings clear first new [] e (subst (λ l. Stops s.hash mid new l e) (sym (append-nil strings)) k))

    -- the pairs stay where the transaction is appended
    pub handed : (new : List (List ℕ)) (x : PendingChange) → Prepares s.hash (heard mid) mid new (reaches_in s (heard mid) tx) x
        → Prepares s.hash (record w { book = if is_some (tx_in x.change) then book else w.book }) old new (reaches s w next tx) x
    handed new x h = by_case refusal h
      where
        appended : (b : Bool) → is_some (tx_in x.change) ≡ b → (d : Pending) → Prepares s.hash (record w { book = if b then book else w.book }) old new d x
            → Prepares s.hash (record w { book = if is_some (tx_in x.change) then book else w.book }) old new d x
        appended b e d k = subst (λ c. Prepares s.hash (record w { book = if c then book else w.book }) old new d x) (sym e) k

        by_case : (o : Option Refusal) → Prepares s.hash (heard mid) mid new (heard_by mid o) x
            → Prepares s.hash (record w { book = if is_some (tx_in x.change) then book else w.book }) old new (by_refusal o) x
        by_case None k = appended true (ap is_some (ap (λ (d : Pending). d.tx) k.same)) (by_refusal None) (record {
          same = sym (as_pending-back next book mid (strings ++ items_of tx) x) ∙ ap (back next) k.same;
          hashed = hashed_again s.hash old mid strings clear first new (items_of tx) k.hashed;
          ready = ready_unheard s.hash next mid x.change k.ready;
        })
        by_case (Some r) k =
            let none : tx_in x.change ≡ None = ap (λ (d : Pending). d.tx) k.same in
            appended false (ap is_some none) (by_refusal (Some r)) (record {
              same = sym (as_pending-back w book mid strings x) ∙ ap (back w) k.same;
              hashed = subst (λ l. Hashed s.hash old new l) (append-nil strings)
                  (hashed_again s.hash old mid strings clear first new [] (subst (λ l. Hashed s.hash mid new l) (sym (append-nil strings)) k.hashed));
              ready = ready_unsigned s.hash w book mid x.change none k.ready;
            })
