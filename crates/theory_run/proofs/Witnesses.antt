-- An accepted transaction posts what the witnesses of all its inputs hold.
use Rattle.std.proofs.Common.{◌≡◌, ◌⊎◌, ℕ, zero, suc, List, [], ◌∷◌, ◌++◌, true, Option, Some, None, Result, Ok, Err, refl, sym, ap, subst, ◌∙◌, inl, inr}
use Rattle.std.specs.Prelude.{slice_get, ◌||◌}
use Rattle.std.specs.List.{flat_map}
use Rattle.std.specs.Option.{option_map_or}
use Rattle.std.proofs.lemmas.Bool.{or_left, or_right, or_cases}
use Rattle.std.proofs.lemmas.List.Concat.{flat_map-cons}
use Rattle.spec_data.specs.Lists.{is_among, first_reason}
use Rattle.spec_data.specs.Messages.{collision}
use Rattle.spec_bitcoin.specs.declared.tx.TxIn.{TxIn}
use Rattle.spec_bitcoin.specs.declared.tx.Tx.{Tx}
use Rattle.spec_bitcoin.specs.declared.verdict.Verdict.{Verdict}
use Rattle.spec_bitcoin.specs.declared.verdict.Verdict.TheVariants as verdicts
use Rattle.spec_bitcoin.specs.Reading.{transaction_of}
use Rattle.spec_run.specs.declared.event.Event.{Event}
use Rattle.spec_run.specs.declared.event.Event.TheVariants as events
use Rattle.spec_run.specs.declared.header.HeldSecret.{HeldSecret}
use Rattle.spec_run.specs.declared.outcome.Reason.{Reason}
use Rattle.spec_run.specs.Setup.{Setup}
use Rattle.spec_run.specs.World.{World, live_position_at}
use Rattle.spec_run.specs.Pending.{Pending, Answer, Went, Halted, unless, applied, apply, guess}
use Rattle.spec_run.specs.Compiled.{compiled_instance}
use Rattle.spec_run.specs.Advertising.{advertise_row}
use Rattle.spec_run.specs.Committing.{commit_row, digest_row, committed_strings}
use Rattle.spec_run.specs.Signing.{endorse_row, init_row, authorise_row, sign_row, with_pairs}
use Rattle.spec_run.specs.Revealing.{reveal_row}
use Rattle.spec_run.specs.Giving.{give_row, given_pairs, gift}
use Rattle.spec_run.specs.Firing.{fire_init_row, fire_row, reaches_if, initial_by, taking_of_position}
use Rattle.spec_run.specs.Ledger.{items_of, judged, verdict_in, reaches}
use Rattle.spec_run.specs.Event.{append_read, mine_row, pending, event}
use Rattle.theory_calculus.proofs.Names.{among-append}
use Rattle.theory_run.specs.Witnesses.{IsShown, Posts, WitnessesArePosted}

-- ---- what a pending effect posts

-- where the pending effect has an accepted transaction, it posts the items of its witnesses
abbrev PostsItems : Pending → Type 0
PostsItems d = (tx : Tx) → d.tx ≡ Some tx → d.posts ≡ items_of tx

unless_posts : (w : World) (r : Option Reason) (hashes : List (List ℕ)) (d : Pending) → PostsItems d → PostsItems (unless r w hashes d)
unless_posts w None hashes d h = h
unless_posts w (Some r) hashes d h = λ tx e. cc

judged_posts : (s : Setup) (w signed : World) (given : Tx) (v : Verdict) → PostsItems (judged s w signed given v)
judged_posts s w signed given (verdicts.Accepted spent made) = λ tx e. ap (λ o. option_map_or items_of o []) e
judged_posts s w signed given (verdicts.Refused r) = λ tx e. cc

reaches_posts : (s : Setup) (w signed : World) (given : Tx) → PostsItems (reaches s w signed given)
reaches_posts s w signed given = judged_posts s w signed given (verdict_in s signed given)

reaches_if_posts : (s : Setup) (w : World) (given : Option Tx) → PostsItems (reaches_if s w given)
reaches_if_posts s w None = λ tx e. cc
reaches_if_posts s w (Some given) = reaches_posts s w w given

append_posts : (s : Setup) (w : World) (r : Result Tx ℕ) → PostsItems (append_read s w r)
append_posts s w (Ok given) = reaches_posts s w w given
append_posts s w (Err place) = λ tx e. cc

pending_posts : (s : Setup) (w : World) (e : Event) → PostsItems (pending s w e)
pending_posts s w (events.Advertise contract bindings) = unless_posts w (first_reason (advertise_row s w contract bindings)) [] _ (λ tx e. cc)
pending_posts s w (events.Commit contract party digests) =
    unless_posts w (first_reason (commit_row s w contract party digests)) [] _
    (unless_posts w (first_reason (digest_row s w contract party digests)) (committed_strings s contract party) _ (λ tx e. cc))
pending_posts s w (events.Endorse contract party) = unless_posts w (first_reason (endorse_row s w contract party)) [] _ (λ tx e. cc)
pending_posts s w (events.Init contract party) = unless_posts w (first_reason (init_row s w contract party)) [] _ (λ tx e. cc)
pending_posts s w (events.Authorise party output branch) =
    unless_posts w (first_reason (authorise_row s w party output branch)) [] _ (λ tx e. cc)
pending_posts s w (events.Reveal contract party secret) =
    unless_posts w (first_reason (reveal_row s w contract party secret)) [] _ (λ tx e. cc)
pending_posts s w (events.Post bytes) = λ tx e. cc
pending_posts s w (events.Sign party label digest) = unless_posts w (first_reason (sign_row s party label)) [] _ (λ tx e. cc)
pending_posts s w (events.Give party inputs outputs) =
    unless_posts w (first_reason (give_row s w party inputs outputs)) [] _
    (reaches_posts s w (with_pairs w (given_pairs s w party inputs outputs)) (gift s w party inputs outputs))
pending_posts s w (events.Append bytes) = append_posts s w (transaction_of bytes)
pending_posts s w (events.FireInit contract) =
    unless_posts w (first_reason (fire_init_row s w contract)) [] _ (reaches_if_posts s w (initial_by s (compiled_instance s w contract)))
pending_posts s w (events.Fire output branch) =
    unless_posts w (first_reason (fire_row s w output branch)) [] _
    (reaches_if_posts s w (taking_of_position s w (live_position_at w output) branch))
pending_posts s w (events.Mine blocks) = unless_posts w (first_reason (mine_row w blocks)) [] _ (λ tx e. cc)

-- ---- the items of a transaction, input by input

abbrev witnesses : List TxIn → List (List ℕ)
witnesses inputs = flat_map (λ i. i.witness) inputs

among-cons : (item : List ℕ) (i : TxIn) (is : List TxIn)
    → is_among item (witnesses (i ∷ is)) ≡ (is_among item i.witness || is_among item (witnesses is))
among-cons item i is = ap (is_among item) (flat_map-cons (λ (x : TxIn). x.witness) i is) ∙ among-append item i.witness (witnesses is)

item_there : (inputs : List TxIn) (number : ℕ) (input : TxIn) (item : List ℕ) → slice_get inputs number ≡ Some input
    → is_among item input.witness ≡ true → is_among item (witnesses inputs) ≡ true
item_there [] number input item e h = cc
item_there (i ∷ is) zero input item e h =
    let same : i ≡ input = ap (λ o. option_map_or (λ x. x) o i) e in
    among-cons item i is ∙ or_left (is_among item i.witness) _ (subst (λ (x : TxIn). is_among item x.witness ≡ true) (sym same) h)
item_there (i ∷ is) (suc number) input item e h =
    among-cons item i is ∙ or_right (is_among item i.witness) _ (item_there is number input item e h)

-- an input that holds the item
abbrev Holds : List TxIn → List ℕ → Type 0
Holds inputs item = (number : ℕ) × (input : TxIn) × (slice_get inputs number ≡ Some input) × (is_among item input.witness ≡ true)

item_held : (inputs : List TxIn) (item : List ℕ) → is_among item (witnesses inputs) ≡ true → Holds inputs item
item_held [] item h = cc
item_held (i ∷ is) item h =
    elim (or_cases (is_among item i.witness) (is_among item (witnesses is)) (sym (among-cons item i is) ∙ h)) as (λ _. Holds (i ∷ is) item) [
      | inl here ↦ (0, i, refl, here)
      | inr later ↦ (let r = item_held is item later in (suc (r.0), r.1, r.2, r.3))
    ]

-- ---- the event

posted_by : (w next : World) (tx : Tx) → next.posted ≡ w.posted ++ items_of tx → Posts w next tx
posted_by w next tx e = record {
  each = λ number input there item h.
      ap (is_among item) e ∙ among-append item w.posted (items_of tx)
      ∙ or_right (is_among item w.posted) _ (item_there tx.inputs number input item there h);
  stays = λ string h. ap (is_among string) e ∙ among-append string w.posted (items_of tx) ∙ or_left (is_among string w.posted) _ h;
  only = λ string h.
      elim (or_cases (is_among string w.posted) (is_among string (items_of tx))
      (sym (among-append string w.posted (items_of tx)) ∙ sym (ap (is_among string) e) ∙ h))
      as (λ _. (is_among string w.posted ≡ true) ⊎ IsShown tx string) [
        | inl before ↦ inl before
        | inr now ↦ (let r = item_held tx.inputs string now in inr (record { number = r.0; input = r.1; there = r.2; item = r.3 }))
      ];
}

-- what an event that went on has come to, and the world that it left
abbrev GoesTo : World → Pending → Answer → Type 0
GoesTo w d (Went e next) = (e ≡ d) × (next ≡ applied w d)
GoesTo w d (Halted halt) = Unit {0}

apply_goes : (w : World) (d : Pending) (pair : Option (List ℕ × List ℕ)) (held : Option HeldSecret) → GoesTo w d (apply w d pair held)
apply_goes w d (Some pair) held = tt
apply_goes w d None (Some held) = tt
apply_goes w d None None = (refl, refl)

pub witnesses_are_posted : WitnessesArePosted
witnesses_are_posted s w next e d tx went accepted =
    let x = pending s w e in
    let goes : GoesTo w x (event s w e) =
    apply_goes w x (collision s.hash w.hashed x.hashes) (guess s w.posted x.posts x.allowed) in
    let both : (d ≡ x) × (next ≡ applied w x) = subst (GoesTo w x) went goes in
    let posts : x.posts ≡ items_of tx = pending_posts s w e tx (sym (ap (λ (y : Pending). y.tx) both.0) ∙ accepted) in
    posted_by w next tx (ap (λ (y : World). y.posted) both.1 ∙ ap (λ ps. w.posted ++ ps) posts)
