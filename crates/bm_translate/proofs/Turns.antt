-- The steps of an event are those of the definitions.
use Rattle.std.proofs.Common.{◌≡◌, ℕ, List, [], ◌∷◌, ◌++◌, map, refl, sym, ap, ◌∙◌, subst, append-nil}
use Rattle.spec_calculus.specs.declared.step.Step.TheVariants as steps
use Rattle.spec_run.specs.declared.event.Event.{Event}
use Rattle.spec_run.specs.declared.event.Event.TheVariants as events
use Rattle.spec_run.specs.declared.outcome.Outcome.{Outcome}
use Rattle.spec_run.specs.declared.outcome.Outcome.TheVariants as outcomes
use Rattle.spec_run.specs.declared.outcome.Record.{Record}
use Rattle.spec_run.specs.Setup.{Setup}
use Rattle.spec_run.specs.World.{World, bindings_at}
use Rattle.spec_run.specs.Committing.{secrets_at, committed_digests}
use Rattle.spec_run.specs.Event.{pending}
use Rattle.spec_run.specs.Steps.{reveals, commit_lengths, done_steps}
use Rattle.bm_exchange.specs.Exchanged.{digests_by}
use Rattle.bm_world_board.specs.declared.board.Board.{Board}
use Rattle.bm_translate.specs.declared.running.Running.{Running}
use Rattle.bm_translate.specs.Shown.{posts_by, posts_of, noted, watched_all, revealed_by, revealed_of}
use Rattle.bm_translate.specs.Lengths.{lengths_by}
use Rattle.bm_translate.specs.Moments.{IsTurn, IsAccepted}
use Rattle.bm_translate.proofs.Left.{Left, left, promise_of, promises_by, told_of, adverts_by, IsFresh, DoneFresh}
use Rattle.bm_translate.proofs.Revealing.{reveals_are, reveals_out, noted_all}
use Rattle.bm_translate.proofs.Telling.{bindings_told, digests_told, lengths_are}

module _ (s : Setup) (b : Board) (messages : List (List ℕ)) (f w next : World) (r : Running) (x : Record)
    (turn : IsTurn s b messages f w next r x) where
  outcome_is : (pending s w x.event).outcome ≡ x.outcome
  outcome_is = sym (ap (λ (y : Record). y.outcome) turn.passed)

  leaves : Left s w x.event (pending s w x.event)
  leaves = left s w x.event

  -- ---- what it leaves

  pub posts_are : next.posted ≡ w.posted ++ posts_of b.header.secrets x
  posts_are =
      let h : s.header ≡ b.header = sym turn.before.end.header in
      let t = sym (ap (λ (y : Record). y.tx) turn.passed) in
      ap (λ (v : World). v.posted) turn.left
      ∙ ap (λ ts. w.posted ++ ts) (leaves.posts ∙ (λ i. posts_by (h i).secrets x.event (t i) (outcome_is i)))

  promises_are : next.promises ≡ w.promises ++ promises_by s x.event x.outcome
  promises_are =
      ap (λ (v : World). v.promises) turn.left ∙ leaves.promises ∙ ap (λ o. w.promises ++ promises_by s x.event o) outcome_is

  adverts_are : next.advertised ≡ w.advertised ++ adverts_by s x.event x.outcome
  adverts_are =
      ap (λ (v : World). v.advertised) turn.left ∙ leaves.advertised ∙ ap (λ o. w.advertised ++ adverts_by s x.event o) outcome_is

  fresh : IsFresh s w x.event x.outcome
  fresh = subst (λ o. IsFresh s w x.event o) outcome_is leaves.fresh

  -- what is waited for after it
  pub secrets_after : map (noted (posts_of b.header.secrets x)) r.secrets
      ≡ watched_all s.hash messages b.exchange.promises next.posted s.contracts
  secrets_after =
      ap (map (noted (posts_of b.header.secrets x))) turn.before.secrets
      ∙ noted_all s.hash messages b.exchange.promises w.posted (posts_of b.header.secrets x) s.contracts
      ∙ ap (λ ts. watched_all s.hash messages b.exchange.promises ts s.contracts) (sym posts_are)

  -- ---- what is revealed

  -- by an event that commits nothing
  pub reveals_now : promises_by s x.event x.outcome ≡ []
      → revealed_by r.config.committed (posts_of b.header.secrets x) r.secrets ≡ reveals s w next
  reveals_now none =
      let m = turn.before.later.promises in
      let l = turn.later.posted in
      let e = turn.before.secrets
      ∙ ap (λ ps. watched_all s.hash messages ps w.posted s.contracts) (turn.before.end.promises ∙ m.1) in
      ap (revealed_by r.config.committed (posts_of b.header.secrets x)) e
      ∙ reveals_are s messages f.posted turn.before.end.heard f.posted r.config w next m.0 (posts_of b.header.secrets x) l.0
      turn.before.kept.tracks.secrets.lengths (promises_are ∙ ap (λ ps. w.promises ++ ps) none ∙ append-nil w.promises) posts_are l.1

  -- by an accepted transaction
  pub accepted_reveals : IsAccepted x.outcome → revealed_by r.config.committed (posts_of b.header.secrets x) r.secrets ≡ reveals s w next
  accepted_reveals is = reveals_now (nothing_promised x.event x.outcome is)
    where
      nothing_promised : (e : Event) (o : Outcome) → IsAccepted o → promises_by s e o ≡ []
      nothing_promised e outcomes.Done h = absurd h
      nothing_promised e (outcomes.Accepted spent made lock) h = refl
      nothing_promised e (outcomes.Refused reason) h = absurd h

  -- ---- events that are done

  module _ (done : x.outcome ≡ outcomes.Done) where
    done_fresh : DoneFresh s w x.event
    done_fresh = subst (λ o. IsFresh s w x.event o) done fresh

    pub advertises : (k : ℕ) (bs : List (List ℕ × ℕ)) → x.event ≡ events.Advertise k bs
        → bindings_at b.exchange.advertised k ≡ (told_of s k bs).bindings
    advertises k bs is =
        let m = turn.later.advertised in
        let new = subst (λ e. DoneFresh s w e) is done_fresh in
        let told : next.advertised ≡ w.advertised ++ told_of s k bs ∷ [] =
        adverts_are ∙ (λ i. w.advertised ++ adverts_by s (is i) (done i)) in
        ap (λ told. bindings_at told k) (turn.before.end.advertised ∙ m.1 ∙ ap (λ adverts. adverts ++ m.0) told)
        ∙ bindings_told w.advertised m.0 (told_of s k bs) new

    module _ (k : ℕ) (party : List ℕ) (ds : List (List ℕ × List ℕ)) (is : x.event ≡ events.Commit k party ds) where
      new : DoneFresh s w (events.Commit k party ds)
      new = subst (λ e. DoneFresh s w e) is done_fresh

      promised : next.promises ≡ w.promises ++ promise_of s k party ds ∷ []
      promised = promises_are ∙ (λ i. w.promises ++ promises_by s (is i) (done i))

      posts_none : next.posted ≡ w.posted
      posts_none = posts_are ∙ (λ i. w.posted ++ posts_by b.header.secrets (is i) x.tx (done i)) ∙ append-nil w.posted

      -- what was committed
      pub commits : digests_by b.exchange.promises k party ≡ (promise_of s k party ds).digests
      commits =
          let m = turn.later.promises in
          ap (λ ps. digests_by ps k party) (turn.before.end.promises ∙ m.1 ∙ ap (λ ps. ps ++ m.0) promised)
          ∙ digests_told w.promises m.0 (promise_of s k party ds) new.0

      -- its lengths
      pub lengths_of_commit : lengths_by s.hash b.header messages b.exchange.posted party (digests_by b.exchange.promises k party)
          ≡ commit_lengths s f.posted k party ds
      lengths_of_commit =
          (λ i. lengths_by s.hash (turn.before.end.header i) messages (turn.before.end.posted i) party (commits i))
          ∙ lengths_are s messages f.posted turn.before.end.heard party (secrets_at s k party) (committed_digests s k party ds) new.1

      -- and what it reveals
      pub reveals_of_commit : revealed_of k party r.secrets ≡ reveals s w next
      reveals_of_commit =
          let m = turn.later.promises in
          let l = turn.later.posted in
          let e = turn.before.secrets
          ∙ ap (λ ps. watched_all s.hash messages ps w.posted s.contracts) (turn.before.end.promises ∙ m.1) in
          ap (revealed_of k party) e
          ∙ reveals_out s messages f.posted turn.before.end.heard w next (promise_of s k party ds) m.0 l.0 new.0 promised posts_none l.1

    -- ---- and so the steps are those of the definitions

    pub advertise_are : (k : ℕ) (bs : List (List ℕ × ℕ)) → x.event ≡ events.Advertise k bs
        → steps.Advertise k (bindings_at b.exchange.advertised k) ∷ [] ≡ done_steps s f.posted w next x.event
    advertise_are k bs is =
        ap (λ told. steps.Advertise k told ∷ []) (advertises k bs is) ∙ sym (ap (done_steps s f.posted w next) is)

    pub commit_are : (k : ℕ) (party : List ℕ) (ds : List (List ℕ × List ℕ)) → x.event ≡ events.Commit k party ds
        → steps.Commit k party (lengths_by s.hash b.header messages b.exchange.posted party (digests_by b.exchange.promises k party))
        ∷ revealed_of k party r.secrets ≡ done_steps s f.posted w next x.event
    commit_are k party ds is =
        (λ i. steps.Commit k party (lengths_of_commit k party ds is i) ∷ reveals_of_commit k party ds is i)
        ∙ sym (ap (done_steps s f.posted w next) is)

    pub reveal_are : (k : ℕ) (party secret : List ℕ) → x.event ≡ events.Reveal k party secret
        → revealed_by r.config.committed (posts_of b.header.secrets x) r.secrets ≡ done_steps s f.posted w next x.event
    reveal_are k party secret is =
        reveals_now (λ i. promises_by s (is i) (done i)) ∙ sym (ap (done_steps s f.posted w next) is)

    pub post_are : (bytes : List ℕ) → x.event ≡ events.Post bytes
        → revealed_by r.config.committed (posts_of b.header.secrets x) r.secrets ≡ done_steps s f.posted w next x.event
    post_are bytes is = reveals_now (λ i. promises_by s (is i) (done i)) ∙ sym (ap (done_steps s f.posted w next) is)
