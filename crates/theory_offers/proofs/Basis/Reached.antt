-- What the offers rest on, after a transaction that reaches the ledger.
use Rattle.std.proofs.Common.{◌≡◌, ℕ, List, [], ◌++◌, true, Some, None, refl, sym, ◌∙◌, subst, append-nil}
use Rattle.spec_bitcoin.specs.declared.tx.Tx.{Tx}
use Rattle.spec_bitcoin.specs.declared.verdict.Verdict.{Verdict}
use Rattle.spec_bitcoin.specs.declared.verdict.Verdict.TheVariants as verdicts
use Rattle.spec_bitcoin.specs.Keys.{Pair}
use Rattle.spec_bitcoin.specs.Digests.{txid}
use Rattle.spec_calculus.specs.Configuration.{Configuration}
use Rattle.spec_calculus.specs.Steps.{after_steps}
use Rattle.spec_compiler.specs.Instance.{Instance}
use Rattle.spec_compiler.specs.Endorsements.{is_endorsed}
use Rattle.spec_run.specs.declared.event.Event.{Event}
use Rattle.spec_run.specs.declared.outcome.Reason.TheVariants as reason
use Rattle.spec_run.specs.Setup.{Setup}
use Rattle.spec_run.specs.World.{World}
use Rattle.spec_run.specs.Compiled.{instance_of, compiled_instance}
use Rattle.spec_run.specs.Pending.{applied}
use Rattle.spec_data.specs.Messages.{noted_all}
use Rattle.spec_run.specs.Ledger.{Kind, verdict_in, strings_of, items_of, accepted, judged, reaches, initial_of, new_position, begun_after, kind_of, spend_from, made_from}
use Rattle.spec_run.specs.Signing.{signed_all, with_pairs}
use Rattle.spec_run.specs.Steps.{accepted_steps, steps_of}
use Rattle.theory_world.proofs.Ledger.Worth.{IsAccepted, accepted_by}
use Rattle.theory_world.proofs.Later.{lasts_spent, compiled_is, compiled_from, compiled_stays}
use Rattle.theory_run.specs.KeptBook.{KeptBook}
use Rattle.theory_offers.proofs.Basis.Offered.{KeptOffers}
use Rattle.theory_offers.proofs.Basis.Events.{signed_offers}
use Rattle.theory_offers.proofs.Basis.Opening.{quiet_offers}
use Rattle.theory_offers.proofs.Basis.Entered.{entered_offers}
use Rattle.theory_offers.proofs.Basis.EveryEvent.{refused_offers}
use Rattle.theory_world.proofs.Bookless.{initial_same, kind_same, steps_same}

-- a contract that begins is endorsed
abbrev pub BeginsEndorsed : Setup → World → Tx → Type 0
BeginsEndorsed s w tx = (k : ℕ) (st : Instance) → initial_of s w tx ≡ Some k → compiled_instance s w k ≡ Some st → is_endorsed s.hash st w.book ≡ true

module _ (s : Setup) (z : List (List ℕ)) (g : Configuration) (w : World) (kept : KeptBook s g w) (more : KeptOffers s g w) where
  module _ (tx : Tx) (spent : List ℕ) (is : IsAccepted s w tx spent) where
    abbrev next : World
    next = applied w (accepted s w tx spent)

    stays : (k : ℕ) (st : Instance) → compiled_instance s w k ≡ Some st → compiled_instance s next k ≡ Some st
    stays k st h =
        let c = compiled_is s w k st h in
        compiled_stays s w next [] [] k st (sym (append-nil w.advertised)) (sym (append-nil w.promises))
        (lasts_spent spent w.outputs (made_from (new_position s (kind_of s w tx spent)) (txid s.hash tx) 0 tx.outputs))
        (kept.adverts k c.advertised).made refl h

    no_others : (k : ℕ) (st : Instance) → compiled_instance s next k ≡ Some st → compiled_instance s w k ≡ Some st
    no_others k st h =
        let c = compiled_is s next k st h in
        let x : compiled_instance s w k ≡ Some (instance_of w k c.advert) = compiled_from s w k c.advert c.there c.advertised c.promised in
        let y : compiled_instance s next k ≡ Some (instance_of w k c.advert) = stays k (instance_of w k c.advert) x in
        x ∙ sym y ∙ h

    pub accepted_every : (e : Event) → BeginsEndorsed s w tx → KeptOffers s (after_steps g (steps_of s z g w next e (accepted s w tx spent))) next
    accepted_every e endorsed = entered_offers s g w kept more tx spent is stays no_others endorsed

  -- whatever the ledger says of it
  pub reaches_every : (e : Event) (tx : Tx) → BeginsEndorsed s w tx
      → KeptOffers s (after_steps g (steps_of s z g w (applied w (reaches s w w tx)) e (reaches s w w tx))) (applied w (reaches s w w tx))
  reaches_every e tx endorsed = by_verdict (verdict_in s w tx) refl
    where
      by_verdict : (v : Verdict) → verdict_in s w tx ≡ v
          → KeptOffers s (after_steps g (steps_of s z g w (applied w (judged s w w tx v)) e (judged s w w tx v))) (applied w (judged s w w tx v))
      by_verdict (verdicts.Refused r) h = refused_offers s z g w kept more e (strings_of s w tx) (reason.Ledger r)
      by_verdict (verdicts.Accepted spent made) h = accepted_every tx spent (accepted_by s w tx spent made h) e endorsed

-- a transaction whose signatures come with it, and which begins no contract; what is kept may rest on what it hashes
module _ (s : Setup) (z : List (List ℕ)) (g : Configuration) (w : World) (kept : KeptBook s g w) (more : KeptOffers s g w)
    (pairs : List Pair) (known : List (List ℕ)) (signed : KeptBook s g (record (with_pairs w pairs) { hashed = known })) where
  abbrev book : List Pair
  book = signed_all w.book pairs

  abbrev seen : World
  seen = record w { book = book; hashed = known }

  seen_more : KeptOffers s g seen
  seen_more = signed_offers s g w pairs known w.posted more

  -- the world after an accepted transaction of this kind
  abbrev entered : Tx → List ℕ → List (List ℕ) → Kind → World
  entered tx spent hashed kind = record w {
    outputs = spend_from 0 spent w.outputs ++ made_from (new_position s kind) (txid s.hash tx) 0 tx.outputs;
    begun = begun_after kind w.begun;
    book = book;
    hashed = hashed;
    posted = w.posted ++ items_of tx;
  }

  pub given_accepted : (e : Event) (tx : Tx) (spent : List ℕ) → IsAccepted s seen tx spent → initial_of s w tx ≡ None
      → KeptOffers s (after_steps g (steps_of s z g w (applied w (accepted s (with_pairs w pairs) tx spent)) e
      (accepted s (with_pairs w pairs) tx spent))) (applied w (accepted s (with_pairs w pairs) tx spent))
  given_accepted e tx spent is begins =
      let next = applied w (accepted s (with_pairs w pairs) tx spent) in
      let there = applied seen (accepted s seen tx spent) in
      let none : initial_of s seen tx ≡ None = initial_same s w book known tx 0 s.contracts ∙ begins in
      let k : KeptOffers s (after_steps g (accepted_steps s g seen there spent (Some tx))) there =
      accepted_every s z g seen signed seen_more tx spent is e (λ k st i c. let q = sym none ∙ i in cc) in
      let same : accepted_steps s g seen there spent (Some tx) ≡ accepted_steps s g w next spent (Some tx) =
      steps_same s w book known g there spent (Some tx) in
      let after_w : KeptOffers s (after_steps g (accepted_steps s g w next spent (Some tx))) there =
      subst (λ xs. KeptOffers s (after_steps g xs) there) same k in
      let g' = after_steps g (accepted_steps s g w next spent (Some tx)) in
      let heard = noted_all w.hashed (strings_of s w tx ++ items_of tx) in
      let changed : KeptOffers s g' (entered tx spent heard (kind_of s seen tx spent)) =
      quiet_offers s g' g' there book heard (w.posted ++ items_of tx) after_w after_w.constant (λ x d h. h) refl refl in
      subst (λ kind. KeptOffers s g' (entered tx spent heard kind)) (kind_same s w book known tx spent ∙ sym (kind_same s w book w.hashed tx spent)) changed

  pub given_every : (e : Event) (tx : Tx) → initial_of s w tx ≡ None
      → KeptOffers s (after_steps g (steps_of s z g w (applied w (reaches s w (with_pairs w pairs) tx)) e
      (reaches s w (with_pairs w pairs) tx))) (applied w (reaches s w (with_pairs w pairs) tx))
  given_every e tx begins = by_verdict (verdict_in s (with_pairs w pairs) tx) refl
    where
      by_verdict : (v : Verdict) → verdict_in s (with_pairs w pairs) tx ≡ v
          → KeptOffers s (after_steps g (steps_of s z g w (applied w (judged s w (with_pairs w pairs) tx v)) e
          (judged s w (with_pairs w pairs) tx v))) (applied w (judged s w (with_pairs w pairs) tx v))
      by_verdict (verdicts.Refused r) h = refused_offers s z g w kept more e (strings_of s (with_pairs w pairs) tx) (reason.Ledger r)
      by_verdict (verdicts.Accepted spent made) h = given_accepted e tx spent (accepted_by s seen tx spent made h) begins
