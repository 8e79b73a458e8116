-- What an event may post: its owner's secret where it reveals it, and no other.
use Rattle.std.proofs.Common.{◌≡◌, ℕ, List, [], true, Option, Some, None, Ok, Err, refl, ap, ◌∙◌}
use Rattle.std.specs.Prelude.{Result}
use Rattle.std.specs.Str.{bytes_eq}
use Rattle.std.proofs.lemmas.Bool.{and_parts, and_from}
use Rattle.spec_data.specs.Lists.{is_among, first_reason}
use Rattle.spec_bitcoin.specs.declared.tx.Tx.{Tx}
use Rattle.spec_bitcoin.specs.declared.verdict.Verdict.{Verdict}
use Rattle.spec_bitcoin.specs.declared.verdict.Verdict.TheVariants as verdicts
use Rattle.spec_bitcoin.specs.Reading.{transaction_of}
use Rattle.spec_run.specs.declared.event.Event.{Event}
use Rattle.spec_run.specs.declared.event.Event.TheVariants as events
use Rattle.spec_run.specs.declared.header.HeldSecret.{HeldSecret}
use Rattle.spec_run.specs.declared.outcome.Reason.{Reason}
use Rattle.spec_run.specs.Setup.{Setup}
use Rattle.spec_run.specs.World.{World, live_position_at}
use Rattle.spec_run.specs.Pending.{Pending, unless, posting, is_allowed}
use Rattle.spec_run.specs.Compiled.{compiled_instance}
use Rattle.spec_run.specs.Advertising.{advertise_row}
use Rattle.spec_run.specs.Committing.{commit_row, digest_row, committed_strings, committed_pending, with_promise}
use Rattle.spec_run.specs.Signing.{with_pairs, endorse_row, init_row, authorise_row, sign_row}
use Rattle.spec_run.specs.Giving.{give_row, given_pairs, gift}
use Rattle.spec_run.specs.Revealing.{own_secret, reveal_row}
use Rattle.spec_run.specs.Firing.{reaches_if, initial_by, taking_of_position, fire_init_row, fire_row}
use Rattle.spec_run.specs.Ledger.{judged, verdict_in, reaches}
use Rattle.spec_run.specs.Event.{append_read, mine_row, pending}
use Rattle.spec_run.specs.Halting.{IsOwnReveal}
use Rattle.theory_calculus.proofs.Names.{bytes-true, bytes_refl}

-- ---- pending effects that may post nobody's secret

unless_none : (r : Option Reason) (w : World) (hashes : List (List ℕ)) (d : Pending) → d.allowed ≡ None → (unless r w hashes d).allowed ≡ None
unless_none None w hashes d h = h
unless_none (Some r) w hashes d h = refl

reaches_none : (s : Setup) (w signed : World) (tx : Tx) → (reaches s w signed tx).allowed ≡ None
reaches_none s w signed tx = by_verdict (verdict_in s signed tx)
  where
    by_verdict : (v : Verdict) → (judged s w signed tx v).allowed ≡ None
    by_verdict (verdicts.Accepted spent made) = refl
    by_verdict (verdicts.Refused r) = refl

reaches_if_none : (s : Setup) (w : World) (tx : Option Tx) → (reaches_if s w tx).allowed ≡ None
reaches_if_none s w None = refl
reaches_if_none s w (Some tx) = reaches_none s w w tx

read_none : (s : Setup) (w : World) (r : Result Tx ℕ) → (append_read s w r).allowed ≡ None
read_none s w (Ok tx) = reaches_none s w w tx
read_none s w (Err place) = refl

-- ---- secrets that may be posted

not_none : (o : Option (List ℕ × List ℕ)) (x : HeldSecret) → o ≡ None → is_allowed o x ≡ true → ⊥
not_none None x h k = cc
not_none (Some p) x h k = cc

-- where the reveal is refused nothing may be posted
revealed_own : (s : Setup) (w : World) (contract : ℕ) (party name : List ℕ) (x : HeldSecret) (r : Option Reason)
    → is_allowed (unless r w [] (posting w (own_secret s party name) (Some (party, name)))).allowed x ≡ true
    → (party ≡ x.party) × (name ≡ x.name)
revealed_own s w contract party name x None h =
    let a = and_parts (bytes_eq party x.party) (bytes_eq name x.name) h in
    (bytes-true party x.party a.0, bytes-true name x.name a.1)
revealed_own s w contract party name x (Some r) h = cc

own_revealed : (s : Setup) (w : World) (contract : ℕ) (party name : List ℕ) (x : HeldSecret) (r : Option Reason) → party ≡ x.party
    → name ≡ x.name
    → is_among x.bytes (unless r w [] (posting w (own_secret s party name) (Some (party, name)))).posts ≡ true
    → is_allowed (unless r w [] (posting w (own_secret s party name) (Some (party, name)))).allowed x ≡ true
own_revealed s w contract party name x None p n h =
    and_from _ _ (ap (λ a. bytes_eq a x.party) p ∙ bytes_refl x.party) (ap (λ a. bytes_eq a x.name) n ∙ bytes_refl x.name)
own_revealed s w contract party name x (Some r) p n h = cc

module _ (s : Setup) (w : World) where
  -- what may be posted is the owner's own reveal
  pub own_allowed : (e : Event) (x : HeldSecret) → is_allowed (pending s w e).allowed x ≡ true → IsOwnReveal e x
  own_allowed (events.Reveal contract party name) x h =
      revealed_own s w contract party name x (first_reason (reveal_row s w contract party name)) h
  own_allowed (events.Advertise contract bindings) x h =
      not_none _ x (unless_none (first_reason (advertise_row s w contract bindings)) w [] _ refl) h
  own_allowed (events.Commit contract party digests) x h =
      let strings = committed_strings s contract party in
      let last = committed_pending s (with_promise s w contract party digests) contract party strings in
      not_none _ x (unless_none (first_reason (commit_row s w contract party digests)) w [] _
      (unless_none (first_reason (digest_row s w contract party digests)) w strings last refl)) h
  own_allowed (events.Endorse contract party) x h = not_none _ x (unless_none (first_reason (endorse_row s w contract party)) w [] _ refl) h
  own_allowed (events.Init contract party) x h = not_none _ x (unless_none (first_reason (init_row s w contract party)) w [] _ refl) h
  own_allowed (events.Authorise party output branch) x h =
      not_none _ x (unless_none (first_reason (authorise_row s w party output branch)) w [] _ refl) h
  own_allowed (events.Post bytes) x h = cc
  own_allowed (events.Sign party label digest) x h = not_none _ x (unless_none (first_reason (sign_row s party label)) w [] _ refl) h
  own_allowed (events.Give party inputs outputs) x h =
      let signed = with_pairs w (given_pairs s w party inputs outputs) in
      not_none _ x (unless_none (first_reason (give_row s w party inputs outputs)) w [] _
      (reaches_none s w signed (gift s w party inputs outputs))) h
  own_allowed (events.Append bytes) x h = not_none _ x (read_none s w (transaction_of bytes)) h
  own_allowed (events.FireInit contract) x h =
      not_none _ x (unless_none (first_reason (fire_init_row s w contract)) w [] _
      (reaches_if_none s w (initial_by s (compiled_instance s w contract)))) h
  own_allowed (events.Fire output branch) x h =
      not_none _ x (unless_none (first_reason (fire_row s w output branch)) w [] _
      (reaches_if_none s w (taking_of_position s w (live_position_at w output) branch))) h
  own_allowed (events.Mine blocks) x h = not_none _ x (unless_none (first_reason (mine_row w blocks)) w [] _ refl) h

  -- and what the owner's own reveal posts may be posted
  pub allowed_own : (e : Event) (x : HeldSecret) → IsOwnReveal e x → is_among x.bytes (pending s w e).posts ≡ true
      → is_allowed (pending s w e).allowed x ≡ true
  allowed_own (events.Reveal contract party name) x own h =
      own_revealed s w contract party name x (first_reason (reveal_row s w contract party name)) own.0 own.1 h
  allowed_own (events.Advertise contract bindings) x own h = absurd own
  allowed_own (events.Commit contract party digests) x own h = absurd own
  allowed_own (events.Endorse contract party) x own h = absurd own
  allowed_own (events.Init contract party) x own h = absurd own
  allowed_own (events.Authorise party output branch) x own h = absurd own
  allowed_own (events.Post bytes) x own h = absurd own
  allowed_own (events.Sign party label digest) x own h = absurd own
  allowed_own (events.Give party inputs outputs) x own h = absurd own
  allowed_own (events.Append bytes) x own h = absurd own
  allowed_own (events.FireInit contract) x own h = absurd own
  allowed_own (events.Fire output branch) x own h = absurd own
  allowed_own (events.Mine blocks) x own h = absurd own
