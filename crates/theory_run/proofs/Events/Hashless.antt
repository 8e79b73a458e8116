-- What an event comes to doesn't hang on what was hashed.
use Rattle.std.proofs.Common.{◌≡◌, ℕ, ◌+◌, List, [], ◌∷◌, ◌++◌, Option, Some, None, Result, Ok, Err, refl, ap, ◌∙◌}
use Rattle.std.specs.Prelude.{is_some, if◌then◌else◌}
use Rattle.spec_terms.specs.Term as term
use Rattle.spec_bitcoin.specs.declared.tx.Tx.{Tx}
use Rattle.spec_bitcoin.specs.declared.verdict.Verdict.{Verdict}
use Rattle.spec_bitcoin.specs.declared.verdict.Verdict.TheVariants as verdicts
use Rattle.spec_bitcoin.specs.Keys.{Pair, key_of, label_text}
use Rattle.spec_bitcoin.specs.Reading.{transaction_of}
use Rattle.spec_data.specs.Lists.{first_reason}
use Rattle.spec_compiler.specs.Instance.{Instance}
use Rattle.spec_run.specs.declared.event.Event.{Event}
use Rattle.spec_run.specs.declared.event.Event.TheVariants as events
use Rattle.spec_run.specs.declared.outcome.Reason.{Reason}
use Rattle.spec_run.specs.Setup.{Setup, contract_at}
use Rattle.spec_run.specs.World.{ContractPosition, World, live_position_at}
use Rattle.spec_run.specs.Pending.{Pending, unless, done, posting}
use Rattle.spec_run.specs.Compiled.{compiled_instance}
use Rattle.spec_run.specs.Advertising.{arranged, deposit_names, advertise_row}
use Rattle.spec_run.specs.Committing.{commit_row, digest_row, committed_strings, with_promise, committed_pending, strings_compiled}
use Rattle.spec_run.specs.Signing.{with_pairs, endorse_row, endorsing_pairs, init_row, initial_pairs, authorise_row, authorising_pairs, sign_row}
use Rattle.spec_run.specs.Signing.{branch_if_live, branch_pair, prepared_if_compiled}
use Rattle.spec_run.specs.Giving.{give_row, given_pairs, gift}
use Rattle.spec_run.specs.Firing.{first_unshown, shown_string, unknown_secret, position_instance, unknown_at, fire_row, fire_init_row}
use Rattle.spec_run.specs.Firing.{reaches_if, initial_by, taking_of_position, taking_of_parts}
use Rattle.spec_run.specs.Ledger.{judged, verdict_in, contract_in, position_path, reaches}
use Rattle.spec_run.specs.Event.{append_read, mine_row, pending}
use Rattle.spec_run.specs.Revealing.{reveal_row, own_secret}
use Rattle.theory_world.proofs.Bookless.{compiled_same, kind_same}

-- a pending effect in a world with other messages
abbrev pub carried : List (List ℕ) → Pending → Pending
carried hs d = record d { world = record d.world { hashed = hs } }

module _ (s : Setup) (w : World) (hs : List (List ℕ)) where
  abbrev more : World
  more = record w { hashed = hs }

  instance_same : (k : ℕ) → compiled_instance s more k ≡ compiled_instance s w k
  instance_same k = compiled_same s w w.book hs k

  unless_same : (r : Option Reason) (hashes : List (List ℕ)) (d : Pending)
      → unless r more hashes (carried hs d) ≡ carried hs (unless r w hashes d)
  unless_same None hashes d = refl
  unless_same (Some reason) hashes d = refl

  judged_same : (book : List Pair) (tx : Tx) (v : Verdict)
      → judged s more (record more { book = book }) tx v ≡ carried hs (judged s w (record w { book = book }) tx v)
  judged_same book tx (verdicts.Accepted spent made) = rw (kind_same s (record w { book = book }) book hs tx spent) refl
  judged_same book tx (verdicts.Refused refusal) = refl

  reaches_same : (tx : Option Tx) → reaches_if s more tx ≡ carried hs (reaches_if s w tx)
  reaches_same None = refl
  reaches_same (Some tx) = judged_same w.book tx (verdict_in s w tx)

  unshown_same : (instance : Instance) (names : List (List ℕ)) → first_unshown s more instance names ≡ first_unshown s w instance names
  unshown_same instance [] = refl
  unshown_same instance (name ∷ names) =
      ap (λ o. if is_some (shown_string s w instance name) then o else Some name) (unshown_same instance names)

  secret_same : (o : Option Instance) (b : Option term.Guarded) → unknown_secret s more o b ≡ unknown_secret s w o b
  secret_same None b = refl
  secret_same (Some instance) b = unshown_same instance _

  held_same : (o : Option ContractPosition) → position_instance s more o ≡ position_instance s w o
  held_same None = refl
  held_same (Some held) = instance_same held.contract

  unknown_same : (n i : ℕ) → unknown_at s more n i ≡ unknown_at s w n i
  unknown_same n i =
      let b = branch_if_live s (live_position_at w n) i in
      ap (λ o. unknown_secret s more o b) (held_same (live_position_at w n)) ∙ secret_same (position_instance s w (live_position_at w n)) b

  pairs_same : (party : List ℕ) (o : Option ContractPosition) (branch : ℕ)
      → authorising_pairs s more party o branch ≡ authorising_pairs s w party o branch
  pairs_same party None branch = refl
  pairs_same party (Some held) branch =
      ap (λ o. branch_pair s party held.contract (position_path held branch) (prepared_if_compiled s o (position_path held branch)))
      (instance_same held.contract)

  taking_same : (o : Option ContractPosition) (branch : ℕ) → taking_of_position s more o branch ≡ taking_of_position s w o branch
  taking_same None branch = refl
  taking_same (Some held) branch = rw (instance_same held.contract)
      (parts_same held branch (compiled_instance s w held.contract) (contract_in (contract_at s held.contract) held.position) _ _)
    where
      parts_same : (held : ContractPosition) (branch : ℕ) (o : Option Instance) (c : Option term.Contract) (b : Option term.Guarded)
          (m : Option _)
          → taking_of_parts s more held branch o c b m ≡ taking_of_parts s w held branch o c b m
      parts_same held branch None c b m = refl
      parts_same held branch (Some instance) None b m = refl
      parts_same held branch (Some instance) (Some choice) None m = refl
      parts_same held branch (Some instance) (Some choice) (Some b) None = refl
      parts_same held branch (Some instance) (Some choice) (Some b) (Some made) = refl

  commit_same : (k : ℕ) (party : List ℕ) (digests : List (List ℕ × List ℕ))
      → pending s more (events.Commit k party digests) ≡ carried hs (pending s w (events.Commit k party digests))
  commit_same k party digests =
      let next = with_promise s w k party digests in
      let strings = committed_strings s k party in
      let done_same : committed_pending s (record next { hashed = hs }) k party strings ≡ carried hs
      (committed_pending s next k party strings) =
      ap (λ o. done (record next { hashed = hs }) (strings ++ strings_compiled s o)) (compiled_same s next next.book hs k) in
      ap (λ d. unless (first_reason (commit_row s w k party digests)) more []
      (unless (first_reason (digest_row s w k party digests)) more strings d)) done_same
      ∙ (ap (unless (first_reason (commit_row s w k party digests)) more [])
      (unless_same (first_reason (digest_row s w k party digests)) strings (committed_pending s next k party strings))
      ∙ unless_same (first_reason (commit_row s w k party digests)) [] _)

  endorse_same : (k : ℕ) (party : List ℕ) → pending s more (events.Endorse k party) ≡ carried hs (pending s w (events.Endorse k party))
  endorse_same k party = rw (instance_same k)
      (unless_same (first_reason (endorse_row s w k party)) [] (done (with_pairs w (endorsing_pairs s party (compiled_instance s w k))) []))

  init_same : (k : ℕ) (party : List ℕ) → pending s more (events.Init k party) ≡ carried hs (pending s w (events.Init k party))
  init_same k party = rw (instance_same k)
      (unless_same (first_reason (init_row s w k party)) [] (done (with_pairs w (initial_pairs s party (compiled_instance s w k))) []))

  authorise_same : (party : List ℕ) (n i : ℕ)
      → pending s more (events.Authorise party n i) ≡ carried hs (pending s w (events.Authorise party n i))
  authorise_same party n i =
      ap (λ ps. unless (first_reason (authorise_row s w party n i)) more [] (done (with_pairs more ps) []))
      (pairs_same party (live_position_at w n) i)
      ∙ unless_same (first_reason (authorise_row s w party n i)) []
      (done (with_pairs w (authorising_pairs s w party (live_position_at w n) i)) [])

  begin_same : (k : ℕ) → pending s more (events.FireInit k) ≡ carried hs (pending s w (events.FireInit k))
  begin_same k = rw (instance_same k) (
      ap (unless (first_reason (fire_init_row s w k)) more []) (reaches_same (initial_by s (compiled_instance s w k)))
      ∙ unless_same (first_reason (fire_init_row s w k)) [] (reaches_if s w (initial_by s (compiled_instance s w k))))

  fire_same : (n i : ℕ) → pending s more (events.Fire n i) ≡ carried hs (pending s w (events.Fire n i))
  fire_same n i = rw (unknown_same n i, taking_same (live_position_at w n) i) (
      ap (unless (first_reason (fire_row s w n i)) more []) (reaches_same (taking_of_position s w (live_position_at w n) i))
      ∙ unless_same (first_reason (fire_row s w n i)) [] (reaches_if s w (taking_of_position s w (live_position_at w n) i)))

  reveal_same : (k : ℕ) (party secret : List ℕ)
      → pending s more (events.Reveal k party secret) ≡ carried hs (pending s w (events.Reveal k party secret))
  reveal_same k party secret =
      unless_same (first_reason (reveal_row s w k party secret)) []
      (posting w (own_secret s party secret) (Some (party, secret)))

  read_same : (r : Result Tx ℕ) → append_read s more r ≡ carried hs (append_read s w r)
  read_same (Ok tx) = judged_same w.book tx (verdict_in s w tx)
  read_same (Err place) = refl

  give_same : (party : List ℕ) (inputs : List ℕ) (outputs : List (List ℕ × ℕ))
      → pending s more (events.Give party inputs outputs) ≡ carried hs (pending s w (events.Give party inputs outputs))
  give_same party inputs outputs =
      let signed = with_pairs w (given_pairs s w party inputs outputs) in
      let tx = gift s w party inputs outputs in
      ap (unless (first_reason (give_row s w party inputs outputs)) more []) (judged_same signed.book tx (verdict_in s signed tx))
      ∙ unless_same (first_reason (give_row s w party inputs outputs)) [] (reaches s w signed tx)

  pub pending_same : (e : Event) → pending s more e ≡ carried hs (pending s w e)
  pending_same (events.Advertise contract bindings) =
      unless_same (first_reason (advertise_row s w contract bindings)) []
      (done (record w {
        advertised = w.advertised ++ record
            { contract = contract; bindings = arranged 0 (deposit_names s contract) bindings } ∷ [];
      }) [])
  pending_same (events.Commit contract party digests) = commit_same contract party digests
  pending_same (events.Endorse contract party) = endorse_same contract party
  pending_same (events.Init contract party) = init_same contract party
  pending_same (events.Authorise party output branch) = authorise_same party output branch
  pending_same (events.Reveal contract party secret) = reveal_same contract party secret
  pending_same (events.Post bytes) = refl
  pending_same (events.Sign party label digest) =
      unless_same (first_reason (sign_row s party label)) []
      (done (with_pairs w ((key_of s.hash label, digest) ∷ [])) (label_text label ∷ []))
  pending_same (events.Give party inputs outputs) = give_same party inputs outputs
  pending_same (events.Append bytes) = read_same (transaction_of bytes)
  pending_same (events.FireInit contract) = begin_same contract
  pending_same (events.Fire output branch) = fire_same output branch
  pending_same (events.Mine blocks) = unless_same (first_reason (mine_row w blocks)) [] (done (record w { tip = w.tip + blocks }) [])
