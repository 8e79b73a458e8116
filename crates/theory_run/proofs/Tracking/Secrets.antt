-- The configuration tracks the world where a string is posted, a secret is revealed or secrets are committed.
use Rattle.std.proofs.Common.{◌≡◌, ℕ, List, [], ◌∷◌, ◌++◌, map, true, Option, Some, None, refl, sym, ap, ◌∙◌, subst}
use Rattle.std.specs.Prelude.{is_some}
use Rattle.std.specs.Str.{bytes_eq}
use Rattle.std.proofs.lemmas.Bool.{and_parts, not-false}
use Rattle.spec_data.specs.Lists.{is_among, first_reason}
use Rattle.spec_data.proofs.ListLemmas.{no_reason-none_true}
use Rattle.spec_calculus.specs.declared.parts.Revealed.{Revealed}
use Rattle.spec_calculus.specs.declared.step.Step.{Step}
use Rattle.spec_calculus.specs.declared.step.Step.TheVariants as steps
use Rattle.spec_calculus.specs.Configuration.{Configuration}
use Rattle.spec_calculus.specs.Steps.{effect, after_steps, Legal}
use Rattle.spec_run.specs.declared.event.Event.{Event}
use Rattle.spec_run.specs.declared.event.Event.TheVariants as events
use Rattle.spec_run.specs.Setup.{Setup, is_honest, held_secret}
use Rattle.spec_run.specs.World.{World}
use Rattle.spec_run.specs.Compiled.{compiled_instance}
use Rattle.spec_run.specs.Pending.{posting, applied}
use Rattle.spec_run.specs.Committing.{used_digests, committed_strings, commit_row, digest_row, with_promise, strings_compiled, committed_pending, commit_pending}
use Rattle.spec_run.specs.Revealing.{own_secret, reveal_row, reveal_pending}
use Rattle.spec_run.specs.Secrets.{all_secrets, digest_at, newly_shown}
use Rattle.spec_run.specs.Steps.{reveal_step, reveals, commit_lengths, steps_of}
use Rattle.theory_calculus.proofs.Names.{bytes-true}
use Rattle.theory_world.proofs.Hashed.{among_left}
use Rattle.theory_run.proofs.Facts.Secrets.{different_secrets, after-reveals}
use Rattle.theory_world.proofs.Once.{at_used}
use Rattle.theory_run.specs.Tracks.{AgreeOnMoney, Constant, Tracks}
use Rattle.theory_run.specs.KeptSecrets.{KeptSecrets}
use Rattle.theory_run.proofs.Facts.Posting.{allows, posted, is_own-some}
use Rattle.theory_run.proofs.Steps.CommitSteps.{legal_all, kept_commit}
use Rattle.theory_run.proofs.Tracking.Tracked.{Tracked, unless_tracked}

-- what secrets are revealed changes nothing else
pub shown_tracks : (s : Setup) (z : List (List ℕ)) (g : Configuration) (next : World) (rs : List Revealed) → AgreeOnMoney s g next
    → KeptSecrets s z (after_steps g (map reveal_step rs)) next → Constant s g → g.advertised ≡ next.advertised
    → Tracks s z (after_steps g (map reveal_step rs)) next
shown_tracks s z g next rs money secrets constant advertised =
    let e = sym (after-reveals rs g) in
    record {
      money = subst (λ c. AgreeOnMoney s c next) e
          (record { time = money.time; next = money.next; deposits = money.deposits; active = money.active; moves = money.moves });
      secrets = secrets;
      constant = subst (λ c. Constant s c) e (record { parties = constant.parties; honest = constant.honest; contracts = constant.contracts });
      advertised = ap (λ (c : Configuration). c.advertised) (after-reveals rs g) ∙ advertised;
    }

module _ (s : Setup) (z : List (List ℕ)) (apart : different_secrets (all_secrets s) ≡ true) (g : Configuration) (w : World) (tracks : Tracks s z g w) where
  -- ---- a string is posted

  posting_tracked : (e : Event) (string : List ℕ) (allowed : Option (List ℕ × List ℕ))
      → steps_of s z g w (applied w (posting w string allowed)) e (posting w string allowed) ≡ reveals s w (applied w (posting w string allowed))
      → ((a n t : List ℕ) → allows allowed a n ≡ true → held_secret s a n ≡ Some t → is_among (s.hash t) (used_digests w.promises) ≡ true)
      → Tracked s z g w e (posting w string allowed)
  posting_tracked e string allowed same permitted clear unguessed begins =
      let next = applied w (posting w string allowed) in
      let p = posted s z apart g w next (string ∷ []) (string ∷ []) allowed tracks.secrets refl refl refl clear unguessed begins (λ t h. h) permitted in
      let money : AgreeOnMoney s g next = record {
        time = tracks.money.time;
        next = tracks.money.next;
        deposits = tracks.money.deposits;
        active = tracks.money.active;
        moves = tracks.money.moves;
      } in
      record {
        legal = subst (Legal g) (sym same) p.legal;
        tracks = subst (λ xs. Tracks s z (after_steps g xs) next) (sym same)
            (shown_tracks s z g next (newly_shown s w next) money p.kept tracks.constant tracks.advertised);
      }

  pub post_tracked : (string : List ℕ) → Tracked s z g w (events.Post string) (posting w string None)
  post_tracked string = posting_tracked (events.Post string) string None refl (λ a n t h o. cc)

  -- an honest party's committed digest is of its own secret
  own_used : (k : ℕ) (party name t : List ℕ) → is_honest s party ≡ true → held_secret s party name ≡ Some t
      → is_some (digest_at w.promises (record { contract = k; party = party; secret = name })) ≡ true → is_among (s.hash t) (used_digests w.promises) ≡ true
  own_used k party name t honest o there =
      let x : Revealed = record { contract = k; party = party; secret = name } in
      let own = is_own-some s w.hashed (held_secret s party name) (digest_at w.promises x) (tracks.secrets.own x honest) there in
      let one : (let y : Option (List ℕ) = Some own.secret in y) ≡ Some t = sym own.own ∙ o in
      let same : own.secret ≡ t = cc in
      at_used w.promises x (s.hash t) (own.digest ∙ ap (λ y. Some (s.hash y)) same)

  pub reveal_tracked : (k : ℕ) (party name : List ℕ) → Tracked s z g w (events.Reveal k party name) (reveal_pending s w k party name)
  reveal_tracked k party name =
      unless_tracked s z apart g w tracks (events.Reveal k party name) (first_reason (reveal_row s w k party name)) []
      (posting w (own_secret s party name) (Some (party, name))) (λ r.
      let row = no_reason-none_true (reveal_row s w k party name) r in
      let there = tracks.secrets.full (record { contract = k; party = party; secret = name }) (not-false _ row.1.1.1.0) (not-false _ row.1.1.0) in
      posting_tracked (events.Reveal k party name) (own_secret s party name) (Some (party, name)) refl (λ a n t h o.
      let p = and_parts (bytes_eq party a) (bytes_eq name n) h in
      let here : held_secret s party name ≡ Some t =
      subst (λ b. held_secret s b name ≡ Some t)
      (sym (bytes-true party a p.0)) (subst (λ m. held_secret s a m ≡ Some t) (sym (bytes-true name n p.1)) o) in
      own_used k party name t (not-false _ row.1.0) here there))

  -- ---- secrets are committed

  pub commit_tracked : (k : ℕ) (party : List ℕ) (ds : List (List ℕ × List ℕ)) → Tracked s z g w (events.Commit k party ds) (commit_pending s w k party ds)
  commit_tracked k party ds =
      let strings = committed_strings s k party in
      let promised = with_promise s w k party ds in
      let last = committed_pending s promised k party strings in
      unless_tracked s z apart g w tracks (events.Commit k party ds) (first_reason (commit_row s w k party ds)) [] _ (λ none.
      unless_tracked s z apart g w tracks (events.Commit k party ds) (first_reason (digest_row s w k party ds)) strings last (λ fresh clear unguessed begins.
      let next = applied w last in
      let hashes = strings ++ strings_compiled s (compiled_instance s promised k) in
      let heard : (t : List ℕ) → is_among t strings ≡ true → is_among t hashes ≡ true =
      λ t h. among_left t strings (strings_compiled s (compiled_instance s promised k)) h in
      let step : Step = steps.Commit k party (commit_lengths s z k party ds) in
      record {
        legal = legal_all s z apart g w tracks.constant tracks.advertised tracks.secrets k party ds none fresh hashes next refl refl refl clear heard begins;
        tracks = shown_tracks s z (effect g step) next (newly_shown s w next)
            (record {
              time = tracks.money.time;
              next = tracks.money.next;
              deposits = tracks.money.deposits;
              active = tracks.money.active;
              moves = tracks.money.moves;
            })
            (kept_commit s z apart g w tracks.constant tracks.advertised tracks.secrets k party ds none fresh hashes next refl refl refl clear heard begins)
            (record { parties = tracks.constant.parties; honest = tracks.constant.honest; contracts = tracks.constant.contracts })
            tracks.advertised;
      }))
