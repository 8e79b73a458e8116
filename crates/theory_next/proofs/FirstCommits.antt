-- Once a contract is advertised all commit, unless strings collide.
use Rattle.std.proofs.Common.{◌≡◌, ℕ, List, [], ◌∷◌, ◌++◌, map, length, true, false, not, Option, Some, None, refl, sym, ap, ◌∙◌, subst, inl, inr, ◌⊎◌, append-nil}
use Rattle.std.specs.Prelude.{◌==◌, is_some, if◌then◌else◌}
use Rattle.std.specs.Str.{bytes_eq}
use Rattle.std.proofs.lemmas.Bool.{and_from, or_left, or_right, or_from, false_from_ne_true}
use Rattle.spec_data.specs.Lists.{is_among, first_reason}
use Rattle.spec_data.specs.Messages.{collision}
use Rattle.spec_terms.specs.Advert.{Advert}
use Rattle.spec_terms.specs.Parties.{participants}
use Rattle.spec_run.specs.declared.event.Event.{Event}
use Rattle.spec_run.specs.declared.event.Event.TheVariants as events
use Rattle.spec_run.specs.declared.header.HeldSecret.{HeldSecret}
use Rattle.spec_run.specs.declared.outcome.Reason.{Reason}
use Rattle.spec_run.specs.Setup.{Setup, is_honest}
use Rattle.spec_run.specs.World.{Promise, World, is_advertised, is_promise_of, has_promised, have_promised}
use Rattle.spec_run.specs.Compiled.{compiled_instance, instance_of}
use Rattle.spec_run.specs.Pending.{Pending, guess, applied, unless}
use Rattle.spec_run.specs.Advertising.{arranged, are_rearranged}
use Rattle.spec_run.specs.Committing.{secrets_at, own_digests, own_strings, missing_secret, bad_secret, committed_digests, committed_strings, used_digests, used_again}
use Rattle.spec_run.specs.Committing.{commit_row, repeated_digest, digest_row, with_promise, strings_compiled, committed_pending, not_held, badly_long}
use Rattle.spec_run.specs.Event.{pending, played}
use Rattle.spec_run.specs.Values.{is_refused}
use Rattle.spec_run.specs.Translation.{last_world}
use Rattle.spec_terms.specs.Precondition.{names_of}
use Rattle.theory_calculus.specs.Members.{Is_in}
use Rattle.theory_calculus.proofs.Names.{bytes-true, bytes_refl}
use Rattle.theory_world.proofs.Tests.{any-append}
use Rattle.theory_world.proofs.Hashed.{among_left, among_right, among_split, all_more, all_new}
use Rattle.theory_world.proofs.Once.{digests_in, used-append}
use Rattle.theory_world.proofs.Ledger.Acceptable.{none_reason}
use Rattle.theory_world.proofs.Contracts.Endorsed.{in_among}
use Rattle.theory_world.proofs.Later.{compiled_from}
use Rattle.theory_run.proofs.Halting.Halts.{calm_is}
use Rattle.theory_next.proofs.Apart.{Apart}
use Rattle.theory_next.proofs.OneMore.{none_guessed}
use Rattle.theory_next.proofs.Onward.{GoesSoFar, Fine, goes}
use Rattle.theory_next.proofs.FirstStage.{IsFirst, AllLive, has_first, takes_part_in, kept_so_far}
use Rattle.theory_next.proofs.FirstSecrets.{HasSecrets, bytes_of, own_from, own_heard, own_in_order, all_held, all_long, own_new}

-- a digest that is committed: that of a secret that was hashed, of a party that is none of these
pub record IsUsed (s : Setup) (rest : List (List ℕ)) (w : World) (d : List ℕ) : Type 0 where
  pub owner : List ℕ
  pub name : List ℕ
  pub secret : is_among name (secrets_at s 0 owner) ≡ true
  pub behind : Is_in owner rest → ⊥
  pub is : d ≡ s.hash (bytes_of s owner name)
  pub heard : is_among (bytes_of s owner name) w.hashed ≡ true

-- all but these have committed
pub record Committing (s : Setup) (advert : Advert) (rest : List (List ℕ)) (w : World) : Type 0 where
  pub told : is_advertised w 0 ≡ true
  pub live : AllLive w
  pub ahead : (p : List ℕ) → Is_in p rest → has_promised w 0 p ≡ false
  pub promised : (p : List ℕ) → is_among p (participants advert) ≡ true → Is_in p rest ⊎ (has_promised w 0 p ≡ true)
  pub used : (d : List ℕ) → is_among d (used_digests w.promises) ≡ true → IsUsed s rest w d

module _ (s : Setup) (advert : Advert) (first : IsFirst s advert) (has : HasSecrets s) where
  module _ (party : List ℕ) (takes : is_among party (participants advert) ≡ true) where
    abbrev names : List (List ℕ)
    names = secrets_at s 0 party

    abbrev e : Event
    e = events.Commit 0 party []

    honest : is_honest s party ≡ true
    honest = first.honest party takes

    digests_are : committed_digests s 0 party [] ≡ own_digests s party names
    digests_are = ap (λ b. if b then own_digests s party names else []) honest

    strings_are : committed_strings s 0 party ≡ own_strings s party names
    strings_are = ap (λ b. if b then own_strings s party names else []) honest

    -- nothing refuses it before its secrets are hashed
    row_is : (w : World) → is_advertised w 0 ≡ true → has_promised w 0 party ≡ false → first_reason (commit_row s w 0 party []) ≡ None
    row_is w told fresh =
        let missing : missing_secret s 0 party ≡ None =
        ap (λ b. if b then not_held s party names else None) honest ∙ all_held s party names (has.held party) in
        let bad : bad_secret s 0 party ≡ None =
        ap (λ b. if b then badly_long s party names else None) honest ∙ all_long s party names (has.long party) in
        none_reason (commit_row s w 0 party []) (
          ap not (has_first s advert first),
          (
            ap not told,
            (
              ap not (takes_part_in s advert first party takes),
              (
                fresh,
                (
                  ap (λ b. not (if b then length {A = List ℕ × List ℕ} [] == 0 else are_rearranged (names_of {V = List ℕ} []) names)) honest,
                  (ap is_some missing, (ap is_some bad, tt)),
                ),
              ),
            ),
          ),
        )

    module _ (es : List Event) (so : GoesSoFar s es) (rest : List (List ℕ)) (alone : Is_in party rest → ⊥)
        (so_far : Committing s advert (party ∷ rest) (last_world s es)) where
      abbrev w : World
      w = last_world s es

      abbrev next : World
      next = with_promise s w 0 party []

      abbrev strings : List (List ℕ)
      strings = committed_strings s 0 party

      abbrev committed : Pending
      committed = committed_pending s next 0 party strings

      behind_row : pending s w e ≡ unless (first_reason (digest_row s w 0 party [])) w strings committed
      behind_row =
          ap (λ r. unless r w [] (unless (first_reason (digest_row s w 0 party [])) w strings committed))
          (row_is w so_far.told (so_far.ahead party (inl refl)))

      -- where the secrets don't collide, their digests are new
      fresh : collision s.hash w.hashed strings ≡ None → first_reason (digest_row s w 0 party []) ≡ None
      fresh calm =
          let clear = (kept_so_far s es so).holds.honest.run.books.clear in
          let apart = calm_is s.hash w.hashed strings clear calm in
          let mine : (n : List ℕ) → is_among n names ≡ true → is_among (bytes_of s party n) (w.hashed ++ strings) ≡ true =
          λ n i. among_right (bytes_of s party n) w.hashed strings
          (subst (λ xs. is_among (bytes_of s party n) xs ≡ true) (sym strings_are) (own_heard s party n names i)) in
          let new : (n : List ℕ) → is_among n names ≡ true → is_among (s.hash (bytes_of s party n)) (used_digests w.promises) ≡ false =
          λ n i. false_from_ne_true _ (λ t.
          let u = so_far.used (s.hash (bytes_of s party n)) t in
          let same = apart.apart (bytes_of s party n) (bytes_of s u.owner u.name) (mine n i)
          (among_left (bytes_of s u.owner u.name) w.hashed strings u.heard) u.is in
          u.behind (inl (sym (has.one party n u.owner u.name i u.secret same).0))) in
          let none : repeated_digest s w 0 party [] ≡ None =
          ap (used_again (used_digests w.promises)) digests_are
          ∙ own_new s party has (λ n m i j q. apart.apart (bytes_of s party n) (bytes_of s party m) (mine n i) (mine m j) q)
          (used_digests w.promises) new in
          none_reason (digest_row s w 0 party []) (ap is_some none, tt)

      -- where nothing collides it is done
      commits : collision s.hash w.hashed (pending s w e).hashes ≡ None → pending s w e ≡ committed
      commits calm = behind_row ∙ by_reason (first_reason (digest_row s w 0 party [])) refl
        where
          by_reason : (o : Option Reason) → first_reason (digest_row s w 0 party []) ≡ o → unless o w strings committed ≡ committed
          by_reason None q = refl
          by_reason (Some r) q =
              let c : collision s.hash w.hashed strings ≡ None =
              sym (ap (λ (d : Pending). collision s.hash w.hashed d.hashes) (behind_row ∙ ap (λ o. unless o w strings committed) q)) ∙ calm in
              let z = sym q ∙ fresh c in cc

      unguessed : (x : HeldSecret) → guess s w.posted (pending s w e).posts (pending s w e).allowed ≡ Some x → ⊥
      unguessed x h =
          let q = sym (by_reasons (first_reason (commit_row s w 0 party [])) (first_reason (digest_row s w 0 party []))) ∙ h in cc
        where
          by_reasons : (o p : Option Reason) → guess s w.posted (unless o w [] (unless p w strings committed)).posts
              (unless o w [] (unless p w strings committed)).allowed ≡ None
          by_reasons (Some r) p = none_guessed w.posted None s.header.secrets
          by_reasons None (Some r) = none_guessed w.posted None s.header.secrets
          by_reasons None None = none_guessed w.posted None s.header.secrets

      abbrev promise : Promise
      promise = record { contract = 0; party = party; digests = arranged [] names (committed_digests s 0 party []) }

      own_in_promise : (d : List ℕ) → is_among d (digests_in promise.digests) ≡ true
          → (n : List ℕ) × (is_among n names ≡ true) × (d ≡ s.hash (bytes_of s party n))
      own_in_promise d h =
          own_from s party names d
          (subst (λ ds. is_among d (digests_in ds) ≡ true) (ap (arranged [] names) digests_are ∙ own_in_order s party names) h)

      -- one more has committed
      committed_so : Committing s advert rest (applied w committed)
      committed_so = record {
        told = so_far.told;
        live = record { live = so_far.live.live };
        ahead = λ q i.
            let other : bytes_eq party q ≡ false =
            false_from_ne_true _ (λ t. alone (subst (λ x. Is_in x rest) (sym (bytes-true party q t)) i)) in
            any-append (is_promise_of 0 q) w.promises (promise ∷ []) ∙ or_from _ _ (so_far.ahead q (inr i)) (or_from _ _ other refl);
        promised = λ q i. elim (so_far.promised q i) [
          | inl a ↦ elim a [
            | inl same ↦ inr (any-append (is_promise_of 0 q) w.promises (promise ∷ [])
                ∙ or_right (has_promised w 0 q) _ (or_left _ _ (subst (λ x. bytes_eq party x ≡ true) (sym same) (bytes_refl party))))
            | inr k ↦ inl k
          ]
          | inr b ↦ inr (any-append (is_promise_of 0 q) w.promises (promise ∷ []) ∙ or_left _ _ b)
        ];
        used = λ d h. elim (among_split d (used_digests w.promises) (digests_in promise.digests)
            (sym (ap (is_among d) (used-append w.promises (promise ∷ []) ∙ ap (λ xs. used_digests w.promises ++ xs)
            (append-nil (digests_in promise.digests)))) ∙ h)) [
              | inl a ↦
                  let u = so_far.used d a in
                  record {
                    owner = u.owner;
                    name = u.name;
                    secret = u.secret;
                    behind = λ i. u.behind (inr i);
                    is = u.is;
                    heard = all_more w.hashed committed.hashes (bytes_of s u.owner u.name) u.heard;
                  }
              | inr b ↦
                  let r = own_in_promise d b in
                  record {
                    owner = party;
                    name = r.0;
                    secret = r.1;
                    behind = alone;
                    is = r.2;
                    heard = all_new w.hashed committed.hashes (bytes_of s party r.0)
                        (among_left (bytes_of s party r.0) strings (strings_compiled s (compiled_instance s next 0))
                        (subst (λ xs. is_among (bytes_of s party r.0) xs ≡ true) (sym strings_are) (own_heard s party r.0 names r.1)));
                  }
            ];
      }

  -- ---- all of them

  -- then the contract is compiled
  pub compiled_then : (w : World) → Committing s advert [] w → compiled_instance s w 0 ≡ Some (instance_of w 0 advert)
  compiled_then w so_far = compiled_from s w 0 advert first.there so_far.told (each (participants advert) (λ p i. in_among (participants advert) p i))
    where
      each : (ps : List (List ℕ)) → ((p : List ℕ) → Is_in p ps → is_among p (participants advert) ≡ true) → have_promised w 0 ps ≡ true
      each [] h = refl
      each (p ∷ ps) h =
          and_from _ _ (elim (so_far.promised p (h p (inl refl))) [ inl a ↦ absurd a | inr b ↦ b ]) (each ps (λ q i. h q (inr i)))

  module _ (after : List Event)
      (ending : (es : List Event) → GoesSoFar s es → Committing s advert [] (last_world s es) → Fine s (played s (es ++ after))) where
    pub all_commit : (rest : List (List ℕ)) → Apart rest → ((p : List ℕ) → Is_in p rest → is_among p (participants advert) ≡ true)
        → (es : List Event) → GoesSoFar s es → Committing s advert rest (last_world s es)
        → Fine s (played s (es ++ (map (λ p. events.Commit 0 p []) rest ++ after)))
    all_commit [] apart take es so so_far = ending es so so_far
    all_commit (party ∷ rest) apart take es so so_far =
        let takes = take party (inl refl) in
        goes s es so (events.Commit 0 party []) (first.declared party takes, tt) (map (λ p. events.Commit 0 p []) rest ++ after)
        (λ calm. ap (λ (d : Pending). is_refused d.outcome) (commits party takes es so rest apart.0 so_far calm))
        (λ pair h. tt)
        (λ x calm h. absurd (unguessed party takes es so rest apart.0 so_far x h))
        (λ calm on.
        let world = on.world ∙ ap (applied (last_world s es)) (commits party takes es so rest apart.0 so_far calm) in
        all_commit rest apart.1 (λ p i. take p (inr i)) (es ++ events.Commit 0 party [] ∷ []) on.so_far
        (subst (Committing s advert rest) (sym world) (committed_so party takes es so rest apart.0 so_far)))
