-- What the contracts are compiled to changes only where a party commits.
use Rattle.std.proofs.Common.{◌≡◌, ℕ, ◌+◌, List, [], ◌∷◌, ◌++◌, Bool, true, false, Option, Some, None, refl, sym, ap, ◌∙◌, append-nil}
use Rattle.std.specs.List.{list_any, list_all}
use Rattle.std.specs.Option.{option_map}
use Rattle.std.proofs.lemmas.Bool.{and_parts, and_from, both_ways, false_from_ne_true}
use Rattle.spec_data.specs.Lists.{first_reason}
use Rattle.spec_terms.specs.Advert.{Advert}
use Rattle.spec_terms.specs.Parties.{participants}
use Rattle.spec_calculus.specs.declared.parts.Advertised.{Advertised}
use Rattle.spec_calculus.specs.Configuration.{Configuration}
use Rattle.spec_compiler.specs.Instance.{Instance}
use Rattle.spec_run.specs.declared.event.Event.{Event}
use Rattle.spec_run.specs.declared.event.Event.TheVariants as events
use Rattle.spec_run.specs.declared.outcome.Reason.{Reason}
use Rattle.spec_run.specs.Setup.{Setup, contract_at}
use Rattle.spec_run.specs.World.{World, is_advertised, is_promise_of, has_promised, have_promised}
use Rattle.spec_run.specs.Compiled.{is_complete, instance_of, instance_if_complete, compiled_instance}
use Rattle.spec_run.specs.Conditions.{IsSetup}
use Rattle.spec_run.specs.Pending.{done, unless, applied}
use Rattle.spec_run.specs.Advertising.{arranged, deposit_names, advertise_row}
use Rattle.spec_run.specs.Event.{pending}
use Rattle.theory_calculus.proofs.Names.{all_among}
use Rattle.theory_world.proofs.Contracts.Checking.{contract_checked}
use Rattle.theory_world.proofs.Contracts.Mentions.{a_person}
use Rattle.theory_run.specs.KeptRuns.{KeptBooks}
use Rattle.theory_run.proofs.Facts.Growing.{grows}
use Rattle.theory_run.proofs.Facts.Undertakings.{IsQuiet, told_stays}
use Rattle.bm_compile.specs.Numbered.{numbered}
use Rattle.bm_match.specs.Matches.{compiled_from, all_compiled}
use Rattle.bm_world.specs.Kinds.{IsNoCommit}

pub no_commit : (e : Event) → ((contract : ℕ) (party : List ℕ) (digests : List (List ℕ × List ℕ))
    → e ≡ events.Commit contract party digests → ⊥) → IsNoCommit e
no_commit (events.Commit contract party digests) h = h contract party digests refl
no_commit (events.Advertise contract bindings) h = tt
no_commit (events.Endorse contract party) h = tt
no_commit (events.Init contract party) h = tt
no_commit (events.Authorise party output branch) h = tt
no_commit (events.Reveal contract party secret) h = tt
no_commit (events.Post bytes) h = tt
no_commit (events.Sign party label digest) h = tt
no_commit (events.Give party inputs outputs) h = tt
no_commit (events.Append bytes) h = tt
no_commit (events.FireInit contract) h = tt
no_commit (events.Fire output branch) h = tt
no_commit (events.Mine blocks) h = tt

-- contracts may have been advertised, but nothing was committed
record MoreTold (w next : World) : Type 0 where
  new : List Advertised
  advertised : next.advertised ≡ w.advertised ++ new
  promises : next.promises ≡ w.promises

module _ (s : Setup) (w : World) where
  nothing_told : MoreTold w w
  nothing_told = record { new = []; advertised = sym (append-nil w.advertised); promises = refl }

  quiet_told : (e : Event) → IsQuiet e → MoreTold w (pending s w e).world
  quiet_told e q =
      let t = told_stays s w e q in
      record { new = []; advertised = t.advertised ∙ sym (append-nil w.advertised); promises = t.promises }

  advert_told : (contract : ℕ) (bindings : List (List ℕ × ℕ)) (r : Option Reason)
      → MoreTold w (unless r w [] (done
      (record w { advertised = w.advertised ++ record { contract = contract; bindings = bindings } ∷ [] }) [])).world
  advert_told contract bindings None = record
      { new = record { contract = contract; bindings = bindings } ∷ []; advertised = refl; promises = refl }
  advert_told contract bindings (Some reason) = nothing_told

  more_told : (e : Event) → IsNoCommit e → MoreTold w (pending s w e).world
  more_told (events.Advertise contract bindings) q = advert_told contract (arranged 0 (deposit_names s contract) bindings)
      (first_reason (advertise_row s w contract bindings))
  more_told (events.Commit contract party digests) q = absurd q
  more_told (events.Endorse contract party) q = quiet_told (events.Endorse contract party) tt
  more_told (events.Init contract party) q = quiet_told (events.Init contract party) tt
  more_told (events.Authorise party output branch) q = quiet_told (events.Authorise party output branch) tt
  more_told (events.Reveal contract party secret) q = quiet_told (events.Reveal contract party secret) tt
  more_told (events.Post bytes) q = quiet_told (events.Post bytes) tt
  more_told (events.Sign party label digest) q = quiet_told (events.Sign party label digest) tt
  more_told (events.Give party inputs outputs) q = quiet_told (events.Give party inputs outputs) tt
  more_told (events.Append bytes) q = quiet_told (events.Append bytes) tt
  more_told (events.FireInit contract) q = quiet_told (events.FireInit contract) tt
  more_told (events.Fire output branch) q = quiet_told (events.Fire output branch) tt
  more_told (events.Mine blocks) q = quiet_told (events.Mine blocks) tt

-- ---- one contract

module _ (s : Setup) (w next : World)
    (stays : (k : ℕ) (st : Instance) → compiled_instance s w k ≡ Some st → compiled_instance s next k ≡ Some st)
    (back : (k : ℕ) (a : Advert) → contract_at s k ≡ Some a → is_complete next k a ≡ true → is_complete w k a ≡ true) where
  same_instance : (k : ℕ) → compiled_instance s next k ≡ compiled_instance s w k
  same_instance k = by_contract (contract_at s k) refl
    where
      by_test : (a : Advert) → contract_at s k ≡ Some a → (b : Bool) → is_complete w k a ≡ b
          → compiled_instance s next k ≡ compiled_instance s w k
      by_test a e true t =
          let h : compiled_instance s w k ≡ Some (instance_of w k a) = ap (instance_if_complete w k) e ∙ rw t refl in
          stays k (instance_of w k a) h ∙ sym h
      by_test a e false t =
          let n : is_complete next k a ≡ false = false_from_ne_true (is_complete next k a) (λ q. both_ways _ t (back k a e q)) in
          let h : compiled_instance s w k ≡ None = ap (instance_if_complete w k) e ∙ rw t refl in
          let h' : compiled_instance s next k ≡ None = ap (instance_if_complete next k) e ∙ rw n refl in
          h' ∙ sym h

      by_contract : (o : Option Advert) → contract_at s k ≡ o → compiled_instance s next k ≡ compiled_instance s w k
      by_contract None e = ap (instance_if_complete next k) e ∙ sym (ap (instance_if_complete w k) e)
      by_contract (Some a) e = by_test a e (is_complete w k a) refl

  same_from : (k : ℕ) (adverts : List Advert) → compiled_from s next k adverts ≡ compiled_from s w k adverts
  same_from k [] = refl
  same_from k (a ∷ adverts) = let rest = same_from (k + 1) adverts in λ i. option_map (numbered s.hash) (same_instance k i) ∷ rest i

-- ---- every event but a commitment

module _ (s : Setup) (setup : IsSetup s) (g : Configuration) (w : World) (keeps : KeptBooks s g w) where
  -- who has committed had the contract advertised before
  told_back : (next : World) → MoreTold w next → (k : ℕ) (a : Advert) → contract_at s k ≡ Some a → is_complete next k a ≡ true
      → is_complete w k a ≡ true
  told_back next told k a e h =
      let p = and_parts (is_advertised next k) (have_promised next k (participants a)) h in
      let same : have_promised w k (participants a) ≡ have_promised next k (participants a) =
      λ i. list_all (λ party. list_any (is_promise_of k party) (sym told.promises i)) (participants a) in
      let promised : have_promised w k (participants a) ≡ true = same ∙ p.1 in
      let one = a_person a (contract_checked s setup k a e) in
      and_from (is_advertised w k) (have_promised w k (participants a))
      (keeps.promises.told k one.0 (all_among (has_promised w k) (participants a) one.0 promised one.1)) promised

  pub still_compiled : (e : Event) → IsNoCommit e → all_compiled s (pending s w e).world ≡ all_compiled s w
  still_compiled e q =
      let told = more_told s w e q in
      same_from s w (applied w (pending s w e)) (λ k st h. (grows s g w keeps.book e).compiled k st h)
      (told_back (applied w (pending s w e)) (record { new = told.new; advertised = told.advertised; promises = told.promises })) 0
      s.contracts
