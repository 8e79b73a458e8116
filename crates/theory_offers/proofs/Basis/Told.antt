-- What the offers rest on stays where a contract is advertised, and where a party commits.
use Rattle.std.proofs.Common.{◌≡◌, ℕ, List, [], ◌∷◌, ◌++◌, true, false, Some, refl, sym, ap, ◌∙◌, subst, inl, inr, append-nil}
use Rattle.std.specs.Prelude.{◌==◌, is_some}
use Rattle.std.specs.Str.{bytes_eq}
use Rattle.std.proofs.lemmas.Bool.{and_parts, or_left, or_cases, or_from, both_ways, eqb-true, false_from_ne_true}
use Rattle.spec_data.specs.Lists.{is_among, look_up}
use Rattle.spec_terms.specs.Parties.{participants}
use Rattle.spec_calculus.specs.declared.parts.Advertised.{Advertised}
use Rattle.spec_calculus.specs.declared.step.Step.TheVariants as steps
use Rattle.spec_calculus.specs.Configuration.{Configuration}
use Rattle.spec_calculus.specs.Steps.{after_steps}
use Rattle.spec_compiler.specs.Instance.{Instance}
use Rattle.spec_run.specs.Setup.{Setup, people_at, people_of}
use Rattle.spec_run.specs.World.{Promise, World, is_advertised, is_promise_of, has_promised}
use Rattle.spec_run.specs.Compiled.{compiled_instance}
use Rattle.spec_run.specs.Advertising.{arranged}
use Rattle.spec_run.specs.Committing.{secrets_at}
use Rattle.theory_calculus.proofs.Names.{all_among}
use Rattle.theory_calculus.proofs.Members.{some_there}
use Rattle.theory_world.proofs.Tests.{any-append}
use Rattle.theory_world.proofs.Later.{lasts_refl, compiled_is, bindings-more, compiled_stays}
use Rattle.theory_run.specs.Tracks.{Constant}
use Rattle.theory_run.specs.KeptBook.{KeptBook}
use Rattle.theory_run.proofs.Facts.Promised.{arranged_named}
use Rattle.theory_offers.proofs.Basis.Offered.{KeptOffers}
use Rattle.theory_offers.proofs.Basis.Opening.{extends_offers}
use Rattle.theory_world.proofs.Contracts.Endorsed.{in_joined}

pub advertise_offers : (s : Setup) (g : Configuration) (w : World) (k : ℕ) (bs : List (List ℕ × ℕ)) (hashed posted : List (List ℕ))
    → KeptBook s g w → KeptOffers s g w
    → KeptOffers s (after_steps g (steps.Advertise k bs ∷ []))
    (record w { advertised = w.advertised ++ record { contract = k; bindings = bs } ∷ []; hashed = hashed; posted = posted })
advertise_offers s g w k bs hashed posted kept more =
    let new : List Advertised = record { contract = k; bindings = bs } ∷ [] in
    let next : World = record w { advertised = w.advertised ++ record { contract = k; bindings = bs } ∷ []; hashed = hashed; posted = posted } in
    extends_offers s g (after_steps g (steps.Advertise k bs ∷ [])) w next kept more
    (record { parties = more.constant.parties; honest = more.constant.honest; contracts = more.constant.contracts }) refl refl refl refl refl
    (λ j st h. compiled_stays s w next new [] j st refl (sym (append-nil w.promises)) (lasts_refl w.outputs)
    (kept.adverts j (compiled_is s w j st h).advertised).made refl h)
    (λ j h. bindings-more w.advertised new j h)
    (λ j a h. any-append (λ (x : Advertised). x.contract == j) w.advertised new ∙ or_left _ _ (more.told j a h))
    more.named

-- a commitment of a participant that hasn't committed
pub commit_offers : (s : Setup) (g g' : Configuration) (w : World) (k : ℕ) (party : List ℕ) (entries : List (List ℕ × List ℕ))
    (hashed posted : List (List ℕ)) → KeptBook s g w → KeptOffers s g w → Constant s g'
    → g'.init_authorised ≡ g.init_authorised → g'.branch_authorised ≡ g.branch_authorised
    → is_advertised w k ≡ true → is_among party (people_at s k) ≡ true → has_promised w k party ≡ false
    → KeptOffers s g' (record w {
      promises = w.promises
          ++ record { contract = k; party = party; digests = arranged [] (secrets_at s k party) entries } ∷ [];
      hashed = hashed;
      posted = posted;
    })
commit_offers s g g' w k party entries hashed posted kept more constant ei eb adv part fresh =
    let new : Promise = record { contract = k; party = party; digests = arranged [] (secrets_at s k party) entries } in
    let next : World = record w {
      promises = w.promises ++ record { contract = k; party = party; digests = arranged [] (secrets_at s k party) entries } ∷ [];
      hashed = hashed;
      posted = posted;
    } in
    extends_offers s g g' w next kept more constant refl refl refl ei eb
    (λ j st h. compiled_stays s w next [] (new ∷ []) j st (sym (append-nil w.advertised)) refl (lasts_refl w.outputs)
    (kept.adverts j (compiled_is s w j st h).advertised).made (or_from _ _ (others j st h) refl) h)
    (λ j h. refl)
    (λ j a h. elim (or_cases _ _ (sym (any-append (is_promise_of j a) w.promises (new ∷ [])) ∙ h)) [
      | inl x ↦ more.told j a x
      | inr x ↦ elim (or_cases (is_promise_of j a new) false x) [
        | inl y ↦ subst (λ m. is_advertised w m ≡ true) (eqb-true k j (and_parts (k == j) (bytes_eq party a) y).0) adv
        | inr y ↦ cc
      ]
    ])
    (λ p name i h. elim (in_joined w.promises (new ∷ []) p i) [
      | inl x ↦ more.named p name x h
      | inr x ↦ elim x [
        | inl e ↦ (let q : is_some (look_up name (arranged [] (secrets_at s k party) entries)) ≡ true =
            subst (λ (y : Promise). is_some (look_up name y.digests) ≡ true) e h in subst (λ (y : Promise). is_among name (secrets_at s y.contract y.party)
            ≡ true) (sym e) (let y = some_there _ q in arranged_named [] (secrets_at s k party) entries name y.0 y.1))
        | inr e ↦ absurd e
      ]
    ])
  where
    -- a compiled contract is another one
    others : (j : ℕ) (st : Instance) → compiled_instance s w j ≡ Some st → (k == j) ≡ false
    others j st h = false_from_ne_true _ (λ t.
        let e = eqb-true k j t in
        let c = compiled_is s w j st h in
        let there : is_among party (participants c.advert) ≡ true =
        ap (λ o. is_among party (people_of o)) (sym c.there) ∙ subst (λ m. is_among party (people_at s m) ≡ true) e part in
        let p = all_among (has_promised w j) (participants c.advert) party c.promised there in
        both_ways _ (subst (λ m. has_promised w m party ≡ false) e fresh) p)
