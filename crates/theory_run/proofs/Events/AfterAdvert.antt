-- What is kept after a contract is advertised.
use Rattle.std.proofs.Common.{◌≡◌, ℕ, ◌≤◌, List, [], ◌∷◌, ◌++◌, length, Bool, true, false, Option, Some, None, refl, sym, ap, ◌∙◌, subst, arith, inl, inr, append-nil}
use Rattle.std.specs.Prelude.{◌==◌, ◌||◌, slice_get, is_some}
use Rattle.std.specs.List.{list_any, list_all}
use Rattle.std.specs.Str.{bytes_eq}
use Rattle.std.proofs.lemmas.Bool.{and_parts, and_from, or_right, or_cases, both_ways, not-false, eqb-true, eq-eqb}
use Rattle.spec_data.specs.Lists.{NoneTrue, is_among, look_up, first_reason}
use Rattle.spec_data.proofs.ListLemmas.{no_reason-none_true}
use Rattle.spec_terms.specs.Advert.{Advert}
use Rattle.spec_terms.specs.Parties.{participants}
use Rattle.spec_terms.specs.Precondition.{deposits, names_of}
use Rattle.spec_calculus.specs.declared.parts.Advertised.{Advertised}
use Rattle.spec_calculus.specs.declared.step.Step.{Step}
use Rattle.spec_calculus.specs.declared.step.Step.TheVariants as steps
use Rattle.spec_calculus.specs.Configuration.{Configuration}
use Rattle.spec_calculus.specs.Steps.{after_steps}
use Rattle.spec_compiler.specs.Instance.{Instance}
use Rattle.spec_run.specs.declared.event.Event.TheVariants as events
use Rattle.spec_run.specs.Setup.{Setup, is_honest, contract_at, pre_of, pre_at, people_at}
use Rattle.spec_run.specs.World.{Output, World, output_at, is_deposit, bindings_at, is_advertised, has_promised, have_promised, digests_at}
use Rattle.spec_run.specs.Compiled.{bound_outpoints, outpoint_of, instance_of, compiled_instance}
use Rattle.spec_run.specs.Conditions.{IsSetup, HashesBytes}
use Rattle.spec_run.specs.Owners.{suits}
use Rattle.spec_run.specs.Advertising.{or_else_this, arranged, are_rearranged, deposit_names, advertise_row, advertise_pending}
use Rattle.spec_run.specs.Pending.{done}
use Rattle.theory_calculus.proofs.Names.{all_among, different_names, in_named}
use Rattle.theory_calculus.proofs.Members.{some_there}
use Rattle.theory_world.proofs.Tests.{any-append}
use Rattle.theory_world.specs.KeptApart.{NoCollision, are_made}
use Rattle.theory_world.proofs.Hashed.{among_head}
use Rattle.theory_world.proofs.Later.{compiled_is, compiled_from, compiled_stays, bindings-more, lasts_refl}
use Rattle.theory_run.specs.KeptBook.{KeptBook, AdvertFine}
use Rattle.theory_run.proofs.Facts.Kept.{Frame, signs}
use Rattle.theory_run.proofs.Accepted.Spending.{Checked}
use Rattle.theory_world.proofs.Contracts.Checking.{contract_checked}
use Rattle.theory_world.proofs.Contracts.Mentions.{a_person}
use Rattle.theory_world.proofs.Staying.{inits_stay, asked_stay}
use Rattle.theory_run.proofs.Events.Quiet.{KeptAfter, unless_after}
use Rattle.theory_run.proofs.Events.Advertised.{look_arranged, some_arranged, all_looked, live_looked, suits_looked, one_name, suits_bound, deposit_looked}

-- ---- compiled contracts of an earlier world

-- places are read from the outputs alone
pub places_same : (w next : World) (bs : List (List ℕ × ℕ)) → next.outputs ≡ w.outputs → bound_outpoints next bs ≡ bound_outpoints w bs
places_same w next [] e = refl
places_same w next (b ∷ bs) e = let ih = places_same w next bs e in λ i. (b.0, outpoint_of (slice_get (e i) (b.1))) ∷ ih i

-- a contract that is compiled now was so before, where it was complete and nothing that it reads has changed
pub compiled_before : (s : Setup) (w next : World) (k : ℕ) (st : Instance) → next.outputs ≡ w.outputs → bindings_at next.advertised k
    ≡ bindings_at w.advertised k → digests_at next.promises k ≡ digests_at w.promises k
    → is_advertised w k ≡ true → ((a : Advert) → contract_at s k ≡ Some a → have_promised next k (participants a) ≡ true
    → have_promised w k (participants a) ≡ true) → compiled_instance s next k ≡ Some st → compiled_instance s w k ≡ Some st
compiled_before s w next k st outs bound digests adv promised h =
    let c = compiled_is s next k st h in
    let places : bound_outpoints next (bindings_at next.advertised k) ≡ bound_outpoints w (bindings_at w.advertised k) =
    ap (bound_outpoints next) bound ∙ places_same w next (bindings_at w.advertised k) outs in
    let same : instance_of w k c.advert ≡ instance_of next k c.advert = λ i. record {
      contract = k;
      advert = c.advert;
      bound = sym places i;
      hashes = sym digests i;
    } in
    compiled_from s w k c.advert c.there adv (promised c.advert c.there c.promised) ∙ ap Some (same ∙ sym c.is)

-- ---- lists

bindings-new : (xs : List Advertised) (k : ℕ) (bs : List (List ℕ × ℕ)) → list_any (λ a. a.contract == k) xs ≡ false
    → bindings_at (xs ++ record { contract = k; bindings = bs } ∷ []) k ≡ bindings_at (record { contract = k; bindings = bs } ∷ []) k
bindings-new [] k bs h = refl
bindings-new (x ∷ xs) k bs h = grind (arith, bindings-new xs k bs)

pub any_there : (f : List ℕ → Bool) (xs : List (List ℕ)) → list_any f xs ≡ true → (x : List ℕ) × (is_among x xs ≡ true) × (f x ≡ true)
any_there f [] h = cc
any_there f (x ∷ xs) h = elim (or_cases (f x) (list_any f xs) h) [
  | inl q ↦ (x, among_head x xs, q)
  | inr q ↦ (let r = any_there f xs q in (r.0, or_right (bytes_eq x r.0) _ r.1, r.2))
]

-- each of these names is bound to an output that was made
arranged_made : (w : World) (names : List (List ℕ)) (bs : List (List ℕ × ℕ)) → list_all (λ m. is_some (look_up m bs)) names ≡ true
    → ((x : List ℕ) (n : ℕ) → look_up x bs ≡ Some n → is_some (output_at w n) ≡ true) → are_made w (arranged 0 names bs) ≡ true
arranged_made w [] bs all h = refl
arranged_made w (m ∷ names) bs all h =
    let p = and_parts (is_some (look_up m bs)) (list_all (λ m. is_some (look_up m bs)) names) all in
    let r = some_there (look_up m bs) p.0 in
    and_from _ _ (subst (λ o. is_some (output_at w (or_else_this 0 o)) ≡ true) (sym r.1) (h m r.0 r.1)) (arranged_made w names bs p.1 h)

pub deposit_made : (o : Option Output) → is_deposit o ≡ true → is_some o ≡ true
deposit_made None h = cc
deposit_made (Some o) h = refl

-- ---- the new advert

module _ (s : Setup) (setup : IsSetup s) (w : World) (k : ℕ) (bs : List (List ℕ × ℕ)) (row : NoneTrue (advertise_row s w k bs)) where
  abbrev next_adverts : List Advertised
  next_adverts = w.advertised ++ record { contract = k; bindings = arranged 0 (deposit_names s k) bs } ∷ []

  fresh : is_advertised w k ≡ false
  fresh = row.1.0

  names_right : are_rearranged (names_of bs) (deposit_names s k) ≡ true
  names_right = not-false _ row.1.1.0

  all : list_all (λ m. is_some (look_up m bs)) (deposit_names s k) ≡ true
  all = all_looked bs (deposit_names s k) (and_parts _ (list_all (λ n. is_among n (names_of bs)) (deposit_names s k)) names_right).1

  bound_now : bindings_at next_adverts k ≡ arranged 0 (deposit_names s k) bs
  bound_now = bindings-new w.advertised k (arranged 0 (deposit_names s k) bs) fresh ∙ (let t = eq-eqb k k refl in rw t refl)

  pub advert_fine : (next : World) → next.outputs ≡ w.outputs → next.advertised ≡ next_adverts → AdvertFine s next k
  advert_fine next outs adverts = by_contract (contract_at s k) refl (not-false _ row.0)
    where
      bound_next : bindings_at next.advertised k ≡ arranged 0 (deposit_names s k) bs
      bound_next = ap (λ xs. bindings_at xs k) adverts ∙ bound_now

      looked : (x : List ℕ) (n : ℕ) → look_up x (bindings_at next.advertised k) ≡ Some n → look_up x bs ≡ Some n
      looked x n h = look_arranged (deposit_names s k) bs x n all (subst (λ ys. look_up x ys ≡ Some n) bound_next h)

      live : (x : List ℕ) (n : ℕ) → look_up x bs ≡ Some n → is_some (output_at w n) ≡ true
      live x n h = deposit_made (output_at w n) (live_looked w bs x n row.1.1.1.1.0 h)

      made : are_made next (bindings_at next.advertised k) ≡ true
      made = ap (are_made next) bound_next ∙ arranged_made next (deposit_names s k) bs all
          (λ x n h. subst (λ os. is_some (slice_get os n) ≡ true) (sym outs) (live x n h))

      by_contract : (o : Option Advert) → contract_at s k ≡ o → is_some o ≡ true → AdvertFine s next k
      by_contract None c e = cc
      by_contract (Some a) c e =
          let well = contract_checked s setup k a c in
          let pre : pre_at s k ≡ a.pre = ap pre_of c in
          let person = any_there (is_honest s) (people_at s k) (not-false _ row.1.1.1.1.1.1.0) in
          record {
            advert = a;
            there = c;
            made = made;
            bound = λ name h i.
                let there : is_some (look_up name (arranged 0 (deposit_names s k) bs)) ≡ true =
                some_arranged (deposit_names s k) bs name
                (subst (λ ds. is_among name (names_of (deposits ds)) ≡ true) (sym pre) (in_named (deposits a.pre) (name, h) i)) in
                let r = some_there (look_up name (arranged 0 (deposit_names s k) bs)) there in
                let l = look_arranged (deposit_names s k) bs name r.0 all r.1 in
                let d : look_up name (deposits (pre_at s k)) ≡ Some h =
                subst (λ ds. look_up name (deposits ds) ≡ Some h) (sym pre) (deposit_looked a.pre (name, h) (different_names a well) i) in
                let t = suits_looked s w k bs name r.0 row.1.1.1.1.1.0 l in
                let b = suits_bound s w h r.0 (subst (λ o. suits s o (output_at w r.0) ≡ true) d t) in (
                  r.0,
                  subst (λ ys. look_up name ys ≡ Some r.0) (sym bound_next)
                      r.1,
                  record {
                    output = b.output;
                    there = subst (λ os. slice_get os r.0 ≡ Some b.output) (sym outs)
                        b.there;
                    script = b.script;
                    value = b.value;
                    free = b.free;
                    declared = b.declared;
                  },
                );
            apart = λ x y n p q. one_name [] bs x y n row.1.1.1.0 (looked x n p) (looked y n q);
            fair = person;
          }

-- ---- the event

module _ (s : Setup) (setup : IsSetup s) (size : HashesBytes s.hash) (few_contracts : length s.contracts ≤ 16) (strings : List (List ℕ))
    (g : Configuration) (w : World) (kept : KeptBook s g w) (check : Checked s w) (clear : NoCollision s.hash w.hashed)
    (told : (k : ℕ) (a : List ℕ) → has_promised w k a ≡ true → is_advertised w k ≡ true) where
  pub advertise_after : (k : ℕ) (bs : List (List ℕ × ℕ))
      → KeptAfter s size few_contracts strings g w kept check clear (events.Advertise k bs) (advertise_pending s w k bs)
  advertise_after k bs = unless_after s size few_contracts strings g w kept check clear (events.Advertise k bs) (first_reason (advertise_row s w k bs)) []
      (done (record w { advertised = w.advertised ++ record { contract = k; bindings = arranged 0 (deposit_names s k) bs } ∷ [] }) [])
      (λ r apart. kept_now (no_reason-none_true (advertise_row s w k bs) r))
    where
      bound : List (List ℕ × ℕ)
      bound = arranged 0 (deposit_names s k) bs

      new : List Advertised
      new = record { contract = k; bindings = arranged 0 (deposit_names s k) bs } ∷ []

      next : World
      next = record w { advertised = w.advertised ++ record { contract = k; bindings = arranged 0 (deposit_names s k) bs } ∷ []; posted = w.posted ++ [] }

      xs : List Step
      xs = steps.Advertise k (arranged 0 (deposit_names s k) bs) ∷ []

      frame : Frame s g (after_steps g xs) w next
      frame = record {
        outputs = lasts_refl w.outputs;
        book = λ k d h. h;
        hashed = λ t h. h;
        compiled = λ j st h. compiled_stays s w next new [] j st refl (sym (append-nil w.promises)) (lasts_refl w.outputs)
            (kept.adverts j (compiled_is s w j st h).advertised).made refl h;
        bindings = λ j h. bindings-more w.advertised new j h;
        inits = inits_stay xs g;
        asked = asked_stay xs g;
      }

      -- who has committed had it advertised before
      back : (j : ℕ) (st : Instance) → compiled_instance s next j ≡ Some st → compiled_instance s w j ≡ Some st
      back j st h =
          let c = compiled_is s next j st h in
          let one = a_person c.advert (contract_checked s setup j c.advert c.there) in
          let adv = told j one.0 (all_among (has_promised w j) (participants c.advert) one.0 c.promised one.1) in
          compiled_before s w next j st refl (bindings-more w.advertised new j adv) refl adv (λ a e p. p) h

      kept_now : NoneTrue (advertise_row s w k bs) → KeptBook s (after_steps g xs) next
      kept_now row = signs s g (after_steps g xs) w next frame [] kept refl back
          (λ j h f. subst (λ n. AdvertFine s next n) (this_one j h f) (advert_fine s setup w k bs row next refl refl))
          (λ j d h. inl h)
          (λ a d i h x. cc)
          (λ j st q here choice i b a d c e t p h x. cc)
        where
          this_one : (j : ℕ) → is_advertised next j ≡ true → is_advertised w j ≡ false → k ≡ j
          this_one j h f =
              elim (or_cases (is_advertised w j) ((k == j) || false) (sym (any-append (λ (a : Advertised). a.contract == j) w.advertised new) ∙ h)) [
                | inl x ↦ absurd (both_ways _ f x)
                | inr x ↦ elim (or_cases (k == j) false x) [ inl y ↦ eqb-true k j y | inr y ↦ cc ]
              ]
