-- What is kept after a contract is advertised: it is bound to live deposits that suit it, each to one, and no party has committed yet.
use Rattle.std.proofs.Common.{◌≡◌, ℕ, zero, suc, ◌≤◌, List, [], ◌∷◌, ◌++◌, length, map, Bool, true, false, Option, Some, None, refl, sym, ap, ◌∙◌, subst, inl, inr, append-nil}
use Rattle.std.specs.Prelude.{◌==◌, ◌&&◌, slice_get, is_some}
use Rattle.std.specs.List.{list_any, list_all, AllByRecursion}
use Rattle.std.proofs.lemmas.Bool.{and_parts, and_from, or_parts, or_cases, both_ways, not-false, eqb-true, eq-eqb}
use Rattle.spec_data.specs.Lists.{is_among, are_different, look_up, first_reason, NoneTrue}
use Rattle.spec_data.proofs.ListLemmas.{no_reason-none_true}
use Rattle.spec_terms.specs.Advert.{Advert}
use Rattle.spec_terms.specs.Faults.{IsWellFormed}
use Rattle.spec_terms.specs.Parties.{participants}
use Rattle.spec_terms.specs.Precondition.{Holding, deposits, names_of, name_in}
use Rattle.spec_calculus.specs.declared.parts.Advertised.{Advertised}
use Rattle.spec_calculus.specs.Configuration.{Configuration}
use Rattle.spec_calculus.specs.Steps.{after_steps}
use Rattle.spec_compiler.specs.Instance.{Instance}
use Rattle.spec_run.specs.declared.event.Event.{Event}
use Rattle.spec_run.specs.Setup.{Setup, is_honest, contract_at, pre_of, people_of, pre_at, people_at}
use Rattle.spec_run.specs.World.{Output, World, output_at, is_deposit, bindings_at, is_advertised, has_promised}
use Rattle.spec_run.specs.Compiled.{instance_of, compiled_instance}
use Rattle.spec_run.specs.Conditions.{HashesBytes}
use Rattle.spec_run.specs.Pending.{done, applied}
use Rattle.spec_run.specs.Owners.{suits}
use Rattle.spec_run.specs.Advertising.{arranged, not_live, deposit_names, advertise_row, advertise_pending}
use Rattle.spec_run.specs.Steps.{steps_of}
use Rattle.theory_calculus.proofs.Names.{all_among, different_names, in_named}
use Rattle.theory_calculus.specs.Members.{Is_in}
use Rattle.theory_calculus.proofs.Members.{some_there}
use Rattle.theory_world.proofs.Tests.{any-append}
use Rattle.theory_world.specs.KeptApart.{NoCollision, are_made}
use Rattle.theory_world.proofs.Later.{lasts_refl, bindings-more, compiled_is, compiled_from, compiled_stays}
use Rattle.theory_run.specs.KeptBook.{KeptBook, AdvertFine, IsBound}
use Rattle.theory_run.proofs.Facts.Kept.{Frame, signs}
use Rattle.theory_run.proofs.Accepted.Spending.{Checked}
use Rattle.theory_world.proofs.Staying.{inits_stay, asked_stay}
use Rattle.theory_run.proofs.Events.Quiet.{KeptAfter, unless_after}
use Rattle.theory_run.proofs.Events.Advertised.{look_arranged, some_arranged, all_looked, live_looked, suits_looked, one_name, suits_bound, deposit_looked}
use Rattle.theory_run.proofs.Events.AfterAdvert.{any_there}

one_of : {X : Type 0} (P : X → Type 0) (xs : List X) (n : ℕ) (x : X) → AllByRecursion P xs → slice_get xs n ≡ Some x → P x
one_of P [] n x h e = cc
one_of P (y ∷ xs) zero x h e = let z : y ≡ x = cc in subst P z h.0
one_of P (y ∷ xs) (suc n) x h e = one_of P xs n x h.1 e

bindings_last : (xs : List Advertised) (k : ℕ) (bs : List (List ℕ × ℕ)) → list_any (λ (a : Advertised). a.contract == k) xs ≡ false
    → bindings_at (xs ++ record { contract = k; bindings = bs } ∷ []) k ≡ bs
bindings_last [] k bs h = let z = eq-eqb k k refl in rw z refl
bindings_last (x ∷ xs) k bs h =
    let p = or_parts (x.contract == k) (list_any (λ (a : Advertised). a.contract == k) xs) h in let z = p.0 in rw z (bindings_last xs k bs p.1)

-- each of them is bound to an output that was made
made_arranged : (w : World) (names : List (List ℕ)) (bs : List (List ℕ × ℕ)) → is_some (not_live w bs) ≡ false
    → list_all (λ m. is_some (look_up m bs)) names ≡ true → are_made w (arranged 0 names bs) ≡ true
made_arranged w [] bs live h = refl
made_arranged w (m ∷ names) bs live h =
    let p = and_parts (is_some (look_up m bs)) (list_all (λ m. is_some (look_up m bs)) names) h in
    let r = some_there (look_up m bs) p.0 in
    let e = r.1 in
    and_from _ _ (rw e (by_output (output_at w r.0) (live_looked w bs m r.0 live e))) (made_arranged w names bs live p.1)
  where
    by_output : (o : Option Output) → is_deposit o ≡ true → is_some o ≡ true
    by_output None q = cc
    by_output (Some o) q = refl

module _ (s : Setup) (size : HashesBytes s.hash) (few_contracts : length s.contracts ≤ 16) (strings : List (List ℕ)) (g : Configuration)
    (w : World) (kept : KeptBook s g w) (check : Checked s w) (clear : NoCollision s.hash w.hashed)
    (well : AllByRecursion IsWellFormed s.contracts)
    (told : (k : ℕ) (a : List ℕ) → has_promised w k a ≡ true → is_advertised w k ≡ true) (contract : ℕ) (bindings : List (List ℕ × ℕ)) where
  abbrev names : List (List ℕ)
  names = deposit_names s contract

  abbrev entry : Advertised
  entry = record { contract = contract; bindings = arranged 0 names bindings }

  abbrev next : World
  next = record w { advertised = w.advertised ++ entry ∷ []; posted = w.posted ++ [] }

  stays : (k : ℕ) (st : Instance) → compiled_instance s w k ≡ Some st → compiled_instance s next k ≡ Some st
  stays k st h =
      let c = compiled_is s w k st h in
      compiled_stays s w next (entry ∷ []) [] k st refl (sym (append-nil w.promises)) (lasts_refl w.outputs) (kept.adverts k c.advertised).made refl h

  the_new : (k : ℕ) → is_advertised next k ≡ true → is_advertised w k ≡ false → contract ≡ k
  the_new k h f =
      elim (or_cases (is_advertised w k) (list_any (λ (a : Advertised). a.contract == k) (entry ∷ []))
      (sym (any-append (λ (a : Advertised). a.contract == k) w.advertised (entry ∷ [])) ∙ h)) [
        | inl x ↦ absurd (both_ways _ f x)
        | inr y ↦ elim (or_cases (contract == k) false y) [ inl u ↦ eqb-true contract k u | inr v ↦ cc ]
      ]

  module _ (row : NoneTrue (advertise_row s w contract bindings)) where
    found : (a : Advert) × (contract_at s contract ≡ Some a)
    found = some_there (contract_at s contract) (not-false _ row.0)

    looked : list_all (λ m. is_some (look_up m bindings)) names ≡ true
    looked =
        let p = and_parts (are_different (names_of bindings) && list_all (λ n. is_among n names) (names_of bindings))
        (list_all (λ n. is_among n (names_of bindings)) names) (not-false _ row.1.1.0) in
        all_looked bindings names p.1

    bindings_are : bindings_at next.advertised contract ≡ arranged 0 names bindings
    bindings_are = bindings_last w.advertised contract (arranged 0 names bindings) row.1.0

    pre_is : pre_at s contract ≡ (found.0).pre
    pre_is = ap pre_of found.1

    differ : are_different (map name_in (pre_at s contract)) ≡ true
    differ = subst (λ pre. are_different (map name_in pre) ≡ true) (sym pre_is)
        (different_names found.0 (one_of IsWellFormed s.contracts contract found.0 well found.1))

    fair : (a : List ℕ) × (is_among a (people_at s contract) ≡ true) × (is_honest s a ≡ true)
    fair = any_there (is_honest s) (people_at s contract) (not-false _ row.1.1.1.1.1.1.0)

    bound_one : (name : List ℕ) (h : Holding) → Is_in (name, h) (deposits (pre_at s contract)) → (n : ℕ)
        × (look_up name (arranged 0 names bindings) ≡ Some n) × IsBound s next h n
    bound_one name h i =
        let r = some_there (look_up name (arranged 0 names bindings))
        (some_arranged names bindings name (in_named (deposits (pre_at s contract)) (name, h) i)) in
        let l = look_arranged names bindings name r.0 looked r.1 in
        let su = suits_looked s w contract bindings name r.0 row.1.1.1.1.1.0 l in
        let b = suits_bound s w h r.0 (subst (λ o. suits s o (output_at w r.0) ≡ true) (deposit_looked (pre_at s contract) (name, h) differ i) su) in
        (r.0, r.1, record { output = b.output; there = b.there; script = b.script; value = b.value; free = b.free; declared = b.declared })

    new_fine : AdvertFine s next contract
    new_fine = record {
      advert = found.0;
      there = found.1;
      made = subst (λ bs. are_made next bs ≡ true) (sym bindings_are) (made_arranged w names bindings row.1.1.1.1.0 looked);
      bound =
          λ name h i.
          let r = bound_one name h (subst (λ pre. Is_in (name, h) (deposits pre)) (sym pre_is) i) in
          (r.0, subst (λ bs. look_up name bs ≡ Some r.0) (sym bindings_are) r.1, r.2);
      apart = λ x y n p q. one_name [] bindings x y n row.1.1.1.0
          (look_arranged names bindings x n looked (subst (λ bs. look_up x bs ≡ Some n) bindings_are p))
          (look_arranged names bindings y n looked (subst (λ bs. look_up y bs ≡ Some n) bindings_are q));
      fair = fair;
    }

    -- nothing more is compiled, since nobody has committed
    no_others : (k : ℕ) (st : Instance) → compiled_instance s next k ≡ Some st → compiled_instance s w k ≡ Some st
    no_others k st h =
        let c = compiled_is s next k st h in
        let x : compiled_instance s w k ≡ Some (instance_of w k c.advert) =
        compiled_from s w k c.advert c.there (by_old c.advert c.there c.promised c.advertised (is_advertised w k) refl) c.promised in
        let y : compiled_instance s next k ≡ Some (instance_of w k c.advert) = stays k (instance_of w k c.advert) x in
        x ∙ sym y ∙ h
      where
        by_old : (a : Advert) → contract_at s k ≡ Some a → list_all (has_promised w k) (participants a) ≡ true → is_advertised next k ≡ true
            → (b : Bool) → is_advertised w k ≡ b → is_advertised w k ≡ true
        by_old a there promised adv true e = e
        by_old a there promised adv false e =
            let z = the_new k adv e in
            let m : is_among fair.0 (participants a) ≡ true = subst (λ o. is_among fair.0 (people_of o) ≡ true) (ap (contract_at s) z ∙ there) fair.1 in
            told k fair.0 (all_among (has_promised w k) (participants a) fair.0 promised m)

    advertised_kept : (g' : Configuration) (f : Frame s g g' w next) → KeptBook s g' next
    advertised_kept g' f = signs s g g' w next f [] kept refl no_others (λ k h e. subst (AdvertFine s next) (the_new k h e) new_fine)
        (λ k d h. inl h) (λ a d k h x. cc) (λ k st q here choice i b a d c e t p h x. cc)

  pub advertise_after : (e : Event) → KeptAfter s size few_contracts strings g w kept check clear e (advertise_pending s w contract bindings)
  advertise_after e = unless_after s size few_contracts strings g w kept check clear e (first_reason (advertise_row s w contract bindings))
      [] (done (record w { advertised = w.advertised ++ entry ∷ [] }) []) (λ r apart.
      let d = done (record w { advertised = w.advertised ++ entry ∷ [] }) [] in
      let xs = steps_of s strings g w (applied w d) e d in
      advertised_kept (no_reason-none_true (advertise_row s w contract bindings) r) (after_steps g xs)
      (record {
        outputs = lasts_refl w.outputs;
        book = λ k d h. h;
        hashed = λ t h. h;
        compiled = stays;
        bindings = λ k h. bindings-more
            w.advertised (entry ∷ []) k h;
        inits = inits_stay xs g;
        asked = asked_stay xs g;
      }))
