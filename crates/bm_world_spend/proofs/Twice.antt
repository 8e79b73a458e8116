-- Messages that are hashed a second time: nothing is added by them.
use Rattle.std.proofs.Common.{◌≡◌, List, [], ◌∷◌, ◌++◌, true, None, refl, sym, ap, ◌∙◌, subst, inl, inr}
use Rattle.std.specs.Prelude.{◌⊎◌}
use Rattle.spec_data.specs.Lists.{is_among}
use Rattle.spec_data.specs.Messages.{collision}
use Rattle.theory_world.proofs.Hashed.{all_new, among_left, among_head, among_tail}
use Rattle.bm_hash.specs.declared.messages.TrailError.{TrailError}
use Rattle.bm_hash.specs.Messages.{Message, evidence_of, noted, noted_all}
use Rattle.bm_hash.specs.Trails.{Hashed, Stops}
use Rattle.bm_hash.proofs.HashesLemmas.{noted_all-append}
use Rattle.bm_hash.proofs.Collisions.{evidence_of-noted_all, hashed_adds}

-- a message that is there isn't added
there_stays : (hash : Message → Message) (ms : List Message) (m : Message) → evidence_of hash ms ≡ None → is_among m ms ≡ true → noted hash ms m ≡ ms
there_stays hash ms m clear there = rw (clear, there) refl

-- nor are several
all_stay : (hash : Message → Message) (ms xs : List Message) → evidence_of hash ms ≡ None
    → ((t : Message) → is_among t xs ≡ true → is_among t ms ≡ true) → noted_all hash ms xs ≡ ms
all_stay hash ms [] clear there = refl
all_stay hash ms (x ∷ xs) clear there =
    ap (λ l. noted_all hash l xs) (there_stays hash ms x clear (there x (among_head x xs)))
    ∙ all_stay hash ms xs clear (λ t h. there t (among_tail t x xs h))

-- a list that is joined of two is cut somewhere: within the first, or behind it
pub record Within (xs ys prefix back : List Message) : Type 0 where
  pub rest : List Message
  pub first : xs ≡ prefix ++ rest

pub record Behind (xs ys prefix back : List Message) : Type 0 where
  pub more : List Message
  pub first : prefix ≡ xs ++ more

cut_at : (xs ys prefix back : List Message) → xs ++ ys ≡ prefix ++ back → Within xs ys prefix back ⊎ Behind xs ys prefix back
cut_at xs ys [] back e = inl (record { rest = xs; first = refl })
cut_at [] ys (f ∷ prefix) back e = inr (record { more = f ∷ prefix; first = refl })
cut_at (x ∷ xs) ys (f ∷ prefix) back e =
    let head : x ≡ f = cc in
    let tail : xs ++ ys ≡ prefix ++ back = cc in
    elim (cut_at xs ys prefix back tail) [
      | inl a ↦ inl (record { rest = a.rest; first = λ i. head i ∷ a.first i })
      | inr b ↦ inr (record { more = b.more; first = λ i. sym head i ∷ b.first i })
    ]

module _ (hash : Message → Message) (old mid xs : List Message) (clear : evidence_of hash old ≡ None) (first : Hashed hash old mid xs) where
  xs_there : (t : Message) → is_among t xs ≡ true → is_among t mid ≡ true
  xs_there t h = subst (λ l. is_among t l ≡ true) (sym (hashed_adds hash old mid xs clear first).0) (all_new old xs t h)

  -- what was hashed once adds nothing
  stay : (prefix : List Message) → ((t : Message) → is_among t prefix ≡ true → is_among t xs ≡ true) → noted_all hash mid prefix ≡ mid
  stay prefix within = all_stay hash mid prefix first.clear (λ t h. xs_there t (within t h))

  pub again : (ys : List Message) → noted_all hash mid (xs ++ ys) ≡ noted_all hash old (xs ++ ys)
  again ys =
      noted_all-append hash mid xs ys
      ∙ ap (λ l. noted_all hash l ys) (stay xs (λ t h. h) ∙ first.all)
      ∙ sym (noted_all-append hash old xs ys)

  pub hashed_again : (new ys : List Message) → Hashed hash mid new (xs ++ ys) → Hashed hash old new (xs ++ ys)
  hashed_again new ys h = record { all = h.all ∙ again ys; clear = h.clear }

  pub calm_again : (ys : List Message) → collision hash mid (xs ++ ys) ≡ None → collision hash old (xs ++ ys) ≡ None
  calm_again ys h =
      sym (evidence_of-noted_all hash old (xs ++ ys) clear)
      ∙ ap (evidence_of hash) (sym (again ys))
      ∙ evidence_of-noted_all hash mid (xs ++ ys) first.clear
      ∙ h

  pub stops_again : (new ys : List Message) (e : TrailError) → Stops hash mid new (xs ++ ys) e → Stops hash old new (xs ++ ys) e
  stops_again new ys e s = record {
    collided = λ is. let h = s.collided is in (h.0 ∙ again ys, h.1);
    memory = λ is. let h = s.memory is in by_cut h.0 h.1 h.2 h.3 h.4 (cut_at xs ys h.0 h.1 h.2);
  }
    where
      by_cut : (prefix back : List Message) → xs ++ ys ≡ prefix ++ back → new ≡ noted_all hash mid prefix → evidence_of hash new ≡ None
          → Within xs ys prefix back ⊎ Behind xs ys prefix back
          → (f : List Message) × (b : List Message) × (xs ++ ys ≡ f ++ b) × (new ≡ noted_all hash old f) × (evidence_of hash new ≡ None)
      by_cut prefix back cut is calm (inl a) =
          (xs, ys, refl, is ∙ stay prefix (λ t h. subst (λ l. is_among t l ≡ true) (sym a.first) (among_left t prefix a.rest h)) ∙ first.all, calm)
      by_cut prefix back cut is calm (inr b) =
          (prefix, back, cut, is ∙ ap (noted_all hash mid) b.first ∙ again b.more ∙ ap (noted_all hash old) (sym b.first), calm)

-- the same of strings that are the same
pub stops_same : (hash : Message → Message) (old new xs ys : List Message) (e : TrailError) → xs ≡ ys → Stops hash old new xs e → Stops hash old new ys e
stops_same hash old new xs ys e same h = subst (λ l. Stops hash old new l e) same h
