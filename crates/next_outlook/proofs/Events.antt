-- The candidates are events that a run file can have.
use Rattle.std.proofs.Common.{◌≡◌, ℕ, ◌+◌, List, [], ◌∷◌, ◌++◌, map, Bool, true, false, refl, sym, subst, inl, inr}
use Rattle.std.specs.Prelude.{filter, flat_map, if◌then◌else◌, not, ◌⊎◌}
use Rattle.std.specs.List.{AllByRecursion}
use Rattle.std.specs.Str.{bytes_eq}
use Rattle.std.proofs.lemmas.Bool.{and_parts, or_cases}
use Rattle.std.proofs.lemmas.List.Concat.{flat_map-cons}
use Rattle.spec_data.specs.Lists.{is_among}
use Rattle.spec_terms.specs.Advert.{Advert}
use Rattle.spec_terms.specs.Precondition.{persistent, secrets}
use Rattle.spec_terms.specs.Term.{Guarded}
use Rattle.spec_calculus.specs.declared.parts.ActiveContract.{ActiveContract}
use Rattle.spec_calculus.specs.Configuration.{Configuration}
use Rattle.spec_calculus.specs.Offers.{branches_of}
use Rattle.spec_run.specs.declared.event.Event.{Event}
use Rattle.spec_run.specs.declared.event.Event.TheVariants as events
use Rattle.spec_run.specs.Setup.{Setup, is_declared, is_honest}
use Rattle.spec_run.specs.World.{World}
use Rattle.spec_run.specs.Conditions.{IsHeader, IsEvent, are_all_among}
use Rattle.spec_run.specs.Steps.{is_awaited}
use Rattle.spec_run.specs.Compiled.{compiled_instance}
use Rattle.spec_next.specs.Candidates.{people, committing, has_endorsed, endorsing, has_started, starting, revealing, authorising, taking, taking_active}
use Rattle.spec_next.specs.Candidates.{actives_of, candidates}
use Rattle.theory_calculus.proofs.Names.{bytes-true}

-- one of these people is one of those, where all are
among_all : (p : List ℕ) (names known : List (List ℕ)) → are_all_among names known ≡ true → is_among p names ≡ true → is_among p known ≡ true
among_all p [] known h k = cc
among_all p (x ∷ names) known h k =
    let b = and_parts (is_among x known) (are_all_among names known) h in
    by_case (or_cases (bytes_eq x p) (is_among p names) k) b.0 (among_all p names known b.1)
  where
    by_case : (bytes_eq x p ≡ true) ⊎ (is_among p names ≡ true) → is_among x known ≡ true
        → (is_among p names ≡ true → is_among p known ≡ true) → is_among p known ≡ true
    by_case (inl e) first later = subst (λ y. is_among y known ≡ true) (bytes-true x p e) first
    by_case (inr i) first later = later i

module _ (s : Setup) where
  abbrev Are : List Event → Type 0
  Are es = AllByRecursion (IsEvent s) es

  both : (xs ys : List Event) → Are xs → Are ys → Are (xs ++ ys)
  both [] ys h k = k
  both (x ∷ xs) ys h k = (h.0, both xs ys h.1 k)

  -- all of these people are declared
  abbrev Declared : List (List ℕ) → Type 0
  Declared ps = AllByRecursion (λ p. is_declared s p ≡ true) ps

  kept_declared : (ps : List (List ℕ)) → Declared (filter (λ p. is_declared s p) ps)
  kept_declared [] = tt
  kept_declared (p ∷ ps) = by_test (is_declared s p) refl (kept_declared ps)
    where
      by_test : (b : Bool) → is_declared s p ≡ b → Declared (filter (λ q. is_declared s q) ps)
          → Declared (if b then p ∷ filter (λ q. is_declared s q) ps else filter (λ q. is_declared s q) ps)
      by_test true e later = (e, later)
      by_test false e later = later

  mapped : (f : List ℕ → Event) → ((p : List ℕ) → is_declared s p ≡ true → IsEvent s (f p)) → (ps : List (List ℕ)) → Declared ps → Are (map f ps)
  mapped f h [] d = tt
  mapped f h (p ∷ ps) d = (h p d.0, mapped f h ps d.1)

  filtered : (f : List ℕ → Event) (keep : List ℕ → Bool) → ((p : List ℕ) → is_declared s p ≡ true → IsEvent s (f p)) → (ps : List (List ℕ))
      → Declared ps → Are (map f (filter keep ps))
  filtered f keep h [] d = tt
  filtered f keep h (p ∷ ps) d = by_test (keep p) (filtered f keep h ps d.1)
    where
      by_test : (b : Bool) → Are (map f (filter keep ps)) → Are (map f (if b then p ∷ filter keep ps else filter keep ps))
      by_test true later = (h p d.0, later)
      by_test false later = later

  -- ---- secrets

  module _ (header : IsHeader s.header) where
    abbrev honest_of : List (List ℕ × List ℕ) → List (List ℕ × List ℕ)
    honest_of xs = filter (λ (y : List ℕ × List ℕ). is_honest s (y.1)) xs

    abbrev reveal : ℕ → List ℕ × List ℕ → Event
    reveal k y = events.Reveal k (y.1) (y.0)

    reveals : (k : ℕ) (xs : List (List ℕ × List ℕ)) → Are (revealing s k xs)
    reveals k [] = tt
    reveals k (x ∷ xs) = by_test (is_honest s (x.1)) refl (reveals k xs)
      where
        by_test : (b : Bool) → is_honest s (x.1) ≡ b → Are (map (reveal k) (honest_of xs))
            → Are (map (reveal k) (if b then x ∷ honest_of xs else honest_of xs))
        by_test true e later = (among_all (x.1) s.header.honest s.header.parties header.honest_declared e, later)
        by_test false e later = later

    -- ---- branches

    module _ (g : Configuration) (ps : List (List ℕ)) (declared : Declared ps) where
      takes : (n i : ℕ) (bs : List Guarded) → Are (taking g ps n i bs)
      takes n i [] = tt
      takes n i (b ∷ bs) =
          both (authorising g ps n i b) (events.Fire n i ∷ taking g ps n (i + 1) bs)
          (filtered (λ party. events.Authorise party n i) (λ party. is_awaited g n i b party) (λ p h. h) ps declared)
          (tt, takes n (i + 1) bs)

      actives : (xs : List ActiveContract) → Are (flat_map (taking_active g ps) xs)
      actives [] = tt
      actives (a ∷ xs) =
          subst Are (sym (flat_map-cons (taking_active g ps) a xs))
          (both (taking_active g ps a) (flat_map (taking_active g ps) xs) (takes a.number 0 (branches_of g.contracts a)) (actives xs))

    pub candidates_are : (g : Configuration) (w : World) (k : ℕ) (c : Advert) → AllByRecursion (IsEvent s) (candidates s g w k c)
    candidates_are g w k c =
        let ps = people s c in
        let declared : Declared ps = kept_declared _ in (
          tt,
          both (map (committing k) ps) _ (mapped (committing k) (λ p h. (h, tt)) ps declared)
              (both (endorsing s w k ps) _
              (filtered (λ party. events.Endorse k party) (λ party. not (has_endorsed s w (compiled_instance s w k) party)) (λ p h. h) ps declared)
              (both (starting g k (persistent c.pre) ps) _
              (filtered (λ party. events.Init k party) (λ party. not (has_started g k (persistent c.pre) party)) (λ p h. h) ps declared) (
                tt,
                both (revealing s k (secrets c.pre)) _ (reveals k (secrets c.pre))
                    (actives g ps declared (actives_of g k)),
              ))),
        )
