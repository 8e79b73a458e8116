-- Which events are listed.
use Rattle.std.proofs.Common.{◌≡◌, ℕ, ◌≤◌, List, [], ◌∷◌, Bool, true, false, Option, Some, None, refl, sym, ap, ◌∙◌, subst, inl, inr, ◌⊎◌, arith}
use Rattle.std.specs.Prelude.{◌==◌, nat_le, if◌then◌else◌}
use Rattle.spec_next.specs.declared.outlook.Prospect.{Prospect}
use Rattle.spec_next.specs.Listed.{phase, is_later, later_phase, earlier, next_phase, is_due, listed, is_asked, by_party, listed_of}
use Rattle.theory_calculus.specs.Members.{Is_in}
use Rattle.theory_calculus.proofs.Members.{in_filter, filter_has, in_from_contains, contains_from_in}
use Rattle.theory_next.specs.Listed.{ComesLater, NothingIsLeftOut}

-- ---- phases

-- what has this phase may come later
record HasPhase (p : Prospect) (n : ℕ) : Type 0 where
  later : is_later p ≡ true
  of : phase p.event ≡ Some n

has_phase : (p : Prospect) (n : ℕ) → later_phase p ≡ Some n → HasPhase p n
has_phase p n h = by_test (is_later p) refl h
  where
    by_test : (b : Bool) → is_later p ≡ b → (if b then phase p.event else None) ≡ Some n → HasPhase p n
    by_test true e q = record { later = e; of = q }
    by_test false e q = cc

-- one of these has this phase
record Sooner (ps : List Prospect) (n : ℕ) : Type 0 where
  one : Prospect
  there : Is_in one ps
  of : later_phase one ≡ Some n

some_is : {a b : ℕ} → Some a ≡ Some b → a ≡ b
some_is q = cc

sooner_of : (ps : List Prospect) (n : ℕ) → next_phase ps ≡ Some n → Sooner ps n
sooner_of [] n h = cc
sooner_of (p ∷ ps) n h = by_phases (λ m e. sooner_of ps m e) (later_phase p) (next_phase ps) refl refl h
  where
    behind : (m : ℕ) → Sooner ps m → m ≡ n → Sooner (p ∷ ps) n
    behind m r q = record { one = r.one; there = inr r.there; of = r.of ∙ ap Some q }

    by_phases : ((m : ℕ) → next_phase ps ≡ Some m → Sooner ps m) → (a b : Option ℕ) → later_phase p ≡ a → next_phase ps ≡ b → earlier a b ≡ Some n → Sooner (p ∷ ps) n
    by_phases rest None None e f q = cc
    by_phases rest None (Some m) e f q = behind m (rest m f) (some_is q)
    by_phases rest (Some l) None e f q = record { one = p; there = inl refl; of = e ∙ q }
    by_phases rest (Some l) (Some m) e f q = by_order (nat_le l m) q
      where
        by_order : (b : Bool) → Some (if b then l else m) ≡ Some n → Sooner (p ∷ ps) n
        by_order true z = record { one = p; there = inl refl; of = e ∙ z }
        by_order false z = behind m (rest m f) (some_is z)

-- the next phase is no later than that of one of these
record NoLater (next : Option ℕ) (n : ℕ) : Type 0 where
  first : ℕ
  is : next ≡ Some first
  below : first ≤ n

no_later : (ps : List Prospect) (p : Prospect) (n : ℕ) → Is_in p ps → later_phase p ≡ Some n → NoLater (next_phase ps) n
no_later [] p n i h = absurd i
no_later (q ∷ qs) p n (inl e) h = by_next (next_phase qs)
  where
    here : later_phase q ≡ Some n
    here = subst (λ x. later_phase x ≡ Some n) e h

    by_next : (b : Option ℕ) → NoLater (earlier (later_phase q) b) n
    by_next None = record { first = n; is = ap (λ a. earlier a None) here; below = omega arith }
    by_next (Some m) = by_order (nat_le n m) refl
      where
        by_order : (b : Bool) → nat_le n m ≡ b → NoLater (earlier (later_phase q) (Some m)) n
        by_order true z = record {
          first = n;
          is = ap (λ a. earlier a (Some m)) here ∙ ap (λ b. Some (if b then n else m)) z;
          below = omega arith;
        }
        by_order false z = record {
          first = m;
          is = ap (λ a. earlier a (Some m)) here ∙ ap (λ b. Some (if b then n else m)) z;
          below = grind arith;
        }
no_later (q ∷ qs) p n (inr i) h =
    let r = no_later qs p n i h in
    subst (λ b. NoLater (earlier (later_phase q) b) n) (sym r.is) (by_first r.first r.below (later_phase q))
  where
    by_first : (m : ℕ) → m ≤ n → (a : Option ℕ) → NoLater (earlier a (Some m)) n
    by_first m below None = record { first = m; is = refl; below = below }
    by_first m below (Some l) = by_order (nat_le l m) refl
      where
        by_order : (b : Bool) → nat_le l m ≡ b → NoLater (earlier (Some l) (Some m)) n
        by_order true z = record { first = l; is = ap (λ b. Some (if b then l else m)) z; below = grind arith }
        by_order false z = record { first = m; is = ap (λ b. Some (if b then l else m)) z; below = below }

-- ---- what is listed

same_is_equal : (n : ℕ) → (n == n) ≡ true
same_is_equal n = grind arith

is_listed : (ps : List Prospect) (p : Prospect) → Is_in p ps → (is_due (later_phase p) (next_phase ps) ≡ true) → Is_in p (listed ps)
is_listed ps p i h = filter_has (λ q. is_due (later_phase q) (next_phase ps)) ps p i h

listed_or_later : (ps : List Prospect) (p : Prospect) → Is_in p ps → Is_in p (listed ps) ⊎ ComesLater ps p
listed_or_later ps p i = by_phase (later_phase p) refl
  where
    by_phase : (a : Option ℕ) → later_phase p ≡ a → Is_in p (listed ps) ⊎ ComesLater ps p
    by_phase None e = inl (is_listed ps p i (ap (λ a. is_due a (next_phase ps)) e))
    by_phase (Some n) e =
        let r = no_later ps p n i e in
        by_test r.first r.is r.below (n == r.first) refl
      where
        by_test : (m : ℕ) → next_phase ps ≡ Some m → m ≤ n → (b : Bool) → (n == m) ≡ b → Is_in p (listed ps) ⊎ ComesLater ps p
        by_test m is below true z = inl (is_listed ps p i (ap (λ a. is_due a (next_phase ps)) e ∙ ap (is_due (Some n)) is ∙ z))
        by_test m is below false z =
            let s = sooner_of ps m is in
            let own = has_phase p n e in
            let other = has_phase s.one m s.of in
            inr (record {
              later = own.later;
              of_phase = n;
              is_of = own.of;
              sooner = s.one;
              there = contains_from_in (listed ps) s.one
                  (is_listed ps s.one s.there (ap (λ a. is_due a (next_phase ps)) s.of ∙ ap (is_due (Some m)) is ∙ same_is_equal m));
              may_come = other.later;
              sooner_phase = m;
              is_sooner = other.of;
              before = grind arith;
            })

pub nothing_is_left_out : NothingIsLeftOut
nothing_is_left_out party o = record {
  own = λ p h.
      let qs = by_party party o.prospects in
      let f = in_filter (λ q. is_due (later_phase q) (next_phase qs)) qs p (in_from_contains (listed_of party o) p h) in
      let a = in_filter (λ (q : Prospect). is_asked party q) o.prospects p f.0 in
      (contains_from_in o.prospects p a.0, a.1);
  all = λ p h a.
      let qs = by_party party o.prospects in
      let i = filter_has (λ (q : Prospect). is_asked party q) o.prospects p (in_from_contains o.prospects p h) a in
      elim (listed_or_later qs p i) [
        | inl i ↦ inl (contains_from_in (listed_of party o) p i)
        | inr l ↦ inr l
      ];
}
