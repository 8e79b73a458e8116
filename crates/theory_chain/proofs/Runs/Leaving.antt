-- What is gone of the deposits was never taken, and may move outside.
use Rattle.std.proofs.Common.{◌≡◌, ℕ, List, [], ◌∷◌, ◌++◌, Bool, true, false, Some}
use Rattle.std.proofs.Common.{refl, sym, ap, subst, ◌∙◌, inl, inr, cond, arith}
use Rattle.std.specs.Prelude.{◌||◌, ◌==◌, not, is_some, nat_le, sum_by}
use Rattle.std.specs.List.{flat_map}
use Rattle.std.proofs.lemmas.Bool.{and_parts, and_from, both_ways, eq-eqb, ne_eqb, eqb-true, not-true, or_left}
use Rattle.std.proofs.lemmas.Bool.Decides.{nat_tests}
use Rattle.spec_data.specs.Lists.{look_up, is_among, are_different}
use Rattle.spec_terms.specs.Precondition.{Holding}
use Rattle.spec_calculus.specs.declared.step.Owner.{Owner}
use Rattle.spec_calculus.specs.declared.step.Owner.TheVariants as owners
use Rattle.spec_calculus.specs.declared.step.Move.{Move}
use Rattle.spec_calculus.specs.declared.step.Step.{Step}
use Rattle.spec_calculus.specs.declared.step.Step.TheVariants as steps
use Rattle.spec_calculus.specs.declared.parts.Deposit.{Deposit as LiveDeposit}
use Rattle.spec_calculus.specs.Configuration.{Configuration}
use Rattle.spec_calculus.specs.Moves.{deposit_at, owner_at, value_at, owner_of, value_or_zero, kept, made, spends_live, has_agreed, with_authorisation, value_in, value_out}
use Rattle.spec_calculus.specs.Same.{owner_eq}
use Rattle.spec_calculus.specs.Steps.{effect, Legal, auth_move_premises, move_premises}
use Rattle.theory_calculus.specs.Members.{Is_in}
use Rattle.theory_world.proofs.Hashed.{among_head}
use Rattle.theory_run.proofs.Steps.Legal.{passes, owner_refl, all_there}
use Rattle.spec_data.specs.Lists.{AllTrue}
use Rattle.theory_chain.specs.ChainSteps.{outside_move, leave_steps}
use Rattle.theory_chain.proofs.Deals.Whole.{among_in}

-- ---- a deposit that stays

-- another deposit is found as before
found_still : (ds more : List LiveDeposit) (m k : ℕ) (d : LiveDeposit) → (m == k) ≡ false → deposit_at ds k ≡ Some d
    → deposit_at (kept ds (m ∷ []) ++ more) k ≡ Some d
found_still [] more m k d other h = cc
found_still (x ∷ ds) more m k d other h = by_tests (m == x.number) (x.number == k) refl refl h (found_still ds more m k d other)
  where
    no : {a b : ℕ} → (a == b) ≡ false → a ≡ b → ⊥
    no {a} {b} e same = both_ways _ e (eq-eqb a b same)

    by_tests : (a b : Bool) → (m == x.number) ≡ a → (x.number == k) ≡ b → cond b (Some x) (deposit_at ds k) ≡ Some d
        → (deposit_at ds k ≡ Some d → deposit_at (kept ds (m ∷ []) ++ more) k ≡ Some d)
        → deposit_at (cond (not (a || false)) (x ∷ kept ds (m ∷ [])) (kept ds (m ∷ [])) ++ more) k ≡ Some d
    by_tests true true e f g later = absurd (no other (eqb-true m x.number e ∙ eqb-true x.number k f))
    by_tests true false e f g later = later g
    by_tests false true e f g later = rw f g
    by_tests false false e f g later = rw f (later g)

-- ---- one leaves

-- what is there of these names
pub record IsLeft (bs : List (List ℕ × ℕ)) (hs : List (List ℕ × Holding)) (ds : List LiveDeposit) (x : List ℕ) : Type 0 where
  pub number : ℕ
  pub holding : Holding
  pub bound : look_up x bs ≡ Some number
  pub held : look_up x hs ≡ Some holding
  pub there : deposit_at ds number ≡ Some (record { number = number; owner = owners.Party holding.owner; value = holding.value })

one_sum : {X : Type 0} (f : X → ℕ) (x : X) → sum_by f (x ∷ []) ≡ f x
one_sum f x = omega arith

module _ (g : Configuration) (number : ℕ) (h : Holding)
    (there : deposit_at g.deposits number ≡ Some (record { number = number; owner = owners.Party h.owner; value = h.value })) where
  abbrev action : Move
  action = outside_move number h.value

  abbrev agreed : Configuration
  agreed = record g { move_authorised = with_authorisation g.move_authorised h.owner (outside_move number h.value) }

  abbrev moved_on : Configuration
  moved_on = effect agreed (steps.Move (outside_move number h.value))

  owner_is : owner_at g.deposits number ≡ owners.Party h.owner
  owner_is = ap owner_of there

  spends : spends_live g.deposits (number ∷ []) ≡ true
  spends = and_from _ _ (and_from _ _ refl refl) (and_from _ _ (ap is_some there) refl)

  auth_row : AllTrue (auth_move_premises g.deposits h.owner (outside_move number h.value))
  auth_row = (spends, (ap (λ (o : Owner). owner_eq o (owners.Party h.owner) || false) owner_is ∙ or_left _ _ (owner_refl (owners.Party h.owner)), tt))

  enough : nat_le (value_out ((owners.Outside, h.value) ∷ [])) (value_in g.deposits (number ∷ [])) ≡ true
  enough =
      within (value_out ((owners.Outside, h.value) ∷ [])) (value_in g.deposits (number ∷ []))
      (one_sum (λ (o : Owner × ℕ). o.1) (owners.Outside, h.value) ∙ sym (one_sum (value_at g.deposits) number ∙ ap value_or_zero there))
    where
      within : (a b : ℕ) → a ≡ b → nat_le a b ≡ true
      within a b e = grind (arith, nat_tests)

  move_row : AllTrue (move_premises g.deposits agreed.move_authorised (outside_move number h.value))
  move_row = (
    spends,
    (
      and_from _ _ refl enough,
      (
        and_from _ _
            (ap (has_agreed agreed.move_authorised (outside_move number h.value)) owner_is
            ∙ all_there g.move_authorised (outside_move number h.value) (h.owner ∷ []) h.owner (among_head h.owner [])) refl,
        tt,
      ),
    ),
  )

  leaves : (ss : List Step) → Legal moved_on ss
      → Legal g (steps.AuthMove h.owner (outside_move number h.value) ∷ steps.Move (outside_move number h.value) ∷ ss)
  leaves ss rest =
      (passes g (steps.AuthMove h.owner (outside_move number h.value)) auth_row, (passes agreed (steps.Move (outside_move number h.value)) move_row, rest))

-- ---- all of them

module _ (bs : List (List ℕ × ℕ)) (hs : List (List ℕ × Holding))
    (once : (x y : List ℕ) (m : ℕ) → look_up x bs ≡ Some m → look_up y bs ≡ Some m → x ≡ y) where
  abbrev going : List ℕ → List Step
  going x = leave_steps (look_up x bs) (look_up x hs)

  pub all_leave : (xs : List (List ℕ)) (g : Configuration) → are_different xs ≡ true
      → ((x : List ℕ) → Is_in x xs → IsLeft bs hs g.deposits x) → Legal g (flat_map (λ x. leave_steps (look_up x bs) (look_up x hs)) xs)
  all_leave [] g apart each = tt
  all_leave (x ∷ xs) g apart each =
      let p = and_parts (not (is_among x xs)) (are_different xs) apart in
      let l = each x (inl refl) in
      let rest = all_leave xs (moved_on g l.number l.holding l.there) p.1 (λ y h. still y h l p.0 (each y (inr h))) in
      subst (λ (ss : List Step). Legal g (ss ++ flat_map (λ y. leave_steps (look_up y bs) (look_up y hs)) xs))
      (λ i. leave_steps (sym l.bound i) (sym l.held i))
      (leaves g l.number l.holding l.there (flat_map (λ y. leave_steps (look_up y bs) (look_up y hs)) xs) rest)
    where
      still : (y : List ℕ) → Is_in y xs → (l : IsLeft bs hs g.deposits x) → not (is_among x xs) ≡ true → IsLeft bs hs g.deposits y
          → IsLeft bs hs (moved_on g l.number l.holding l.there).deposits y
      still y h l new k =
          let other : (l.number == k.number) ≡ false =
          ne_eqb l.number k.number (λ q.
          both_ways _ (not-true _ new)
          (subst (λ (z : List ℕ). is_among z xs ≡ true) (sym (once x y k.number (l.bound ∙ ap Some q) k.bound)) (among_in y xs h))) in
          record {
            number = k.number;
            holding = k.holding;
            bound = k.bound;
            held = k.held;
            there = found_still g.deposits (made g.next ((owners.Outside, l.holding.value) ∷ [])) l.number k.number _ other k.there;
          }
