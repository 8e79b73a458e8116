-- A rule that names a path has the event of the branch at it.
use Rattle.std.proofs.Common.{◌≡◌, ℕ, zero, suc, ◌+◌, Bool, true, false, List, [], ◌∷◌, ◌++◌, Option, Some, None, refl, sym, ap, subst}
use Rattle.std.proofs.Common.{◌∙◌, arith}
use Rattle.std.specs.Prelude.{is_some, if◌then◌else◌, option_and_then, option_map, slice_get, ◌==◌}
use Rattle.std.proofs.lemmas.Bool.{and_parts, and_from, eq-eqb, eqb-true}
use Rattle.spec_terms.specs.Term.{Guarded, auth, after, put_reveal, withdraw, split, Contract, parts_list}
use Rattle.spec_terms.specs.Core.{core}
use Rattle.spec_terms.specs.Advert.{Advert}
use Rattle.spec_terms.specs.Paths.{Subterm, position, at_branch, below, next_subterm, subterm_from, as_branch, path_eq}
use Rattle.spec_terms.specs.PathSameness.{path_eq-Decides}
use Rattle.spec_terms.specs.declared.path.PathStep.{PathStep}
use Rattle.spec_terms.specs.declared.path.PathStep.TheVariants.{Branch as To, Part as Into}
use Rattle.spec_run.specs.declared.event.Event.{Event}
use Rattle.spec_run.specs.declared.event.Event.TheVariants as events
use Rattle.spec_run.specs.Setup.{Setup, contract_at}
use Rattle.spec_run.specs.World.{ContractPosition, Output, World, live_position, live_position_at}
use Rattle.spec_run.specs.Ledger.{branch_in}
use Rattle.spec_text.specs.Words.{◌>>=◌, given}
use Rattle.spec_tool.specs.Weights.{last_branch, position_of}
use Rattle.spec_tool.specs.Turns.{stands_at, standing_from, standing_at, taken_at}
use Rattle.theory_text.proofs.Options.{some, some_is, none_some, came, given_is}
use Rattle.theory_auto.specs.RulePaths.{IsAtPath, TakesItsBranch, RulesTakeTheirBranches}

-- ---- the end of a path

-- behind a step into a part no branch stands
part_is_no_branch : (sp : Subterm) (k : ℕ) (end : Subterm) → next_subterm sp (Into k) ≡ some end → is_some (as_branch end) ≡ true → ⊥
part_is_no_branch (position c) k end h g = none_some end h
part_is_no_branch (at_branch b) k end h g = by_core (core b) h
  where
    by_part : (o : Option (ℕ × Contract)) → option_map (λ p. position p.1) o ≡ some end → ⊥
    by_part None e = none_some end e
    by_part (Some p) e =
        let z : false ≡ true = subst (λ x. is_some (as_branch x) ≡ true) (sym (some_is (position p.1) end e)) g in cc

    by_core : (c : Guarded) → below c (Into k) ≡ some end → ⊥
    by_core (put_reveal puts reveals test next) e = none_some end e
    by_core (split parts) e = by_part (slice_get (parts_list parts) k) e
    by_core (auth party body) e = none_some end e
    by_core (after height body) e = none_some end e
    by_core (withdraw party) e = none_some end e

-- the path of a branch is that of its position, and its number behind it
ends_in_branch : (sp : Subterm) (st : PathStep) (steps : List PathStep) (end : Subterm) → subterm_from sp (st ∷ steps) ≡ some end
    → is_some (as_branch end) ≡ true → position_of (st ∷ steps) ++ To (last_branch (st ∷ steps)) ∷ [] ≡ st ∷ steps
ends_in_branch sp (To i) [] end h g = refl
ends_in_branch sp (Into k) [] end h g = absurd (by_next (next_subterm sp (Into k)) refl h)
  where
    by_next : (o : Option Subterm) → next_subterm sp (Into k) ≡ o → option_and_then (λ q. subterm_from q []) o ≡ some end → ⊥
    by_next None e f = none_some end f
    by_next (Some q) e f = part_is_no_branch sp k q e (subst (λ x. is_some (as_branch x) ≡ true) (sym (some_is q end f)) g)
ends_in_branch sp st (next ∷ steps) end h g = by_next (next_subterm sp st) h (λ q f. ends_in_branch q next steps end f g)
  where
    by_next : (o : Option Subterm) → option_and_then (λ q. subterm_from q (next ∷ steps)) o ≡ some end
        → ((q : Subterm) → subterm_from q (next ∷ steps) ≡ some end
        → position_of (next ∷ steps) ++ To (last_branch (next ∷ steps)) ∷ [] ≡ next ∷ steps)
        → position_of (st ∷ (next ∷ steps)) ++ To (last_branch (st ∷ (next ∷ steps))) ∷ [] ≡ st ∷ (next ∷ steps)
    by_next None f ih = absurd (none_some end f)
    by_next (Some q) f ih = ap (λ (xs : List PathStep). st ∷ xs) (ih q f)

-- so it is of each path of the first contract
path_ends : (s : Setup) (path : List PathStep) → is_some (branch_in (contract_at s 0) path) ≡ true
    → position_of path ++ To (last_branch path) ∷ [] ≡ path
path_ends s path h = by_contract (contract_at s 0) h
  where
    by_end : (root : Contract) (path : List PathStep) (o : Option Subterm) → subterm_from (position root) path ≡ o
        → is_some (option_and_then as_branch o) ≡ true → position_of path ++ To (last_branch path) ∷ [] ≡ path
    by_end root path None e f = cc
    by_end root [] (Some end) e f =
        let z : false ≡ true = subst (λ x. is_some (as_branch x) ≡ true) (sym (some_is (position root) end e)) f in cc
    by_end root (st ∷ steps) (Some end) e f = ends_in_branch (position root) st steps end e f

    by_contract : (o : Option Advert) → is_some (branch_in o path) ≡ true → position_of path ++ To (last_branch path) ∷ [] ≡ path
    by_contract None f = cc
    by_contract (Some a) f = by_end a.root path (subterm_from (position a.root) path) refl f

position_is : (q : List PathStep) (i : ℕ) → position_of (q ++ To i ∷ []) ≡ q
position_is [] i = refl
position_is (x ∷ []) i = refl
position_is (x ∷ (y ∷ q)) i = ap (λ (xs : List PathStep). x ∷ xs) (position_is (y ∷ q) i)

-- ---- the output of a position

-- what is found holds the position, and stands so far behind the first
record IsFound (k : ℕ) (path : List PathStep) (n m : ℕ) (os : List Output) : Type 0 where
  place : ℕ
  is : m ≡ n + place
  held : ContractPosition
  there : live_position (slice_get os place) ≡ Some held
  contract : held.contract ≡ k
  same : held.position ≡ path

found : (k : ℕ) (path : List PathStep) (n m : ℕ) (os : List Output) → standing_from n k path os ≡ some m → IsFound k path n m os
found k path n m [] h = absurd (none_some m h)
found k path n m (o ∷ os) h = by_output (stands_at k path (live_position (Some o))) refl h (found k path (n + 1) m os)
  where
    here : (p : Option ContractPosition) → live_position (Some o) ≡ p → stands_at k path p ≡ true → n ≡ m → IsFound k path n m (o ∷ os)
    here None e f same = cc
    here (Some held) e f same =
        let p = and_parts (held.contract == k) (path_eq held.position path) f in
        record {
          place = zero;
          is = omega (arith, same);
          held = held;
          there = e;
          contract = eqb-true held.contract k p.0;
          same = (path_eq-Decides held.position path).0 p.1;
        }

    by_output : (t : Bool) → stands_at k path (live_position (Some o)) ≡ t → (if t then Some n else standing_from (n + 1) k path os) ≡ some m
        → (standing_from (n + 1) k path os ≡ some m → IsFound k path (n + 1) m os) → IsFound k path n m (o ∷ os)
    by_output true e f ih = here (live_position (Some o)) refl e (some_is n m f)
    by_output false e f ih =
        let later = ih f in
        record {
          place = suc later.place;
          is = let g = later.is in omega (arith, g);
          held = later.held;
          there = later.there;
          contract = later.contract;
          same = later.same;
        }

-- where none is found none holds it
not_found : (k : ℕ) (path : List PathStep) (n : ℕ) (os : List Output) → standing_from n k path os ≡ None → (place : ℕ)
    (held : ContractPosition) → live_position (slice_get os place) ≡ Some held → held.contract ≡ k → held.position ≡ path → ⊥
not_found k path n [] h place held e c p = cc
not_found k path n (o ∷ os) h zero held e c p =
    let stood : stands_at k path (Some held) ≡ true =
    and_from _ _ (eq-eqb held.contract k c) ((path_eq-Decides held.position path).1 p) in
    let t : stands_at k path (live_position (Some o)) ≡ true = ap (stands_at k path) e ∙ stood in
    let z : some n ≡ None = sym (ap (λ (b : Bool). if b then some n else standing_from (n + 1) k path os) t) ∙ h in
    cc
not_found k path n (o ∷ os) h (suc place) held e c p =
    by_output (stands_at k path (live_position (Some o))) h (λ f. not_found k path (n + 1) os f place held e c p)
  where
    by_output : (t : Bool) → (if t then Some n else standing_from (n + 1) k path os) ≡ None
        → (standing_from (n + 1) k path os ≡ None → ⊥) → ⊥
    by_output true f ih = cc
    by_output false f ih = ih f

-- ---- the event of a rule

module _ (s : Setup) (w : World) (path : List PathStep) where
  abbrev behind : List PathStep → Option (ℕ × ℕ)
  behind known = standing_at w 0 (position_of known) >>= λ n. some (n, last_branch known)

  taken : (p : ℕ × ℕ) → taken_at s w path ≡ some p → IsAtPath s w path (p.0) (p.1)
  taken p h =
      let a = came (given (is_some (branch_in (contract_at s 0) path)) path) behind p h in
      let b = came (standing_at w 0 (position_of a.first)) (λ n. some (n, last_branch a.first)) p a.then' in
      let g = given_is (is_some (branch_in (contract_at s 0) path)) path a.first a.is in
      let f = found 0 (position_of a.first) 0 b.first w.outputs b.is in
      let is = f.is in
      let placed : f.place ≡ b.first = omega (arith, is) in
      let ends = path_ends s a.first (subst (λ q. is_some (branch_in (contract_at s 0) q) ≡ true) g.same g.holds) in
      let one : IsAtPath s w path b.first (last_branch a.first) = record {
        known = g.holds;
        held = f.held;
        stands = subst (λ n. live_position_at w n ≡ Some f.held) placed f.there;
        contract = f.contract;
        path_is = ap (λ (q : List PathStep). q ++ To (last_branch a.first) ∷ []) f.same ∙ (ends ∙ sym g.same);
      } in
      subst (λ q. IsAtPath s w path (q.0) (q.1)) (some_is (b.first, last_branch a.first) p b.then') one

  not_taken : taken_at s w path ≡ None → (output branch : ℕ) → IsAtPath s w path output branch → ⊥
  not_taken h output branch at =
      let known : behind path ≡ None = sym (ap (λ (b : Bool). given b path >>= behind) at.known) ∙ h in
      by_standing (standing_at w 0 (position_of path)) refl known
    where
      same : at.held.position ≡ position_of path
      same = sym (position_is at.held.position branch) ∙ ap position_of at.path_is

      by_standing : (o : Option ℕ) → standing_at w 0 (position_of path) ≡ o → ◌>>=◌ {B = ℕ × ℕ} o (λ n. some (n, last_branch path)) ≡ None
          → ⊥
      by_standing None e f = not_found 0 (position_of path) 0 w.outputs e output at.held at.stands at.contract same
      by_standing (Some n) e f = cc

  takes : (named : ℕ → ℕ → Event) → TakesItsBranch s w path named (taken_at s w path >>= λ p. Some (named (p.0) (p.1)))
  takes named = record { some = there; none = λ h. not_taken (by_taken (taken_at s w path) refl h) }
    where
      there : (e : Event) → (taken_at s w path >>= λ p. Some (named (p.0) (p.1))) ≡ Some e
          → (output : ℕ) × (branch : ℕ) × (e ≡ named output branch) × IsAtPath s w path output branch
      there e h =
          let c = came (taken_at s w path) (λ p. some (named (p.0) (p.1))) e h in
          (c.first.0, c.first.1, sym (some_is (named (c.first.0) (c.first.1)) e c.then'), taken c.first c.is)

      by_taken : (o : Option (ℕ × ℕ)) → taken_at s w path ≡ o → (o >>= λ p. Some (named (p.0) (p.1))) ≡ None → taken_at s w path ≡ None
      by_taken None e f = e
      by_taken (Some p) e f = cc

pub rules_take : RulesTakeTheirBranches
rules_take s w party path =
    record { authorise = takes s w path (λ n i. events.Authorise party n i); fire = takes s w path (λ n i. events.Fire n i) }
