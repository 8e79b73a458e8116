-- The branch at a path stands at a position, and puts what the check knows.
use Rattle.std.proofs.Common.{◌≡◌, ℕ, List, [], ◌∷◌, true, Option, Some, None, refl, ◌⊎◌, inl, inr, subst, sym}
use Rattle.std.specs.Prelude.{slice_get}
use Rattle.std.specs.Option.{option_map, option_and_then}
use Rattle.std.specs.List.{list_all}
use Rattle.spec_data.specs.Lists.{is_among}
use Rattle.spec_terms.specs.Term.{Guarded, auth, after, put_reveal, withdraw, split, Contract, branches, parts_list}
use Rattle.spec_terms.specs.Advert.{Advert}
use Rattle.spec_terms.specs.Core.{core, puts_of}
use Rattle.spec_terms.specs.Faults.{IsWellFormed}
use Rattle.spec_terms.specs.Paths.{Subterm, position, at_branch, below, next_subterm, subterm_from, as_branch, as_contract, at}
use Rattle.spec_terms.specs.Precondition.{names_of, volatile}
use Rattle.spec_terms.specs.declared.path.PathStep.{PathStep}
use Rattle.spec_terms.specs.declared.path.PathStep.TheVariants.{Branch as To, Part as Into}
use Rattle.spec_nodes.specs.Nodes.{asks_once}
use Rattle.theory_script.proofs.Checked.{puts_known}
use Rattle.bm_honest.specs.Unsigned.{seen_branch}

-- the branch stands at a position at or below the subterm
record IsBelow (p : Subterm) (b : Guarded) : Type 0 where
  position : List PathStep
  choice : Contract
  i : ℕ
  under : option_and_then as_contract (subterm_from p position) ≡ Some choice
  there : slice_get (branches choice) i ≡ Some b

mapped : (o : Option Guarded) (b : Guarded) → option_map at_branch o ≡ Some (at_branch b) → o ≡ Some b
mapped None b h = cc
mapped (Some d) b h = cc

no_position : (o : Option (ℕ × Contract)) (b : Guarded) → option_map (λ p. position p.1) o ≡ Some (at_branch b) → ⊥
no_position None b h = cc
no_position (Some p) b h = cc

one_step : (p : Subterm) (s : PathStep) (b : Guarded) → next_subterm p s ≡ Some (at_branch b) → IsBelow p b
one_step (position c) (To i) b h = record { position = []; choice = c; i = i; under = refl; there = mapped (slice_get (branches c) i) b h }
one_step (position c) (Into k) b h = cc
one_step (at_branch d) s b h = by_core (core d) s refl h
  where
    by_core : (x : Guarded) (s : PathStep) → core d ≡ x → below x s ≡ Some (at_branch b) → IsBelow (at_branch d) b
    by_core (put_reveal puts reveals test next) (To i) e k =
        record { position = []; choice = next; i = i; under = rw e refl; there = mapped (slice_get (branches next) i) b k }
    by_core (put_reveal puts reveals test next) (Into k) e f = cc
    by_core (split parts) (To i) e f = cc
    by_core (split parts) (Into k) e f = absurd (no_position (slice_get (parts_list parts) k) b f)
    by_core (withdraw party) s e f = cc
    by_core (auth party body) s e f = cc
    by_core (after height body) s e f = cc

further : (p q : Subterm) (s : PathStep) (b : Guarded) → next_subterm p s ≡ Some q → IsBelow q b → IsBelow p b
further p q s b e h = record { position = s ∷ h.position; choice = h.choice; i = h.i; under = rw e h.under; there = h.there }

below_from : (p : Subterm) (steps : List PathStep) (b : Guarded) → option_and_then as_branch (subterm_from p steps) ≡ Some b
    → (p ≡ at_branch b) ⊎ IsBelow p b
below_from (position c) [] b h = cc
below_from (at_branch d) [] b h = let e : d ≡ b = cc in inl (subst (λ x. at_branch d ≡ at_branch x) e refl)
below_from p (s ∷ steps) b h = by_next (next_subterm p s) refl h (λ q k. below_from q steps b k)
  where
    by_next : (o : Option Subterm) → next_subterm p s ≡ o → option_and_then as_branch (option_and_then (λ q. subterm_from q steps) o) ≡ Some b
        → ((q : Subterm) → option_and_then as_branch (subterm_from q steps) ≡ Some b → (q ≡ at_branch b) ⊎ IsBelow q b)
        → (p ≡ at_branch b) ⊎ IsBelow p b
    by_next None e k go = cc
    by_next (Some q) e k go = elim (go q k) [
      | inl f ↦ inr (one_step p s b (subst (λ x. next_subterm p s ≡ Some x) f e))
      | inr f ↦ inr (further p q s b e f)
    ]

-- each deposit that the branch at a path puts is a volatile one
pub known_at : (a : Advert) (path : List PathStep) (b : Guarded) → IsWellFormed a → at a.root path ≡ Some b
    → list_all (λ name. is_among name (names_of (volatile a.pre))) (puts_of (core b)) ≡ true
known_at a path b well e = elim (below_from (position a.root) path b e) [
  | inl f ↦ cc
  | inr h ↦ puts_known a well h.position h.choice h.under h.i b h.there
]

-- and so is each that is seen to be put
pub known_seen : (a : Advert) (path : List PathStep) (asked puts : List (List ℕ)) → IsWellFormed a
    → Some (asked, puts) ≡ seen_branch (at a.root path) → list_all (λ name. is_among name (names_of (volatile a.pre))) puts ≡ true
known_seen a path asked puts well h = by_branch (at a.root path) refl h
  where
    by_branch : (o : Option Guarded) → at a.root path ≡ o → Some (asked, puts) ≡ seen_branch o
        → list_all (λ name. is_among name (names_of (volatile a.pre))) puts ≡ true
    by_branch None e k = cc
    by_branch (Some b) e k =
        let same : (let p : List (List ℕ) × List (List ℕ) = (asked, puts) in p) ≡ (asks_once b, puts_of (core b)) = cc in
        subst (λ (p : List (List ℕ) × List (List ℕ)). list_all (λ name. is_among name (names_of (volatile a.pre))) p.1 ≡ true) (sym same)
        (known_at a path b well e)
