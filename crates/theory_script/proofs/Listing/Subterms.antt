-- A fact of every position and every branch of a contract.
use Rattle.std.proofs.Common.{◌≡◌, ℕ, zero, suc, ◌+◌, List, [], ◌∷◌, ◌++◌, Bool, true, false, Option, Some, None, refl, subst}
use Rattle.std.specs.Prelude.{ℤ, pos, slice_get}
use Rattle.std.specs.Option.{option_and_then, option_map}
use Rattle.std.specs.List.{list_all}
use Rattle.std.proofs.lemmas.Bool.{and_from}
use Rattle.spec_data.proofs.ListLemmas.{or_else-none}
use Rattle.spec_terms.specs.Term as term
use Rattle.spec_terms.specs.Term.{auth, after, put_reveal, withdraw, split, Contract, no_branch, branch, branches, Parts, no_part, part, parts_list}
use Rattle.spec_terms.specs.Advert.{Advert}
use Rattle.spec_terms.specs.Core.{core, continuation}
use Rattle.spec_terms.specs.Paths.{Subterm, position, at_branch, below, next_subterm, subterm_from, as_contract, contract_under}
use Rattle.spec_terms.specs.Precondition.{Holding, volatile}
use Rattle.spec_terms.specs.Balance.{Funded, as_funded, after_put, branches_funded, funded_under, parts_funded, root_balance, all_funded}
use Rattle.spec_terms.specs.Faults.{place_of, place_if, first_place}
use Rattle.spec_terms.specs.declared.path.PathStep.{PathStep}
use Rattle.spec_terms.specs.declared.path.PathStep.TheVariants.{Branch as To, Part as Into}
use Rattle.theory_calculus.proofs.Faultless.{no_place}

module _ (f : Subterm → Bool) where
  -- the test is true of each branch, and of all positions and branches that stand under it
  abbrev mutual
    pub Each : Contract → Type 0
    Each no_branch = Unit {0}
    Each (branch b bs) = (f (at_branch b) ≡ true) × EachUnder b × Each bs

    pub EachUnder : term.Guarded → Type 0
    EachUnder (auth party body) = EachUnder body
    EachUnder (after height body) = EachUnder body
    EachUnder (put_reveal puts reveals test next) = (f (position next) ≡ true) × Each next
    EachUnder (withdraw party) = Unit {0}
    EachUnder (split parts) = EachPart parts

    pub EachPart : Parts → Type 0
    EachPart no_part = Unit {0}
    EachPart (part v c ps) = (f (position c) ≡ true) × Each c × EachPart ps

  -- the test is true here and under here
  abbrev pub EachFrom : Subterm → Type 0
  EachFrom (position c) = (f (position c) ≡ true) × Each c
  EachFrom (at_branch b) = (f (at_branch b) ≡ true) × EachUnder b

  abbrev pub IfEach : Option Subterm → Type 0
  IfEach None = Unit {0}
  IfEach (Some p) = EachFrom p

  -- ---- along a path

  each_core : (b : term.Guarded) → EachUnder b → EachUnder (core b)
  each_core (auth party body) h = each_core body h
  each_core (after height body) h = each_core body h
  each_core (put_reveal puts reveals test next) h = h
  each_core (withdraw party) h = h
  each_core (split parts) h = h

  each_branch : (c : Contract) (i : ℕ) → Each c → IfEach (option_map at_branch (slice_get (branches c) i))
  each_branch no_branch i h = tt
  each_branch (branch b bs) zero h = (h.0, h.1)
  each_branch (branch b bs) (suc i) h = each_branch bs i h.2

  each_part : (ps : Parts) (k : ℕ) → EachPart ps → IfEach (option_map (λ (p : ℕ × Contract). position p.1) (slice_get (parts_list ps) k))
  each_part no_part k h = tt
  each_part (part v c ps) zero h = (h.0, h.1)
  each_part (part v c ps) (suc k) h = each_part ps k h.2

  each_below : (b : term.Guarded) (step : PathStep) → EachUnder b → IfEach (below b step)
  each_below (auth party body) step h = tt
  each_below (after height body) step h = tt
  each_below (put_reveal puts reveals test next) (To i) h = each_branch next i h.1
  each_below (put_reveal puts reveals test next) (Into k) h = tt
  each_below (withdraw party) step h = tt
  each_below (split parts) (To i) h = tt
  each_below (split parts) (Into k) h = each_part parts k h

  each_next : (p : Subterm) (step : PathStep) → EachFrom p → IfEach (next_subterm p step)
  each_next (position c) (To i) h = each_branch c i h.1
  each_next (position c) (Into k) h = tt
  each_next (at_branch b) step h = each_below (core b) step (each_core b h.1)

  if_each : (steps : List PathStep) (o : Option Subterm) → IfEach o → ((q : Subterm) → EachFrom q → IfEach (subterm_from q steps))
      → IfEach (option_and_then (λ q. subterm_from q steps) o)
  if_each steps None h k = tt
  if_each steps (Some q) h k = k q h

  each_from : (p : Subterm) (steps : List PathStep) → EachFrom p → IfEach (subterm_from p steps)
  each_from p [] h = h
  each_from p (step ∷ steps) h = if_each steps (next_subterm p step) (each_next p step h) (λ q k. each_from q steps k)

  -- the test is true of the position and under it
  abbrev pub EachChoice : Contract → Type 0
  EachChoice c = (f (position c) ≡ true) × Each c

  abbrev IfEachChoice : Option Contract → Type 0
  IfEachChoice None = Unit {0}
  IfEachChoice (Some c) = EachChoice c

  each_continuation : (b : term.Guarded) → EachUnder b → IfEachChoice (continuation b)
  each_continuation (auth party body) h = tt
  each_continuation (after height body) h = tt
  each_continuation (put_reveal puts reveals test next) h = h
  each_continuation (withdraw party) h = tt
  each_continuation (split parts) h = tt

  each_choice_of : (o : Option Subterm) → IfEach o → IfEachChoice (option_and_then as_contract o)
  each_choice_of None h = tt
  each_choice_of (Some (position c)) h = h
  each_choice_of (Some (at_branch b)) h = each_continuation (core b) (each_core b h.1)

  pub each_at : (root : Contract) (path : List PathStep) (c : Contract) → EachChoice root → contract_under root path ≡ Some c → EachChoice c
  each_at root path c h e = subst (λ o. IfEachChoice o) e (each_choice_of (subterm_from (position root) path) (each_from (position root) path h))

  -- ---- the branches of a position

  pub each_of_branches : (c : Contract) → Each c → list_all (λ b. f (at_branch b)) (branches c) ≡ true
  each_of_branches no_branch h = refl
  each_of_branches (branch b bs) h = and_from (f (at_branch b)) (list_all (λ b. f (at_branch b)) (branches bs)) h.0 (each_of_branches bs h.2)

-- ---- from the list of all positions and branches

-- no entry passes the test
abbrev NoneOf : (Funded → Bool) → List Funded → Type 0
NoneOf t [] = Unit {0}
NoneOf t (s ∷ ss) = (t s ≡ false) × NoneOf t ss

none_of : (t : Funded → Bool) (ss : List Funded) → first_place t ss ≡ None → NoneOf t ss
none_of t [] h = tt
none_of t (s ∷ ss) h =
    let p = or_else-none (place_if t s) (first_place t ss) h in
    (no_place (t s) (place_of s.subterm s) p.0, none_of t ss p.1)

none_of-append : (t : Funded → Bool) (xs ys : List Funded) → NoneOf t (xs ++ ys) → NoneOf t xs × NoneOf t ys
none_of-append t [] ys h = (tt, h)
none_of-append t (x ∷ xs) ys h = let p = none_of-append t xs ys h.1 in ((h.0, p.0), p.1)

module _ (f : Subterm → Bool) (t : Funded → Bool) (says : (s : Funded) → t s ≡ false → f s.subterm ≡ true) (ds : List (List ℕ × Holding)) (fee : ℕ) where
  mutual
    each_of : (q : List PathStep) (balance : ℤ) (i : ℕ) (c : Contract) → NoneOf t (branches_funded ds fee q balance i c) → Each f c
    each_of q balance i no_branch h = tt
    each_of q balance i (branch b bs) h =
        let p = none_of-append t (funded_under ds fee (q ++ To i ∷ []) balance b) (branches_funded ds fee q balance (i + 1) bs) h.1 in
        (says (as_funded (q ++ To i ∷ []) balance (at_branch b)) h.0, each_under (q ++ To i ∷ []) balance b p.0, each_of q balance (i + 1) bs p.1)

    each_under : (p : List PathStep) (balance : ℤ) (b : term.Guarded) → NoneOf t (funded_under ds fee p balance b) → EachUnder f b
    each_under p balance (auth party body) h = each_under p balance body h
    each_under p balance (after height body) h = each_under p balance body h
    each_under p balance (put_reveal puts reveals test next) h =
        (says (as_funded p (after_put ds fee balance puts) (position next)) h.0, each_of p (after_put ds fee balance puts) 0 next h.1)
    each_under p balance (withdraw party) h = tt
    each_under p balance (split parts) h = each_of_parts p 0 parts h

    each_of_parts : (p : List PathStep) (k : ℕ) (ps : Parts) → NoneOf t (parts_funded ds fee p k ps) → EachPart f ps
    each_of_parts p k no_part h = tt
    each_of_parts p k (part v c ps) h =
        let q = none_of-append t (branches_funded ds fee (p ++ Into k ∷ []) (pos v) 0 c) (parts_funded ds fee p (k + 1) ps) h.1 in
        (says (as_funded (p ++ Into k ∷ []) (pos v) (position c)) h.0, each_of (p ++ Into k ∷ []) (pos v) 0 c q.0, each_of_parts p (k + 1) ps q.1)

-- what no entry of an advert fails is true of the root and of all under it
pub each_of_advert : (f : Subterm → Bool) (t : Funded → Bool) (a : Advert) → ((s : Funded) → t s ≡ false → f s.subterm ≡ true)
    → first_place t (all_funded a) ≡ None → EachChoice f a.root
each_of_advert f t a says h =
    let n = none_of t (all_funded a) h in
    (says (as_funded [] (root_balance a) (position a.root)) n.0, each_of f t says (volatile a.pre) a.fee [] (root_balance a) 0 a.root n.1)
