-- Each deposit that a branch of a checked contract puts is one of its precondition.
use Rattle.std.proofs.Common.{◌≡◌, ℕ, zero, suc, List, [], ◌∷◌, Bool, true, false, Option, Some, None, refl}
use Rattle.std.specs.Prelude.{◌||◌, is_some, IfSome, option_map, option_and_then, slice_get, if◌then◌else◌}
use Rattle.std.specs.List.{list_all}
use Rattle.std.specs.Str.{bytes_eq}
use Rattle.std.proofs.lemmas.Bool.{and_parts, and_from}
use Rattle.spec_data.specs.Lists.{look_up, is_among}
use Rattle.spec_terms.specs.Term as term
use Rattle.spec_terms.specs.Term.{Contract, no_branch, branch, branches, Parts, no_part, part, parts_list, auth, after, put_reveal, withdraw, split}
use Rattle.spec_terms.specs.Advert.{Advert}
use Rattle.spec_terms.specs.Core.{core, puts_of}
use Rattle.spec_terms.specs.Faults.{IsWellFormed, are_among}
use Rattle.spec_terms.specs.Paths.{Subterm, position, at_branch, below, next_subterm, subterm_from, as_branch, at}
use Rattle.spec_terms.specs.Precondition.{volatile, names_of}
use Rattle.spec_terms.specs.declared.pre.Pre.{Pre}
use Rattle.spec_terms.specs.declared.path.PathStep.{PathStep}
use Rattle.spec_terms.specs.declared.path.PathStep.TheVariants.{Branch as To, Part as Into}
use Rattle.theory_calculus.proofs.Faultless.{no_fault, of_core, core_says}
use Rattle.theory_script.proofs.Listing.Subterms.{Each, EachUnder, EachPart, each_of_advert}
use Rattle.deal_compile.specs.Parts.{has_known_puts}

-- ---- what is true of each branch is true of the one at a path

module _ (g : term.Guarded → Bool) where
  abbrev test : Subterm → Bool
  test = of_core g

  abbrev HoldsFrom : Subterm → Type 0
  HoldsFrom (position c) = Each test c
  HoldsFrom (at_branch b) = (g (core b) ≡ true) × EachUnder test b

  abbrev HoldsOf : Option Subterm → Type 0
  HoldsOf None = Unit {0}
  HoldsOf (Some p) = HoldsFrom p

  at_core : (b : term.Guarded) → EachUnder test b → EachUnder test (core b)
  at_core (auth party body) h = at_core body h
  at_core (after height body) h = at_core body h
  at_core (put_reveal puts reveals t next) h = h
  at_core (withdraw party) h = h
  at_core (split parts) h = h

  of_branch : (c : Contract) (i : ℕ) → Each test c → HoldsOf (option_map at_branch (slice_get (branches c) i))
  of_branch no_branch i h = tt
  of_branch (branch b bs) zero h = (h.0, h.1)
  of_branch (branch b bs) (suc i) h = of_branch bs i h.2

  of_part : (ps : Parts) (k : ℕ) → EachPart test ps → HoldsOf (option_map (λ (p : ℕ × Contract). position p.1) (slice_get (parts_list ps) k))
  of_part no_part k h = tt
  of_part (part v c ps) zero h = h.1
  of_part (part v c ps) (suc k) h = of_part ps k h.2

  of_below : (b : term.Guarded) (step : PathStep) → EachUnder test b → HoldsOf (below b step)
  of_below (auth party body) step h = tt
  of_below (after height body) step h = tt
  of_below (put_reveal puts reveals t next) (To i) h = of_branch next i h.1
  of_below (put_reveal puts reveals t next) (Into k) h = tt
  of_below (withdraw party) step h = tt
  of_below (split parts) (To i) h = tt
  of_below (split parts) (Into k) h = of_part parts k h

  of_next : (p : Subterm) (step : PathStep) → HoldsFrom p → HoldsOf (next_subterm p step)
  of_next (position c) (To i) h = of_branch c i h
  of_next (position c) (Into k) h = tt
  of_next (at_branch b) step h = of_below (core b) step (at_core b h.1)

  of_rest : (steps : List PathStep) (o : Option Subterm) → HoldsOf o → ((q : Subterm) → HoldsFrom q → HoldsOf (subterm_from q steps))
      → HoldsOf (option_and_then (λ q. subterm_from q steps) o)
  of_rest steps None h k = tt
  of_rest steps (Some q) h k = k q h

  of_steps : (p : Subterm) (steps : List PathStep) → HoldsFrom p → HoldsOf (subterm_from p steps)
  of_steps p [] h = h
  of_steps p (step ∷ steps) h = of_rest steps (next_subterm p step) (of_next p step h) (λ q k. of_steps q steps k)

  of_end : (o : Option Subterm) → HoldsOf o → IfSome (option_and_then as_branch o) (λ b. g (core b) ≡ true)
  of_end None h = tt
  of_end (Some (position c)) h = tt
  of_end (Some (at_branch b)) h = h.0

  at_path : (root : Contract) (path : List PathStep) → Each test root → IfSome (at root path) (λ b. g (core b) ≡ true)
  at_path root path h = of_end (subterm_from (position root) path) (of_steps (position root) path h)

-- ---- known names

module _ {V : Type 0} where
  found_behind : (t : Bool) (v : V) (o : Option V) → is_some o ≡ true → is_some (if t then Some v else o) ≡ true
  found_behind true v o h = refl
  found_behind false v o h = h

  found_first : (t u : Bool) (v : V) (o : Option V) → (u ≡ true → is_some o ≡ true) → (t || u) ≡ true → is_some (if t then Some v else o) ≡ true
  found_first true u v o h k = refl
  found_first false u v o h k = h k

-- whether a name among these is found, by which way round the bytes are compared
pub among_found : {V : Type 0} (name : List ℕ) (ds : List (List ℕ × V)) → is_among name (names_of ds) ≡ true → is_some (look_up name ds) ≡ true
among_found name [] h = h
among_found name (d ∷ ds) h = found_first (bytes_eq (d.0) name) (is_among name (names_of ds)) (d.1) (look_up name ds) (among_found name ds) h

all_found : {V : Type 0} (ds : List (List ℕ × V)) (names : List (List ℕ)) → are_among names (names_of ds) ≡ true
    → list_all (λ name. is_some (look_up name ds)) names ≡ true
all_found ds [] h = refl
all_found ds (name ∷ names) h =
    let p = and_parts (is_among name (names_of ds)) (are_among names (names_of ds)) h in
    and_from (is_some (look_up name ds)) (list_all (λ name. is_some (look_up name ds)) names) (among_found name ds p.0) (all_found ds names p.1)

-- ---- a checked contract

abbrev puts_are_known : List Pre → term.Guarded → Bool
puts_are_known pre b = are_among (puts_of b) (names_of (volatile pre))

known_of : (pre : List Pre) (o : Option term.Guarded) → IfSome o (λ b. puts_are_known pre (core b) ≡ true) → IfSome o (λ b. has_known_puts pre b ≡ true)
known_of pre None h = tt
known_of pre (Some b) h = all_found (volatile pre) (puts_of (core b)) h

pub known_at : (a : Advert) (path : List PathStep) → IsWellFormed a → IfSome (at a.root path) (λ b. has_known_puts a.pre b ≡ true)
known_at a path well =
    let e = each_of_advert (of_core (puts_are_known a.pre)) _ a (λ x k. core_says (puts_are_known a.pre) x.subterm k) (no_fault a well).1.0 in
    known_of a.pre (at a.root path) (at_path (puts_are_known a.pre) a.root path e.1)

pub if_some_of : {X Y : Type 0} (f : X → Y) (P : Y → Type 0) (o : Option X) → IfSome (option_map f o) P → IfSome o (λ x. P (f x))
if_some_of f P None h = tt
if_some_of f P (Some x) h = h
