-- Each secret that a branch of a checked contract reveals is one of its precondition.
use Rattle.std.proofs.Common.{◌≡◌, ℕ, List, [], ◌∷◌, Bool, true, false, cond, Option, Some, None, refl, subst}
use Rattle.std.specs.Prelude.{◌||◌, is_some, filter, option_and_then}
use Rattle.std.specs.List.{list_all}
use Rattle.std.specs.Str.{bytes_eq}
use Rattle.std.proofs.lemmas.Bool.{and_parts, and_from}
use Rattle.spec_data.specs.Lists.{look_up, is_among}
use Rattle.spec_terms.specs.Term as term
use Rattle.spec_terms.specs.Advert.{Advert}
use Rattle.spec_terms.specs.Core.{reveals_of}
use Rattle.spec_terms.specs.Faults.{IsWellFormed, are_among}
use Rattle.spec_terms.specs.Paths as paths
use Rattle.spec_terms.specs.Paths.{Subterm, as_branch, subterm_from, at}
use Rattle.spec_terms.specs.Precondition.{secrets, names_of}
use Rattle.spec_terms.specs.declared.path.PathStep.{PathStep}
use Rattle.spec_compiler.specs.Keyed.Keys.{by_plan}
use Rattle.spec_compiler.specs.Keyed.Instance.{Instance}
use Rattle.spec_compiler.specs.Keyed.ByPath as by_path
use Rattle.spec_compiler.specs.Keyed.ByPath.{PathEnd, end_at}
use Rattle.spec_run.specs.Firing.{revealed_by}
use Rattle.spec_tool.specs.declared.which.Which.{Which}
use Rattle.spec_tool.specs.declared.which.Which.TheVariants as names
use Rattle.theory_calculus.proofs.Faultless.{no_fault}
use Rattle.theory_script.proofs.Checked.{core_fact}
use Rattle.theory_script.proofs.Keyed.Stands.{IfAgrees, agrees_at}
use Rattle.theory_deal.proofs.Branches.{branch_found}
use Rattle.deal_finish.specs.Filled.{branch_of}

-- ---- names that are found

found_first : {V : Type 0} (t u : Bool) (v : V) (o : Option V) → (u ≡ true → is_some o ≡ true) → (t || u) ≡ true
    → is_some (cond t (Some v) o) ≡ true
found_first true u v o h k = refl
found_first false u v o h k = h k

among_found : {V : Type 0} (name : List ℕ) (ds : List (List ℕ × V)) → is_among name (names_of ds) ≡ true → is_some (look_up name ds) ≡ true
among_found name [] h = h
among_found name (d ∷ ds) h =
    found_first (bytes_eq (d.0) name) (is_among name (names_of ds)) (d.1) (look_up name ds) (among_found name ds) h

abbrev are_found : {V : Type 0} → List (List ℕ × V) → List (List ℕ) → Bool
are_found ds names = list_all (λ a. is_some (look_up a ds)) names

all_found : {V : Type 0} (ds : List (List ℕ × V)) (names : List (List ℕ)) → are_among names (names_of ds) ≡ true → are_found ds names ≡ true
all_found ds [] h = refl
all_found ds (name ∷ names) h =
    let p = and_parts (is_among name (names_of ds)) (are_among names (names_of ds)) h in
    and_from (is_some (look_up name ds)) (are_found ds names) (among_found name ds (p.0)) (all_found ds names (p.1))

-- what is true of all is true of those among them
all_of_some : {X : Type 0} (p q : X → Bool) (xs : List X) → list_all p xs ≡ true → list_all p (filter q xs) ≡ true
all_of_some p q [] h = refl
all_of_some p q (x ∷ xs) h =
    let parts = and_parts (p x) (list_all p xs) h in
    by_test (q x) (parts.0) (all_of_some p q xs (parts.1))
  where
    by_test : (b : Bool) → p x ≡ true → list_all p (filter q xs) ≡ true → list_all p (cond b (x ∷ filter q xs) (filter q xs)) ≡ true
    by_test true h k = and_from (p x) (list_all p (filter q xs)) h k
    by_test false h k = k

-- ---- a checked contract

module _ (a : Advert) (well : IsWellFormed a) where
  abbrev IsKnown : Option term.Guarded → Type 0
  IsKnown b = are_among (revealed_by b) (names_of (secrets a.pre)) ≡ true

  -- whatever the keys, deposits and hashes are, the same branches stand at the same paths
  abbrev s : Instance
  s = record { contract = 0; advert = a; bound = []; hashes = [] }

  by_ends : (path : List PathStep) (o : Option PathEnd) (q : Option Subterm) → end_at (λ m. m) by_plan s path ≡ o
      → IfAgrees (λ m. m) by_plan s path o q → IsKnown (option_and_then as_branch q)
  by_ends path None None ends agrees = refl
  by_ends path None (Some q) ends agrees = absurd agrees
  by_ends path (Some p) None ends agrees = absurd agrees
  by_ends path (Some (by_path.at_position here choice)) (Some (paths.position c)) ends agrees = refl
  by_ends path (Some (by_path.at_position here choice)) (Some (paths.at_branch b)) ends agrees = absurd agrees
  by_ends path (Some (by_path.at_branch here i d)) (Some (paths.position c)) ends agrees = absurd agrees
  by_ends path (Some (by_path.at_branch here i d)) (Some (paths.at_branch b)) ends agrees =
      let place = branch_found (λ m. m) by_plan s path here i d ends in
      let known : IsKnown (Some d) =
      core_fact (λ y. are_among (reveals_of y) (names_of (secrets a.pre))) a here.position place.choice i d (no_fault a well).1.1.0
      place.stands.branches place.is_branch in
      subst (λ (x : term.Guarded). IsKnown (Some x)) agrees.1 known

  known_at : (which : Which) → IsKnown (branch_of a which)
  known_at names.Init = refl
  known_at (names.At path) =
      by_ends path (end_at (λ m. m) by_plan s path) (subterm_from (paths.position a.root) path) refl (agrees_at (λ m. m) by_plan s path)

  pub some_known : (q : List ℕ → Bool) (which : Which) → are_found (secrets a.pre) (filter q (revealed_by (branch_of a which))) ≡ true
  some_known q which =
      all_of_some (λ x. is_some (look_up x (secrets a.pre))) q (revealed_by (branch_of a which))
      (all_found (secrets a.pre) (revealed_by (branch_of a which)) (known_at which))
