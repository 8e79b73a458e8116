-- The predicate of a branch of a checked contract is bounded.
use Rattle.std.proofs.Common.{◌≡◌, List, [], true, Option, Some, None, refl, subst}
use Rattle.std.specs.Prelude.{IfSome, option_map, option_and_then}
use Rattle.spec_terms.specs.Term as term
use Rattle.spec_terms.specs.Advert.{Advert}
use Rattle.spec_terms.specs.Bound.{is_bounded}
use Rattle.spec_terms.specs.Core.{core, test_of}
use Rattle.spec_terms.specs.Faults.{IsWellFormed, exceeded}
use Rattle.spec_terms.specs.Paths as paths
use Rattle.spec_terms.specs.Paths.{Subterm, as_branch, subterm_from, at}
use Rattle.spec_terms.specs.declared.path.PathStep.{PathStep}
use Rattle.spec_compiler.specs.Keyed.Keys.{by_plan}
use Rattle.spec_compiler.specs.Keyed.Instance.{Instance}
use Rattle.spec_compiler.specs.Keyed.ByPath as by_path
use Rattle.spec_compiler.specs.Keyed.ByPath.{PathEnd, end_at}
use Rattle.theory_calculus.proofs.Faultless.{none_found}
use Rattle.theory_script.proofs.Checked.{core_fact}
use Rattle.theory_script.proofs.Keyed.Stands.{IfAgrees, agrees_at}
use Rattle.theory_deal.proofs.Branches.{branch_found}

abbrev pub IsBoundedBranch : term.Guarded → Type 0
IsBoundedBranch b = is_bounded (test_of (core b)) ≡ true

module _ (a : Advert) (well : IsWellFormed a) (path : List PathStep) where
  -- whatever the keys, deposits and hashes are, the same branches stand at the same paths
  abbrev s : Instance
  s = record { contract = 0; advert = a; bound = []; hashes = [] }

  by_ends : (o : Option PathEnd) (q : Option Subterm) → end_at (λ m. m) by_plan s path ≡ o → IfAgrees (λ m. m) by_plan s path o q
      → IfSome (option_and_then as_branch q) IsBoundedBranch
  by_ends None None ends agrees = tt
  by_ends None (Some q) ends agrees = absurd agrees
  by_ends (Some p) None ends agrees = absurd agrees
  by_ends (Some (by_path.at_position here choice)) (Some (paths.position c)) ends agrees = tt
  by_ends (Some (by_path.at_position here choice)) (Some (paths.at_branch b)) ends agrees = absurd agrees
  by_ends (Some (by_path.at_branch here i d)) (Some (paths.position c)) ends agrees = absurd agrees
  by_ends (Some (by_path.at_branch here i d)) (Some (paths.at_branch b)) ends agrees =
      let place = branch_found (λ m. m) by_plan s path here i d ends in
      let bounded : IsBoundedBranch d =
      core_fact (λ y. is_bounded (test_of y)) a here.position place.choice i d (none_found (exceeded a) well.limited).1.1.0
      place.stands.branches place.is_branch in
      subst IsBoundedBranch agrees.1 bounded

  pub bounded_at : IfSome (at a.root path) IsBoundedBranch
  bounded_at =
      by_ends (end_at (λ m. m) by_plan s path) (subterm_from (paths.position a.root) path) refl (agrees_at (λ m. m) by_plan s path)

pub if_some_of : {X Y : Type 0} (f : X → Y) (P : Y → Type 0) (o : Option X) → IfSome (option_map f o) P → IfSome o (λ x. P (f x))
if_some_of f P None h = tt
if_some_of f P (Some x) h = h
