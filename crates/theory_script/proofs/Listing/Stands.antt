-- What is found by a path stands there, by the key plan.
use Rattle.std.proofs.Common.{◌≡◌, ℕ, List, [], ◌∷◌, ◌++◌, Option, Some}
use Rattle.std.specs.Option.{option_and_then}
use Rattle.spec_terms.specs.Term.{Contract}
use Rattle.spec_terms.specs.Paths as paths
use Rattle.spec_terms.specs.Paths.{Subterm, subterm_from}
use Rattle.spec_terms.specs.declared.path.PathStep.{PathStep}
use Rattle.spec_compiler.specs.Keyed.Keys.{by_plan}
use Rattle.spec_compiler.specs.Instance.{Instance}
use Rattle.spec_compiler.specs.Transactions.{Standing}
use Rattle.spec_compiler.specs.ByPath.{PathEnd, next_end, end_from, end_at, position_at}
use Rattle.theory_script.specs.Listed.{StandsAt}
use Rattle.theory_script.proofs.Keyed.Stands as keyed
pub use Rattle.theory_script.proofs.Keyed.Stands.{some_same}

module _ (hash : List ℕ → List ℕ) (s : Instance) where
  pub end_from-step : (p : PathEnd) (xs : List PathStep) (step : PathStep)
      → end_from hash s p (xs ++ step ∷ []) ≡ option_and_then (next_end hash s step) (end_from hash s p xs)
  end_from-step = keyed.end_from-step hash by_plan s

  -- what stands at a path agrees with the term's subterm there
  abbrev pub IfAgrees : List PathStep → Option PathEnd → Option Subterm → Type 0
  IfAgrees = keyed.IfAgrees hash by_plan s

  pub agrees_at : (path : List PathStep) → IfAgrees path (end_at hash s path) (subterm_from (paths.position s.advert.root) path)
  agrees_at = keyed.agrees_at hash by_plan s

  pub position_stands : (path : List PathStep) (here : Standing) (choice : Contract) → position_at hash s path ≡ Some (here, choice)
      → StandsAt hash s path here choice
  position_stands = keyed.position_stands hash by_plan s
