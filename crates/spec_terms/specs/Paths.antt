-- The branch and the choice that a path leads to.
use Rattle.std.specs.Prelude.{◌==◌, Bool, false, List, [], ◌∷◌, Option, Some, None, option_map, option_and_then, slice_get}
use Rattle.std.specs.Cmp.Lexicographic.{pointwise}
use Rattle.spec_terms.specs.Term.{Guarded, auth, after, put_reveal, withdraw, split, Contract, branches, parts_list}
use Rattle.spec_terms.specs.Core.{core, continuation}
use Rattle.spec_terms.specs.declared.path.PathStep.{PathStep}
use Rattle.spec_terms.specs.declared.path.PathStep.TheVariants.{Branch as To, Part as Into}

-- what stands at the end of a path: a position with its choice, or a branch
pub data Subterm : Type 0 where
  position : Contract → Subterm
  at_branch : Guarded → Subterm

-- what stands one step below a core: a branch of a put's or reveal's continuation, or the position of a part
abbrev pub below : Guarded → PathStep → Option Subterm
below (put_reveal puts reveals test next) (To i) = option_map at_branch (slice_get (branches next) i)
below (split parts) (Into k) = option_map (λ p. position p.1) (slice_get (parts_list parts) k)
below (put_reveal puts reveals test next) (Into k) = None
below (split parts) (To i) = None
below (auth party body) s = None
below (after height body) s = None
below (withdraw party) s = None

-- what stands one step further
abbrev pub next_subterm : Subterm → PathStep → Option Subterm
next_subterm (position c) (To i) = option_map at_branch (slice_get (branches c) i)
next_subterm (position c) (Into k) = None
next_subterm (at_branch b) s = below (core b) s

-- what stands at the end of these steps
abbrev pub subterm_from : Subterm → List PathStep → Option Subterm
subterm_from p [] = Some p
subterm_from p (s ∷ steps) = option_and_then (λ q. subterm_from q steps) (next_subterm p s)

-- the branch that stands there, if one does
abbrev pub as_branch : Subterm → Option Guarded
as_branch (position c) = None
as_branch (at_branch b) = Some b

-- the choice of the position that stands there; the continuation of a put or reveal stands at that branch's own path
abbrev pub as_contract : Subterm → Option Contract
as_contract (position c) = Some c
as_contract (at_branch b) = continuation (core b)

-- the branch at a path from the root
abbrev pub at : Contract → List PathStep → Option Guarded
at root path = option_and_then as_branch (subterm_from (position root) path)

-- the choice at a position, by the path from the root
abbrev pub contract_under : Contract → List PathStep → Option Contract
contract_under root path = option_and_then as_contract (subterm_from (position root) path)

-- ---- sameness

-- whether the steps are the same
abbrev pub step_eq : PathStep → PathStep → Bool
step_eq (To i) (To j) = i == j
step_eq (Into i) (Into j) = i == j
step_eq (To i) (Into j) = false
step_eq (Into i) (To j) = false

-- whether the paths are the same
abbrev pub path_eq : List PathStep → List PathStep → Bool
path_eq = pointwise step_eq
