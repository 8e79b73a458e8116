-- What a run came to at each moment, as far as its page shows it: the positions that outputs stand for, and the transactions that were taken.
use Rattle.std.specs.Prelude.{ℕ, List, [], ◌∷◌, ◌++◌, Bool, true, false, ◌&&◌, ◌==◌, if◌then◌else◌, Option, Some, None, option_map}
use Rattle.std.specs.List.{list_any}
use Rattle.spec_terms.specs.Paths.{path_eq}
use Rattle.spec_terms.specs.declared.path.PathStep.{PathStep}
use Rattle.spec_terms.specs.declared.path.PathStep.TheVariants.{Branch as To}
use Rattle.spec_calculus.specs.declared.parts.ActiveContract.{ActiveContract}
use Rattle.spec_calculus.specs.declared.step.Step.{Step}
use Rattle.spec_calculus.specs.declared.step.Step.TheVariants as steps
use Rattle.spec_calculus.specs.Configuration.{Configuration}
use Rattle.spec_run.specs.Setup.{Setup}
use Rattle.spec_run.specs.Translation.{Turn, opening_configuration}
use Rattle.spec_tool.specs.declared.which.Which.{Which}
use Rattle.spec_tool.specs.declared.which.Which.TheVariants.{Init, At}

-- ---- places

-- an output, and the contract and the position that it stands for
pub record Place : Type 0 where
  pub output : ℕ
  pub contract : ℕ
  pub position : List PathStep

abbrev pub is_placed : List Place → ℕ → Bool
is_placed places n = list_any (λ p. p.output == n) places

abbrev pub place_of : ℕ → List Place → Option Place
place_of n [] = None
place_of n (p ∷ ps) = if p.output == n then Some p else place_of n ps

-- the place of an active contract
abbrev pub placed : ActiveContract → Place
placed a = record { output = a.number; contract = a.contract; position = a.position }

-- the places, and those of the active contracts that aren't among them
abbrev pub with_active : List Place → List ActiveContract → List Place
with_active places [] = places
with_active places (a ∷ rest) = if is_placed places a.number then with_active places rest else with_active (places ++ placed a ∷ []) rest

-- ---- transactions

-- a transaction of a contract
pub record Move : Type 0 where
  pub contract : ℕ
  pub which : Which

abbrev pub move : ℕ → Which → Move
move contract which = record { contract = contract; which = which }

abbrev pub is_same_which : Which → Which → Bool
is_same_which Init Init = true
is_same_which (At p) (At q) = path_eq p q
is_same_which Init (At q) = false
is_same_which (At p) Init = false

abbrev pub is_same_move : Move → Move → Bool
is_same_move m n = (m.contract == n.contract) && is_same_which m.which n.which

-- that of branch i of the position that an output stands for
abbrev pub move_at : ℕ → Place → Move
move_at i p = move p.contract (At (p.position ++ To i ∷ []))

abbrev pub branch_move : List Place → ℕ → ℕ → Option Move
branch_move places n i = option_map (move_at i) (place_of n places)

-- the transaction that a step takes, if it takes one
abbrev pub step_move : List Place → Step → Option Move
step_move places (steps.Init k) = Some (move k Init)
step_move places (steps.PutReveal n i) = branch_move places n i
step_move places (steps.Withdraw n i) = branch_move places n i
step_move places (steps.Split n i) = branch_move places n i
step_move places (steps.Delay n) = None
step_move places (steps.AuthMove a action) = None
step_move places (steps.Move action) = None
step_move places (steps.Advertise k bs) = None
step_move places (steps.Commit k a ls) = None
step_move places (steps.AuthInit k a x) = None
step_move places (steps.Reveal k a s) = None
step_move places (steps.AuthBranch a n i) = None

abbrev pub onto_moves : Option Move → List Move → List Move
onto_moves None moves = moves
onto_moves (Some m) moves = m ∷ moves

-- those that these steps take
abbrev pub moves_by : List Place → List Step → List Move
moves_by places [] = []
moves_by places (s ∷ ss) = onto_moves (step_move places s) (moves_by places ss)

-- ---- agreements

-- a party agrees to a transaction
pub record Agreement : Type 0 where
  pub party : List ℕ
  pub move : Move

abbrev pub agreement : List ℕ → Move → Agreement
agreement party x = record { party = party; move = x }

-- the agreement that a step is, if it is one
abbrev pub step_agreement : List Place → Step → Option Agreement
step_agreement places (steps.AuthBranch a n i) = option_map (agreement a) (branch_move places n i)
step_agreement places (steps.Init k) = None
step_agreement places (steps.PutReveal n i) = None
step_agreement places (steps.Withdraw n i) = None
step_agreement places (steps.Split n i) = None
step_agreement places (steps.Delay n) = None
step_agreement places (steps.AuthMove a action) = None
step_agreement places (steps.Move action) = None
step_agreement places (steps.Advertise k bs) = None
step_agreement places (steps.Commit k a ls) = None
step_agreement places (steps.AuthInit k a x) = None
step_agreement places (steps.Reveal k a s) = None

abbrev pub onto_agreements : Option Agreement → List Agreement → List Agreement
onto_agreements None agreements = agreements
onto_agreements (Some a) agreements = a ∷ agreements

-- those that these steps are
abbrev pub agreements_by : List Place → List Step → List Agreement
agreements_by places [] = []
agreements_by places (s ∷ ss) = onto_agreements (step_agreement places s) (agreements_by places ss)

-- ---- moments

pub record Moment : Type 0 where
  pub configuration : Configuration
  -- all outputs that stand for a position, or did
  pub places : List Place
  -- the transactions that were taken, in order
  pub taken : List Move
  -- and those that were agreed to
  pub agreed : List Agreement

-- before any event
abbrev pub first_moment : Setup → Moment
first_moment s = record { configuration = opening_configuration s; places = []; taken = []; agreed = [] }

-- after steps that led to this configuration
abbrev pub after_steps_to : Moment → List Step → Configuration → Moment
after_steps_to m ss g = record {
  configuration = g;
  places = with_active m.places g.active;
  taken = m.taken ++ moves_by m.places ss;
  agreed = m.agreed ++ agreements_by m.places ss;
}

-- after an event
abbrev pub after_turn : Moment → Turn → Moment
after_turn m t = after_steps_to m t.steps t.configuration
