-- The run of the calculus that a chain is: the contract is advertised and agreed on, then come the steps of each transaction at its height,
-- and then the time runs to the tip; and the configuration that a chain shows.
use Rattle.std.specs.Prelude.{◌≡◌, ℕ, ◌+◌, ◌-◌, ◌≤◌, List, [], ◌∷◌, ◌++◌, length, map, Bool, nat_lt, if◌then◌else◌, Option, Some, None}
use Rattle.std.specs.List.{list_any, flat_map}
use Rattle.spec_data.specs.Lists.{is_among, look_up}
use Rattle.spec_data.specs.Ranges.{least_secret_bytes, most_secret_length}
use Rattle.spec_terms.specs.Precondition.{Holding, deposits, secrets, secrets_of, names_of}
use Rattle.spec_calculus.specs.declared.step.Owner.TheVariants as owners
use Rattle.spec_calculus.specs.declared.step.Move.{Move}
use Rattle.spec_calculus.specs.declared.step.Step.{Step}
use Rattle.spec_calculus.specs.declared.step.Step.TheVariants as steps
use Rattle.spec_calculus.specs.declared.parts.Deposit.{Deposit}
use Rattle.spec_calculus.specs.declared.parts.ActiveContract.{ActiveContract}
use Rattle.spec_calculus.specs.declared.parts.Revealed.{Revealed}
use Rattle.spec_calculus.specs.Configuration.{Configuration}
use Rattle.spec_calculus.specs.Steps.{opening}
use Rattle.spec_compiler.specs.Keyed.Instance.{Instance, people}
use Rattle.spec_tool.specs.declared.which.Which.{Which}
use Rattle.spec_deal.specs.Finished.{bytes_or_none}
use Rattle.spec_deal.specs.Needed.{deal_contract}
use Rattle.spec_chain.specs.declared.happened.Happened.{Happened}
use Rattle.spec_chain.specs.declared.output.Held.TheVariants as helds
use Rattle.spec_chain.specs.declared.output.Output.{Output}
use Rattle.spec_chain.specs.Chain.{Course}
use Rattle.spec_chain.specs.Following.{State}
use Rattle.spec_chain.specs.Outstanding.{deposits_needed}

-- ---- before the chain

-- these names, each with its number, from n on
abbrev pub numbered : ℕ → List (List ℕ) → List (List ℕ × ℕ)
numbered n [] = []
numbered n (x ∷ xs) = (x, n) ∷ numbered (n + 1) xs

-- the deposits of the precondition are bound to the numbers of their order
abbrev pub deal_bindings : Instance → List (List ℕ × ℕ)
deal_bindings s = numbered 0 (names_of (deposits s.advert.pre))

-- there are the participants, all of them honest, and the deposits of the precondition
abbrev pub deal_opening : Instance → Configuration
deal_opening s = opening (people s) (people s) (map (λ d. ((d.1).owner, (d.1).value)) (deposits s.advert.pre)) (s.advert ∷ [])

-- these secrets with the lengths that they have
abbrev pub with_lengths : (List ℕ → ℕ) → List (List ℕ) → List (List ℕ × Option ℕ)
with_lengths lengths names = map (λ a. (a, Some (lengths a))) names

abbrev pub commit_step : (List ℕ → ℕ) → Instance → List ℕ → Step
commit_step lengths s party = steps.Commit deal_contract party (with_lengths lengths (secrets_of party s.advert.pre))

-- the contract is advertised, and each participant commits to its secrets
abbrev pub agreed_steps : (List ℕ → ℕ) → Instance → List Step
agreed_steps lengths s = steps.Advertise deal_contract (deal_bindings s) ∷ map (commit_step lengths s) (people s)

-- ---- the chain

-- blocks pass up to this height
abbrev pub pass_to : ℕ → ℕ → List Step
pass_to time height = if nat_lt time height then steps.Delay (height - time) ∷ [] else []

-- the time then
abbrev pub passed_to : ℕ → ℕ → ℕ
passed_to time height = if nat_lt time height then height else time

-- what happened from this time on: a transaction of a block has its steps under the tip below that block
abbrev pub steps_from : ℕ → List Happened → ℕ → List Step
steps_from time [] tip = pass_to time tip
steps_from time (h ∷ hs) tip = pass_to time (h.height - 1) ++ (h.steps ++ steps_from (passed_to time (h.height - 1)) hs tip)

-- all of it
abbrev pub chain_run : (List ℕ → ℕ) → Instance → Course → ℕ → List Step
chain_run lengths s course tip = agreed_steps lengths s ++ steps_from 0 course.history tip

-- each secret that was shown has the length of its string, and the others any length that a secret may have
pub record AreLengths (lengths : List ℕ → ℕ) (state : State) : Type 0 where
  pub fair : (name : List ℕ) → lengths name ≤ most_secret_length
  pub shown : (name bytes : List ℕ) → look_up name state.shown ≡ Some bytes → lengths name ≡ length bytes - least_secret_bytes

-- ---- what a chain shows

-- the deposits that a transaction of the deal takes
abbrev pub taken_by : Instance → Option Which → List (List ℕ)
taken_by s None = []
taken_by s (Some which) = deposits_needed s which

-- whether a transaction of the deal took the deposit of this name
abbrev pub is_taken : Instance → List Happened → List ℕ → Bool
is_taken s history x = list_any (λ (h : Happened). is_among x (taken_by s h.which)) history

-- the deposits of a precondition that weren't taken, numbered from n on
abbrev pub left_from : (List ℕ → Bool) → ℕ → List (List ℕ × Holding) → List Deposit
left_from taken n [] = []
left_from taken n (d ∷ ds) =
    if taken (d.0) then left_from taken (n + 1) ds
    else record { number = n; owner = owners.Party ((d.1).owner); value = (d.1).value } ∷ left_from taken (n + 1) ds

-- a payout is its owner's
abbrev pub paid_deposit : Output → List Deposit
paid_deposit o = elim o.held [
  | helds.Deposit name ↦ []
  | helds.Position path ↦ []
  | helds.Payout party ↦ record { number = o.number; owner = owners.Party party; value = o.value } ∷ []
]

-- the deposits that the deal didn't take, and what it paid
abbrev pub deposits_shown : Instance → Course → List Deposit
deposits_shown s course = left_from (is_taken s course.history) 0 (deposits s.advert.pre) ++ flat_map paid_deposit course.state.made

-- a live position is an active contract
abbrev pub active_contract : Output → List ActiveContract
active_contract o = elim o.held [
  | helds.Deposit name ↦ []
  | helds.Position path ↦ record { number = o.number; contract = deal_contract; position = path; balance = o.value } ∷ []
  | helds.Payout party ↦ []
]

abbrev pub contracts_shown : State → List ActiveContract
contracts_shown state = flat_map active_contract state.live

-- a secret that was shown is revealed by its party
abbrev pub revealed_secret : Instance → List ℕ × List ℕ → Revealed
revealed_secret s p =
    record { contract = deal_contract; party = bytes_or_none (look_up (p.0) (secrets s.advert.pre)); secret = p.0 }

abbrev pub secrets_revealed : Instance → State → List Revealed
secrets_revealed s state = map (revealed_secret s) state.shown

-- ---- what is gone

-- a deposit moves to someone outside
abbrev pub outside_move : ℕ → ℕ → Move
outside_move number value = record { inputs = number ∷ []; outputs = (owners.Outside, value) ∷ [] }

abbrev pub leave_steps : Option ℕ → Option Holding → List Step
leave_steps None holding = []
leave_steps (Some number) None = []
leave_steps (Some number) (Some h) =
    steps.AuthMove h.owner (outside_move number h.value) ∷ steps.Move (outside_move number h.value) ∷ []

-- the owner of a deposit agrees that it moves outside, and it does
abbrev pub goes_outside : Instance → List ℕ → List Step
goes_outside s x = leave_steps (look_up x (deal_bindings s)) (look_up x (deposits s.advert.pre))

-- so do all that are gone
abbrev pub gone_outside : Instance → Course → List Step
gone_outside s course = flat_map (goes_outside s) (flat_map (λ (h : Happened). h.gone) course.history)
