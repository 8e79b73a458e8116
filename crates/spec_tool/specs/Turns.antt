-- How the rules of a strategy go on with a run.
use Rattle.std.specs.Prelude.{ℕ, zero, suc, ◌+◌, List, [], ◌∷◌, ◌++◌, length, Bool, false, ◌&&◌, ◌==◌, if◌then◌else◌, Option, Some}
use Rattle.std.specs.Prelude.{None, Result, Ok, Err, is_some}
use Rattle.spec_terms.specs.Paths.{path_eq}
use Rattle.spec_terms.specs.declared.path.PathStep.{PathStep}
use Rattle.spec_run.specs.declared.event.Event.{Event}
use Rattle.spec_run.specs.declared.event.Event.TheVariants as events
use Rattle.spec_run.specs.Setup.{Setup, contract_at}
use Rattle.spec_run.specs.World.{ContractPosition, Output, World, live_position}
use Rattle.spec_run.specs.Pending.{Halt, Answer, Went, Halted}
use Rattle.spec_run.specs.Event.{event}
use Rattle.spec_run.specs.Ledger.{branch_in}
use Rattle.spec_run.specs.Values.{is_refused}
use Rattle.spec_text.specs.Words.{◌>>=◌, given}
use Rattle.spec_tool.specs.declared.rule.Act.{Act}
use Rattle.spec_tool.specs.declared.rule.Act.TheVariants as acts
use Rattle.spec_tool.specs.declared.rule.Rule.{Rule}
use Rattle.spec_tool.specs.Weights.{last_branch, position_of}

-- ---- the event of a rule

-- whether a live contract output stands at this position of contract k
abbrev pub stands_at : ℕ → List PathStep → Option ContractPosition → Bool
stands_at k position None = false
stands_at k position (Some held) = (held.contract == k) && path_eq held.position position

-- the number of the first of these outputs that does, the first of which has the number n
abbrev pub standing_from : ℕ → ℕ → List PathStep → List Output → Option ℕ
standing_from n k position [] = None
standing_from n k position (o ∷ os) = if stands_at k position (live_position (Some o)) then Some n else standing_from (n + 1) k position os

-- the live contract output at a position of contract k
abbrev pub standing_at : World → ℕ → List PathStep → Option ℕ
standing_at w k position = standing_from 0 k position w.outputs

-- the live contract output at whose position a path is a branch, and the branch's number; none where the contract
-- doesn't have the path
abbrev pub taken_at : Setup → World → List PathStep → Option (ℕ × ℕ)
taken_at s w path = do
  known ← given (is_some (branch_in (contract_at s 0) path)) path
  n ← standing_at w 0 (position_of known)
  Some (n, last_branch known)

-- the event of a rule in this world, where it has one
abbrev pub act_event : Setup → World → List ℕ → Act → Option Event
act_event s w party acts.Commit = Some (events.Commit 0 party [])
act_event s w party acts.Endorse = Some (events.Endorse 0 party)
act_event s w party acts.Init = Some (events.Init 0 party)
act_event s w party (acts.Authorise path) = taken_at s w path >>= λ p. Some (events.Authorise party (p.0) (p.1))
act_event s w party (acts.Reveal secret) = Some (events.Reveal 0 party secret)
act_event s w party acts.FireInit = Some (events.FireInit 0)
act_event s w party (acts.Fire path) = taken_at s w path >>= λ p. Some (events.Fire (p.0) (p.1))

abbrev pub rule_event : Setup → World → Rule → Option Event
rule_event s w r = act_event s w r.party r.act

-- ---- rounds

-- what a round leaves: the world, the rules that weren't taken, and the events that were, in order
pub record Progress : Type 0 where
  pub world : World
  pub left : List Rule
  pub events : List Event

-- a round, or the halt that ends it
abbrev pub Progressed : Type 0
Progressed = Result Progress Halt

abbrev pub resting : World → Progress
resting w = record { world = w; left = []; events = [] }

-- a rule that isn't taken
abbrev pub keeps : Rule → Progressed → Progressed
keeps r (Err halt) = Err halt
keeps r (Ok progress) = Ok (record progress { left = r ∷ progress.left })

-- a rule that is taken with this event
abbrev pub takes : Event → Progressed → Progressed
takes e (Err halt) = Err halt
takes e (Ok progress) = Ok (record progress { events = e ∷ progress.events })

-- a tried event that halts ends the round; one that is refused is not taken, and leaves its strings hashed
abbrev pub tried : Rule → Event → Answer → (World → Progressed) → Progressed
tried r e (Halted halt) go = Err halt
tried r e (Went d next) go = if is_refused d.outcome then keeps r (go next) else takes e (go next)

abbrev pub tried_if : Setup → World → Rule → Option Event → (World → Progressed) → Progressed
tried_if s w r None go = keeps r (go w)
tried_if s w r (Some e) go = tried r e (event s w e) go

-- a round: the rules in order, each tried in the world that the ones before it left
abbrev pub round : Setup → World → List Rule → Progressed
round s w [] = Ok (resting w)
round s w (r ∷ rs) = tried_if s w r (rule_event s w r) (λ next. round s next rs)

-- the events that came before those of further rounds
abbrev pub after_events : List Event → Progressed → Progressed
after_events before (Err halt) = Err halt
after_events before (Ok progress) = Ok (record progress { events = before ++ progress.events })

abbrev pub rounds_go : Progress → (World → List Rule → Progressed) → Progressed
rounds_go progress go = if length progress.events == 0 then Ok progress else after_events progress.events (go progress.world progress.left)

abbrev pub rounds_on : Progressed → (World → List Rule → Progressed) → Progressed
rounds_on (Err halt) go = Err halt
rounds_on (Ok progress) go = rounds_go progress go

-- at most so many rounds, up to the first that takes no rule
unfoldable pub rounds : ℕ → Setup → World → List Rule → Progressed
rounds zero s w rules = Ok (record { world = w; left = rules; events = [] })
rounds (suc n) s w rules = rounds_on (round s w rules) (λ next left. rounds n s next left)

-- The events by which the rules go on from this world, with the world that they lead to, or the halt that ends them.
-- Each round but the last takes a rule, so there are at most as many rounds as rules, and one more.
abbrev pub extended : Setup → World → List Rule → Progressed
extended s w rules = rounds (length rules + 1) s w rules
