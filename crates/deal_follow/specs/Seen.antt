-- What the code keeps of a chain, as the definitions have it.
use Rattle.std.specs.Prelude.{ℕ, List, filter, map}
use Rattle.spec_bitcoin.specs.declared.tx.Tx.{Tx}
use Rattle.spec_bitcoin.specs.declared.tx.TxIn.{TxIn}
use Rattle.spec_calculus.specs.declared.step.Step.{Step}
use Rattle.spec_calculus.specs.declared.step.Step.TheVariants as steps
use Rattle.spec_deal.specs.Needed.{deal_contract}
use Rattle.spec_deal.specs.SecretFile.{has_length}
use Rattle.spec_chain.specs.declared.happened.Happened.{Happened}
use Rattle.spec_chain.specs.Chain as chain
use Rattle.spec_chain.specs.Following.{State, items_in}
use Rattle.bm_hash.specs.declared.messages.TrailError.{TrailError}
use Rattle.bm_hash.specs.declared.messages.TrailError.TheVariants as trails
use Rattle.deal_follow.specs.declared.error.ChainError.{ChainError}
use Rattle.deal_follow.specs.declared.error.ChainError.TheVariants as errors
use Rattle.deal_follow.specs.declared.event.Deed.{Deed}
use Rattle.deal_follow.specs.declared.event.Deed.TheVariants as deeds
use Rattle.deal_follow.specs.declared.event.Event.{Event}
use Rattle.deal_follow.specs.declared.following.Course.{Course}
use Rattle.deal_follow.specs.declared.hashing.Item.{Item}
use Rattle.deal_follow.specs.declared.standing.Standing.{Standing}

-- ---- errors

abbrev pub error_of : TrailError → ChainError
error_of trails.Collided = errors.Collided
error_of trails.Memory = errors.Memory

-- ---- items of witnesses

abbrev pub witness_in : TxIn → List (List ℕ)
witness_in input = input.witness

-- the items of a transaction's witnesses that have as many bytes as a secret may have, input by input
abbrev pub likely_items : Tx → List (List ℕ)
likely_items tx = filter has_length (items_in tx)

-- an item and its digest
abbrev pub item_in : Item → List ℕ × List ℕ
item_in item = (item.bytes.now, item.digest)

abbrev pub hashed_items : (List ℕ → List ℕ) → List (List ℕ) → List (List ℕ × List ℕ)
hashed_items hash items = map (λ bytes. (bytes, hash bytes)) items

-- ---- what happened

abbrev pub step_of : Deed → Step
step_of (deeds.Reveal party secret) = steps.Reveal deal_contract party secret
step_of (deeds.AuthInit party deposit) = steps.AuthInit deal_contract party deposit
step_of deeds.Init = steps.Init deal_contract
step_of (deeds.AuthBranch party output branch) = steps.AuthBranch party output branch
step_of (deeds.PutReveal output branch) = steps.PutReveal output branch
step_of (deeds.Withdraw output branch) = steps.Withdraw output branch
step_of (deeds.Split output branch) = steps.Split output branch

abbrev pub happened_in : Event → Happened
happened_in e = record {
  which = e.which;
  txid = e.txid;
  height = e.height;
  steps = map step_of e.deeds.items;
  made = e.made.items;
  gone = e.gone.items;
}

-- ---- where a deal stands

abbrev pub state_in : Standing → State
state_in s = record { live = s.live.items; next = s.next; made = s.made.items; shown = s.shown.items }

-- with the messages that were hashed
abbrev pub course_in : List (List ℕ) → Course → chain.Course
course_in messages c = record { state = state_in c.standing; history = map happened_in c.history.items; messages = messages }
