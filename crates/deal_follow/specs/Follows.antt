-- What the code that follows a chain answers, against what the chain comes to.
use Rattle.std.specs.Prelude.{◌≡◌, ℕ, List, ◌∷◌, map, Option, Some, None, Result, Ok, Err}
use Rattle.spec_bitcoin.specs.declared.tx.Tx.{Tx}
use Rattle.spec_bitcoin.specs.Digests.{txid}
use Rattle.spec_compiler.specs.Keyed.Instance.{Instance}
use Rattle.spec_deal.specs.declared.transaction.Transaction.{Transaction}
use Rattle.spec_chain.specs.declared.fault.ChainFault.{ChainFault}
use Rattle.spec_chain.specs.declared.output.Output.{Output}
use Rattle.spec_chain.specs.declared.reading.Confirmed.{Confirmed}
use Rattle.spec_chain.specs.Chain as chain
use Rattle.spec_chain.specs.Chain.{Followed, stands, refused, collided, follow}
use Rattle.deal_follow.specs.declared.error.ChainError.{ChainError}
use Rattle.deal_follow.specs.declared.error.ChainError.TheVariants as errors
use Rattle.deal_follow.specs.declared.following.Course.{Course}
use Rattle.deal_follow.specs.declared.hashing.Strings.{Strings}
use Rattle.deal_follow.specs.Seen.{item_in, hashed_items, likely_items, course_in}

abbrev pub numbers_of : List Output → List ℕ
numbers_of outputs = map (λ (o : Output). o.number) outputs

-- what is known of a transaction once its strings are hashed
pub record HasRead (hash : List ℕ → List ℕ) (tx : Tx) (s : Strings) : Type 0 where
  pub txid_is : s.txid ≡ txid hash tx
  pub items : map item_in s.items.items ≡ hashed_items hash (likely_items tx)

-- two different messages with one digest, the earlier one first
abbrev pub Evidence : Type 0
Evidence = Option (List ℕ × List ℕ)

-- a chain ends where the code says so, unless it was out of memory
abbrev pub Stops : Evidence → ChainError → Followed → Type 0
Stops evidence (errors.Refused fault) followed = followed ≡ refused fault
Stops None errors.Collided followed = ⊥
Stops (Some pair) errors.Collided followed = followed ≡ collided (pair.0) (pair.1)
Stops evidence errors.Memory followed = Unit {0}

-- the chain goes on behind this transaction from another course, or ends there
abbrev pub Goes : {U : Type 0} → (List ℕ → List ℕ) → Instance → List Transaction → Confirmed → Evidence → chain.Course → chain.Course
    → Result U ChainError → Type 0
Goes hash s ts c evidence old new (Ok done) =
    (fault : Option ChainFault) (tip : ℕ) (cs : List Confirmed) → follow hash s ts fault tip old (c ∷ cs) ≡ follow hash s ts fault tip new cs
Goes hash s ts c evidence old new (Err e) =
    (fault : Option ChainFault) (tip : ℕ) (cs : List Confirmed) → Stops evidence e (follow hash s ts fault tip old (c ∷ cs))

-- what the chain comes to, behind these messages
abbrev pub IsFollowed : Evidence → List (List ℕ) → ℕ → Result Course ChainError → Followed → Type 0
IsFollowed evidence messages tip (Ok course) followed = followed ≡ stands (course_in messages course) tip
IsFollowed evidence messages tip (Err e) followed = Stops evidence e followed
