-- Chains: where a deal stands after the transactions of a chain file, and what each of them did; or why the file is refused, or which
-- strings collide.
use Rattle.std.specs.Prelude.{ℕ, List, [], ◌∷◌, ◌++◌, Bool, true, false, Option, Some, None}
use Rattle.spec_data.specs.Messages.{noted_all, collision}
use Rattle.spec_bitcoin.specs.declared.tx.Tx.{Tx}
use Rattle.spec_bitcoin.specs.Digests.{txid_strings}
use Rattle.spec_compiler.specs.Keyed.Keys.{Keys}
use Rattle.spec_compiler.specs.Keyed.Instance.{Instance}
use Rattle.spec_deal.specs.declared.transaction.Transaction.{Transaction}
use Rattle.spec_deal.specs.Hashed.{deal_strings}
use Rattle.spec_deal.specs.Transactions.{transactions}
use Rattle.spec_chain.specs.declared.fault.ChainFault.{ChainFault}
use Rattle.spec_chain.specs.declared.fault.ChainFault.TheVariants as faults
use Rattle.spec_chain.specs.declared.happened.Happened.{Happened}
use Rattle.spec_chain.specs.declared.reading.Confirmed.{Confirmed}
use Rattle.spec_chain.specs.declared.reading.Reading.{Reading}
use Rattle.spec_chain.specs.ChainFile.{read_chain}
use Rattle.spec_chain.specs.Following.{State, opening_state, items_in, after_transaction, happened, matters}
use Rattle.spec_chain.specs.Refusals.{refusal}

-- what is hashed of a transaction: its bytes without witnesses and their hash, and each item of its witnesses
abbrev pub transaction_strings : (List ℕ → List ℕ) → Tx → List (List ℕ)
transaction_strings hash tx = txid_strings hash tx ++ items_in tx

-- a chain so far: where the deal stands, what happened to it, and the messages that were hashed
pub record Course : Type 0 where
  pub state : State
  pub history : List Happened
  pub messages : List (List ℕ)

-- what a chain comes to
pub data Followed : Type 0 where
  -- it has this tip
  stands : (course : Course) → (tip : ℕ) → Followed
  refused : (fault : ChainFault) → Followed
  collided : (earlier : List ℕ) → (later : List ℕ) → Followed

abbrev pub if_matters : Bool → List Happened → Happened → List Happened
if_matters true history h = history ++ h ∷ []
if_matters false history h = history

-- the course with one transaction more
abbrev pub gone_on : (List ℕ → List ℕ) → Instance → List Transaction → Course → Confirmed → Course
gone_on hash s ts course c = record {
  state = after_transaction hash s ts course.state c.tx;
  history =
      if_matters (matters (happened hash s ts course.state c.height c.tx)) course.history (happened hash s ts course.state c.height c.tx);
  messages = noted_all course.messages (transaction_strings hash c.tx);
}

-- behind the last transaction stands what the file itself is refused for
abbrev pub at_end : Option ChainFault → ℕ → Course → Followed
at_end None tip course = stands course tip
at_end (Some fault) tip course = refused fault

-- a transaction whose strings collide ends it, and so does a bad one
abbrev pub follow : (List ℕ → List ℕ) → Instance → List Transaction → Option ChainFault → ℕ → Course → List Confirmed → Followed
follow hash s ts fault tip course [] = at_end fault tip course
follow hash s ts fault tip course (c ∷ cs) = elim (collision hash course.messages (transaction_strings hash c.tx)) [
  | Some pair ↦ collided (pair.0) (pair.1)
  | None ↦ elim (refusal hash s ts course.state c.height c.tx) [
    | Some reason ↦ refused (faults.Line c.line reason)
    | None ↦ follow hash s ts fault tip (gone_on hash s ts course c) cs
  ]
]

-- the deal before any transaction, behind the strings that were hashed to compile it
abbrev pub opening_course : (List ℕ → List ℕ) → Keys → Instance → Course
opening_course hash keys s = record { state = opening_state s; history = []; messages = noted_all [] (deal_strings hash keys s) }

abbrev pub follow_reading : (List ℕ → List ℕ) → Keys → Instance → Reading → Followed
follow_reading hash keys s reading =
    follow hash s (transactions hash keys s) reading.fault reading.tip (opening_course hash keys s) reading.confirmed

-- what the chain of a text does to a deal
abbrev pub follow_chain : (List ℕ → List ℕ) → Keys → Instance → List ℕ → Followed
follow_chain hash keys s text = follow_reading hash keys s (read_chain text)
