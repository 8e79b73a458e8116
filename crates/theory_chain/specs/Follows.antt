-- What is claimed of chains that are followed: where a deal stands, why a chain is refused, and that what happened stays so.
use Rattle.std.specs.Prelude.{◌≡◌, ℕ, List, [], ◌∷◌, ◌++◌, ◌⊎◌, ◌↔◌, Some, None}
use Rattle.spec_data.specs.Messages.{collision}
use Rattle.spec_compiler.specs.Keyed.Keys.{Keys}
use Rattle.spec_compiler.specs.Keyed.Instance.{Instance}
use Rattle.spec_text.specs.Lines.{lines_of}
use Rattle.spec_deal.specs.declared.transaction.Transaction.{Transaction}
use Rattle.spec_deal.specs.Transactions.{transactions}
use Rattle.spec_chain.specs.declared.fault.ChainReason.{ChainReason}
use Rattle.spec_chain.specs.declared.fault.ChainFault.{ChainFault}
use Rattle.spec_chain.specs.declared.fault.ChainFault.TheVariants as faults
use Rattle.spec_chain.specs.declared.happened.Happened.{Happened}
use Rattle.spec_chain.specs.declared.reading.Confirmed.{Confirmed}
use Rattle.spec_chain.specs.Chain.{Course, stands, refused, transaction_strings, gone_on, follow_chain, opening_course}
use Rattle.spec_chain.specs.ChainFile.{read_chain}
use Rattle.spec_chain.specs.Refusals.{refusal}

-- none of these transactions is bad where it stands or has strings that collide, and they lead from the first course to the second
abbrev pub LeadsTo : (List ℕ → List ℕ) → Instance → List Transaction → Course → List Confirmed → Course → Type 0
LeadsTo hash s ts course [] last = last ≡ course
LeadsTo hash s ts course (c ∷ cs) last =
    (collision hash course.messages (transaction_strings hash c.tx) ≡ None) × (refusal hash s ts course.state c.height c.tx ≡ None)
    × LeadsTo hash s ts (gone_on hash s ts course c) cs last

-- the first of these transactions that is bad where it stands is bad by this reason, and stands on this line
abbrev pub IsBadThere : (List ℕ → List ℕ) → Instance → List Transaction → Course → List Confirmed → ChainFault → Type 0
IsBadThere hash s ts course [] fault = ⊥
IsBadThere hash s ts course (c ∷ cs) fault =
    (collision hash course.messages (transaction_strings hash c.tx) ≡ None)
    × (((reason : ChainReason) × (refusal hash s ts course.state c.height c.tx ≡ Some reason) × (fault ≡ faults.Line c.line reason))
    ⊎ ((refusal hash s ts course.state c.height c.tx ≡ None) × IsBadThere hash s ts (gone_on hash s ts course c) cs fault))

-- a chain is followed to its tip exactly where its file isn't refused and no transaction is bad
abbrev pub FollowedExactly : Type 0
FollowedExactly = (hash : List ℕ → List ℕ) (keys : Keys) (s : Instance) (text : List ℕ) (course : Course) (tip : ℕ)
    → (follow_chain hash keys s text ≡ stands course tip)
    ↔ (((read_chain text).fault ≡ None) × ((read_chain text).tip ≡ tip)
    × LeadsTo hash s (transactions hash keys s) (opening_course hash keys s) (read_chain text).confirmed course)

-- it is refused exactly at the first line that is bad by itself or has a transaction that is bad there
abbrev pub RefusedExactly : Type 0
RefusedExactly = (hash : List ℕ → List ℕ) (keys : Keys) (s : Instance) (text : List ℕ) (fault : ChainFault)
    → (follow_chain hash keys s text ≡ refused fault)
    ↔ (IsBadThere hash s (transactions hash keys s) (opening_course hash keys s) (read_chain text).confirmed fault
    ⊎ (((read_chain text).fault ≡ Some fault) × ((last : Course)
    × LeadsTo hash s (transactions hash keys s) (opening_course hash keys s) (read_chain text).confirmed last)))

-- whatever lines come behind those of a chain, what has happened begins what then has happened
abbrev pub HistoryStays : Type 0
HistoryStays = (hash : List ℕ → List ℕ) (keys : Keys) (s : Instance) (text longer : List ℕ) (more : List (List ℕ))
    (course later : Course) (tip top : ℕ)
    → lines_of longer ≡ lines_of text ++ more
    → follow_chain hash keys s text ≡ stands course tip → follow_chain hash keys s longer ≡ stands later top
    → (new : List Happened) × (later.history ≡ course.history ++ new)
