-- What is claimed of transactions that have nothing to do with a deal: they are read over.
use Rattle.std.specs.Prelude.{◌≡◌, ℕ, List, [], ◌∷◌, ◌++◌, map, false, None}
use Rattle.std.specs.List.{list_any}
use Rattle.spec_bitcoin.specs.declared.tx.Tx.{Tx}
use Rattle.spec_compiler.specs.Keyed.Keys.{Keys}
use Rattle.spec_compiler.specs.Keyed.Instance.{Instance}
use Rattle.spec_deal.specs.declared.entry.Shown.{Shown}
use Rattle.spec_deal.specs.declared.signed.Signed.{Signed}
use Rattle.spec_deal.specs.declared.transaction.Transaction.{Transaction}
use Rattle.spec_deal.specs.Transactions.{transactions}
use Rattle.spec_chain.specs.declared.fault.ChainFault.{ChainFault}
use Rattle.spec_chain.specs.declared.reading.Confirmed.{Confirmed}
use Rattle.spec_chain.specs.Chain.{Course, stands, refused, gone_on, follow_chain, opening_course}
use Rattle.spec_chain.specs.ChainFile.{read_chain}
use Rattle.spec_chain.specs.Following.{State, own_transaction, newly_shown, places_spent}
use Rattle.spec_chain.specs.Outputs.{has_place, deal_outputs}
use Rattle.spec_chain.specs.Refusals.{refusal}
use Rattle.spec_chain.specs.StateText.{state_text}
use Rattle.theory_chain.specs.Follows.{LeadsTo}

-- the transaction isn't the deal's, spends none of its deposits and positions, and shows no secret that wasn't shown
pub record IsAside (hash : List ℕ → List ℕ) (s : Instance) (ts : List Transaction) (state : State) (tx : Tx) : Type 0 where
  pub other : own_transaction ts tx ≡ None
  pub apart : list_any (has_place (deal_outputs s ts)) (places_spent tx) ≡ false
  pub silent : newly_shown hash s state tx ≡ []

-- a transaction behind this course isn't bad, and changes nothing of what is printed
pub record IsReadOver (hash : List ℕ → List ℕ) (keys : Keys) (s : Instance) (course : Course) (c : Confirmed) : Type 0 where
  pub isnt_bad : refusal hash s (transactions hash keys s) course.state c.height c.tx ≡ None
  pub state : (gone_on hash s (transactions hash keys s) course c).state ≡ course.state
  pub text : (tip : ℕ) (given : List Signed) (strings : List Shown)
      → state_text hash keys s (gone_on hash s (transactions hash keys s) course c) tip given strings
      ≡ state_text hash keys s course tip given strings

abbrev pub OthersAreReadOver : Type 0
OthersAreReadOver =
    (hash : List ℕ → List ℕ) (keys : Keys) (s : Instance) (text : List ℕ) (course : Course) (tip : ℕ) (c : Confirmed)
    → follow_chain hash keys s text ≡ stands course tip → IsAside hash s (transactions hash keys s) course.state c.tx
    → IsReadOver hash keys s course c

-- ---- wherever it stands

-- a transaction at its height, whatever the number of its line
abbrev pub in_block : Confirmed → ℕ × Tx
in_block c = (c.height, c.tx)

abbrev pub in_blocks : List Confirmed → List (ℕ × Tx)
in_blocks cs = map in_block cs

-- the longer file has one transaction more, which has nothing to do with the deal where it stands
pub record HasOneAside (hash : List ℕ → List ℕ) (keys : Keys) (s : Instance) (text longer : List ℕ) : Type 0 where
  pub before : List Confirmed
  pub aside : Confirmed
  pub behind : List Confirmed
  pub course : Course
  pub longer_has : (read_chain longer).confirmed ≡ before ++ aside ∷ behind
  pub text_has : in_blocks (read_chain text).confirmed ≡ in_blocks (before ++ behind)
  pub leads : LeadsTo hash s (transactions hash keys s) (opening_course hash keys s) before course
  pub is_aside : IsAside hash s (transactions hash keys s) course.state aside.tx

-- where one of these chains stands, the other isn't refused for a transaction; and where both do, at one tip, the text is the same
pub record AreRead (hash : List ℕ → List ℕ) (keys : Keys) (s : Instance) (text longer : List ℕ) (one two : Course) (tip top : ℕ) : Type 0 where
  pub added : follow_chain hash keys s text ≡ stands one tip → (read_chain longer).fault ≡ None
      → (fault : ChainFault) → follow_chain hash keys s longer ≡ refused fault → ⊥
  pub left_out : follow_chain hash keys s longer ≡ stands two top → (read_chain text).fault ≡ None
      → (fault : ChainFault) → follow_chain hash keys s text ≡ refused fault → ⊥
  pub text_is : follow_chain hash keys s text ≡ stands one tip → follow_chain hash keys s longer ≡ stands two top
      → (height : ℕ) (given : List Signed) (strings : List Shown)
      → state_text hash keys s one height given strings ≡ state_text hash keys s two height given strings

abbrev pub AsideAnywhere : Type 0
AsideAnywhere =
    (hash : List ℕ → List ℕ) (keys : Keys) (s : Instance) (text longer : List ℕ) (one two : Course) (tip top : ℕ)
    → HasOneAside hash keys s text longer → AreRead hash keys s text longer one two tip top
