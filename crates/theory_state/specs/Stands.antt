-- What is claimed of a deal that stands so after a chain, by the signatures and strings that there are: the theorems on chains, for this one.
use Rattle.std.specs.Prelude.{◌≡◌, ℕ, List, [], ◌++◌, true, ◌⊎◌, ◌∷◌, ◌↔◌, Some}
use Rattle.std.specs.List.{Contains}
use Rattle.spec_terms.specs.Advert.{Advert}
use Rattle.spec_bitcoin.specs.Live.{Chain}
use Rattle.spec_compiler.specs.Keyed.Keys.{Keys}
use Rattle.spec_compiler.specs.Keyed.Instance.{Instance}
use Rattle.spec_text.specs.Lines.{lines_of}
use Rattle.spec_tool.specs.declared.which.Which.{Which}
use Rattle.spec_tool.specs.Keyed.Listed.{Listed, listed_at}
use Rattle.spec_deal.specs.declared.deal.Deal.{Deal}
use Rattle.spec_deal.specs.declared.entry.Shown.{Shown}
use Rattle.spec_deal.specs.declared.signed.Signed.{Signed}
use Rattle.spec_deal.specs.Finished.{finished, witnesses}
use Rattle.spec_deal.specs.Setting.{deal_keys, deal_instance}
use Rattle.spec_deal.specs.Slots.{Slot}
use Rattle.spec_deal.specs.Transactions.{transactions}
use Rattle.spec_chain.specs.declared.happened.Happened.{Happened}
use Rattle.spec_chain.specs.declared.reading.Confirmed.{Confirmed}
use Rattle.spec_chain.specs.declared.requirement.Requirement.{Requirement}
use Rattle.spec_chain.specs.declared.requirement.Requirement.TheVariants as requirements
use Rattle.spec_chain.specs.Chain.{Course, stands, follow_chain}
use Rattle.spec_chain.specs.Outstanding.{asked, known, unverified_for, outstanding, deposits_outstanding, is_never}
use Rattle.theory_deal.specs.Finished.{Oracle, accepts, do_fit}
use Rattle.theory_chain.specs.Aside.{IsAside, IsReadOver}
use Rattle.theory_chain.specs.Ledgers.{HasLive, IsAcceptedBy}
use Rattle.theory_chain.specs.Nevers.{HaveOneHash}
use Rattle.theory_chain.specs.Prospects.{CanCome, IsSupplied, IsOpened}
use Rattle.theory_chain.specs.Requirements.{IsOutstanding, IsCountedOn}
use Rattle.theory_chain.specs.Runs.{IsRun}

-- ---- what may come

-- what is missing for the transaction of a name, by what is known
abbrev pub missing_for : (List ℕ → List ℕ) → Keys → Instance → Course → ℕ → List Signed → List Shown → Which → List Requirement
missing_for hash keys s course tip given strings which = outstanding hash keys s given (known course.state strings) course.state tip which

-- what is printed of the transaction of a name is so
pub record IsSoOf (hash : List ℕ → List ℕ) (keys : Keys) (s : Instance) (course : Course) (tip : ℕ) (given : List Signed)
    (strings : List Shown) (which : Which) (l : Listed) : Type 0 where
  -- `can` stands exactly where it is finished, its lock is reached and its deposits are live
  pub can : (missing_for hash keys s course tip given strings which ≡ [])
      ↔ CanCome hash keys s given (known course.state strings) course.state tip which l
  -- each line below `cannot` stands exactly where what it says is missing
  pub exactly : (requirement : Requirement) → Contains (missing_for hash keys s course tip given strings which) requirement
      ↔ IsOutstanding hash keys s given (known course.state strings) course.state tip which l requirement
  -- each line `unverified` below `can` stands exactly where it counts on the witness of a wallet
  pub unverified : (slot : Slot) → Contains (unverified_for hash keys s given which) slot ↔ IsCountedOn hash keys s given which slot
  -- where all that may be missing is supplied, nothing is, or its predicate is false
  pub supplied : IsSupplied hash keys s given (known course.state strings) course.state tip which l
      → (missing_for hash keys s course tip given strings which ≡ [])
      ⊎ (missing_for hash keys s course tip given strings which ≡ requirements.PredicateFalse ∷ [])

-- where `can` stands, its witnesses open what it spends, for every oracle that accepts the given signatures, but what wallets bring: there
-- they are those that were handed in
abbrev pub AreOpened : (List ℕ → List ℕ) → Keys → Instance → Course → ℕ → List Signed → List Shown → Type 0
AreOpened hash keys s course tip given strings =
    (which : Which) (l : Listed) (oracle : Oracle)
    → listed_at hash keys s which ≡ Some l → missing_for hash keys s course tip given strings which ≡ []
    → accepts hash keys s given oracle l ≡ true
    → IsOpened hash keys s given oracle l (witnesses hash keys s given (known course.state strings) l l.which)

-- where `can` stands for what is asked, each ledger that has what is live accepts it at the tip, for every such oracle, and consensus that
-- takes the witnesses of wallets
abbrev pub AreAccepted : (List ℕ → List ℕ) → Keys → Instance → Course → ℕ → List Signed → List Shown → Type 0
AreAccepted hash keys s course tip given strings =
    (which : Which) (l : Listed) (oracle : Oracle) (chain : Chain)
    → listed_at hash keys s which ≡ Some l → Contains (asked s course.state) which
    → missing_for hash keys s course tip given strings which ≡ [] → accepts hash keys s given oracle l ≡ true
    → HasLive hash keys s course.state l chain.live → chain.tip ≡ tip
    → IsAcceptedBy hash keys s l oracle chain (finished hash keys s given (known course.state strings) l)

-- ---- further lines

-- after more lines than these of the text the deal stands so at this tip
pub record GoesOn (hash : List ℕ → List ℕ) (keys : Keys) (s : Instance) (text : List ℕ) (later : Course) (top : ℕ) : Type 0 where
  pub longer : List ℕ
  pub more : List (List ℕ)
  pub lines : lines_of longer ≡ lines_of text ++ more
  pub followed : follow_chain hash keys s longer ≡ stands later top

-- what has happened begins what then has happened
abbrev pub HistoryBegins : (List ℕ → List ℕ) → Keys → Instance → List ℕ → Course → Type 0
HistoryBegins hash keys s text course =
    (later : Course) (top : ℕ) → GoesOn hash keys s text later top → (new : List Happened) × (later.history ≡ course.history ++ new)

-- where a deposit is gone, its transaction can't come then, whatever is signed and known
abbrev pub GoneNever : (List ℕ → List ℕ) → Keys → Instance → List ℕ → Course → Type 0
GoneNever hash keys s text course =
    (later : Course) (top : ℕ) (given : List Signed) (strings : List Shown) (which : Which) → GoesOn hash keys s text later top
    → (deposits_outstanding s course.state which ≡ [] → ⊥) → outstanding hash keys s given strings later.state top which ≡ [] → ⊥

-- nor can one below which `never` stands, whatever is signed and told, where strings with one hash are one
abbrev pub NeverMeans : (List ℕ → List ℕ) → Keys → Instance → List ℕ → Course → ℕ → List Signed → List Shown → Type 0
NeverMeans hash keys s text course tip given strings =
    (later : Course) (top : ℕ) (new : List Signed) (told : List Shown) (which : Which) (l : Listed) (requirement : Requirement)
    → GoesOn hash keys s text later top → do_fit hash s told ≡ true
    → HaveOneHash hash (known course.state strings ++ known later.state told)
    → listed_at hash keys s which ≡ Some l
    → Contains (missing_for hash keys s course tip given strings which) requirement → is_never requirement ≡ true
    → missing_for hash keys s later top new told which ≡ [] → ⊥

-- ---- the whole

-- what is known of a deal that stands so after the chain of this text, by these signatures and strings, which fit their secrets
pub record StandsSo (hash : List ℕ → List ℕ) (advert : Advert) (deal : Deal) (text : List ℕ) (course : Course) (tip : ℕ)
    (given : List Signed) (strings : List Shown) : Type 0 where
  -- the steps are a legal run of the calculus, and what is live, paid and revealed is its configuration at the end
  pub run : IsRun hash (deal_keys deal) (deal_instance advert deal) course tip
  -- every string that is known fits its secret
  pub fit : do_fit hash (deal_instance advert deal) (known course.state strings) ≡ true
  pub so : (which : Which) (l : Listed) → listed_at hash (deal_keys deal) (deal_instance advert deal) which ≡ Some l
      → IsSoOf hash (deal_keys deal) (deal_instance advert deal) course tip given strings which l
  pub opens : AreOpened hash (deal_keys deal) (deal_instance advert deal) course tip given strings
  pub accepted : AreAccepted hash (deal_keys deal) (deal_instance advert deal) course tip given strings
  pub history : HistoryBegins hash (deal_keys deal) (deal_instance advert deal) text course
  pub gone : GoneNever hash (deal_keys deal) (deal_instance advert deal) text course
  pub never : NeverMeans hash (deal_keys deal) (deal_instance advert deal) text course tip given strings
  -- a transaction that has nothing to do with the deal changes nothing
  pub aside : (c : Confirmed) → IsAside hash (deal_instance advert deal) (transactions hash (deal_keys deal) (deal_instance advert deal)) course.state c.tx
      → IsReadOver hash (deal_keys deal) (deal_instance advert deal) course c
