-- What is claimed of the ledger's side of a chain: it accepts each transaction of the deal where it stands.
use Rattle.std.specs.Prelude.{◌≡◌, ℕ, ◌+◌, List, ◌∷◌, ◌++◌, Some}
use Rattle.spec_terms.specs.Advert.{Advert}
use Rattle.spec_bitcoin.specs.Live.{Chain as Ledger}
use Rattle.spec_compiler.specs.Keyed.Keys.{Keys}
use Rattle.spec_compiler.specs.Keyed.Instance.{Instance}
use Rattle.spec_tool.specs.declared.which.Which.{Which}
use Rattle.spec_tool.specs.Keyed.Listed.{Listed, listed_at}
use Rattle.spec_deal.specs.declared.deal.Deal.{Deal}
use Rattle.spec_deal.specs.Setting.{deal_keys, deal_instance}
use Rattle.spec_deal.specs.Transactions.{transactions}
use Rattle.spec_deal.specs.Verifier.{Verifier}
use Rattle.spec_chain.specs.declared.reading.Confirmed.{Confirmed}
use Rattle.spec_chain.specs.Chain.{Course, stands, follow_chain, opening_course}
use Rattle.spec_chain.specs.ChainFile.{read_chain}
use Rattle.spec_chain.specs.Following.{which_of}
use Rattle.spec_chain.specs.Refusals.{takes_all}
use Rattle.theory_chain.specs.Deals.{IsDeal}
use Rattle.theory_chain.specs.Follows.{LeadsTo}
use Rattle.theory_chain.specs.Ledgers.{HasLive, IsAcceptedBy}

-- the transaction stands in the file behind others, which lead to this course
pub record StandsBehind (hash : List ℕ → List ℕ) (keys : Keys) (s : Instance) (text : List ℕ) (course : Course) (c : Confirmed) : Type 0 where
  pub before : List Confirmed
  pub behind : List Confirmed
  pub cut : (read_chain text).confirmed ≡ before ++ c ∷ behind
  pub leads : LeadsTo hash s (transactions hash keys s) (opening_course hash keys s) before course

-- of a chain that isn't refused each transaction of the deal is accepted where it stands, in a block above the tip, by each ledger that has,
-- of what it spends, what is live there; the oracle takes every signature
abbrev pub OwnIsAccepted : Type 0
OwnIsAccepted =
    (v : Verifier) (hash : List ℕ → List ℕ) (advert : Advert) (deal : Deal) (text : List ℕ) (course last : Course) (tip : ℕ) (c : Confirmed)
    (which : Which) (l : Listed) (ledger : Ledger)
    → IsDeal v hash advert deal → follow_chain hash (deal_keys deal) (deal_instance advert deal) text ≡ stands last tip
    → StandsBehind hash (deal_keys deal) (deal_instance advert deal) text course c
    → which_of (deal_instance advert deal) (transactions hash (deal_keys deal) (deal_instance advert deal)) c.tx ≡ Some which
    → listed_at hash (deal_keys deal) (deal_instance advert deal) which ≡ Some l
    → HasLive hash (deal_keys deal) (deal_instance advert deal) course.state l ledger.live → ledger.tip + 1 ≡ c.height
    → IsAcceptedBy hash (deal_keys deal) (deal_instance advert deal) l (λ k. takes_all) ledger c.tx
