-- What is claimed of ledgers: a transaction for which nothing is missing is accepted by each ledger that has, of what it spends, what is live.
use Rattle.std.specs.Prelude.{◌≡◌, ℕ, List, [], true, if◌then◌else◌, Some, None, Ok, slice_get}
use Rattle.std.specs.List.{Contains}
use Rattle.spec_terms.specs.Advert.{Advert}
use Rattle.spec_bitcoin.specs.declared.tx.Tx.{Tx}
use Rattle.spec_bitcoin.specs.Live.{Entry, Chain}
use Rattle.spec_compiler.specs.declared.unsigned.Spent.{Spent}
use Rattle.spec_compiler.specs.Keyed.Instance.{Instance}
use Rattle.spec_compiler.specs.Keyed.Keys.{Keys}
use Rattle.spec_compiler.specs.Keyed.Statements.{AreKeyDeposits}
use Rattle.spec_tool.specs.declared.which.Which.{Which}
use Rattle.spec_tool.specs.Keyed.Listed.{Listed, listed_at}
use Rattle.spec_deal.specs.declared.deal.Deal.{Deal}
use Rattle.spec_deal.specs.declared.entry.Shown.{Shown}
use Rattle.spec_deal.specs.declared.signed.Signed.{Signed}
use Rattle.spec_deal.specs.Finished.{finished}
use Rattle.spec_deal.specs.Setting.{deal_keys, deal_instance}
use Rattle.spec_deal.specs.SignatureFile.{read_signatures}
use Rattle.spec_deal.specs.Verifier.{Verifier}
use Rattle.spec_deal.specs.Wallets.{input_wallet, spent_output}
use Rattle.theory_deal.specs.Accepted.{output_at, judged_verdict, Consensus, input_checks, verdict_of, AllTaken, wallets_of, accepted_on}
use Rattle.theory_deal.specs.Finished.{Oracle, accepts, do_fit}
use Rattle.spec_chain.specs.Chain.{Course, stands, follow_chain}
use Rattle.spec_chain.specs.Following.{State}
use Rattle.spec_chain.specs.Outputs.{has_place}
use Rattle.spec_chain.specs.Outstanding.{asked, known, outstanding}
use Rattle.theory_chain.specs.Deals.{IsDeal}

-- of the outputs that a transaction spends the ledger has those that are live of the deal, with the plan's value, and its script or that of
-- the wallet that brings it, and no others
abbrev pub HasLive : (List ℕ → List ℕ) → Keys → Instance → State → Listed → List Entry → Type 0
HasLive hash keys s state l live = (k : ℕ) (x : Spent) → slice_get l.pending.spends k ≡ Some x
    → output_at live x.outpoint
    ≡ (if has_place state.live x.outpoint then Some (spent_output hash (input_wallet keys s.advert l.which k) x) else None)

-- it is accepted on a ledger by an oracle of signatures, where all deposits are of keys; and by that oracle and consensus wherever consensus
-- takes the witnesses of wallets
pub record IsAcceptedBy (hash : List ℕ → List ℕ) (keys : Keys) (s : Instance) (l : Listed) (oracle : Oracle) (chain : Chain) (tx : Tx)
    : Type 0 where
  pub by_oracle : AreKeyDeposits keys → judged_verdict hash oracle chain tx ≡ accepted_on chain tx
  pub by_input_checks : (takes : Consensus) → AllTaken takes (wallets_of keys s l) chain.live tx
      → verdict_of hash (input_checks keys s l oracle takes) chain tx ≡ accepted_on chain tx

-- what can come is accepted at the tip, by every oracle that accepts the given signatures, on every such ledger
abbrev pub CanIsAccepted : Type 0
CanIsAccepted =
    (v : Verifier) (hash : List ℕ → List ℕ) (advert : Advert) (deal : Deal) (text file : List ℕ) (course : Course) (tip : ℕ)
    (given : List Signed) (strings : List Shown) (which : Which) (l : Listed) (oracle : Oracle) (chain : Chain)
    → IsDeal v hash advert deal → follow_chain hash (deal_keys deal) (deal_instance advert deal) text ≡ stands course tip
    → read_signatures v hash (deal_keys deal) (deal_instance advert deal) file ≡ Ok given
    → do_fit hash (deal_instance advert deal) strings ≡ true
    → listed_at hash (deal_keys deal) (deal_instance advert deal) which ≡ Some l
    → Contains (asked (deal_instance advert deal) course.state) which
    → outstanding hash (deal_keys deal) (deal_instance advert deal) given (known course.state strings) course.state tip which ≡ []
    → accepts hash (deal_keys deal) (deal_instance advert deal) given oracle l ≡ true
    → HasLive hash (deal_keys deal) (deal_instance advert deal) course.state l chain.live → chain.tip ≡ tip
    → IsAcceptedBy hash (deal_keys deal) (deal_instance advert deal) l oracle chain
    (finished hash (deal_keys deal) (deal_instance advert deal) given (known course.state strings) l)
