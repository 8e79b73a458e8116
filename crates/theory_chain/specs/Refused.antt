-- What is claimed of what can't come: no ledger that has what is live accepts it, whatever judges its signatures.
use Rattle.std.specs.Prelude.{◌≡◌, ℕ, List, [], true, false, Some, None, Ok, ◌↔◌}
use Rattle.std.specs.List.{Contains}
use Rattle.spec_terms.specs.Advert.{Advert}
use Rattle.spec_bitcoin.specs.declared.verdict.Refusal.{Refusal}
use Rattle.spec_bitcoin.specs.declared.verdict.Verdict.{Verdict}
use Rattle.spec_bitcoin.specs.declared.verdict.Verdict.TheVariants as verdicts
use Rattle.spec_bitcoin.specs.declared.tx.Tx.{Tx}
use Rattle.spec_bitcoin.specs.Live.{Chain}
use Rattle.spec_compiler.specs.declared.unsigned.Spent.{Spent}
use Rattle.spec_compiler.specs.Keyed.Instance.{Instance}
use Rattle.spec_compiler.specs.Keyed.Keys.{Keys}
use Rattle.spec_compiler.specs.Keyed.Statements.{AreKeyDeposits}
use Rattle.spec_compiler.specs.Keyed.Transactions.{tx_of}
use Rattle.spec_run.specs.Firing.{with_witnesses}
use Rattle.spec_tool.specs.declared.which.Which.{Which}
use Rattle.spec_tool.specs.Keyed.Listed.{Listed, listed_at}
use Rattle.spec_deal.specs.declared.deal.Deal.{Deal}
use Rattle.spec_deal.specs.declared.entry.Shown.{Shown}
use Rattle.spec_deal.specs.declared.signed.Signed.{Signed}
use Rattle.spec_deal.specs.Finished.{finished, finish_refusal}
use Rattle.spec_deal.specs.Setting.{deal_keys, deal_instance}
use Rattle.spec_deal.specs.SignatureFile.{read_signatures}
use Rattle.spec_deal.specs.Verifier.{Verifier}
use Rattle.theory_deal.specs.Accepted.{judged_verdict, Consensus, InputCheck, input_checks, verdict_of, AllTaken, wallets_of, accepted_on}
use Rattle.theory_deal.specs.Finished.{Oracle, accepts, do_fit}
use Rattle.spec_chain.specs.Chain.{Course, stands, follow_chain}
use Rattle.spec_chain.specs.Following.{State}
use Rattle.spec_chain.specs.Outputs.{has_place}
use Rattle.spec_chain.specs.Outstanding.{asked, known, outstanding}
use Rattle.theory_chain.specs.Deals.{IsDeal}
use Rattle.theory_chain.specs.Ledgers.{HasLive}

-- the verdict is a refusal, whatever for
abbrev pub IsRefused : Verdict → Type 0
IsRefused verdict = (reason : Refusal) × (verdict ≡ verdicts.Refused reason)

-- whatever judges it
pub record IsRefusedBy (hash : List ℕ → List ℕ) (chain : Chain) (tx : Tx) : Type 0 where
  pub by_oracle : (oracle : Oracle) → IsRefused (judged_verdict hash oracle chain tx)
  pub by_input_checks : (input_check : InputCheck) → IsRefused (verdict_of hash input_check chain tx)

-- what is finished while something is missing is refused at the tip by every check of its inputs, on each ledger that has, of what it spends, what is live
abbrev pub CannotIsRefused : Type 0
CannotIsRefused =
    (v : Verifier) (hash : List ℕ → List ℕ) (advert : Advert) (deal : Deal) (text : List ℕ) (course : Course) (tip : ℕ)
    (given : List Signed) (strings : List Shown) (which : Which) (l : Listed) (chain : Chain)
    → IsDeal v hash advert deal → follow_chain hash (deal_keys deal) (deal_instance advert deal) text ≡ stands course tip
    → listed_at hash (deal_keys deal) (deal_instance advert deal) which ≡ Some l
    → finish_refusal hash (deal_keys deal) (deal_instance advert deal) given (known course.state strings) l ≡ None
    → (outstanding hash (deal_keys deal) (deal_instance advert deal) given (known course.state strings) course.state tip which ≡ [] → ⊥)
    → HasLive hash (deal_keys deal) (deal_instance advert deal) course.state l chain.live → chain.tip ≡ tip
    → IsRefusedBy hash chain (finished hash (deal_keys deal) (deal_instance advert deal) given (known course.state strings) l)

-- a transaction spends an output that isn't live, so that no such ledger accepts it, with whatever witnesses
pub record IsSpent (hash : List ℕ → List ℕ) (keys : Keys) (s : Instance) (state : State) (l : Listed) : Type 0 where
  pub input : Spent
  pub among : Contains l.pending.spends input
  pub gone : has_place state.live input.outpoint ≡ false
  pub refused : (chain : Chain) (witnesses : List (List (List ℕ))) → HasLive hash keys s state l chain.live
      → IsRefusedBy hash chain (with_witnesses (tx_of l.pending) witnesses)

-- of the deal's transactions each that isn't asked is spent
abbrev pub NotAskedIsSpent : Type 0
NotAskedIsSpent =
    (v : Verifier) (hash : List ℕ → List ℕ) (advert : Advert) (deal : Deal) (text : List ℕ) (course : Course) (tip : ℕ) (which : Which)
    (l : Listed)
    → IsDeal v hash advert deal → follow_chain hash (deal_keys deal) (deal_instance advert deal) text ≡ stands course tip
    → listed_at hash (deal_keys deal) (deal_instance advert deal) which ≡ Some l
    → (Contains (asked (deal_instance advert deal) course.state) which → ⊥)
    → IsSpent hash (deal_keys deal) (deal_instance advert deal) course.state l

-- this is so exactly where it is accepted: by the oracle, where all deposits are of keys; and by the oracle and consensus, where consensus takes
-- the witnesses of wallets
pub record IsAcceptedWhere (so : Type 0) (hash : List ℕ → List ℕ) (keys : Keys) (s : Instance) (l : Listed) (oracle : Oracle) (chain : Chain)
    (tx : Tx) : Type 0 where
  pub by_oracle : AreKeyDeposits keys → so ↔ (judged_verdict hash oracle chain tx ≡ accepted_on chain tx)
  pub by_input_checks : (takes : Consensus) → AllTaken takes (wallets_of keys s l) chain.live tx
      → so ↔ (verdict_of hash (input_checks keys s l oracle takes) chain tx ≡ accepted_on chain tx)

-- what is asked and finished can come exactly where such a ledger accepts it, by an oracle that accepts the given signatures
abbrev pub AcceptedExactly : Type 0
AcceptedExactly =
    (v : Verifier) (hash : List ℕ → List ℕ) (advert : Advert) (deal : Deal) (text file : List ℕ) (course : Course) (tip : ℕ)
    (given : List Signed) (strings : List Shown) (which : Which) (l : Listed) (oracle : Oracle) (chain : Chain)
    → IsDeal v hash advert deal → follow_chain hash (deal_keys deal) (deal_instance advert deal) text ≡ stands course tip
    → read_signatures v hash (deal_keys deal) (deal_instance advert deal) file ≡ Ok given
    → do_fit hash (deal_instance advert deal) strings ≡ true
    → listed_at hash (deal_keys deal) (deal_instance advert deal) which ≡ Some l
    → Contains (asked (deal_instance advert deal) course.state) which
    → finish_refusal hash (deal_keys deal) (deal_instance advert deal) given (known course.state strings) l ≡ None
    → accepts hash (deal_keys deal) (deal_instance advert deal) given oracle l ≡ true
    → HasLive hash (deal_keys deal) (deal_instance advert deal) course.state l chain.live → chain.tip ≡ tip
    → IsAcceptedWhere
    (outstanding hash (deal_keys deal) (deal_instance advert deal) given (known course.state strings) course.state tip which ≡ [])
    hash (deal_keys deal) (deal_instance advert deal) l oracle chain
    (finished hash (deal_keys deal) (deal_instance advert deal) given (known course.state strings) l)
