-- What is claimed of chains whose transactions ledgers take: where each of the deal's is accepted where it stands, by whatever judges its
-- signatures, and is that of the branch which it shows, and others spend of the deal at most deposits that are live, no transaction is bad.
use Rattle.std.specs.Prelude.{◌≡◌, ◌⊎◌, ℕ, ◌+◌, List, [], ◌∷◌, true, false, Some, None, is_some, slice_get}
use Rattle.spec_terms.specs.Advert.{Advert}
use Rattle.spec_bitcoin.specs.declared.tx.OutPoint.{OutPoint}
use Rattle.spec_bitcoin.specs.declared.tx.TxIn.{TxIn}
use Rattle.spec_bitcoin.specs.declared.tx.Tx.{Tx}
use Rattle.spec_bitcoin.specs.Live.{Chain as Ledger}
use Rattle.spec_bitcoin.specs.Spelling.{stripped}
use Rattle.spec_compiler.specs.Keyed.Keys.{Keys}
use Rattle.spec_compiler.specs.Keyed.Instance.{Instance}
use Rattle.spec_compiler.specs.Keyed.Transactions.{tx_of}
use Rattle.spec_tool.specs.declared.which.Which.{Which}
use Rattle.spec_tool.specs.Keyed.Listed.{Listed, listed_at}
use Rattle.spec_deal.specs.declared.deal.Deal.{Deal}
use Rattle.spec_deal.specs.declared.transaction.Wallet.{Wallet}
use Rattle.spec_deal.specs.Setting.{deal_keys, deal_instance}
use Rattle.spec_deal.specs.Transactions.{transactions}
use Rattle.spec_deal.specs.Verifier.{Verifier}
use Rattle.theory_world.specs.KeptApart.{NoCollision}
use Rattle.theory_deal.specs.Accepted.{Consensus, input_checks, verdict_of, wallets_of, accepted_on}
use Rattle.theory_deal.specs.Finished.{Oracle}
use Rattle.spec_chain.specs.declared.reading.Confirmed.{Confirmed}
use Rattle.spec_chain.specs.Chain.{Course, stands, follow_chain}
use Rattle.spec_chain.specs.ChainFile.{read_chain}
use Rattle.spec_chain.specs.Following.{opening_state, own_transaction, which_of}
use Rattle.spec_chain.specs.Outputs.{has_place, position_outputs, deal_outputs}
use Rattle.theory_chain.specs.Deals.{IsDeal}
use Rattle.theory_chain.specs.Reasons.{SpendsAt}
use Rattle.theory_follow.specs.LeftOut.{chain_strings}
use Rattle.theory_follow.specs.LiveMaps.{LiveMap, live_after, ShowsLive, HasMap}

-- what it spends of the deal are deposits that are live, each once
pub record SpendsDeposits (hash : List ℕ → List ℕ) (keys : Keys) (s : Instance) (live : LiveMap) (tx : Tx) : Type 0 where
  pub free : (k : ℕ) (place : OutPoint) → SpendsAt tx.inputs k place → has_place (deal_outputs s (transactions hash keys s)) place ≡ true
      → (has_place (position_outputs s.advert (transactions hash keys s)) place ≡ false) × (is_some (live place) ≡ true)
  pub once : (j k : ℕ) (place : OutPoint) → SpendsAt tx.inputs j place → SpendsAt tx.inputs k place
      → has_place (deal_outputs s (transactions hash keys s)) place ≡ true → j ≡ k

-- it is the transaction of the branch that it shows, and a ledger that has the map accepts it in a block above its tip, by some oracle of
-- signatures and some consensus on the witnesses of wallets, each of which has an item
pub record IsTaken (hash : List ℕ → List ℕ) (keys : Keys) (s : Instance) (live : LiveMap) (height : ℕ) (tx : Tx) : Type 0 where
  pub which : Which
  pub l : Listed
  pub is : which_of s (transactions hash keys s) tx ≡ Some which
  pub named : listed_at hash keys s which ≡ Some l
  pub bytes : stripped tx ≡ stripped (tx_of l.pending)
  pub ledger : Ledger
  pub has : HasMap ledger.live live
  pub top : ledger.tip + 1 ≡ height
  pub oracle : Oracle
  pub takes : Consensus
  pub accepted : verdict_of hash (input_checks keys s l oracle takes) ledger tx ≡ accepted_on ledger tx
  pub filled : (k : ℕ) (w : Wallet) (i : TxIn) → wallets_of keys s l k ≡ Some w → slice_get tx.inputs k ≡ Some i → i.witness ≡ [] → ⊥

-- each of these transactions is such a one, where the map is this
abbrev pub AreTaken : (List ℕ → List ℕ) → Keys → Instance → LiveMap → List Confirmed → Type 0
AreTaken hash keys s live [] = Unit {0}
AreTaken hash keys s live (c ∷ cs) =
    (((own_transaction (transactions hash keys s) c.tx ≡ None) × SpendsDeposits hash keys s live c.tx) ⊎ IsTaken hash keys s live c.height c.tx)
    × AreTaken hash keys s (live_after hash (transactions hash keys s) live c.tx) cs

-- then the chain stands, if its lines spell one and no two strings that are hashed have one hash
abbrev pub TakenStands : Type 0
TakenStands =
    (v : Verifier) (hash : List ℕ → List ℕ) (advert : Advert) (deal : Deal) (text : List ℕ) (live : LiveMap)
    → IsDeal v hash advert deal → (read_chain text).fault ≡ None
    → NoCollision hash (chain_strings hash (deal_keys deal) (deal_instance advert deal) text)
    → ShowsLive hash (deal_keys deal) (deal_instance advert deal) (opening_state (deal_instance advert deal)) live
    → AreTaken hash (deal_keys deal) (deal_instance advert deal) live (read_chain text).confirmed
    → (course : Course) × (follow_chain hash (deal_keys deal) (deal_instance advert deal) text ≡ stands course (read_chain text).tip)
