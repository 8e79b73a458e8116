-- What is claimed of ledgers along a chain. A live map that has of the deal what is there before any transaction has behind each transaction
-- exactly what is live where the deal then stands, if what is spent goes and what the deal's transactions make comes; so ledgers that have it
-- accept them.
use Rattle.std.specs.Prelude.{◌≡◌, ℕ, ◌+◌, List, [], ◌∷◌, Bool, true, false, if◌then◌else◌, Option, Some, None, is_some, slice_get}
use Rattle.std.specs.List.{list_any}
use Rattle.std.specs.Option.{option_or}
use Rattle.std.specs.Str.{bytes_eq}
use Rattle.spec_terms.specs.Advert.{Advert}
use Rattle.spec_bitcoin.specs.declared.tx.OutPoint.{OutPoint}
use Rattle.spec_bitcoin.specs.declared.tx.TxOut.{TxOut}
use Rattle.spec_bitcoin.specs.declared.tx.Tx.{Tx}
use Rattle.spec_bitcoin.specs.Digests.{txid}
use Rattle.spec_bitcoin.specs.Live.{Entry, Chain as Ledger, same_outpoint}
use Rattle.spec_compiler.specs.declared.unsigned.Spent.{Spent}
use Rattle.spec_compiler.specs.Keyed.Keys.{Keys}
use Rattle.spec_compiler.specs.Keyed.Instance.{Instance}
use Rattle.spec_tool.specs.declared.which.Which.{Which}
use Rattle.spec_tool.specs.Keyed.Listed.{Listed, listed_at}
use Rattle.spec_deal.specs.declared.deal.Deal.{Deal}
use Rattle.spec_deal.specs.declared.transaction.Transaction.{Transaction}
use Rattle.spec_deal.specs.Setting.{deal_keys, deal_instance}
use Rattle.spec_deal.specs.Transactions.{transactions}
use Rattle.spec_deal.specs.Verifier.{Verifier}
use Rattle.spec_deal.specs.Wallets.{input_wallet, spent_output}
use Rattle.theory_deal.specs.Accepted.{output_at}
use Rattle.spec_chain.specs.declared.reading.Confirmed.{Confirmed}
use Rattle.spec_chain.specs.Chain.{Course, stands, follow_chain}
use Rattle.spec_chain.specs.ChainFile.{read_chain}
use Rattle.spec_chain.specs.Following.{State, opening_state, own_transaction, which_of, places_spent}
use Rattle.spec_chain.specs.Outputs.{has_place, deal_outputs}
use Rattle.spec_chain.specs.Refusals.{takes_all}
use Rattle.theory_chain.specs.Deals.{IsDeal}
use Rattle.theory_chain.specs.Ledgers.{IsAcceptedBy}
use Rattle.theory_chain.specs.OwnAccepted.{StandsBehind}

-- ---- live maps

-- what is live at each place
abbrev pub LiveMap : Type 0
LiveMap = OutPoint → Option TxOut

-- what a transaction makes there, if it is one of the deal's
abbrev pub made_there : (List ℕ → List ℕ) → Bool → Tx → OutPoint → Option TxOut
made_there hash false tx place = None
made_there hash true tx place = if bytes_eq (txid hash tx) place.txid then slice_get tx.outputs place.vout else None

-- what is left there of what was live
abbrev pub left_there : LiveMap → List OutPoint → OutPoint → Option TxOut
left_there live places place = if list_any (same_outpoint place) places then None else live place

-- behind a transaction what it spends is gone, and what one of the deal's makes is live
abbrev pub live_after : (List ℕ → List ℕ) → List Transaction → LiveMap → Tx → LiveMap
live_after hash ts live tx =
    λ place. option_or (made_there hash (is_some (own_transaction ts tx)) tx place) (left_there live (places_spent tx) place)

-- behind all of these
abbrev pub live_behind : (List ℕ → List ℕ) → List Transaction → LiveMap → List Confirmed → LiveMap
live_behind hash ts live [] = live
live_behind hash ts live (c ∷ cs) = live_behind hash ts (live_after hash ts live c.tx) cs

-- of the deal's deposits and positions the map has exactly those that are live where it stands so
pub record ShowsLive (hash : List ℕ → List ℕ) (keys : Keys) (s : Instance) (state : State) (live : LiveMap) : Type 0 where
  pub places : (place : OutPoint) → has_place (deal_outputs s (transactions hash keys s)) place ≡ true
      → is_some (live place) ≡ has_place state.live place
  -- each that a transaction of the deal spends with the output that the plan has there, or the wallet that brings it
  pub outputs : (which : Which) (l : Listed) (k : ℕ) (x : Spent) → listed_at hash keys s which ≡ Some l → slice_get l.pending.spends k ≡ Some x
      → live x.outpoint
      ≡ (if has_place state.live x.outpoint then Some (spent_output hash (input_wallet keys s.advert l.which k) x) else None)

-- a ledger has at each place what the map has there
abbrev pub HasMap : List Entry → LiveMap → Type 0
HasMap entries live = (place : OutPoint) → output_at entries place ≡ live place

-- ---- what is claimed

-- of a chain that isn't refused, from a map that has what is there before any transaction
pub record LedgersHave (hash : List ℕ → List ℕ) (keys : Keys) (s : Instance) (text : List ℕ) (last : Course) (live : LiveMap) : Type 0 where
  -- before each transaction the map shows what is live there
  pub shows : (course : Course) (c : Confirmed) (there : StandsBehind hash keys s text course c)
      → ShowsLive hash keys s course.state (live_behind hash (transactions hash keys s) live there.before)
  -- each of the deal's is accepted by each ledger that has the map, in a block above its tip; the oracle takes every signature
  pub accepted : (course : Course) (c : Confirmed) (there : StandsBehind hash keys s text course c) (which : Which) (l : Listed) (ledger : Ledger)
      → which_of s (transactions hash keys s) c.tx ≡ Some which → listed_at hash keys s which ≡ Some l
      → HasMap ledger.live (live_behind hash (transactions hash keys s) live there.before) → ledger.tip + 1 ≡ c.height
      → IsAcceptedBy hash keys s l (λ k. takes_all) ledger c.tx
  -- and behind all of them it shows what is live at the end
  pub at_end : ShowsLive hash keys s last.state (live_behind hash (transactions hash keys s) live (read_chain text).confirmed)

abbrev pub LedgersFollow : Type 0
LedgersFollow =
    (v : Verifier) (hash : List ℕ → List ℕ) (advert : Advert) (deal : Deal) (text : List ℕ) (last : Course) (tip : ℕ) (live : LiveMap)
    → IsDeal v hash advert deal → follow_chain hash (deal_keys deal) (deal_instance advert deal) text ≡ stands last tip
    → ShowsLive hash (deal_keys deal) (deal_instance advert deal) (opening_state (deal_instance advert deal)) live
    → LedgersHave hash (deal_keys deal) (deal_instance advert deal) text last live
