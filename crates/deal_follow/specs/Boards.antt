-- A compiled deal as it is kept: its transactions by their bytes, and the places of its outputs.
use Rattle.std.specs.Prelude.{◌≡◌, ℕ, ◌+◌, List, [], ◌∷◌, map, Bool}
use Rattle.std.specs.List.{list_any}
use Rattle.spec_terms.specs.Advert.{Advert}
use Rattle.spec_bitcoin.specs.declared.tx.OutPoint.{OutPoint}
use Rattle.spec_bitcoin.specs.Live.{same_outpoint}
use Rattle.spec_compiler.specs.Keyed.Instance.{Instance}
use Rattle.spec_deal.specs.declared.deal.Deal.{Deal}
use Rattle.spec_deal.specs.declared.transaction.Transaction.{Transaction}
use Rattle.spec_deal.specs.Setting.{deal_instance}
use Rattle.spec_chain.specs.declared.output.Output.{Output}
use Rattle.spec_chain.specs.Outputs.{deposit_outputs, position_outputs}
use Rattle.deal_follow.specs.declared.board.Board.{Board}
use Rattle.deal_follow.specs.declared.known.Known.{Known}
use Rattle.deal_follow.specs.declared.spots.Spot.{Spot}

-- ---- transactions

abbrev pub known_in : Known → List ℕ × ℕ
known_in known = (known.bytes, known.number)

-- the bytes of each transaction with its number, where the first has number k
abbrev pub numbered : ℕ → List Transaction → List (List ℕ × ℕ)
numbered k [] = []
numbered k (t ∷ ts) = (t.bytes, k) ∷ numbered (k + 1) ts

-- ---- places

abbrev pub place_in : Spot → OutPoint
place_in spot = spot.place

abbrev pub place_of : Output → OutPoint
place_of o = o.place

-- whether this is one of the places
abbrev pub has_place : List OutPoint → OutPoint → Bool
has_place places place = list_any (λ p. same_outpoint p place) places

-- ---- the whole

abbrev pub setting : Board → Instance
setting b = deal_instance b.checked.now b.deal.now

-- what is looked up in it is that of its contract, deal and transactions
pub record IsBoard (b : Board) : Type 0 where
  pub known : map known_in b.known ≡ numbered 0 b.transactions.now
  pub deposits : map place_in b.deposits ≡ map place_of (deposit_outputs (setting b))
  pub positions : map place_in b.positions ≡ map place_of (position_outputs b.checked.now b.transactions.now)

-- it is made of these
pub record IsOf (advert : Advert) (deal : Deal) (ts : List Transaction) (b : Board) : Type 0 where
  pub checked : b.checked.now ≡ advert
  pub deal_is : b.deal.now ≡ deal
  pub transactions : b.transactions.now ≡ ts
