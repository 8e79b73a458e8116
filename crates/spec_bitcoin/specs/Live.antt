-- The live outputs of a ledger, in order of birth.
use Rattle.std.specs.Prelude.{◌≡◌, ℕ, ◌+◌, List, [], ◌∷◌, ◌++◌, length, map, Bool, ◌&&◌, ◌==◌, Option, None}
use Rattle.std.specs.Map.{lookup, remove_entry}
use Rattle.std.specs.Str.{bytes_eq}
use Rattle.spec_bitcoin.specs.declared.tx.OutPoint.{OutPoint}
use Rattle.spec_bitcoin.specs.declared.tx.TxOut.{TxOut}
use Rattle.spec_bitcoin.specs.declared.tx.Tx.{Tx}

-- a live output: its place, its birth number, and the output
abbrev pub Entry : Type 0
Entry = OutPoint × (ℕ × TxOut)

-- whether two places are the same
abbrev pub same_outpoint : OutPoint → OutPoint → Bool
same_outpoint a b = bytes_eq a.txid b.txid && a.vout == b.vout

-- the live output at a place, with its birth number
abbrev pub at_place : List Entry → OutPoint → Option (ℕ × TxOut)
at_place live place = lookup (same_outpoint place) live

-- a ledger: its height, how many outputs were born so far, and which are live
pub record Chain : Type 0 where
  pub tip : ℕ
  pub births : ℕ
  pub live : List Entry

-- the outputs of a transaction from output k on, where output 0 has this birth number
abbrev pub born : ℕ → List ℕ → ℕ → List TxOut → List Entry
born births txid k [] = []
born births txid k (o ∷ os) = (record { txid = txid; vout = k }, (births + k, o)) ∷ born births txid (k + 1) os

-- the live outputs without those at these places
abbrev pub without : List Entry → List OutPoint → List Entry
without live [] = live
without live (place ∷ places) = without (remove_entry (same_outpoint place) live) places

-- the ledger after a transaction of this txid
abbrev pub after_transaction : Chain → List ℕ → Tx → Chain
after_transaction chain txid tx = record {
  tip = chain.tip;
  births = chain.births + length tx.outputs;
  live = without chain.live (map (λ i. i.prev) tx.inputs) ++ born chain.births txid 0 tx.outputs;
}

-- the ledger whose only transaction is the opening one, of this txid
abbrev pub opening_chain : List ℕ → List TxOut → Chain
opening_chain txid outputs = record { tip = 0; births = length outputs; live = born 0 txid 0 outputs }

-- no live output has this txid
abbrev pub IsNewTxid : List Entry → List ℕ → Type 0
IsNewTxid live txid = (k : ℕ) → at_place live (record { txid = txid; vout = k }) ≡ None
