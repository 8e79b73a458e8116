-- What is claimed of the weights of a contract's transactions, by BIP 141: full witnesses weigh no less than the least and no more than the
-- greatest, and reach both.
use Rattle.std.specs.Prelude.{◌≡◌, ℕ, ◌+◌, ◌≤◌, List, length, Some, slice_get}
use Rattle.spec_terms.specs.declared.path.PathStep.{PathStep}
use Rattle.spec_bitcoin.specs.declared.tx.Tx.{Tx}
use Rattle.spec_compiler.specs.Instance.{Instance}
use Rattle.spec_compiler.specs.declared.unsigned.Unsigned.{Unsigned}
use Rattle.spec_compiler.specs.Transactions.{tx_of, initial_unsigned}
use Rattle.spec_compiler.specs.Compilation.{path_transactions}
use Rattle.spec_run.specs.Firing.{with_witnesses}
use Rattle.spec_tool.specs.declared.weight.Weight.{Weight}
use Rattle.spec_tool.specs.Weights.{weight_of, weights, IsInitialFull, IsPathFull}

-- a weight between the least and the most
pub record IsWithin (w : Weight) (weight : ℕ) : Type 0 where
  pub least : w.least ≤ weight
  pub most : weight ≤ w.most

-- full witnesses with which the transaction weighs this
pub record Reaches (full : List (List (List ℕ)) → Type 0) (tx : Tx) (weight : ℕ) : Type 0 where
  pub witnesses : List (List (List ℕ))
  pub fills : full witnesses
  pub weighs : weight_of (with_witnesses tx witnesses) ≡ weight

-- the transaction weighs between these with all full witnesses, and just these with some
pub record Bounds (full : List (List (List ℕ)) → Type 0) (tx : Tx) (w : Weight) : Type 0 where
  pub within : (witnesses : List (List (List ℕ))) → full witnesses → IsWithin w (weight_of (with_witnesses tx witnesses))
  pub least : Reaches full tx w.least
  pub most : Reaches full tx w.most

-- the weights of a compiled contract are those of its initial transaction and then of each path, in the order of the text
pub record WeighsRightly (hash : List ℕ → List ℕ) (s : Instance) : Type 0 where
  pub count : length (weights hash s) ≡ length (path_transactions hash s) + 1
  pub initial : (weight total : Weight) → slice_get (weights hash s) 0 ≡ Some (weight, total)
      → Bounds (IsInitialFull (initial_unsigned hash s)) (tx_of (initial_unsigned hash s)) weight
  pub paths : (n : ℕ) (path : List PathStep) (d : Unsigned) (weight total : Weight)
      → slice_get (path_transactions hash s) n ≡ Some (path, d) → slice_get (weights hash s) (n + 1) ≡ Some (weight, total)
      → Bounds (IsPathFull s.advert path d) (tx_of d) weight

abbrev pub WeightsAreBounds : Type 0
WeightsAreBounds = (hash : List ℕ → List ℕ) (s : Instance) → WeighsRightly hash s
