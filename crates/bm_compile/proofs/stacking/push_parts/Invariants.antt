use Rattle.std.proofs.Common.{◌≡◌, ◌≤◌, ℕ, List, ◌++◌, length}
use Rattle.std.specs.Prelude.{reverse}
use Rattle.spec_bitcoin.specs.Digests.{txid}
use Rattle.spec_compiler.specs.declared.unsigned.Unsigned.{Unsigned}
use Rattle.spec_compiler.specs.Transactions.{tx_of}
use Rattle.theory_nodes.specs.Walk.{parts_wait}
use Rattle.bm_compile.proofs.stacking.push_parts.Given as goal

abbrev pub invariant-loop-value : goal.invariant-loop-value
invariant-loop-value l = record {
  few : length l.rest ≤ 1024;
  waits : (hash : List ℕ → List ℕ) (d : Unsigned) → l.txid ≡ txid hash (tx_of d) → parts_wait hash d 0 l.rest ++ reverse l.stack.items
      ≡ parts_wait hash d 0 l.parts ++ reverse l.initial.stack.items;
}

abbrev pub decreases-loop-value : goal.decreases-loop-value
decreases-loop-value l = length l.rest
