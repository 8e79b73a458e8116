use Rattle.std.proofs.Common.{◌≡◌, ◌∷◌, drop}
use Rattle.spec_terms.specs.Precondition.{names_of}
use Rattle.spec_tool.specs.Psbt.{are_ascending}
use Rattle.bm_psbt.proofs.order.are_in_order.Given as goal

-- the last key and those that are left decide
abbrev pub invariant-loop-key : goal.invariant-loop-key
invariant-loop-key l = are_ascending (l.last ∷ names_of (drop l.key-index l.rest)) ≡ are_ascending (names_of l.signatures)
