use Rattle.std.proofs.Common.{◌≡◌, take}
use Rattle.bm_calculus.proofs.state.copies_of_moves.Given as goal

abbrev pub invariant-loop-entry : goal.invariant-loop-entry
invariant-loop-entry l = l.held.items ≡ take l.entry-index l.authorised
