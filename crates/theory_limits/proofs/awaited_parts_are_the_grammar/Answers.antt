use Rattle.theory_limits.proofs.Ends.{grammar_is}
use Rattle.theory_limits.proofs.awaited_parts_are_the_grammar.Goals as goal

pub returns : goal.returns
returns c = grammar_is
