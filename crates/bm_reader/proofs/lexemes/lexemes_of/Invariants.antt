use Rattle.std.proofs.Common.{◌≡◌, ◌++◌, drop}
use Rattle.spec_text.specs.Lexeme.{lexemes}
use Rattle.bm_reader.proofs.lexemes.lexemes_of.Given as goal

abbrev pub invariant-loop-token : goal.invariant-loop-token
invariant-loop-token l = l.said.items ++ lexemes l.text (drop l.token-index l.tokens) ≡ lexemes l.text l.tokens
