use Rattle.std.proofs.Common.{length, ◌-◌, ◌≡◌, ◌≤◌, drop}
use Rattle.std.specs.List.{AllByRecursion}
use Rattle.spec_text.specs.Lexis.{tokens_of, tokens_from}
use Rattle.bm_lex.specs.Prefixes.{LiesIn, with_prefix}
use Rattle.bm_lex.proofs.lexer.tokens.Given as goal

abbrev pub invariant-loop-place : goal.invariant-loop-place
invariant-loop-place l = record {
  told : with_prefix l.tokens.items (tokens_from l.place 0 (drop l.place l.text)) ≡ tokens_of l.text;
  within : l.place ≤ length l.text;
  placed : AllByRecursion (LiesIn (length l.text)) l.tokens.items;
}

abbrev pub decreases-loop-place : goal.decreases-loop-place
decreases-loop-place l = length l.text - l.place
