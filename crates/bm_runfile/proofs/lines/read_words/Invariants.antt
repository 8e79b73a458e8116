use Rattle.std.proofs.Common.{◌≡◌, ℕ, ◌<◌, ◌≤◌, ◌++◌, false, get_or, drop, map}
use Rattle.spec_text.specs.Lines.{words_of, is_space}
use Rattle.bm_runfile.proofs.lines.read_words.Given as goal

abbrev pub invariant-loop-i : goal.invariant-loop-i
invariant-loop-i l = record {
  told : map (λ w. w.now) l.words.items ++ words_of (drop l.start l.line) ≡ words_of l.line;
  begun : l.start ≤ l.i;
  filled : (k : ℕ) → k < l.i → l.start ≤ k → is_space (get_or l.line k 0) ≡ false;
}
