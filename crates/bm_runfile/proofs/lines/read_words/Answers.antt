use Rattle.std.proofs.Common.{◌≡◌, ◌+◌, true, false, get_or, refl, sym, ◌∙◌, arith}
use Rattle.std.proofs.lemmas.List.{take_rest}
use Rattle.std.proofs.lemmas.Result.{on_ok_weaker}
use Rattle.spec_text.specs.Lines.{is_space}
use Rattle.bm_runfile.proofs.LineLemmas.{words_more, words_end, unspaced_more}
use Rattle.bm_runfile.proofs.lines.read_words.Goals as goal
use Rattle.bm_runfile.proofs.lines.read_words.Goals.{then-is_space+in_ok-push_word, else-is_space}

pub loop-i-preserved : goal.loop-i-preserved
loop-i-preserved c = elim c.if-is_space.branch [
  | then-is_space+in_ok-push_word w ↦
      let space : is_space (get_or c.args.line.now c.loop-i.i 0) ≡ true = sym c.is_space.ensures ∙ w.if-is_space.true in
      let start : c.if-is_space.start ≡ c.loop-i.i + 1 = cc in
      let told =
      words_more c.args.line.now _ c.loop-i.start c.loop-i.i _ _ _ c.loop-i.invariant.begun c.loop-i-test.true space c.loop-i.invariant.filled refl w.in_ok-push_word.ensures c.loop-i.invariant.told in
      record {
        told = cc;
        begun = omega arith;
        filled = λ k less from. absurd (omega arith);
      }
  | else-is_space w ↦
      let other : is_space (get_or c.args.line.now c.loop-i.i 0) ≡ false = sym c.is_space.ensures ∙ w.if-is_space.false in
      let start : c.if-is_space.start ≡ c.loop-i.start = cc in
      record {
        told = cc;
        begun = omega arith;
        filled = unspaced_more c.args.line.now c.loop-i.start c.if-is_space.start c.loop-i.i start c.loop-i.invariant.filled other;
      }
]

pub returns : goal.returns
returns c =
    on_ok_weaker c.push_word-2.result
    (λ e. words_end c.args.line.now _ c.loop-i.start _ _ _ (λ k less from. c.loop-i.invariant.filled k (omega arith) from)
    (take_rest c.args.line.now c.loop-i.start) e c.loop-i.invariant.told)
    c.push_word-2.ensures
