use Rattle.std.proofs.Common.{◌≡◌, drop}
use Rattle.spec_data.specs.Lists.{is_among}
use Rattle.draw_rows.proofs.fold_words.is_word_among.Given as goal

abbrev pub invariant-loop-known : goal.invariant-loop-known
invariant-loop-known l =
    is_among l.word (drop l.known-index l.words) ≡ is_among l.word l.words
