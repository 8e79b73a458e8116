-- The text of a path is a word of a line.
use Rattle.std.proofs.Common.{ℕ, ◌<◌, ◌^◌, List, refl, arith}
use Rattle.std.specs.Fmt.{decimal}
use Rattle.std.specs.List.{AllByRecursion}
use Rattle.spec_terms.specs.declared.path.PathStep.{PathStep}
use Rattle.spec_bitcoin.specs.Keys.{path_text, IsStep}
use Rattle.theory_text.proofs.Lines.LineBytes.{ends_line, decimal_line}
use Rattle.theory_text.proofs.Lines.PathsBack.{steps_lack}
use Rattle.theory_play_text.proofs.LineWords.{is_blank, IsPlain, plain_word}

number_plain : (n : ℕ) → n < 2 ^ 32 → IsPlain (decimal n)
number_plain n h = plain_word (decimal n) (decimal_line n (omega (arith, h)))

pub path_plain : (q : List PathStep) → AllByRecursion IsStep q → IsPlain (path_text q)
path_plain q h = record {
  spaces = (refl, steps_lack is_blank refl refl (λ n k. (number_plain n k).spaces) q h);
  ends = (refl, steps_lack ends_line refl refl (λ n k. (number_plain n k).ends) q h);
}
