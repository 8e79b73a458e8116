use Rattle.std.proofs.Common.{ℕ, List, length, ap, ◌∙◌, rules}
use Rattle.std.specs.Prelude.{take_while}
use Rattle.spec_data.specs.Digits.{is_digit}
use Rattle.std.proofs.lemmas.List.{take_rest}
use Rattle.bm_lex.proofs.Runs.{number_at-is}
use Rattle.bm_lex.proofs.prefix.number_at.Goals as goal

pub returns-clause-value : goal.returns-clause-value
returns-clause-value c =
    number_at-is c.args.bytes.now _ _ c.requires
    (c.digit_length-more.ensures.value ∙ ap (λ (xs : List ℕ). length (take_while is_digit xs)) (take_rest c.args.bytes.now 1)) (search rules)
