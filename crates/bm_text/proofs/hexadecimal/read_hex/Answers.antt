use Rattle.std.proofs.Common.{ap, refl, sym, ◌∙◌, ⊎_elim}
use Rattle.bm_text.proofs.HexadecimalLemmas.{some_of, read_hex-decode, bad_is}
use Rattle.bm_text.proofs.hexadecimal.read_hex.Goals as goal

pub returns-in-Ok-clause-ok : goal.returns-in-Ok-clause-ok
returns-in-Ok-clause-ok c = read_hex-decode c.args.word.now (sym c.if-is_empty.ensures) ∙ ap some_of c.in-Ok.ensures.ok

pub returns-in-Err-clause-bad : goal.returns-in-Err-clause-bad
returns-in-Err-clause-bad c bad =
    ⊎_elim
    (λ memory. absurd (c.error_of.ensures (bad_is _ c.error_of.result refl bad) memory))
    (λ wrong. read_hex-decode c.args.word.now (sym c.if-is_empty.ensures) ∙ ap some_of wrong)
    c.in-Err.ensures.err
