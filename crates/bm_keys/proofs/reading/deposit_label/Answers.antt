use Rattle.std.proofs.Common.{◌≡◌, true, false}
use Rattle.bm_keys.proofs.LabelLemmas.{no_deposit}
use Rattle.bm_keys.proofs.reading.deposit_label.Goals as goal

pub returns-in-None-clause-bad : goal.returns-in-None-clause-bad
returns-in-None-clause-bad c = λ _. no_deposit c.args.text.now (λ h. let e : false ≡ true = c.in-None.ensures.some.1 h in cc)
