use Rattle.std.proofs.Common.{refl, ◌∙◌}
use Rattle.spec_bitcoin.specs.Spelling.{spelling}
use Rattle.spec_deal.specs.Finished.{finished, finish_refusal}
use Rattle.spec_deal.specs.Setting.{deal_keys, deal_instance}
use Rattle.bitml_deal.proofs.FinishLemmas.{unfinished_is}
use Rattle.bitml_deal.proofs.finish.finish_by.Goals as goal

pub returns-in-Err : goal.returns-in-Err
returns-in-Err c = λ hash l made one.
    let keys = deal_keys c.args.compiled.now.deal in
    let s = deal_instance c.args.compiled.now.contract c.args.compiled.now.deal in
    unfinished_is c.in-Err.error (finish_refusal hash keys s c.args.given.now c.args.strings.now l)
    (spelling (finished hash keys s c.args.given.now c.args.strings.now l)) c.not_finished.result
    (c.in-Err.ensures hash keys s l refl (c.as_slice.ensures ∙ made.transactions) one.made one.there) c.not_finished.ensures
