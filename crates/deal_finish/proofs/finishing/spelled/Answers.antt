use Rattle.std.proofs.Common.{◌≡◌, subst, ◌∙◌}
use Rattle.std.specs.Prelude.{IfOk}
use Rattle.spec_bitcoin.specs.Spelling.{spelling}
use Rattle.deal_finish.proofs.Witnessed.{finished_is}
use Rattle.deal_finish.proofs.finishing.spelled.Goals as goal

pub returns : goal.returns
returns c = λ hash keys s l same is there.
    subst (λ tx. IfOk c.encode.result (λ bytes. bytes.items ≡ spelling tx))
    (c.in_ok-filled.ensures
    ∙ finished_is hash keys s c.args.given.now c.args.strings.now c.args.checked.now l c.args.transaction.now same is there)
    c.encode.ensures
