use Rattle.std.proofs.Common.{◌++◌, List, ℕ, ap, ◌∙◌, append_assoc}
use Rattle.std.specs.Prelude.{codes}
use Rattle.std.proofs.lemmas.Result.{on_ok_weaker}
use Rattle.spec_text.specs.RunText.{newline}
use Rattle.deal_secrets.specs.Refusals.{fault_text}
use Rattle.deal_secrets.proofs.refusals.put_line.Goals as goal

pub returns : goal.returns
returns c =
    let old = c.args.out.now.items in
    let prefix = codes "secrets refused " in
    let fault = fault_text c.args.fault in
    on_ok_weaker c.put-2.result
    (λ e. e
    ∙ ap (λ (text : List ℕ). text ++ newline) (c.in_ok-put_fault.ensures ∙ ap (λ (text : List ℕ). text ++ fault) c.in_ok-put.ensures)
    ∙ append_assoc (old ++ prefix) fault newline ∙ append_assoc old prefix (fault ++ newline))
    c.put-2.ensures
