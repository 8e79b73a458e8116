use Rattle.std.proofs.Common.{◌++◌, List, ℕ, sym, ap, ◌∙◌, append_assoc}
use Rattle.std.specs.Prelude.{codes}
use Rattle.std.proofs.lemmas.Result.{on_ok_weaker}
use Rattle.spec_text.specs.RunText.{newline}
use Rattle.deal_missing.specs.Required.{wanted_in, required_text, items_text}
use Rattle.deal_missing.proofs.Items.{items_line_is}
use Rattle.deal_missing.proofs.witness_lines.put_listed.Goals as goal

pub returns : goal.returns
returns c =
    let old = c.args.out.now.items in
    let w = wanted_in c.args.requirement.now in
    let start = codes "witness " in
    let items = items_text c.args.items.now in
    on_ok_weaker c.put-2.result
    (λ e. e
    ∙ ap (λ (text : List ℕ). text ++ newline)
    (c.in_ok-put_items.ensures
    ∙ ap (λ (text : List ℕ). text ++ items)
    (c.in_ok-put_requirement.ensures ∙ ap (λ (text : List ℕ). text ++ required_text w) c.in_ok-put.ensures))
    ∙ append_assoc ((old ++ start) ++ required_text w) items newline
    ∙ append_assoc (old ++ start) (required_text w) (items ++ newline)
    ∙ append_assoc old start (required_text w ++ (items ++ newline))
    ∙ ap (λ (text : List ℕ). old ++ text) (sym (items_line_is w c.args.items.now)))
    c.put-2.ensures
