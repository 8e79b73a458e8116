use Rattle.std.proofs.Common.{◌≡◌, ◌++◌, ℕ, List, ap, subst, ◌∙◌, append_assoc}
use Rattle.std.specs.Prelude.{codes, OnOk}
use Rattle.spec_text.specs.Canonical.{joined}
use Rattle.draw_rows.proofs.outlooks.put_waits.Goals as goal

pub returns : goal.returns
returns c =
    let names = joined (codes ", ") c.args.names.now in
    subst (λ (text : List ℕ). OnOk c.put_joined.result (c.put_joined.new.out.items ≡ text))
    (ap (λ (text : List ℕ). text ++ names) c.in_ok-put.ensures ∙ append_assoc c.args.out.now.items (codes "; waits for ") names)
    c.put_joined.ensures
