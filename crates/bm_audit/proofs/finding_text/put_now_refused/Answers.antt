use Rattle.std.proofs.Common.{◌≡◌, ◌++◌, codes, OnOk, ℕ, List, ap, subst, ◌∙◌, append_assoc}
use Rattle.spec_text.specs.OutcomeText.{refusal_text}
use Rattle.bm_audit.proofs.finding_text.put_now_refused.Goals as goal

pub returns : goal.returns
returns c =
    subst (λ (xs : List ℕ). OnOk c.put_refusal.result (c.put_refusal.new.out.items ≡ xs))
    (ap (λ (xs : List ℕ). xs ++ refusal_text c.args.refusal) c.in_ok-put.ensures
    ∙ append_assoc c.args.out.now.items (codes "now refused ") (refusal_text c.args.refusal))
    c.put_refusal.ensures
