-- No two labels have one text.
use Rattle.std.proofs.Common.{◌≡◌, ℕ, List, ◌∷◌, ◌++◌, refl, sym, ap, ◌∙◌}
use Rattle.std.specs.Fmt.{decimal}
use Rattle.spec_terms.specs.declared.path.PathStep.{PathStep}
use Rattle.spec_bitcoin.specs.declared.label.Label.{Label}
use Rattle.spec_bitcoin.specs.declared.label.Label.TheVariants as labels
use Rattle.spec_bitcoin.specs.Keys.{path_text, label_text, IsLabel}
use Rattle.spec_bitcoin.proofs.StepLemmas.{tails, two_decimals, two_paths, branch_is, deposit_is, kinds_apart, behind_both}

-- what stands behind `B:`
abbrev branch_rest : ℕ → List PathStep → List ℕ → List ℕ
branch_rest contract path party = decimal contract ++ (58 ∷ (path_text path ++ 58 ∷ party))

one_branch : (c d : ℕ) (path other : List PathStep) (p q : List ℕ) → IsLabel (labels.Branch c path p) → IsLabel (labels.Branch d other q)
    → branch_rest c path p ≡ branch_rest d other q → labels.Branch c path p ≡ labels.Branch d other q
one_branch c d path other p q h k e =
    let a = path_text path ++ 58 ∷ p in
    let b = path_text other ++ 58 ∷ q in
    let one = two_decimals c d (58 ∷ a) (58 ∷ b) h.0 k.0 refl refl e in
    let two = two_paths path other p q h.1 k.1 (tails 114 114 _ _ (tails 58 58 a b one.1)) in
    (λ i. labels.Branch (one.0 i) (two.0 i) (two.1 i))

pub one_label : (a b : Label) → IsLabel a → IsLabel b → label_text a ≡ label_text b → a ≡ b
one_label (labels.Deposit p) (labels.Deposit q) h k e = ap labels.Deposit (behind_both 68 p q (sym (deposit_is p) ∙ e ∙ deposit_is q))
one_label (labels.Deposit p) (labels.Branch c path q) h k e = absurd (kinds_apart p (branch_rest c path q) (sym (deposit_is p) ∙ e ∙ branch_is c path q))
one_label (labels.Branch c path p) (labels.Deposit q) h k e = absurd (kinds_apart q (branch_rest c path p) (sym (deposit_is q) ∙ sym e ∙ branch_is c path p))
one_label (labels.Branch c path p) (labels.Branch d other q) h k e =
    one_branch c d path other p q h k (behind_both 66 (branch_rest c path p) (branch_rest d other q) (sym (branch_is c path p) ∙ e ∙ branch_is d other q))
