use Rattle.std.proofs.Common.{◌++◌, List, ℕ, [], ◌∷◌, ap, ◌∙◌, append_assoc, replicate}
use Rattle.std.proofs.lemmas.Result.{on_ok_weaker}
use Rattle.bm_branch.proofs.Emitted.{selectors_last}
use Rattle.bm_branch.proofs.witnesses.put_selectors.Goals as goal

pub returns-then-branch-branches : goal.returns-then-branch-branches
returns-then-branch-branches c =
    let empty : List (List ℕ) = replicate c.args.branch [] in
    rw (selectors_last c.args.branch c.args.branches c.if-branch-branches.true)
    (on_ok_weaker c.put_empty.result
    (λ e. e ∙ ap (λ (xs : List (List ℕ)). xs ++ empty) c.in_ok-put_item.ensures
    ∙ append_assoc c.args.stack.now.items ((1 ∷ []) ∷ []) empty)
    c.put_empty.ensures)
