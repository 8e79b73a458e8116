use Rattle.std.proofs.Common.{◌≡◌, ◌++◌, List, ℕ, ap, ◌∙◌, append_assoc}
use Rattle.std.specs.Prelude.{codes}
use Rattle.std.proofs.lemmas.Result.{on_ok_weaker}
use Rattle.spec_bitcoin.specs.Keys.{path_text}
use Rattle.deal_finish.proofs.refusals.put_endorsement.Goals as goal

pub returns : goal.returns
returns c =
    let old = c.args.out.now.items in
    let prefix = codes "endorsement " in
    let space = codes " " in
    let path = path_text c.args.path.now in
    let party : List ℕ = c.args.party.now in
    let two : c.put_path.new.out.items ≡ (old ++ prefix) ++ path =
    c.in_ok-put_path.ensures ∙ (λ j. c.in_ok-put.ensures j ++ path_text (c.steps.ensures j)) in
    let three : c.put-2.new.out.items ≡ ((old ++ prefix) ++ path) ++ space =
    c.in_ok-put-2.ensures ∙ ap (λ (text : List ℕ). text ++ space) two in
    on_ok_weaker c.put-3.result
    (λ e. e ∙ (λ j. three j ++ c.bytes.ensures.bytes j) ∙ append_assoc ((old ++ prefix) ++ path) space party
    ∙ append_assoc (old ++ prefix) path (space ++ party) ∙ append_assoc old prefix (path ++ (space ++ party)))
    c.put-3.ensures
