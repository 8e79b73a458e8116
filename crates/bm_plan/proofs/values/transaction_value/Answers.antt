use Rattle.std.proofs.Common.{◌≡◌, ℕ, List, map, ap, ◌∙◌}
use Rattle.serde_json.specs.View.{view}
use Rattle.spec_data.specs.Digits.{hex_text}
use Rattle.spec_tool.specs.WeighText.{quoted, bracketed}
use Rattle.bm_plan.specs.Seen.{seen, plain}
use Rattle.bm_plan.proofs.Json.Values.{seen_of, transaction_text}
use Rattle.bm_plan.proofs.values.transaction_value.Goals as goal

pub returns : goal.returns
returns c text named =
    let digests : seen (view c.in_ok-digests.digests) ≡ plain (bracketed (map (λ d. quoted (hex_text d)) c.args.prepared.now.digests)) =
    c.in_ok-digests.ensures ∙ ap (λ (ds : List (List ℕ)). plain (bracketed (map (λ d. quoted (hex_text d)) ds))) c.as_slice.ensures in
    seen_of c.told_value.result _ _ c.told_value.ensures
    (transaction_text (view c.in_ok-digests.digests) (view c.in_ok-hex.hex) (view c.args.name) (view c.in_ok-total.total)
    (view c.in_ok-txid.txid) (view c.in_ok-weight.weight) c.args.prepared.now.tx.lock _ _ _ _ _ _
    digests c.in_ok-hex.ensures named c.in_ok-total.ensures c.in_ok-txid.ensures c.in_ok-weight.ensures)
