use Rattle.std.proofs.Common.{◌≡◌, ◌++◌, map, drop}
use Rattle.serde_json.specs.View.{view}
use Rattle.deal_show.specs.Showing.{signer_by}
use Rattle.deal_show.proofs.inputs.signer_values.Given as goal

abbrev pub invariant-loop-signer : goal.invariant-loop-signer
invariant-loop-signer l =
    map view l.values.items ++ map (signer_by l.wallet) (drop l.signer-index l.signers) ≡ map (signer_by l.wallet) l.signers
