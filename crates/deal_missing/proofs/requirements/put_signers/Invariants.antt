use Rattle.std.proofs.Common.{◌≡◌, ◌++◌, map, drop}
use Rattle.deal_missing.specs.Required.{wanted_in, signer_required}
use Rattle.deal_missing.proofs.requirements.put_signers.Given as goal

abbrev pub invariant-loop-signer : goal.invariant-loop-signer
invariant-loop-signer l =
    map wanted_in l.requirements.items ++ map (signer_required l.transaction l.number l.input) (drop l.signer-index l.input.signers)
    ≡ map wanted_in l.initial.requirements.items ++ map (signer_required l.transaction l.number l.input) l.input.signers
