use Rattle.spec_compiler.specs.Keyed.Keys.{by_plan}
use Rattle.theory_psbt.proofs.Signers as proof
use Rattle.theory_psbt.proofs.signers_for_each.Goals as goal

pub returns : goal.returns
returns c = λ hash. proof.signers_for_each hash by_plan
