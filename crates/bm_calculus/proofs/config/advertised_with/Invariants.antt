use Rattle.std.proofs.Common.{◌≡◌, drop}
use Rattle.bm_calculus.specs.Answers.{advertised_with}
use Rattle.bm_calculus.proofs.config.advertised_with.Given as goal

abbrev pub invariant-loop-entry : goal.invariant-loop-entry
invariant-loop-entry l = advertised_with (drop l.entry-index l.advertised) l.contract ≡ advertised_with l.advertised l.contract
