use Rattle.std.proofs.Common.{◌≡◌, ◌++◌, length}
use Rattle.std.specs.Option.{option_map}
use Rattle.spec_bitcoin.specs.Scripts.{ops_of, script_ops}
use Rattle.bm_ops.proofs.reading.decode_script.Given as goal

abbrev pub invariant-loop-rest : goal.invariant-loop-rest
invariant-loop-rest l = option_map (λ more. l.ops.items ++ more) (ops_of (length l.rest) l.rest) ≡ script_ops l.fn.bytes

abbrev pub decreases-loop-rest : goal.decreases-loop-rest
decreases-loop-rest l = length l.rest
