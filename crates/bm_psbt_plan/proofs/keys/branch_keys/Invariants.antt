use Rattle.std.proofs.Common.{◌≡◌, map, take}
use Rattle.spec_bitcoin.specs.Keys.{key_of}
use Rattle.spec_compiler.specs.Instance.{branch_label}
use Rattle.bm_psbt_plan.proofs.keys.branch_keys.Given as goal

abbrev pub invariant-loop-party : goal.invariant-loop-party
invariant-loop-party g l =
    l.keys.items ≡ map (key_of (g.H.Hash32.digest_of l.hasher)) (map (branch_label l.contract l.path) (take l.party-index l.people))
