use Rattle.std.proofs.Common.{◌≡◌, ◌++◌, drop, map}
use Rattle.bm_world_fire.specs.Filled.{signed_by}
use Rattle.bm_world_fire.proofs.witnesses.signatures.Given as goal

abbrev pub invariant-loop-party : goal.invariant-loop-party
invariant-loop-party g l =
    let signed = signed_by (g.H.Hash32.digest_of l.hasher) l.contract l.path l.digest in
    l.all.items ++ map signed (drop l.party-index l.parties) ≡ map signed l.parties
