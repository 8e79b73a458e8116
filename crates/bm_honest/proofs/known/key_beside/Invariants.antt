use Rattle.std.proofs.Common.{◌≡◌, drop}
use Rattle.bm_honest.specs.Beside.{key_beside}
use Rattle.bm_honest.proofs.known.key_beside.Given as goal

-- the key that the rest has is the key that all have
abbrev pub invariant-loop-person : goal.invariant-loop-person
invariant-loop-person l = key_beside l.party (drop l.person-index l.people) l.rest ≡ key_beside l.party l.people l.keys
