use Rattle.std.proofs.Common.{◌≡◌, ◌++◌, drop}
use Rattle.bm_translate.specs.Lengths.{lengths_by}
use Rattle.bm_translate.proofs.lengths.lengths_of.Given as goal

-- the lengths so far, and those of the rest, are all
abbrev pub invariant-loop-name : goal.invariant-loop-name
invariant-loop-name g l =
    let lengths = lengths_by (g.H.Hash32.digest_of l.trail.hasher) l.header l.trail.messages l.exchange.posted l.party in
    l.lengths ++ lengths (drop l.name-index l.digests) ≡ lengths l.digests
