use Rattle.std.proofs.Common.{◌≡◌, drop}
use Rattle.spec_data.specs.Lists.{look_up}
use Rattle.bm_translate.proofs.watching.digest_in.Given as goal

-- what the rest has for the name is what all have
abbrev pub invariant-loop-known : goal.invariant-loop-known
invariant-loop-known l = look_up l.name (drop l.known-index l.digests) ≡ look_up l.name l.digests
