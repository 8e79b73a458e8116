use Rattle.std.proofs.Common.{◌≡◌, drop}
use Rattle.spec_compiler.specs.Scripts.{digest_of}
use Rattle.deal_secrets.proofs.required.is_hash_of.Given as goal

abbrev pub invariant-loop-known : goal.invariant-loop-known
invariant-loop-known l = digest_of (drop l.known-index l.hashes) l.name ≡ digest_of l.hashes l.name
