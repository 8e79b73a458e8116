use Rattle.std.proofs.Common.{◌≡◌, map, take}
use Rattle.bm_hash.specs.Trails.{Hashed}
use Rattle.spec_compiler.specs.Keyed.Transactions.{party_script}
use Rattle.deal_compile.specs.Keyed.{keys_of}
use Rattle.deal_compile.proofs.depositing.hash_scripts.Given as goal

abbrev pub invariant-loop-party : goal.invariant-loop-party
invariant-loop-party g l =
    let hash = g.H.Hash32.digest_of l.fn.trail.hasher in
    record {
      hasher : l.trail.hasher ≡ l.fn.trail.hasher;
      trail : Hashed hash l.fn.trail.messages l.trail.messages (map (party_script hash (keys_of l.keys)) (take l.party-index l.parties));
    }
