use Rattle.std.proofs.Common.{◌≡◌, ◌++◌, drop, true}
use Rattle.std.specs.List.{list_all}
use Rattle.spec_data.specs.Lists.{is_among}
use Rattle.spec_terms.specs.Precondition.{names_of, volatile}
use Rattle.bm_honest.specs.Pairs.{owner_pairs}
use Rattle.bm_honest.proofs.endorsing.put_owners.Given as goal

-- the pairs so far and those of the rest are all
abbrev pub invariant-loop-put : goal.invariant-loop-put
invariant-loop-put g l = record {
  known : list_all (λ name. is_among name (names_of (volatile l.pre))) (drop l.put-index l.puts) ≡ true;
  pairs : l.pairs.items ++ owner_pairs (g.H.Hash32.digest_of l.hash) l.pre l.party (drop l.put-index l.puts) l.rest
      ≡ l.initial.pairs.items ++ owner_pairs (g.H.Hash32.digest_of l.hash) l.pre l.party l.puts l.digests;
}
