use Rattle.std.proofs.Common.{◌≡◌, drop, true}
use Rattle.std.specs.List.{list_all}
use Rattle.spec_data.specs.Lists.{is_among}
use Rattle.spec_terms.specs.Precondition.{names_of, volatile}
use Rattle.bm_honest.specs.Unsigned.{unsigned_owner}
use Rattle.bm_honest.proofs.needs.first_owner.Given as goal

-- the first of those who are left is the first of all
abbrev pub invariant-loop-put : goal.invariant-loop-put
invariant-loop-put g l = record {
  known : list_all (λ name. is_among name (names_of (volatile l.pre))) (drop l.put-index l.puts) ≡ true;
  first : unsigned_owner (g.H.Hash32.digest_of l.hash) l.book l.pre (drop l.put-index l.puts) l.rest
      ≡ unsigned_owner (g.H.Hash32.digest_of l.hash) l.book l.pre l.puts l.digests;
}
