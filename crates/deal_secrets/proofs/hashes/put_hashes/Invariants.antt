use Rattle.std.proofs.Common.{◌≡◌, ◌++◌, map, drop}
use Rattle.spec_deal.specs.HashesText.{hashes_text}
use Rattle.deal_secrets.specs.Seen.{shown_in}
use Rattle.deal_secrets.proofs.hashes.put_hashes.Given as goal

abbrev pub invariant-loop-entry : goal.invariant-loop-entry
invariant-loop-entry g l =
    let hash = g.H.Hash32.digest_of l.hasher in
    l.out.items ++ hashes_text hash (map shown_in (drop l.entry-index l.entries))
    ≡ l.initial.out.items ++ hashes_text hash (map shown_in l.entries)
