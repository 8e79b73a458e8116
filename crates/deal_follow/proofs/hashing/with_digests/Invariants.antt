use Rattle.std.proofs.Common.{◌≡◌, ◌++◌, map, drop}
use Rattle.std.specs.List.{flat_map}
use Rattle.std.specs.Prelude.{filter}
use Rattle.spec_deal.specs.SecretFile.{has_length}
use Rattle.deal_follow.specs.Seen.{item_in, hashed_items, witness_in, likely_items}
use Rattle.deal_follow.proofs.hashing.with_digests.Given as goal

abbrev pub invariant-loop-input : goal.invariant-loop-input
invariant-loop-input g l =
    let hash = g.H.Hash32.digest_of l.hasher in
    map item_in l.all.items ++ hashed_items hash (filter has_length (flat_map witness_in (drop l.input-index l.tx.inputs)))
    ≡ hashed_items hash (likely_items l.tx)
