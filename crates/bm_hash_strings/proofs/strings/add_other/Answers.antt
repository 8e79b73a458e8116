use Rattle.std.proofs.Common.{rules, ◌≡◌}
use Rattle.bm_hash_strings.proofs.Placing.{cut_back, placed_other, placed_still-others}
use Rattle.bm_hash_strings.proofs.strings.add_other.Goals as goal

pub returns-clause-placed : goal.returns-clause-placed
returns-clause-placed c =
    placed_other _ c.args.places.now c.requires.placed c.args.string.now _ c.insert.new.self _ c.len-place.result
    c.requires.new c.requires.taken c.in_ok-key.ensures.items (search rules) (search rules) (search rules)

pub returns-then-is_err-clause-placed : goal.returns-then-is_err-clause-placed
returns-then-is_err-clause-placed c =
    let same : c.truncate.new.self ≡ c.args.strings.now = cut_back _ c.args.string.now _ _ _ c.len-place.ensures c.in_ok-push.ensures.ok c.truncate.ensures in
    rw same (placed_still-others _ c.args.places.now c.insert.new.self c.requires.placed (search rules))
