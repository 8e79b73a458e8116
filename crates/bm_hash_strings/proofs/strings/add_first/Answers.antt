use Rattle.std.proofs.Common.{◌≡◌}
use Rattle.bm_hash_strings.proofs.Placing.{cut_back, placed_still-by_fingerprint, placed_first, placed_kept, first_new}
use Rattle.bm_hash_strings.proofs.strings.add_first.Goals as goal

pub returns-in_default-clause-placed : goal.returns-in_default-clause-placed
returns-in_default-clause-placed c =
    let same : c.truncate.new.self ≡ c.args.strings.now = cut_back _ c.args.string.now _ _ _ c.len-place.ensures c.in_ok-push.ensures.ok c.truncate.ensures in
    rw same (placed_still-by_fingerprint _ c.args.places.now c.add_fingerprint.new.by_fingerprint c.requires.placed c.in_default.ensures.err)

pub returns-then-first-place-clause-placed : goal.returns-then-first-place-clause-placed
returns-then-first-place-clause-placed c =
    placed_first _ c.args.places.now c.requires.placed
    c.args.string.now _ c.add_fingerprint.new.by_fingerprint c.fingerprint_of.result c.in-Ok.first c.len-place.result
    c.fingerprint_of.ensures c.in-Ok.ensures.first c.in-Ok.ensures.put c.len-place.ensures c.in_ok-push.ensures.ok c.if-first-place.true

pub returns-clause-placed : goal.returns-clause-placed
returns-clause-placed c =
    let same : c.truncate-2.new.self ≡ c.args.strings.now =
    cut_back _ c.args.string.now _ _ _ c.len-place.ensures c.in_ok-push.ensures.ok c.truncate-2.ensures in
    rw same (placed_kept _ c.args.places.now c.requires.placed c.add_fingerprint.new.by_fingerprint c.fingerprint_of.result c.in-Ok.first c.len-place.result
    c.in-Ok.ensures.first c.in-Ok.ensures.put c.if-first-place.false)

pub returns-then-first-place-clause-new : goal.returns-then-first-place-clause-new
returns-then-first-place-clause-new c = λ _.
    first_new _ c.args.places.now c.requires.placed
    c.args.string.now c.add_fingerprint.new.by_fingerprint c.fingerprint_of.result c.in-Ok.first c.len-place.result
    c.fingerprint_of.ensures c.in-Ok.ensures.first c.in-Ok.ensures.put c.len-place.ensures c.if-first-place.true
