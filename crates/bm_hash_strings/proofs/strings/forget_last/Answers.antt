use Rattle.std.proofs.Common.{ap, ◌∙◌}
use Rattle.bm_hash_strings.specs.Placed.{place_by_fingerprint}
use Rattle.bm_hash_strings.proofs.Forgetting.{told, forgotten_fingerprint, forgotten_nothing, forgotten_other}
use Rattle.bm_hash_strings.proofs.strings.forget_last.Goals as goal

pub returns-then-is_here : goal.returns-then-is_here
returns-then-is_here c = λ prefix here is.
    forgotten_fingerprint prefix c.args.string.now
    c.args.places.now is c.remove.new.self c.fingerprint_of-fingerprint.result c.fingerprint_of-fingerprint.ensures
    (told _ _ _ _ _ _ c.get.ensures.value here c.is_here.ensures c.if-is_here.true) c.remove.ensures.updates

pub returns-then-is_here-2 : goal.returns-then-is_here-2
returns-then-is_here-2 c = λ prefix here is.
    let fingerprint = ap (place_by_fingerprint c.args.places.now.by_fingerprint) c.fingerprint_of-fingerprint.ensures in
    forgotten_other prefix c.args.string.now c.args.places.now is
    (told _ _ _ _ _ _ (c.get.ensures.value ∙ fingerprint) here c.is_here.ensures c.if-is_here.false)
    c.remove-then-is_here-2.new.self
    (told _ _ _ _ _ _ c.get-else-is_here.ensures.value here c.is_here-else-is_here.ensures c.if-is_here-2.true)
    c.remove-then-is_here-2.ensures.updates

pub returns-else-is_here-2 : goal.returns-else-is_here-2
returns-else-is_here-2 c = λ prefix here is.
    let fingerprint = ap (place_by_fingerprint c.args.places.now.by_fingerprint) c.fingerprint_of-fingerprint.ensures in
    forgotten_nothing prefix c.args.string.now c.args.places.now is
    (told _ _ _ _ _ _ (c.get.ensures.value ∙ fingerprint) here c.is_here.ensures c.if-is_here.false)
    (told _ _ _ _ _ _ c.get-else-is_here.ensures.value here c.is_here-else-is_here.ensures c.if-is_here-2.false)
