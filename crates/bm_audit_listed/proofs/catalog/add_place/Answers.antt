use Rattle.std.proofs.Common.{◌≡◌, ℕ, List, ap, subst, ◌∙◌}
use Rattle.bm_audit_listed.specs.Indexed.{found_at, Leaves, Adds}
use Rattle.bm_audit_listed.proofs.Placing.{adds_by}
use Rattle.bm_audit_listed.proofs.catalog.add_place.Goals as goal

pub returns : goal.returns
returns c =
    let old = c.args.index.now in
    let key = c.in_ok-key.key.items in
    let here = c.deref.ensures.value in
    let taken : c.taken-places.result ≡ found_at old key = c.taken-places.ensures.places ∙ ap (found_at old) here in
    let left : Leaves old c.taken-places.new.index key = subst (Leaves old c.taken-places.new.index) here c.taken-places.ensures.left in
    subst (λ (bytes : List ℕ). Adds old c.insert.new.self bytes c.args.place) c.in_ok-key.ensures
    (adds_by old c.taken-places.new.index c.insert.new.self key c.taken-places.result c.push.new.self c.args.place
    taken left c.in_ok-push.ensures.ok c.in_ok-insert.ensures.updates)
