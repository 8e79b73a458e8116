use Rattle.std.proofs.Common.{◌≡◌, ◌++◌, ◌∷◌, [], Some, None, sym, ap, ◌∙◌}
use Rattle.std.specs.Prelude.{option_map, slice_get}
use Rattle.bm_world_fire.specs.Filled.{deposit_items}
use Rattle.bm_world_fire.proofs.Owners.{owner_step, owners_end}
use Rattle.bm_world_fire.proofs.deposits.put_witnesses.Goals as goal

pub returns-in_default : goal.returns-in_default
returns-in_default g c =
    let hash = g.H.Hash32.digest_of c.args.hasher.now in
    let none : slice_get c.args.digests.now c.loop-k.k ≡ None = sym c.digest_at.ensures ∙ ap (option_map (λ d. d.now)) c.in_default.is in
    owners_end hash c.args.owners.now c.args.digests.now c.loop-k.k c.loop-k.all _ none c.loop-k.invariant

pub loop-k-preserved : goal.loop-k-preserved
loop-k-preserved g c =
    let hash = g.H.Hash32.digest_of c.args.hasher.now in
    let owner = c.index-owners-k.result in
    let d = c.in-Some.digest.now in
    let there : slice_get c.args.digests.now c.loop-k.k ≡ Some d = sym c.digest_at.ensures ∙ ap (option_map (λ r. r.now)) c.in-Some.is in
    let made = c.in_ok-deposit_witness.ensures ∙ ap (λ o. deposit_items hash o d) c.as_slice.ensures in
    owner_step hash c.args.owners.now c.args.digests.now c.loop-k.k owner d c.loop-k.all _ _ c.loop-k-test.true c.index-owners-k.is there
    (c.in_ok-push.ensures.ok ∙ ap (λ i. c.loop-k.all ++ i ∷ []) made) c.loop-k.invariant
