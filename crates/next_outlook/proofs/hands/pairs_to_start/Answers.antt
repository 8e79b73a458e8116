use Rattle.std.proofs.Common.{sym, ap, ◌∙◌}
use Rattle.spec_compiler.specs.Instance.{deposit_key}
use Rattle.bm_hash.specs.Messages.{Noted}
use Rattle.bm_world.specs.Playing.{setup_in}
use Rattle.next_outlook.proofs.Endorsing.{initials_are}
use Rattle.next_outlook.proofs.hands.pairs_to_start.Goals as goal

pub returns : goal.returns
returns g c =
    let digest = g.H.Hash32.digest_of in
    let s = setup_in digest c.args.world.now in
    let w = c.args.world.now.world in
    let hasher = c.hasher.ensures ∙ ap (λ (t : Noted _). t.hasher) c.trail.ensures in
    let key = c.in_ok-key.ensures ∙ ap (λ h. deposit_key (digest h) c.args.party.now) hasher in
    c.in_ok-pairs.ensures
    ∙ rw (key, c.deref.ensures.value, c.in_ok-owners.ensures, c.as_slice-digests.ensures, c.init.ensures)
    (initials_are s w c.args.contract c.args.checked.now c.args.compiled.now c.args.party.now c.requires.checked c.requires.compiled)
