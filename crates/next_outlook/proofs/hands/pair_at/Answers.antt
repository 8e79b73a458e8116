use Rattle.std.proofs.Common.{sym, ap, ◌∙◌, [], ◌∷◌}
use Rattle.std.specs.Prelude.{option_map}
use Rattle.spec_bitcoin.specs.Keys.{key_of}
use Rattle.spec_compiler.specs.Instance.{branch_label}
use Rattle.spec_run.specs.Compiled.{compiled_instance}
use Rattle.spec_run.specs.Signing.{branch_pair, first_digest}
use Rattle.bm_hash.specs.Messages.{Noted}
use Rattle.bm_world.specs.Playing.{setup_in}
use Rattle.bm_world_sign.proofs.Signed.{first_there}
use Rattle.next_outlook.proofs.hands.pair_at.Goals as goal

pub returns-in_default : goal.returns-in_default
returns-in_default g c =
    let s = setup_in g.H.Hash32.digest_of c.args.world.now in
    ap (branch_pair s c.args.party.now c.args.contract c.args.path.now)
    (ap (option_map (λ x. x.now)) (sym c.in_default.is) ∙ c.transaction_at.ensures)

pub returns : goal.returns
returns g c =
    let digest = g.H.Hash32.digest_of in
    let s = setup_in digest c.args.world.now in
    let o = compiled_instance s c.args.world.now.world c.args.contract in
    let made = ap (option_map (λ x. x.now)) (sym c.in-Some.is) ∙ c.transaction_at.ensures in
    let hasher = c.hasher.ensures ∙ ap (λ (t : Noted _). t.hasher) c.trail.ensures in
    (rw c.as_slice.ensures at c.first_pair.ensures)
    ∙ first_there s o c.args.path.now c.in-Some.made.now c.in_ok-key.key made
    ∙ ap (λ key. (key, first_digest c.in-Some.made.now) ∷ [])
    (c.in_ok-key.ensures ∙ ap (λ h. key_of (digest h) (branch_label c.args.contract c.args.path.now c.args.party.now)) hasher)
    ∙ ap (branch_pair s c.args.party.now c.args.contract c.args.path.now) made
