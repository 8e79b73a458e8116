use Rattle.std.proofs.Common.{◌≡◌, ap, ◌∙◌}
use Rattle.std.specs.Prelude.{insert}
use Rattle.spec_bitcoin.specs.Keys.{signature_of}
use Rattle.bm_psbt_plan.specs.Parts.{place_of}
use Rattle.bm_psbt_plan.proofs.Placed.{insert_at}
use Rattle.bm_psbt_plan.proofs.signing.put_signature.Goals as goal

pub returns : goal.returns
returns c =
    let key = c.args.key.now in
    let old = c.args.signatures.now.items in
    let place : c.place_of-place.result ≡ place_of key old = c.place_of-place.ensures.place ∙ ap (place_of key) c.deref.ensures.value in
    let signed : c.in_ok-signed.signed ≡ signature_of key c.args.digest.now = c.in_ok-signed.ensures ∙ c.signature.ensures in
    c.in_ok-insert.ensures.items
    ∙ ((λ i. insert old (place i) (key, signed i)) ∙ insert_at (key, signature_of key c.args.digest.now) old)
