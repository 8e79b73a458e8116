use Rattle.std.proofs.Common.{◌++◌, option_map, ap, subst, ◌∙◌}
use Rattle.spec_deal.specs.SignatureFile.{Taken, take_signatures}
use Rattle.spec_deal.specs.Verifier.{secp256k1}
use Rattle.deal_signatures.specs.Gives.{Takes, one_or_none}
use Rattle.deal_signatures.proofs.InputLemmas.{fitting}
use Rattle.deal_signatures.proofs.inputs.take_key_input.Goals as goal

pub returns : goal.returns
returns c =
    let required = c.args.required.now in
    let final = one_or_none (option_map (λ p. (p.0, p.1.now)) c.in-Some.last) in
    subst (λ (t : Taken). Takes c.args.given.now c.take_fitting.new.given c.take_fitting.result t)
    (ap (λ pairs. take_signatures secp256k1 required c.args.tx.now c.args.number c.args.given.now (pairs ++ final)) c.as_slice.ensures
    ∙ fitting secp256k1 required c.args.tx.now c.args.number c.args.given.now c.args.input.now c.args.said.now c.as_slice-script.result.now
    c.spent_fits.result c.script_fits.result final c.as_slice-script.ensures c.spent_fits.ensures c.if-not-spent_fits.false
    c.script_fits.ensures c.if-not-script_fits.false c.in-Some.ensures.0 c.in-Some.ensures.1)
    c.take_fitting.ensures
