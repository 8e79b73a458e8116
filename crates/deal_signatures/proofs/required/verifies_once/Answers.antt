use Rattle.std.proofs.Common.{Some, None, sym, ap, ◌∙◌}
use Rattle.std.specs.Prelude.{map, option_map}
use Rattle.spec_deal.specs.Verifier.{secp256k1}
use Rattle.deal_signatures.specs.Keying.{signed_by}
use Rattle.deal_signatures.specs.Seen.{required_in}
use Rattle.deal_signatures.proofs.OneLemmas.{by_first}
use Rattle.deal_signatures.proofs.required.verifies_once.Goals as goal

pub returns-in-Some : goal.returns-in-Some
returns-in-Some c =
    c.verify.ensures
    ∙ by_first secp256k1 (map required_in c.args.places.now)
    (signed_by c.args.tx.now c.args.input c.args.key.now c.args.signature.now) (Some (required_in c.in-Some.first.now)) c.requires
    (sym (c.in_ok-first.ensures c.args.signature.now) ∙ ap (λ o. option_map required_in (option_map (λ p. p.now) o)) c.in-Some.is)

pub returns-in-None : goal.returns-in-None
returns-in-None c =
    by_first secp256k1 (map required_in c.args.places.now)
    (signed_by c.args.tx.now c.args.input c.args.key.now c.args.signature.now) None c.requires
    (sym (c.in_ok-first.ensures c.args.signature.now) ∙ ap (λ o. option_map required_in (option_map (λ p. p.now) o)) c.in-None.is)
