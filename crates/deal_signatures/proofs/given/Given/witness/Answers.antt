use Rattle.std.proofs.Common.{sym, ap, ◌∙◌}
use Rattle.std.specs.Prelude.{option_map}
use Rattle.std.specs.List.{find}
use Rattle.spec_deal.specs.Transactions.{is_at}
use Rattle.spec_deal.specs.declared.signed.Signed.{Signed as Told}
use Rattle.deal_signatures.specs.Keying.{spot_of}
use Rattle.deal_signatures.specs.Seen.{signed_in}
use Rattle.deal_signatures.proofs.PlaceLemmas.{signature_found}
use Rattle.deal_signatures.proofs.given.Given.witness.Goals as goal

pub returns-in-Some : goal.returns-in-Some
returns-in-Some c =
    ap (option_map (λ (g : Told). g.witness))
    (sym (ap (λ o. option_map signed_in (option_map (λ x. x.now) o)) c.in-Some.is)
    ∙ ap (option_map signed_in) c.find.ensures.found
    ∙ signature_found c.self.inside.entries c.args.tx.now c.args.input c.args.key.now c.deref.result.now c.find.ensures.sized
    c.place_key.ensures.sized (c.deref.ensures.value ∙ c.in_ok-place.ensures.key)
    ∙ ap (find (is_at (spot_of c.args.tx.now c.args.input c.args.key.now))) c.self.view_is)

pub returns : goal.returns
returns c =
    ap (option_map (λ (g : Told). g.witness))
    (sym (ap (λ o. option_map signed_in (option_map (λ x. x.now) o)) c.in-None.is)
    ∙ ap (option_map signed_in) c.find.ensures.found
    ∙ signature_found c.self.inside.entries c.args.tx.now c.args.input c.args.key.now c.deref.result.now c.find.ensures.sized
    c.place_key.ensures.sized (c.deref.ensures.value ∙ c.in_ok-place.ensures.key)
    ∙ ap (find (is_at (spot_of c.args.tx.now c.args.input c.args.key.now))) c.self.view_is)
