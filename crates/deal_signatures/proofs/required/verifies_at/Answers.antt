use Rattle.std.proofs.Common.{List, ℕ, Bool, not, sym, ap, ◌∙◌}
use Rattle.std.specs.Prelude.{◌||◌}
use Rattle.spec_deal.specs.Verifier.{secp256k1}
use Rattle.deal_signatures.proofs.required.verifies_at.Goals as goal

pub returns-then-is_here : goal.returns-then-is_here
returns-then-is_here c =
    let signature = c.args.signature.now in
    c.verify.ensures
    ∙ ap (λ (b : Bool). not b || secp256k1.is_signature c.args.key.now c.args.place.now.digest signature)
    (sym c.if-is_here.true ∙ c.is_here.ensures signature)

pub returns-else-is_here : goal.returns-else-is_here
returns-else-is_here c =
    let signature = c.args.signature.now in
    ap (λ (b : Bool). not b || secp256k1.is_signature c.args.key.now c.args.place.now.digest signature)
    (sym c.if-is_here.false ∙ c.is_here.ensures signature)
