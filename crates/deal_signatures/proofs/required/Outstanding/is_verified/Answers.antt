use Rattle.std.proofs.Common.{◌≡◌, List, ℕ, map, sym, ap, subst, ◌∙◌}
use Rattle.std.specs.Prelude.{IfOk}
use Rattle.spec_deal.specs.SignatureFile.{is_verified}
use Rattle.spec_deal.specs.Transactions.{Required}
use Rattle.spec_deal.specs.Verifier.{secp256k1}
use Rattle.deal_signatures.specs.Keying.{signed_by}
use Rattle.deal_signatures.specs.Seen.{required_in}
use Rattle.deal_signatures.proofs.required.Outstanding.is_verified.Goals as goal

-- all agree where the field says so
pub verifies_once-requires : goal.verifies_once-requires
verifies_once-requires c = sym c.self.invariant ∙ c.if-self.true

pub returns-then-self : goal.returns-then-self
returns-then-self c =
    subst
    (λ (ws : List Required).
    IfOk c.verifies_once.result
    (λ b. b ≡ is_verified secp256k1 ws (signed_by c.args.tx.now c.args.input c.args.key.now c.args.signature.now)))
    c.self.view_is c.verifies_once.ensures

pub returns-else-self : goal.returns-else-self
returns-else-self c =
    c.verifies_everywhere.ensures
    ∙ ap (λ ws. is_verified secp256k1 ws (signed_by c.args.tx.now c.args.input c.args.key.now c.args.signature.now))
    (ap (map required_in) c.as_slice-places.ensures ∙ c.self.view_is)
