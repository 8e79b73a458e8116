use Rattle.std.proofs.Common.{◌≡◌, List, ℕ, subst}
use Rattle.std.specs.Prelude.{IfOk}
use Rattle.spec_deal.specs.SignatureFile.{is_required}
use Rattle.spec_deal.specs.Transactions.{Required}
use Rattle.deal_signatures.specs.Keying.{signed_by}
use Rattle.deal_signatures.proofs.required.Outstanding.is_required.Goals as goal

pub returns : goal.returns
returns c = λ signature.
    subst
    (λ (ws : List Required).
    IfOk c.is_at.result (λ b. b ≡ is_required ws (signed_by c.args.tx.now c.args.input c.args.key.now signature)))
    c.self.view_is (c.is_at.ensures signature)
