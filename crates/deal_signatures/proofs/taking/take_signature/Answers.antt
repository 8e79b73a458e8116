use Rattle.std.proofs.Common.{subst}
use Rattle.spec_deal.specs.SignatureFile.{Taken}
use Rattle.spec_deal.specs.Verifier.{secp256k1}
use Rattle.deal_signatures.specs.Gives.{Takes}
use Rattle.deal_signatures.specs.Keying.{signed_by}
use Rattle.deal_signatures.proofs.InputLemmas.{unwanted, shapeless, taken}
use Rattle.deal_signatures.proofs.taking.take_signature.Goals as goal

pub returns-then-not-branch : goal.returns-then-not-branch
returns-then-not-branch c =
    unwanted secp256k1 c.args.required.now c.args.given.now (signed_by c.args.tx.now c.args.input c.args.key.now c.args.signature.now)
    c.in_ok-is_required.field-0 (c.in_ok-is_required.ensures c.args.signature.now) c.if-not-branch.true

pub returns-then-not-branch-2 : goal.returns-then-not-branch-2
returns-then-not-branch-2 c =
    shapeless secp256k1 c.args.required.now c.args.given.now (signed_by c.args.tx.now c.args.input c.args.key.now c.args.signature.now)
    c.in_ok-is_required.field-0 c.in_ok-is_strict.field-0 (c.in_ok-is_required.ensures c.args.signature.now) c.if-not-branch.false
    c.in_ok-is_strict.ensures c.if-not-branch-2.true

pub returns : goal.returns
returns c =
    subst (λ (t : Taken). Takes c.args.given.now c.take_once.new.given c.take_once.result t)
    (taken secp256k1 c.args.required.now c.args.given.now (signed_by c.args.tx.now c.args.input c.args.key.now c.args.signature.now)
    c.in_ok-is_required.field-0 c.in_ok-is_strict.field-0 (c.in_ok-is_required.ensures c.args.signature.now) c.if-not-branch.false
    c.in_ok-is_strict.ensures c.if-not-branch-2.false)
    c.take_once.ensures
