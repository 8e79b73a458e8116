use Rattle.std.proofs.Common.{option_map}
use Rattle.spec_deal.specs.Verifier.{secp256k1}
use Rattle.deal_signatures.specs.Gives.{one_or_none}
use Rattle.deal_signatures.proofs.InputLemmas.{taken_behind, stopped_before}
use Rattle.deal_signatures.proofs.inputs.take_fitting.Goals as goal

pub returns-in-Ok : goal.returns-in-Ok
returns-in-Ok c =
    taken_behind secp256k1 c.args.required.now c.args.tx.now c.args.number c.args.given.now c.args.pairs.now
    (one_or_none (option_map (λ p. (p.0, p.1.now)) c.args.last)) c.take_signatures.new.given c.take_final.new.given c.take_final.result
    c.in-Ok.ensures c.take_final.ensures

pub returns-in-Err : goal.returns-in-Err
returns-in-Err c =
    stopped_before secp256k1 c.args.required.now c.args.tx.now c.args.number c.args.given.now c.args.pairs.now
    (one_or_none (option_map (λ p. (p.0, p.1.now)) c.args.last)) c.in-Err.error c.in-Err.ensures
