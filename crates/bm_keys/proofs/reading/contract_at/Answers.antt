use Rattle.bm_keys.proofs.LabelLemmas.{no_colon, no_root}
use Rattle.bm_keys.proofs.reading.contract_at.Goals as goal

pub returns-in_err-rest-clause-none : goal.returns-in_err-rest-clause-none
returns-in_err-rest-clause-none c =
    rw c.from_residual-in_err-rest.ensures (no_colon c.args.text.now c.in_ok-contract.rest.now c.in_ok-contract.contract
    c.in_ok-contract.ensures.some c.in_err-rest.ensures.none)

pub returns-in_err-rest-2-clause-none : goal.returns-in_err-rest-2-clause-none
returns-in_err-rest-2-clause-none c =
    rw c.from_residual-in_err-rest-2.ensures
    (no_root c.args.text.now c.in_ok-contract.rest.now c.in_ok-rest.rest.now c.in_ok-contract.contract c.in_ok-contract.ensures.some
    c.in_ok-rest.ensures.some c.in_err-rest-2.ensures.none)
