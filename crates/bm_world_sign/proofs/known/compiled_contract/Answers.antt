use Rattle.std.proofs.Common.{sym}
use Rattle.bm_world_sign.proofs.Shown.{shown, no_text, no_code}
use Rattle.bm_world_sign.proofs.known.compiled_contract.Goals as goal

pub returns-in_err-checked : goal.returns-in_err-checked
returns-in_err-checked c = λ hash messages all.
    rw c.from_residual.ensures (no_text hash c.args.board.now messages c.args.contract all (sym c.in_err-checked.ensures))

pub returns-in_err-compiled : goal.returns-in_err-compiled
returns-in_err-compiled c = λ hash messages all.
    rw c.from_residual-in_err-compiled.ensures (no_code hash c.args.board.now messages c.args.contract all (sym c.in_err-compiled.ensures))

pub returns : goal.returns
returns c = λ hash messages all.
    shown hash c.args.board.now messages c.args.contract all c.in_ok-checked.checked.now c.in_ok-compiled.compiled.now
    (sym c.in_ok-checked.ensures) (sym c.in_ok-compiled.ensures)
