use Rattle.std.proofs.Common.{sym, ap, ◌∙◌}
use Rattle.std.specs.Prelude.{slice_get}
use Rattle.std.specs.Option.{option_copied}
use Rattle.spec_compiler.specs.Witness.{chosen_by}
use Rattle.spec_run.specs.World.{live_position}
use Rattle.spec_run.specs.Ledger.{count_of, contract_in}
use Rattle.spec_tool.specs.declared.finding.Now.TheVariants as nows
use Rattle.bm_audit.proofs.Saying.{now_taken, now_untaken}
use Rattle.bm_audit.proofs.judging.taken.Goals as goal

pub returns-in_default : goal.returns-in_default
returns-in_default c = λ s spent e f.
    now_untaken s c.args.tx.now spent (live_position (slice_get c.args.board.now.coins.outputs c.args.number))
    (ap option_copied (sym c.in_default.is) ∙ c.held_at.ensures)

pub returns : goal.returns
returns c = λ s spent e f.
    let held = c.in-Some.held.now in
    ap (nows.Branch c.args.number) (c.chosen_by.ensures ∙ ap (chosen_by c.in_ok-count.count) c.first_witness.ensures)
    ∙ now_taken s c.args.tx.now spent c.args.number c.in_ok-count.count held
    (live_position (slice_get c.args.board.now.coins.outputs c.args.number))
    (ap option_copied (sym c.in-Some.is) ∙ c.held_at.ensures) f
    (c.in_ok-count.ensures ∙ c.branches_at.ensures ∙ ap (λ cs. count_of (contract_in (slice_get cs held.contract) held.position)) (sym e))
