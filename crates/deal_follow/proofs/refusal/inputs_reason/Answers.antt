use Rattle.std.proofs.Common.{◌≡◌, List, map, Option, sym, ap, subst, ◌∙◌}
use Rattle.std.specs.Prelude.{IfOk}
use Rattle.spec_bitcoin.specs.declared.tx.OutPoint.{OutPoint}
use Rattle.spec_chain.specs.declared.fault.ChainReason.{ChainReason}
use Rattle.deal_follow.specs.Boards.{place_in, setting}
use Rattle.deal_follow.specs.Judging.{inputs_by}
use Rattle.deal_follow.proofs.JudgeLemmas.{reason_is, no_reason}
use Rattle.deal_follow.proofs.refusal.inputs_reason.Goals as goal

pub returns-then-not-do_touch : goal.returns-then-not-do_touch
returns-then-not-do_touch c =
    let b = c.args.board.now in
    no_reason (setting b) b.transactions.now (map place_in b.deposits) (map place_in b.positions) c.requires.deposits c.requires.positions
    c.args.is_own c.args.live.now c.args.inputs.now (sym c.do_touch.ensures ∙ c.if-not-do_touch.true)

pub returns : goal.returns
returns c =
    let b = c.args.board.now in
    subst (λ (o : Option ChainReason). IfOk c.first_bad.result (λ r. r ≡ o))
    (ap
    (λ (live : List OutPoint). inputs_by (map place_in b.deposits) (map place_in b.positions) c.args.is_own live 0 c.args.inputs.now)
    c.in_ok-places.ensures
    ∙ reason_is (setting b) b.transactions.now (map place_in b.deposits) (map place_in b.positions) c.requires.deposits c.requires.positions
    c.args.is_own c.args.live.now c.args.inputs.now)
    c.first_bad.ensures
