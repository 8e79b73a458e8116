use Rattle.std.proofs.Common.{sym, ap, ◌∙◌}
use Rattle.spec_tool.specs.Turns.{act_event}
use Rattle.bm_world_board.specs.Prepares.{setup_of, world_of}
use Rattle.bm_auto.proofs.Branches.{authorises_is, fires_is}
use Rattle.bm_auto.proofs.ruling.rule_event.Goals as goal

pub returns-in-Authorise : goal.returns-in-Authorise
returns-in-Authorise c = λ hash messages.
    authorises_is (setup_of hash c.args.board.now) (world_of c.args.board.now messages) c.args.rule.now.party c.in-Authorise.path c.taken_at.result _
    (c.taken_at.ensures hash messages) c.authorised.ensures
    ∙ sym (ap (act_event (setup_of hash c.args.board.now) (world_of c.args.board.now messages) c.args.rule.now.party) c.in-Authorise.is)

pub returns-in-Fire : goal.returns-in-Fire
returns-in-Fire c = λ hash messages.
    fires_is (setup_of hash c.args.board.now) (world_of c.args.board.now messages) c.args.rule.now.party c.in-Fire.path c.taken_at-in-Fire.result _
    (c.taken_at-in-Fire.ensures hash messages) c.fired.ensures
    ∙ sym (ap (act_event (setup_of hash c.args.board.now) (world_of c.args.board.now messages) c.args.rule.now.party) c.in-Fire.is)
