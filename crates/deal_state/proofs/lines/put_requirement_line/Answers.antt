use Rattle.std.proofs.Common.{◌≡◌, ◌++◌, subst}
use Rattle.std.specs.Prelude.{OnOk}
use Rattle.deal_state.proofs.Worded.{requirement_is}
use Rattle.deal_state.proofs.lines.put_requirement_line.Goals as goal

pub returns : goal.returns
returns c =
    subst
    (λ text. OnOk c.put_requirement_text.result (c.put_requirement_text.new.out.items ≡ c.args.out.now.items ++ text))
    (requirement_is c.args.requirement.now)
    c.put_requirement_text.ensures
