use Rattle.std.proofs.Common.{◌≡◌, ◌++◌, sym, subst}
use Rattle.std.specs.Result.{OnOk}
use Rattle.bm_make.proofs.EventLines.{first_lines}
use Rattle.bm_make.proofs.events.put_first.Goals as goal

pub returns : goal.returns
returns c = subst (λ text. OnOk c.put.result (c.put.new.out.items ≡ c.args.out.now.items ++ text)) (sym first_lines) c.put.ensures
