use Rattle.std.proofs.Common.{◌∙◌}
use Rattle.bm_world_board.specs.Prepares.{setup_of}
use Rattle.bm_world_sign.specs.Instances.{instance_on}
use Rattle.bm_world_sign.proofs.Shown.{compiled_here}
use Rattle.bm_world_sign.proofs.Signed.{found_there, none_there}
use Rattle.bm_world_sign.proofs.authorising.transaction_at.Goals as goal

pub returns-in-Some : goal.returns-in-Some
returns-in-Some c = λ hash messages all.
    let o = instance_on hash c.args.board.now messages c.args.contract in
    found_there (setup_of hash c.args.board.now) o c.in-Some.compiled.now c.args.path.now _
    (c.in-Some.ensures ∙ compiled_here hash c.args.board.now messages c.args.contract all) c.transaction_at.ensures.compiled

pub returns-in-None : goal.returns-in-None
returns-in-None c = λ hash messages all.
    let o = instance_on hash c.args.board.now messages c.args.contract in
    none_there (setup_of hash c.args.board.now) o c.args.path.now
    (c.in-None.ensures ∙ compiled_here hash c.args.board.now messages c.args.contract all)
