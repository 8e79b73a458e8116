use Rattle.bm_world_sign.specs.Instances.{instance_on}
use Rattle.bm_world_sign.proofs.Shown.{shown_gives}
use Rattle.bm_world_sign.proofs.authorising.known_at.Goals as goal

pub returns : goal.returns
returns c = λ hash messages all.
    shown_gives hash c.args.contract (instance_on hash c.args.board.now messages c.args.contract) _ _
    (c.in_ok-checked.ensures hash messages all) (c.known_key.ensures.defined hash)
