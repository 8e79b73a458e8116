use Rattle.std.proofs.Common.{arith}
use Rattle.std.proofs.lemmas.Grind.{common_steps}
use Rattle.spec_page.specs.ContractPart.{contract_elements}
use Rattle.draw_page.specs.Scenes.{scene_of}
use Rattle.draw_page.proofs.PageLemmas.{body_is}
use Rattle.draw_page.proofs.bodies.put_contract_body.Goals as goal

pub returns : goal.returns
returns c =
    let e = body_is (contract_elements (scene_of c.args.scene.now) c.args.part c.args.sheet.now) in
    grind (arith, common_steps, e)
