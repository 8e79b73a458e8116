use Rattle.draw_page.specs.Scenes.{scene_of}
use Rattle.draw_page.proofs.Onto.{put_same}
use Rattle.draw_page.proofs.WayLemmas.{fork_is}
use Rattle.draw_page.proofs.ways.put_choice.Goals as goal

pub returns : goal.returns
returns c = put_same c.put_fork.result _ _ _ _ (fork_is (scene_of c.args.scene.now) c.args.depth c.args.share) c.put_fork.ensures
