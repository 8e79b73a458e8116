use Rattle.theory_page.proofs.WaysOnce as shown
use Rattle.theory_page.proofs.by_order.Goals as goal

pub returns : goal.returns
returns c = shown.svg_ids_stand_once c.requires
