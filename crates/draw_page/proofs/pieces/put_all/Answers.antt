use Rattle.std.proofs.Common.{◌++◌, sym, ap}
use Rattle.draw_page.proofs.PiecesLemmas.{pieces_text-flat_map}
use Rattle.draw_page.proofs.pieces.put_all.Goals as goal

pub loop-piece-init : goal.loop-piece-init
loop-piece-init c = ap (λ text. c.args.out.now.items ++ text) (sym (pieces_text-flat_map c.args.pieces.now))
