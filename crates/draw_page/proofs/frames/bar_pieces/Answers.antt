use Rattle.std.proofs.Common.{◌∙◌, ◌++◌, ap, codes}
use Rattle.spec_page.specs.Page.{bar_piece}
use Rattle.draw_page.specs.Texts.{text_of}
use Rattle.draw_page.proofs.PageLemmas.{bar_elements_are}
use Rattle.draw_page.proofs.frames.bar_pieces.Goals as goal

pub returns : goal.returns
returns c =
    let m = c.args.money.now in
    c.in_ok-put_bar_piece-3.ensures
    ∙ ap (λ text. text ++ text_of (bar_piece (codes "fee") (codes "fees") m.fees))
    (c.in_ok-put_bar_piece-2.ensures
    ∙ ap (λ text. text ++ text_of (bar_piece (codes "out") (codes "elsewhere") m.elsewhere))
    (c.in_ok-put_bar_piece.ensures
    ∙ ap (λ text. text ++ text_of (bar_piece (codes "in") (codes "contract") m.contracts)) c.in_ok-text.ensures))
    ∙ bar_elements_are c.args.parties.now m
