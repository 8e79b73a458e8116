use Rattle.std.specs.Prelude.{◌++◌}
use Rattle.spec_page.specs.Style.{style_text}
use Rattle.draw_page.proofs.Onto.{put_same}
use Rattle.draw_page.proofs.page.put_style.Goals as goal

pub returns : goal.returns
unfolding style_text
returns c =
    put_same c.put_all.result _ _ _ _
    (λ i. c.style_0.ensures i ++ (c.style_1.ensures i ++ (c.style_2.ensures i ++ (c.style_3.ensures i ++ c.style_4.ensures i))))
    c.put_all.ensures
