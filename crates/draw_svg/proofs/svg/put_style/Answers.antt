use Rattle.std.specs.Prelude.{◌++◌, codes}
use Rattle.std.proofs.Common.{◌∙◌, sym}
use Rattle.spec_page.specs.SvgStyle.{svg_style}
use Rattle.spec_page.specs.Html.{raw}
use Rattle.draw_page.specs.Texts.{text_of}
use Rattle.draw_page.proofs.Onto.{put_same, element_is}
use Rattle.draw_svg.proofs.svg.put_style.Goals as goal

pub returns : goal.returns
unfolding svg_style text_of
returns c =
    put_same c.put_all.result _ _ _ _
    ((λ i. codes "<style>" ++ (c.svg_style_0.ensures i ++ (c.svg_style_1.ensures i ++ codes "</style>"))) ∙ sym (element_is (raw (codes "style") svg_style)))
    c.put_all.ensures
