use Rattle.std.specs.Prelude.{◌++◌, codes}
use Rattle.std.proofs.Common.{◌∙◌, sym}
use Rattle.spec_page.specs.Script.{script_text}
use Rattle.spec_page.specs.Html.{raw}
use Rattle.draw_page.specs.Texts.{text_of}
use Rattle.draw_page.proofs.Onto.{put_same, element_is}
use Rattle.draw_page.proofs.page.put_script.Goals as goal

pub returns : goal.returns
unfolding script_text text_of
returns c =
    put_same c.put_all.result _ _ _ _
    ((λ i. codes "<script>" ++ (c.script_0.ensures i ++ (c.script_1.ensures i ++ codes "</script>"))) ∙ sym (element_is (raw (codes "script") script_text)))
    c.put_all.ensures
