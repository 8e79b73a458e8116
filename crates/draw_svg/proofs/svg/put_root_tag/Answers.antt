use Rattle.std.proofs.Common.{ℕ, List, [], ◌∷◌, sym, ◌∙◌}
use Rattle.std.specs.Prelude.{codes}
use Rattle.std.specs.Fmt.{decimal}
use Rattle.std.proofs.lemmas.List.{append-nil}
use Rattle.spec_page.specs.Html.{open_tag}
use Rattle.draw_page.proofs.Onto.{put_same, open_onto}
use Rattle.draw_svg.specs.Documents.{root_tag}
use Rattle.draw_svg.proofs.svg.put_root_tag.Goals as goal

pub returns : goal.returns
unfolding root_tag
returns c =
    let attributes : List (List ℕ × List ℕ) =
    (codes "xmlns", codes "http://www.w3.org/2000/svg")
    ∷ (codes "viewBox", c.args.view.now)
    ∷ (codes "width", decimal c.args.width)
    ∷ (codes "height", decimal c.args.height)
    ∷ (codes "role", codes "img")
    ∷ [] in
    put_same c.put_all.result _ _ _ _
    (sym (sym (append-nil (open_tag (codes "svg") attributes)) ∙ open_onto (codes "svg") attributes [])) c.put_all.ensures
