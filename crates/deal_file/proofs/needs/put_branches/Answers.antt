use Rattle.std.proofs.Common.{◌≡◌, ◌++◌, map, ap, subst, ◌∙◌, OnOk}
use Rattle.std.specs.List.{flat_map}
use Rattle.spec_terms.specs.Advert.{Advert}
use Rattle.spec_terms.specs.Parties.{participants}
use Rattle.spec_nodes.specs.Nodes.{nodes_of}
use Rattle.bm_arena.specs.NodeView.{node_view}
use Rattle.deal_file.specs.Needs.{node_needs}
use Rattle.deal_file.proofs.NeedLemmas.{node_needs_all}
use Rattle.deal_file.proofs.needs.put_branches.Goals as goal

pub returns : goal.returns
returns c =
    let nodes = map node_view c.nodes.result.now in
    subst (λ more. OnOk c.put_nodes.result (c.put_nodes.new.out.items ≡ c.args.out.now.items ++ more))
    (ap (λ parties. flat_map (node_needs parties) nodes) c.parties.ensures
    ∙ node_needs_all (participants c.args.checked.now) c.args.checked.now nodes
    (c.nodes.ensures ∙ c.in_ok-arena.ensures
    ∙ ap (λ (a : Advert). nodes_of a.root) (c.behind-checked.view_is ∙ c.advert.ensures.value)))
    c.put_nodes.ensures
