use Rattle.std.proofs.Common.{◌++◌, ap, ◌∙◌}
use Rattle.std.specs.List.{flat_map}
use Rattle.spec_terms.specs.Advert.{Advert}
use Rattle.spec_nodes.specs.Nodes.{nodes_of}
use Rattle.deal_payees.specs.Paid.{node_paid}
use Rattle.deal_payees.proofs.PaidLemmas.{nodes_pay}
use Rattle.deal_payees.proofs.withdraws.all_paid.Goals as goal

pub returns : goal.returns
returns c =
    c.in_ok-put_nodes.ensures
    ∙ (λ j. c.new-paid.ensures.items j ++ flat_map node_paid ((c.nodes.ensures ∙ c.in_ok-arena.ensures
    ∙ ap (λ (a : Advert). nodes_of a.root) (c.behind-checked.view_is ∙ c.advert.ensures.value)) j))
    ∙ nodes_pay c.args.checked.now.root
