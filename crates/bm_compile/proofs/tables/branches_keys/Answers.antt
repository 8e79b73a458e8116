use Rattle.std.proofs.Common.{◌≡◌, List, [], ◌∷◌, ◌++◌, ◌∙◌, map, refl, sym, ap, append-nil}
use Rattle.std.proofs.lemmas.List.{nil_from_length}
use Rattle.spec_nodes.specs.Nodes.{Node}
use Rattle.bm_arena.specs.NodeView.{node_view}
use Rattle.bm_compile.specs.Numbered.{keys_of_branches}
use Rattle.bm_compile.proofs.tables.branches_keys.Goals as goal

-- nothing is left of nothing
none_left : (ns : List Node) → keys_of_branches ns [] ≡ []
none_left [] = refl
none_left (n ∷ ns) = refl

pub returns : goal.returns
returns c =
    let made = c.loop-keys.made in
    let nodes = map node_view c.loop-keys.rest.now in
    let left = c.loop-keys.keys-iterator.rest in
    let empty = nil_from_length left.items (sym left.ok.0 ∙ c.in-None.ensures.steps.0) in
    sym (append-nil made)
    ∙ ap (λ l. made ++ l) (sym (ap (keys_of_branches nodes) empty ∙ none_left nodes))
    ∙ c.loop-keys.invariant
