use Rattle.std.proofs.Common.{◌∙◌, ap}
use Rattle.std.specs.Prelude.{Result, Ok, Err, IfOk}
use Rattle.std.specs.List.{list_all}
use Rattle.spec_nodes.specs.Nodes.{nodes_of}
use Rattle.bm_compile.specs.Passes.{has_short_reveals}
use Rattle.bm_compile.proofs.Small.{short_nodes}
use Rattle.bm_compile.proofs.compiling.compile_with.Goals as goal

-- what is true anyhow
if_ok : {T E P : Type 0} (r : Result T E) → P → IfOk r (λ t. P)
if_ok (Ok t) p = p
if_ok (Err e) p = tt

pub compile_nodes-requires-clause-few : goal.compile_nodes-requires-clause-few
compile_nodes-requires-clause-few g c =
    let root = ap (λ a. a.root) c.advert.view_is ∙ ap (λ a. a.root) c.advert-advert.ensures.value in
    ap (list_all has_short_reveals) (c.in_ok-arena.ensures ∙ ap nodes_of root) ∙ short_nodes c.args.checked.now c.advert-advert.ensures.well_formed

pub returns-clause-limits : goal.returns-clause-limits
returns-clause-limits g c are =
    if_ok c.compile_nodes.result (λ position choice compiled.
    c.no_limit_is_met.ensures (g.H.Hash32.digest_of c.args.trail.now.hasher) (g.K.KeySource.keys c.args.source.now) _ position choice are compiled)
