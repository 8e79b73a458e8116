use Rattle.std.proofs.Common.{◌≡◌, ◌∙◌, ap}
use Rattle.std.specs.List.{list_all}
use Rattle.spec_nodes.specs.Nodes.{nodes_of}
use Rattle.bm_compile.specs.declared.detailed.Details.{Details}
use Rattle.bm_compile.specs.Keyed.Detailed.{details}
use Rattle.bm_compile.specs.Passes.{has_short_reveals}
use Rattle.bm_compile.proofs.Small.{short_nodes}
use Rattle.bm_compile.proofs.compiling.compile_details.Goals as goal

pub make_all-requires-clause-few : goal.make_all-requires-clause-few
make_all-requires-clause-few g c =
    let root = ap (λ a. a.root) c.advert.view_is ∙ ap (λ a. a.root) c.advert-advert.ensures.value in
    ap (list_all has_short_reveals) (c.in_ok-arena.ensures ∙ ap nodes_of root) ∙ short_nodes c.args.checked.now c.advert-advert.ensures.well_formed

pub returns-clause-details : goal.returns-clause-details
returns-clause-details g c =
    let hash = g.H.Hash32.digest_of c.args.trail.now.hasher in
    let keys = g.K.KeySource.keys c.args.source.now in
    let parts : Details = record { init = c.in_ok-made.made.0; paths = c.in_ok-made.made.1; scripts = c.in_ok-made.made.2 } in
    let whole : parts ≡ details hash keys c.setting_of-setting.result = λ j. record {
      init = c.in_ok-made.ensures.init j;
      paths = c.in_ok-made.ensures.paths j;
      scripts = c.in_ok-made.ensures.scripts j;
    } in
    whole ∙ ap (details hash keys) c.setting_of-setting.ensures
