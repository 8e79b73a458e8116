use Rattle.std.proofs.Common.{◌≡◌, List, get_or, subst}
use Rattle.spec_terms.specs.Advert.{Advert}
use Rattle.spec_run.specs.Compiled.{compiled_instance}
use Rattle.bm_world.specs.Playing.{setup_in}
use Rattle.tool_replies.proofs.Contracts.{the_first}
use Rattle.tool_replies.proofs.Ended.{compiled_of}
use Rattle.tool_replies.proofs.weigh.weights.Goals as goal

pub returns : goal.returns
returns g c =
    let digest = g.H.Hash32.digest_of in
    let w = c.args.world.now in
    let x = c.checked-item.result in
    c.weigh_text.ensures.compiled (setup_in digest w).hash (compiled_instance (setup_in digest w) w.world 0) (g.met.H.Hash32.sized w.hasher)
    (compiled_of (setup_in digest w) w.world x
    (the_first w.contracts x c.requires (subst (λ (xs : List Advert). x ≡ get_or xs 0 x) c.contracts.ensures c.checked-item.is)))
    c.compiled.ensures
