use Rattle.std.proofs.Common.{◌≡◌, subst}
use Rattle.std.specs.Prelude.{IfOk, option_map}
use Rattle.spec_calculus.specs.Configuration.{Configuration}
use Rattle.spec_tool.specs.Replies.{printed}
use Rattle.bm_world.specs.Playing.{setup_in}
use Rattle.bitml_next.proofs.Replied.{told_of}
use Rattle.bitml_next.proofs.playing.world_reply.Goals as goal

pub returns : goal.returns
returns g c =
    let s = setup_in g.H.Hash32.digest_of c.args.world.now in
    subst (λ (x : Configuration). IfOk c.looked_reply.result (λ reply. printed reply ≡ told_of c.args.form (option_map (λ p. p.now) c.args.party) s x c.args.world.now.world))
    c.in_ok-made.ensures.last c.looked_reply.ensures
