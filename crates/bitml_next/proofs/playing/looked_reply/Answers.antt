use Rattle.std.proofs.Common.{◌≡◌, subst, ◌∙◌}
use Rattle.std.specs.Prelude.{IfOk, option_map}
use Rattle.spec_tool.specs.Commands.{Printed}
use Rattle.spec_tool.specs.Replies.{printed}
use Rattle.bm_world.specs.Playing.{setup_in}
use Rattle.bitml_next.proofs.Replied.{told_path, halted_is}
use Rattle.bitml_next.proofs.playing.looked_reply.Goals as goal

pub returns-in-Ok : goal.returns-in-Ok
returns-in-Ok g c =
    let party = option_map (λ p. p.now) c.args.party in
    let s = setup_in g.H.Hash32.digest_of c.args.world.now in
    subst (λ (p : Printed). IfOk c.told_reply.result (λ reply. printed reply ≡ p))
    (told_path c.args.form party s c.args.config.now c.args.world.now.world c.as_slice.result.now c.in-Ok.ensures.looked.calm
    (c.as_slice.ensures ∙ c.in-Ok.ensures.looked.outlooks))
    c.told_reply.ensures

pub returns-in-Err : goal.returns-in-Err
returns-in-Err g c =
    halted_is c.args.form (option_map (λ p. p.now) c.args.party) g.H.Hash32.digest_of c.args.config.now c.args.world.now c.outlooks.new.world c.in-Err.halt c.halt_reply.result c.requires
    c.in-Err.ensures.stopped c.halt_reply.ensures
