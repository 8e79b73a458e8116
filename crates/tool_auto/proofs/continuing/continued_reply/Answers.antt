use Rattle.tool_auto.proofs.Replied.{room, honest, goes_answer, goes_continue, halt_answer, halt_continues}
use Rattle.tool_auto.proofs.continuing.continued_reply.Goals as goal

pub extend-requires-clause-honest : goal.extend-requires-clause-honest
extend-requires-clause-honest g c =
    honest g.H.Hash32.digest_of c.args.world.now c.args.run.now c.args.rules.now c.requires.left c.requires.header c.requires.honest

pub extend-requires-clause-few : goal.extend-requires-clause-few
extend-requires-clause-few g c =
    room g.H.Hash32.digest_of c.args.world.now c.args.run.now c.args.rules.now c.requires.left c.requires.header c.requires.room

pub returns-in-Ok-clause-reply : goal.returns-in-Ok-clause-reply
returns-in-Ok-clause-reply g c =
    goes_answer g.H.Hash32.digest_of c.args.world.now c.args.run.now c.args.rules.now c.requires.left c.requires.header
    c.extend.new.world c.in-Ok.more.items c.in-Ok.ensures.extends c.went_on.result c.went_on.ensures

pub returns-in-Ok-clause-continued : goal.returns-in-Ok-clause-continued
returns-in-Ok-clause-continued g c =
    goes_continue g.H.Hash32.digest_of c.args.world.now c.args.run.now c.args.rules.now c.requires.left c.requires.header
    c.extend.new.world c.in-Ok.more.items c.in-Ok.ensures.extends c.went_on.result c.strategies_go_on.ensures
    c.strategies_keep_to_rules.ensures c.requires.honest c.went_on.ensures

pub returns-in-Err-clause-reply : goal.returns-in-Err-clause-reply
returns-in-Err-clause-reply g c =
    halt_answer g.H.Hash32.digest_of c.args.world.now c.args.run.now c.args.rules.now c.requires.left c.requires.header
    c.extend.new.world c.in-Err.halt c.in-Err.ensures.stops c.halt_reply.result c.halt_reply.ensures

pub returns-in-Err-clause-continued : goal.returns-in-Err-clause-continued
returns-in-Err-clause-continued g c =
    halt_continues g.H.Hash32.digest_of c.args.world.now c.args.run.now c.args.rules.now c.requires.left c.requires.header
    c.extend.new.world c.in-Err.halt c.in-Err.ensures.stops c.halt_reply.result c.halt_reply.ensures
