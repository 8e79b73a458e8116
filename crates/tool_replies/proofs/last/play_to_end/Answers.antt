use Rattle.spec_run.specs.Setup.{Setup}
use Rattle.spec_tool.specs.Commands.{setup_of}
use Rattle.tool_replies.proofs.Endings.{unopened_halts}
use Rattle.tool_replies.proofs.last.play_to_end.Goals as goal

pub returns-in-Ok-clause-whole : goal.returns-in-Ok-clause-whole
returns-in-Ok-clause-whole g c =
    let s : Setup = setup_of (g.H.Hash32.digest_of c.args.hash) c.args.run.now c.args.contracts.items in
    c.last_of.ensures.whole s c.args.run.now.events c.in-Ok.ensures.left

pub returns-in-Ok-clause-halted : goal.returns-in-Ok-clause-halted
returns-in-Ok-clause-halted g c =
    let s : Setup = setup_of (g.H.Hash32.digest_of c.args.hash) c.args.run.now c.args.contracts.items in
    c.last_of.ensures.halted s c.args.run.now.events c.in-Ok.ensures.left

pub returns-in-Err-clause-halted : goal.returns-in-Err-clause-halted
returns-in-Err-clause-halted g c =
    let s : Setup = setup_of (g.H.Hash32.digest_of c.args.hash) c.args.run.now c.args.contracts.items in
    unopened_halts s c.args.run.now.events c.in-Err.halt c.in-Err.ensures.unopened
