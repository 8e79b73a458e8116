use Rattle.std.proofs.Common.{ap}
use Rattle.spec_tool.specs.Commands.{prints}
use Rattle.spec_tool.specs.Reads.{texts_read}
use Rattle.spec_tool.specs.Replies.{printed}
use Rattle.tool_shell.proofs.Ending.{answers_reply}
use Rattle.tool_shell.proofs.serving.serve_call.Goals as goal

pub returns-in-Ok : goal.returns-in-Ok
returns-in-Ok g c =
    answers_reply (λ reads. g.C.Call.answers (g.H.Hash32.digest_of c.args.hash) c.args.call.now (texts_read reads))
    (g.C.Call.asks c.args.call.now)
    (record {
      told = g.F.Files.told c.args.files.now;
      log = g.F.Files.log c.args.files.now;
      taken = g.F.Files.taken c.args.files.now;
      faults = g.F.Files.faults c.args.files.now;
    })
    (record {
      told = g.F.Files.told c.reply.new.files;
      log = g.F.Files.log c.reply.new.files;
      taken = g.F.Files.taken c.reply.new.files;
      faults = g.F.Files.faults c.reply.new.files;
    })
    (printed c.in-Ok.reply) (prints c.in-Ok.reply.status c.as_slice.result.now) (g.S.Sink.pieces c.args.out.now)
    (g.S.Sink.pieces c.finish.new.out) (g.S.Sink.faults c.args.out.now) (g.S.Sink.faults c.finish.new.out) c.finish.result
    c.in-Ok.ensures.reply (ap (prints c.in-Ok.reply.status) c.as_slice.ensures) c.finish.ensures
