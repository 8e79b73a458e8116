use Rattle.tool_shell.proofs.Ending.{tells_usage, answers_usage}
use Rattle.tool_shell.proofs.serving.serve.Goals as goal

pub returns-in-Ok-None : goal.returns-in-Ok-None
returns-in-Ok-None g c =
    answers_usage g.C.Call.asks (g.C.Call.answers (g.H.Hash32.digest_of c.args.hash)) c.args.parsed c.in-Ok-None.field-0 _ _
    c.finish.result c.in-Ok-None.is c.in-Ok-None.field-0-is
    (tells_usage (g.F.Files.told c.args.files.now) (g.F.Files.log c.args.files.now) (g.F.Files.taken c.args.files.now)
    (g.F.Files.faults c.args.files.now) (g.S.Sink.pieces c.args.out.now) (g.S.Sink.pieces c.finish.new.out)
    (g.S.Sink.faults c.args.out.now) (g.S.Sink.faults c.finish.new.out) c.finish.result c.finish.ensures)
