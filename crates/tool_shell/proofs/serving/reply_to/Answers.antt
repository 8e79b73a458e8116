use Rattle.std.proofs.Common.{◌∙◌}
use Rattle.tool_shell.proofs.Texts.{unread_reply, read_reply}
use Rattle.tool_shell.proofs.serving.reply_to.Goals as goal

pub returns-then-reading : goal.returns-then-reading
returns-then-reading g c =
    unread_reply (g.C.Call.answers (g.H.Hash32.digest_of c.args.hash) c.args.call.now) c.args.reading.now c.of.result
    (g.C.Call.unread (g.H.Hash32.digest_of c.args.hash) c.args.call.now) c.if-reading.true (c.of.ensures ∙ c.new.ensures.items)

pub returns : goal.returns
returns g c =
    read_reply (g.C.Call.answers (g.H.Hash32.digest_of c.args.hash) c.args.call.now) c.args.reading.now c.as_slice.result.now
    c.reply.result c.if-reading.false c.as_slice.ensures c.reply.ensures
