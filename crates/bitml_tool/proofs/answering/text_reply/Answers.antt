use Rattle.std.proofs.Common.{◌≡◌, sym, subst}
use Rattle.std.specs.Prelude.{IfOk}
use Rattle.spec_tool.specs.Answers.{text_answer}
use Rattle.tool_command.specs.Seen.{command}
use Rattle.spec_tool.specs.Replies.{printed}
use Rattle.tool_command.specs.declared.command.Command.{Command as Call}
use Rattle.bitml_tool.proofs.answering.text_reply.Goals as goal

pub returns-in-Make : goal.returns-in-Make
returns-in-Make g c =
    subst (λ (call : Call). IfOk c.make_reply.result (λ reply. printed reply ≡ text_answer (g.H.Hash32.digest_of c.args.hash) (command call) c.args.texts.now))
    (sym c.in-Make.is) c.make_reply.ensures
