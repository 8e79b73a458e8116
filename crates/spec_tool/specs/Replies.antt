-- What a call replies, as the definitions of commands have it.
use Rattle.spec_tool.specs.Commands.{Printed}
use Rattle.spec_tool.specs.declared.reply.Reply.{Reply}

abbrev pub printed : Reply → Printed
printed reply = record { status = reply.status; text = reply.text }
