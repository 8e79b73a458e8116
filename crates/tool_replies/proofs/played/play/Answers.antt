use Rattle.tool_replies.proofs.Courses.{short_opening}
use Rattle.tool_replies.proofs.played.play.Goals as goal

pub returns-in-Err-clause-unopened : goal.returns-in-Err-clause-unopened
returns-in-Err-clause-unopened g c = short_opening _
