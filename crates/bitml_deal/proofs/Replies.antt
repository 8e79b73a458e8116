-- A reply by its status and its text.
use Rattle.std.proofs.Common.{◌≡◌, ℕ, List, ap, ◌∙◌}
use Rattle.spec_tool.specs.Commands.{prints}
use Rattle.spec_tool.specs.Replies.{printed}
use Rattle.spec_tool.specs.declared.reply.Reply.{Reply}

pub replied : (reply : Reply) (status : ℕ) (text : List ℕ) → reply.status ≡ status → reply.text ≡ text → printed reply ≡ prints status text
replied reply status text one other = ap (λ (n : ℕ). prints n reply.text) one ∙ ap (prints status) other
