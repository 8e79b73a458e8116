-- What is known of a reply: it is what is answered to the reads of the files.
use Rattle.std.specs.Prelude.{◌≡◌, ℕ, List, true, Option, None}
use Rattle.spec_tool.specs.Reads.{Asked, Read, texts_read, are_made}
use Rattle.spec_tool.specs.Commands.{Printed}
use Rattle.bm_io.specs.Counts.{RoseBy}
use Rattle.bm_io.specs.Files.{Told}
use Rattle.bm_io.specs.Logs.{Reply}
use Rattle.tool_shell.specs.Files.{Tells}
use Rattle.tool_shell.specs.Logs.{Logs}

-- files as they stand: what they tell of themselves, the reads so far, how many bytes they took, and how often one has failed
pub record Standing : Type 0 where
  pub told : Option Told
  pub log : List Reply
  pub taken : ℕ
  pub faults : ℕ

abbrev pub standing : Option Told → List Reply → ℕ → ℕ → Standing
standing told log taken faults = record { told = told; log = log; taken = taken; faults = faults }

pub record Replied (answers : List Read → Printed) (files : List Asked) (before now : Standing) (reply : Printed) : Type 0 where
  pub reads : List Read
  pub made : are_made files reads ≡ true
  pub logged : Logs before.log now.log before.taken now.taken files reads
  pub told : Tells before.told now.told files reads
  pub unread : texts_read reads ≡ None → RoseBy 1 before.faults now.faults
  pub reply_is : reply ≡ answers reads
