-- What a call replies to the reads of its files, and what it does of words that are no command.
use Rattle.std.proofs.Common.{◌≡◌, ℕ, true, List, [], ◌∷◌, length, take, map, Option, Some, None, Result, Ok, Err, refl, sym, ap, subst}
use Rattle.std.proofs.Common.{◌∙◌, append-nil, inl}
use Rattle.std.specs.Prelude.{IfOk, OnErr}
use Rattle.spec_tool.specs.Reads.{Asked, Read, Text, are_made}
use Rattle.spec_tool.specs.Commands.{Printed, usage}
use Rattle.spec_tool.specs.Replies.{printed}
use Rattle.spec_tool.specs.declared.reply.Reply.{Reply}
use Rattle.bm_io.specs.Files.{Told}
use Rattle.bm_io.specs.Logs.{Reply as Entry}
use Rattle.tool_shell.specs.declared.reading.Reading.{Reading}
use Rattle.tool_shell.specs.Answered.{AnswersByOrGivesUp, Answered}
use Rattle.tool_shell.specs.Around.{Around, around, Ends}
use Rattle.tool_shell.specs.Files.{reads_of, Tells, ReadsAll, RoseIfFailed}
use Rattle.tool_shell.specs.Logs.{entries, asked_in, Logs, LogsPrefix}
use Rattle.tool_shell.specs.Replied.{Standing, Replied}
use Rattle.tool_shell.proofs.Logged.{log_begins}
use Rattle.tool_shell.proofs.Texts.{failed_if}

-- the reply to the reads of these files, which are those that the call asks for
pub replied : {E : Type 0} (answers : List Read → Printed) (asks : List Asked) (before now : Standing) (files : List Asked)
    (reading : Reading) (r : Result Reply E)
    → files ≡ asks → ReadsAll before.told now.told files (reads_of reading)
    → Logs before.log now.log before.taken now.taken files (reads_of reading) → RoseIfFailed before.faults now.faults reading
    → IfOk r (λ reply. printed reply ≡ answers (reads_of reading))
    → IfOk r (λ reply. Replied answers asks before now (printed reply))
replied answers asks before now files reading (Err error) e all logs rose h = tt
replied answers asks before now files reading (Ok reply) e all logs rose h = record {
  reads = reads_of reading;
  made = subst (λ (fs : List Asked). are_made fs (reads_of reading) ≡ true) e all.made;
  logged = subst (λ (fs : List Asked). Logs before.log now.log before.taken now.taken fs (reads_of reading)) e logs;
  told = subst (λ (fs : List Asked). Tells before.told now.told fs (reads_of reading)) e all.told;
  unread = λ none. rose (failed_if reading none);
  reply_is = h;
}

tells_none : (told : Option Told) → Tells told told [] []
tells_none None = refl
tells_none (Some told) = (refl, ap (λ names. Some (record told { asked = names })) (sym (append-nil told.asked)))

-- the usage, where there is no command
pub tells_usage : (told : Option Told) (log : List Entry) (taken faults : ℕ) (written written_now : List (List ℕ))
    (failed failed_now status : ℕ) → Ends usage written written_now failed failed_now status
    → AnswersByOrGivesUp (λ reads. usage) None (around told log taken faults written failed)
    (around told log taken faults written_now failed_now) status
tells_usage told log taken faults written written_now failed failed_now status e = inl (record {
  reads = [];
  made = refl;
  logged = log_begins log taken [];
  told = tells_none told;
  unread = λ h. absurd (cc);
  ends = e;
})

-- so of words that were read as none
pub answers_usage : {C E : Type 0} (asks : C → List Asked) (replies : C → Option (List Text) → Printed) (parsed : Result (Option C) E)
    (o : Option C) (before now : Around) (status : ℕ) → parsed ≡ Ok o → o ≡ None
    → AnswersByOrGivesUp (λ reads. usage) None before now status → Answered asks replies parsed before now status
answers_usage {C} {E} asks replies parsed o before now status e none h =
    subst (λ (p : Result (Option C) E). Answered asks replies p before now status) (sym (e ∙ ap Ok none)) h

-- a call that ends with what was replied
pub answers_reply : (answers : List Read → Printed) (asks : List Asked) (before now : Standing) (reply whole : Printed)
    (written written_now : List (List ℕ)) (failed failed_now status : ℕ)
    → Replied answers asks before now reply → whole ≡ reply → Ends whole written written_now failed failed_now status
    → AnswersByOrGivesUp answers (Some asks) (around before.told before.log before.taken before.faults written failed)
    (around now.told now.log now.taken now.faults written_now failed_now) status
answers_reply answers asks before now reply whole written written_now failed failed_now status h same e = inl (record {
  reads = h.reads;
  made = h.made;
  logged = h.logged;
  told = h.told;
  unread = h.unread;
  ends = subst (λ (p : Printed). Ends p written written_now failed failed_now status) (same ∙ h.reply_is) e;
})

-- ---- out of memory

asked_prefix : (files : List Asked) (reads : List Read) → map asked_in (entries files reads) ≡ take (length (entries files reads)) files
asked_prefix [] reads = refl
asked_prefix (file ∷ files) [] = refl
asked_prefix (file ∷ files) (read ∷ reads) = ap (λ (fs : List Asked). file ∷ fs) (asked_prefix files reads)

-- after the reads of these files, which are the command's
pub short_after : {X E : Type 0} (r : Result X E) (before now : List Entry) (taken taken_now : ℕ) (files named : List Asked)
    (reads : List Read)
    → files ≡ named → Logs before now taken taken_now files reads → OnErr r (LogsPrefix before now named)
short_after (Ok value) before now taken taken_now files named reads e h = tt
short_after (Err error) before now taken taken_now files named reads e h =
    subst (λ (fs : List Asked). LogsPrefix before now fs) e (entries files reads, (h.logged, asked_prefix files reads))
