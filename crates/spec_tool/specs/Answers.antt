-- What the program answers to words and to what the reads of its files answered: a status and a text, for every command.
--
--  0  otherwise
--  1  a contract file is refused
--  2  the words are no command
--  3  a read failed; nothing is written
--  4  the write failed; a prefix of the text is written
--  5  memory ran out; nothing is written
--  6  the run file is refused
--  7  an event guesses a secret, and no collision came before or with it
--  8  the opening or an event collides, or what is judged or tried after the run
--  9  a partially signed transaction is refused, or two can't be combined
-- 10  the file of an audit is refused
-- 11  the strategy is refused
--
-- The first that applies is answered, in this order: the words; the reads, in the order of the words; the run file; the
-- contract files in theirs; the further file; the events.
use Rattle.std.specs.Prelude.{ℕ, ◌+◌, List, [], ◌∷◌, length, drop, Bool, true, false, ◌==◌, if◌then◌else◌, Option, Some, None}
use Rattle.std.specs.Prelude.{Ok, Err, codes}
use Rattle.spec_terms.specs.Advert.{Advert}
use Rattle.spec_run.specs.declared.event.Event.{Event}
use Rattle.spec_run.specs.declared.event.Run.{Run}
use Rattle.spec_run.specs.Setup.{Setup}
use Rattle.spec_text.specs.Refusals.{Judged, too_long_text, contract_of, run_of}
use Rattle.spec_text.specs.PlayText.{Ending}
use Rattle.spec_text.specs.Played.{ending, play_text}
use Rattle.spec_text.specs.PlanText.{plan_text, unless_halted}
use Rattle.spec_tool.specs.declared.rule.Rule.{Rule}
use Rattle.spec_tool.specs.Reads.{Read, Text, text_at, texts_read, are_made}
use Rattle.spec_tool.specs.Commands.{Command, check, play, plan, make, psbt_of, psbt_shown, psbt_joined, weigh, audit, auto}
use Rattle.spec_tool.specs.Commands.{files_of, Printed, prints, usage, JudgedAll, onto_judged, check_judged, ending_status}
use Rattle.spec_tool.specs.Commands.{run_answer, both_judged, make_answer}
use Rattle.spec_tool.specs.PsbtText.{psbt_text, shown_answer, joined_answer}
use Rattle.spec_tool.specs.WeighText.{weigh_text}
use Rattle.spec_tool.specs.AuditText.{audit_answer, audit_refused}
use Rattle.spec_tool.specs.AutoText.{strategy_in, strategy_refused, auto_answer}

-- ---- run and contracts

-- the contract of a file, or why it is refused
abbrev pub contract_in : Text → Judged Advert
contract_in None = Err too_long_text
contract_in (Some text) = contract_of text

abbrev pub too_long_run : List ℕ
too_long_run = codes "limit Size line 0"

-- the run of a file, or why it is refused
abbrev pub run_in : Text → Judged Run
run_in None = Err too_long_run
run_in (Some text) = run_of text

-- the contracts of these files, the first of which has the number k
abbrev pub contracts_in : ℕ → List Text → JudgedAll
contracts_in k [] = Ok []
contracts_in k (text ∷ texts) = onto_judged k (contract_in text) (contracts_in (k + 1) texts)

-- what is answered of the run of the first file and the contract of the second, where none of these is refused
abbrev pub with_contract : (Setup → List Event → Printed) → (List ℕ → List ℕ) → List Text → Printed
with_contract answer hash texts = both_judged answer hash (run_in (text_at texts 0)) (contracts_in 0 (text_at texts 1 ∷ []))

-- ---- runs that are halted

-- the answer for a run that isn't halted; of a halted one its last line alone
abbrev pub unless_stopped : ℕ → Ending → Printed → Printed
unless_stopped status end answer = if status == 0 then answer else prints status (unless_halted end [])

abbrev pub if_whole : (Setup → List Event → Printed) → Setup → List Event → Printed
if_whole answer s es = unless_stopped (ending_status (ending s es)) (ending s es) (answer s es)

-- a text of a run that isn't halted
abbrev pub printed_of : (Setup → List Event → List ℕ) → Setup → List Event → Printed
printed_of text s es = prints 0 (text s es)

-- ---- commands with a further file, which is judged before the events

-- of an audit
abbrev pub audited_file : Text → Setup → List Event → Printed
audited_file None s es = audit_refused
audited_file (Some text) s es = if_whole (audit_answer text) s es

abbrev pub rules_judged : Judged (List Rule) → Setup → List Event → Printed
rules_judged (Err why) s es = strategy_refused why
rules_judged (Ok rules) s es = if_whole (auto_answer rules) s es

-- how many bytes a file has
abbrev pub size_of : Text → ℕ
size_of None = 0
size_of (Some text) = length text

-- of a strategy
abbrev pub strategy_file : Text → Text → Setup → List Event → Printed
strategy_file run strategy s es = rules_judged (strategy_in (size_of run) s.header es strategy) s es

-- ---- all commands

-- what a command answers to the texts of its files
abbrev pub text_answer : (List ℕ → List ℕ) → Command → List Text → Printed
text_answer hash (check contract) texts = check_judged (contract_in (text_at texts 0))
text_answer hash (play run contracts) texts = both_judged (run_answer play_text) hash (run_in (text_at texts 0))
    (contracts_in 0 (drop 1 texts))
text_answer hash (plan run contract) texts = with_contract (run_answer plan_text) hash texts
text_answer hash (make number size) texts = make_answer hash number size
text_answer hash (psbt_of run contract which) texts = with_contract (if_whole (printed_of (psbt_text which))) hash texts
text_answer hash (psbt_shown file) texts = shown_answer (text_at texts 0)
text_answer hash (psbt_joined first second) texts = joined_answer (text_at texts 0) (text_at texts 1)
text_answer hash (weigh run contract) texts = with_contract (if_whole (printed_of weigh_text)) hash texts
text_answer hash (audit run contract file) texts = with_contract (audited_file (text_at texts 2)) hash texts
text_answer hash (auto run contract strategy) texts = with_contract (strategy_file (text_at texts 0) (text_at texts 2)) hash texts

-- a read that failed
abbrev pub unread : Printed
unread = prints 3 []

abbrev pub read_answer : (List ℕ → List ℕ) → Command → Option (List Text) → Printed
read_answer hash command None = unread
read_answer hash command (Some texts) = text_answer hash command texts

-- what a command answers to its reads: those of its files in order, up to the first that failed
abbrev pub answer : (List ℕ → List ℕ) → Command → List Read → Printed
answer hash command reads = read_answer hash command (texts_read reads)

-- ---- the call

-- what words answer; those that are no command read nothing
abbrev pub tool_answer : (List ℕ → List ℕ) → Option Command → List Read → Printed
tool_answer hash None reads = usage
tool_answer hash (Some command) reads = answer hash command reads

-- whether these are the reads of these words
abbrev pub tool_reads : Option Command → List Read → Bool
tool_reads None reads = length reads == 0
tool_reads (Some command) reads = are_made (files_of command) reads

-- The status with which a call ends, where the write went through or not. An empty text isn't written, so nothing fails there.
abbrev pub ended : Printed → Bool → ℕ
ended printed true = printed.status
ended printed false = if length printed.text == 0 then printed.status else 4
