-- Each answer but that of a failed read has a text.
use Rattle.std.proofs.Common.{◌≡◌, ℕ, ◌+◌, length, ◌↔◌, Bool, true, false, List, [], ◌∷◌, ◌++◌, Option, Some, None, Ok, Err, refl}
use Rattle.std.proofs.Common.{arith}
use Rattle.std.specs.Prelude.{if◌then◌else◌, Result, flat_map}
use Rattle.std.specs.Option.{option_map_or}
use Rattle.spec_terms.specs.Advert.{Advert}
use Rattle.spec_compiler.specs.Instance.{Instance}
use Rattle.spec_run.specs.declared.event.Event.{Event}
use Rattle.spec_run.specs.declared.event.Run.{Run}
use Rattle.spec_run.specs.Setup.{Setup, contract_at}
use Rattle.spec_run.specs.World.{World}
use Rattle.spec_run.specs.Compiled.{compiled_instance}
use Rattle.spec_run.specs.Pending.{Collided, Guessed}
use Rattle.spec_run.specs.Translation.{last_world}
use Rattle.spec_text.specs.declared.entry.Entry.{Entry}
use Rattle.spec_text.specs.Generator.{generated_contract, generated_run}
use Rattle.spec_text.specs.PlayText.{Ending, whole, guessed, collided, start_lines, entries_text, ending_text, report_text}
use Rattle.spec_text.specs.Played.{entries, ending, play_text}
use Rattle.spec_text.specs.PlanText.{setting_text, unless_halted, plan_text, make_text}
use Rattle.spec_text.specs.Refusals.{Judged}
use Rattle.spec_text.specs.RunText.{newline, party_text, honest_text, secret_text, deposit_text, header_text, run_text}
use Rattle.spec_tool.specs.declared.which.Which.{Which}
use Rattle.spec_tool.specs.declared.rule.Rule.{Rule}
use Rattle.spec_tool.specs.declared.finding.Finding.{Finding}
use Rattle.spec_tool.specs.Base64.{base64_text}
use Rattle.spec_tool.specs.Listed.{Listed, listed_at}
use Rattle.spec_tool.specs.Reads.{Read, Text, text_at, texts_read}
use Rattle.spec_tool.specs.Commands.{Command, check, play, plan, make, psbt_of, psbt_shown, psbt_joined, weigh, audit, auto}
use Rattle.spec_tool.specs.Commands.{Printed, JudgedAll, check_judged, both_judged, run_answer, ending_status, setup_of}
use Rattle.spec_tool.specs.Psbt.{Psbt}
use Rattle.spec_tool.specs.PsbtBytes.{psbt_bytes, Discord, combined}
use Rattle.spec_tool.specs.PsbtText.{psbt_text, psbt_in, shown_judged, joined_judged, combined_answer, has_transaction, setting_psbt}
use Rattle.spec_tool.specs.PsbtText.{no_path_line, psbt_line, listed_psbt, which_psbt}
use Rattle.spec_tool.specs.WeighText.{weigh_text, plan_value}
use Rattle.spec_tool.specs.Audit.{Missing, listed_by, listed_in, findings_from, absent_of, missing_of, audit_collision}
use Rattle.spec_tool.specs.AuditText.{audit_answer, audited, audit_text, finding_line, absent_line, missing_line, uncompiled_text}
use Rattle.spec_tool.specs.Turns.{Progressed, extended}
use Rattle.spec_tool.specs.AutoText.{strategy_in, auto_answer, progressed_answer, longer_run}
use Rattle.spec_tool.specs.Answers.{contract_in, run_in, unless_stopped, if_whole, printed_of, audited_file, rules_judged}
use Rattle.spec_tool.specs.Answers.{strategy_file, size_of, text_answer, read_answer, tool_answer}
use Rattle.spec_tool.specs.Causes.{contracts_of, statuses}
use Rattle.spec_text.specs.Lines.{lines_of}
use Rattle.theory_tool.proofs.Statuses.{Answers, apart, known}

-- ---- texts that aren't empty

abbrev Filled : List ℕ → Type 0
Filled text = text ≡ [] → ⊥

first_filled : (b : ℕ) (bytes : List ℕ) → Filled (b ∷ bytes)
first_filled b bytes e = cc

left_filled : (xs ys : List ℕ) → Filled xs → Filled (xs ++ ys)
left_filled [] ys h = absurd (h refl)
left_filled (x ∷ xs) ys h = first_filled x (xs ++ ys)

right_filled : (xs ys : List ℕ) → Filled ys → Filled (xs ++ ys)
right_filled [] ys h = h
right_filled (x ∷ xs) ys h = first_filled x (xs ++ ys)

-- ---- played runs

ending_filled : (i : ℕ) (e : Ending) → Filled (ending_text i e)
ending_filled i (whole tip live g offers) = first_filled _ _
ending_filled i (guessed event party secret) = first_filled _ _
ending_filled i (collided None earlier later) = first_filled _ _
ending_filled i (collided (Some event) earlier later) = first_filled _ _

report_filled : (deposits : List (List ℕ × ℕ)) (es : List Entry) (e : Ending) → Filled (report_text deposits es e)
report_filled deposits es (whole tip live g offers) =
    right_filled (start_lines 0 deposits) _ (right_filled (entries_text 1 es) _ (ending_filled (length es + 1) (whole tip live g offers)))
report_filled deposits es (guessed event party secret) =
    right_filled (start_lines 0 deposits) _
    (right_filled (entries_text 1 es) _ (ending_filled (length es + 1) (guessed event party secret)))
report_filled deposits es (collided None earlier later) = first_filled _ _
report_filled deposits es (collided (Some event) earlier later) =
    right_filled (start_lines 0 deposits) _
    (right_filled (entries_text 1 es) _ (ending_filled (length es + 1) (collided (Some event) earlier later)))

play_filled : (s : Setup) (es : List Event) → Filled (play_text s es)
unfolding play_text
play_filled s es = report_filled s.header.deposits (entries s es) (ending s es)

halted_filled : (e : Ending) (text : List ℕ) → Filled text → Filled (unless_halted e text)
halted_filled (whole tip live g offers) text h = h
halted_filled (guessed event party secret) text h = first_filled _ _
halted_filled (collided event earlier later) text h = first_filled _ _

setting_filled : (hash : List ℕ → List ℕ) (o : Option Instance) → Filled (setting_text hash o)
setting_filled hash None = first_filled _ _
setting_filled hash (Some instance) = first_filled _ _

plan_filled : (s : Setup) (es : List Event) → Filled (plan_text s es)
unfolding plan_text
plan_filled s es = halted_filled (ending s es) _ (setting_filled s.hash (compiled_instance s (last_world s es) 0))

make_filled : (s : Setup) (es : List Event) → Filled (make_text s es)
unfolding make_text
make_filled s es = halted_filled (ending s es) _ (first_filled _ _)

option_filled : (o : Option Listed) (f : Listed → List ℕ) (text : List ℕ) → ((l : Listed) → Filled (f l)) → Filled text
    → Filled (option_map_or f o text)
option_filled None f text h k = k
option_filled (Some l) f text h k = h l

psbt_setting_filled : (s : Setup) (w : World) (which : Which) (o : Option Instance) → Filled (setting_psbt s.hash w.book which o)
psbt_setting_filled s w which None = first_filled _ _
psbt_setting_filled s w which (Some instance) =
    option_filled (listed_at s.hash instance which) (λ l. psbt_line (listed_psbt s.hash w.book l)) (no_path_line which)
    (λ l. right_filled (base64_text (psbt_bytes (listed_psbt s.hash w.book l))) newline (first_filled _ _)) (first_filled _ _)

which_filled : (s : Setup) (w : World) (which : Which) → Filled (which_psbt s w which)
which_filled s w which = by_test (has_transaction (contract_at s 0) which)
  where
    by_test : (b : Bool)
        → Filled (if b then setting_psbt s.hash w.book which (compiled_instance s w 0) else no_path_line which)
    by_test true = psbt_setting_filled s w which (compiled_instance s w 0)
    by_test false = first_filled _ _

psbt_filled : (which : Which) (s : Setup) (es : List Event) → Filled (psbt_text which s es)
unfolding psbt_text
psbt_filled which s es = which_filled s (last_world s es) which

weigh_filled : (s : Setup) (es : List Event) → Filled (weigh_text s es)
unfolding weigh_text
weigh_filled s es = right_filled (plan_value s.hash 0 (compiled_instance s (last_world s es) 0)) newline (first_filled _ _)

-- ---- audits

-- where nothing is found, every compiled transaction is absent
lists_filled : (o : Option Instance) (s : Setup) (fs : List Finding) (missing : List Missing)
    → Filled ((flat_map finding_line fs ++ (flat_map absent_line (absent_of (listed_by s o) fs) ++ flat_map missing_line missing))
    ++ uncompiled_text o)
lists_filled None s fs missing = right_filled _ _ (first_filled _ _)
lists_filled (Some instance) s [] missing = first_filled _ _
lists_filled (Some instance) s (f ∷ fs) missing = first_filled _ _

audit_text_filled : (s : Setup) (w : World) (text : List ℕ) → Filled (audit_text s w text)
audit_text_filled s w text =
    lists_filled (compiled_instance s w 0) s (findings_from s w (listed_in s w 0) 1 (lines_of text))
    (missing_of s.hash w.book (listed_in s w 0))

audited_filled : (o : Option (List ℕ × List ℕ)) (text : List ℕ) → Filled text → Filled (audited o text).text
audited_filled None text h = h
audited_filled (Some pair) text h = first_filled _ _

audit_filled : (text : List ℕ) (s : Setup) (es : List Event) → Filled (audit_answer text s es).text
unfolding audit_answer
audit_filled text s es =
    audited_filled (audit_collision s (last_world s es) text) (audit_text s (last_world s es) text)
    (audit_text_filled s (last_world s es) text)

-- ---- strategies

run_filled : (r : Run) → Filled (run_text r)
run_filled r =
    left_filled (header_text r.header) _
    (right_filled (flat_map party_text r.header.parties) _
    (right_filled (flat_map honest_text r.header.honest) _
    (right_filled (flat_map secret_text r.header.secrets) _
    (right_filled (flat_map deposit_text r.header.deposits) _ (first_filled _ _)))))

progressed_filled : (s : Setup) (es : List Event) (p : Progressed) → Filled (progressed_answer s.header es p).text
progressed_filled s es (Ok progress) = run_filled (longer_run s.header es progress)
progressed_filled s es (Err (Collided earlier later)) = first_filled _ _
progressed_filled s es (Err (Guessed party secret)) = first_filled _ _

auto_filled : (rules : List Rule) (s : Setup) (es : List Event) → Filled (auto_answer rules s es).text
unfolding auto_answer
auto_filled rules s es = progressed_filled s es (extended s (last_world s es) rules)

-- ---- answers

stopped_filled : (e : Ending) (printed : Printed) → Filled printed.text → Filled (unless_stopped (ending_status e) e printed).text
stopped_filled (whole tip live g offers) printed h = h
stopped_filled (guessed event party secret) printed h = first_filled _ _
stopped_filled (collided event earlier later) printed h = first_filled _ _

audit_file_filled : (t : Text) (s : Setup) (es : List Event) → Filled (audited_file t s es).text
audit_file_filled None s es = first_filled _ _
audit_file_filled (Some text) s es = stopped_filled (ending s es) (audit_answer text s es) (audit_filled text s es)

rules_filled : (j : Judged (List Rule)) (s : Setup) (es : List Event) → Filled (rules_judged j s es).text
rules_filled (Err why) s es = first_filled _ _
rules_filled (Ok rules) s es = stopped_filled (ending s es) (auto_answer rules s es) (auto_filled rules s es)

both_filled : (of : Answers) → ((s : Setup) (es : List Event) → Filled (of s es).text) → (hash : List ℕ → List ℕ) (run : Judged Run)
    (all : JudgedAll) → Filled (both_judged of hash run all).text
both_filled of h hash (Err why) all = first_filled _ _
both_filled of h hash (Ok run) (Err refusal) = first_filled _ _
both_filled of h hash (Ok run) (Ok adverts) = h (setup_of hash run adverts) run.events

check_filled : (j : Judged Advert) → Filled (check_judged j).text
check_filled (Ok advert) = first_filled _ _
check_filled (Err why) = first_filled _ _

shown_filled : (j : Judged Psbt) → Filled (shown_judged j).text
shown_filled (Ok p) = first_filled _ _
shown_filled (Err why) = first_filled _ _

combined_filled : (r : Result Psbt Discord) → Filled (combined_answer r).text
combined_filled (Ok p) = first_filled _ _
combined_filled (Err why) = first_filled _ _

joined_filled : (first second : Judged Psbt) → Filled (joined_judged first second).text
joined_filled (Err why) second = first_filled _ _
joined_filled (Ok first) (Err why) = first_filled _ _
joined_filled (Ok first) (Ok second) = combined_filled (combined first second)

filled : (hash : List ℕ → List ℕ) (command : Command) (texts : List Text) → Filled (text_answer hash command texts).text
filled hash (check contract) texts = check_filled (contract_in (text_at texts 0))
filled hash (play run contracts) texts =
    both_filled (run_answer play_text) (λ s es. play_filled s es) hash (run_in (text_at texts 0)) (contracts_of (play run contracts) texts)
filled hash (plan run contract) texts =
    both_filled (run_answer plan_text) (λ s es. plan_filled s es) hash (run_in (text_at texts 0)) (contracts_of (plan run contract) texts)
filled hash (make number size) texts =
    make_filled (setup_of hash (generated_run number size) (generated_contract number size ∷ [])) ((generated_run number size).events)
filled hash (psbt_of run contract which) texts =
    both_filled (if_whole (printed_of (psbt_text which)))
    (λ s es. stopped_filled (ending s es) (printed_of (psbt_text which) s es) (psbt_filled which s es)) hash (run_in (text_at texts 0))
    (contracts_of (psbt_of run contract which) texts)
filled hash (psbt_shown file) texts = shown_filled (psbt_in (text_at texts 0))
filled hash (psbt_joined first second) texts = joined_filled (psbt_in (text_at texts 0)) (psbt_in (text_at texts 1))
filled hash (weigh run contract) texts =
    both_filled (if_whole (printed_of weigh_text))
    (λ s es. stopped_filled (ending s es) (printed_of weigh_text s es) (weigh_filled s es)) hash (run_in (text_at texts 0))
    (contracts_of (weigh run contract) texts)
filled hash (audit run contract file) texts =
    both_filled (audited_file (text_at texts 2)) (λ s es. audit_file_filled (text_at texts 2) s es) hash (run_in (text_at texts 0))
    (contracts_of (audit run contract file) texts)
filled hash (auto run contract strategy) texts =
    both_filled (strategy_file (text_at texts 0) (text_at texts 2))
    (λ s es. rules_filled (strategy_in (size_of (text_at texts 0)) s.header es (text_at texts 2)) s es) hash (run_in (text_at texts 0))
    (contracts_of (auto run contract strategy) texts)

-- ---- the call

read_written : (hash : List ℕ → List ℕ) (command : Command) (o : Option (List Text))
    → ((read_answer hash command o).text ≡ []) ↔ ((read_answer hash command o).status ≡ 3)
read_written hash command None = (λ e. refl, λ e. refl)
read_written hash command (Some texts) = (
  λ e. absurd (filled hash command texts e),
  λ e. absurd (apart 3 statuses refl (text_answer hash command texts).status (known hash command texts) e),
)

pub tool_written : (hash : List ℕ → List ℕ) (command : Option Command) (reads : List Read)
    → ((tool_answer hash command reads).text ≡ []) ↔ ((tool_answer hash command reads).status ≡ 3)
tool_written hash None reads = (λ e. absurd (first_filled _ _ e), λ e. absurd (omega (arith, e)))
tool_written hash (Some command) reads = read_written hash command (texts_read reads)
