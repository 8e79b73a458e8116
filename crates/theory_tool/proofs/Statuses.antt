-- Each status comes by its cause.
use Rattle.std.proofs.Common.{◌≡◌, ℕ, zero, ◌↔◌, Bool, true, false, List, [], ◌∷◌, Option, Some, None, Ok, Err, refl, sym, subst, ◌∙◌}
use Rattle.std.proofs.Common.{arith}
use Rattle.std.specs.Prelude.{◌==◌, ◌||◌, ◌&&◌, Result, is_err}
use Rattle.std.proofs.lemmas.Bool.{false≢true}
use Rattle.theory_text.proofs.Options.{none_some}
use Rattle.spec_data.specs.Lists.{has_number}
use Rattle.spec_terms.specs.Advert.{Advert}
use Rattle.spec_run.specs.declared.event.Event.{Event}
use Rattle.spec_run.specs.declared.event.Run.{Run}
use Rattle.spec_run.specs.Setup.{Setup}
use Rattle.spec_run.specs.Pending.{Collided, Guessed}
use Rattle.spec_run.specs.Translation.{last_world}
use Rattle.spec_text.specs.PlayText.{Ending, whole, guessed, collided}
use Rattle.spec_text.specs.Played.{ending, play_text}
use Rattle.spec_text.specs.PlanText.{plan_text}
use Rattle.spec_text.specs.Refusals.{Judged}
use Rattle.spec_text.specs.Generator.{generated_contract, generated_run}
use Rattle.spec_tool.specs.declared.rule.Rule.{Rule}
use Rattle.spec_tool.specs.Reads.{Read, Text, text_at, texts_read}
use Rattle.spec_tool.specs.Commands.{Command, check, play, plan, make, psbt_of, psbt_shown, psbt_joined, weigh, audit, auto}
use Rattle.spec_tool.specs.Commands.{Printed, prints, JudgedAll, onto_judged, check_judged, both_judged, run_answer, ending_status}
use Rattle.spec_tool.specs.Commands.{setup_of}
use Rattle.spec_tool.specs.Psbt.{Psbt}
use Rattle.spec_tool.specs.PsbtBytes.{Discord, combined}
use Rattle.spec_tool.specs.PsbtText.{psbt_text, psbt_in, shown_judged, joined_judged, combined_answer}
use Rattle.spec_tool.specs.WeighText.{weigh_text}
use Rattle.spec_tool.specs.Audit.{audit_collision}
use Rattle.spec_tool.specs.AuditText.{audit_answer, audited, audit_text}
use Rattle.spec_tool.specs.Turns.{Progressed, extended}
use Rattle.spec_tool.specs.AutoText.{strategy_in, auto_answer, progressed_answer}
use Rattle.spec_tool.specs.Answers.{contract_in, run_in, unless_stopped, if_whole, printed_of, audited_file}
use Rattle.spec_tool.specs.Answers.{rules_judged, strategy_file, size_of, text_answer, read_answer, tool_answer}
use Rattle.spec_tool.specs.Causes.{statuses, is_run_refused, is_contract_refused, are_refused, is_psbt_refused, CausesTheorem}

-- an answer to a played run: no status but these
abbrev after_files : List ℕ
after_files = 0 ∷ 7 ∷ 8 ∷ 10 ∷ 11 ∷ []

abbrev IsAfter : Printed → Type 0
IsAfter printed = has_number printed.status after_files ≡ true

abbrev pub Answers : Type 0
Answers = Setup → List Event → Printed

-- ---- runs

ending_is : (e : Ending) (text : List ℕ) → IsAfter (prints (ending_status e) text)
ending_is (whole tip live g offers) text = refl
ending_is (guessed event party secret) text = refl
ending_is (collided event earlier later) text = refl

run_is : (text : Setup → List Event → List ℕ) (s : Setup) (es : List Event) → IsAfter (run_answer text s es)
run_is text s es = ending_is (ending s es) (text s es)

stopped_is : (e : Ending) (printed : Printed) → IsAfter printed → IsAfter (unless_stopped (ending_status e) e printed)
stopped_is (whole tip live g offers) printed h = h
stopped_is (guessed event party secret) printed h = refl
stopped_is (collided event earlier later) printed h = refl

whole_is : (of : Answers) → ((s : Setup) (es : List Event) → IsAfter (of s es)) → (s : Setup) (es : List Event) → IsAfter (if_whole of s es)
whole_is of h s es = stopped_is (ending s es) (of s es) (h s es)

printed_is : (text : Setup → List Event → List ℕ) (s : Setup) (es : List Event) → IsAfter (printed_of text s es)
printed_is text s es = refl

-- ---- further files

audited_is : (pair : Option (List ℕ × List ℕ)) (text : List ℕ) → IsAfter (audited pair text)
audited_is (Some pair) text = refl
audited_is None text = refl

audit_is : (text : List ℕ) (s : Setup) (es : List Event) → IsAfter (audit_answer text s es)
unfolding audit_answer
audit_is text s es = audited_is (audit_collision s (last_world s es) text) (audit_text s (last_world s es) text)

audit_file_is : (text : Text) (s : Setup) (es : List Event) → IsAfter (audited_file text s es)
audit_file_is None s es = refl
audit_file_is (Some text) s es = whole_is (audit_answer text) (audit_is text) s es

progressed_is : (s : Setup) (es : List Event) (p : Progressed) → IsAfter (progressed_answer s.header es p)
progressed_is s es (Ok progress) = refl
progressed_is s es (Err (Collided earlier later)) = refl
progressed_is s es (Err (Guessed party secret)) = refl

auto_is : (rules : List Rule) (s : Setup) (es : List Event) → IsAfter (auto_answer rules s es)
unfolding auto_answer
auto_is rules s es = progressed_is s es (extended s (last_world s es) rules)

rules_are : (j : Judged (List Rule)) (s : Setup) (es : List Event) → IsAfter (rules_judged j s es)
rules_are (Err why) s es = refl
rules_are (Ok rules) s es = whole_is (auto_answer rules) (auto_is rules) s es

strategy_is : (run strategy : Text) (s : Setup) (es : List Event) → IsAfter (strategy_file run strategy s es)
strategy_is run strategy s es = rules_are (strategy_in (size_of run) s.header es strategy) s es

-- ---- run and contracts

-- the status of a refused contract
abbrev contract_status : ℕ
contract_status = 1

one_six : contract_status ≡ 6 → ⊥
one_six e = omega (arith, e)

-- what tells a status from those of a list
pub apart : (n : ℕ) (numbers : List ℕ) → has_number n numbers ≡ false → (status : ℕ) → has_number status numbers ≡ true → status ≡ n → ⊥
apart n numbers none status h e = false≢true (sym none ∙ subst (λ (k : ℕ). has_number k numbers ≡ true) e h)

wider : (a b c d e x y z : Bool) → (a || (b || (c || (d || (e || false))))) ≡ true
    → (a || (x || (y || (b || (c || (z || (d || (e || false)))))))) ≡ true
wider a b c d e x y z h = grind arith

after_known : (status : ℕ) → has_number status after_files ≡ true → has_number status statuses ≡ true
after_known n h = wider (0 == n) (7 == n) (8 == n) (10 == n) (11 == n) (1 == n) (6 == n) (9 == n) h

both_known : (of : Answers) → ((s : Setup) (es : List Event) → IsAfter (of s es))
    → (hash : List ℕ → List ℕ) (run : Judged Run) (all : JudgedAll)
    → has_number (both_judged of hash run all).status statuses ≡ true
both_known of h hash (Err why) all = refl
both_known of h hash (Ok run) (Err refusal) = refl
both_known of h hash (Ok run) (Ok adverts) = after_known (of (setup_of hash run adverts) run.events).status
    (h (setup_of hash run adverts) run.events)

both_refused : (of : Answers) → ((s : Setup) (es : List Event) → IsAfter (of s es))
    → (hash : List ℕ → List ℕ) (run : Judged Run) (all : JudgedAll)
    → ((both_judged of hash run all).status ≡ 6) ↔ (is_err run ≡ true)
both_refused of h hash (Err why) all = (λ e. refl, λ e. refl)
both_refused of h hash (Ok run) (Err refusal) = (λ e. absurd (one_six e), λ e. absurd (false≢true e))
both_refused of h hash (Ok run) (Ok adverts) = (
  λ e. absurd (apart 6 after_files refl (of (setup_of hash run adverts) run.events).status (h (setup_of hash run adverts) run.events) e),
  λ e. absurd (false≢true e),
)

both_contract : (of : Answers) → ((s : Setup) (es : List Event) → IsAfter (of s es))
    → (hash : List ℕ → List ℕ) (run : Judged Run) (all : JudgedAll)
    → ((both_judged of hash run all).status ≡ 1) ↔ ((is_err run ≡ false) × (is_err all ≡ true))
both_contract of h hash (Err why) all = (λ e. absurd (one_six (sym e)), λ p. absurd (false≢true (sym p.0)))
both_contract of h hash (Ok run) (Err refusal) = (λ e. (refl, refl), λ p. refl)
both_contract of h hash (Ok run) (Ok adverts) = (
  λ e. absurd (apart 1 after_files refl (of (setup_of hash run adverts) run.events).status (h (setup_of hash run adverts) run.events) e),
  λ p. absurd (false≢true p.1),
)

-- ---- commands without a run

-- statuses of commands that play no run file
abbrev without_run : List ℕ
without_run = 0 ∷ 1 ∷ 7 ∷ 8 ∷ 9 ∷ []

check_is : (j : Judged Advert) → has_number (check_judged j).status without_run ≡ true
check_is (Ok advert) = refl
check_is (Err why) = refl

make_is : (e : Ending) → has_number (ending_status e) without_run ≡ true
make_is (whole tip live g offers) = refl
make_is (guessed event party secret) = refl
make_is (collided event earlier later) = refl

shown_is : (j : Judged Psbt) → has_number (shown_judged j).status without_run ≡ true
shown_is (Ok p) = refl
shown_is (Err why) = refl

combined_is : (r : Result Psbt Discord) → has_number (combined_answer r).status without_run ≡ true
combined_is (Ok p) = refl
combined_is (Err why) = refl

joined_is : (first second : Judged Psbt) → has_number (joined_judged first second).status without_run ≡ true
joined_is (Err why) second = refl
joined_is (Ok first) (Err why) = refl
joined_is (Ok first) (Ok second) = combined_is (combined first second)

wider_without : (a b c d e x y z : Bool) → (a || (b || (c || (d || (e || false))))) ≡ true
    → (a || (b || (x || (c || (d || (e || (y || (z || false)))))))) ≡ true
wider_without a b c d e x y z h = grind arith

without_known : (status : ℕ) → has_number status without_run ≡ true → has_number status statuses ≡ true
without_known n h = wider_without (0 == n) (1 == n) (7 == n) (8 == n) (9 == n) (6 == n) (10 == n) (11 == n) h

-- no run is refused where none is played
no_refusal : (status : ℕ) (b : Bool) → has_number status without_run ≡ true → (status ≡ 6) ↔ ((false && b) ≡ true)
no_refusal status b h = (λ e. absurd (apart 6 without_run refl status h e), λ e. absurd (false≢true e))

-- ---- all commands

-- the answer of each command that plays a run
of_play : (s : Setup) (es : List Event) → IsAfter (run_answer play_text s es)
of_play s es = run_is play_text s es

of_plan : (s : Setup) (es : List Event) → IsAfter (run_answer plan_text s es)
of_plan s es = run_is plan_text s es

of_text : (text : Setup → List Event → List ℕ) (s : Setup) (es : List Event) → IsAfter (if_whole (printed_of text) s es)
of_text text s es = whole_is (printed_of text) (printed_is text) s es

abbrev status_of : (List ℕ → List ℕ) → Command → List Text → ℕ
status_of hash command texts = (text_answer hash command texts).status

-- how a generated run ends
abbrev made_ending : (List ℕ → List ℕ) → ℕ → ℕ → Ending
made_ending hash number size =
    ending (setup_of hash (generated_run number size) (generated_contract number size ∷ [])) ((generated_run number size).events)

pub known : (hash : List ℕ → List ℕ) (command : Command) (texts : List Text) → has_number (text_answer hash command texts).status statuses
    ≡ true
known hash (check contract) texts = without_known (status_of hash (check contract) texts) (check_is (contract_in (text_at texts 0)))
known hash (play run contracts) texts = both_known (run_answer play_text) of_play hash (run_in (text_at texts 0)) _
known hash (plan run contract) texts = both_known (run_answer plan_text) of_plan hash (run_in (text_at texts 0)) _
known hash (make number size) texts = without_known (status_of hash (make number size) texts) (make_is (made_ending hash number size))
known hash (psbt_of run contract which) texts =
    both_known (if_whole (printed_of (psbt_text which))) (of_text (psbt_text which)) hash (run_in (text_at texts 0)) _
known hash (psbt_shown file) texts = without_known (status_of hash (psbt_shown file) texts) (shown_is (psbt_in (text_at texts 0)))
known hash (psbt_joined first second) texts = without_known (status_of hash (psbt_joined first second) texts)
    (joined_is (psbt_in (text_at texts 0)) (psbt_in (text_at texts 1)))
known hash (weigh run contract) texts = both_known (if_whole (printed_of weigh_text)) (of_text weigh_text) hash (run_in (text_at texts 0)) _
known hash (audit run contract file) texts =
    both_known (audited_file (text_at texts 2)) (audit_file_is (text_at texts 2)) hash (run_in (text_at texts 0)) _
known hash (auto run contract strategy) texts =
    both_known (strategy_file (text_at texts 0) (text_at texts 2)) (strategy_is (text_at texts 0) (text_at texts 2)) hash
    (run_in (text_at texts 0)) _

refused_run : (hash : List ℕ → List ℕ) (command : Command) (texts : List Text)
    → ((text_answer hash command texts).status ≡ 6) ↔ (is_run_refused command texts ≡ true)
refused_run hash (check contract) texts = no_refusal (status_of hash (check contract) texts) (is_err (run_in (text_at texts 0)))
    (check_is (contract_in (text_at texts 0)))
refused_run hash (play run contracts) texts = both_refused (run_answer play_text) of_play hash (run_in (text_at texts 0)) _
refused_run hash (plan run contract) texts = both_refused (run_answer plan_text) of_plan hash (run_in (text_at texts 0)) _
refused_run hash (make number size) texts = no_refusal (status_of hash (make number size) texts) (is_err (run_in (text_at texts 0)))
    (make_is (made_ending hash number size))
refused_run hash (psbt_of run contract which) texts =
    both_refused (if_whole (printed_of (psbt_text which))) (of_text (psbt_text which)) hash (run_in (text_at texts 0)) _
refused_run hash (psbt_shown file) texts = no_refusal (status_of hash (psbt_shown file) texts) (is_err (run_in (text_at texts 0)))
    (shown_is (psbt_in (text_at texts 0)))
refused_run hash (psbt_joined first second) texts = no_refusal (status_of hash (psbt_joined first second) texts)
    (is_err (run_in (text_at texts 0))) (joined_is (psbt_in (text_at texts 0)) (psbt_in (text_at texts 1)))
refused_run hash (weigh run contract) texts =
    both_refused (if_whole (printed_of weigh_text)) (of_text weigh_text) hash (run_in (text_at texts 0)) _
refused_run hash (audit run contract file) texts =
    both_refused (audited_file (text_at texts 2)) (audit_file_is (text_at texts 2)) hash (run_in (text_at texts 0)) _
refused_run hash (auto run contract strategy) texts =
    both_refused (strategy_file (text_at texts 0) (text_at texts 2)) (strategy_is (text_at texts 0) (text_at texts 2)) hash
    (run_in (text_at texts 0)) _

-- no contract is refused where none is read
no_contract : (status : ℕ) (numbers : List ℕ) → has_number 1 numbers ≡ false → has_number status numbers ≡ true
    → (status ≡ 1) ↔ ((false ≡ false) × (false ≡ true))
no_contract status numbers none h = (λ e. absurd (apart 1 numbers none status h e), λ p. absurd (false≢true p.1))

zero_one : zero ≡ 1 → ⊥
zero_one e = omega (arith, e)

check_refused : (j : Judged Advert) → ((check_judged j).status ≡ 1) ↔ ((false ≡ false) × (is_err (onto_judged 0 j (Ok [])) ≡ true))
check_refused (Ok advert) = (λ e. absurd (zero_one e), λ p. absurd (false≢true p.1))
check_refused (Err why) = (λ e. (refl, refl), λ p. refl)

-- statuses of the commands without a contract
abbrev without_contract : List ℕ
without_contract = 0 ∷ 7 ∷ 8 ∷ 9 ∷ []

ending_without : (e : Ending) → has_number (ending_status e) without_contract ≡ true
ending_without (whole tip live g offers) = refl
ending_without (guessed event party secret) = refl
ending_without (collided event earlier later) = refl

shown_without : (j : Judged Psbt) → has_number (shown_judged j).status without_contract ≡ true
shown_without (Ok p) = refl
shown_without (Err why) = refl

combined_without : (r : Result Psbt Discord) → has_number (combined_answer r).status without_contract ≡ true
combined_without (Ok p) = refl
combined_without (Err why) = refl

joined_without : (first second : Judged Psbt) → has_number (joined_judged first second).status without_contract ≡ true
joined_without (Err why) second = refl
joined_without (Ok first) (Err why) = refl
joined_without (Ok first) (Ok second) = combined_without (combined first second)

refused_contract : (hash : List ℕ → List ℕ) (command : Command) (texts : List Text)
    → ((text_answer hash command texts).status ≡ 1)
    ↔ ((is_run_refused command texts ≡ false) × (is_contract_refused command texts ≡ true))
refused_contract hash (check contract) texts = check_refused (contract_in (text_at texts 0))
refused_contract hash (play run contracts) texts = both_contract (run_answer play_text) of_play hash (run_in (text_at texts 0)) _
refused_contract hash (plan run contract) texts = both_contract (run_answer plan_text) of_plan hash (run_in (text_at texts 0)) _
refused_contract hash (make number size) texts =
    no_contract (status_of hash (make number size) texts) without_contract refl (ending_without (made_ending hash number size))
refused_contract hash (psbt_of run contract which) texts =
    both_contract (if_whole (printed_of (psbt_text which))) (of_text (psbt_text which)) hash (run_in (text_at texts 0)) _
refused_contract hash (psbt_shown file) texts =
    no_contract (status_of hash (psbt_shown file) texts) without_contract refl (shown_without (psbt_in (text_at texts 0)))
refused_contract hash (psbt_joined first second) texts =
    no_contract (status_of hash (psbt_joined first second) texts) without_contract refl
    (joined_without (psbt_in (text_at texts 0)) (psbt_in (text_at texts 1)))
refused_contract hash (weigh run contract) texts =
    both_contract (if_whole (printed_of weigh_text)) (of_text weigh_text) hash (run_in (text_at texts 0)) _
refused_contract hash (audit run contract file) texts =
    both_contract (audited_file (text_at texts 2)) (audit_file_is (text_at texts 2)) hash (run_in (text_at texts 0)) _
refused_contract hash (auto run contract strategy) texts =
    both_contract (strategy_file (text_at texts 0) (text_at texts 2)) (strategy_is (text_at texts 0) (text_at texts 2)) hash
    (run_in (text_at texts 0)) _

-- ---- partially signed transactions

-- statuses of the commands that read no partially signed transaction
abbrev without_psbt : List ℕ
without_psbt = 0 ∷ 1 ∷ 6 ∷ 7 ∷ 8 ∷ 10 ∷ 11 ∷ []

wider_psbt : (a b c d e x y : Bool) → (a || (b || (c || (d || (e || false))))) ≡ true
    → (a || (x || (y || (b || (c || (d || (e || false))))))) ≡ true
wider_psbt a b c d e x y h = grind arith

after_psbt : (status : ℕ) → has_number status after_files ≡ true → has_number status without_psbt ≡ true
after_psbt n h = wider_psbt (0 == n) (7 == n) (8 == n) (10 == n) (11 == n) (1 == n) (6 == n) h

both_psbt : (of : Answers) → ((s : Setup) (es : List Event) → IsAfter (of s es))
    → (hash : List ℕ → List ℕ) (run : Judged Run) (all : JudgedAll)
    → has_number (both_judged of hash run all).status without_psbt ≡ true
both_psbt of h hash (Err why) all = refl
both_psbt of h hash (Ok run) (Err refusal) = refl
both_psbt of h hash (Ok run) (Ok adverts) =
    after_psbt (of (setup_of hash run adverts) run.events).status (h (setup_of hash run adverts) run.events)

check_psbt : (j : Judged Advert) → has_number (check_judged j).status without_psbt ≡ true
check_psbt (Ok advert) = refl
check_psbt (Err why) = refl

make_psbt : (e : Ending) → has_number (ending_status e) without_psbt ≡ true
make_psbt (whole tip live g offers) = refl
make_psbt (guessed event party secret) = refl
make_psbt (collided event earlier later) = refl

no_psbt : (status : ℕ) → has_number status without_psbt ≡ true → (status ≡ 9) ↔ (false ≡ true)
no_psbt status h = (λ e. absurd (apart 9 without_psbt refl status h e), λ e. absurd (false≢true e))

zero_nine : zero ≡ 9 → ⊥
zero_nine e = omega (arith, e)

shown_refused : (j : Judged Psbt) → ((shown_judged j).status ≡ 9) ↔ (is_err j ≡ true)
shown_refused (Ok p) = (λ e. absurd (zero_nine e), λ e. absurd (false≢true e))
shown_refused (Err why) = (λ e. refl, λ e. refl)

combined_refused : (r : Result Psbt Discord) → ((combined_answer r).status ≡ 9) ↔ (is_err r ≡ true)
combined_refused (Ok p) = (λ e. absurd (zero_nine e), λ e. absurd (false≢true e))
combined_refused (Err why) = (λ e. refl, λ e. refl)

joined_refused : (first second : Judged Psbt) → ((joined_judged first second).status ≡ 9) ↔ (are_refused first second ≡ true)
joined_refused (Err why) second = (λ e. refl, λ e. refl)
joined_refused (Ok first) (Err why) = (λ e. refl, λ e. refl)
joined_refused (Ok first) (Ok second) = combined_refused (combined first second)

refused_psbt : (hash : List ℕ → List ℕ) (command : Command) (texts : List Text)
    → ((text_answer hash command texts).status ≡ 9) ↔ (is_psbt_refused command texts ≡ true)
refused_psbt hash (check contract) texts = no_psbt (status_of hash (check contract) texts) (check_psbt (contract_in (text_at texts 0)))
refused_psbt hash (play run contracts) texts =
    no_psbt (status_of hash (play run contracts) texts) (both_psbt (run_answer play_text) of_play hash (run_in (text_at texts 0)) _)
refused_psbt hash (plan run contract) texts =
    no_psbt (status_of hash (plan run contract) texts) (both_psbt (run_answer plan_text) of_plan hash (run_in (text_at texts 0)) _)
refused_psbt hash (make number size) texts = no_psbt (status_of hash (make number size) texts) (make_psbt (made_ending hash number size))
refused_psbt hash (psbt_of run contract which) texts =
    no_psbt (status_of hash (psbt_of run contract which) texts)
    (both_psbt (if_whole (printed_of (psbt_text which))) (of_text (psbt_text which)) hash (run_in (text_at texts 0)) _)
refused_psbt hash (psbt_shown file) texts = shown_refused (psbt_in (text_at texts 0))
refused_psbt hash (psbt_joined first second) texts = joined_refused (psbt_in (text_at texts 0)) (psbt_in (text_at texts 1))
refused_psbt hash (weigh run contract) texts =
    no_psbt (status_of hash (weigh run contract) texts)
    (both_psbt (if_whole (printed_of weigh_text)) (of_text weigh_text) hash (run_in (text_at texts 0)) _)
refused_psbt hash (audit run contract file) texts =
    no_psbt (status_of hash (audit run contract file) texts)
    (both_psbt (audited_file (text_at texts 2)) (audit_file_is (text_at texts 2)) hash (run_in (text_at texts 0)) _)
refused_psbt hash (auto run contract strategy) texts =
    no_psbt (status_of hash (auto run contract strategy) texts)
    (both_psbt (strategy_file (text_at texts 0) (text_at texts 2)) (strategy_is (text_at texts 0) (text_at texts 2)) hash
    (run_in (text_at texts 0)) _)

-- ---- reads and words

not_two : (hash : List ℕ → List ℕ) (command : Command) (o : Option (List Text)) → (read_answer hash command o).status ≡ 2 → ⊥
not_two hash command None e = omega (arith, e)
not_two hash command (Some texts) e = apart 2 statuses refl (status_of hash command texts) (known hash command texts) e

read_status : (hash : List ℕ → List ℕ) (command : Command) (o : Option (List Text)) → ((read_answer hash command o).status ≡ 3) ↔ (o ≡ None)
read_status hash command None = (λ e. refl, λ e. refl)
read_status hash command (Some texts) = (
  λ e. absurd (apart 3 statuses refl (status_of hash command texts) (known hash command texts) e),
  λ e. absurd (none_some texts (sym e)),
)

word_status : (hash : List ℕ → List ℕ) (command : Option Command) (reads : List Read)
    → ((tool_answer hash command reads).status ≡ 2) ↔ (command ≡ None)
word_status hash None reads = (λ e. refl, λ e. refl)
word_status hash (Some command) reads = (λ e. absurd (not_two hash command (texts_read reads) e), λ e. absurd (none_some command (sym e)))

pub causes : CausesTheorem
causes = record {
  usage = word_status;
  unread = λ hash command reads. read_status hash command (texts_read reads);
  run_refused = refused_run;
  contract_refused = refused_contract;
  psbt_refused = refused_psbt;
  others = known;
}
