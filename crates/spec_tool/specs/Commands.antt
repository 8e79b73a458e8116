-- The commands, and what each answers to the contents of its files: a status and a text.
use Rattle.std.specs.Prelude.{ℕ, ◌+◌, List, [], ◌∷◌, ◌++◌, length, map, ◌&&◌, if◌then◌else◌, nat_le, Option, Some, None, Result, Ok, Err}
use Rattle.std.specs.Prelude.{codes}
use Rattle.std.specs.Str.{bytes_eq}
use Rattle.spec_terms.specs.Advert.{Advert}
use Rattle.spec_run.specs.declared.event.Event.{Event}
use Rattle.spec_run.specs.declared.event.Run.{Run}
use Rattle.spec_run.specs.Setup.{Setup}
use Rattle.spec_data.specs.Ranges.{most_contracts}
use Rattle.spec_data.specs.Digits.{read_decimal}
use Rattle.spec_text.specs.Words.{◌>>=◌, given, path}
use Rattle.spec_text.specs.Limits.{most_text_bytes, most_run_bytes}
use Rattle.spec_text.specs.RunText.{newline}
use Rattle.spec_text.specs.Canonical.{advert_text}
use Rattle.spec_text.specs.Refusals.{Judged, contract_of, contract_refused_line, run_of, run_refused_line}
use Rattle.spec_text.specs.Generator.{generated_contract, generated_run}
use Rattle.spec_text.specs.PlayText.{Ending, whole, guessed, collided}
use Rattle.spec_text.specs.Played.{ending, play_text}
use Rattle.spec_text.specs.PlanText.{plan_text, make_text}
use Rattle.spec_tool.specs.declared.which.Which.{Which}
use Rattle.spec_tool.specs.declared.which.Which.TheVariants as names
use Rattle.spec_tool.specs.Sizes.{most_psbt_bytes, most_audit_bytes, most_strategy_bytes}
use Rattle.spec_tool.specs.Reads.{Asked}

-- ---- commands

-- files are named by their bytes
pub data Command : Type 0 where
  -- reads a contract and prints it
  check : (contract : List ℕ) → Command
  -- plays a run with contracts
  play : (run : List ℕ) → (contracts : List (List ℕ)) → Command
  -- plays a run and prints the contract's transactions
  plan : (run : List ℕ) → (contract : List ℕ) → Command
  -- plays the run that is made from a number
  make : (number : ℕ) → (size : ℕ) → Command
  -- plays a run and prints one of the contract's transactions with the signatures that are there
  psbt_of : (run : List ℕ) → (contract : List ℕ) → (which : Which) → Command
  -- prints what a partially signed transaction says
  psbt_shown : (file : List ℕ) → Command
  -- combines two of them
  psbt_joined : (first : List ℕ) → (second : List ℕ) → Command
  -- plays a run and prints the contract's transactions with their weights
  weigh : (run : List ℕ) → (contract : List ℕ) → Command
  -- plays a run and says of each transaction of a file what it is
  audit : (run : List ℕ) → (contract : List ℕ) → (file : List ℕ) → Command
  -- goes on with a run by the rules of a strategy
  auto : (run : List ℕ) → (contract : List ℕ) → (strategy : List ℕ) → Command

-- the greatest size of a generated run
abbrev pub most_size : ℕ
most_size = 30

abbrev pub check_words : List (List ℕ) → Option Command
check_words (contract ∷ []) = Some (check contract)
check_words _ = None

abbrev pub play_words : List (List ℕ) → Option Command
play_words [] = None
play_words (run ∷ contracts) = given (nat_le (length contracts) most_contracts) (play run contracts)

abbrev pub plan_words : List (List ℕ) → Option Command
plan_words (run ∷ contract ∷ []) = Some (plan run contract)
plan_words _ = None

abbrev pub make_words : List (List ℕ) → Option Command
make_words (number ∷ size ∷ []) = do
  n ← read_decimal number
  s ← read_decimal size
  given (nat_le 1 s && nat_le s most_size) (make n s)
make_words _ = None

-- the transaction that a word names: `init` or a path
abbrev pub which_of : List ℕ → Option Which
which_of word = if bytes_eq word (codes "init") then Some names.Init else path word >>= λ p. Some (names.At p)

abbrev pub psbt_words : List (List ℕ) → Option Command
psbt_words (file ∷ []) = Some (psbt_shown file)
psbt_words (first ∷ second ∷ []) = Some (psbt_joined first second)
psbt_words (run ∷ contract ∷ word ∷ []) = which_of word >>= λ which. Some (psbt_of run contract which)
psbt_words _ = None

abbrev pub weigh_words : List (List ℕ) → Option Command
weigh_words (run ∷ contract ∷ []) = Some (weigh run contract)
weigh_words _ = None

abbrev pub audit_words : List (List ℕ) → Option Command
audit_words (run ∷ contract ∷ file ∷ []) = Some (audit run contract file)
audit_words _ = None

abbrev pub auto_words : List (List ℕ) → Option Command
auto_words (run ∷ contract ∷ strategy ∷ []) = Some (auto run contract strategy)
auto_words _ = None

-- the command that the words are, if they are one
abbrev pub command_of : List (List ℕ) → Option Command
command_of [] = None
command_of (word ∷ words) =
    if bytes_eq word (codes "check") then check_words words
    else if bytes_eq word (codes "play") then play_words words
    else if bytes_eq word (codes "plan") then plan_words words
    else if bytes_eq word (codes "make") then make_words words
    else if bytes_eq word (codes "psbt") then psbt_words words
    else if bytes_eq word (codes "weigh") then weigh_words words
    else if bytes_eq word (codes "audit") then audit_words words
    else if bytes_eq word (codes "auto") then auto_words words
    else None

-- ---- files

abbrev pub run_file : List ℕ → Asked
run_file name = (name, most_run_bytes)

abbrev pub contract_file : List ℕ → Asked
contract_file name = (name, most_text_bytes)

abbrev pub psbt_file : List ℕ → Asked
psbt_file name = (name, most_psbt_bytes)

-- The files that a command reads, each with the most bytes that it may have: one for each word that names a file, in
-- the order of the words.
abbrev pub files_of : Command → List Asked
files_of (check contract) = contract_file contract ∷ []
files_of (play run contracts) = run_file run ∷ map contract_file contracts
files_of (plan run contract) = run_file run ∷ contract_file contract ∷ []
files_of (make number size) = []
files_of (psbt_of run contract which) = run_file run ∷ contract_file contract ∷ []
files_of (psbt_shown file) = psbt_file file ∷ []
files_of (psbt_joined first second) = psbt_file first ∷ psbt_file second ∷ []
files_of (weigh run contract) = run_file run ∷ contract_file contract ∷ []
files_of (audit run contract file) = run_file run ∷ contract_file contract ∷ (file, most_audit_bytes) ∷ []
files_of (auto run contract strategy) = run_file run ∷ contract_file contract ∷ (strategy, most_strategy_bytes) ∷ []

-- ---- answers

-- a status and a text
pub record Printed : Type 0 where
  pub status : ℕ
  pub text : List ℕ

abbrev pub prints : ℕ → List ℕ → Printed
prints status text = record { status = status; text = text }

abbrev pub usage : Printed
usage = prints 2 (codes "usage" ++ newline)

-- contract k is refused
abbrev pub contract_refused : ℕ → List ℕ → Printed
contract_refused k why = prints 1 (contract_refused_line k why)

abbrev pub run_refused : List ℕ → Printed
run_refused why = prints 6 (run_refused_line why)

-- ---- check

abbrev pub accepted_text : Advert → List ℕ
accepted_text advert = codes "contract 0 accepted" ++ (newline ++ (advert_text advert ++ newline))

abbrev pub check_judged : Judged Advert → Printed
check_judged (Ok advert) = prints 0 (accepted_text advert)
check_judged (Err why) = contract_refused 0 why

-- what `check` answers to a contract's text
abbrev pub check_answer : List ℕ → Printed
check_answer contract = check_judged (contract_of contract)

-- ---- contracts in order

-- the number of the first that is refused and why, or all
abbrev pub JudgedAll : Type 0
JudgedAll = Result (List Advert) (ℕ × List ℕ)

abbrev pub onto_judged : ℕ → Judged Advert → JudgedAll → JudgedAll
onto_judged k (Err why) later = Err (k, why)
onto_judged k (Ok advert) (Ok adverts) = Ok (advert ∷ adverts)
onto_judged k (Ok advert) (Err refusal) = Err refusal

-- the contracts of these texts, the first of which has the number k
abbrev pub contracts_from : ℕ → List (List ℕ) → JudgedAll
contracts_from k [] = Ok []
contracts_from k (text ∷ texts) = onto_judged k (contract_of text) (contracts_from (k + 1) texts)

-- ---- runs

abbrev pub setup_of : (List ℕ → List ℕ) → Run → List Advert → Setup
setup_of hash run adverts = record { hash = hash; header = run.header; contracts = adverts }

-- 0 where all events were played, 7 where a secret was guessed, 8 where strings collided
abbrev pub ending_status : Ending → ℕ
ending_status (whole tip live g offers) = 0
ending_status (guessed event party secret) = 7
ending_status (collided event earlier later) = 8

-- what is printed of a run by one of `play`, `plan` and `make`
abbrev pub run_answer : (Setup → List Event → List ℕ) → Setup → List Event → Printed
run_answer text s es = prints (ending_status (ending s es)) (text s es)

-- what is answered of a run and its contracts, where none of these is refused
abbrev pub contracts_judged : (Setup → List Event → Printed) → (List ℕ → List ℕ) → Run → JudgedAll → Printed
contracts_judged answer hash run (Ok adverts) = answer (setup_of hash run adverts) run.events
contracts_judged answer hash run (Err refusal) = contract_refused (refusal.0) (refusal.1)

-- the run is judged before the contracts
abbrev pub both_judged : (Setup → List Event → Printed) → (List ℕ → List ℕ) → Judged Run → JudgedAll → Printed
both_judged answer hash (Err why) contracts = run_refused why
both_judged answer hash (Ok run) contracts = contracts_judged answer hash run contracts

abbrev pub with_contracts : (Setup → List Event → List ℕ) → (List ℕ → List ℕ) → Run → JudgedAll → Printed
with_contracts text hash run judged = contracts_judged (run_answer text) hash run judged

abbrev pub with_run : (Setup → List Event → List ℕ) → (List ℕ → List ℕ) → Judged Run → List (List ℕ) → Printed
with_run text hash run contracts = both_judged (run_answer text) hash run (contracts_from 0 contracts)

-- what `play` answers to the texts of a run and its contracts
abbrev pub play_answer : (List ℕ → List ℕ) → List ℕ → List (List ℕ) → Printed
play_answer hash run contracts = with_run play_text hash (run_of run) contracts

-- what `plan` answers
abbrev pub plan_answer : (List ℕ → List ℕ) → List ℕ → List ℕ → Printed
plan_answer hash run contract = with_run plan_text hash (run_of run) (contract ∷ [])

-- what `make` answers: the generated run is played with the generated contract
abbrev pub make_answer : (List ℕ → List ℕ) → ℕ → ℕ → Printed
make_answer hash number size = run_answer make_text (setup_of hash (generated_run number size) (generated_contract number size ∷ []))
    ((generated_run number size).events)
