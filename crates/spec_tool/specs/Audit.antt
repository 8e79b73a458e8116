-- What an audit finds of the transactions in a file, after a run.
use Rattle.std.specs.Prelude.{ℕ, ◌+◌, List, [], ◌∷◌, ◌++◌, filter, map, Bool, not, Option, Some, None, Result}
use Rattle.std.specs.Prelude.{Ok, Err}
use Rattle.std.specs.List.{flat_map, list_any}
use Rattle.std.specs.Option.{option_map_or}
use Rattle.spec_bitcoin.specs.declared.tx.Tx.{Tx}
use Rattle.spec_bitcoin.specs.declared.label.Label.{Label}
use Rattle.spec_bitcoin.specs.declared.verdict.Verdict.{Verdict}
use Rattle.spec_bitcoin.specs.declared.verdict.Verdict.TheVariants as verdicts
use Rattle.spec_bitcoin.specs.Keys.{Pair, key_of, has_signed}
use Rattle.spec_bitcoin.specs.Reading.{transaction_of}
use Rattle.spec_compiler.specs.Instance.{Instance}
use Rattle.spec_compiler.specs.declared.unsigned.Spent.{Spent}
use Rattle.spec_compiler.specs.Transactions.{tx_of, digest_of_spent}
use Rattle.spec_run.specs.Setup.{Setup}
use Rattle.spec_run.specs.World.{World}
use Rattle.spec_run.specs.Compiled.{compiled_instance}
use Rattle.spec_data.specs.Messages.{collision}
use Rattle.spec_run.specs.Ledger.{same_bare, verdict_in, strings_of, Kind, Begins, Takes, Moves, kind_of}
use Rattle.spec_data.specs.Digits.{read_hex}
use Rattle.spec_text.specs.Lines.{lines_of, words_of}
use Rattle.spec_tool.specs.declared.which.Which.{Which}
use Rattle.spec_tool.specs.declared.finding.Now.{Now}
use Rattle.spec_tool.specs.declared.finding.Now.TheVariants as nows
use Rattle.spec_tool.specs.declared.finding.Kind.{Kind as LineKind}
use Rattle.spec_tool.specs.declared.finding.Kind.TheVariants as kinds
use Rattle.spec_tool.specs.declared.finding.Finding.{Finding}
use Rattle.spec_tool.specs.declared.finding.AuditReport.{AuditReport}
use Rattle.spec_tool.specs.Listed.{Listed, listed, same_which}

-- ---- lines

-- what a line of the file is
pub data Given : Type 0 where
  empty : Given
  -- it isn't one word of hexadecimal digits
  not_hex : Given
  -- so many of its bytes begin a transaction, and no more
  bad : (place : ℕ) → Given
  read : (tx : Tx) → Given

abbrev pub given_by : Result Tx ℕ → Given
given_by (Ok tx) = read tx
given_by (Err place) = bad place

abbrev pub given_bytes : Option (List ℕ) → Given
given_bytes None = not_hex
given_bytes (Some bytes) = given_by (transaction_of bytes)

abbrev pub given_words : List (List ℕ) → Given
given_words [] = empty
given_words (word ∷ []) = given_bytes (read_hex word)
given_words (word ∷ (other ∷ words)) = not_hex

abbrev pub given_line : List ℕ → Given
given_line line = given_words (words_of line)

-- the transactions that these lines are, in order
abbrev pub onto_given : Given → List Tx → List Tx
onto_given empty later = later
onto_given not_hex later = later
onto_given (bad place) later = later
onto_given (read tx) later = tx ∷ later

abbrev pub given_transactions : List (List ℕ) → List Tx
given_transactions [] = []
given_transactions (line ∷ lines) = onto_given (given_line line) (given_transactions lines)

-- ---- what a transaction is

-- the compiled transactions of a contract, none where it isn't compiled
abbrev pub listed_by : Setup → Option Instance → List Listed
listed_by s None = []
listed_by s (Some instance) = listed s.hash instance

-- those of contract k in this world
abbrev pub listed_in : Setup → World → ℕ → List Listed
listed_in s w k = listed_by s (compiled_instance s w k)

-- the names of all of these that the transaction is without its witnesses, in their order
abbrev pub names_among : List Listed → Tx → List Which
names_among all tx = map (λ (l : Listed). l.which) (filter (λ (l : Listed). same_bare tx (tx_of l.pending)) all)

-- what an accepted transaction of this kind is
abbrev pub now_by : Kind → Now
now_by (Begins contract) = nows.Init contract
now_by (Takes held output branch) = nows.Branch output branch
now_by Moves = nows.Move

abbrev pub now_for : Setup → World → Tx → Verdict → Now
now_for s w tx (verdicts.Accepted spent made) = now_by (kind_of s w tx spent)
now_for s w tx (verdicts.Refused refusal) = nows.Refused refusal

-- what the ledger says of a transaction in this world
abbrev pub now_of : Setup → World → Tx → Now
now_of s w tx = now_for s w tx (verdict_in s w tx)

-- ---- findings

abbrev pub kind_given : Setup → World → List Listed → Given → Option LineKind
kind_given s w all empty = None
kind_given s w all not_hex = Some kinds.NotHex
kind_given s w all (bad place) = Some (kinds.Bad place)
kind_given s w all (read tx) = Some (kinds.Read (names_among all tx) (now_of s w tx))

abbrev pub finding : ℕ → LineKind → Finding
finding n kind = record { line = n; kind = kind }

-- one finding for each line that isn't empty, the lines numbered from n on
abbrev pub findings_from : Setup → World → List Listed → ℕ → List (List ℕ) → List Finding
findings_from s w all n [] = []
findings_from s w all n (line ∷ lines) =
    option_map_or (λ kind. finding n kind ∷ findings_from s w all (n + 1) lines) (kind_given s w all (given_line line))
    (findings_from s w all (n + 1) lines)

-- ---- what is absent and missing

-- the names that a finding has
abbrev pub names_in : Finding → List Which
names_in f = elim (f.kind) [
  | kinds.NotHex ↦ []
  | kinds.Bad place ↦ []
  | kinds.Read names now ↦ names
]

abbrev pub is_named : List Finding → Which → Bool
is_named findings which = list_any (λ f. list_any (same_which which) (names_in f)) findings

-- the compiled transactions that no line names
abbrev pub absent_of : List Listed → List Finding → List Which
absent_of all findings = filter (λ which. not (is_named findings which)) (map (λ (l : Listed). l.which) all)

-- a signature that is missing: of which transaction, of which input, and by the key of which label
abbrev pub Missing : Type 0
Missing = Which × ℕ × Label

-- the labels of an input whose keys haven't signed its digest
abbrev pub missing_labels : (List ℕ → List ℕ) → List Pair → List Label → List ℕ → List Label
missing_labels hash book signers digest = filter (λ label. not (has_signed book (key_of hash label) digest)) signers

-- those of the inputs from number k on
abbrev pub missing_inputs : (List ℕ → List ℕ) → List Pair → Which → Tx → ℕ → List Spent → List (List Label) → List Missing
missing_inputs hash book which tx k [] signers = []
missing_inputs hash book which tx k (spent ∷ rest) [] = []
missing_inputs hash book which tx k (spent ∷ rest) (labels ∷ others) =
    map {B = Missing} (λ label. (which, k, label)) (missing_labels hash book labels (digest_of_spent hash tx spent))
    ++ missing_inputs hash book which tx (k + 1) rest others

-- by transaction, input and then participant or owner in order
abbrev pub missing_of : (List ℕ → List ℕ) → List Pair → List Listed → List Missing
missing_of hash book all = flat_map (λ (l : Listed). missing_inputs hash book l.which (tx_of l.pending) 0 l.pending.spends l.signers) all

-- ---- the report

abbrev pub report_of : (List ℕ → List ℕ) → List Pair → List Listed → List Finding → AuditReport
report_of hash book all findings = record { findings = findings; absent = absent_of all findings; missing = missing_of hash book all }

-- what an audit of this text finds in this world, for contract k
abbrev pub audit_report : Setup → World → ℕ → List ℕ → AuditReport
audit_report s w k text = report_of s.hash w.book (listed_in s w k) (findings_from s w (listed_in s w k) 1 (lines_of text))

-- the strings of the transactions that are judged, in order
abbrev pub audit_strings : Setup → World → List ℕ → List (List ℕ)
audit_strings s w text = flat_map (strings_of s w) (given_transactions (lines_of text))

-- two different messages with one digest, among those of the run and those of the judged transactions
abbrev pub audit_collision : Setup → World → List ℕ → Option (List ℕ × List ℕ)
audit_collision s w text = collision s.hash w.hashed (audit_strings s w text)
