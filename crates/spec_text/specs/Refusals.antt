-- What is printed where a contract or a run file is refused.
use Rattle.std.specs.Prelude.{ℕ, List, [], ◌∷◌, ◌++◌, length, if◌then◌else◌, nat_lt, Option, Some, None, Result, Ok, Err, slice_get, codes}
use Rattle.std.specs.Fmt.{decimal}
use Rattle.spec_terms.specs.Advert.{Advert}
use Rattle.spec_terms.specs.Faults.{first_fault, first_limit}
use Rattle.spec_terms.specs.declared.limit.Limit.{Limit}
use Rattle.spec_terms.specs.declared.limit.Limit.TheVariants as limits
use Rattle.spec_terms.specs.declared.place.Place.{Place}
use Rattle.spec_terms.specs.declared.place.Place.TheVariants as places
use Rattle.spec_bitcoin.specs.Keys.{path_text}
use Rattle.spec_run.specs.declared.event.Run.{Run}
use Rattle.spec_text.specs.declared.stop.TextFault.{TextFault}
use Rattle.spec_text.specs.declared.stop.TextFault.TheVariants as faults
use Rattle.spec_text.specs.declared.run_fault.RunLimit.{RunLimit}
use Rattle.spec_text.specs.declared.run_fault.RunLimit.TheVariants as run_limits
use Rattle.spec_text.specs.declared.run_fault.RunFault.{RunFault}
use Rattle.spec_text.specs.declared.run_fault.RunFault.TheVariants as run_faults
use Rattle.spec_text.specs.Limits.{most_text_bytes, most_run_bytes}
use Rattle.spec_text.specs.ReadAdvert.{read_answer}
use Rattle.spec_text.specs.RunFile.{read_run}
use Rattle.spec_text.specs.RunText.{newline}

-- ---- contracts

abbrev pub limit_text : Limit → List ℕ
limit_text limits.Name = codes "Name"
limit_text limits.Number = codes "Number"
limit_text limits.Depth = codes "Depth"
limit_text limits.Branches = codes "Branches"
limit_text limits.Choice = codes "Choice"
limit_text limits.Split = codes "Split"
limit_text limits.Deposits = codes "Deposits"
limit_text limits.Secrets = codes "Secrets"
limit_text limits.Participants = codes "Participants"
limit_text limits.Balance = codes "Balance"
limit_text limits.Expression = codes "Expression"
limit_text limits.Script = codes "Script"

-- where an advert has a fault or exceeds a limit
abbrev pub place_text : Place → List ℕ
place_text (places.Pre n) = codes "pre " ++ decimal n
place_text (places.Branch path) = path_text path
place_text (places.Position path) = path_text path
place_text (places.Party name) = name
place_text (places.Count n) = decimal n

-- the names of the faults, from number 1 on
abbrev pub fault_names : List (List ℕ)
fault_names =
    codes "NameRepeated" ∷ codes "UnknownDeposit" ∷ codes "UnknownSecret" ∷ codes "PrefixRepeated"
    ∷ codes "PredicateSecret" ∷ codes "NoPersistent" ∷ codes "SplitSum" ∷ codes "FeeShort" ∷ []

abbrev pub word_or_none : Option (List ℕ) → List ℕ
word_or_none (Some word) = word
word_or_none None = []

-- the name of the fault of this number
abbrev pub fault_name : ℕ → List ℕ
fault_name number = word_or_none (slice_get ([] ∷ fault_names) number)

-- why a text is no contract
abbrev pub text_fault_text : TextFault → List ℕ
text_fault_text (faults.BadByte p) = codes "byte " ++ decimal p
text_fault_text (faults.Syntax p) = codes "syntax " ++ decimal p
text_fault_text (faults.Limit w p) = codes "limit " ++ (limit_text w ++ (codes " " ++ decimal p))

abbrev pub fault_text : ℕ → Place → List ℕ
fault_text number place = codes "fault " ++ (decimal number ++ (codes " " ++ (fault_name number ++ (codes " " ++ place_text place))))

abbrev pub exceeded_text : Limit → Place → List ℕ
exceeded_text w place = codes "limit " ++ (limit_text w ++ (codes " " ++ place_text place))

abbrev pub too_long_text : List ℕ
too_long_text = codes "limit Text " ++ decimal most_text_bytes

-- what is taken, or why it is refused, in words
abbrev pub Judged : Type 0 → Type 0
Judged A = Result A (List ℕ)

abbrev pub judged_limit : Advert → Option (Limit × Place) → Judged Advert
judged_limit advert None = Ok advert
judged_limit advert (Some p) = Err (exceeded_text (p.0) (p.1))

-- a fault comes before a limit
abbrev pub judged_fault : Advert → Option (ℕ × Place) → Judged Advert
judged_fault advert None = judged_limit advert (first_limit advert)
judged_fault advert (Some p) = Err (fault_text (p.0) (p.1))

abbrev pub judged_answer : Result Advert TextFault → Judged Advert
judged_answer (Err fault) = Err (text_fault_text fault)
judged_answer (Ok advert) = judged_fault advert (first_fault advert)

-- the contract of a file, or why it is refused
abbrev pub contract_of : List ℕ → Judged Advert
contract_of text = if nat_lt most_text_bytes (length text) then Err too_long_text else judged_answer (read_answer text)

-- `contract K refused` and why
abbrev pub contract_refused_line : ℕ → List ℕ → List ℕ
contract_refused_line k why = codes "contract " ++ (decimal k ++ (codes " refused " ++ (why ++ newline)))

-- ---- run files

abbrev pub run_limit_text : RunLimit → List ℕ
run_limit_text run_limits.Line = codes "Line"
run_limit_text run_limits.Events = codes "Events"
run_limit_text run_limits.Parties = codes "Parties"
run_limit_text run_limits.Deposits = codes "Deposits"
run_limit_text run_limits.Secrets = codes "Secrets"

-- why a text is no run
abbrev pub run_fault_text : RunFault → List ℕ
run_fault_text (run_faults.BadLine n) = codes "line " ++ decimal n
run_fault_text (run_faults.Limit w n) = codes "limit " ++ (run_limit_text w ++ (codes " line " ++ decimal n))

abbrev pub judged_run : Result Run RunFault → Judged Run
judged_run (Ok run) = Ok run
judged_run (Err fault) = Err (run_fault_text fault)

-- the run of a file, or why it is refused
abbrev pub run_of : List ℕ → Judged Run
run_of text = if nat_lt most_run_bytes (length text) then Err (codes "limit Size line 0") else judged_run (read_run text)

-- `run refused` and why
abbrev pub run_refused_line : List ℕ → List ℕ
run_refused_line why = codes "run refused " ++ (why ++ newline)
