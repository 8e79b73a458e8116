-- Run files: the run that the lines of a text spell, or the first line that is bad or one too many.
use Rattle.std.specs.Prelude.{ℕ, ◌+◌, List, [], ◌∷◌, ◌++◌, length, Bool, true, false, ◌&&◌, ◌||◌, not, if◌then◌else◌, nat_le, nat_lt}
use Rattle.std.specs.Prelude.{Option, Some, None, Result, Ok, Err, codes}
use Rattle.std.specs.Str.{bytes_eq}
use Rattle.std.specs.List.{list_any, sum_by}
use Rattle.spec_data.specs.Lists.{is_among}
use Rattle.spec_data.specs.Ranges.{max_money, most_parties, most_header_deposits, most_header_secrets}
use Rattle.spec_terms.specs.Readable.{is_name}
use Rattle.spec_run.specs.declared.event.Event.{Event}
use Rattle.spec_run.specs.declared.event.Run.{Run}
use Rattle.spec_run.specs.declared.header.Header.{Header}
use Rattle.spec_run.specs.declared.header.HeldSecret.{HeldSecret}
use Rattle.spec_text.specs.declared.run_fault.RunLimit.{RunLimit}
use Rattle.spec_text.specs.declared.run_fault.RunLimit.TheVariants as limits
use Rattle.spec_text.specs.declared.run_fault.RunFault.{RunFault}
use Rattle.spec_text.specs.declared.run_fault.RunFault.TheVariants as faults
use Rattle.spec_data.specs.Digits.{read_hex}
use Rattle.spec_text.specs.Lines.{lines_of, words_of}
use Rattle.spec_text.specs.Words.{amount}
use Rattle.spec_text.specs.EventLines.{event_of}
use Rattle.spec_text.specs.Limits.{most_line_bytes, most_events}

-- what a line says
pub data Line (A : Type 0) : Type 0 where
  -- it spells nothing
  bad : Line A
  -- it is one too many, or too long
  over : RunLimit → Line A
  empty : Line A
  -- the line `--`, which ends the header
  rule : Line A
  says : A → Line A

abbrev pub is_long : List ℕ → Bool
is_long line = nat_lt most_line_bytes (length line)

-- a line that spells something and comes within a limit, or not
abbrev pub spelled_within : {A : Type 0} → Bool → Bool → RunLimit → A → Line A
spelled_within true true limit x = says x
spelled_within true false limit x = over limit
spelled_within false room limit x = bad

-- ---- the header

abbrev pub no_header : Header
no_header = record { parties = []; honest = []; secrets = []; deposits = [] }

-- `party A`: a name that isn't declared
abbrev pub party_line : Header → List (List ℕ) → Line Header
party_line h (a ∷ []) =
    spelled_within (is_name a && not (is_among a h.parties)) (nat_lt (length h.parties) most_parties) limits.Parties
    (record h { parties = h.parties ++ a ∷ [] })
party_line h _ = bad

-- `honest A`: a declared party that isn't honest yet
abbrev pub honest_line : Header → List (List ℕ) → Line Header
honest_line h (a ∷ []) =
    spelled_within (is_among a h.parties && not (is_among a h.honest)) true limits.Parties
    (record h { honest = h.honest ++ a ∷ [] })
honest_line h _ = bad

-- whether the secret has this owner and name, or these bytes
abbrev pub is_taken : List ℕ → List ℕ → List ℕ → HeldSecret → Bool
is_taken party name bytes s = (bytes_eq s.party party && bytes_eq s.name name) || bytes_eq s.bytes bytes

abbrev pub held_secret : List ℕ → List ℕ → List ℕ → HeldSecret
held_secret party name bytes = record { party = party; name = name; bytes = bytes }

-- `secret A a HEX`: of an honest party, with a name new for it and with bytes that no other has
abbrev pub secret_of : Header → List ℕ → List ℕ → Option (List ℕ) → Line Header
secret_of h a s None = bad
secret_of h a s (Some bytes) =
    spelled_within ((is_among a h.honest && is_name s) && not (list_any (is_taken a s bytes) h.secrets))
    (nat_lt (length h.secrets) most_header_secrets) limits.Secrets
    (record h { secrets = h.secrets ++ held_secret a s bytes ∷ [] })

abbrev pub secret_line : Header → List (List ℕ) → Line Header
secret_line h (a ∷ s ∷ word ∷ []) = secret_of h a s (read_hex word)
secret_line h _ = bad

-- `deposit A v`: of a declared party; all deposits sum to at most the satoshi that there can be
abbrev pub deposit_of : Header → List ℕ → Option ℕ → Line Header
deposit_of h a None = bad
deposit_of h a (Some v) =
    spelled_within (is_among a h.parties && nat_le (sum_by (λ d. d.1) h.deposits + v) max_money)
    (nat_lt (length h.deposits) most_header_deposits) limits.Deposits
    (record h { deposits = h.deposits ++ (a, v) ∷ [] })

abbrev pub deposit_line : Header → List (List ℕ) → Line Header
deposit_line h (a ∷ word ∷ []) = deposit_of h a (amount word)
deposit_line h _ = bad

abbrev pub rule_line : List (List ℕ) → Line Header
rule_line [] = rule
rule_line (w ∷ ws) = bad

-- what the words of a line say behind this header: the header with it
abbrev pub header_words : Header → List (List ℕ) → Line Header
header_words h [] = empty
header_words h (word ∷ words) =
    if bytes_eq word (codes "party") then party_line h words
    else if bytes_eq word (codes "honest") then honest_line h words
    else if bytes_eq word (codes "secret") then secret_line h words
    else if bytes_eq word (codes "deposit") then deposit_line h words
    else if bytes_eq word (codes "--") then rule_line words
    else bad

abbrev pub header_line : Header → List ℕ → Line Header
header_line h line = if is_long line then over limits.Line else header_words h (words_of line)

-- the header after a line
abbrev pub kept : Header → Line Header → Header
kept h (says k) = k
kept h bad = h
kept h (over limit) = h
kept h empty = h
kept h rule = h

-- the header, the lines behind it, and the number of the first of them
abbrev pub Headed : Type 0
Headed = Header × List (List ℕ) × ℕ

abbrev pub header_step : Header → ℕ → List (List ℕ) → Line Header → Result Headed RunFault → Result Headed RunFault
header_step h n lines bad later = Err (faults.BadLine n)
header_step h n lines (over limit) later = Err (faults.Limit limit n)
header_step h n lines empty later = later
header_step h n lines rule later = Ok (h, lines, n + 1)
header_step h n lines (says k) later = later

-- the header of the lines from number n on, behind what came before; without `--` the line after the last is bad
abbrev pub read_header : Header → ℕ → List (List ℕ) → Result Headed RunFault
read_header h n [] = Err (faults.BadLine n)
read_header h n (line ∷ lines) = header_step h n lines (header_line h line) (read_header (kept h (header_line h line)) (n + 1) lines)

-- ---- the events

abbrev pub event_within : ℕ → Option Event → Line Event
event_within count None = bad
event_within count (Some event) = spelled_within true (nat_lt count most_events) limits.Events event

abbrev pub event_words : List (List ℕ) → ℕ → List (List ℕ) → Line Event
event_words parties count [] = empty
event_words parties count (word ∷ words) = event_within count (event_of parties (word ∷ words))

-- what a line says behind so many events
abbrev pub event_of_line : List (List ℕ) → ℕ → List ℕ → Line Event
event_of_line parties count line = if is_long line then over limits.Line else event_words parties count (words_of line)

abbrev pub with_event : Event → Result (List Event) RunFault → Result (List Event) RunFault
with_event event (Ok list) = Ok (event ∷ list)
with_event event (Err fault) = Err fault

abbrev pub counted : ℕ → Line Event → ℕ
counted count (says event) = count + 1
counted count bad = count
counted count (over limit) = count
counted count empty = count
counted count rule = count

abbrev pub event_step : ℕ → Line Event → Result (List Event) RunFault → Result (List Event) RunFault
event_step n bad later = Err (faults.BadLine n)
event_step n (over limit) later = Err (faults.Limit limit n)
event_step n empty later = later
event_step n rule later = Err (faults.BadLine n)
event_step n (says event) later = with_event event later

-- the events of the lines from number n on, behind so many
abbrev pub read_events : List (List ℕ) → ℕ → ℕ → List (List ℕ) → Result (List Event) RunFault
read_events parties count n [] = Ok []
read_events parties count n (line ∷ lines) =
    event_step n (event_of_line parties count line) (read_events parties (counted count (event_of_line parties count line)) (n + 1) lines)

-- ---- the run

abbrev pub with_header : Header → Result (List Event) RunFault → Result Run RunFault
with_header h (Ok list) = Ok (record { header = h; events = list })
with_header h (Err fault) = Err fault

abbrev pub read_rest : Result Headed RunFault → Result Run RunFault
read_rest (Err fault) = Err fault
read_rest (Ok headed) = with_header (headed.0) (read_events (headed.0.parties) 0 (headed.2) (headed.1))

-- the run that a text spells, or why it spells none
abbrev pub read_run : List ℕ → Result Run RunFault
read_run text = read_rest (read_header no_header 1 (lines_of text))
