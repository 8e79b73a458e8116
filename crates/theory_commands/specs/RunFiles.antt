-- Which run a run file is read as, and why another is refused, line by line; what a line spells is said by its form.
use Rattle.std.specs.Prelude.{◌≡◌, ℕ, ◌+◌, ◌≤◌, ◌<◌, List, [], ◌∷◌, ◌++◌, ◌⊎◌, ◌↔◌, length, Some, None, Ok, Err, codes}
use Rattle.spec_run.specs.declared.event.Event.{Event}
use Rattle.spec_run.specs.declared.event.Run.{Run}
use Rattle.spec_run.specs.declared.header.Header.{Header}
use Rattle.spec_text.specs.declared.run_fault.RunFault.{RunFault}
use Rattle.spec_text.specs.declared.run_fault.RunFault.TheVariants as faults
use Rattle.spec_text.specs.declared.run_fault.RunLimit.TheVariants as limits
use Rattle.spec_text.specs.Lines.{lines_of, words_of}
use Rattle.spec_text.specs.Limits.{most_line_bytes, most_events, most_run_bytes}
use Rattle.spec_text.specs.RunFile.{Line, bad, over, says, no_header, read_run}
use Rattle.spec_text.specs.Refusals.{run_fault_text}
use Rattle.spec_tool.specs.Answers.{run_in}
use Rattle.spec_tool.specs.Reads.{Text}
use Rattle.theory_commands.specs.LineForms.{SpellsEvent, SpellsNoEvent, SaysOfHeader}

-- ---- lines that are taken

-- a line that isn't too long
abbrev pub IsShort : List ℕ → Type 0
IsShort line = length line ≤ most_line_bytes

-- each of these lines is empty, or says a part of the header behind those before it; behind this header they give the last
abbrev pub SpellHeader : Header → List (List ℕ) → Header → Type 0
SpellHeader h [] last = last ≡ h
SpellHeader h (line ∷ lines) last =
    IsShort line
    × (((words_of line ≡ []) × SpellHeader h lines last)
    ⊎ ((next : Header) × SaysOfHeader h (words_of line) (says next) × SpellHeader next lines last))

-- the line `--`, which ends the header
pub record IsRule (line : List ℕ) : Type 0 where
  pub short : IsShort line
  pub word : words_of line ≡ codes "--" ∷ []

-- each of these lines is empty or spells an event of the declared parties, and these are the events, in order
abbrev pub SpellEvents : List (List ℕ) → List (List ℕ) → List Event → Type 0
SpellEvents parties [] es = es ≡ []
SpellEvents parties (line ∷ lines) es =
    IsShort line
    × (((words_of line ≡ []) × SpellEvents parties lines es)
    ⊎ ((first : Event) × (later : List Event) × (es ≡ first ∷ later) × SpellsEvent parties (words_of line) first
    × SpellEvents parties lines later))

-- the lines of a run: those of its header, the rule, and those of its events, which aren't too many
pub record SpellRun (lines : List (List ℕ)) (run : Run) : Type 0 where
  pub above : List (List ℕ)
  pub rule : List ℕ
  pub below : List (List ℕ)
  pub in_order : lines ≡ above ++ rule ∷ below
  pub header : SpellHeader no_header above run.header
  pub ends : IsRule rule
  pub events : SpellEvents run.header.parties below run.events
  pub few : length run.events ≤ most_events

-- ---- the first line that is wrong

-- what is wrong with a line of the header, behind what was said before it
abbrev pub IsWrongHeader : Header → List ℕ → Line Header → Type 0
IsWrongHeader h line said = IsShort line × SaysOfHeader h (words_of line) said

-- the line has the number m, counted from 1, and is the first of the header of which this holds; those before it give a header
pub record FirstOfHeader (lines : List (List ℕ)) (m : ℕ) (wrong : Header → List ℕ → Type 0) : Type 0 where
  pub before : List (List ℕ)
  pub line : List ℕ
  pub after : List (List ℕ)
  pub in_order : lines ≡ before ++ line ∷ after
  pub number : m ≡ length before + 1
  pub header : Header
  pub spelled : SpellHeader no_header before header
  pub fault : wrong header line

-- no line ends the header, so the line behind the last is missing
pub record NeverEnds (lines : List (List ℕ)) (m : ℕ) : Type 0 where
  pub header : Header
  pub spelled : SpellHeader no_header lines header
  pub number : m ≡ length lines + 1

-- the line has the number m, stands below a header, and is the first there of which this holds; what is wrong is said by the declared
-- parties, how many events come before it, and the line
pub record FirstOfEvents (lines : List (List ℕ)) (m : ℕ) (wrong : List (List ℕ) → ℕ → List ℕ → Type 0) : Type 0 where
  pub above : List (List ℕ)
  pub rule : List ℕ
  pub before : List (List ℕ)
  pub line : List ℕ
  pub after : List (List ℕ)
  pub in_order : lines ≡ above ++ rule ∷ (before ++ line ∷ after)
  pub number : m ≡ length above + length before + 2
  pub header : Header
  pub spelled : SpellHeader no_header above header
  pub ends : IsRule rule
  pub events : List Event
  pub events_spelled : SpellEvents header.parties before events
  pub few : length events ≤ most_events
  pub fault : wrong header.parties (length events) line

-- the line isn't empty, and spells no event
pub record IsNoEvent (parties : List (List ℕ)) (count : ℕ) (line : List ℕ) : Type 0 where
  pub short : IsShort line
  pub some : words_of line ≡ [] → ⊥
  pub none : SpellsNoEvent parties (words_of line)

-- the line spells an event behind as many as there may be
pub record IsOneTooMany (parties : List (List ℕ)) (count : ℕ) (line : List ℕ) : Type 0 where
  pub short : IsShort line
  pub event : Event
  pub spelled : SpellsEvent parties (words_of line) event
  pub full : count ≡ most_events

abbrev pub IsTooLong : List ℕ → Type 0
IsTooLong line = most_line_bytes < length line

-- a line that is bad, or exceeds a limit, in the header or below it
abbrev pub HasRunFault : List (List ℕ) → RunFault → Type 0
HasRunFault lines (faults.BadLine m) =
    FirstOfHeader lines m (λ h line. IsWrongHeader h line bad) ⊎ (NeverEnds lines m ⊎ FirstOfEvents lines m IsNoEvent)
HasRunFault lines (faults.Limit limits.Line m) =
    FirstOfHeader lines m (λ h line. IsTooLong line) ⊎ FirstOfEvents lines m (λ parties count line. IsTooLong line)
HasRunFault lines (faults.Limit limits.Events m) = FirstOfEvents lines m IsOneTooMany
HasRunFault lines (faults.Limit limits.Parties m) = FirstOfHeader lines m (λ h line. IsWrongHeader h line (over limits.Parties))
HasRunFault lines (faults.Limit limits.Deposits m) = FirstOfHeader lines m (λ h line. IsWrongHeader h line (over limits.Deposits))
HasRunFault lines (faults.Limit limits.Secrets m) = FirstOfHeader lines m (λ h line. IsWrongHeader h line (over limits.Secrets))

-- ---- files

-- the file has no more bytes than it may have, and its lines spell the run
pub record IsRunFile (text : List ℕ) (run : Run) : Type 0 where
  pub few : length text ≤ most_run_bytes
  pub spelled : SpellRun (lines_of text) run

abbrev pub HoldsRun : Text → Run → Type 0
HoldsRun None run = ⊥
HoldsRun (Some text) run = IsRunFile text run

pub data RunRefusal : Type 0 where
  -- the file has more bytes than it may have
  too_long : RunRefusal
  -- its lines have this fault first
  first : (fault : RunFault) → RunRefusal

abbrev pub IsRefusedRunText : List ℕ → RunRefusal → Type 0
IsRefusedRunText text too_long = most_run_bytes < length text
IsRefusedRunText text (first fault) = (length text ≤ most_run_bytes) × HasRunFault (lines_of text) fault

-- why a run file is refused; of one that is too long nothing was read
abbrev pub IsRefusedRun : Text → RunRefusal → Type 0
IsRefusedRun None too_long = Unit {0}
IsRefusedRun None (first fault) = ⊥
IsRefusedRun (Some text) why = IsRefusedRunText text why

-- the same, as it is printed
abbrev pub run_refusal_text : RunRefusal → List ℕ
run_refusal_text too_long = codes "limit Size line 0"
run_refusal_text (first fault) = run_fault_text fault

-- ---- what is claimed

-- of every text, and of every file
pub record RunFilesAreRead : Type 0 where
  -- lines are read as the run that they spell, and the fault that is answered of others is their first
  pub lines : (text : List ℕ) (run : Run) → (read_run text ≡ Ok run) ↔ SpellRun (lines_of text) run
  pub fault : (text : List ℕ) (fault : RunFault) → (read_run text ≡ Err fault) ↔ HasRunFault (lines_of text) fault
  -- a file is taken for the run that it holds, and is refused for just that
  pub read : (text : Text) (run : Run) → (run_in text ≡ Ok run) ↔ HoldsRun text run
  pub refused : (text : Text) (why : List ℕ)
      → (run_in text ≡ Err why) ↔ ((r : RunRefusal) × IsRefusedRun text r × (why ≡ run_refusal_text r))
