-- What each line says of what may come next, read from its words: the grammar of these lines.
use Rattle.std.specs.Prelude.{ℕ, List, [], ◌∷◌, Bool, ◌==◌, ◌||◌, if◌then◌else◌, Option, Some, None, codes}
use Rattle.std.specs.List.{list_any}
use Rattle.std.specs.Str.{bytes_eq}
use Rattle.spec_data.specs.Digits.{onto}
use Rattle.spec_run.specs.declared.event.Event.{Event}
use Rattle.spec_text.specs.Canonical.{joined}
use Rattle.spec_text.specs.EventLines.{event_of}
use Rattle.spec_text.specs.Lines.{parts_of, lines_of, words_of}
use Rattle.spec_text.specs.Words.{◌>>=◌, a_name, all_of, path}
use Rattle.spec_next.specs.declared.lead.Lead.{Lead}
use Rattle.spec_next.specs.declared.lead.Made.{Made}
use Rattle.spec_next.specs.declared.lead.Made.TheVariants as makes
use Rattle.spec_next.specs.declared.outlook.Ruling.{Ruling}
use Rattle.spec_next.specs.declared.outlook.Ruling.TheVariants as rulings
use Rattle.theory_play_text.specs.Lines.{Words, number, one_number, reason_of}
use Rattle.theory_next_text.specs.Missing.{Lack, needs_said, never_said, or_else}

-- ---- what a line says

pub data NextLine : Type 0 where
  -- `height H`
  height : (height : ℕ) → NextLine
  -- `contract K`: of it the lines below speak
  contract : (contract : ℕ) → NextLine
  -- `can EVENT`, `cannot EVENT REASON`, `cannot EVENT halts`
  event : (event : Event) → (ruling : Ruling) → NextLine
  -- `path P pays A V`, `path P to Q V ..`
  leads : (lead : Lead) → NextLine
  -- `needs ..`, `never: ..`
  lacks : (lack : Lack) → NextLine
  -- `waits A`
  waits : (party : List ℕ) → NextLine

-- ---- events

-- the event that these words spell in a run file, for those who are declared
abbrev pub event_in : List (List ℕ) → Words → Option Event
event_in parties words = event_of parties (words_of (joined (codes " ") words))

-- whether a word binds a name
abbrev pub has_sign : List ℕ → Bool
has_sign word = list_any (λ b. b == 61) word

-- the first words, as far as they bind names, and the others
abbrev pub bindings_first : Words → Words × Words
bindings_first [] = ([], [])
bindings_first (word ∷ words) =
    if has_sign word then (word ∷ (bindings_first words).0, (bindings_first words).1) else ([], word ∷ words)

-- the words of an event, and those behind it
abbrev pub behind_bindings : Words → Option (Words × Words)
behind_bindings (a ∷ b ∷ words) = Some (a ∷ b ∷ (bindings_first words).0, (bindings_first words).1)
behind_bindings _ = None

abbrev pub behind_three : Words → Option (Words × Words)
behind_three (a ∷ b ∷ c ∷ words) = Some (a ∷ b ∷ c ∷ [], words)
behind_three _ = None

abbrev pub behind_four : Words → Option (Words × Words)
behind_four (a ∷ b ∷ c ∷ d ∷ words) = Some (a ∷ b ∷ c ∷ d ∷ [], words)
behind_four _ = None

abbrev pub event_first : Words → Option (Words × Words)
event_first [] = None
event_first (word ∷ words) =
    if bytes_eq word (codes "advertise") then behind_bindings (word ∷ words)
    else if bytes_eq word (codes "reveal") || bytes_eq word (codes "authorise") then behind_four (word ∷ words)
    else behind_three (word ∷ words)

abbrev pub halts_said : Words → Option Ruling
halts_said (word ∷ []) = if bytes_eq word (codes "halts") then Some rulings.Halts else None
halts_said _ = None

-- why it can't come: a reason, or `halts`
abbrev pub ruling_said : Words → Option Ruling
ruling_said words = or_else (reason_of words >>= λ r. Some (rulings.Cannot r)) (halts_said words)

abbrev pub can_said : List (List ℕ) → Words → Option NextLine
can_said parties words = event_in parties words >>= λ e. Some (event e rulings.Can)

abbrev pub cannot_said : List (List ℕ) → Words → Option NextLine
cannot_said parties words =
    event_first words >>= λ p. event_in parties (p.0) >>= λ e. ruling_said (p.1) >>= λ r. Some (event e r)

-- ---- branches

-- `pays A V` or `to Q V`
abbrev pub made_said : List ℕ → List ℕ → List ℕ → Option Made
made_said verb whom value =
    if bytes_eq verb (codes "pays") then (a_name whom >>= λ a. number value >>= λ v. Some (makes.Paid a v))
    else if bytes_eq verb (codes "to") then (path whom >>= λ q. number value >>= λ v. Some (makes.Led q v))
    else None

abbrev pub all_made_said : Words → Option (List Made)
all_made_said [] = Some []
all_made_said (verb ∷ whom ∷ value ∷ words) = onto (made_said verb whom value) (all_made_said words)
all_made_said _ = None

abbrev pub leads_said : Words → Option NextLine
leads_said (position ∷ words) =
    path position >>= λ q. all_made_said words >>= λ made. Some (leads (record { path = q; made = made }))
leads_said [] = None

-- ---- the lines

abbrev pub waits_said : Words → Option NextLine
waits_said (party ∷ []) = a_name party >>= λ a. Some (waits a)
waits_said _ = None

-- a line by its first word
abbrev pub next_said : List (List ℕ) → Words → Option NextLine
next_said parties [] = None
next_said parties (word ∷ words) =
    if bytes_eq word (codes "height") then (one_number words >>= λ n. Some (height n))
    else if bytes_eq word (codes "contract") then (one_number words >>= λ n. Some (contract n))
    else if bytes_eq word (codes "can") then can_said parties words
    else if bytes_eq word (codes "cannot") then cannot_said parties words
    else if bytes_eq word (codes "path") then leads_said words
    else if bytes_eq word (codes "needs") then (needs_said words >>= λ l. Some (lacks l))
    else if bytes_eq word (codes "never:") then (never_said words >>= λ l. Some (lacks l))
    else if bytes_eq word (codes "waits") then waits_said words
    else None

-- what a line says to those who are declared: its words stand between single spaces
abbrev pub next_line : List (List ℕ) → List ℕ → Option NextLine
next_line parties line = next_said parties (parts_of (λ b. b == 32) line)

-- what the lines of a text say, in order
unfoldable pub next_of : List (List ℕ) → List ℕ → Option (List NextLine)
next_of parties text = all_of (next_line parties) (lines_of text)
