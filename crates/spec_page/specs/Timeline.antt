-- How what changes in the course of a run is told to the script of a page: from which row on it has which look.
use Rattle.std.specs.Prelude.{ℕ, ◌+◌, ◌==◌, List, [], ◌∷◌, ◌++◌, map, if◌then◌else◌, Option, Some, None, codes, slice_get, unwrap_or}
use Rattle.std.specs.Fmt.{decimal}
use Rattle.std.specs.Str.{bytes_eq}
use Rattle.spec_run.specs.Translation.{last_or}
use Rattle.spec_page.specs.declared.event_row.EventRow.{EventRow}
use Rattle.spec_page.specs.declared.status.Status.{Status}
use Rattle.spec_page.specs.declared.status.Status.TheVariants.{Open, Offered, Taken, Met, Gone}

-- ---- looks

abbrev pub status_word : Status → List ℕ
status_word Open = codes "open"
status_word Offered = codes "offered"
status_word Taken = codes "taken"
status_word Met = codes "met"
status_word Gone = codes "gone"

-- `9:offered`
abbrev pub look_at : ℕ → List ℕ → List ℕ
look_at row word = decimal row ++ (codes ":" ++ word)

-- where a look differs from the one before, with a space before it
abbrev pub change_of_look : ℕ → List ℕ → List ℕ → List ℕ
change_of_look n last word = if bytes_eq last word then [] else codes " " ++ look_at n word

-- those of the rows from number n on that differ from the one before; this one stands before them
abbrev pub later_looks : ℕ → List ℕ → List Status → List ℕ
later_looks n last [] = []
later_looks n last (s ∷ ss) = change_of_look n last (status_word s) ++ later_looks (n + 1) (status_word s) ss

-- how a status goes on from row to row: `0:open 9:offered`
abbrev pub statuses_text : List Status → List ℕ
statuses_text [] = []
statuses_text (s ∷ ss) = look_at 0 (status_word s) ++ later_looks 1 (status_word s) ss

-- how it ends
abbrev pub end_word : List Status → List ℕ
end_word ss = last_or (codes "open") (map status_word ss)

-- where part k of those that have a look stands, by the looks of a row
abbrev pub look_in : ℕ → List Status → Status
look_in k looks = unwrap_or (slice_get looks k) Open

-- and how it goes on from row to row
abbrev pub looks_of : ℕ → List EventRow → List Status
looks_of k rows = map (λ r. look_in k r.looks) rows

-- ---- texts of which one is shown

-- the number of the first of these, numbered from n on, that isn't this text
abbrev pub next_change : ℕ → List ℕ → List (List ℕ) → Option ℕ
next_change n text [] = None
next_change n text (t ∷ ts) = if bytes_eq text t then next_change (n + 1) text ts else Some n

-- until the next begins
abbrev pub until : Option ℕ → List ℕ
until None = []
until (Some n) = codes " " ++ (decimal n ++ codes ":off")

abbrev pub off_before : ℕ → List ℕ
off_before n = if n == 0 then [] else codes "0:off "

-- when the text of row n is shown, before which another was, until this row
abbrev pub shown_text : ℕ → Option ℕ → List ℕ
shown_text n next = off_before n ++ (decimal n ++ (codes ":on" ++ until next))

-- at the end the last is shown
abbrev pub shown_word : Option ℕ → List ℕ
shown_word None = codes "on"
shown_word (Some n) = codes "off"
