-- Test vectors of the definitions of run files.
use Rattle.std.proofs.Common.{◌≡◌, ℕ, List, [], ◌∷◌, ◌++◌, refl, Some, None, Ok, Err}
use Rattle.std.specs.Prelude.{codes}
use Rattle.std.specs.Fmt.{digits}
use Rattle.spec_bitcoin.specs.Keys.{label_text}
use Rattle.spec_terms.specs.declared.path.PathStep.TheVariants.{Branch as To, Part as Into}
use Rattle.spec_bitcoin.specs.declared.label.Label.TheVariants.{Branch}
use Rattle.spec_run.specs.declared.event.Event.TheVariants as events
use Rattle.spec_text.specs.Lines.{lines_of, words_of}
use Rattle.spec_text.specs.Words.{path, label}
use Rattle.spec_text.specs.EventLines.{event_of}
use Rattle.spec_text.specs.RunFile.{read_run}
use Rattle.spec_text.specs.RunText.{event_text, run_text}
use Rattle.spec_text.specs.declared.run_fault.RunFault.TheVariants as faults
use Rattle.spec_terms.specs.Readable.{is_name}

-- ---- lines and words

-- one carriage return before a line feed belongs to it; the last line keeps its own
pub carriage_returns : lines_of (97 ∷ 13 ∷ 10 ∷ 98 ∷ 13 ∷ 13 ∷ 10 ∷ 10 ∷ 99 ∷ 13 ∷ []) ≡ (97 ∷ []) ∷ (98 ∷ 13 ∷ []) ∷ [] ∷ (99 ∷ 13 ∷ []) ∷ []
carriage_returns = refl

pub words_of_a_line : words_of (codes " give  A #0 ") ≡ codes "give" ∷ codes "A" ∷ codes "#0" ∷ []
words_of_a_line = refl

pub a_path : path (codes "r.0/12") ≡ Some (To 0 ∷ Into 12 ∷ [])
a_path = refl

pub no_path : path (codes "r.007") ≡ None
no_path = refl

pub a_label : label (codes "B:0:r.0:B") ≡ Some (Branch 0 (To 0 ∷ []) (codes "B"))
unfolding is_name
a_label = refl

pub keyword_in_a_label : label (codes "D:put") ≡ None
unfolding is_name
keyword_in_a_label = refl

-- ---- events

abbrev pub parties : List (List ℕ)
parties = codes "A" ∷ codes "B" ∷ []

pub a_give : event_of parties (words_of (codes "give A #0 -> B 60 A 30")) ≡ Some (events.Give (codes "A") (0 ∷ []) ((codes "B", 60) ∷ (codes "A", 30) ∷ []))
a_give = refl

pub give_of_no_party : event_of parties (words_of (codes "give C #0 -> C 1")) ≡ None
give_of_no_party = refl

pub an_advertisement : event_of parties (words_of (codes "advertise 0 x=#0 y=#1")) ≡ Some (events.Advertise 0 ((codes "x", 0) ∷ (codes "y", 1) ∷ []))
unfolding is_name
an_advertisement = refl

pub mine_nothing : event_of parties (words_of (codes "mine 0")) ≡ None
mine_nothing = refl

pub line_of_a_give : event_text (events.Give (codes "A") (0 ∷ 12 ∷ []) ((codes "B", 60) ∷ (codes "A", 30) ∷ [])) ≡ codes "give A #0 #12 -> B 60 A 30"
unfolding digits
line_of_a_give = refl

pub line_of_a_signature : event_text (events.Sign (codes "B") (Branch 0 (To 0 ∷ Into 1 ∷ []) (codes "B")) (10 ∷ 255 ∷ [])) ≡ codes "sign B B:0:r.0/1:B 0aff"
unfolding digits label_text
line_of_a_signature = refl

-- ---- runs

-- a line feed
abbrev pub line : List ℕ → List ℕ → List ℕ
line text more = text ++ 10 ∷ more

-- a run without the line that ends the header: the line after the last is bad
pub run_without_rule : read_run (line (codes "party A") (line (codes "honest A") (line (codes "deposit A 5") []))) ≡ Err (faults.BadLine 4)
unfolding is_name
run_without_rule = refl

pub undeclared_party : read_run (line (codes "party A") (line (codes "--") (line (codes "mine 1") (codes "give C #0 -> C 1")))) ≡ Err (faults.BadLine 4)
unfolding is_name
undeclared_party = refl

pub deposits_above_all_money : read_run (line (codes "party A") (line (codes "") (codes "deposit A 2100000000000001"))) ≡ Err (faults.BadLine 3)
unfolding is_name
deposits_above_all_money = refl

-- what a run file spells, written again
abbrev pub again : List ℕ → List ℕ
again text = elim (read_run text) [ Ok r ↦ run_text r | Err fault ↦ [] ]

abbrev pub small_run : List ℕ
small_run = line (codes "party A") (line (codes "honest A") (line (codes "secret A a 0aff") (line (codes "deposit A 5") (line (codes "--") (line (codes "post 0aff") (line (codes "mine 3") []))))))

pub run_is_written_as_it_was : again small_run ≡ small_run
unfolding digits is_name
run_is_written_as_it_was = refl
