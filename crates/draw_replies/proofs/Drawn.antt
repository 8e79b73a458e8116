-- What is drawn by the entries of a run and its end is what is drawn of its events.
use Rattle.std.proofs.Common.{◌≡◌, ℕ, List, length, Option, Some, None, refl, sym, ap, ◌∙◌}
use Rattle.spec_terms.specs.Advert.{Advert}
use Rattle.spec_run.specs.declared.event.Event.{Event}
use Rattle.spec_run.specs.declared.header.Header.{Header}
use Rattle.spec_run.specs.Setup.{Setup}
use Rattle.spec_run.specs.Pending.{Halt, Collided, Guessed}
use Rattle.spec_run.specs.Event.{opening_collision}
use Rattle.spec_run.specs.Translation.{course, end_world, end_configuration, first_halt}
use Rattle.spec_text.specs.declared.entry.Entry.{Entry}
use Rattle.spec_text.specs.PlayText as shown
use Rattle.spec_text.specs.PlayText.{Ending}
use Rattle.spec_text.specs.Played.{entries, ending, ending_by, ending_from}
use Rattle.spec_tool.specs.Commands.{Printed, prints, ending_status, run_answer}
use Rattle.spec_page.specs.declared.event_row.EventRow.{EventRow}
use Rattle.spec_page.specs.Page.{page_text}
use Rattle.spec_page.specs.Svg.{svg_text}
use Rattle.spec_page.specs.Stops.{rows_of, stops}
use Rattle.draw_rows.specs.Pictures.{picture_with, unopened_rows}
use Rattle.draw_rows.specs.Settings.{setup_with}
use Rattle.draw_rows.specs.Turns.{rows_by}
use Rattle.draw_rows.proofs.Whole.{run_rows_are, unopened_rows_are, unnamed}
use Rattle.draw_replies.specs.declared.form.Form.{Form}
use Rattle.draw_replies.specs.declared.form.Form.TheVariants as forms
use Rattle.draw_replies.specs.DrawnTexts.{written, run_drawn, halt_in}

module _ (s : Setup) (es : List Event) where
  -- what halts a run that opens is told by its end
  halt_is : (halt : Option (Event × Halt)) → opening_collision s ≡ None → first_halt s es ≡ halt → halt_in (ending s es) ≡ unnamed halt
  halt_is halt opens h =
      ap (λ o. halt_in (ending_from (end_world s (course s es)) (end_configuration s (course s es)) o (first_halt s es))) opens
      ∙ ap (λ t. halt_in (ending_by (end_world s (course s es)) (end_configuration s (course s es)) t)) h
      ∙ by_halt halt
    where
      by_halt : (t : Option (Event × Halt))
          → halt_in (ending_by (end_world s (course s es)) (end_configuration s (course s es)) t) ≡ unnamed t
      by_halt None = refl
      by_halt (Some (e, Collided a b)) = refl
      by_halt (Some (e, Guessed p a)) = refl

  unopened_is : (earlier later : List ℕ) → opening_collision s ≡ Some (earlier, later) → ending s es ≡ shown.collided None earlier later
  unopened_is earlier later e = ap (λ o. ending_from (end_world s (course s es)) (end_configuration s (course s es)) o (first_halt s es)) e

  -- what is drawn of these rows
  abbrev drawn_by : Form → List ℕ → ℕ → Header → List Advert → List EventRow → Printed
  drawn_by form title status header contracts rows =
      prints status (written form title (picture_with (setup_with header contracts) (length es) rows))

  rows_answer : (form : Form) (title : List ℕ) (rows : List EventRow) → rows ≡ rows_of (stops s es)
      → drawn_by form title (ending_status (ending s es)) s.header s.contracts rows ≡ run_answer (run_drawn form title) s es
  unfolding page_text svg_text
  rows_answer forms.Page title rows e = ap (drawn_by forms.Page title (ending_status (ending s es)) s.header s.contracts) e
  rows_answer forms.Svg title rows e = ap (drawn_by forms.Svg title (ending_status (ending s es)) s.header s.contracts) e

  -- of a run that opens
  pub left_drawn : (form : Form) (title : List ℕ) (shown_entries : List Entry) (halt : Option (Event × Halt)) (status : ℕ) (header : Header) (contracts : List Advert)
      → opening_collision s ≡ None → shown_entries ≡ entries s es → halt ≡ halt_in (ending s es) → status ≡ ending_status (ending s es)
      → header ≡ s.header → contracts ≡ s.contracts
      → drawn_by form title status header contracts (rows_by (setup_with header contracts) shown_entries halt) ≡ run_answer (run_drawn form title) s es
  left_drawn form title shown_entries halt status header contracts opens e h st hd cs =
      ap (λ (n : ℕ). drawn_by form title n header contracts (rows_by (setup_with header contracts) shown_entries halt)) st
      ∙ ap (λ (x : Header). drawn_by form title end x contracts (rows_by (setup_with x contracts) shown_entries halt)) hd
      ∙ ap (λ (xs : List Advert). drawn_by form title end s.header xs (rows_by (setup_with s.header xs) shown_entries halt)) cs
      ∙ ap (λ (xs : List Entry). drawn_by form title end s.header s.contracts (rows_by (setup_with s.header s.contracts) xs halt)) e
      ∙ ap (λ (t : Option (Event × Halt)). drawn_by form title end s.header s.contracts (rows_by (setup_with s.header s.contracts) (entries s es) t))
      (h ∙ halt_is (first_halt s es) opens refl)
      ∙ rows_answer form title _ (run_rows_are s es opens)
    where
      end : ℕ
      end = ending_status (ending s es)

  -- of one whose opening collides
  pub unopened_drawn : (form : Form) (title : List ℕ) (contracts : List Advert) (earlier later : List ℕ) → opening_collision s ≡ Some (earlier, later)
      → contracts ≡ s.contracts
      → drawn_by form title 8 s.header contracts (unopened_rows (setup_with s.header contracts)) ≡ run_answer (run_drawn form title) s es
  unopened_drawn form title contracts earlier later e cs =
      ap (λ (xs : List Advert). drawn_by form title 8 s.header xs (unopened_rows (setup_with s.header xs))) cs
      ∙ ap (λ (end : Ending). drawn_by form title (ending_status end) s.header s.contracts (unopened_rows (setup_with s.header s.contracts)))
      (sym (unopened_is earlier later e))
      ∙ rows_answer form title _ (unopened_rows_are s es earlier later e)
