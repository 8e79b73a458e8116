-- What is answered to the texts of the files of what is drawn: a status and a text.
--
--  0  the page of a contract or of a run, or the SVG of a run
--  1  a contract file is refused
--  2  there is no file
--  6  the run file is refused
--  7  the page or the SVG of a run in which an event guesses a secret
--  8  the page or the SVG of a run of which the opening or an event collides
use Rattle.std.specs.Prelude.{ℕ, List, [], ◌∷◌, Option, Some, None, Ok, Err}
use Rattle.spec_terms.specs.Advert.{Advert}
use Rattle.spec_run.specs.declared.event.Event.{Event}
use Rattle.spec_run.specs.Pending.{Halt, Collided, Guessed}
use Rattle.spec_run.specs.Setup.{Setup}
use Rattle.spec_text.specs.PlayText.{Ending, whole, guessed, collided}
use Rattle.spec_text.specs.Refusals.{Judged}
use Rattle.spec_tool.specs.Answers.{contract_in, contracts_in, run_in}
use Rattle.spec_tool.specs.Commands.{Printed, prints, usage, contract_refused, run_answer, both_judged}
use Rattle.spec_tool.specs.Reads.{Text}
use Rattle.spec_page.specs.declared.picture.Picture.{Picture}
use Rattle.spec_page.specs.Html.{document_text}
use Rattle.spec_page.specs.Page.{page_of, page_text, contract_text}
use Rattle.spec_page.specs.Svg.{svg_document, svg_of, svg_text}
use Rattle.spec_page.specs.SvgLayout.{drawing}
use Rattle.draw_replies.specs.declared.form.Form.{Form}
use Rattle.draw_replies.specs.declared.form.Form.TheVariants as forms

-- a picture in this form, with this title
abbrev pub written : Form → List ℕ → Picture → List ℕ
written forms.Page title p = document_text (page_of title p)
written forms.Svg title p = svg_document (svg_of title (drawing p))

-- that of these events
abbrev pub run_drawn : Form → List ℕ → Setup → List Event → List ℕ
run_drawn forms.Page title s es = page_text title s es
run_drawn forms.Svg title s es = svg_text title s es

-- a contract alone has a page in every form
abbrev pub sheet_judged : List ℕ → Judged Advert → Printed
sheet_judged title (Ok advert) = prints 0 (contract_text title advert)
sheet_judged title (Err why) = contract_refused 0 why

-- one text is a contract, of more the first is a run
abbrev pub drawn_texts : Form → List ℕ → (List ℕ → List ℕ) → List Text → Printed
drawn_texts form title hash [] = usage
drawn_texts form title hash (contract ∷ []) = sheet_judged title (contract_in contract)
drawn_texts form title hash (run ∷ contract ∷ contracts) =
    both_judged (run_answer (run_drawn form title)) hash (run_in run) (contracts_in 0 (contract ∷ contracts))

-- what halted a run that opens and ends so; which strings collide isn't told
abbrev pub halt_in : Ending → Option (Event × Halt)
halt_in (whole tip live g offers) = None
halt_in (guessed event party secret) = Some (event, Guessed party secret)
halt_in (collided None earlier later) = None
halt_in (collided (Some event) earlier later) = Some (event, Collided [] [])
