-- What the program that draws answers to words and to what the reads of its files answered: a status and a text.
--
--  0  the page of a contract or of a run, or the SVG of a run
--  1  a contract file is refused
--  2  the words are neither a contract, nor a run and up to 16 contracts, which `--svg` may stand before
--  3  a read failed; nothing is written
--  4  the write failed; a prefix of the text is written
--  5  memory ran out; nothing is written
--  6  the run file is refused
--  7  the page or the SVG of a run in which an event guesses a secret
--  8  the page or the SVG of a run of which the opening or an event collides
use Rattle.std.specs.Prelude.{ℕ, List, [], ◌∷◌, ◌++◌, length, map, nat_le, codes, if◌then◌else◌, Option, Some, None}
use Rattle.std.specs.Str.{bytes_eq}
use Rattle.spec_data.specs.Ranges.{most_contracts}
use Rattle.spec_text.specs.Words.{given}
use Rattle.spec_tool.specs.Reads.{Asked, Read, Text, texts_read}
use Rattle.spec_tool.specs.Commands.{contract_file, run_file, Printed, prints, usage}
use Rattle.draw_replies.specs.declared.form.Form.{Form}
use Rattle.draw_replies.specs.declared.form.Form.TheVariants as forms
use Rattle.draw_replies.specs.DrawnTexts as replies

-- ---- words; files are named by their bytes

-- what words ask for
pub data DrawCommand : Type 0 where
  -- the page of a contract
  sheets : (contract : List ℕ) → DrawCommand
  -- a run and its contracts, in this form
  draws : (form : Form) → (run : List ℕ) → (contracts : List (List ℕ)) → DrawCommand

-- the files that are read
abbrev pub draw_files : DrawCommand → List Asked
draw_files (sheets contract) = contract_file contract ∷ []
draw_files (draws form run contracts) = run_file run ∷ map contract_file contracts

-- a run and up to 16 contracts
abbrev pub few_words : Form → List ℕ → List (List ℕ) → Option DrawCommand
few_words form run contracts = given (nat_le (length contracts) most_contracts) (draws form run contracts)

-- a contract, or a run and contracts
abbrev pub page_words : List (List ℕ) → Option DrawCommand
page_words [] = None
page_words (contract ∷ []) = Some (sheets contract)
page_words (run ∷ contract ∷ contracts) = few_words forms.Page run (contract ∷ contracts)

-- behind `--svg`: a run and contracts
abbrev pub svg_words : List (List ℕ) → Option DrawCommand
svg_words [] = None
svg_words (run ∷ []) = None
svg_words (run ∷ contract ∷ contracts) = few_words forms.Svg run (contract ∷ contracts)

-- the command that the words are, if they are one
abbrev pub draw_words : List (List ℕ) → Option DrawCommand
draw_words [] = None
draw_words (word ∷ words) = if bytes_eq word (codes "--svg") then svg_words words else page_words (word ∷ words)

-- ---- titles

-- names, each behind ` and `
abbrev pub further_names : List (List ℕ) → List ℕ
further_names [] = []
further_names (name ∷ names) = codes " and " ++ (name ++ further_names names)

-- the names of the files
abbrev pub draw_title : DrawCommand → List ℕ
draw_title (sheets contract) = contract
draw_title (draws form run contracts) = run ++ further_names contracts

-- ---- answers

-- the form of what is asked for
abbrev pub form_of : DrawCommand → Form
form_of (sheets contract) = forms.Page
form_of (draws form run contracts) = form

-- what is answered to the texts of the files
abbrev pub drawn_texts : (List ℕ → List ℕ) → DrawCommand → List Text → Printed
drawn_texts hash command texts = replies.drawn_texts (form_of command) (draw_title command) hash texts

abbrev pub drawn_read : (List ℕ → List ℕ) → DrawCommand → Option (List Text) → Printed
drawn_read hash command None = prints 3 []
drawn_read hash command (Some texts) = drawn_texts hash command texts

-- what the words answer; those that are no command read nothing
abbrev pub draw_answer : (List ℕ → List ℕ) → Option DrawCommand → List Read → Printed
draw_answer hash None reads = usage
draw_answer hash (Some command) reads = drawn_read hash command (texts_read reads)
