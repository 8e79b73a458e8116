-- What the program that says what comes next answers to words and to what the reads of its files answered: a status and a text.
--
--  0  what comes next, or the first lines of a run
--  1  a contract file is refused
--  2  the words aren't a contract, nor a run and up to 16 contracts, which may stand behind `--json`, behind `--for` and a party, or behind
--     both in this order
--  3  a read failed; nothing is written
--  4  the write failed; a prefix of the text is written
--  5  memory ran out; nothing is written
--  6  the run file is refused
--  7  an event of the run guesses a secret: its last line alone
--  8  the opening or an event of the run collides, or what is hashed in asking what may come next: the line of the two messages alone
use Rattle.std.specs.Prelude.{ℕ, List, [], ◌∷◌, length, map, nat_le, codes, if◌then◌else◌, Option, Some, None, Ok, Err}
use Rattle.std.specs.Str.{bytes_eq}
use Rattle.spec_data.specs.Ranges.{most_contracts}
use Rattle.spec_terms.specs.Advert.{Advert}
use Rattle.spec_text.specs.Words.{given}
use Rattle.spec_text.specs.Refusals.{Judged}
use Rattle.spec_tool.specs.Reads.{Asked, Read, Text, texts_read}
use Rattle.spec_tool.specs.Commands.{contract_file, run_file, Printed, prints, usage, contract_refused, both_judged}
use Rattle.spec_tool.specs.Answers.{contract_in, contracts_in, run_in, if_whole}
use Rattle.spec_next.specs.declared.form.Form.{Form}
use Rattle.spec_next.specs.declared.form.Form.TheVariants as forms
use Rattle.spec_next.specs.Foreseen.{next_printed}
use Rattle.spec_next.specs.FirstLines.{begin_text}

-- ---- words; files are named by their bytes

-- what words ask for
pub data NextCommand : Type 0 where
  -- the first lines of a run of a contract
  begins : (contract : List ℕ) → NextCommand
  -- what comes next after a run with contracts, in this form, for all or for one party
  continues : (form : Form) → (party : Option (List ℕ)) → (run : List ℕ) → (contracts : List (List ℕ)) → NextCommand

-- the files that are read
abbrev pub next_files : NextCommand → List Asked
next_files (begins contract) = contract_file contract ∷ []
next_files (continues form party run contracts) = run_file run ∷ map contract_file contracts

-- a run and up to 16 contracts
abbrev pub continued : Form → Option (List ℕ) → List ℕ → List (List ℕ) → Option NextCommand
continued form party run contracts = given (nat_le (length contracts) most_contracts) (continues form party run contracts)

-- the same behind a party
abbrev pub continued_for : Form → List ℕ → List (List ℕ) → Option NextCommand
continued_for form party [] = None
continued_for form party (run ∷ []) = None
continued_for form party (run ∷ contract ∷ contracts) = continued form (Some party) run (contract ∷ contracts)

-- the same for all or for one party
abbrev pub continued_in : Form → List ℕ → List (List ℕ) → Option NextCommand
continued_in form word [] = None
continued_in form word (second ∷ words) =
    if bytes_eq word (codes "--for") then continued_for form second words else continued form None word (second ∷ words)

-- the command that the words are, if they are one
abbrev pub next_words : List (List ℕ) → Option NextCommand
next_words [] = None
next_words (contract ∷ []) = Some (begins contract)
next_words (word ∷ second ∷ words) =
    if bytes_eq word (codes "--json") then continued_in forms.Json second words else continued_in forms.Lines word (second ∷ words)

-- ---- answers

abbrev pub begins_judged : Judged Advert → Printed
begins_judged (Ok advert) = prints 0 (begin_text advert)
begins_judged (Err why) = contract_refused 0 why

-- the party for which a command asks, if it does for one
abbrev pub party_of : NextCommand → Option (List ℕ)
party_of (begins contract) = None
party_of (continues form party run contracts) = party

-- the form that it asks for; the first lines are lines
abbrev pub form_of : NextCommand → Form
form_of (begins contract) = forms.Lines
form_of (continues form party run contracts) = form

-- what is answered in this form and for this party to the texts of the files: one is a contract, of more the first is a run
abbrev pub next_texts : (List ℕ → List ℕ) → Form → Option (List ℕ) → List Text → Printed
next_texts hash form party [] = usage
next_texts hash form party (contract ∷ []) = begins_judged (contract_in contract)
next_texts hash form party (run ∷ contract ∷ contracts) =
    both_judged (if_whole (next_printed form party)) hash (run_in run) (contracts_in 0 (contract ∷ contracts))

abbrev pub read_next : (List ℕ → List ℕ) → Form → Option (List ℕ) → Option (List Text) → Printed
read_next hash form party None = prints 3 []
read_next hash form party (Some texts) = next_texts hash form party texts

-- what the words answer; those that are no command read nothing
abbrev pub next_answer : (List ℕ → List ℕ) → Option NextCommand → List Read → Printed
next_answer hash None reads = usage
next_answer hash (Some command) reads = read_next hash (form_of command) (party_of command) (texts_read reads)
