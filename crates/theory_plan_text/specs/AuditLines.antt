-- What each line of an audit's text says, read from its words: the grammar of these lines.
use Rattle.std.specs.Prelude.{ℕ, List, [], ◌∷◌, Bool, true, false, ◌&&◌, ◌==◌, if◌then◌else◌, Option, Some, None, codes}
use Rattle.std.specs.Str.{bytes_eq}
use Rattle.spec_bitcoin.specs.declared.label.Label.{Label}
use Rattle.spec_bitcoin.specs.declared.verdict.Refusal.{Refusal}
use Rattle.spec_run.specs.declared.outcome.Reason.{Reason}
use Rattle.spec_run.specs.declared.outcome.Reason.TheVariants as reason
use Rattle.spec_text.specs.Lines.{parts_of}
use Rattle.spec_text.specs.Words.{◌>>=◌, given, a_name, all_of, label}
use Rattle.spec_tool.specs.declared.which.Which.{Which}
use Rattle.spec_tool.specs.declared.which.Which.TheVariants as names
use Rattle.spec_tool.specs.Commands.{which_of}
use Rattle.theory_play_text.specs.Lines.{Words, number, an_output, cut_at, by_digits, reason_of}

-- ---- what a line says

-- What is shown of what the ledger says of a transaction. Of an initial one the contract isn't shown, since an audit has one contract.
pub data ShownNow : Type 0 where
  initial : ShownNow
  takes : (output : ℕ) → (branch : ℕ) → ShownNow
  moves : ShownNow
  refused : (refusal : Refusal) → ShownNow

-- what is shown of a line of the file: the names are the compiled transactions that it is, none of a foreign one
pub data ShownKind : Type 0 where
  not_hex : ShownKind
  bad : (place : ℕ) → ShownKind
  read : (names : List Which) → (now : ShownNow) → ShownKind

pub data AuditLine : Type 0 where
  -- `line N ..`
  finding : (number : ℕ) → (kind : ShownKind) → AuditLine
  -- `absent NAME`
  absent : (which : Which) → AuditLine
  -- `missing NAME k LABEL`
  missing : (which : Which) → (input : ℕ) → (label : Label) → AuditLine
  -- `contract 0 not compiled`
  uncompiled : AuditLine
  -- `audit refused`
  unaudited : AuditLine
  guessed : (party : List ℕ) → (secret : List ℕ) → AuditLine
  collided : (earlier : List ℕ) → (later : List ℕ) → AuditLine

-- ---- what the ledger says

-- this, where no word is left
abbrev pub at_end : {A : Type 0} → A → Words → Option A
at_end x [] = Some x
at_end x (word ∷ words) = None

abbrev pub takes_said : Words → Option ShownNow
takes_said (output ∷ branch ∷ []) = an_output output >>= λ n. number branch >>= λ i. Some (takes n i)
takes_said _ = None

-- a reason that is a refusal of the ledger
abbrev pub refused_by : Reason → Option ShownNow
refused_by (reason.Ledger refusal) = Some (refused refusal)
refused_by r = None

abbrev pub now_said : Words → Option ShownNow
now_said [] = None
now_said (word ∷ words) =
    if bytes_eq word (codes "init") then at_end initial words
    else if bytes_eq word (codes "branch") then takes_said words
    else if bytes_eq word (codes "move") then at_end moves words
    else if bytes_eq word (codes "refused") then (reason_of words >>= refused_by)
    else None

-- ---- findings

-- the first is a path
abbrev pub begins_path : List Which → Bool
begins_path [] = false
begins_path (names.Init ∷ others) = false
begins_path (names.At path ∷ others) = true

-- the names, and behind the word `now` what the ledger says
abbrev pub read_said : List Which → Words → Option ShownKind
read_said which [] = None
read_said which (word ∷ words) = if bytes_eq word (codes "now") then (now_said words >>= λ n. Some (read which n)) else None

-- `NAME .. now ..`
abbrev pub paths_said : Words → Option ShownKind
paths_said words =
    cut_at (codes "now") words >>= λ p. all_of which_of (p.0) >>= λ all. given (begins_path all) all >>= λ which.
    now_said (p.1) >>= λ n. Some (read which n)

abbrev pub bad_said : Words → Option ShownKind
bad_said (place ∷ []) = number place >>= λ n. Some (bad n)
bad_said _ = None

abbrev pub kind_said : Words → Option ShownKind
kind_said [] = None
kind_said (word ∷ words) =
    if bytes_eq word (codes "nothex") then at_end not_hex words
    else if bytes_eq word (codes "bad") then bad_said words
    else if bytes_eq word (codes "foreign") then read_said [] words
    else if bytes_eq word (codes "init") then read_said (names.Init ∷ []) words
    else if bytes_eq word (codes "path") then paths_said words
    else None

abbrev pub finding_said : Words → Option AuditLine
finding_said [] = None
finding_said (word ∷ words) = number word >>= λ n. kind_said words >>= λ kind. Some (finding n kind)

-- ---- the other lines

abbrev pub absent_said : Words → Option AuditLine
absent_said (name ∷ []) = which_of name >>= λ which. Some (absent which)
absent_said _ = None

abbrev pub missing_said : Words → Option AuditLine
missing_said (name ∷ input ∷ word ∷ []) =
    which_of name >>= λ which. number input >>= λ k. label word >>= λ l. Some (missing which k l)
missing_said _ = None

abbrev pub contract_said : Words → Option AuditLine
contract_said (place ∷ first ∷ word ∷ []) =
    given (bytes_eq place (codes "0") && (bytes_eq first (codes "not") && bytes_eq word (codes "compiled"))) uncompiled
contract_said _ = None

abbrev pub refused_said : Words → Option AuditLine
refused_said (word ∷ []) = given (bytes_eq word (codes "refused")) unaudited
refused_said _ = None

abbrev pub guessed_said : Words → Option AuditLine
guessed_said (party ∷ name ∷ []) = a_name party >>= λ a. a_name name >>= λ x. Some (guessed a x)
guessed_said _ = None

abbrev pub collided_said : Words → Option AuditLine
collided_said (earlier ∷ later ∷ []) = by_digits earlier >>= λ x. by_digits later >>= λ y. Some (collided x y)
collided_said _ = None

-- a line by its first word
abbrev pub audit_said : Words → Option AuditLine
audit_said [] = None
audit_said (word ∷ words) =
    if bytes_eq word (codes "line") then finding_said words
    else if bytes_eq word (codes "absent") then absent_said words
    else if bytes_eq word (codes "missing") then missing_said words
    else if bytes_eq word (codes "contract") then contract_said words
    else if bytes_eq word (codes "audit") then refused_said words
    else if bytes_eq word (codes "guessed") then guessed_said words
    else if bytes_eq word (codes "collided") then collided_said words
    else None

-- its words stand between single spaces
abbrev pub audit_line : List ℕ → Option AuditLine
audit_line line = audit_said (parts_of (λ b. b == 32) line)
