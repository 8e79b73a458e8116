-- What each line of a plan's text says, read from its words: the grammar of these lines.
use Rattle.std.specs.Prelude.{ℕ, List, [], ◌∷◌, reverse, ◌&&◌, ◌==◌, if◌then◌else◌, Option, Some, None, codes}
use Rattle.std.specs.List.{AllByRecursion}
use Rattle.std.specs.Str.{bytes_eq}
use Rattle.spec_terms.specs.declared.path.PathStep.{PathStep}
use Rattle.spec_bitcoin.specs.declared.tx.Tx.{Tx}
use Rattle.spec_bitcoin.specs.Keys.{IsStep}
use Rattle.spec_text.specs.Lines.{parts_of}
use Rattle.spec_text.specs.Words.{◌>>=◌, given, a_name, path}
use Rattle.spec_tool.specs.declared.which.Which.{Which}
use Rattle.spec_tool.specs.declared.which.Which.TheVariants as names
use Rattle.spec_tool.specs.Commands.{which_of}
use Rattle.spec_tool.specs.Psbt.{unsigned_of}
use Rattle.theory_play_text.specs.Lines.{Words, number, by_digits}

-- ---- names of transactions

-- the steps of a path have numbers of four bytes
abbrev pub IsWhich : Which → Type 0
IsWhich names.Init = Unit {0}
IsWhich (names.At path) = AllByRecursion IsStep path

-- ---- what a line says

pub data PlanLine : Type 0 where
  -- `contract 0 compiled`
  compiled : PlanLine
  -- `contract 0 not compiled`
  uncompiled : PlanLine
  -- `script POSITION HEX`
  script : (position : List PathStep) → (bytes : List ℕ) → PlanLine
  -- `tx NAME TXID HEX`
  transaction : (which : Which) → (txid : List ℕ) → (tx : Tx) → PlanLine
  -- `digest NAME k HEX`
  digest : (which : Which) → (input : ℕ) → (bytes : List ℕ) → PlanLine
  guessed : (party : List ℕ) → (secret : List ℕ) → PlanLine
  collided : (earlier : List ℕ) → (later : List ℕ) → PlanLine

-- ---- the lines

abbrev pub contract_said : Words → Option PlanLine
contract_said (place ∷ word ∷ []) = given (bytes_eq place (codes "0") && bytes_eq word (codes "compiled")) compiled
contract_said (place ∷ first ∷ word ∷ []) =
    given (bytes_eq place (codes "0") && (bytes_eq first (codes "not") && bytes_eq word (codes "compiled"))) uncompiled
contract_said _ = None

abbrev pub script_said : Words → Option PlanLine
script_said (position ∷ word ∷ []) = path position >>= λ q. by_digits word >>= λ bytes. Some (script q bytes)
script_said _ = None

-- a txid is shown with its bytes reversed, and a transaction by those without marker and witnesses
abbrev pub transaction_said : Words → Option PlanLine
transaction_said (name ∷ txid ∷ word ∷ []) =
    which_of name >>= λ which. by_digits txid >>= λ shown. by_digits word >>= λ bytes. unsigned_of bytes >>= λ tx.
    Some (transaction which (reverse shown) tx)
transaction_said _ = None

abbrev pub digest_said : Words → Option PlanLine
digest_said (name ∷ input ∷ word ∷ []) =
    which_of name >>= λ which. number input >>= λ k. by_digits word >>= λ bytes. Some (digest which k bytes)
digest_said _ = None

abbrev pub guessed_said : Words → Option PlanLine
guessed_said (party ∷ name ∷ []) = a_name party >>= λ a. a_name name >>= λ x. Some (guessed a x)
guessed_said _ = None

abbrev pub collided_said : Words → Option PlanLine
collided_said (earlier ∷ later ∷ []) = by_digits earlier >>= λ x. by_digits later >>= λ y. Some (collided x y)
collided_said _ = None

-- a line by its first word
abbrev pub plan_said : Words → Option PlanLine
plan_said [] = None
plan_said (word ∷ words) =
    if bytes_eq word (codes "contract") then contract_said words
    else if bytes_eq word (codes "script") then script_said words
    else if bytes_eq word (codes "tx") then transaction_said words
    else if bytes_eq word (codes "digest") then digest_said words
    else if bytes_eq word (codes "guessed") then guessed_said words
    else if bytes_eq word (codes "collided") then collided_said words
    else None

-- its words stand between single spaces
abbrev pub plan_line : List ℕ → Option PlanLine
plan_line line = plan_said (parts_of (λ b. b == 32) line)
