-- What a word of a line says: numbers, outputs, names, digests, paths and labels.
use Rattle.std.specs.Prelude.{ℕ, ◌^◌, List, [], ◌∷◌, ◌++◌, length, Bool, true, false, if◌then◌else◌, ◌==◌, Option, Some, None, codes}
use Rattle.std.specs.Str.{bytes_eq}
use Rattle.spec_data.specs.Lists.{is_among}
use Rattle.spec_terms.specs.Readable.{is_name}
use Rattle.spec_terms.specs.declared.path.PathStep.{PathStep}
use Rattle.spec_terms.specs.declared.path.PathStep.TheVariants.{Branch as To, Part as Into}
use Rattle.spec_bitcoin.specs.declared.label.Label.{Label}
use Rattle.spec_bitcoin.specs.declared.label.Label.TheVariants.{Deposit, Branch}
use Rattle.spec_data.specs.Digits.{number_below, read_hex, onto}
use Rattle.spec_text.specs.Lines.{parts_of}

infixl 10 ◌>>=◌
abbrev pub ◌>>=◌ : {A B : Type 0} → Option A → (A → Option B) → Option B
None >>= f = None
(Some x) >>= f = f x

abbrev pub given : {A : Type 0} → Bool → A → Option A
given true x = Some x
given false x = None

-- ---- numbers and names

-- a number of a contract, an output, a branch or blocks
abbrev pub small : List ℕ → Option ℕ
small word = number_below (2 ^ 32) word

-- an amount
abbrev pub amount : List ℕ → Option ℕ
amount word = number_below (2 ^ 64) word

-- an output: `#` and its number
abbrev pub output : List ℕ → Option ℕ
output [] = None
output (b ∷ bytes) = if b == 35 then small bytes else None

-- a name of contract text
abbrev pub a_name : List ℕ → Option (List ℕ)
a_name word = given (is_name word) word

-- one of the names
abbrev pub one_of : List (List ℕ) → List ℕ → Option (List ℕ)
one_of names word = given (is_among word names) word

-- a digest: 32 bytes
abbrev pub digest : List ℕ → Option (List ℕ)
digest word = read_hex word >>= λ bytes. given (length bytes == 32) bytes

-- the two parts of a word with one `=`
abbrev pub two_parts : List (List ℕ) → Option (List ℕ × List ℕ)
two_parts (a ∷ b ∷ []) = Some (a, b)
two_parts _ = None

-- a name, `=` and what the reader takes
abbrev pub named : {A : Type 0} → (List ℕ → Option A) → List ℕ → Option (List ℕ × A)
named read word = do
  p ← two_parts (parts_of (λ b. b == 61) word)
  x ← a_name (p.0)
  v ← read (p.1)
  Some (x, v)

-- each of the words, read
abbrev pub all_of : {A : Type 0} → (List ℕ → Option A) → List (List ℕ) → Option (List A)
all_of read [] = Some []
all_of read (word ∷ words) = onto (read word) (all_of read words)

-- ---- paths

-- whether a byte begins a step: `.` is true, `/` false
abbrev pub step_mark : ℕ → Option Bool
step_mark b = if b == 46 then Some true else if b == 47 then Some false else None

abbrev pub step_of : Bool → ℕ → PathStep
step_of true n = To n
step_of false n = Into n

-- the step of a mark and digits
abbrev pub step : Bool → List ℕ → Option PathStep
step mark digits = small digits >>= λ n. Some (step_of mark n)

-- the steps from the digits behind a mark on, of which some came
abbrev pub steps_from : Bool → List ℕ → List ℕ → Option (List PathStep)
steps_from mark digits [] = onto (step mark digits) (Some [])
steps_from mark digits (b ∷ bytes) = elim (step_mark b) [
  | None ↦ steps_from mark (digits ++ b ∷ []) bytes
  | Some next ↦ onto (step mark digits) (steps_from next [] bytes)
]

-- steps from the first mark on
abbrev pub steps : List ℕ → Option (List PathStep)
steps [] = Some []
steps (b ∷ bytes) = step_mark b >>= λ mark. steps_from mark [] bytes

-- the path that a word is
abbrev pub path : List ℕ → Option (List PathStep)
path [] = None
path (b ∷ bytes) = if b == 114 then steps bytes else None

-- ---- labels

-- a label by its parts between colons; its party is a name of contract text
abbrev pub label_of : List (List ℕ) → Option Label
label_of (kind ∷ party ∷ []) = given (bytes_eq kind (codes "D")) party >>= λ word. a_name word >>= λ p. Some (Deposit p)
label_of (kind ∷ contract ∷ place ∷ party ∷ []) = do
  word ← given (bytes_eq kind (codes "B")) contract
  k ← small word
  q ← path place
  p ← a_name party
  Some (Branch k q p)
label_of _ = None

-- the label that a word is
abbrev pub label : List ℕ → Option Label
label word = label_of (parts_of (λ b. b == 58) word)
