-- What each line of a deal's plan says, read from its words: the grammar of these lines.
use Rattle.std.specs.Prelude.{ℕ, List, [], ◌∷◌, reverse, ◌&&◌, ◌==◌, if◌then◌else◌, Option, Some, None, codes}
use Rattle.std.specs.Str.{bytes_eq}
use Rattle.spec_terms.specs.declared.path.PathStep.{PathStep}
use Rattle.spec_bitcoin.specs.declared.tx.OutPoint.{OutPoint}
use Rattle.spec_bitcoin.specs.declared.tx.Tx.{Tx}
use Rattle.spec_text.specs.Lines.{parts_of, lines_of}
use Rattle.spec_text.specs.Words.{◌>>=◌, given, a_name, all_of, path}
use Rattle.spec_tool.specs.declared.which.Which.{Which}
use Rattle.spec_tool.specs.Commands.{which_of}
use Rattle.spec_tool.specs.Psbt.{unsigned_of}
use Rattle.theory_play_text.specs.Lines.{Words, number, by_digits}
use Rattle.theory_deal_text.specs.Signers.{ShownSlot, slot_said}

-- ---- what a line says

-- an output script, and its address if one is shown
pub record ShownScript : Type 0 where
  pub bytes : List ℕ
  pub address : Option (List ℕ)

-- a deposit: where it lies, its value, and the script that its output has
pub record ShownDeposit : Type 0 where
  pub name : List ℕ
  pub place : OutPoint
  pub value : ℕ
  pub script : ShownScript

pub data PlanLine : Type 0 where
  -- `contract 0 compiled`
  compiled : PlanLine
  -- `script POSITION HEX`
  script : (position : List PathStep) → (bytes : List ℕ) → PlanLine
  -- `deposit NAME TXID VOUT VALUE HEX ADDR`
  deposit : (deposit : ShownDeposit) → PlanLine
  -- `pay A HEX ADDR`
  pays : (party : List ℕ) → (script : ShownScript) → PlanLine
  -- `tx NAME TXID HEX`
  transaction : (which : Which) → (txid : List ℕ) → (tx : Tx) → PlanLine
  -- `digest NAME k HEX`
  digest : (which : Which) → (input : ℕ) → (bytes : List ℕ) → PlanLine
  -- `sign NAME k LABEL VERB`
  signs : (slot : ShownSlot) → PlanLine

-- ---- the lines

abbrev pub contract_said : Words → Option PlanLine
contract_said (place ∷ word ∷ []) = given (bytes_eq place (codes "0") && bytes_eq word (codes "compiled")) compiled
contract_said _ = None

abbrev pub script_said : Words → Option PlanLine
script_said (position ∷ word ∷ []) = path position >>= λ q. by_digits word >>= λ bytes. Some (script q bytes)
script_said _ = None

-- an output script, and what stands behind it
abbrev pub output_said : List ℕ → Words → Option ShownScript
output_said word [] = by_digits word >>= λ bytes. Some (record { bytes = bytes; address = None })
output_said word (text ∷ []) = by_digits word >>= λ bytes. Some (record { bytes = bytes; address = Some text })
output_said word _ = None

-- a txid is shown with its bytes reversed
abbrev pub deposit_said : Words → Option PlanLine
deposit_said (name ∷ txid ∷ vout ∷ value ∷ word ∷ words) = do
  x ← a_name name
  id ← by_digits txid
  n ← number vout
  v ← number value
  own ← output_said word words
  Some (deposit (record { name = x; place = record { txid = reverse id; vout = n }; value = v; script = own }))
deposit_said _ = None

abbrev pub pays_said : Words → Option PlanLine
pays_said (party ∷ word ∷ words) = a_name party >>= λ a. output_said word words >>= λ own. Some (pays a own)
pays_said _ = None

-- and a transaction by its bytes without marker and witnesses
abbrev pub transaction_said : Words → Option PlanLine
transaction_said (name ∷ txid ∷ word ∷ []) =
    which_of name >>= λ which. by_digits txid >>= λ shown. by_digits word >>= λ bytes. unsigned_of bytes >>= λ tx.
    Some (transaction which (reverse shown) tx)
transaction_said _ = None

abbrev pub digest_said : Words → Option PlanLine
digest_said (name ∷ input ∷ word ∷ []) =
    which_of name >>= λ which. number input >>= λ k. by_digits word >>= λ bytes. Some (digest which k bytes)
digest_said _ = None

abbrev pub sign_said : Words → Option PlanLine
sign_said (name ∷ input ∷ who ∷ what ∷ []) = slot_said name input who what >>= λ slot. Some (signs slot)
sign_said _ = None

-- a line by its first word
abbrev pub plan_said : Words → Option PlanLine
plan_said [] = None
plan_said (word ∷ words) =
    if bytes_eq word (codes "contract") then contract_said words
    else if bytes_eq word (codes "script") then script_said words
    else if bytes_eq word (codes "deposit") then deposit_said words
    else if bytes_eq word (codes "pay") then pays_said words
    else if bytes_eq word (codes "tx") then transaction_said words
    else if bytes_eq word (codes "digest") then digest_said words
    else if bytes_eq word (codes "sign") then sign_said words
    else None

-- its words stand between single spaces
abbrev pub plan_line : List ℕ → Option PlanLine
plan_line line = plan_said (parts_of (λ b. b == 32) line)

-- what the lines of a text say, in order
abbrev pub plan_of : List ℕ → Option (List PlanLine)
plan_of text = all_of plan_line (lines_of text)
