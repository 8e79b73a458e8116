-- Who signs, and what for, as words of a line show it: the grammar of these words.
use Rattle.std.specs.Prelude.{ℕ, List, [], ◌∷◌, ◌==◌, if◌then◌else◌, Option, Some, None, codes}
use Rattle.std.specs.Str.{bytes_eq}
use Rattle.spec_bitcoin.specs.declared.label.Label.{Label}
use Rattle.spec_text.specs.Words.{◌>>=◌, a_name, label}
use Rattle.spec_tool.specs.declared.which.Which.{Which}
use Rattle.spec_tool.specs.Commands.{which_of}
use Rattle.spec_deal.specs.declared.finish.Verb.{Verb}
use Rattle.spec_deal.specs.declared.finish.Verb.TheVariants as verbs
use Rattle.theory_play_text.specs.Lines.{number}
use Rattle.theory_play_text.specs.Printable.{IsWide, IsNamed}
use Rattle.theory_plan_text.specs.Audit.{IsShownLabel}
use Rattle.theory_plan_text.specs.PlanLines.{IsWhich}

-- ---- what is shown

-- the key of a label, or the wallet that brings the deposit of this name
pub data ShownSigner : Type 0 where
  by_key : (label : Label) → ShownSigner
  by_wallet : (deposit : List ℕ) → ShownSigner

-- a signature: of which input of which transaction, by whom, and what for
pub record ShownSlot : Type 0 where
  pub which : Which
  pub input : ℕ
  pub signer : ShownSigner
  pub verb : Verb

-- ---- what words say

-- `W:x`, behind its first letter
abbrev pub wallet_said : List ℕ → Option ShownSigner
wallet_said [] = None
wallet_said (b ∷ name) = if b == 58 then (a_name name >>= λ x. Some (by_wallet x)) else None

-- a wallet, or the label of a key
abbrev pub signer_said : List ℕ → Option ShownSigner
signer_said [] = None
signer_said (b ∷ bytes) = if b == 87 then wallet_said bytes else (label (b ∷ bytes) >>= λ l. Some (by_key l))

abbrev pub verb_said : List ℕ → Option Verb
verb_said word =
    if bytes_eq word (codes "init") then Some verbs.Init
    else if bytes_eq word (codes "authorise") then Some verbs.Authorise
    else if bytes_eq word (codes "endorse") then Some verbs.Endorse
    else None

-- the transaction, the number of its input, who signs, and what for
abbrev pub slot_said : List ℕ → List ℕ → List ℕ → List ℕ → Option ShownSlot
slot_said name input who what = do
  which ← which_of name
  k ← number input
  signer ← signer_said who
  verb ← verb_said what
  Some (record { which = which; input = k; signer = signer; verb = verb })

-- ---- what can be shown

-- parties and deposits have names of contract text, and numbers their widths
abbrev pub IsSigner : ShownSigner → Type 0
IsSigner (by_key label) = IsShownLabel label
IsSigner (by_wallet deposit) = IsNamed deposit

pub record IsSlot (slot : ShownSlot) : Type 0 where
  pub which : IsWhich slot.which
  pub input : IsWide slot.input
  pub signer : IsSigner slot.signer
