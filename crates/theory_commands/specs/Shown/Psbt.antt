-- What `psbt` shows of a run, its contract and one of the contract's transactions.
use Rattle.std.specs.Prelude.{◌≡◌, ℕ, ◌≤◌, List, length, true, false, Some, None, slice_get}
use Rattle.std.specs.List.{Contains}
use Rattle.spec_bitcoin.specs.declared.label.Label.{Label}
use Rattle.spec_bitcoin.specs.Keys.{key_of, signature_of, has_signed}
use Rattle.spec_compiler.specs.Instance.{Instance}
use Rattle.spec_compiler.specs.declared.unsigned.Spent.{Spent}
use Rattle.spec_compiler.specs.Transactions.{tx_of, digest_of_spent, pays}
use Rattle.spec_run.specs.declared.event.Event.{Event}
use Rattle.spec_run.specs.Compiled.{compiled_instance}
use Rattle.spec_run.specs.Setup.{Setup, contract_at}
use Rattle.spec_run.specs.Translation.{last_world}
use Rattle.spec_run.specs.World.{World}
use Rattle.spec_tool.specs.declared.psbt.PsbtInput.{PsbtInput}
use Rattle.spec_tool.specs.declared.which.Which.{Which}
use Rattle.spec_tool.specs.Commands.{Printed, prints}
use Rattle.spec_tool.specs.Listed.{Listed, listed_at}
use Rattle.spec_tool.specs.Psbt.{Psbt, Pairing, is_psbt}
use Rattle.spec_tool.specs.PsbtText.{has_transaction, no_path_line, not_compiled_line}
use Rattle.spec_tool.specs.Sizes.{most_psbt_bytes}
use Rattle.theory_audit.specs.Audited.{IsCompiled}
use Rattle.theory_commands.specs.Files.{IfWhole}
use Rattle.theory_commands.specs.PsbtFiles.{IsPsbtFile}

-- ---- signatures

-- the key of the label is needed for this input of the transaction, and its pair with the input's digest is in the book
pub record IsSigned (s : Setup) (w : World) (l : Listed) (input : ℕ) (label : Label) (digest : List ℕ) : Type 0 where
  pub spent : Spent
  pub spends : slice_get l.pending.spends input ≡ Some spent
  pub labels : List Label
  pub signers : slice_get l.signers input ≡ Some labels
  pub signer : Contains labels label
  pub digest_is : digest ≡ digest_of_spent s.hash (tx_of l.pending) spent
  pub signed : has_signed w.book (key_of s.hash label) digest ≡ true

-- the label's key with its signature of the digest
abbrev pub signature_by : Setup → Label → List ℕ → Pairing
signature_by s label digest = (key_of s.hash label, signature_of (key_of s.hash label) digest)

-- this input of the partially signed transaction has this signature
pub record HasSignature (p : Psbt) (input : ℕ) (signature : Pairing) : Type 0 where
  pub said : PsbtInput
  pub there : slice_get p.inputs input ≡ Some said
  pub has : Contains said.partial signature

-- the signature is one that is needed and in the book
pub record IsSignature (s : Setup) (w : World) (l : Listed) (input : ℕ) (signature : Pairing) : Type 0 where
  pub label : Label
  pub digest : List ℕ
  pub signed : IsSigned s w l input label digest
  pub is : signature ≡ signature_by s label digest

-- Each input has a signature exactly for each label that it needs whose pair with the input's digest the book has; they ascend by
-- their keys.
pub record AreSigned (s : Setup) (w : World) (l : Listed) (p : Psbt) : Type 0 where
  pub none_added : (input : ℕ) (signature : Pairing) → HasSignature p input signature → IsSignature s w l input signature
  pub none_left_out : (input : ℕ) (label : Label) (digest : List ℕ) → IsSigned s w l input label digest
      → HasSignature p input (signature_by s label digest)
  pub in_order : is_psbt p ≡ true

-- ---- inputs

-- the input says which output it spends, that all is signed, and the script; and nothing of a final witness
pub record SpendsOutput (s : Setup) (spent : Spent) (said : PsbtInput) : Type 0 where
  pub output : said.spent ≡ Some (pays s.hash spent.script spent.value)
  pub all : said.all ≡ true
  pub script : said.script ≡ Some spent.script
  pub witness : said.witness ≡ None

-- ---- what is shown

-- What is written is a file of a size that files may have, which holds the transaction of this name with what it spends and with
-- the signatures that are there.
pub record PrintsPsbt (s : Setup) (w : World) (l : Listed) (printed : Printed) : Type 0 where
  pub status : printed.status ≡ 0
  pub small : length printed.text ≤ most_psbt_bytes
  pub psbt : Psbt
  pub holds : IsPsbtFile printed.text psbt
  pub tx : psbt.tx ≡ tx_of l.pending
  pub each_input : length psbt.inputs ≡ length l.pending.spends
  pub inputs : (input : ℕ) (spent : Spent) (said : PsbtInput) → slice_get l.pending.spends input ≡ Some spent
      → slice_get psbt.inputs input ≡ Some said → SpendsOutput s spent said
  pub signatures : AreSigned s w l psbt

-- of the transaction of this name in a world
pub record ShowsWhich (which : Which) (s : Setup) (w : World) (printed : Printed) : Type 0 where
  -- the compiled one
  pub compiled : (l : Listed) → IsCompiled s w 0 which l → PrintsPsbt s w l printed
  -- none, where the contract has no such path, compiled or not
  pub no_path : has_transaction (contract_at s 0) which ≡ false → printed ≡ prints 0 (no_path_line which)
  pub unlisted : (instance : Instance) → compiled_instance s w 0 ≡ Some instance → listed_at s.hash instance which ≡ None
      → printed ≡ prints 0 (no_path_line which)
  -- none yet
  pub not_compiled : has_transaction (contract_at s 0) which ≡ true → compiled_instance s w 0 ≡ None
      → printed ≡ prints 0 not_compiled_line

abbrev pub ShowsSigned : Which → Setup → List Event → Printed → Type 0
ShowsSigned which s es printed = IfWhole s es printed (ShowsWhich which s (last_world s es) printed)
