-- What is claimed of audits: what is found, what is absent and what is missing, none left out and none added, and when they halt.
use Rattle.std.specs.Prelude.{◌≡◌, ℕ, ◌+◌, ◌≤◌, List, [], ◌∷◌, ◌++◌, ◌⊎◌, map, true, false, Option, Some, None, slice_get}
use Rattle.std.specs.List.{Contains, flat_map}
use Rattle.spec_data.specs.Digits.{read_hex}
use Rattle.spec_bitcoin.specs.declared.label.Label.{Label}
use Rattle.spec_bitcoin.specs.declared.tx.Tx.{Tx}
use Rattle.spec_bitcoin.specs.declared.verdict.Verdict.TheVariants as verdicts
use Rattle.spec_bitcoin.specs.Keys.{key_of, has_signed}
use Rattle.spec_bitcoin.specs.Reading.{IsBadAt}
use Rattle.spec_bitcoin.specs.Spelling.{Spells}
use Rattle.spec_compiler.specs.Instance.{Instance}
use Rattle.spec_compiler.specs.declared.unsigned.Spent.{Spent}
use Rattle.spec_compiler.specs.Transactions.{tx_of, digest_of_spent}
use Rattle.spec_run.specs.declared.event.Event.{Event}
use Rattle.spec_run.specs.Setup.{Setup}
use Rattle.spec_run.specs.World.{ContractPosition, World}
use Rattle.spec_run.specs.Compiled.{compiled_instance}
use Rattle.spec_run.specs.Halting.{AreApart, Collides}
use Rattle.spec_run.specs.Ledger.{same_bare, verdict_in, Begins, Takes, Moves, kind_of}
use Rattle.spec_run.specs.Statements.{IsRun}
use Rattle.spec_run.specs.Translation.{last_world}
use Rattle.spec_text.specs.Lines.{lines_of, words_of}
use Rattle.spec_tool.specs.declared.which.Which.{Which}
use Rattle.spec_tool.specs.declared.finding.Now.{Now}
use Rattle.spec_tool.specs.declared.finding.Now.TheVariants as nows
use Rattle.spec_tool.specs.declared.finding.Kind.{Kind}
use Rattle.spec_tool.specs.declared.finding.Kind.TheVariants as kinds
use Rattle.spec_tool.specs.declared.finding.Finding.{Finding}
use Rattle.spec_tool.specs.declared.finding.AuditReport.{AuditReport}
use Rattle.spec_tool.specs.Listed.{Listed, listed_at}
use Rattle.spec_tool.specs.Audit.{listed_in, names_in, Missing, audit_report, audit_strings, audit_collision}

-- these elements stand among those in the same order
abbrev pub AreInOrder : {A : Type 0} → List A → List A → Type 0
AreInOrder [] ys = Unit {0}
AreInOrder (x ∷ xs) [] = ⊥
AreInOrder (x ∷ xs) (y ∷ ys) = ((x ≡ y) × AreInOrder xs ys) ⊎ AreInOrder (x ∷ xs) ys

-- ---- compiled transactions

-- the transaction of this name of contract k, as the contract is compiled in this world
pub record IsCompiled (s : Setup) (w : World) (k : ℕ) (which : Which) (l : Listed) : Type 0 where
  pub instance : Instance
  pub compiled : compiled_instance s w k ≡ Some instance
  pub named : listed_at s.hash instance which ≡ Some l

-- the names of all of them, the initial one first, then in the order of the text
abbrev pub all_names : Setup → World → ℕ → List Which
all_names s w k = map (λ (l : Listed). l.which) (listed_in s w k)

-- the transaction is the compiled one of this name, but for its witnesses
pub record IsNamed (s : Setup) (w : World) (k : ℕ) (tx : Tx) (which : Which) : Type 0 where
  pub listed : Listed
  pub compiled : IsCompiled s w k which listed
  pub same : same_bare tx (tx_of listed.pending) ≡ true

-- ---- what the ledger says

-- it accepts the transaction as one of this kind
abbrev pub IsAccepted : Setup → World → Tx → (List ℕ → Type 0) → Type 0
IsAccepted s w tx as' = (spent : List ℕ) × (made : List ℕ) × (verdict_in s w tx ≡ verdicts.Accepted spent made) × as' spent

abbrev pub IsNow : Setup → World → Tx → Now → Type 0
IsNow s w tx (nows.Refused refusal) = verdict_in s w tx ≡ verdicts.Refused refusal
IsNow s w tx (nows.Init contract) = IsAccepted s w tx (λ spent. kind_of s w tx spent ≡ Begins contract)
IsNow s w tx (nows.Branch output branch) =
    IsAccepted s w tx (λ spent. (held : ContractPosition) × (kind_of s w tx spent ≡ Takes held output branch))
IsNow s w tx nows.Move = IsAccepted s w tx (λ spent. kind_of s w tx spent ≡ Moves)

-- ---- lines

-- the line is one word, which says these bytes in hexadecimal
abbrev pub IsHexOf : List ℕ → List ℕ → Type 0
IsHexOf line bytes = (word : List ℕ) × (words_of line ≡ word ∷ []) × (read_hex word ≡ Some bytes)

-- the line spells a transaction; its names are those of all compiled transactions that it is, in their order
pub record IsRead (s : Setup) (w : World) (k : ℕ) (line : List ℕ) (names : List Which) (said : Now) : Type 0 where
  pub bytes : List ℕ
  pub tx : Tx
  pub hex : IsHexOf line bytes
  pub spelled : Spells bytes tx
  pub named : (which : Which) → Contains names which → IsNamed s w k tx which
  pub all_named : (which : Which) → IsNamed s w k tx which → Contains names which
  pub in_order : AreInOrder names (all_names s w k)
  pub now : IsNow s w tx said

-- what is said of a line that isn't empty
abbrev pub IsKind : Setup → World → ℕ → List ℕ → Kind → Type 0
IsKind s w k line kinds.NotHex = (bytes : List ℕ) → IsHexOf line bytes → ⊥
IsKind s w k line (kinds.Bad place) = (bytes : List ℕ) × IsHexOf line bytes × IsBadAt bytes place
IsKind s w k line (kinds.Read names now) = IsRead s w k line names now

-- the finding is of this line, which isn't empty and has the number n, counted from 0
pub record IsFindingOf (s : Setup) (w : World) (k : ℕ) (lines : List (List ℕ)) (f : Finding) (n : ℕ) (line : List ℕ) : Type 0 where
  pub there : slice_get lines n ≡ Some line
  pub number : f.line ≡ n + 1
  pub some_word : words_of line ≡ [] → ⊥
  pub kind : IsKind s w k line f.kind

-- the numbers of their lines are at least n, and ascend
abbrev pub Ascend : ℕ → List Finding → Type 0
Ascend n [] = Unit {0}
Ascend n (f ∷ fs) = (n ≤ f.line) × Ascend (f.line + 1) fs

-- a finding for each line that isn't empty and for no other, in order
pub record AreFindings (s : Setup) (w : World) (k : ℕ) (lines : List (List ℕ)) (fs : List Finding) : Type 0 where
  pub none_added : (f : Finding) → Contains fs f → (n : ℕ) × (line : List ℕ) × IsFindingOf s w k lines f n line
  pub none_left_out : (n : ℕ) (line : List ℕ) → slice_get lines n ≡ Some line → (words_of line ≡ [] → ⊥)
      → (f : Finding) × Contains fs f × IsFindingOf s w k lines f n line
  pub in_order : Ascend 1 fs

-- ---- what is absent

-- no finding names it
abbrev pub NamedNowhere : List Finding → Which → Type 0
NamedNowhere fs which = (f : Finding) → Contains fs f → Contains (names_in f) which → ⊥

-- the compiled transactions that no finding names, in their order
pub record AreAbsent (s : Setup) (w : World) (k : ℕ) (fs : List Finding) (absent : List Which) : Type 0 where
  pub none_added : (which : Which) → Contains absent which → ((l : Listed) × IsCompiled s w k which l) × NamedNowhere fs which
  pub none_left_out : (which : Which) (l : Listed) → IsCompiled s w k which l → NamedNowhere fs which → Contains absent which
  pub in_order : AreInOrder absent (all_names s w k)

-- ---- what is missing

-- the key of the label is needed for this input of the transaction, and its pair with the input's digest isn't in the book
pub record IsUnsigned (s : Setup) (w : World) (k : ℕ) (which : Which) (input : ℕ) (label : Label) : Type 0 where
  pub listed : Listed
  pub compiled : IsCompiled s w k which listed
  pub spent : Spent
  pub spends : slice_get listed.pending.spends input ≡ Some spent
  pub labels : List Label
  pub signers : slice_get listed.signers input ≡ Some labels
  pub signer : Contains labels label
  pub unsigned : has_signed w.book (key_of s.hash label) (digest_of_spent s.hash (tx_of listed.pending) spent) ≡ false

abbrev pub missed : Which → ℕ → Label → Missing
missed which input label = (which, input, label)

-- the signatures that the inputs from number k on need, by input
abbrev pub needed_from : Which → ℕ → List Spent → List (List Label) → List Missing
needed_from which k [] signers = []
needed_from which k (spent ∷ rest) [] = []
needed_from which k (spent ∷ rest) (labels ∷ others) = map (missed which k) labels ++ needed_from which (k + 1) rest others

-- all that are needed, by transaction, input, and then participant or owner
abbrev pub all_needed : Setup → World → ℕ → List Missing
all_needed s w k = flat_map (λ (l : Listed). needed_from l.which 0 l.pending.spends l.signers) (listed_in s w k)

pub record AreMissing (s : Setup) (w : World) (k : ℕ) (missing : List Missing) : Type 0 where
  pub none_added : (which : Which) (input : ℕ) (label : Label) → Contains missing (missed which input label)
      → IsUnsigned s w k which input label
  pub none_left_out : (which : Which) (input : ℕ) (label : Label) → IsUnsigned s w k which input label
      → Contains missing (missed which input label)
  pub in_order : AreInOrder missing (all_needed s w k)

-- ---- the audit

-- of contract k, in a world
pub record IsAudit (s : Setup) (w : World) (k : ℕ) (text : List ℕ) (r : AuditReport) : Type 0 where
  pub findings : AreFindings s w k (lines_of text) r.findings
  pub absent : AreAbsent s w k r.findings r.absent
  pub missing : AreMissing s w k r.missing

-- the strings of the judged transactions, after those of the run, collide as it is said, or no two different ones have one digest
abbrev pub HaltsAs : Setup → World → List ℕ → Option (List ℕ × List ℕ) → Type 0
HaltsAs s w text None = AreApart s.hash (w.hashed ++ audit_strings s w text)
HaltsAs s w text (Some pair) = Collides s.hash w.hashed (audit_strings s w text) (pair.0) (pair.1)

pub record AuditsFindAll : Type 0 where
  -- in any world
  pub finds : (s : Setup) (w : World) (k : ℕ) (text : List ℕ) → IsAudit s w k text (audit_report s w k text)
  -- after a run
  pub halts : (s : Setup) (es : List Event) (text : List ℕ) → IsRun s es
      → HaltsAs s (last_world s es) text (audit_collision s (last_world s es) text)
