-- What is claimed of the transactions that a run's contracts list, at every world that the run comes to.
use Rattle.std.specs.Prelude.{◌≡◌, ℕ, List, length, true, nat_le, Some, Ok}
use Rattle.spec_compiler.specs.Instance.{Instance}
use Rattle.spec_run.specs.declared.event.Event.{Event}
use Rattle.spec_run.specs.Setup.{Setup}
use Rattle.spec_run.specs.World.{World}
use Rattle.spec_run.specs.Compiled.{compiled_instance}
use Rattle.spec_run.specs.Event.{opening_world}
use Rattle.spec_run.specs.Translation.{last_world}
use Rattle.spec_run.specs.Statements.{Claim, HoldsThroughout, IsRun}
use Rattle.spec_tool.specs.declared.which.Which.{Which}
use Rattle.spec_tool.specs.Sizes.{most_psbt_bytes}
use Rattle.spec_tool.specs.Commands.{prints}
use Rattle.spec_tool.specs.Listed.{Listed, listed_at}
use Rattle.spec_tool.specs.PsbtText.{listed_psbt, psbt_line, which_psbt, psbt_text, psbt_in, shown_text, shown_answer}
use Rattle.theory_psbt.specs.Listed.{IsListed}

-- ---- what is listed can be written

-- each transaction that a compiled contract lists has numbers within their widths, spends scripts of bytes, and has for each input
-- signers whose keys are different
abbrev pub ListsFitting : Setup → World → Type 0
ListsFitting s w = (contract : ℕ) (instance : Instance) (which : Which) (l : Listed)
    → compiled_instance s w contract ≡ Some instance → listed_at s.hash instance which ≡ Some l → IsListed s.hash l

abbrev pub lists_fitting : Setup → Claim
lists_fitting s before g w t = ListsFitting s t.world

pub record FitThroughout (s : Setup) (es : List Event) : Type 0 where
  pub opening : ListsFitting s (opening_world s)
  pub events : HoldsThroughout s (lists_fitting s) es
  pub last : ListsFitting s (last_world s es)

-- so it is at the opening, after every event up to a halt, and at the end
abbrev pub ListedFitInRuns : Type 0
ListedFitInRuns = (s : Setup) (es : List Event) → IsRun s es → FitThroughout s es

-- ---- what is written is read

-- The line that is printed of a listed transaction is a file of a size that files may have, it is read as that very partially signed
-- transaction, and so the file isn't refused, and what is shown of it is what the transaction says.
pub record IsReadBack (s : Setup) (w : World) (l : Listed) (text : List ℕ) : Type 0 where
  pub printed : text ≡ psbt_line (listed_psbt s.hash w.book l)
  pub small : nat_le (length text) most_psbt_bytes ≡ true
  pub read : psbt_in (Some text) ≡ Ok (listed_psbt s.hash w.book l)
  pub shown : shown_answer (Some text) ≡ prints 0 (shown_text (listed_psbt s.hash w.book l))

-- of each transaction that the first contract lists
abbrev pub ReadsBack : Setup → World → Type 0
ReadsBack s w = (instance : Instance) (which : Which) (l : Listed) → compiled_instance s w 0 ≡ Some instance
    → listed_at s.hash instance which ≡ Some l → IsReadBack s w l (which_psbt s w which)

abbrev pub reads_back : Setup → Claim
reads_back s before g w t = ReadsBack s t.world

pub record ReadThroughout (s : Setup) (es : List Event) : Type 0 where
  pub opening : ReadsBack s (opening_world s)
  pub events : HoldsThroughout s (reads_back s) es
  -- at the end it is what `psbt RUN CONTRACT WHICH` prints
  pub last : (instance : Instance) (which : Which) (l : Listed) → compiled_instance s (last_world s es) 0 ≡ Some instance
      → listed_at s.hash instance which ≡ Some l → IsReadBack s (last_world s es) l (psbt_text which s es)

abbrev pub ListedReadInRuns : Type 0
ListedReadInRuns = (s : Setup) (es : List Event) → IsRun s es → ReadThroughout s es
