-- What is printed of a plan, read from its text: all transactions and scripts of the contract with their txids and digests, or that
-- the contract isn't compiled, or what halts the run.
use Rattle.std.specs.Prelude.{◌≡◌, ℕ, ◌<◌, ◌^◌, List, [], ◌∷◌, length, true, not, Option, Some, None}
use Rattle.std.specs.List.{AllByRecursion}
use Rattle.spec_data.specs.Digits.{onto}
use Rattle.spec_terms.specs.declared.path.PathStep.{PathStep}
use Rattle.spec_bitcoin.specs.Keys.{IsStep}
use Rattle.spec_bitcoin.specs.Spelling.{IsTransaction}
use Rattle.spec_compiler.specs.declared.prepared.Prepared.{Prepared}
use Rattle.spec_compiler.specs.Compilation.{Compilation, compilation}
use Rattle.spec_compiler.specs.Instance.{Instance}
use Rattle.spec_run.specs.declared.event.Event.{Event}
use Rattle.spec_run.specs.Setup.{Setup}
use Rattle.spec_run.specs.Compiled.{compiled_instance}
use Rattle.spec_run.specs.Translation.{last_world}
use Rattle.spec_text.specs.Lines.{lines_of}
use Rattle.spec_text.specs.Words.{◌>>=◌, given, all_of}
use Rattle.spec_text.specs.EventLines.{is_some_list}
use Rattle.spec_text.specs.PlayText.{Ending}
use Rattle.spec_text.specs.PlayText as print
use Rattle.spec_text.specs.Played.{ending}
use Rattle.spec_tool.specs.declared.which.Which.{Which}
use Rattle.spec_tool.specs.declared.which.Which.TheVariants as names
use Rattle.spec_tool.specs.Psbt.{is_unsigned}
use Rattle.theory_plan_text.specs.PlanLines.{PlanLine, plan_line}
use Rattle.theory_plan_text.specs.PlanLines as line

-- ---- what a plan shows

pub data ShownPlan : Type 0 where
  uncompiled : ShownPlan
  -- all that the contract is compiled to
  compiled : (compilation : Compilation) → ShownPlan
  guess : (party : List ℕ) → (secret : List ℕ) → ShownPlan
  collision : (earlier : List ℕ) → (later : List ℕ) → ShownPlan

-- of a contract that may be compiled
abbrev pub shown_setting : (List ℕ → List ℕ) → Option Instance → ShownPlan
shown_setting hash None = uncompiled
shown_setting hash (Some instance) = compiled (compilation hash instance)

-- a halt alone, where there is one
abbrev pub unless_halts : Ending → ShownPlan → ShownPlan
unless_halts (print.whole tip live g offers) shown = shown
unless_halts (print.guessed event party secret) shown = guess party secret
unless_halts (print.collided event earlier later) shown = collision earlier later

-- of a run with one contract: what the contract is compiled to, as the last world has it
abbrev pub shown_plan : Setup → List Event → ShownPlan
shown_plan s es = unless_halts (ending s es) (shown_setting s.hash (compiled_instance s (last_world s es) 0))

-- ---- what can be shown

-- a transaction without witnesses, whose numbers are within their widths; its inputs can be counted in eight bytes
pub record IsShownTx (p : Prepared) : Type 0 where
  pub tx : IsTransaction p.tx
  pub unsigned : is_unsigned p.tx ≡ true
  pub few_inputs : length p.digests < 2 ^ 64

-- and the steps of all paths have numbers of four bytes
pub record IsPlannable (c : Compilation) : Type 0 where
  pub init : IsShownTx c.init
  pub paths : AllByRecursion (λ (p : List PathStep × Prepared). AllByRecursion IsStep (p.0) × IsShownTx (p.1)) c.paths
  pub scripts : AllByRecursion (λ (x : List PathStep × List ℕ). AllByRecursion IsStep (x.0)) c.scripts

-- ---- lines that are gathered, from the last to the first

pub record Gathered : Type 0 where
  pub scripts : List (List PathStep × List ℕ)
  -- digests whose transaction stands before them
  pub digests : List (List ℕ)
  pub transactions : List (Which × Prepared)

abbrev pub nothing_yet : Gathered
nothing_yet = record { scripts = []; digests = []; transactions = [] }

abbrev pub onto_gathered : PlanLine → Gathered → Option Gathered
onto_gathered (line.script position bytes) g = Some (record g { scripts = (position, bytes) ∷ g.scripts })
onto_gathered (line.digest which k bytes) g = Some (record g { digests = bytes ∷ g.digests })
onto_gathered (line.transaction which txid tx) g =
    Some (record g { digests = []; transactions = (which, record { tx = tx; txid = txid; digests = g.digests }) ∷ g.transactions })
onto_gathered l g = None

abbrev pub gathered : List PlanLine → Option Gathered
gathered [] = Some nothing_yet
gathered (l ∷ lines) = gathered lines >>= onto_gathered l

-- ---- the whole text

abbrev pub by_name : Which → Prepared → Option (List PathStep × Prepared)
by_name names.Init p = None
by_name (names.At path) p = Some (path, p)

abbrev pub by_path : List (Which × Prepared) → Option (List (List PathStep × Prepared))
by_path [] = Some []
by_path (e ∷ es) = onto (by_name (e.0) (e.1)) (by_path es)

-- the first is the initial one
abbrev pub first_by : Which → Prepared → List (Which × Prepared) → List (List PathStep × List ℕ) → Option ShownPlan
first_by names.Init p es scripts = by_path es >>= λ paths. Some (compiled (record { init = p; paths = paths; scripts = scripts }))
first_by (names.At path) p es scripts = None

abbrev pub first_of : List (Which × Prepared) → List (List PathStep × List ℕ) → Option ShownPlan
first_of [] scripts = None
first_of (e ∷ es) scripts = first_by (e.0) (e.1) es scripts

-- no digest stands before all transactions
abbrev pub compiled_by : Gathered → Option ShownPlan
compiled_by g = given (not (is_some_list g.digests)) g.transactions >>= λ txs. first_of txs g.scripts

-- a line that stands alone
abbrev pub alone : List PlanLine → ShownPlan → Option ShownPlan
alone lines shown = given (not (is_some_list lines)) shown

abbrev pub plan_by : PlanLine → List PlanLine → Option ShownPlan
plan_by line.compiled lines = gathered lines >>= compiled_by
plan_by line.uncompiled lines = alone lines uncompiled
plan_by (line.guessed party secret) lines = alone lines (guess party secret)
plan_by (line.collided earlier later) lines = alone lines (collision earlier later)
plan_by l lines = None

abbrev pub plan_in : List PlanLine → Option ShownPlan
plan_in [] = None
plan_in (l ∷ lines) = plan_by l lines

-- what a text prints of a plan
unfoldable pub plan_of : List ℕ → Option ShownPlan
plan_of text = all_of plan_line (lines_of text) >>= plan_in
