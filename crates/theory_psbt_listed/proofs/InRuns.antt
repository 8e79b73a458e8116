-- What a run keeps lets the transactions that its contracts list fit, at every world.
use Rattle.std.proofs.Common.{◌≡◌, ℕ, List, [], Bool, Option, Some, refl, sym, ap, ◌∙◌, subst, arith}
use Rattle.std.specs.Prelude.{if◌then◌else◌}
use Rattle.std.specs.Option.{option_map_or}
use Rattle.std.proofs.lemmas.Bool.Decides.{nat_tests}
use Rattle.spec_compiler.specs.Instance.{Instance}
use Rattle.spec_run.specs.Compiled.{compiled_instance}
use Rattle.spec_tool.specs.declared.which.Which.{Which}
use Rattle.spec_tool.specs.Listed.{Listed, listed_at}
use Rattle.spec_tool.specs.PsbtText.{listed_psbt, psbt_line, no_path_line, setting_psbt, which_psbt, psbt_text, shown_judged}
use Rattle.spec_calculus.specs.Configuration.{Configuration}
use Rattle.spec_run.specs.declared.event.Event.{Event}
use Rattle.spec_run.specs.declared.outcome.Record.{Record}
use Rattle.spec_run.specs.Setup.{Setup}
use Rattle.spec_run.specs.World.{World}
use Rattle.spec_run.specs.Conditions.{IsSetup}
use Rattle.spec_run.specs.Event.{opening_world}
use Rattle.spec_run.specs.Translation.{opening_configuration, course, last_configuration, last_world}
use Rattle.spec_run.specs.Statements.{IsRun, HoldsThroughout, simulated}
use Rattle.theory_run.proofs.Following.{Keeps, run_posts, claims_and_keeps, holds-map, kept_throughout, kept_at_end}
use Rattle.theory_run.specs.KeptRuns.{KeptRun}
use Rattle.theory_run.proofs.Simulated.{opening_run, keeps_simulated}
use Rattle.theory_psbt_listed.specs.InRuns.{ListsFitting, ListedFitInRuns, IsReadBack, ReadsBack, ListedReadInRuns}
use Rattle.theory_psbt_listed.proofs.Digests.{AreBytes, bytes_after}
use Rattle.theory_psbt_listed.proofs.Fitting.{all_fit}
use Rattle.theory_psbt_listed.proofs.ReadBack.{read_again}
use Rattle.theory_psbt_listed.proofs.Small.{all_small, has_listed}

-- what every run keeps, and that each committed digest is of bytes
pub record KeptHere (s : Setup) (z : List (List ℕ)) (g : Configuration) (w : World) : Type 0 where
  pub run : KeptRun s z g w
  pub bytes : AreBytes w.promises

abbrev pub kept_here : Setup → List (List ℕ) → List Record → Configuration → World → Type 0
kept_here s z before g w = KeptHere s z g w

module _ (s : Setup) (es : List Event) (run : IsRun s es) where
  abbrev z : List (List ℕ)
  z = run_posts s es

  keeps_here : Keeps s (simulated s) (kept_here s z) z
  keeps_here = record {
    step = λ before g w e k is calm unguessed begins.
        let r = (keeps_simulated s es run).step before g w e k.run is calm unguessed begins in
        (r.0, record { run = r.1; bytes = bytes_after s run.setup.hash w e is k.bytes });
  }

  pub opens : KeptHere s z (opening_configuration s) (opening_world s)
  opens = record { run = opening_run s es run z; bytes = tt }

  -- what holds wherever this is kept, holds at every world of the run
  module _ (P : World → Type 0) (holds : (g : Configuration) (w : World) → KeptHere s z g w → P w) where
    pub at_opening : P (opening_world s)
    at_opening = holds (opening_configuration s) (opening_world s) opens

    pub at_end : P (last_world s es)
    at_end =
        let last = kept_at_end s (simulated s) (kept_here s z) es keeps_here run.events opens in
        holds (last_configuration s es) (last_world s es) last.holds

    pub at_turns : HoldsThroughout s (λ before g w t. P t.world) es
    at_turns =
        holds-map (claims_and_keeps (simulated s) (kept_here s z)) (λ before g w t. P t.world)
        (λ before g w t h. holds t.configuration t.world h.1) (course s es).turns [] (opening_configuration s) (opening_world s)
        (kept_throughout s (simulated s) (kept_here s z) es keeps_here run.events opens)

pub lists_fit : (s : Setup) → IsSetup s → (z : List (List ℕ)) (g : Configuration) (w : World) → KeptHere s z g w → ListsFitting s w
lists_fit s setup z g w kept k st which l c e = all_fit s setup g w kept.run.books kept.bytes k st c which l e

pub listed_fit : ListedFitInRuns
listed_fit s es run = record {
  opening = at_opening s es run (ListsFitting s) (lists_fit s run.setup (run_posts s es));
  events = at_turns s es run (ListsFitting s) (lists_fit s run.setup (run_posts s es));
  last = at_end s es run (ListsFitting s) (lists_fit s run.setup (run_posts s es));
}

-- ---- what is printed

printed_is : (s : Setup) → IsSetup s → (z : List (List ℕ)) (g : Configuration) (w : World) → KeptHere s z g w
    → (st : Instance) (which : Which) (l : Listed) → compiled_instance s w 0 ≡ Some st → listed_at s.hash st which ≡ Some l
    → which_psbt s w which ≡ psbt_line (listed_psbt s.hash w.book l)
printed_is s setup z g w kept st which l c e =
    let there = has_listed s setup g w kept.run.books kept.bytes 0 st c which l e in
    ap (λ (b : Bool). if b then setting_psbt s.hash w.book which (compiled_instance s w 0) else no_path_line which) there
    ∙ ap (setting_psbt s.hash w.book which) c
    ∙ ap (λ (o : Option Listed). option_map_or (λ x. psbt_line (listed_psbt s.hash w.book x)) o (no_path_line which)) e

reads_lists : (s : Setup) → IsSetup s → (z : List (List ℕ)) (g : Configuration) (w : World) → KeptHere s z g w → ReadsBack s w
reads_lists s setup z g w kept st which l c e =
    let p = listed_psbt s.hash w.book l in
    let same = printed_is s setup z g w kept st which l c e in
    let fits = all_fit s setup g w kept.run.books kept.bytes 0 st c which l e in
    let again = read_again s.hash setup.hash w.book l fits (all_small s setup g w kept.run.books kept.bytes 0 st c which l e) in
    let few = again.small in
    let here : IsReadBack s w l (psbt_line p) = record {
      printed = refl;
      small = grind (arith, nat_tests, few);
      read = again.read;
      shown = ap shown_judged again.read;
    } in
    subst (IsReadBack s w l) (sym same) here

text_is : (s : Setup) (es : List Event) (which : Which) → psbt_text which s es ≡ which_psbt s (last_world s es) which
unfolding psbt_text
text_is s es which = refl

pub listed_read : ListedReadInRuns
listed_read s es run =
    let holds = reads_lists s run.setup (run_posts s es) in
    let end = at_end s es run (ReadsBack s) holds in
    record {
      opening = at_opening s es run (ReadsBack s) holds;
      events = at_turns s es run (ReadsBack s) holds;
      last = λ st which l c e. subst (IsReadBack s (last_world s es) l) (sym (text_is s es which)) (end st which l c e);
    }
