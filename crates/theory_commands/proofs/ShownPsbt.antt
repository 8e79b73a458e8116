-- What `psbt` shows of a contract's transaction holds it with the signatures that are there.
use Rattle.std.proofs.Common.{◌≡◌, ℕ, ◌≤◌, Bool, true, false, List, [], ◌∷◌, length, Option, Some, None, refl, ap, ◌∙◌, arith}
use Rattle.std.specs.Prelude.{if◌then◌else◌, nat_le}
use Rattle.std.specs.Option.{option_map_or}
use Rattle.std.proofs.lemmas.Bool.Decides.{nat_tests}
use Rattle.spec_terms.specs.Advert.{Advert}
use Rattle.spec_compiler.specs.Instance.{Instance}
use Rattle.spec_run.specs.declared.event.Event.{Event}
use Rattle.spec_run.specs.declared.event.Run.{Run}
use Rattle.spec_run.specs.Compiled.{compiled_instance}
use Rattle.spec_run.specs.Conditions.{HashesBytes}
use Rattle.spec_run.specs.Setup.{Setup, contract_at}
use Rattle.spec_run.specs.Translation.{last_world}
use Rattle.spec_run.specs.World.{World}
use Rattle.spec_tool.specs.declared.which.Which.{Which}
use Rattle.spec_tool.specs.Answers.{with_contract, if_whole, printed_of}
use Rattle.spec_tool.specs.Commands.{prints, setup_of}
use Rattle.spec_tool.specs.Listed.{Listed, listed_at}
use Rattle.spec_tool.specs.PsbtText.{has_transaction, no_path_line, not_compiled_line, setting_psbt, psbt_line, psbt_text}
use Rattle.spec_tool.specs.PsbtText.{listed_psbt}
use Rattle.spec_tool.specs.Reads.{Text, text_at}
use Rattle.spec_tool.specs.Sizes.{most_psbt_bytes}
use Rattle.theory_psbt_listed.specs.InRuns.{IsReadBack}
use Rattle.theory_psbt_listed.proofs.InRuns.{listed_read}
use Rattle.theory_psbt.proofs.Kept.{spelled_is_psbt}
use Rattle.theory_psbt.specs.Listed.{SignersForEach}
use Rattle.theory_tool.specs.Runs.{IsUnhalted}
use Rattle.theory_commands.specs.ContractFiles.{HoldsContract}
use Rattle.theory_commands.specs.Files.{ShowsPlayed}
use Rattle.theory_commands.specs.PsbtFiles.{IsPsbtFile}
use Rattle.theory_commands.specs.RunFiles.{HoldsRun}
use Rattle.theory_commands.specs.Shown.Psbt.{PrintsPsbt, ShowsWhich, ShowsSigned}
use Rattle.theory_commands.proofs.Files.{played, of_whole}
use Rattle.theory_commands.proofs.Played.{calm, is_run}
use Rattle.theory_commands.proofs.PsbtFiles.{psbt_files_read}
use Rattle.theory_commands.proofs.Signatures.{input_count, signed_right, output_right}

small_is : (text : List ℕ) → nat_le (length text) most_psbt_bytes ≡ true → length text ≤ most_psbt_bytes
small_is text few = grind (arith, nat_tests, few)

-- what is read back is printed
prints_listed : (s : Setup) (w : World) (instance : Instance) (which : Which) (l : Listed) (text : List ℕ)
    → length l.signers ≡ length l.pending.spends → IsReadBack s w l text → PrintsPsbt s w l (prints 0 text)
prints_listed s w instance which l text count b =
    let holds : IsPsbtFile text (listed_psbt s.hash w.book l) = (psbt_files_read.read (Some text) (listed_psbt s.hash w.book l)).0 b.read in
    record {
      status = refl;
      small = small_is text b.small;
      psbt = listed_psbt s.hash w.book l;
      holds = holds;
      tx = refl;
      each_input = input_count s.hash w.book l.pending l.pending.spends l.signers count;
      inputs = output_right s w l;
      signatures = signed_right s w l (spelled_is_psbt holds.bytes (listed_psbt s.hash w.book l) holds.spelled);
    }

module _ (which : Which) (s : Setup) (es : List Event) where
  no_path_is : has_transaction (contract_at s 0) which ≡ false → psbt_text which s es ≡ no_path_line which
  unfolding psbt_text
  no_path_is e =
      ap (λ (b : Bool). if b then setting_psbt s.hash (last_world s es).book which
      (compiled_instance s (last_world s es) 0) else no_path_line which) e

  not_compiled_is : has_transaction (contract_at s 0) which ≡ true → compiled_instance s (last_world s es) 0 ≡ None
      → psbt_text which s es ≡ not_compiled_line
  unfolding psbt_text
  not_compiled_is e c =
      ap (λ (b : Bool). if b then setting_psbt s.hash (last_world s es).book which
      (compiled_instance s (last_world s es) 0) else no_path_line which) e
      ∙ ap (setting_psbt s.hash (last_world s es).book which) c

  unlisted_is : (instance : Instance) → compiled_instance s (last_world s es) 0 ≡ Some instance → listed_at s.hash instance which ≡ None
      → psbt_text which s es ≡ no_path_line which
  unfolding psbt_text
  unlisted_is instance c e = by_path (has_transaction (contract_at s 0) which)
    where
      by_path : (b : Bool)
          → (if b then setting_psbt s.hash (last_world s es).book which (compiled_instance s (last_world s es) 0) else no_path_line which)
          ≡ no_path_line which
      by_path false = refl
      by_path true =
          ap (setting_psbt s.hash (last_world s es).book which) c
          ∙ ap (λ (o : Option Listed). option_map_or (λ l. psbt_line (listed_psbt s.hash (last_world s es).book l))
          o (no_path_line which)) e

module _ (signers : SignersForEach) (hash : List ℕ → List ℕ) (bytes : HashesBytes hash) (which : Which) where
  module _ (run_text contract_text : Text) (run : Run) (advert : Advert)
      (h : HoldsRun run_text run) (k : HoldsContract contract_text advert) where
    abbrev s : Setup
    s = setup_of hash run (advert ∷ [])

    abbrev es : List Event
    es = run.events

    which_shown : IsUnhalted s es → ShowsWhich which s (last_world s es) (printed_of (psbt_text which) s es)
    which_shown u = record {
      compiled = λ l c.
          prints_listed s (last_world s es) c.instance which l (psbt_text which s es)
          (signers hash c.instance which l c.named)
          ((listed_read s es (is_run hash bytes run_text contract_text run advert h k (calm s es u).opens)).last
          c.instance which l c.compiled c.named);
      no_path = λ e. ap (prints 0) (no_path_is which s es e);
      unlisted = λ instance c e. ap (prints 0) (unlisted_is which s es instance c e);
      not_compiled = λ e c. ap (prints 0) (not_compiled_is which s es e c);
    }

    signed_shown : ShowsSigned which s es (if_whole (printed_of (psbt_text which)) s es)
    signed_shown = of_whole (printed_of (psbt_text which)) s es (ShowsWhich which s (last_world s es)) which_shown

  pub signed_is_shown : (texts : List Text) → ShowsPlayed hash texts (with_contract (if_whole (printed_of (psbt_text which))) hash texts)
      (λ s es. ShowsSigned which s es (with_contract (if_whole (printed_of (psbt_text which))) hash texts))
  signed_is_shown texts =
      played (if_whole (printed_of (psbt_text which))) hash texts (ShowsSigned which)
      (λ run advert h k. signed_shown (text_at texts 0) (text_at texts 1) run advert h k)
