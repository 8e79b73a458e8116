-- A run file with a contract is a run of which the theorems on runs speak, where nothing halts it.
use Rattle.std.proofs.Common.{◌≡◌, ℕ, Bool, true, false, List, [], ◌∷◌, Option, Some, None, refl, sym, ap, arith}
use Rattle.std.specs.Prelude.{if◌then◌else◌}
use Rattle.spec_calculus.specs.Configuration.{Configuration}
use Rattle.spec_terms.specs.Advert.{Advert}
use Rattle.spec_terms.specs.Faults.{IsWellFormed}
use Rattle.spec_compiler.specs.Instance.{Instance}
use Rattle.spec_run.specs.declared.event.Event.{Event}
use Rattle.spec_run.specs.declared.event.Run.{Run}
use Rattle.spec_run.specs.Compiled.{compiled_instance, instance_of, is_complete}
use Rattle.spec_run.specs.Conditions.{HashesBytes}
use Rattle.spec_run.specs.Pending.{Halt, Collided, Guessed}
use Rattle.spec_run.specs.Event.{opening_collision}
use Rattle.spec_run.specs.Setup.{Setup}
use Rattle.spec_run.specs.Statements.{IsRun}
use Rattle.spec_run.specs.Translation.{course, end_world, end_configuration, first_halt}
use Rattle.spec_run.specs.World.{World}
use Rattle.spec_text.specs.Played.{ending_from}
use Rattle.spec_tool.specs.Commands.{setup_of, ending_status}
use Rattle.spec_tool.specs.Reads.{Text}
use Rattle.theory_text.proofs.Lines.ValidRuns.{run_file_is}
use Rattle.theory_text.specs.RunFiles.{IsReadRun}
use Rattle.theory_play_text.proofs.ReadRuns.{IsKnownRun, run_known}
use Rattle.theory_tool.specs.Runs.{IsUnhalted}
use Rattle.theory_commands.specs.ContractFiles.{HoldsContract}
use Rattle.theory_commands.specs.RunFiles.{HoldsRun}
use Rattle.theory_commands.proofs.Files.{unhalted}
use Rattle.theory_commands.proofs.RunFiles.{run_files_read}

-- ---- halts

-- neither the opening nor an event halts
pub record IsCalm (s : Setup) (es : List Event) : Type 0 where
  pub opens : opening_collision s ≡ None
  pub goes : first_halt s es ≡ None

calm_from : (w : World) (g : Configuration) (o : Option (List ℕ × List ℕ)) (h : Option (Event × Halt))
    → ending_status (ending_from w g o h) ≡ 0 → (o ≡ None) × (h ≡ None)
calm_from w g (Some p) h e = absurd (cc)
calm_from w g None None e = (refl, refl)
calm_from w g None (Some (event, Collided earlier later)) e = absurd (cc)
calm_from w g None (Some (event, Guessed party secret)) e = absurd (cc)

pub calm : (s : Setup) (es : List Event) → IsUnhalted s es → IsCalm s es
calm s es u =
    let c =
    calm_from (end_world s (course s es)) (end_configuration s (course s es)) (opening_collision s) (first_halt s es) (unhalted s es u) in
    record { opens = c.0; goes = c.1 }

-- ---- runs

-- a contract that is taken is well-formed
pub well_formed : (text : Text) (advert : Advert) → HoldsContract text advert → IsWellFormed advert
well_formed None advert h = absurd h
well_formed (Some text) advert h = record { readable = h.read.readable; faultless = h.faultless; limited = h.limited }

-- a run file that is taken spells such a run
read_run_is : (text : Text) (run : Run) → HoldsRun text run → IsReadRun run
read_run_is None run h = absurd h
read_run_is (Some text) run h = run_file_is text run ((run_files_read.read (Some text) run).1 h)

-- and its names, secrets and events are such as text may have
pub known_run : (text : Text) (run : Run) → HoldsRun text run → IsKnownRun run.header run.events
known_run None run h = absurd h
known_run (Some text) run h = run_known text run ((run_files_read.read (Some text) run).1 h)

module _ (hash : List ℕ → List ℕ) (bytes : HashesBytes hash) (run_text contract_text : Text) (run : Run) (advert : Advert)
    (h : HoldsRun run_text run) (k : HoldsContract contract_text advert) where
  pub is_run : opening_collision (setup_of hash run (advert ∷ [])) ≡ None → IsRun (setup_of hash run (advert ∷ [])) run.events
  is_run opens =
      let is = read_run_is run_text run h in
      record {
        setup = record {
          hash = bytes;
          header = is.header;
          few_contracts = omega arith;
          contracts = (well_formed contract_text advert k, tt);
        };
        opens = opens;
        events = is.events (setup_of hash run (advert ∷ [])) refl;
      }

-- ---- the contract

-- what the contract is compiled with is the run's
advert_if : (b : Bool) (w : World) (advert : Advert) (instance : Instance)
    → (if b then Some (instance_of w 0 advert) else None) ≡ Some instance → instance.advert ≡ advert
advert_if true w advert instance e =
    let same : instance_of w 0 advert ≡ instance = cc in
    ap (λ (x : Instance). x.advert) (sym same)
advert_if false w advert instance e = absurd (cc)

pub advert_is : (hash : List ℕ → List ℕ) (run : Run) (advert : Advert) (w : World) (instance : Instance)
    → compiled_instance (setup_of hash run (advert ∷ [])) w 0 ≡ Some instance → instance.advert ≡ advert
advert_is hash run advert w instance e = advert_if (is_complete w 0 advert) w advert instance e
