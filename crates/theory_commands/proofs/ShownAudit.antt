-- What `audit` shows is an audit of the file in the run's last world, and is read as all that it finds.
use Rattle.std.proofs.Common.{◌≡◌, ℕ, List, [], ◌∷◌, Option, Some, None, refl, sym, subst, inl, inr}
use Rattle.std.specs.Prelude.{◌⊎◌}
use Rattle.spec_terms.specs.Advert.{Advert}
use Rattle.spec_run.specs.declared.event.Event.{Event}
use Rattle.spec_run.specs.declared.event.Run.{Run}
use Rattle.spec_run.specs.Conditions.{HashesBytes}
use Rattle.spec_run.specs.Setup.{Setup}
use Rattle.spec_run.specs.Translation.{last_world}
use Rattle.spec_tool.specs.Answers.{with_contract, audited_file}
use Rattle.spec_tool.specs.Audit.{audit_report, audit_collision}
use Rattle.spec_tool.specs.AuditText.{audit_text, audited, audit_answer}
use Rattle.spec_tool.specs.Commands.{Printed, setup_of}
use Rattle.spec_tool.specs.Reads.{Text, text_at}
use Rattle.theory_audit.specs.Audited.{HaltsAs}
use Rattle.theory_audit.proofs.Audited.{audits_find}
use Rattle.theory_plan_text.proofs.Audits.{audit_back}
use Rattle.theory_plan_text.specs.Statements.{IsWithin}
use Rattle.theory_commands.specs.ContractFiles.{HoldsContract}
use Rattle.theory_commands.specs.Files.{ShowsPlayed}
use Rattle.theory_commands.specs.RunFiles.{HoldsRun}
use Rattle.theory_commands.specs.Shown.Audit.{Finds, AuditHalts, FindsIf, ShowsAudit}
use Rattle.theory_commands.proofs.Files.{played, of_whole}
use Rattle.theory_commands.proofs.Played.{calm, is_run, known_run}

answer_is : (text : List ℕ) (s : Setup) (es : List Event)
    → audit_answer text s es ≡ audited (audit_collision s (last_world s es) text) (audit_text s (last_world s es) text)
unfolding audit_answer
answer_is text s es = refl

abbrev Audits : Setup → List Event → List ℕ → Printed → Type 0
Audits s es text printed = Finds s es text printed ⊎ AuditHalts s es text printed

module _ (s : Setup) (es : List Event) (text : List ℕ) where
  by_collision : (o : Option (List ℕ × List ℕ)) → HaltsAs s (last_world s es) text o
      → Audits s es text (audited o (audit_text s (last_world s es) text))
  by_collision None c = inl (record {
    calm = c;
    report = audit_report s (last_world s es) 0 text;
    is = audits_find.finds s (last_world s es) 0 text;
    answer = refl;
  })
  by_collision (Some pair) c = inr (record { earlier = pair.0; later = pair.1; collide = c; answer = refl })

module _ (hash : List ℕ → List ℕ) (bytes : HashesBytes hash) where
  module _ (run_text contract_text : Text) (run : Run) (advert : Advert)
      (h : HoldsRun run_text run) (k : HoldsContract contract_text advert) where
    abbrev s : Setup
    s = setup_of hash run (advert ∷ [])

    abbrev es : List Event
    es = run.events

    finds : (file : Text) → FindsIf file s es (audited_file file s es)
    finds None = refl
    finds (Some text) =
        of_whole (audit_answer text) s es (Audits s es text)
        (λ u. subst (Audits s es text) (sym (answer_is text s es))
        (by_collision s es text (audit_collision s (last_world s es) text)
        (audits_find.halts s es text (is_run hash bytes run_text contract_text run advert h k (calm s es u).opens))))

    audit_shown : (file : Text) → IsWithin file → ShowsAudit file s es (audited_file file s es)
    audit_shown file few = record {
      shown = finds file;
      read = audit_back s es (known_run run_text run h) (is_run hash bytes run_text contract_text run advert h k) file few;
    }

  pub audit_is_shown : (file : Text) → IsWithin file → (texts : List Text) → ShowsPlayed hash texts (with_contract (audited_file file) hash texts)
      (λ s es. ShowsAudit file s es (with_contract (audited_file file) hash texts))
  audit_is_shown file few texts =
      played (audited_file file) hash texts (ShowsAudit file)
      (λ run advert h k. audit_shown (text_at texts 0) (text_at texts 1) run advert h k file few)
