-- Well-formed files without a halt give the status 0.
use Rattle.std.proofs.Common.{◌≡◌, ℕ, List, [], ◌∷◌, Ok, ap, ◌∙◌}
use Rattle.spec_terms.specs.Advert.{Advert}
use Rattle.spec_run.specs.declared.event.Event.{Event}
use Rattle.spec_run.specs.declared.event.Run.{Run}
use Rattle.spec_run.specs.Setup.{Setup}
use Rattle.spec_text.specs.Played.{ending, play_text}
use Rattle.spec_text.specs.PlanText.{plan_text}
use Rattle.spec_text.specs.Refusals.{Judged, run_of}
use Rattle.spec_tool.specs.Commands.{Printed, JudgedAll, check_judged, contracts_from, both_judged, contracts_judged, run_answer}
use Rattle.spec_tool.specs.Commands.{setup_of, ending_status}
use Rattle.spec_tool.specs.PsbtText.{psbt_text}
use Rattle.spec_tool.specs.WeighText.{weigh_text}
use Rattle.spec_tool.specs.Answers.{if_whole, printed_of, unless_stopped}
use Rattle.spec_tool.specs.Reading.{CompletenessTheorem}
use Rattle.std.proofs.Common.{Bool, true, length, Option, None, Some, refl}
use Rattle.std.specs.Prelude.{if◌then◌else◌, nat_le, Result}
use Rattle.spec_data.specs.Lists.{look_up}
use Rattle.spec_run.specs.Translation.{last_world}
use Rattle.spec_text.specs.Limits.{most_text_bytes, most_run_bytes}
use Rattle.spec_tool.specs.Sizes.{most_psbt_bytes, most_audit_bytes}
use Rattle.spec_tool.specs.Reads.{Text, within, reads_in, text_read}
use Rattle.spec_tool.specs.Commands.{files_of, contract_file, psbt_file, psbt_shown, psbt_joined, audit}
use Rattle.spec_tool.specs.Psbt.{Psbt}
use Rattle.spec_tool.specs.PsbtBytes.{Discord}
use Rattle.spec_tool.specs.PsbtText.{psbt_in, shown_judged, joined_judged, combined_answer}
use Rattle.spec_tool.specs.Audit.{audit_collision}
use Rattle.spec_tool.specs.AuditText.{audit_answer, audited, audit_text}
use Rattle.spec_tool.specs.Answers.{audited_file}
use Rattle.spec_tool.specs.Reading.{Files}
use Rattle.theory_text.proofs.Options.{some}
use Rattle.theory_tool.specs.Texts.{bounded}
use Rattle.theory_tool.proofs.Texts.{text_there, texts_onto, both_bounded, by_texts, texts_are_answered}

abbrev status_of : Printed → ℕ
status_of printed = printed.status

-- what is answered of a valid run and well-formed contracts
pub judged_status : (of : Setup → List Event → Printed) (hash : List ℕ → List ℕ) (run_text : List ℕ) (texts : List (List ℕ)) (r : Run)
    (adverts : List Advert)
    → run_of run_text ≡ Ok r → contracts_from 0 texts ≡ Ok adverts
    → both_judged of hash (run_of run_text) (contracts_from 0 texts) ≡ of (setup_of hash r adverts) r.events
judged_status of hash run_text texts r adverts h k =
    ap (λ (j : Judged Run). both_judged of hash j (contracts_from 0 texts)) h ∙ ap (λ (all : JudgedAll). contracts_judged of hash r all) k

-- the status of a run that isn't halted
whole_status : (text : Setup → List Event → List ℕ) (s : Setup) (es : List Event) → ending_status (ending s es) ≡ 0
    → status_of (if_whole (printed_of text) s es) ≡ 0
whole_status text s es h = ap (λ (n : ℕ). status_of (unless_stopped n (ending s es) (printed_of text s es))) h

-- a file within its size
pub within_size : (limit : ℕ) (text : List ℕ) → nat_le (length text) limit ≡ true → bounded limit text ≡ some text
within_size limit text h = ap (λ (b : Bool). if b then some text else None) h

psbt_there : (there : Files) (file text : List ℕ) → look_up file there ≡ Some text → nat_le (length text) most_psbt_bytes ≡ true
    → text_read (within most_psbt_bytes (look_up file there)) ≡ Some (some text)
psbt_there there file text h k = text_there there most_psbt_bytes file text h
    ∙ ap (λ (t : Text). Some t) (within_size most_psbt_bytes text k)

-- the status of an audit where its transactions don't collide
audit_status : (text : List ℕ) (s : Setup) (es : List Event) → audit_collision s (last_world s es) text ≡ None
    → status_of (audit_answer text s es) ≡ 0
unfolding audit_answer
audit_status text s es h = ap (λ (o : Option (List ℕ × List ℕ)). status_of (audited o (audit_text s (last_world s es) text))) h

audit_whole : (text : List ℕ) (s : Setup) (es : List Event) → ending_status (ending s es) ≡ 0
    → audit_collision s (last_world s es) text ≡ None → status_of (if_whole (audit_answer text) s es) ≡ 0
audit_whole text s es h k = ap (λ (n : ℕ). status_of (unless_stopped n (ending s es) (audit_answer text s es))) h ∙ audit_status text s es k

pub all_end : CompletenessTheorem
all_end = record {
  check_ends = λ hash there contract text advert h k.
      ap status_of (texts_are_answered.check_text hash there contract text h) ∙ ap (λ (j : Judged Advert). status_of (check_judged j)) k;
  play_ends = λ hash there run run_text contracts texts r adverts h k e f g.
      ap status_of
      (texts_are_answered.play_texts hash there run run_text contracts texts h k
      ∙ judged_status (run_answer play_text) hash run_text texts r adverts e f) ∙ g;
  plan_ends = λ hash there run run_text contract text r adverts h k e f g.
      ap status_of
      (texts_are_answered.plan_texts hash there run run_text contract text h k
      ∙ judged_status (run_answer plan_text) hash run_text (text ∷ []) r adverts e f) ∙ g;
  psbt_ends = λ hash there which run run_text contract text r adverts h k e f g.
      ap status_of
      (texts_are_answered.psbt_texts hash there which run run_text contract text h k
      ∙ judged_status (if_whole (printed_of (psbt_text which))) hash run_text (text ∷ []) r adverts e f)
      ∙ whole_status (psbt_text which) (setup_of hash r adverts) r.events g;
  weigh_ends = λ hash there run run_text contract text r adverts h k e f g.
      ap status_of
      (texts_are_answered.weigh_texts hash there run run_text contract text h k
      ∙ judged_status (if_whole (printed_of weigh_text)) hash run_text (text ∷ []) r adverts e f)
      ∙ whole_status weigh_text (setup_of hash r adverts) r.events g;
  make_ends = λ hash there number size g. g;
  shown_ends = λ hash there file text p h k e.
      ap status_of (by_texts hash (psbt_shown file) (reads_in there None 0 (files_of (psbt_shown file))) (some text ∷ [])
      (texts_onto (within most_psbt_bytes (look_up file there)) [] (some text) [] (psbt_there there file text h k) refl))
      ∙ ap (λ (j : Judged Psbt). status_of (shown_judged j)) e;
  joined_ends = λ hash there file text other other_text p q joined h k e h' k' e' f.
      ap status_of (by_texts hash (psbt_joined file other) (reads_in there None 0 (files_of (psbt_joined file other)))
      (some text ∷ (some other_text ∷ []))
      (texts_onto (within most_psbt_bytes (look_up file there))
      (reads_in there None 1 (psbt_file other ∷ [])) (some text) (some other_text ∷ [])
      (psbt_there there file text h k)
      (texts_onto (within most_psbt_bytes (look_up other there)) [] (some other_text) [] (psbt_there there other other_text h' k') refl)))
      ∙ (ap (λ (j : Judged Psbt). status_of (joined_judged j (psbt_in (some other_text)))) e
      ∙ (ap (λ (j : Judged Psbt). status_of (joined_judged (Ok p) j)) e'
      ∙ ap (λ (r : Result Psbt Discord). status_of (combined_answer r)) f));
  audit_ends = λ hash there run run_text contract text file file_text r adverts h k l e f m g c.
      ap status_of
      (by_texts hash (audit run contract file) (reads_in there None 0 (files_of (audit run contract file)))
      (bounded most_run_bytes run_text ∷ (bounded most_text_bytes text ∷ (bounded most_audit_bytes file_text ∷ [])))
      (texts_onto (within most_run_bytes (look_up run there))
      (reads_in there None 1 (contract_file contract ∷ ((file, most_audit_bytes) ∷ [])))
      (bounded most_run_bytes run_text) (bounded most_text_bytes text ∷ (bounded most_audit_bytes file_text ∷ []))
      (text_there there most_run_bytes run run_text h)
      (texts_onto (within most_text_bytes (look_up contract there)) (reads_in there None 2 ((file, most_audit_bytes) ∷ []))
      (bounded most_text_bytes text) (bounded most_audit_bytes file_text ∷ []) (text_there there most_text_bytes contract text k)
      (texts_onto (within most_audit_bytes (look_up file there)) [] (bounded most_audit_bytes file_text) []
      (text_there there most_audit_bytes file file_text l) refl)))
      ∙ (both_bounded (audited_file (bounded most_audit_bytes file_text)) hash run_text (text ∷ [])
      ∙ judged_status (audited_file (bounded most_audit_bytes file_text)) hash run_text (text ∷ []) r adverts e f))
      ∙ (ap (λ (t : Text). status_of (audited_file t (setup_of hash r adverts) r.events)) (within_size most_audit_bytes file_text m)
      ∙ audit_whole file_text (setup_of hash r adverts) r.events g c);
}
