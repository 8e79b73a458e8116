-- Commands with further files answer to the texts of all of them.
use Rattle.std.proofs.Common.{◌≡◌, ℕ, Bool, true, false, List, [], ◌∷◌, length, Some, None, refl, ap, sym, ◌∙◌}
use Rattle.std.specs.Prelude.{if◌then◌else◌, nat_le, Err}
use Rattle.spec_data.specs.Lists.{look_up}
use Rattle.spec_run.specs.declared.event.Run.{Run}
use Rattle.spec_text.specs.Limits.{most_text_bytes, most_run_bytes}
use Rattle.spec_text.specs.RunFile.{read_run}
use Rattle.spec_text.specs.Refusals.{Judged, run_of, judged_run}
use Rattle.spec_tool.specs.Sizes.{most_psbt_bytes, most_audit_bytes, most_strategy_bytes}
use Rattle.spec_tool.specs.Reads.{Text, within, reads_in, texts_read}
use Rattle.spec_tool.specs.Commands.{JudgedAll, files_of, run_file, contract_file, psbt_file, psbt_shown, psbt_joined}
use Rattle.spec_tool.specs.Commands.{audit, auto, contracts_from, both_judged}
use Rattle.spec_tool.specs.Answers.{audited_file, strategy_file, too_long_run}
use Rattle.spec_tool.specs.Reading.{Files}
use Rattle.theory_text.proofs.Options.{some}
use Rattle.theory_tool.specs.Texts.{bounded, FurtherTextsTheorem}
use Rattle.theory_tool.proofs.Texts.{text_there, texts_onto, both_bounded, by_texts, not_within}

-- the texts of a run, a contract and a further file of so many bytes at most
three_texts : (there : Files) (limit : ℕ) (run run_text contract text file file_text : List ℕ) → look_up run there ≡ some run_text
    → look_up contract there ≡ some text → look_up file there ≡ some file_text
    → texts_read (reads_in there None 0 (run_file run ∷ (contract_file contract ∷ ((file, limit) ∷ []))))
    ≡ some (bounded most_run_bytes run_text ∷ (bounded most_text_bytes text ∷ (bounded limit file_text ∷ [])))
three_texts there limit run run_text contract text file file_text h k l =
    texts_onto (within most_run_bytes (look_up run there))
    (reads_in there None 1 (contract_file contract ∷ ((file, limit) ∷ [])))
    (bounded most_run_bytes run_text) (bounded most_text_bytes text ∷ (bounded limit file_text ∷ []))
    (text_there there most_run_bytes run run_text h)
    (texts_onto (within most_text_bytes (look_up contract there)) (reads_in there None 2 ((file, limit) ∷ []))
    (bounded most_text_bytes text) (bounded limit file_text ∷ []) (text_there there most_text_bytes contract text k)
    (texts_onto (within limit (look_up file there)) [] (bounded limit file_text) [] (text_there there limit file file_text l) refl))

-- a run file that is too long is refused, so the strategy beside it is none
beside : (hash : List ℕ → List ℕ) (run_text : List ℕ) (strategy : Text) (all : JudgedAll) (b : Bool)
    → nat_le (length run_text) most_run_bytes ≡ b
    → both_judged (strategy_file (if b then Some run_text else None) strategy) hash (run_of run_text) all
    ≡ both_judged (strategy_file (Some run_text) strategy) hash (run_of run_text) all
beside hash run_text strategy all true h = refl
beside hash run_text strategy all false h =
    let refused : run_of run_text ≡ Err too_long_run =
    ap (λ (c : Bool). if c then Err too_long_run else judged_run (read_run run_text)) (not_within (length run_text) most_run_bytes h) in
    ap (λ (j : Judged Run). both_judged (strategy_file None strategy) hash j all) refused
    ∙ sym (ap (λ (j : Judged Run). both_judged (strategy_file (Some run_text) strategy) hash j all) refused)

pub further_texts : FurtherTextsTheorem
further_texts = record {
  make_texts = λ hash there number size. refl;
  shown_texts = λ hash there file text h.
      by_texts hash (psbt_shown file) (reads_in there None 0 (files_of (psbt_shown file))) (bounded most_psbt_bytes text ∷ [])
      (texts_onto (within most_psbt_bytes (look_up file there)) [] (bounded most_psbt_bytes text) []
      (text_there there most_psbt_bytes file text h) refl);
  joined_texts = λ hash there first text second other h k.
      by_texts hash (psbt_joined first second) (reads_in there None 0 (files_of (psbt_joined first second)))
      (bounded most_psbt_bytes text ∷ (bounded most_psbt_bytes other ∷ []))
      (texts_onto (within most_psbt_bytes (look_up first there)) (reads_in there None 1 (psbt_file second ∷ []))
      (bounded most_psbt_bytes text) (bounded most_psbt_bytes other ∷ [])
      (text_there there most_psbt_bytes first text h)
      (texts_onto (within most_psbt_bytes (look_up second there)) [] (bounded most_psbt_bytes other) []
      (text_there there most_psbt_bytes second other k) refl));
  audit_texts = λ hash there run run_text contract text file file_text h k l.
      by_texts hash (audit run contract file) (reads_in there None 0 (files_of (audit run contract file)))
      (bounded most_run_bytes run_text ∷ (bounded most_text_bytes text ∷ (bounded most_audit_bytes file_text ∷ [])))
      (three_texts there most_audit_bytes run run_text contract text file file_text h k l)
      ∙ both_bounded (audited_file (bounded most_audit_bytes file_text)) hash run_text (text ∷ []);
  auto_texts = λ hash there run run_text contract text strategy strategy_text h k l.
      by_texts hash (auto run contract strategy) (reads_in there None 0 (files_of (auto run contract strategy)))
      (bounded most_run_bytes run_text ∷ (bounded most_text_bytes text ∷ (bounded most_strategy_bytes strategy_text ∷ [])))
      (three_texts there most_strategy_bytes run run_text contract text strategy strategy_text h k l)
      ∙ (both_bounded (strategy_file (bounded most_run_bytes run_text) (bounded most_strategy_bytes strategy_text)) hash run_text
      (text ∷ [])
      ∙ beside hash run_text (bounded most_strategy_bytes strategy_text) (contracts_from 0 (text ∷ []))
      (nat_le (length run_text) most_run_bytes) refl);
}
