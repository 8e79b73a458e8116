-- What each command answers shows what is said of it.
use Rattle.std.proofs.Common.{◌≡◌, ℕ, List, [], ◌∷◌, drop, length, true, Some, None, arith}
use Rattle.std.proofs.lemmas.Bool.{and_parts}
use Rattle.std.proofs.lemmas.Bool.Decides.{nat_tests}
use Rattle.std.specs.Prelude.{nat_le}
use Rattle.spec_run.specs.Conditions.{HashesBytes}
use Rattle.spec_text.specs.Played.{play_text}
use Rattle.spec_tool.specs.Answers.{text_answer}
use Rattle.spec_tool.specs.Commands.{Command, check, play, plan, make, psbt_of, psbt_shown, psbt_joined, weigh, audit, auto, files_of, run_answer}
use Rattle.spec_tool.specs.Reads.{Asked, Text, text_at, fits, all_fit}
use Rattle.spec_tool.specs.Sizes.{most_audit_bytes}
use Rattle.theory_commands.specs.Commands.{ShowsCommand, CommandsShow}
use Rattle.theory_plan_text.specs.Statements.{IsWithin}
use Rattle.theory_commands.proofs.Refused.{files_judged}
use Rattle.theory_commands.proofs.ShownAudit.{audit_is_shown}
use Rattle.theory_commands.proofs.ShownAuto.{auto_is_shown}
use Rattle.theory_commands.proofs.ShownFiles.{check_shown, file_shown, files_shown}
use Rattle.theory_commands.proofs.ShownMake.{make_shown}
use Rattle.theory_commands.proofs.ShownPlan.{Theorems, plan_is_shown, weights_are_shown}
use Rattle.theory_commands.proofs.ShownPsbt.{signed_is_shown}

-- the file of an audit is the third
audited_within : (run contract : Asked) (file : List ℕ) (texts : List Text)
    → all_fit (run ∷ contract ∷ (file, most_audit_bytes) ∷ []) texts ≡ true → IsWithin (text_at texts 2)
audited_within run contract file [] few = tt
audited_within run contract file (first ∷ []) few = tt
audited_within run contract file (first ∷ second ∷ []) few = tt
audited_within run contract file (first ∷ second ∷ None ∷ texts) few = tt
audited_within run contract file (first ∷ second ∷ Some bytes ∷ texts) few =
    let last = (and_parts (fits contract second) _ (and_parts (fits run first) _ few).1).1 in
    let test : nat_le (length bytes) most_audit_bytes ≡ true = (and_parts (fits (file, most_audit_bytes) (Some bytes)) _ last).0 in
    grind (arith, nat_tests, test)

shows : Theorems → (hash : List ℕ → List ℕ) → HashesBytes hash → (command : Command) (texts : List Text)
    → all_fit (files_of command) texts ≡ true → ShowsCommand hash command texts (text_answer hash command texts)
shows t hash bytes (check contract) texts few = check_shown (text_at texts 0)
shows t hash bytes (play run contracts) texts few = files_judged.said (run_answer play_text) hash (text_at texts 0) (drop 1 texts)
shows t hash bytes (plan run contract) texts few = plan_is_shown t hash bytes texts
shows t hash bytes (make number size) texts few = make_shown hash bytes number size
shows t hash bytes (psbt_of run contract which) texts few = signed_is_shown t.signers hash bytes which texts
shows t hash bytes (psbt_shown file) texts few = file_shown (text_at texts 0)
shows t hash bytes (psbt_joined first second) texts few = files_shown (text_at texts 0) (text_at texts 1)
shows t hash bytes (weigh run contract) texts few = weights_are_shown t hash bytes texts
shows t hash bytes (audit run contract file) texts few = audit_is_shown hash bytes (text_at texts 2) (audited_within _ _ file texts few) texts
shows t hash bytes (auto run contract strategy) texts few = auto_is_shown hash bytes (text_at texts 2) texts

pub commands_show : Theorems → CommandsShow
commands_show t hash bytes command texts few = shows t hash bytes command texts few
