-- Each status comes by its cause: the theorems on statuses, at one command and its reads.
use Rattle.std.proofs.Common.{ℕ, List, Option, Some, None, refl}
use Rattle.spec_tool.specs.Reads.{Read, Text, texts_read}
use Rattle.spec_tool.specs.Commands.{Command}
use Rattle.spec_tool.specs.Answers.{tool_answer, read_answer, text_answer}
use Rattle.spec_tool.specs.Causes.{CausesTheorem}
use Rattle.theory_tool.specs.Statuses.{StatusesTheorem}
use Rattle.theory_commands.specs.Causes.{CausesInFiles}
use Rattle.tool_headline.specs.Headline.{HasCauses, CausedByTexts, Caused}

has_causes : CausesTheorem → StatusesTheorem → CausesInFiles → (hash : List ℕ → List ℕ) (command : Command) (texts : List Text)
    → HasCauses hash command texts (text_answer hash command texts).status
has_causes causes statuses files hash command texts = record {
  whole = statuses.whole hash command texts;
  contract_refused = causes.contract_refused hash command texts;
  run_refused = causes.run_refused hash command texts;
  guessed = statuses.guessed hash command texts;
  collided = statuses.collided hash command texts;
  psbt_refused = causes.psbt_refused hash command texts;
  audit_refused = statuses.audit_refused hash command texts;
  strategy_refused = statuses.strategy_refused hash command texts;
  in_files = files hash command texts;
}

by_texts : CausesTheorem → StatusesTheorem → CausesInFiles → (hash : List ℕ → List ℕ) (command : Command) (o : Option (List Text))
    → CausedByTexts hash command o (read_answer hash command o)
by_texts causes statuses files hash command None = (refl, refl)
by_texts causes statuses files hash command (Some texts) = has_causes causes statuses files hash command texts

pub caused : CausesTheorem → StatusesTheorem → CausesInFiles → (hash : List ℕ → List ℕ) (command : Option Command) (reads : List Read)
    → Caused hash command reads (tool_answer hash command reads)
caused causes statuses files hash None reads = refl
caused causes statuses files hash (Some command) reads = by_texts causes statuses files hash command (texts_read reads)
