-- What is claimed of the text of `state` where its status is 0: read as a file of secrets, it gives what is known.
use Rattle.std.specs.Prelude.{◌≡◌, ℕ, ◌<◌, ◌≤◌, List, [], ◌∷◌, length, filter, ◌⊎◌, Bool, false, not, Option, Some, None}
use Rattle.std.specs.List.{Contains}
use Rattle.spec_data.specs.Hashes.{HashesBytes}
use Rattle.spec_data.specs.Lists.{is_among}
use Rattle.spec_compiler.specs.Keyed.Instance.{Instance}
use Rattle.spec_text.specs.Lines.{lines_of, words_of}
use Rattle.spec_tool.specs.Commands.{Printed}
use Rattle.spec_tool.specs.Reads.{Text, text_at}
use Rattle.spec_deal.specs.declared.entry.Shown.{Shown}
use Rattle.spec_deal.specs.declared.fault.SecretFault.TheVariants as faults
use Rattle.spec_deal.specs.SecretFile.{SecretsRead, shows, refused, collided, state_words, read_behind, string_for}
use Rattle.spec_deal.specs.Setting.{deal_instance}
use Rattle.spec_deal.specs.Sizes.{most_secrets_bytes}
use Rattle.spec_deal.specs.Verifier.{Verifier}
use Rattle.spec_chain.specs.Answers.{chain_text_answer}
use Rattle.spec_chain.specs.Commands as commands
use Rattle.spec_chain.specs.Commands.{ChainCommand}
use Rattle.spec_chain.specs.Outstanding.{known}
use Rattle.theory_deal.specs.SecretLines.{IsOther}
use Rattle.theory_state.specs.StateAnswers.{IsStateText}

-- ---- lines

-- whether the words of a line aren't read over
abbrev pub says_something : List (List ℕ) → Bool
says_something [] = false
says_something (word ∷ words) = not (is_among word state_words)

abbrev pub is_spoken : List ℕ → Bool
is_spoken line = says_something (words_of line)

-- the lines of a text that aren't read over where it is a file of secrets
abbrev pub spoken : List ℕ → List (List ℕ)
spoken text = filter is_spoken (lines_of text)

-- ---- what is read

-- two strings with one digest: one that these give, and one that was hashed or that they give
pub record DoCollide (hash : List ℕ → List ℕ) (messages : List (List ℕ)) (strings : List Shown) (earlier later : List ℕ) : Type 0 where
  pub name : List ℕ
  pub given : string_for strings name ≡ Some later
  pub heard : Contains messages earlier ⊎ ((other : List ℕ) × (string_for strings other ≡ Some earlier))
  pub other : IsOther hash later earlier

-- What a file of secrets comes to gives each name just the string that these give it; or two strings collide, or the text is too long. No
-- line is refused.
abbrev pub GivesThese : (List ℕ → List ℕ) → List (List ℕ) → List Shown → List ℕ → SecretsRead → Type 0
GivesThese hash messages strings text (shows told) =
    (length text ≤ most_secrets_bytes) × ((name : List ℕ) → string_for told name ≡ string_for strings name)
GivesThese hash messages strings text (refused fault) = (most_secrets_bytes < length text) × (fault ≡ faults.Size)
GivesThese hash messages strings text (collided earlier later) =
    (length text ≤ most_secrets_bytes) × DoCollide hash messages strings earlier later

-- whatever was hashed before, the text is read so, and so is each other with the same lines of secrets
abbrev pub IsFileOfSecrets : (List ℕ → List ℕ) → Instance → List Shown → List ℕ → Type 0
IsFileOfSecrets hash s strings text =
    (messages : List (List ℕ)) (other : List ℕ) → spoken other ≡ spoken text
    → GivesThese hash messages strings other (read_behind hash s messages other)

-- ---- the text of `state`

-- it says where the deal stands, and as a file of secrets it gives what is known there
pub record TellsSecrets (v : Verifier) (hash : List ℕ → List ℕ) (texts : List Text) (secrets : Option Text) (text : List ℕ) : Type 0 where
  pub stands : IsStateText v hash texts secrets text
  pub tells : IsFileOfSecrets hash (deal_instance stands.advert stands.deal) (known stands.course.state stands.strings) text

-- where a command asks it, with status 0
abbrev pub IfTells : Verifier → (List ℕ → List ℕ) → ChainCommand → List Text → Printed → Type 0
IfTells v hash (commands.on_deal command) texts printed = Unit {0}
IfTells v hash (commands.show contract deal) texts printed = Unit {0}
IfTells v hash (commands.state contract deal chain signatures) texts printed =
    printed.status ≡ 0 → TellsSecrets v hash texts None printed.text
IfTells v hash (commands.state_with contract deal chain signatures secrets) texts printed =
    printed.status ≡ 0 → TellsSecrets v hash texts (Some (text_at texts 4)) printed.text

-- of all files
abbrev pub StateTellsSecrets : Type 0
StateTellsSecrets = (v : Verifier) (hash : List ℕ → List ℕ) (command : ChainCommand) (texts : List Text) → HashesBytes hash
    → IfTells v hash command texts (chain_text_answer v hash command texts)
