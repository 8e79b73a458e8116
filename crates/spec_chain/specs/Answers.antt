-- What the program for deals answers to words and to what the reads of its files answered: a status and a text, for every command.
--
-- 17  the chain file is refused
--
-- The other statuses are those of commands on a deal alone. Of a chain the first that applies is answered, in this order: the words; the
-- reads, in the order of the words; the contract; the deal; the chain file, whose strings collide at their lines; the file of signatures;
-- that of secrets, whose strings collide at their lines. What is missing refuses nothing.
use Rattle.std.specs.Prelude.{ℕ, List, [], length, Bool, ◌==◌, Option, Some, None}
use Rattle.spec_compiler.specs.Keyed.Keys.{Keys}
use Rattle.spec_compiler.specs.Keyed.Instance.{Instance}
use Rattle.spec_tool.specs.Answers.{unread}
use Rattle.spec_tool.specs.Commands.{Printed, prints, usage}
use Rattle.spec_tool.specs.Reads.{Read, Text, text_at, texts_read, are_made}
use Rattle.spec_deal.specs.declared.entry.Shown.{Shown}
use Rattle.spec_deal.specs.declared.fault.SecretFault.TheVariants as secret_faults
use Rattle.spec_deal.specs.declared.signed.Signed.{Signed}
use Rattle.spec_deal.specs.Answers.{collides, of_deal, of_shown_deal, with_signatures, signatures_in, with_secrets, deal_text_answer}
use Rattle.spec_deal.specs.SecretFile.{SecretsRead, refused as unusable, read_behind}
use Rattle.spec_deal.specs.Verifier.{Verifier}
use Rattle.spec_show.specs.ShowText.{show_text}
use Rattle.spec_chain.specs.declared.fault.ChainFault.TheVariants as chain_faults
use Rattle.spec_chain.specs.declared.reading.Reading.{Reading}
use Rattle.spec_chain.specs.Chain.{Course, Followed, stands, refused, collided, follow_reading}
use Rattle.spec_chain.specs.ChainFile.{read_chain}
use Rattle.spec_chain.specs.Commands as commands
use Rattle.spec_chain.specs.Commands.{ChainCommand, chain_files}
use Rattle.spec_chain.specs.RefusedText.{chain_refused_line}
use Rattle.spec_chain.specs.StateText.{state_text}

-- ---- the chain

-- what a chain file says
abbrev pub chain_in : Text → Reading
chain_in None = record { confirmed = []; tip = 0; fault = Some chain_faults.Size }
chain_in (Some text) = read_chain text

abbrev pub with_course : (Course → ℕ → Printed) → Followed → Printed
with_course answer (stands course tip) = answer course tip
with_course answer (refused fault) = prints 17 (chain_refused_line fault)
with_course answer (collided earlier later) = collides earlier later

-- ---- secrets

-- the secrets of a file, behind the messages that were hashed
abbrev pub told_in : (List ℕ → List ℕ) → Instance → List (List ℕ) → Text → SecretsRead
told_in hash s messages None = unusable secret_faults.Size
told_in hash s messages (Some text) = read_behind hash s messages text

-- ---- where a deal stands

-- by these signatures and secrets
abbrev pub stood_answer : (List ℕ → List ℕ) → Keys → Instance → Course → ℕ → List Signed → List Shown → Printed
stood_answer hash keys s course tip given strings = prints 0 (state_text hash keys s course tip given strings)

-- without a file of secrets only those are known that the chain shows
abbrev pub course_answer : Verifier → (List ℕ → List ℕ) → Keys → Instance → Text → Course → ℕ → Printed
course_answer v hash keys s signatures course tip =
    with_signatures (λ given. stood_answer hash keys s course tip given []) (signatures_in v hash keys s signatures)

abbrev pub course_with_answer : Verifier → (List ℕ → List ℕ) → Keys → Instance → Text → Text → Course → ℕ → Printed
course_with_answer v hash keys s signatures secrets course tip =
    with_signatures
    (λ given. with_secrets (λ strings. stood_answer hash keys s course tip given strings) (told_in hash s course.messages secrets))
    (signatures_in v hash keys s signatures)

abbrev pub state_answer : Verifier → (List ℕ → List ℕ) → Text → Text → Keys → Instance → Printed
state_answer v hash chain signatures keys s =
    with_course (course_answer v hash keys s signatures) (follow_reading hash keys s (chain_in chain))

abbrev pub state_with_answer : Verifier → (List ℕ → List ℕ) → Text → Text → Text → Keys → Instance → Printed
state_with_answer v hash chain signatures secrets keys s =
    with_course (course_with_answer v hash keys s signatures secrets) (follow_reading hash keys s (chain_in chain))

-- ---- all commands

-- what a command answers to the texts of its files
abbrev pub chain_text_answer : Verifier → (List ℕ → List ℕ) → ChainCommand → List Text → Printed
chain_text_answer v hash (commands.on_deal command) texts = deal_text_answer v hash command texts
chain_text_answer v hash (commands.show contract deal) texts =
    of_shown_deal v hash (λ network keys s. prints 0 (show_text hash network keys s)) texts
chain_text_answer v hash (commands.state contract deal chain signatures) texts =
    of_deal v hash (state_answer v hash (text_at texts 2) (text_at texts 3)) texts
chain_text_answer v hash (commands.state_with contract deal chain signatures secrets) texts =
    of_deal v hash (state_with_answer v hash (text_at texts 2) (text_at texts 3) (text_at texts 4)) texts

abbrev pub chain_read_answer : Verifier → (List ℕ → List ℕ) → ChainCommand → Option (List Text) → Printed
chain_read_answer v hash command None = unread
chain_read_answer v hash command (Some texts) = chain_text_answer v hash command texts

-- ---- the call

-- what words answer to the reads of their files, in order up to the first that failed; those that are no command read nothing
abbrev pub chain_answer : Verifier → (List ℕ → List ℕ) → Option ChainCommand → List Read → Printed
chain_answer v hash None reads = usage
chain_answer v hash (Some command) reads = chain_read_answer v hash command (texts_read reads)

-- whether these are the reads of these words
abbrev pub chain_reads : Option ChainCommand → List Read → Bool
chain_reads None reads = length reads == 0
chain_reads (Some command) reads = are_made (chain_files command) reads
