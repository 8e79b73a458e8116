-- What is answered of the further files of a command, once its deal is compiled.
use Rattle.std.specs.Prelude.{◌≡◌, ℕ, List, [], Bool, true, Option, Some, None, Result, Err}
use Rattle.std.specs.List.{list_all}
use Rattle.spec_tool.specs.Answers.{unread}
use Rattle.spec_tool.specs.Commands.{Printed, prints}
use Rattle.spec_tool.specs.PsbtText.{psbt_line}
use Rattle.spec_tool.specs.Keyed.Listed.{Listed}
use Rattle.spec_tool.specs.Reads.{Text, text_at}
use Rattle.spec_compiler.specs.Keyed.Instance.{Instance}
use Rattle.spec_compiler.specs.Keyed.Keys.{Keys}
use Rattle.spec_deal.specs.declared.entry.Shown.{Shown as Told}
use Rattle.spec_deal.specs.declared.fault.SignatureFault.{SignatureFault}
use Rattle.spec_deal.specs.declared.fault.SignatureFault.TheVariants as signature_faults
use Rattle.spec_deal.specs.declared.signed.Signed.{Signed}
use Rattle.spec_deal.specs.declared.transaction.Transaction.{Transaction}
use Rattle.spec_deal.specs.Answers as answers
use Rattle.spec_deal.specs.Answers.{of_transaction, of_signatures, with_signatures, with_secrets, finished_answer, ready_answer}
use Rattle.spec_deal.specs.Commands as commands
use Rattle.spec_deal.specs.Commands.{DealCommand}
use Rattle.spec_deal.specs.DealText.{plan_text, psbts_text, unsigned_psbt, missing_text, held_text}
use Rattle.spec_deal.specs.ReadyText.{endorse_text}
use Rattle.spec_deal.specs.RefusedText.{finish_refused_line}
use Rattle.spec_deal.specs.SecretFile.{has_length, SecretsRead, shows}
use Rattle.spec_deal.specs.SignatureFile.{read_given}
use Rattle.spec_deal.specs.Verifier.{secp256k1}
use Rattle.spec_deal.specs.WarnText.{warn_text}
use Rattle.spec_show.specs.ShowText.{show_text}
use Rattle.spec_chain.specs.Answers.{chain_in, with_course, told_in, stood_answer}
use Rattle.spec_chain.specs.Chain.{Course, follow_reading}
use Rattle.spec_chain.specs.Commands as chains
use Rattle.spec_chain.specs.Commands.{ChainCommand, on_deal}
use Rattle.theory_deal.specs.Causes.{reads_deal as reads_its_deal}
use Rattle.spec_tool.specs.Replies.{printed}
use Rattle.deal_file.specs.declared.error.DealError.{DealError}
use Rattle.deal_file.specs.declared.error.DealError.TheVariants as deals
use Rattle.deal_finish.specs.declared.error.FinishError.{FinishError}
use Rattle.deal_finish.specs.declared.error.FinishError.TheVariants as finishes
use Rattle.deal_follow.specs.declared.following.Course.{Course as Followed}
use Rattle.bitml_deal.specs.Opens.{Answer, ShownAnswer}
use Rattle.bitml_deal.specs.declared.secrets.Shown.{Shown}
use Rattle.bitml_deal.specs.declared.secrets.Shown.TheVariants.{Refused, Taken}

-- the strings of a file of secrets; without one there are none
abbrev pub strings_in : (List ℕ → List ℕ) → Keys → Instance → Option Text → SecretsRead
strings_in hash keys s None = shows []
strings_in hash keys s (Some text) = answers.secrets_in hash keys s text

-- what is answered of a transaction to a file of signatures and one of secrets, or none
abbrev pub finish_answer : (List ℕ → List ℕ) → Text → Option Text → Keys → Instance → Listed → Printed
finish_answer hash signatures secrets keys s l =
    with_signatures (λ given. with_secrets (λ strings. finished_answer hash keys s l given strings) (strings_in hash keys s secrets))
    (answers.signatures_in secp256k1 hash keys s signatures)

-- what nodes wouldn't relay, by a file of secrets, or none
abbrev pub warn_answer : (List ℕ → List ℕ) → Option Text → Answer
warn_answer hash secrets keys s =
    with_secrets (λ strings. prints 0 (warn_text hash keys s strings)) (strings_in hash keys s secrets)

-- the same, and whether the initial transaction may be signed
abbrev pub ready_later : (List ℕ → List ℕ) → Text → Option Text → Answer
ready_later hash signatures secrets keys s =
    with_signatures (λ given. with_secrets (λ strings. ready_answer hash keys s given strings) (strings_in hash keys s secrets))
    (answers.signatures_in secp256k1 hash keys s signatures)

-- what a command answers of a deal; one that reads none answers nothing here
abbrev pub deal_later_answer : (List ℕ → List ℕ) → DealCommand → List Text → ShownAnswer
deal_later_answer hash (commands.keys contract) texts = λ network keys s. unread
deal_later_answer hash (commands.plan contract deal) texts = λ network keys s. prints 0 (plan_text hash network keys s)
deal_later_answer hash (commands.psbts contract deal) texts = λ network keys s. prints 0 (psbts_text hash keys s)
deal_later_answer hash (commands.psbt contract deal which) texts =
    λ network. of_transaction hash which (λ keys s l. prints 0 (psbt_line (unsigned_psbt hash keys s.advert l)))
deal_later_answer hash (commands.missing contract deal signatures) texts =
    λ network. of_signatures secp256k1 hash (λ keys s given. prints 0 (missing_text hash keys s given)) (text_at texts 2)
deal_later_answer hash (commands.held contract deal signatures) texts =
    λ network. of_signatures secp256k1 hash (λ keys s given. prints 0 (held_text hash keys s given)) (text_at texts 2)
deal_later_answer hash (commands.finish contract deal which signatures) texts =
    λ network. of_transaction hash which (finish_answer hash (text_at texts 2) None)
deal_later_answer hash (commands.finish_with contract deal which signatures secrets) texts =
    λ network. of_transaction hash which (finish_answer hash (text_at texts 2) (Some (text_at texts 3)))
deal_later_answer hash (commands.fund contract deal) texts = λ network keys s. unread
deal_later_answer hash (commands.warn contract deal) texts = λ network. warn_answer hash None
deal_later_answer hash (commands.warn_with contract deal secrets) texts = λ network. warn_answer hash (Some (text_at texts 2))
deal_later_answer hash (commands.ready contract deal signatures) texts = λ network. ready_later hash (text_at texts 2) None
deal_later_answer hash (commands.ready_with contract deal signatures secrets) texts =
    λ network. ready_later hash (text_at texts 2) (Some (text_at texts 3))
deal_later_answer hash (commands.endorse contract deal party) texts = λ network keys s. prints 0 (endorse_text hash keys s party)
deal_later_answer hash (commands.hashes contract secrets) texts = λ network keys s. unread

-- the strings of a file of secrets, behind these messages; without one there are none
abbrev pub told_by : (List ℕ → List ℕ) → Instance → List (List ℕ) → Option Text → SecretsRead
told_by hash s messages None = shows []
told_by hash s messages (Some text) = told_in hash s messages text

-- where a deal stands, by these signatures and a file of secrets, or none
abbrev pub given_answer : (List ℕ → List ℕ) → Keys → Instance → Course → ℕ → Option Text → List Signed → Printed
given_answer hash keys s course tip secrets given =
    with_secrets (λ strings. stood_answer hash keys s course tip given strings) (told_by hash s course.messages secrets)

abbrev pub course_answer : (List ℕ → List ℕ) → Keys → Instance → Text → Option Text → Course → ℕ → Printed
course_answer hash keys s signatures secrets course tip =
    with_signatures (given_answer hash keys s course tip secrets) (answers.signatures_in secp256k1 hash keys s signatures)

-- whether each string that a chain showed has as many bytes as a secret may have
abbrev pub are_sized : Followed → Bool
are_sized course = list_all (λ p. has_length (p.1)) course.standing.shown.items

-- after the transactions of a chain file
abbrev pub state_answer : (List ℕ → List ℕ) → Text → Text → Option Text → Answer
state_answer hash chain signatures secrets keys s =
    with_course (course_answer hash keys s signatures secrets) (follow_reading hash keys s (chain_in chain))

-- whether a command reads a deal
abbrev pub reads_deal : ChainCommand → Bool
reads_deal (on_deal command) = reads_its_deal command
reads_deal (chains.show contract deal) = true
reads_deal (chains.state contract deal chain signatures) = true
reads_deal (chains.state_with contract deal chain signatures secrets) = true

-- what a command answers of a deal
abbrev pub later_answer : (List ℕ → List ℕ) → ChainCommand → List Text → ShownAnswer
later_answer hash (on_deal command) texts = deal_later_answer hash command texts
later_answer hash (chains.show contract deal) texts = λ network keys s. prints 0 (show_text hash network keys s)
later_answer hash (chains.state contract deal chain signatures) texts = λ network. state_answer hash (text_at texts 2) (text_at texts 3) None
later_answer hash (chains.state_with contract deal chain signatures secrets) texts =
    λ network. state_answer hash (text_at texts 2) (text_at texts 3) (Some (text_at texts 4))

-- the signatures that a file gives to these transactions
abbrev pub given_in : List Transaction → Text → Result (List Signed) SignatureFault
given_in ts None = Err signature_faults.Size
given_in ts (Some text) = read_given secp256k1 ts text

-- a file of secrets gives these strings, or whatever is answered of them, this is replied
abbrev pub Tells : SecretsRead → Shown → Type 0
Tells read (Refused reply) = (answer : List Told → Printed) → with_secrets answer read ≡ printed reply
Tells read (Taken strings) = read ≡ shows strings

-- a transaction isn't finished for this, and so it is replied
abbrev pub IsUnfinished : FinishError → Printed → Type 0
IsUnfinished (finishes.Refused refusal) printed = printed ≡ prints 16 (finish_refused_line refusal)
IsUnfinished finishes.Memory printed = ⊥

-- a deal file gives nothing for this, and so it is replied
abbrev pub IsUngiven : DealError → Printed → Type 0
IsUngiven (deals.Refused fault) printed = printed ≡ answers.deal_refused fault
IsUngiven deals.Memory printed = ⊥
