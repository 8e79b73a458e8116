-- What the program for deals answers to words and to what the reads of its files answered: a status and a text, for every command.
--
--  0  otherwise
--  1  the contract is refused
--  2  the words are no command
--  3  a read failed; nothing is written
--  4  the write failed; a prefix of the text is written
--  5  memory ran out; nothing is written
--  8  two different strings that are hashed collide
-- 13  the deal file is refused
-- 14  the file of signatures is refused
-- 15  the file of secrets is refused
-- 16  the contract has no such path, or a transaction can't be finished, or the initial one may not be signed yet
--
-- The first that applies is answered, in this order: the words; the reads, in the order of the words; the contract; the deal file, but
-- for a deposit that the deal itself makes and a payout to one of its positions; the strings of the compiled deal; such a deposit or payout;
-- the path; the file of signatures; that of secrets, whose strings collide at their lines; what is missing.
use Rattle.std.specs.Prelude.{ℕ, List, [], ◌∷◌, ◌++◌, length, Bool, false, ◌==◌, if◌then◌else◌, Option, Some, None, Result, Ok, Err}
use Rattle.std.specs.Prelude.{codes}
use Rattle.std.specs.List.{find, list_any}
use Rattle.std.specs.Option.{option_map, option_map_or}
use Rattle.std.specs.Str.{bytes_eq}
use Rattle.spec_data.specs.Digits.{hex_text}
use Rattle.spec_data.specs.Lists.{or_else}
use Rattle.spec_data.specs.Messages.{collision}
use Rattle.spec_terms.specs.Advert.{Advert}
use Rattle.spec_bitcoin.specs.declared.tx.OutPoint.{OutPoint}
use Rattle.spec_bitcoin.specs.Digests.{txid}
use Rattle.spec_bitcoin.specs.Keys.{pay_to}
use Rattle.spec_bitcoin.specs.Spelling.{spelling}
use Rattle.spec_compiler.specs.Keyed.Keys.{Keys, own_payee}
use Rattle.spec_compiler.specs.Keyed.Instance.{Instance, people}
use Rattle.spec_compiler.specs.Keyed.Transactions.{tx_of}
use Rattle.spec_compiler.specs.Keyed.Compilation.{scripts}
use Rattle.spec_text.specs.PlayText.{collided_line}
use Rattle.spec_text.specs.Refusals.{Judged}
use Rattle.spec_text.specs.RunText.{newline}
use Rattle.spec_tool.specs.declared.which.Which.{Which}
use Rattle.spec_tool.specs.Answers.{contract_in, unread}
use Rattle.spec_tool.specs.Commands.{Printed, prints, usage, contract_refused}
use Rattle.spec_tool.specs.Keyed.Listed.{Listed, listed, listed_at, which_text}
use Rattle.spec_tool.specs.PsbtText.{psbt_line}
use Rattle.spec_tool.specs.Reads.{Read, Text, text_at, texts_read, are_made}
use Rattle.spec_deal.specs.declared.deal.Deal.{Deal}
use Rattle.spec_deal.specs.declared.signed.Signed.{Signed}
use Rattle.spec_deal.specs.declared.fault.DealFault.{DealFault}
use Rattle.spec_deal.specs.declared.fault.DealFault.TheVariants as deal_faults
use Rattle.spec_deal.specs.declared.fault.SignatureFault.{SignatureFault}
use Rattle.spec_deal.specs.declared.fault.SignatureFault.TheVariants as signature_faults
use Rattle.spec_deal.specs.declared.fault.SecretFault.TheVariants as secret_faults
use Rattle.spec_deal.specs.declared.finish.FinishRefusal.{FinishRefusal}
use Rattle.spec_deal.specs.Commands as commands
use Rattle.spec_deal.specs.Commands.{DealCommand, deal_files}
use Rattle.spec_deal.specs.DealFile.{read_deal, read_part}
use Rattle.spec_deal.specs.DealText.{line_of, keys_text, plan_text, psbts_text, unsigned_psbt, missing_text, held_text}
use Rattle.spec_deal.specs.Finished.{finished, finish_refusal}
use Rattle.spec_deal.specs.Hashed.{deal_strings}
use Rattle.spec_deal.specs.RefusedText.{deal_refused_line, signatures_refused_line, secrets_refused_line, finish_refused_line}
use Rattle.spec_deal.specs.FundText.{fund_strings, fund_text}
use Rattle.spec_deal.specs.WarnText.{warn_text}
use Rattle.spec_deal.specs.ReadyText.{is_ready, ready_text, endorse_text}
use Rattle.spec_deal.specs.HashesText.{read_offered, hashes_text}
use Rattle.spec_deal.specs.declared.entry.Entry.{Entry}
use Rattle.spec_deal.specs.declared.entry.Shown.{Shown}
use Rattle.spec_deal.specs.SecretFile.{SecretsRead, shows, refused, collided, read_secrets}
use Rattle.spec_deal.specs.Setting.{deal_keys, deal_instance}
use Rattle.spec_deal.specs.SignatureFile.{read_signatures}
use Rattle.spec_deal.specs.Verifier.{Verifier}

-- ---- the contract

abbrev pub with_advert : (Advert → Printed) → Judged Advert → Printed
with_advert answer (Ok advert) = answer advert
with_advert answer (Err why) = contract_refused 0 why

-- ---- the deal

abbrev pub deal_refused : DealFault → Printed
deal_refused fault = prints 13 (deal_refused_line fault)

-- whether the deal's own transactions make the output at this place
abbrev pub is_made_here : (List ℕ → List ℕ) → Keys → Instance → OutPoint → Bool
is_made_here hash keys s place = list_any (λ l. bytes_eq (txid hash (tx_of l.pending)) place.txid) (listed hash keys s)

-- the first deposit that would be made by one of the deal's own transactions
abbrev pub circular_deposit : (List ℕ → List ℕ) → Keys → Instance → Option (List ℕ)
circular_deposit hash keys s = option_map (λ p. p.0) (find (λ p. is_made_here hash keys s (p.1)) s.bound)

-- whether one of the deal's own positions has this output script
abbrev pub is_position_script : (List ℕ → List ℕ) → Keys → Instance → List ℕ → Bool
is_position_script hash keys s script = list_any (λ p. bytes_eq (pay_to (hash (p.1))) script) (scripts hash keys s)

-- whether what a participant is paid would go to one of them
abbrev pub is_paid_here : (List ℕ → List ℕ) → Keys → Instance → List ℕ → Bool
is_paid_here hash keys s party = option_map_or (is_position_script hash keys s) (own_payee keys party) false

-- the first such participant
abbrev pub circular_payee : (List ℕ → List ℕ) → Keys → Instance → Option (List ℕ)
circular_payee hash keys s = find (is_paid_here hash keys s) (people s)

abbrev pub circular : (List ℕ → List ℕ) → Keys → Instance → Option (List ℕ)
circular hash keys s = or_else (circular_deposit hash keys s) (circular_payee hash keys s)

abbrev pub unless_circular : Option (List ℕ) → Printed → Printed
unless_circular None answer = answer
unless_circular (Some name) answer = deal_refused (deal_faults.Circular name)

abbrev pub collides : List ℕ → List ℕ → Printed
collides earlier later = prints 8 (collided_line earlier later)

abbrev pub unless_collided : Option (List ℕ × List ℕ) → Printed → Printed
unless_collided None answer = answer
unless_collided (Some pair) answer = collides (pair.0) (pair.1)

-- what is answered of a deal that is compiled
abbrev pub compiled : (List ℕ → List ℕ) → (Keys → Instance → Printed) → Keys → Instance → Printed
compiled hash answer keys s =
    unless_collided (collision hash [] (deal_strings hash keys s)) (unless_circular (circular hash keys s) (answer keys s))

abbrev pub with_deal : (List ℕ → List ℕ) → (Keys → Instance → Printed) → Advert → Result Deal DealFault → Printed
with_deal hash answer advert (Err fault) = deal_refused fault
with_deal hash answer advert (Ok deal) = compiled hash answer (deal_keys deal) (deal_instance advert deal)

-- the deal of a file, or why it is refused before it is compiled
abbrev pub deal_in : Verifier → Advert → Text → Result Deal DealFault
deal_in v advert None = Err deal_faults.Size
deal_in v advert (Some text) = read_deal v advert text

-- what is answered of the contract of the first file and the deal of the second
abbrev pub of_deal : Verifier → (List ℕ → List ℕ) → (Keys → Instance → Printed) → List Text → Printed
of_deal v hash answer texts =
    with_advert (λ advert. with_deal hash answer advert (deal_in v advert (text_at texts 1))) (contract_in (text_at texts 0))

-- the same of a command that shows addresses, by the network of the file
abbrev pub with_shown_deal : (List ℕ → List ℕ) → (Option (List ℕ) → Keys → Instance → Printed) → Advert → Result Deal DealFault → Printed
with_shown_deal hash answer advert (Err fault) = deal_refused fault
with_shown_deal hash answer advert (Ok deal) = with_deal hash (answer deal.network) advert (Ok deal)

abbrev pub of_shown_deal : Verifier → (List ℕ → List ℕ) → (Option (List ℕ) → Keys → Instance → Printed) → List Text → Printed
of_shown_deal v hash answer texts =
    with_advert (λ advert. with_shown_deal hash answer advert (deal_in v advert (text_at texts 1))) (contract_in (text_at texts 0))

-- ---- a deal file that may lack lines

-- what its lines give, or why it is refused
abbrev pub part_in : Verifier → Advert → Text → Result (List Entry) DealFault
part_in v advert None = Err deal_faults.Size
part_in v advert (Some text) = read_part v advert text

abbrev pub fund_answer : (List ℕ → List ℕ) → Advert → Result (List Entry) DealFault → Printed
fund_answer hash advert (Err fault) = deal_refused fault
fund_answer hash advert (Ok entries) =
    unless_collided (collision hash [] (fund_strings advert entries)) (prints 0 (fund_text hash advert entries))

-- ---- one of its transactions

abbrev pub no_path : Which → Printed
no_path which = prints 16 (line_of (codes "refused path" ∷ which_text which ∷ []))

abbrev pub if_there : (Listed → Printed) → Which → Option Listed → Printed
if_there answer which None = no_path which
if_there answer which (Some l) = answer l

-- what is answered of a transaction, where the contract has it
abbrev pub of_transaction : (List ℕ → List ℕ) → Which → (Keys → Instance → Listed → Printed) → Keys → Instance → Printed
of_transaction hash which answer keys s = if_there (answer keys s) which (listed_at hash keys s which)

-- ---- signatures

abbrev pub with_signatures : (List Signed → Printed) → Result (List Signed) SignatureFault → Printed
with_signatures answer (Ok given) = answer given
with_signatures answer (Err fault) = prints 14 (signatures_refused_line fault)

-- the signatures of a file, or why it is refused
abbrev pub signatures_in : Verifier → (List ℕ → List ℕ) → Keys → Instance → Text → Result (List Signed) SignatureFault
signatures_in v hash keys s None = Err signature_faults.Size
signatures_in v hash keys s (Some text) = read_signatures v hash keys s text

-- what is answered of the signatures of a file
abbrev pub of_signatures : Verifier → (List ℕ → List ℕ) → (Keys → Instance → List Signed → Printed) → Text → Keys → Instance → Printed
of_signatures v hash answer text keys s = with_signatures (answer keys s) (signatures_in v hash keys s text)

-- ---- secrets

abbrev pub with_secrets : (List Shown → Printed) → SecretsRead → Printed
with_secrets answer (shows strings) = answer strings
with_secrets answer (refused fault) = prints 15 (secrets_refused_line fault)
with_secrets answer (collided earlier later) = collides earlier later

-- the secrets of a file
abbrev pub secrets_in : (List ℕ → List ℕ) → Keys → Instance → Text → SecretsRead
secrets_in hash keys s None = refused secret_faults.Size
secrets_in hash keys s (Some text) = read_secrets hash keys s text

-- what is answered of the secrets of a file
abbrev pub of_secrets : (List ℕ → List ℕ) → (Keys → Instance → List Shown → Printed) → Text → Keys → Instance → Printed
of_secrets hash answer text keys s = with_secrets (answer keys s) (secrets_in hash keys s text)

-- ---- hashes of secrets

-- the strings of a file of secrets that no deal has yet
abbrev pub offered_in : (List ℕ → List ℕ) → Advert → Text → SecretsRead
offered_in hash advert None = refused secret_faults.Size
offered_in hash advert (Some text) = read_offered hash advert text

abbrev pub hashes_answer : (List ℕ → List ℕ) → Text → Advert → Printed
hashes_answer hash text advert = with_secrets (λ strings. prints 0 (hashes_text hash strings)) (offered_in hash advert text)

-- ---- before the initial transaction is signed

abbrev pub ready_answer : (List ℕ → List ℕ) → Keys → Instance → List Signed → List Shown → Printed
ready_answer hash keys s given strings =
    prints (if is_ready hash keys s given then 0 else 16) (ready_text hash keys s given strings)

abbrev pub ready_with_answer : Verifier → (List ℕ → List ℕ) → Text → Text → Keys → Instance → Printed
ready_with_answer v hash signatures secrets keys s =
    with_signatures (λ given. with_secrets (λ strings. ready_answer hash keys s given strings) (secrets_in hash keys s secrets))
    (signatures_in v hash keys s signatures)

-- ---- finished transactions

abbrev pub unless_refused : Option FinishRefusal → List ℕ → Printed
unless_refused None bytes = prints 0 (hex_text bytes ++ newline)
unless_refused (Some refusal) bytes = prints 16 (finish_refused_line refusal)

-- what is answered to these signatures and secrets
abbrev pub finished_answer : (List ℕ → List ℕ) → Keys → Instance → Listed → List Signed → List Shown → Printed
finished_answer hash keys s l given strings =
    unless_refused (finish_refusal hash keys s given strings l) (spelling (finished hash keys s given strings l))

-- without a file of secrets there are none
abbrev pub finish_answer : Verifier → (List ℕ → List ℕ) → Text → Keys → Instance → Listed → Printed
finish_answer v hash signatures keys s l =
    with_signatures (λ given. finished_answer hash keys s l given []) (signatures_in v hash keys s signatures)

abbrev pub finish_with_answer : Verifier → (List ℕ → List ℕ) → Text → Text → Keys → Instance → Listed → Printed
finish_with_answer v hash signatures secrets keys s l =
    with_signatures (λ given. with_secrets (λ strings. finished_answer hash keys s l given strings) (secrets_in hash keys s secrets))
    (signatures_in v hash keys s signatures)

-- ---- all commands

-- what a command answers to the texts of its files
abbrev pub deal_text_answer : Verifier → (List ℕ → List ℕ) → DealCommand → List Text → Printed
deal_text_answer v hash (commands.keys contract) texts = with_advert (λ advert. prints 0 (keys_text advert)) (contract_in (text_at texts 0))
deal_text_answer v hash (commands.plan contract deal) texts =
    of_shown_deal v hash (λ network keys s. prints 0 (plan_text hash network keys s)) texts
deal_text_answer v hash (commands.psbts contract deal) texts = of_deal v hash (λ keys s. prints 0 (psbts_text hash keys s)) texts
deal_text_answer v hash (commands.psbt contract deal which) texts =
    of_deal v hash (of_transaction hash which (λ keys s l. prints 0 (psbt_line (unsigned_psbt hash keys s.advert l)))) texts
deal_text_answer v hash (commands.missing contract deal signatures) texts =
    of_deal v hash (of_signatures v hash (λ keys s given. prints 0 (missing_text hash keys s given)) (text_at texts 2)) texts
deal_text_answer v hash (commands.held contract deal signatures) texts =
    of_deal v hash (of_signatures v hash (λ keys s given. prints 0 (held_text hash keys s given)) (text_at texts 2)) texts
deal_text_answer v hash (commands.finish contract deal which signatures) texts =
    of_deal v hash (of_transaction hash which (finish_answer v hash (text_at texts 2))) texts
deal_text_answer v hash (commands.finish_with contract deal which signatures secrets) texts =
    of_deal v hash (of_transaction hash which (finish_with_answer v hash (text_at texts 2) (text_at texts 3))) texts
deal_text_answer v hash (commands.fund contract deal) texts =
    with_advert (λ advert. fund_answer hash advert (part_in v advert (text_at texts 1))) (contract_in (text_at texts 0))
deal_text_answer v hash (commands.warn contract deal) texts = of_deal v hash (λ keys s. prints 0 (warn_text hash keys s [])) texts
deal_text_answer v hash (commands.warn_with contract deal secrets) texts =
    of_deal v hash (of_secrets hash (λ keys s strings. prints 0 (warn_text hash keys s strings)) (text_at texts 2)) texts
deal_text_answer v hash (commands.ready contract deal signatures) texts =
    of_deal v hash (of_signatures v hash (λ keys s given. ready_answer hash keys s given []) (text_at texts 2)) texts
deal_text_answer v hash (commands.ready_with contract deal signatures secrets) texts =
    of_deal v hash (ready_with_answer v hash (text_at texts 2) (text_at texts 3)) texts
deal_text_answer v hash (commands.endorse contract deal party) texts =
    of_deal v hash (λ keys s. prints 0 (endorse_text hash keys s party)) texts
deal_text_answer v hash (commands.hashes contract secrets) texts =
    with_advert (hashes_answer hash (text_at texts 1)) (contract_in (text_at texts 0))

abbrev pub deal_read_answer : Verifier → (List ℕ → List ℕ) → DealCommand → Option (List Text) → Printed
deal_read_answer v hash command None = unread
deal_read_answer v hash command (Some texts) = deal_text_answer v hash command texts

-- ---- the call

-- what words answer to the reads of their files, in order up to the first that failed; those that are no command read nothing
abbrev pub deal_answer : Verifier → (List ℕ → List ℕ) → Option DealCommand → List Read → Printed
deal_answer v hash None reads = usage
deal_answer v hash (Some command) reads = deal_read_answer v hash command (texts_read reads)

-- whether these are the reads of these words
abbrev pub deal_reads : Option DealCommand → List Read → Bool
deal_reads None reads = length reads == 0
deal_reads (Some command) reads = are_made (deal_files command) reads
