-- What is claimed of the statuses of the program for deals.
use Rattle.std.specs.Prelude.{◌≡◌, ℕ, List, [], ◌∷◌, Bool, true, false, not, if◌then◌else◌, ◌&&◌, ◌||◌, Option, Some, None}
use Rattle.std.specs.Prelude.{Result, Ok, Err, ◌↔◌, is_err, is_some}
use Rattle.std.specs.Option.{is_none}
use Rattle.spec_data.specs.Lists.{has_number}
use Rattle.spec_data.specs.Messages.{collision}
use Rattle.spec_terms.specs.Advert.{Advert}
use Rattle.spec_compiler.specs.Keyed.Keys.{Keys}
use Rattle.spec_compiler.specs.Keyed.Instance.{Instance}
use Rattle.spec_text.specs.Refusals.{Judged}
use Rattle.spec_tool.specs.declared.which.Which.{Which}
use Rattle.spec_tool.specs.Keyed.Listed.{Listed, listed_at}
use Rattle.spec_tool.specs.Answers.{contract_in}
use Rattle.spec_tool.specs.Reads.{Read, Text, text_at, texts_read}
use Rattle.spec_deal.specs.declared.deal.Deal.{Deal}
use Rattle.spec_deal.specs.declared.entry.Entry.{Entry}
use Rattle.spec_deal.specs.declared.entry.Shown.{Shown}
use Rattle.spec_deal.specs.declared.fault.DealFault.{DealFault}
use Rattle.spec_deal.specs.declared.fault.SignatureFault.{SignatureFault}
use Rattle.spec_deal.specs.declared.signed.Signed.{Signed}
use Rattle.spec_deal.specs.Answers.{circular, deal_in, part_in, signatures_in, secrets_in, offered_in, deal_text_answer, deal_answer}
use Rattle.spec_deal.specs.Commands as commands
use Rattle.spec_deal.specs.Commands.{DealCommand}
use Rattle.spec_deal.specs.Finished.{finish_refusal}
use Rattle.spec_deal.specs.FundText.{fund_strings}
use Rattle.spec_deal.specs.Hashed.{deal_strings}
use Rattle.spec_deal.specs.ReadyText.{is_ready}
use Rattle.spec_deal.specs.SecretFile.{SecretsRead, shows, refused, collided}
use Rattle.spec_deal.specs.Setting.{deal_keys, deal_instance}
use Rattle.spec_deal.specs.Verifier.{Verifier}

-- the statuses that the texts of files are answered with, those of a refused contract and a refused deal before the others
abbrev pub deal_statuses : List ℕ
deal_statuses = 1 ∷ 13 ∷ 0 ∷ 8 ∷ 14 ∷ 15 ∷ 16 ∷ []

-- whether a command reads a deal
abbrev pub reads_deal : DealCommand → Bool
reads_deal (commands.keys contract) = false
reads_deal (commands.plan contract deal) = true
reads_deal (commands.psbts contract deal) = true
reads_deal (commands.psbt contract deal which) = true
reads_deal (commands.missing contract deal signatures) = true
reads_deal (commands.held contract deal signatures) = true
reads_deal (commands.finish contract deal which signatures) = true
reads_deal (commands.finish_with contract deal which signatures secrets) = true
reads_deal (commands.fund contract deal) = false
reads_deal (commands.warn contract deal) = true
reads_deal (commands.warn_with contract deal secrets) = true
reads_deal (commands.ready contract deal signatures) = true
reads_deal (commands.ready_with contract deal signatures secrets) = true
reads_deal (commands.endorse contract deal party) = true
reads_deal (commands.hashes contract secrets) = false

-- whether it reads a deal file that may lack lines, and whether it reads secrets that no deal has yet
abbrev pub reads_part : DealCommand → Bool
reads_part (commands.fund contract deal) = true
reads_part _ = false

abbrev pub reads_offers : DealCommand → Bool
reads_offers (commands.hashes contract secrets) = true
reads_offers _ = false

-- whether it asks for the initial transaction to be ready
abbrev pub asks_ready : DealCommand → Bool
asks_ready (commands.ready contract deal signatures) = true
asks_ready (commands.ready_with contract deal signatures secrets) = true
asks_ready _ = false

-- whether a deal is refused: before it is compiled, or for a deposit that it makes itself or a payout to one of its positions, where none of
-- its strings collide
abbrev pub is_refused : (List ℕ → List ℕ) → Advert → Result Deal DealFault → Bool
is_refused hash advert (Err fault) = true
is_refused hash advert (Ok deal) =
    is_none (collision hash [] (deal_strings hash (deal_keys deal) (deal_instance advert deal)))
    && is_some (circular hash (deal_keys deal) (deal_instance advert deal))

-- whether the contract is taken and the deal of this text is refused
abbrev pub is_deal_refused : Verifier → (List ℕ → List ℕ) → Judged Advert → Text → Bool
is_deal_refused v hash (Err why) text = false
is_deal_refused v hash (Ok advert) text = is_refused hash advert (deal_in v advert text)

-- whether the contract is taken and the deal file of this text is refused though it may lack lines
abbrev pub is_part_refused : Verifier → Judged Advert → Text → Bool
is_part_refused v (Err why) text = false
is_part_refused v (Ok advert) text = is_err (part_in v advert text)

-- ---- all causes in their order

-- whether strings of a deal file that may lack lines collide
abbrev pub part_collides : (List ℕ → List ℕ) → Advert → Result (List Entry) DealFault → Bool
part_collides hash advert (Err fault) = false
part_collides hash advert (Ok entries) = is_some (collision hash [] (fund_strings advert entries))

abbrev pub do_part_collide : Verifier → (List ℕ → List ℕ) → Judged Advert → Text → Bool
do_part_collide v hash (Err why) text = false
do_part_collide v hash (Ok advert) text = part_collides hash advert (part_in v advert text)

-- whether this is so of a deal that is taken as far as it is read
abbrev pub if_read : (Keys → Instance → Bool) → Advert → Result Deal DealFault → Bool
if_read test advert (Err fault) = false
if_read test advert (Ok deal) = test (deal_keys deal) (deal_instance advert deal)

-- and the contract, too
abbrev pub if_taken : Verifier → (Keys → Instance → Bool) → Judged Advert → Text → Bool
if_taken v test (Err why) text = false
if_taken v test (Ok advert) text = if_read test advert (deal_in v advert text)

abbrev pub is_unread : Verifier → Judged Advert → Text → Bool
is_unread v (Err why) text = false
is_unread v (Ok advert) text = is_err (deal_in v advert text)

-- whether two strings of the compiled deal collide
abbrev pub do_collide : (List ℕ → List ℕ) → Keys → Instance → Bool
do_collide hash keys s = is_some (collision hash [] (deal_strings hash keys s))

-- whether the deal makes one of its own deposits, or pays to one of its positions
abbrev pub is_circular : (List ℕ → List ℕ) → Keys → Instance → Bool
is_circular hash keys s = is_some (circular hash keys s)

-- the transaction that a command names
abbrev pub named_by : DealCommand → Option Which
named_by (commands.keys contract) = None
named_by (commands.plan contract deal) = None
named_by (commands.psbts contract deal) = None
named_by (commands.psbt contract deal which) = Some which
named_by (commands.missing contract deal signatures) = None
named_by (commands.held contract deal signatures) = None
named_by (commands.finish contract deal which signatures) = Some which
named_by (commands.finish_with contract deal which signatures secrets) = Some which
named_by (commands.fund contract deal) = None
named_by (commands.warn contract deal) = None
named_by (commands.warn_with contract deal secrets) = None
named_by (commands.ready contract deal signatures) = None
named_by (commands.ready_with contract deal signatures secrets) = None
named_by (commands.endorse contract deal party) = None
named_by (commands.hashes contract secrets) = None

-- whether the contract hasn't that transaction
abbrev pub is_absent : (List ℕ → List ℕ) → Option Which → Keys → Instance → Bool
is_absent hash None keys s = false
is_absent hash (Some which) keys s = is_none (listed_at hash keys s which)

-- whether a command reads a file of signatures, and whether one of secrets
abbrev pub reads_signatures : DealCommand → Bool
reads_signatures (commands.keys contract) = false
reads_signatures (commands.plan contract deal) = false
reads_signatures (commands.psbts contract deal) = false
reads_signatures (commands.psbt contract deal which) = false
reads_signatures (commands.missing contract deal signatures) = true
reads_signatures (commands.held contract deal signatures) = true
reads_signatures (commands.finish contract deal which signatures) = true
reads_signatures (commands.finish_with contract deal which signatures secrets) = true
reads_signatures (commands.fund contract deal) = false
reads_signatures (commands.warn contract deal) = false
reads_signatures (commands.warn_with contract deal secrets) = false
reads_signatures (commands.ready contract deal signatures) = true
reads_signatures (commands.ready_with contract deal signatures secrets) = true
reads_signatures (commands.endorse contract deal party) = false
reads_signatures (commands.hashes contract secrets) = false

abbrev pub reads_secrets : DealCommand → Bool
reads_secrets (commands.keys contract) = false
reads_secrets (commands.plan contract deal) = false
reads_secrets (commands.psbts contract deal) = false
reads_secrets (commands.psbt contract deal which) = false
reads_secrets (commands.missing contract deal signatures) = false
reads_secrets (commands.held contract deal signatures) = false
reads_secrets (commands.finish contract deal which signatures) = false
reads_secrets (commands.finish_with contract deal which signatures secrets) = true
reads_secrets (commands.fund contract deal) = false
reads_secrets (commands.warn contract deal) = false
reads_secrets (commands.warn_with contract deal secrets) = true
reads_secrets (commands.ready contract deal signatures) = false
reads_secrets (commands.ready_with contract deal signatures secrets) = true
reads_secrets (commands.endorse contract deal party) = false
reads_secrets (commands.hashes contract secrets) = false

abbrev pub are_bad : SecretsRead → Bool
are_bad (shows strings) = false
are_bad (refused fault) = true
are_bad (collided earlier later) = false

abbrev pub have_collided : SecretsRead → Bool
have_collided (shows strings) = false
have_collided (refused fault) = false
have_collided (collided earlier later) = true

-- whether it is so of the secrets that a file offers to a contract that is taken
abbrev pub of_offers : (List ℕ → List ℕ) → (SecretsRead → Bool) → Judged Advert → Text → Bool
of_offers hash test (Err why) text = false
of_offers hash test (Ok advert) text = test (offered_in hash advert text)

-- the file of secrets of a command that reads a deal
abbrev pub secrets_text : DealCommand → List Text → Text
secrets_text (commands.warn_with contract deal secrets) texts = text_at texts 2
secrets_text _ texts = text_at texts 3

-- the signatures and the strings that there are
abbrev pub given_of : Result (List Signed) SignatureFault → List Signed
given_of (Ok given) = given
given_of (Err fault) = []

abbrev pub strings_of : SecretsRead → List Shown
strings_of (shows strings) = strings
strings_of (refused fault) = []
strings_of (collided earlier later) = []

abbrev pub strings_by : (List ℕ → List ℕ) → DealCommand → Text → Keys → Instance → List Shown
strings_by hash command text keys s = if reads_secrets command then strings_of (secrets_in hash keys s text) else []

-- whether something is missing for the transaction that is to be finished
abbrev pub is_unfinished : (List ℕ → List ℕ) → Keys → Instance → List Signed → List Shown → Option Listed → Bool
is_unfinished hash keys s given strings None = false
is_unfinished hash keys s given strings (Some l) = is_some (finish_refusal hash keys s given strings l)

abbrev pub to_finish : (List ℕ → List ℕ) → DealCommand → Keys → Instance → Option Listed
to_finish hash (commands.keys contract) keys s = None
to_finish hash (commands.plan contract deal) keys s = None
to_finish hash (commands.psbts contract deal) keys s = None
to_finish hash (commands.psbt contract deal which) keys s = None
to_finish hash (commands.missing contract deal signatures) keys s = None
to_finish hash (commands.held contract deal signatures) keys s = None
to_finish hash (commands.finish contract deal which signatures) keys s = listed_at hash keys s which
to_finish hash (commands.finish_with contract deal which signatures secrets) keys s = listed_at hash keys s which
to_finish hash (commands.fund contract deal) keys s = None
to_finish hash (commands.warn contract deal) keys s = None
to_finish hash (commands.warn_with contract deal secrets) keys s = None
to_finish hash (commands.ready contract deal signatures) keys s = None
to_finish hash (commands.ready_with contract deal signatures secrets) keys s = None
to_finish hash (commands.endorse contract deal party) keys s = None
to_finish hash (commands.hashes contract secrets) keys s = None

-- whether it is so, and the status that is answered for it
abbrev pub Cause : Type 0
Cause = Bool × ℕ

-- those of a deal that is taken: no such path, a bad file of signatures, a bad file of secrets, whose strings collide, something missing, and
-- an initial transaction that isn't ready
abbrev pub later_causes : Verifier → (List ℕ → List ℕ) → DealCommand → List Text → ((Keys → Instance → Bool) → Bool) → List Cause
later_causes v hash command texts so =
    (so (is_absent hash (named_by command)), 16)
    ∷ (so (λ keys s. reads_signatures command && is_err (signatures_in v hash keys s (text_at texts 2))), 14)
    ∷ (so (λ keys s. reads_secrets command && are_bad (secrets_in hash keys s (secrets_text command texts))), 15)
    ∷ (so (λ keys s. reads_secrets command && have_collided (secrets_in hash keys s (secrets_text command texts))), 8)
    ∷ (
      so (λ keys s.
          is_unfinished hash keys s (given_of (signatures_in v hash keys s (text_at texts 2))) (strings_by hash command (secrets_text command texts) keys s)
          (to_finish hash command keys s)),
      16,
    )
    ∷ (
      so (λ keys s. asks_ready command && not (is_ready hash keys s (given_of (signatures_in v hash keys s (text_at texts 2))))),
      16,
    )
    ∷ []

-- of a deal: strings that collide, and a deposit that the deal itself makes or a payout to one of its positions
abbrev pub deal_causes : Verifier → (List ℕ → List ℕ) → DealCommand → List Text → ((Keys → Instance → Bool) → Bool) → List Cause
deal_causes v hash command texts so = (so (do_collide hash), 8) ∷ (so (is_circular hash), 13) ∷ later_causes v hash command texts so

-- all of them: a refused contract, a refused deal file, and those of the deal. A command reads a whole deal file, one that may lack lines, or
-- none; and secrets of a deal or such as none has yet.
abbrev pub causes : Verifier → (List ℕ → List ℕ) → DealCommand → List Text → List Cause
causes v hash command texts =
    (is_err (contract_in (text_at texts 0)), 1)
    ∷ (reads_part command && is_part_refused v (contract_in (text_at texts 0)) (text_at texts 1), 13)
    ∷ (reads_part command && do_part_collide v hash (contract_in (text_at texts 0)) (text_at texts 1), 8)
    ∷ (reads_offers command && of_offers hash are_bad (contract_in (text_at texts 0)) (text_at texts 1), 15)
    ∷ (reads_offers command && of_offers hash have_collided (contract_in (text_at texts 0)) (text_at texts 1), 8)
    ∷ (reads_deal command && is_unread v (contract_in (text_at texts 0)) (text_at texts 1), 13)
    ∷ deal_causes v hash command texts
    (λ test. reads_deal command && if_taken v test (contract_in (text_at texts 0)) (text_at texts 1))

-- the status of the first that is so; 0 where none is
abbrev pub first_status : List Cause → ℕ
first_status [] = 0
first_status (c ∷ cs) = if c.0 then c.1 else first_status cs

pub record DealCausesTheorem : Type 0 where
  -- 2 is answered exactly where the words are no command
  pub usage : (v : Verifier) (hash : List ℕ → List ℕ) (command : Option DealCommand) (reads : List Read)
      → ((deal_answer v hash command reads).status ≡ 2) ↔ (command ≡ None)
  -- 3 is answered exactly where a read failed
  pub unread : (v : Verifier) (hash : List ℕ → List ℕ) (command : DealCommand) (reads : List Read)
      → ((deal_answer v hash (Some command) reads).status ≡ 3) ↔ (texts_read reads ≡ None)
  -- 1 is answered exactly where the contract is refused
  pub contract_refused : (v : Verifier) (hash : List ℕ → List ℕ) (command : DealCommand) (texts : List Text)
      → ((deal_text_answer v hash command texts).status ≡ 1) ↔ (is_err (contract_in (text_at texts 0)) ≡ true)
  -- 13 is answered exactly where the deal is refused
  pub deal_refused : (v : Verifier) (hash : List ℕ → List ℕ) (command : DealCommand) (texts : List Text)
      → ((deal_text_answer v hash command texts).status ≡ 13)
      ↔ ((reads_deal command && is_deal_refused v hash (contract_in (text_at texts 0)) (text_at texts 1)
      || reads_part command && is_part_refused v (contract_in (text_at texts 0)) (text_at texts 1)) ≡ true)
  -- the status is that of the first cause in their order
  pub in_order : (v : Verifier) (hash : List ℕ → List ℕ) (command : DealCommand) (texts : List Text)
      → (deal_text_answer v hash command texts).status ≡ first_status (causes v hash command texts)
  -- no other is answered to the texts
  pub others : (v : Verifier) (hash : List ℕ → List ℕ) (command : DealCommand) (texts : List Text)
      → has_number (deal_text_answer v hash command texts).status deal_statuses ≡ true
