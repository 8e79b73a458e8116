-- The status of an answer is that of the first cause in their order.
use Rattle.std.proofs.Common.{◌≡◌, ℕ, Bool, true, false, not, List, [], ◌∷◌, Option, Some, None, refl}
use Rattle.std.specs.Prelude.{Result, Ok, Err, is_err, is_some, if◌then◌else◌}
use Rattle.std.specs.Option.{is_none}
use Rattle.spec_data.specs.Messages.{collision}
use Rattle.spec_terms.specs.Advert.{Advert}
use Rattle.spec_bitcoin.specs.Spelling.{spelling}
use Rattle.spec_compiler.specs.Keyed.Keys.{Keys}
use Rattle.spec_compiler.specs.Keyed.Instance.{Instance}
use Rattle.spec_text.specs.Refusals.{Judged}
use Rattle.spec_tool.specs.declared.which.Which.{Which}
use Rattle.spec_tool.specs.Answers.{contract_in}
use Rattle.spec_tool.specs.Commands.{Printed, prints}
use Rattle.spec_tool.specs.Keyed.Listed.{Listed, listed_at}
use Rattle.spec_tool.specs.PsbtText.{psbt_line}
use Rattle.spec_tool.specs.Reads.{Text, text_at}
use Rattle.spec_deal.specs.declared.deal.Deal.{Deal}
use Rattle.spec_deal.specs.declared.fault.DealFault.{DealFault}
use Rattle.spec_deal.specs.declared.fault.SignatureFault.{SignatureFault}
use Rattle.spec_deal.specs.declared.finish.FinishRefusal.{FinishRefusal}
use Rattle.spec_deal.specs.declared.signed.Signed.{Signed}
use Rattle.spec_deal.specs.Answers.{circular, unless_circular, unless_collided, with_deal, with_shown_deal, deal_in, part_in, fund_answer}
use Rattle.spec_deal.specs.Answers.{if_there, of_transaction, of_secrets, offered_in, hashes_answer, ready_answer, ready_with_answer}
use Rattle.spec_deal.specs.Answers.{of_signatures, with_signatures, signatures_in, with_secrets, secrets_in, unless_refused, finished_answer}
use Rattle.spec_deal.specs.Answers.{finish_answer, finish_with_answer, with_advert, deal_text_answer}
use Rattle.spec_deal.specs.Commands as commands
use Rattle.spec_deal.specs.Commands.{DealCommand}
use Rattle.spec_deal.specs.DealText.{keys_text, plan_text, psbts_text, unsigned_psbt, missing_text, held_text}
use Rattle.spec_deal.specs.Finished.{finished, finish_refusal}
use Rattle.spec_deal.specs.FundText.{fund_strings, fund_text}
use Rattle.spec_deal.specs.HashesText.{hashes_text}
use Rattle.spec_deal.specs.ReadyText.{is_ready, ready_text, endorse_text}
use Rattle.spec_deal.specs.WarnText.{warn_text}
use Rattle.spec_deal.specs.declared.entry.Entry.{Entry}
use Rattle.spec_deal.specs.declared.entry.Shown.{Shown}
use Rattle.spec_deal.specs.Hashed.{deal_strings}
use Rattle.spec_deal.specs.SecretFile.{SecretsRead, shows, refused, collided}
use Rattle.spec_deal.specs.Setting.{deal_keys, deal_instance}
use Rattle.spec_deal.specs.Verifier.{Verifier}
use Rattle.theory_deal.specs.Causes.{if_read, if_taken, is_unread, later_causes, deal_causes, causes, first_status, given_of, strings_of}
use Rattle.theory_deal.specs.Causes.{are_bad, have_collided, is_unfinished, is_part_refused, part_collides, do_part_collide, of_offers}

-- a transaction that is finished or refused
unfinished : (o : Option FinishRefusal) (bytes : List ℕ) → (unless_refused o bytes).status ≡ first_status ((is_some o, 16) ∷ [])
unfinished None bytes = refl
unfinished (Some refusal) bytes = refl

module _ (v : Verifier) (hash : List ℕ → List ℕ) (texts : List Text) (keys : Keys) (s : Instance) where
  abbrev signatures : Result (List Signed) SignatureFault
  signatures = signatures_in v hash keys s (text_at texts 2)

  -- a text behind secrets of a file
  shown_first : (answer : List Shown → List ℕ) (r : SecretsRead)
      → (with_secrets (λ strings. prints 0 (answer strings)) r).status ≡ first_status ((are_bad r, 15) ∷ (have_collided r, 8) ∷ [])
  shown_first answer (shows strings) = refl
  shown_first answer (refused fault) = refl
  shown_first answer (collided earlier later) = refl

  -- what isn't ready
  ready_status : (b : Bool) (bytes : List ℕ) → (prints (if b then 0 else 16) bytes).status ≡ first_status ((not b, 16) ∷ [])
  ready_status true bytes = refl
  ready_status false bytes = refl

  ready_first : (r : Result (List Signed) SignatureFault)
      → (with_signatures (λ given. ready_answer hash keys s given []) r).status
      ≡ first_status ((is_err r, 14) ∷ (not (is_ready hash keys s (given_of r)), 16) ∷ [])
  ready_first (Ok given) = ready_status (is_ready hash keys s given) (ready_text hash keys s given [])
  ready_first (Err fault) = refl

  ready_shown : (given : List Signed) (r : SecretsRead)
      → (with_secrets (λ strings. ready_answer hash keys s given strings) r).status
      ≡ first_status ((are_bad r, 15) ∷ (have_collided r, 8) ∷ (not (is_ready hash keys s given), 16) ∷ [])
  ready_shown given (shows strings) = ready_status (is_ready hash keys s given) (ready_text hash keys s given strings)
  ready_shown given (refused fault) = refl
  ready_shown given (collided earlier later) = refl

  ready_with_first : (r : Result (List Signed) SignatureFault) (secrets : SecretsRead)
      → (with_signatures (λ given. with_secrets (λ strings. ready_answer hash keys s given strings) secrets) r).status
      ≡ first_status ((is_err r, 14) ∷ (are_bad secrets, 15) ∷ (have_collided secrets, 8)
      ∷ (not (is_ready hash keys s (given_of r)), 16) ∷ [])
  ready_with_first (Ok given) secrets = ready_shown given secrets
  ready_with_first (Err fault) secrets = refl

  abbrev secrets : SecretsRead
  secrets = secrets_in hash keys s (text_at texts 3)

  finish_first : (l : Listed) (r : Result (List Signed) SignatureFault)
      → (with_signatures (λ given. finished_answer hash keys s l given []) r).status
      ≡ first_status ((is_err r, 14) ∷ (is_unfinished hash keys s (given_of r) [] (Some l), 16) ∷ [])
  finish_first l (Ok given) =
      unfinished (finish_refusal hash keys s given [] l) (spelling (finished hash keys s given [] l))
  finish_first l (Err fault) = refl

  secrets_first : (l : Listed) (given : List Signed) (r : SecretsRead)
      → (with_secrets (λ strings. finished_answer hash keys s l given strings) r).status
      ≡ first_status ((are_bad r, 15) ∷ (have_collided r, 8) ∷ (is_unfinished hash keys s given (strings_of r) (Some l), 16) ∷ [])
  secrets_first l given (shows strings) =
      unfinished (finish_refusal hash keys s given strings l) (spelling (finished hash keys s given strings l))
  secrets_first l given (refused fault) = refl
  secrets_first l given (collided earlier later) = refl

  finish_with_first : (l : Listed) (r : Result (List Signed) SignatureFault)
      → (with_signatures (λ given. with_secrets (λ strings. finished_answer hash keys s l given strings) secrets) r).status
      ≡ first_status ((is_err r, 14) ∷ (are_bad secrets, 15) ∷ (have_collided secrets, 8)
      ∷ (is_unfinished hash keys s (given_of r) (strings_of secrets) (Some l), 16) ∷ [])
  finish_with_first l (Ok given) = secrets_first l given secrets
  finish_with_first l (Err fault) = refl

  psbt_there : (which : Which) (o : Option Listed)
      → (if_there (λ l. prints 0 (psbt_line (unsigned_psbt hash keys s.advert l))) which o).status ≡ first_status ((is_none o, 16) ∷ [])
  psbt_there which None = refl
  psbt_there which (Some l) = refl

  signed_first : (answer : List Signed → List ℕ) (r : Result (List Signed) SignatureFault)
      → (with_signatures (λ given. prints 0 (answer given)) r).status ≡ first_status ((is_err r, 14) ∷ [])
  signed_first answer (Ok given) = refl
  signed_first answer (Err fault) = refl

  finish_there : (which : Which) (o : Option Listed)
      → (if_there (finish_answer v hash (text_at texts 2) keys s) which o).status
      ≡ first_status ((is_none o, 16) ∷ (is_err signatures, 14) ∷ (is_unfinished hash keys s (given_of signatures) [] o, 16) ∷ [])
  finish_there which None = refl
  finish_there which (Some l) = finish_first l signatures

  finish_with_there : (which : Which) (o : Option Listed)
      → (if_there (finish_with_answer v hash (text_at texts 2) (text_at texts 3) keys s) which o).status
      ≡ first_status ((is_none o, 16) ∷ (is_err signatures, 14) ∷ (are_bad secrets, 15) ∷ (have_collided secrets, 8)
      ∷ (is_unfinished hash keys s (given_of signatures) (strings_of secrets) o, 16) ∷ [])
  finish_with_there which None = refl
  finish_with_there which (Some l) = finish_with_first l signatures

-- ---- the deal

module _ (v : Verifier) (hash : List ℕ → List ℕ) (command : DealCommand) (texts : List Text) where
  by_circle : (c : Option (List ℕ × List ℕ)) (o : Option (List ℕ)) (printed : Printed) (so : (Keys → Instance → Bool) → Bool)
      → printed.status ≡ first_status (later_causes v hash command texts so)
      → (unless_collided c (unless_circular o printed)).status
      ≡ first_status ((is_some c, 8) ∷ (is_some o, 13) ∷ later_causes v hash command texts so)
  by_circle (Some pair) o printed so h = refl
  by_circle None (Some name) printed so h = refl
  by_circle None None printed so h = h

  -- where the command reads a deal, and answers this of one that is taken
  module _ (answer : Keys → Instance → Printed) (all : (keys : Keys) (s : Instance)
      → (answer keys s).status ≡ first_status (later_causes v hash command texts (λ test. test keys s))) where
    by_read : (advert : Advert) (r : Result Deal DealFault)
        → (with_deal hash answer advert r).status
        ≡ first_status ((is_err r, 13) ∷ deal_causes v hash command texts (λ test. if_read test advert r))
    by_read advert (Err fault) = refl
    by_read advert (Ok deal) =
        let keys = deal_keys deal in
        let s = deal_instance advert deal in
        by_circle (collision hash [] (deal_strings hash keys s)) (circular hash keys s) (answer keys s) (λ test. test keys s) (all keys s)

    by_both : (r : Judged Advert) (text : Text)
        → (with_advert (λ advert. with_deal hash answer advert (deal_in v advert text)) r).status
        ≡ first_status ((is_err r, 1) ∷ (is_unread v r text, 13) ∷ deal_causes v hash command texts (λ test. if_taken v test r text))
    by_both (Ok advert) text = by_read advert (deal_in v advert text)
    by_both (Err why) text = refl

  -- the same of a command that shows addresses
  module _ (answer : Option (List ℕ) → Keys → Instance → Printed) (all : (network : Option (List ℕ)) (keys : Keys) (s : Instance)
      → (answer network keys s).status ≡ first_status (later_causes v hash command texts (λ test. test keys s))) where
    by_shown_deal : (advert : Advert) (r : Result Deal DealFault)
        → (with_shown_deal hash answer advert r).status
        ≡ first_status ((is_err r, 13) ∷ deal_causes v hash command texts (λ test. if_read test advert r))
    by_shown_deal advert (Err fault) = refl
    by_shown_deal advert (Ok deal) = by_read (answer deal.network) (all deal.network) advert (Ok deal)

    by_shown : (r : Judged Advert) (text : Text)
        → (with_advert (λ advert. with_shown_deal hash answer advert (deal_in v advert text)) r).status
        ≡ first_status ((is_err r, 1) ∷ (is_unread v r text, 13) ∷ deal_causes v hash command texts (λ test. if_taken v test r text))
    by_shown (Ok advert) text = by_shown_deal advert (deal_in v advert text)
    by_shown (Err why) text = refl

-- ---- all commands

keys_first : (r : Judged Advert) → (with_advert (λ advert. prints 0 (keys_text advert)) r).status ≡ first_status ((is_err r, 1) ∷ [])
keys_first (Ok advert) = refl
keys_first (Err why) = refl

-- of a deal file that may lack lines
funded_first : (v : Verifier) (hash : List ℕ → List ℕ) (r : Judged Advert) (text : Text)
    → (with_advert (λ advert. fund_answer hash advert (part_in v advert text)) r).status
    ≡ first_status ((is_err r, 1) ∷ (is_part_refused v r text, 13) ∷ (do_part_collide v hash r text, 8) ∷ [])
funded_first v hash (Err why) text = refl
funded_first v hash (Ok advert) text = by_part (part_in v advert text)
  where
    by_collision : (entries : List Entry) (o : Option (List ℕ × List ℕ))
        → (unless_collided o (prints 0 (fund_text hash advert entries))).status ≡ first_status ((is_some o, 8) ∷ [])
    by_collision entries None = refl
    by_collision entries (Some pair) = refl

    by_part : (r : Result (List Entry) DealFault)
        → (fund_answer hash advert r).status ≡ first_status ((is_err r, 13) ∷ (part_collides hash advert r, 8) ∷ [])
    by_part (Err fault) = refl
    by_part (Ok entries) = by_collision entries (collision hash [] (fund_strings advert entries))

-- of secrets that no deal has yet
offered_first : (hash : List ℕ → List ℕ) (r : Judged Advert) (text : Text)
    → (with_advert (hashes_answer hash text) r).status
    ≡ first_status ((is_err r, 1) ∷ (of_offers hash are_bad r text, 15) ∷ (of_offers hash have_collided r text, 8) ∷ [])
offered_first hash (Err why) text = refl
offered_first hash (Ok advert) text = by_secrets (offered_in hash advert text)
  where
    by_secrets : (r : SecretsRead)
        → (with_secrets (λ strings. prints 0 (hashes_text hash strings)) r).status
        ≡ first_status ((are_bad r, 15) ∷ (have_collided r, 8) ∷ [])
    by_secrets (shows strings) = refl
    by_secrets (refused fault) = refl
    by_secrets (collided earlier later) = refl

pub in_order : (v : Verifier) (hash : List ℕ → List ℕ) (command : DealCommand) (texts : List Text)
    → (deal_text_answer v hash command texts).status ≡ first_status (causes v hash command texts)
in_order v hash (commands.keys contract) texts = keys_first (contract_in (text_at texts 0))
in_order v hash (commands.plan contract deal) texts =
    by_shown v hash (commands.plan contract deal) texts (λ network keys s. prints 0 (plan_text hash network keys s))
    (λ network keys s. refl) (contract_in (text_at texts 0)) (text_at texts 1)
in_order v hash (commands.psbts contract deal) texts =
    by_both v hash (commands.psbts contract deal) texts (λ keys s. prints 0 (psbts_text hash keys s)) (λ keys s. refl)
    (contract_in (text_at texts 0)) (text_at texts 1)
in_order v hash (commands.psbt contract deal which) texts =
    by_both v hash (commands.psbt contract deal which) texts
    (of_transaction hash which (λ keys s l. prints 0 (psbt_line (unsigned_psbt hash keys s.advert l))))
    (λ keys s. psbt_there v hash texts keys s which (listed_at hash keys s which))
    (contract_in (text_at texts 0)) (text_at texts 1)
in_order v hash (commands.missing contract deal signatures) texts =
    by_both v hash (commands.missing contract deal signatures) texts
    (of_signatures v hash (λ keys s given. prints 0 (missing_text hash keys s given)) (text_at texts 2))
    (λ keys s. signed_first v hash texts keys s (missing_text hash keys s) (signatures_in v hash keys s (text_at texts 2)))
    (contract_in (text_at texts 0)) (text_at texts 1)
in_order v hash (commands.held contract deal signatures) texts =
    by_both v hash (commands.held contract deal signatures) texts
    (of_signatures v hash (λ keys s given. prints 0 (held_text hash keys s given)) (text_at texts 2))
    (λ keys s. signed_first v hash texts keys s (held_text hash keys s) (signatures_in v hash keys s (text_at texts 2)))
    (contract_in (text_at texts 0)) (text_at texts 1)
in_order v hash (commands.finish contract deal which signatures) texts =
    by_both v hash (commands.finish contract deal which signatures) texts (of_transaction hash which (finish_answer v hash (text_at texts 2)))
    (λ keys s. finish_there v hash texts keys s which (listed_at hash keys s which)) (contract_in (text_at texts 0)) (text_at texts 1)
in_order v hash (commands.finish_with contract deal which signatures secrets) texts =
    by_both v hash (commands.finish_with contract deal which signatures secrets) texts
    (of_transaction hash which (finish_with_answer v hash (text_at texts 2) (text_at texts 3)))
    (λ keys s. finish_with_there v hash texts keys s which (listed_at hash keys s which)) (contract_in (text_at texts 0)) (text_at texts 1)
in_order v hash (commands.fund contract deal) texts = funded_first v hash (contract_in (text_at texts 0)) (text_at texts 1)
in_order v hash (commands.warn contract deal) texts =
    by_both v hash (commands.warn contract deal) texts (λ keys s. prints 0 (warn_text hash keys s [])) (λ keys s. refl)
    (contract_in (text_at texts 0)) (text_at texts 1)
in_order v hash (commands.warn_with contract deal secrets) texts =
    by_both v hash (commands.warn_with contract deal secrets) texts
    (of_secrets hash (λ keys s strings. prints 0 (warn_text hash keys s strings)) (text_at texts 2))
    (λ keys s. shown_first v hash texts keys s (warn_text hash keys s) (secrets_in hash keys s (text_at texts 2)))
    (contract_in (text_at texts 0)) (text_at texts 1)
in_order v hash (commands.ready contract deal signatures) texts =
    by_both v hash (commands.ready contract deal signatures) texts
    (of_signatures v hash (λ keys s given. ready_answer hash keys s given []) (text_at texts 2))
    (λ keys s. ready_first v hash texts keys s (signatures_in v hash keys s (text_at texts 2)))
    (contract_in (text_at texts 0)) (text_at texts 1)
in_order v hash (commands.ready_with contract deal signatures secrets) texts =
    by_both v hash (commands.ready_with contract deal signatures secrets) texts
    (ready_with_answer v hash (text_at texts 2) (text_at texts 3))
    (λ keys s.
    ready_with_first v hash texts keys s (signatures_in v hash keys s (text_at texts 2)) (secrets_in hash keys s (text_at texts 3)))
    (contract_in (text_at texts 0)) (text_at texts 1)
in_order v hash (commands.endorse contract deal party) texts =
    by_both v hash (commands.endorse contract deal party) texts (λ keys s. prints 0 (endorse_text hash keys s party)) (λ keys s. refl)
    (contract_in (text_at texts 0)) (text_at texts 1)
in_order v hash (commands.hashes contract secrets) texts = offered_first hash (contract_in (text_at texts 0)) (text_at texts 1)
