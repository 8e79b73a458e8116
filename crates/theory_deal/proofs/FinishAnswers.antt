-- What `finish` prints with status 0 is one transaction, which is the plan's, and which ledgers accept.
use Rattle.std.proofs.Common.{◌≡◌, ℕ, List, [], Option, Some, None, refl, subst, inl, inr}
use Rattle.std.specs.Prelude.{Result, Ok, Err, ◌⊎◌}
use Rattle.spec_data.specs.Hashes.{HashesBytes}
use Rattle.spec_data.specs.Messages.{collision}
use Rattle.spec_terms.specs.Advert.{Advert}
use Rattle.spec_terms.specs.Faults.{IsWellFormed}
use Rattle.spec_bitcoin.specs.Spelling.{spelling}
use Rattle.spec_compiler.specs.Keyed.Keys.{Keys}
use Rattle.spec_compiler.specs.Keyed.Instance.{Instance}
use Rattle.spec_text.specs.Refusals.{Judged}
use Rattle.spec_tool.specs.declared.which.Which.{Which}
use Rattle.spec_tool.specs.Answers.{contract_in}
use Rattle.spec_tool.specs.Commands.{Printed}
use Rattle.spec_tool.specs.Keyed.Listed.{Listed, listed_at}
use Rattle.spec_tool.specs.Reads.{Text, text_at}
use Rattle.spec_deal.specs.declared.deal.Deal.{Deal}
use Rattle.spec_deal.specs.declared.entry.Shown.{Shown}
use Rattle.spec_deal.specs.declared.fault.DealFault.{DealFault}
use Rattle.spec_deal.specs.declared.fault.SignatureFault.{SignatureFault}
use Rattle.spec_deal.specs.declared.finish.FinishRefusal.{FinishRefusal}
use Rattle.spec_deal.specs.declared.signed.Signed.{Signed}
use Rattle.spec_deal.specs.Answers.{with_advert, circular, unless_circular, unless_collided, with_deal, deal_in, of_deal, if_there}
use Rattle.spec_deal.specs.Answers.{of_transaction, with_signatures, signatures_in, with_secrets, secrets_in, unless_refused, finished_answer}
use Rattle.spec_deal.specs.Answers.{finish_answer, finish_with_answer}
use Rattle.spec_deal.specs.Commands as commands
use Rattle.spec_deal.specs.DealFile.{read_deal}
use Rattle.spec_deal.specs.Finished.{finished, finish_refusal}
use Rattle.spec_deal.specs.Hashed.{deal_strings}
use Rattle.spec_deal.specs.SecretFile.{SecretsRead, shows, refused, collided}
use Rattle.spec_deal.specs.Setting.{deal_keys, deal_instance}
use Rattle.spec_deal.specs.SignatureFile.{read_signatures}
use Rattle.spec_deal.specs.Verifier.{Verifier}
use Rattle.theory_deal.specs.FinishAnswers.{IsFinishedText, FinishAnswers}
use Rattle.theory_deal.specs.Whole.{AreRead}
use Rattle.theory_deal.proofs.Ledger.Accepted.{finished_accepted}
use Rattle.theory_deal.proofs.ReadAgain.{finished_is_read_again}
use Rattle.theory_deal.proofs.WellFormed.{well_formed}
use Rattle.theory_deal.proofs.Whole.{finish_theorem}

some_same : {X : Type 0} {x y : X} → Some x ≡ Some y → x ≡ y
some_same e = cc

-- ---- files that are taken have a text

contract_well : (t : Text) (advert : Advert) → contract_in t ≡ Ok advert → IsWellFormed advert
contract_well None advert e = cc
contract_well (Some text) advert e = well_formed text advert e

module _ (v : Verifier) (hash : List ℕ → List ℕ) where
  deal_text : (t : Text) (advert : Advert) (deal : Deal) → deal_in v advert t ≡ Ok deal → (text : List ℕ) × (read_deal v advert text ≡ Ok deal)
  deal_text None advert deal e = cc
  deal_text (Some text) advert deal e = (text, e)

  module _ (keys : Keys) (s : Instance) where
    signed_text : (t : Text) (given : List Signed) → signatures_in v hash keys s t ≡ Ok given
        → (text : List ℕ) × (read_signatures v hash keys s text ≡ Ok given)
    signed_text None given e = cc
    signed_text (Some text) given e = (text, e)

    shown_text : (t : Text) (strings : List Shown) → (strings ≡ []) ⊎ (secrets_in hash keys s t ≡ shows strings)
        → AreRead hash keys s strings
    shown_text t strings (inl none) = inl none
    shown_text None strings (inr e) = cc
    shown_text (Some text) strings (inr e) = inr (text, e)

  -- ---- the answer

  module _ (bytes : HashesBytes hash) (texts : List Text) (which : Which) where
    -- with status 0 it is a finished transaction
    abbrev IsGood : Printed → Type 0
    IsGood printed = printed.status ≡ 0 → IsFinishedText v hash texts which printed.text

    module _ (advert : Advert) (contract : contract_in (text_at texts 0) ≡ Ok advert) (deal : Deal)
        (taken : deal_in v advert (text_at texts 1) ≡ Ok deal) where
      abbrev keys : Keys
      keys = deal_keys deal

      abbrev s : Instance
      s = deal_instance advert deal

      module _ (unmade : circular hash (deal_keys deal) (deal_instance advert deal) ≡ None) (l : Listed)
          (there : listed_at hash (deal_keys deal) (deal_instance advert deal) which ≡ Some l) (given : List Signed)
          (signed : signatures_in v hash (deal_keys deal) (deal_instance advert deal) (text_at texts 2) ≡ Ok given) (strings : List Shown)
          (shown : (strings ≡ []) ⊎ (secrets_in hash (deal_keys deal) (deal_instance advert deal) (text_at texts 3) ≡ shows strings)) where
        by_refusal : (o : Option FinishRefusal) → finish_refusal hash keys s given strings l ≡ o
            → IsGood (unless_refused o (spelling (finished hash keys s given strings l)))
        by_refusal (Some refusal) e zero_status = absurd (cc)
        by_refusal None e zero_status =
            let checked = contract_well (text_at texts 0) advert contract in
            let d = deal_text (text_at texts 1) advert deal taken in
            let g = signed_text keys s (text_at texts 2) given signed in
            let x = shown_text keys s (text_at texts 3) strings shown in
            record {
              advert = advert;
              contract_is = contract;
              deal = deal;
              deal_is = taken;
              given = given;
              given_is = signed;
              strings = strings;
              strings_are = shown;
              l = l;
              there = there;
              text_is = refl;
              read_again = finished_is_read_again v hash advert (d.0) deal (g.0) given strings which l bytes checked (d.1) (g.1) x there e;
              opens = finish_theorem v hash advert (d.0) deal (g.0) given strings which l checked (d.1) (g.1) x there e;
              accepted = finished_accepted v hash advert (d.0) deal (g.0) given strings which l bytes.size checked (d.1) unmade (g.1) x there e;
            }

        good : IsGood (finished_answer hash keys s l given strings)
        good = by_refusal (finish_refusal hash keys s given strings l) refl

      module _ (unmade : circular hash (deal_keys deal) (deal_instance advert deal) ≡ None) (l : Listed)
          (there : listed_at hash (deal_keys deal) (deal_instance advert deal) which ≡ Some l) where
        by_secrets : (given : List Signed) → signatures_in v hash keys s (text_at texts 2) ≡ Ok given → (r : SecretsRead)
            → secrets_in hash keys s (text_at texts 3) ≡ r → IsGood (with_secrets (λ strings. finished_answer hash keys s l given strings) r)
        by_secrets given signed (shows strings) e = good unmade l there given signed strings (inr e)
        by_secrets given signed (refused fault) e = λ z. absurd (cc)
        by_secrets given signed (collided first second) e = λ z. absurd (cc)

        with_none : (r : Result (List Signed) SignatureFault) → signatures_in v hash keys s (text_at texts 2) ≡ r
            → IsGood (with_signatures (λ given. finished_answer hash keys s l given []) r)
        with_none (Ok given) e = good unmade l there given e [] (inl refl)
        with_none (Err fault) e = λ z. absurd (cc)

        with_some : (r : Result (List Signed) SignatureFault) → signatures_in v hash keys s (text_at texts 2) ≡ r
            → IsGood (with_signatures
            (λ given. with_secrets (λ strings. finished_answer hash keys s l given strings) (secrets_in hash keys s (text_at texts 3))) r)
        with_some (Ok given) e = by_secrets given e (secrets_in hash keys s (text_at texts 3)) refl
        with_some (Err fault) e = λ z. absurd (cc)

    -- what is answered of the transaction is good
    abbrev AllGood : (Keys → Instance → Listed → Printed) → Type 0
    AllGood answer =
        (advert : Advert) (deal : Deal) (l : Listed) → contract_in (text_at texts 0) ≡ Ok advert
        → deal_in v advert (text_at texts 1) ≡ Ok deal → circular hash (deal_keys deal) (deal_instance advert deal) ≡ None
        → listed_at hash (deal_keys deal) (deal_instance advert deal) which ≡ Some l
        → IsGood (answer (deal_keys deal) (deal_instance advert deal) l)

    module _ (answer : Keys → Instance → Listed → Printed) (good_one : AllGood answer) where
      by_there : (advert : Advert) (deal : Deal) → contract_in (text_at texts 0) ≡ Ok advert → deal_in v advert (text_at texts 1) ≡ Ok deal
          → circular hash (deal_keys deal) (deal_instance advert deal) ≡ None → (o : Option Listed)
          → listed_at hash (deal_keys deal) (deal_instance advert deal) which ≡ o
          → IsGood (if_there (answer (deal_keys deal) (deal_instance advert deal)) which o)
      by_there advert deal c d unmade None e = λ z. absurd (cc)
      by_there advert deal c d unmade (Some l) e = good_one advert deal l c d unmade e

      by_compiled : (advert : Advert) (deal : Deal) → contract_in (text_at texts 0) ≡ Ok advert → deal_in v advert (text_at texts 1) ≡ Ok deal
          → (pair : Option (List ℕ × List ℕ)) (o : Option (List ℕ)) → circular hash (deal_keys deal) (deal_instance advert deal) ≡ o
          → IsGood (unless_collided pair (unless_circular o (of_transaction hash which answer (deal_keys deal) (deal_instance advert deal))))
      by_compiled advert deal c d (Some pair) o e = λ z. absurd (cc)
      by_compiled advert deal c d None (Some name) e = λ z. absurd (cc)
      by_compiled advert deal c d None None e =
          by_there advert deal c d e (listed_at hash (deal_keys deal) (deal_instance advert deal) which) refl

      by_deal : (advert : Advert) → contract_in (text_at texts 0) ≡ Ok advert → (r : Result Deal DealFault)
          → deal_in v advert (text_at texts 1) ≡ r → IsGood (with_deal hash (of_transaction hash which answer) advert r)
      by_deal advert c (Err fault) e = λ z. absurd (cc)
      by_deal advert c (Ok deal) e =
          by_compiled advert deal c e (collision hash [] (deal_strings hash (deal_keys deal) (deal_instance advert deal)))
          (circular hash (deal_keys deal) (deal_instance advert deal)) refl

      by_contract : (r : Judged Advert) → contract_in (text_at texts 0) ≡ r
          → IsGood (with_advert (λ advert. with_deal hash (of_transaction hash which answer) advert (deal_in v advert (text_at texts 1))) r)
      by_contract (Err why) e = λ z. absurd (cc)
      by_contract (Ok advert) e = by_deal advert e (deal_in v advert (text_at texts 1)) refl

      all_good : IsGood (of_deal v hash (of_transaction hash which answer) texts)
      all_good = by_contract (contract_in (text_at texts 0)) refl

    finish_good : IsGood (of_deal v hash (of_transaction hash which (finish_answer v hash (text_at texts 2))) texts)
    finish_good =
        all_good (finish_answer v hash (text_at texts 2))
        (λ advert deal l c d unmade there.
        with_none advert c deal d unmade l there
        (signatures_in v hash (deal_keys deal) (deal_instance advert deal) (text_at texts 2)) refl)

    finish_with_good : IsGood (of_deal v hash (of_transaction hash which (finish_with_answer v hash (text_at texts 2) (text_at texts 3))) texts)
    finish_with_good =
        all_good (finish_with_answer v hash (text_at texts 2) (text_at texts 3))
        (λ advert deal l c d unmade there.
        with_some advert c deal d unmade l there
        (signatures_in v hash (deal_keys deal) (deal_instance advert deal) (text_at texts 2)) refl)

pub finish_answers : FinishAnswers
finish_answers v hash (commands.keys contract) texts which bytes e z = cc
finish_answers v hash (commands.plan contract deal) texts which bytes e z = cc
finish_answers v hash (commands.psbts contract deal) texts which bytes e z = cc
finish_answers v hash (commands.psbt contract deal other) texts which bytes e z = cc
finish_answers v hash (commands.missing contract deal signatures) texts which bytes e z = cc
finish_answers v hash (commands.held contract deal signatures) texts which bytes e z = cc
finish_answers v hash (commands.finish contract deal other signatures) texts which bytes e z =
    subst
    (λ (w : Which). IsFinishedText v hash texts w (of_deal v hash (of_transaction hash other (finish_answer v hash (text_at texts 2))) texts).text)
    (some_same e) (finish_good v hash bytes texts other z)
finish_answers v hash (commands.finish_with contract deal other signatures secrets) texts which bytes e z =
    subst
    (λ (w : Which).
    IsFinishedText v hash texts w
    (of_deal v hash (of_transaction hash other (finish_with_answer v hash (text_at texts 2) (text_at texts 3))) texts).text)
    (some_same e) (finish_with_good v hash bytes texts other z)
finish_answers v hash (commands.fund contract deal) texts which bytes e z = cc
finish_answers v hash (commands.warn contract deal) texts which bytes e z = cc
finish_answers v hash (commands.warn_with contract deal secrets) texts which bytes e z = cc
finish_answers v hash (commands.ready contract deal signatures) texts which bytes e z = cc
finish_answers v hash (commands.ready_with contract deal signatures secrets) texts which bytes e z = cc
finish_answers v hash (commands.endorse contract deal party) texts which bytes e z = cc
finish_answers v hash (commands.hashes contract secrets) texts which bytes e z = cc
