-- The status of an answer on a chain is that of the first cause in their order.
use Rattle.std.proofs.Common.{◌≡◌, ℕ, List, [], ◌∷◌, Option, Some, None, refl}
use Rattle.std.specs.Prelude.{Result, Ok, Err, Bool, false, is_err, is_some}
use Rattle.spec_data.specs.Messages.{collision}
use Rattle.spec_terms.specs.Advert.{Advert}
use Rattle.spec_compiler.specs.Keyed.Keys.{Keys}
use Rattle.spec_compiler.specs.Keyed.Instance.{Instance}
use Rattle.spec_text.specs.Refusals.{Judged}
use Rattle.spec_tool.specs.Answers.{contract_in}
use Rattle.spec_tool.specs.Commands.{Printed}
use Rattle.spec_tool.specs.Reads.{Text, text_at}
use Rattle.spec_deal.specs.declared.deal.Deal.{Deal}
use Rattle.spec_deal.specs.declared.entry.Shown.{Shown}
use Rattle.spec_deal.specs.declared.fault.DealFault.{DealFault}
use Rattle.spec_deal.specs.declared.fault.SignatureFault.{SignatureFault}
use Rattle.spec_deal.specs.declared.signed.Signed.{Signed}
use Rattle.spec_deal.specs.Answers.{with_advert, with_deal, with_shown_deal, deal_in, with_signatures, with_secrets, signatures_in}
use Rattle.spec_deal.specs.Answers.{unless_circular, unless_collided, circular}
use Rattle.spec_deal.specs.Hashed.{deal_strings}
use Rattle.spec_deal.specs.SecretFile.{SecretsRead, shows, refused, collided}
use Rattle.spec_deal.specs.Setting.{deal_keys, deal_instance}
use Rattle.spec_deal.specs.Verifier.{Verifier}
use Rattle.spec_show.specs.ShowText.{show_text}
use Rattle.spec_chain.specs.Answers.{told_in, with_course, stood_answer, course_answer, course_with_answer, state_answer, state_with_answer}
use Rattle.spec_chain.specs.Answers.{chain_text_answer}
use Rattle.spec_chain.specs.Chain as chain
use Rattle.spec_chain.specs.Chain.{Course, Followed}
use Rattle.spec_chain.specs.Commands as commands
use Rattle.spec_chain.specs.Commands.{ChainCommand}
use Rattle.theory_deal.specs.Causes.{Cause, DealCausesTheorem, if_read, if_taken, is_unread, do_collide, is_circular, are_bad, have_collided}
use Rattle.theory_deal.specs.Causes.{first_status}
use Rattle.theory_state.specs.Causes.{is_refused, is_collided, chain_of, told_behind, state_causes, causes}

-- ---- where a deal stands

module _ (v : Verifier) (hash : List ℕ → List ℕ) (signatures : Text) (keys : Keys) (s : Instance) where
  -- the causes behind a chain that is followed so far
  abbrev causes_behind : Option Text → Followed → List Cause
  causes_behind secrets f =
      (is_refused f, 17)
      ∷ (is_collided f, 8)
      ∷ (is_err (signatures_in v hash keys s signatures), 14)
      ∷ (are_bad (told_behind hash s secrets f), 15)
      ∷ (have_collided (told_behind hash s secrets f), 8)
      ∷ []

  signed_first : (answer : List Signed → List ℕ) (r : Result (List Signed) SignatureFault)
      → (with_signatures (λ given. record { status = 0; text = answer given }) r).status
      ≡ first_status ((is_err r, 14) ∷ (false, 15) ∷ (false, 8) ∷ [])
  signed_first answer (Ok given) = refl
  signed_first answer (Err fault) = refl

  told_first : (answer : List Shown → List ℕ) (read : SecretsRead)
      → (with_secrets (λ strings. record { status = 0; text = answer strings }) read).status
      ≡ first_status ((are_bad read, 15) ∷ (have_collided read, 8) ∷ [])
  told_first answer (shows strings) = refl
  told_first answer (refused fault) = refl
  told_first answer (collided earlier later) = refl

  both_first : (answer : List Signed → List Shown → List ℕ) (r : Result (List Signed) SignatureFault) (read : SecretsRead)
      → (with_signatures (λ given. with_secrets (λ strings. record { status = 0; text = answer given strings }) read) r).status
      ≡ first_status ((is_err r, 14) ∷ (are_bad read, 15) ∷ (have_collided read, 8) ∷ [])
  both_first answer (Ok given) read = told_first (answer given) read
  both_first answer (Err fault) read = refl

  course_first : (f : Followed)
      → (with_course (course_answer v hash keys s signatures) f).status ≡ first_status (causes_behind None f)
  course_first (chain.stands course tip) =
      signed_first (λ given. (stood_answer hash keys s course tip given []).text) (signatures_in v hash keys s signatures)
  course_first (chain.refused fault) = refl
  course_first (chain.collided earlier later) = refl

  course_with_first : (secrets : Text) (f : Followed)
      → (with_course (course_with_answer v hash keys s signatures secrets) f).status ≡ first_status (causes_behind (Some secrets) f)
  course_with_first secrets (chain.stands course tip) =
      both_first (λ given strings. (stood_answer hash keys s course tip given strings).text) (signatures_in v hash keys s signatures)
      (told_in hash s course.messages secrets)
  course_with_first secrets (chain.refused fault) = refl
  course_with_first secrets (chain.collided earlier later) = refl

-- ---- the deal

by_circle : (c : Option (List ℕ × List ℕ)) (o : Option (List ℕ)) (printed : Printed) (later : List Cause)
    → printed.status ≡ first_status later
    → (unless_collided c (unless_circular o printed)).status ≡ first_status ((is_some c, 8) ∷ (is_some o, 13) ∷ later)
by_circle (Some pair) o printed later h = refl
by_circle None (Some name) printed later h = refl
by_circle None None printed later h = h

module _ (v : Verifier) (hash : List ℕ → List ℕ) (text : Option (List ℕ) → Keys → Instance → List ℕ) where
  abbrev shown : Option (List ℕ) → Keys → Instance → Printed
  shown network keys s = record { status = 0; text = text network keys s }

  shown_deal : (advert : Advert) (r : Result Deal DealFault)
      → (with_shown_deal hash shown advert r).status
      ≡ first_status ((is_err r, 13) ∷ (if_read (do_collide hash) advert r, 8) ∷ (if_read (is_circular hash) advert r, 13) ∷ [])
  shown_deal advert (Err fault) = refl
  shown_deal advert (Ok deal) =
      let keys = deal_keys deal in
      let s = deal_instance advert deal in
      by_circle (collision hash [] (deal_strings hash keys s)) (circular hash keys s) (shown deal.network keys s) [] refl

  -- where the deal is shown
  shown_first : (r : Judged Advert) (file : Text)
      → (with_advert (λ advert. with_shown_deal hash shown advert (deal_in v advert file)) r).status
      ≡ first_status ((is_err r, 1) ∷ (is_unread v r file, 13) ∷ (if_taken v (do_collide hash) r file, 8)
      ∷ (if_taken v (is_circular hash) r file, 13) ∷ [])
  shown_first (Ok advert) file = shown_deal advert (deal_in v advert file)
  shown_first (Err why) file = refl

module _ (v : Verifier) (hash : List ℕ → List ℕ) (chain signatures : Text) (secrets : Option Text) where
  abbrev on_deal_causes : ((Keys → Instance → Bool) → Bool) → List Cause
  on_deal_causes so = (so (do_collide hash), 8) ∷ (so (is_circular hash), 13) ∷ state_causes v hash chain signatures secrets so

  -- where this is answered of a deal that is taken
  module _ (answer : Keys → Instance → Printed) (all : (keys : Keys) (s : Instance)
      → (answer keys s).status ≡ first_status (state_causes v hash chain signatures secrets (λ test. test keys s))) where
    by_read : (advert : Advert) (r : Result Deal DealFault)
        → (with_deal hash answer advert r).status ≡ first_status ((is_err r, 13) ∷ on_deal_causes (λ test. if_read test advert r))
    by_read advert (Err fault) = refl
    by_read advert (Ok deal) =
        let keys = deal_keys deal in
        let s = deal_instance advert deal in
        by_circle (collision hash [] (deal_strings hash keys s)) (circular hash keys s) (answer keys s)
        (state_causes v hash chain signatures secrets (λ test. test keys s)) (all keys s)

    by_both : (r : Judged Advert) (text : Text)
        → (with_advert (λ advert. with_deal hash answer advert (deal_in v advert text)) r).status
        ≡ first_status ((is_err r, 1) ∷ (is_unread v r text, 13) ∷ on_deal_causes (λ test. if_taken v test r text))
    by_both (Ok advert) text = by_read advert (deal_in v advert text)
    by_both (Err why) text = refl

-- ---- all commands

pub in_order : DealCausesTheorem → (v : Verifier) (hash : List ℕ → List ℕ) (command : ChainCommand) (texts : List Text)
    → (chain_text_answer v hash command texts).status ≡ first_status (causes v hash command texts)
in_order t v hash (commands.on_deal command) texts = t.in_order v hash command texts
in_order t v hash (commands.show contract deal) texts =
    shown_first v hash (show_text hash) (contract_in (text_at texts 0)) (text_at texts 1)
in_order t v hash (commands.state contract deal chain signatures) texts =
    by_both v hash (text_at texts 2) (text_at texts 3) None (state_answer v hash (text_at texts 2) (text_at texts 3))
    (λ keys s. course_first v hash (text_at texts 3) keys s (chain_of hash (text_at texts 2) keys s))
    (contract_in (text_at texts 0)) (text_at texts 1)
in_order t v hash (commands.state_with contract deal chain signatures secrets) texts =
    by_both v hash (text_at texts 2) (text_at texts 3) (Some (text_at texts 4))
    (state_with_answer v hash (text_at texts 2) (text_at texts 3) (text_at texts 4))
    (λ keys s. course_with_first v hash (text_at texts 3) keys s (text_at texts 4) (chain_of hash (text_at texts 2) keys s))
    (contract_in (text_at texts 0)) (text_at texts 1)
