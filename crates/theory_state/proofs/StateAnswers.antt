-- What `state` prints with status 0 says where the deal stands, and that is so.
use Rattle.std.proofs.Common.{◌≡◌, ℕ, List, [], true, Option, Some, None, refl, subst}
use Rattle.std.specs.Prelude.{Result, Ok, Err}
use Rattle.spec_data.specs.Hashes.{HashesBytes}
use Rattle.spec_data.specs.Messages.{collision}
use Rattle.spec_terms.specs.Advert.{Advert}
use Rattle.spec_terms.specs.Faults.{IsWellFormed}
use Rattle.spec_compiler.specs.Keyed.Keys.{Keys}
use Rattle.spec_compiler.specs.Keyed.Instance.{Instance}
use Rattle.spec_text.specs.Refusals.{Judged}
use Rattle.spec_tool.specs.Answers.{contract_in}
use Rattle.spec_tool.specs.Commands.{Printed}
use Rattle.spec_tool.specs.Reads.{Text, text_at}
use Rattle.spec_deal.specs.declared.deal.Deal.{Deal}
use Rattle.spec_deal.specs.declared.entry.Shown.{Shown}
use Rattle.spec_deal.specs.declared.fault.DealFault.{DealFault}
use Rattle.spec_deal.specs.declared.fault.SignatureFault.{SignatureFault}
use Rattle.spec_deal.specs.declared.signed.Signed.{Signed}
use Rattle.spec_deal.specs.Answers.{with_advert, with_deal, deal_in, of_deal, circular, unless_circular, unless_collided}
use Rattle.spec_deal.specs.Answers.{with_signatures, signatures_in, with_secrets}
use Rattle.spec_deal.specs.DealFile.{read_deal}
use Rattle.spec_deal.specs.Hashed.{deal_strings}
use Rattle.spec_deal.specs.SecretFile.{SecretsRead, shows, refused, collided}
use Rattle.spec_deal.specs.Setting.{deal_keys, deal_instance}
use Rattle.spec_deal.specs.SignatureFile.{read_signatures}
use Rattle.spec_deal.specs.Verifier.{Verifier}
use Rattle.spec_chain.specs.Answers.{told_in, with_course, stood_answer, course_answer, course_with_answer, state_answer, state_with_answer}
use Rattle.spec_chain.specs.Chain as chain
use Rattle.spec_chain.specs.Chain.{Course, Followed, stands, follow_chain}
use Rattle.spec_chain.specs.Commands as commands
use Rattle.theory_deal.specs.Finished.{do_fit}
use Rattle.theory_deal.proofs.ReadSecrets.{behind_fit}
use Rattle.theory_deal.proofs.ReadSignatures.{signatures_are_shaped}
use Rattle.theory_deal.proofs.WellFormed.{well_formed}
use Rattle.theory_chain.specs.Aside.{OthersAreReadOver}
use Rattle.theory_chain.specs.Deals.{IsDeal}
use Rattle.theory_chain.specs.Follows.{HistoryStays}
use Rattle.theory_chain.specs.Ledgers.{CanIsAccepted}
use Rattle.theory_chain.specs.Nevers.{NeverComes}
use Rattle.theory_chain.specs.Prospects.{CanExactly, CanOpens, GoneNeverComes, KnownFit, SuppliedComes}
use Rattle.theory_chain.specs.Requirements.{RequirementsExactly, UnverifiedExactly}
use Rattle.theory_chain.specs.Runs.{ChainsAreRuns}
use Rattle.theory_chain.proofs.Deals.Taken.{whole_deal}
use Rattle.theory_state.specs.Causes.{chain_of, told_behind}
use Rattle.theory_state.specs.Stands.{StandsSo}
use Rattle.theory_state.specs.StateAnswers.{IsStateText, StateAnswers}

-- the theorems on chains
pub record Theorems : Type 0 where
  pub runs : ChainsAreRuns
  pub fit : KnownFit
  pub can : CanExactly
  pub exactly : RequirementsExactly
  pub unverified : UnverifiedExactly
  pub supplied : SuppliedComes
  pub opens : CanOpens
  pub accepted : CanIsAccepted
  pub history : HistoryStays
  pub gone : GoneNeverComes
  pub never : NeverComes
  pub aside : OthersAreReadOver

-- ---- files that are taken have a text

contract_well : (t : Text) (advert : Advert) → contract_in t ≡ Ok advert → IsWellFormed advert
contract_well None advert e = cc
contract_well (Some text) advert e = well_formed text advert e

deal_text : (v : Verifier) (t : Text) (advert : Advert) (deal : Deal) → deal_in v advert t ≡ Ok deal
    → (text : List ℕ) × (read_deal v advert text ≡ Ok deal)
deal_text v None advert deal e = cc
deal_text v (Some text) advert deal e = (text, e)

module _ (hash : List ℕ → List ℕ) (keys : Keys) (s : Instance) where
  signed_text : (v : Verifier) (t : Text) (given : List Signed) → signatures_in v hash keys s t ≡ Ok given
      → (text : List ℕ) × (read_signatures v hash keys s text ≡ Ok given)
  signed_text v None given e = cc
  signed_text v (Some text) given e = (text, e)

  -- the text of a chain file
  record ChainText (t : Text) (course : Course) (tip : ℕ) : Type 0 where
    text : List ℕ
    is : t ≡ Some text
    followed : follow_chain hash keys s text ≡ stands course tip

  chain_text : (t : Text) (course : Course) (tip : ℕ) → chain_of hash t keys s ≡ stands course tip → ChainText t course tip
  chain_text None course tip e = cc
  chain_text (Some text) course tip e = record { text = text; is = refl; followed = e }

  -- strings that are told fit
  in_file : (messages : List (List ℕ)) (t : Text) (strings : List Shown) → told_in hash s messages t ≡ shows strings
      → do_fit hash s strings ≡ true
  in_file messages None strings e = cc
  in_file messages (Some text) strings e = behind_fit hash s messages text strings e

  no_strings : (strings : List Shown) → shows [] ≡ shows strings → do_fit hash s strings ≡ true
  no_strings strings e =
      let none : [] ≡ strings = cc in
      subst (λ (xs : List Shown). do_fit hash s xs ≡ true) none refl

  told_fit : (secrets : Option Text) (course : Course) (tip : ℕ) (strings : List Shown)
      → told_behind hash s secrets (stands course tip) ≡ shows strings → do_fit hash s strings ≡ true
  told_fit None course tip strings e = no_strings strings e
  told_fit (Some t) course tip strings e = in_file course.messages t strings e

-- ---- where a deal stands

module _ (t : Theorems) (v : Verifier) (hash : List ℕ → List ℕ) (bytes : HashesBytes hash) where
  stands_so : (advert : Advert) (deal : Deal) → IsDeal v hash advert deal → (text : List ℕ) (course : Course) (tip : ℕ)
      → follow_chain hash (deal_keys deal) (deal_instance advert deal) text ≡ stands course tip
      → (file : List ℕ) (given : List Signed) → read_signatures v hash (deal_keys deal) (deal_instance advert deal) file ≡ Ok given
      → (strings : List Shown) → do_fit hash (deal_instance advert deal) strings ≡ true
      → StandsSo hash advert deal text course tip given strings
  stands_so advert deal is_deal text course tip followed file given signed strings fit =
      let keys = deal_keys deal in
      let s = deal_instance advert deal in
      let whole = whole_deal v hash advert deal is_deal in
      record {
        run = t.runs v hash advert deal text course tip is_deal followed;
        fit = t.fit hash keys s text course tip strings followed fit;
        so = λ which l there. record {
          can = t.can hash keys s given _ course.state tip which l there;
          exactly = λ requirement. t.exactly hash keys s given _ course.state tip which l requirement there;
          unverified = λ slot. t.unverified hash keys s given which slot;
          supplied = λ supplied. t.supplied hash keys s given _ course.state tip which l there supplied;
        };
        opens = λ which l oracle there none accepts.
            t.opens hash keys s text course tip given strings which l oracle whole.are_keys whole.applied
            (signatures_are_shaped v hash keys s file given signed).short fit followed there none accepts;
        accepted = λ which l oracle ledger there is_asked none accepts live at_tip.
            t.accepted v hash advert deal text file course tip given strings which l oracle ledger is_deal followed signed fit there
            is_asked none accepts live at_tip;
        history = λ later top on.
            t.history hash keys s text on.longer on.more course later tip top on.lines followed on.followed;
        gone = λ later top new told which on missing none.
            t.gone hash keys s text on.longer on.more course later tip top new told which on.lines followed on.followed missing none;
        never = λ later top new told which l requirement on told_fits one there is_missing is_never none.
            t.never hash keys s text on.longer on.more course later tip top given new strings told which l requirement on.lines followed
            on.followed fit told_fits one there is_missing is_never none;
        aside = λ c is_aside. t.aside hash keys s text course tip c followed is_aside;
      }

  module _ (texts : List Text) (secrets : Option Text) where
    -- with status 0 it says where the deal stands
    abbrev IsGood : Printed → Type 0
    IsGood printed = printed.status ≡ 0 → IsStateText v hash texts secrets printed.text

    module _ (advert : Advert) (contract : contract_in (text_at texts 0) ≡ Ok advert) (deal : Deal)
        (taken : deal_in v advert (text_at texts 1) ≡ Ok deal)
        (clear : collision hash [] (deal_strings hash (deal_keys deal) (deal_instance advert deal)) ≡ None)
        (unmade : circular hash (deal_keys deal) (deal_instance advert deal) ≡ None) where
      abbrev keys : Keys
      keys = deal_keys deal

      abbrev s : Instance
      s = deal_instance advert deal

      says_so : (course : Course) (tip : ℕ) → chain_of hash (text_at texts 2) keys s ≡ stands course tip → (given : List Signed)
          → signatures_in v hash keys s (text_at texts 3) ≡ Ok given → (strings : List Shown)
          → told_behind hash s secrets (stands course tip) ≡ shows strings
          → IsGood (stood_answer hash keys s course tip given strings)
      says_so course tip followed given signed strings told zero_status =
          let d = deal_text v (text_at texts 1) advert deal taken in
          let g = signed_text hash keys s v (text_at texts 3) given signed in
          let c = chain_text hash keys s (text_at texts 2) course tip followed in
          let is_deal : IsDeal v hash advert deal = record {
            text = d.0;
            hashes = bytes;
            checked = contract_well (text_at texts 0) advert contract;
            read = d.1;
            clear = clear;
            unmade = unmade;
          } in
          record {
            advert = advert;
            contract_is = contract;
            deal = deal;
            deal_is = taken;
            chain = c.text;
            chain_is = c.is;
            course = course;
            tip = tip;
            followed = c.followed;
            given = given;
            given_is = signed;
            strings = strings;
            strings_are = told;
            text_is = refl;
            so = stands_so advert deal is_deal c.text course tip c.followed (g.0) given (g.1) strings
                (told_fit hash keys s secrets course tip strings told);
          }

      -- by the file of secrets, if there is one
      by_strings : (course : Course) (tip : ℕ) → chain_of hash (text_at texts 2) keys s ≡ stands course tip → (given : List Signed)
          → signatures_in v hash keys s (text_at texts 3) ≡ Ok given → (r : SecretsRead) → told_behind hash s secrets (stands course tip) ≡ r
          → IsGood (with_secrets (λ strings. stood_answer hash keys s course tip given strings) r)
      by_strings course tip followed given signed (shows strings) e = says_so course tip followed given signed strings e
      by_strings course tip followed given signed (refused fault) e = λ z. absurd (cc)
      by_strings course tip followed given signed (collided earlier later) e = λ z. absurd (cc)

      -- and by that of signatures
      by_signatures : (course : Course) (tip : ℕ) → chain_of hash (text_at texts 2) keys s ≡ stands course tip
          → (r : Result (List Signed) SignatureFault) → signatures_in v hash keys s (text_at texts 3) ≡ r
          → IsGood (with_signatures (λ given. with_secrets (λ strings. stood_answer hash keys s course tip given strings)
          (told_behind hash s secrets (stands course tip))) r)
      by_signatures course tip followed (Ok given) e =
          by_strings course tip followed given e (told_behind hash s secrets (stands course tip)) refl
      by_signatures course tip followed (Err fault) e = λ z. absurd (cc)

    -- what is answered of the deal is good
    abbrev AllGood : (Keys → Instance → Printed) → Type 0
    AllGood answer =
        (advert : Advert) (deal : Deal) → contract_in (text_at texts 0) ≡ Ok advert → deal_in v advert (text_at texts 1) ≡ Ok deal
        → collision hash [] (deal_strings hash (deal_keys deal) (deal_instance advert deal)) ≡ None
        → circular hash (deal_keys deal) (deal_instance advert deal) ≡ None → IsGood (answer (deal_keys deal) (deal_instance advert deal))

    module _ (answer : Keys → Instance → Printed) (good_one : AllGood answer) where
      by_compiled : (advert : Advert) (deal : Deal) → contract_in (text_at texts 0) ≡ Ok advert → deal_in v advert (text_at texts 1) ≡ Ok deal
          → (pair : Option (List ℕ × List ℕ)) → collision hash [] (deal_strings hash (deal_keys deal) (deal_instance advert deal)) ≡ pair
          → (o : Option (List ℕ)) → circular hash (deal_keys deal) (deal_instance advert deal) ≡ o
          → IsGood (unless_collided pair (unless_circular o (answer (deal_keys deal) (deal_instance advert deal))))
      by_compiled advert deal c d (Some pair) p o e = λ z. absurd (cc)
      by_compiled advert deal c d None p (Some name) e = λ z. absurd (cc)
      by_compiled advert deal c d None p None e = good_one advert deal c d p e

      by_deal : (advert : Advert) → contract_in (text_at texts 0) ≡ Ok advert → (r : Result Deal DealFault)
          → deal_in v advert (text_at texts 1) ≡ r → IsGood (with_deal hash answer advert r)
      by_deal advert c (Err fault) e = λ z. absurd (cc)
      by_deal advert c (Ok deal) e =
          by_compiled advert deal c e (collision hash [] (deal_strings hash (deal_keys deal) (deal_instance advert deal))) refl
          (circular hash (deal_keys deal) (deal_instance advert deal)) refl

      by_contract : (r : Judged Advert) → contract_in (text_at texts 0) ≡ r
          → IsGood (with_advert (λ advert. with_deal hash answer advert (deal_in v advert (text_at texts 1))) r)
      by_contract (Err why) e = λ z. absurd (cc)
      by_contract (Ok advert) e = by_deal advert e (deal_in v advert (text_at texts 1)) refl

      all_good : IsGood (of_deal v hash answer texts)
      all_good = by_contract (contract_in (text_at texts 0)) refl

  module _ (texts : List Text) where
    by_course : (advert : Advert) (deal : Deal) → contract_in (text_at texts 0) ≡ Ok advert → deal_in v advert (text_at texts 1) ≡ Ok deal
        → collision hash [] (deal_strings hash (deal_keys deal) (deal_instance advert deal)) ≡ None
        → circular hash (deal_keys deal) (deal_instance advert deal) ≡ None
        → (f : Followed) → chain_of hash (text_at texts 2) (deal_keys deal) (deal_instance advert deal) ≡ f
        → IsGood texts None (with_course (course_answer v hash (deal_keys deal) (deal_instance advert deal) (text_at texts 3)) f)
    by_course advert deal c d clear unmade (chain.stands course tip) e =
        by_signatures texts None advert c deal d clear unmade course tip e
        (signatures_in v hash (deal_keys deal) (deal_instance advert deal) (text_at texts 3)) refl
    by_course advert deal c d clear unmade (chain.refused fault) e = λ z. absurd (cc)
    by_course advert deal c d clear unmade (chain.collided earlier later) e = λ z. absurd (cc)

    by_course_with : (secrets : Text) (advert : Advert) (deal : Deal) → contract_in (text_at texts 0) ≡ Ok advert
        → deal_in v advert (text_at texts 1) ≡ Ok deal
        → collision hash [] (deal_strings hash (deal_keys deal) (deal_instance advert deal)) ≡ None
        → circular hash (deal_keys deal) (deal_instance advert deal) ≡ None
        → (f : Followed) → chain_of hash (text_at texts 2) (deal_keys deal) (deal_instance advert deal) ≡ f
        → IsGood texts (Some secrets)
        (with_course (course_with_answer v hash (deal_keys deal) (deal_instance advert deal) (text_at texts 3) secrets) f)
    by_course_with secrets advert deal c d clear unmade (chain.stands course tip) e =
        by_signatures texts (Some secrets) advert c deal d clear unmade course tip e
        (signatures_in v hash (deal_keys deal) (deal_instance advert deal) (text_at texts 3)) refl
    by_course_with secrets advert deal c d clear unmade (chain.refused fault) e = λ z. absurd (cc)
    by_course_with secrets advert deal c d clear unmade (chain.collided earlier later) e = λ z. absurd (cc)

pub state_answers : Theorems → StateAnswers
state_answers t v hash (commands.on_deal command) texts bytes = tt
state_answers t v hash (commands.show contract deal) texts bytes = tt
state_answers t v hash (commands.state contract deal chain signatures) texts bytes =
    all_good t v hash bytes texts None (state_answer v hash (text_at texts 2) (text_at texts 3))
    (λ advert deal c d clear unmade.
    by_course t v hash bytes texts advert deal c d clear unmade
    (chain_of hash (text_at texts 2) (deal_keys deal) (deal_instance advert deal)) refl)
state_answers t v hash (commands.state_with contract deal chain signatures secrets) texts bytes =
    all_good t v hash bytes texts (Some (text_at texts 4)) (state_with_answer v hash (text_at texts 2) (text_at texts 3) (text_at texts 4))
    (λ advert deal c d clear unmade.
    by_course_with t v hash bytes texts (text_at texts 4) advert deal c d clear unmade
    (chain_of hash (text_at texts 2) (deal_keys deal) (deal_instance advert deal)) refl)
