-- What a call promises, by the theorems on deals.
use Rattle.std.proofs.Common.{◌≡◌, ℕ, Bool, true, false, ◌==◌, cond, List, ◌∷◌, length, Option, Some, None, refl, sym, subst, ◌∙◌}
use Rattle.std.proofs.Common.{inl, inr, arith}
use Rattle.std.specs.Prelude.{Ok, option_map}
use Rattle.std.proofs.lemmas.Bool.{false≢true}
use Rattle.spec_data.specs.Hashes.{HashesBytes}
use Rattle.spec_data.specs.Lists.{has_number}
use Rattle.spec_terms.specs.Advert.{Advert}
use Rattle.spec_compiler.specs.Keyed.Statements.{ScriptTheorem}
use Rattle.spec_text.specs.Refusals.{contract_of}
use Rattle.spec_tool.specs.Answers.{ended}
use Rattle.spec_tool.specs.Commands.{Printed}
use Rattle.spec_tool.specs.Reads.{Read, Text, texts_read}
use Rattle.spec_deal.specs.declared.deal.Deal.{Deal}
use Rattle.spec_deal.specs.DealFile.{read_deal}
use Rattle.spec_deal.specs.Setting.{key_at, own_scripts, deal_keys, deal_instance}
use Rattle.spec_deal.specs.Verifier.{secp256k1}
use Rattle.spec_chain.specs.Answers.{chain_text_answer, chain_read_answer, chain_answer}
use Rattle.spec_chain.specs.Commands as chains
use Rattle.spec_chain.specs.Commands.{ChainCommand, on_deal, chain_files}
use Rattle.theory_deal.specs.Asked.{DealsAsk}
use Rattle.theory_deal.specs.Causes.{DealCausesTheorem}
use Rattle.theory_deal.specs.Ecdsa.{IsEcdsa}
use Rattle.theory_deal.specs.Files.{DealsGiveAll, DealsAreSized, KeysArePoints, ScriptsArePayable, SignaturesVerify, KeysAreGiven, WitnessesVerify}
use Rattle.theory_deal.specs.FinishAnswers.{FinishAnswers}
use Rattle.theory_deal.specs.Finished.{FalseWithoutOne}
use Rattle.theory_deal.specs.ForSigners.{FilesForSigners}
use Rattle.theory_deal.specs.NothingTwice.{NothingTwice}
use Rattle.theory_deal.specs.Plan.{PlanOfRuns}
use Rattle.theory_deal.specs.Signatures.{MissingAndHeld, MayStart}
use Rattle.theory_deal.specs.Transactions.{DealsHash}
use Rattle.theory_deal.specs.Whole.{FinishesExactly, FinishTheorem}
use Rattle.theory_deal.proofs.WellFormed.{well_formed}
use Rattle.theory_deal_text.specs.Statements.{DealTextsAreRead}
use Rattle.theory_state.specs.Causes.{chain_statuses, ChainCausesTheorem}
use Rattle.theory_state.specs.StateAnswers.{StateAnswers}
use Rattle.theory_state_text.specs.Secrets.{StateTellsSecrets}
use Rattle.tool_shell.specs.Around.{Around}
use Rattle.tool_shell.specs.Answered.{GivesUp}
use Rattle.tool_shell.proofs.Ended.{ended_with}
use Rattle.tool_shell.proofs.Seen.{some_command}
use Rattle.bitml_deal.specs.Dealt.{Answers, AnswersOrGivesUp, HasCausesOf, CausedByTexts, Caused, Keeps, KeepsTaken}
use Rattle.bitml_deal.specs.Dealt.{KeepsTexts, SignersTexts, IfFinishedBy, IfFinished, IfStandsRead, IfTellsRead, IfSaysBy, IfSays, ReadsFiles, FollowsChains, ForeseesChains, KnowsWallets, Headline}

-- the theorems that are cited
pub record Theorems : Type 0 where
  pub deal_causes : DealCausesTheorem
  pub causes : ChainCausesTheorem
  pub gives_all : DealsGiveAll
  pub sized : DealsAreSized
  pub points : KeysArePoints
  pub payable : ScriptsArePayable
  pub given : KeysAreGiven
  pub witnesses : WitnessesVerify
  pub verified : SignaturesVerify
  pub planned : PlanOfRuns
  pub asks : DealsAsk
  pub hashes : DealsHash
  pub signers : FilesForSigners
  pub once : NothingTwice
  pub verifier : IsEcdsa
  pub files : ReadsFiles
  pub lists : MissingAndHeld
  pub starts : MayStart
  pub exactly : FinishesExactly
  pub finished : FinishTheorem
  pub answers : FinishAnswers
  pub stands : StateAnswers
  pub tells : StateTellsSecrets
  pub says : DealTextsAreRead
  pub follows : FollowsChains
  pub foresees : ForeseesChains
  pub wallets : KnowsWallets
  pub scripts : ScriptTheorem
  pub no_other_way : FalseWithoutOne

-- ---- the status of an answer

-- the statuses of answers
abbrev known : List ℕ
known = 2 ∷ 3 ∷ chain_statuses

-- a status that is none of these isn't answered
never : (status n : ℕ) → has_number n known ≡ false → has_number status known ≡ true → status ≡ n → ⊥
never status n none there e = false≢true (sym none ∙ subst (λ (m : ℕ). has_number m known ≡ true) e there)

unwritten_by : (printed : Printed) (went : Bool) → has_number printed.status known ≡ true → 4 ≡ ended printed went → went ≡ false
unwritten_by printed true there e = absurd (never printed.status 4 refl there (sym e))
unwritten_by printed false there e = refl

five_by : (printed : Printed) (went : Bool) → has_number printed.status known ≡ true → 5 ≡ ended printed went → ⊥
five_by printed went there e = never printed.status 5 refl there (ended_with printed went 5 (λ f. absurd (cc)) e)

or_known : (n : ℕ) → has_number n chain_statuses ≡ true → has_number n known ≡ true
or_known n h = grind (arith, h)

module _ (t : Theorems) (hash : List ℕ → List ℕ) (bytes : HashesBytes hash) where
  read_known : (command : ChainCommand) (o : Option (List Text)) → has_number (chain_read_answer secp256k1 hash command o).status known ≡ true
  read_known command None = refl
  read_known command (Some texts) = or_known (chain_text_answer secp256k1 hash command texts).status (t.causes.others secp256k1 hash command texts)

  answer_known : (command : Option ChainCommand) (reads : List Read) → has_number (chain_answer secp256k1 hash command reads).status known ≡ true
  answer_known None reads = refl
  answer_known (Some command) reads = read_known command (texts_read reads)

  -- ---- causes

  caused_texts : (command : ChainCommand) (texts : List Text)
      → HasCausesOf hash command texts (chain_text_answer secp256k1 hash command texts).status
  caused_texts (on_deal command) texts = record {
    contract_refused = t.deal_causes.contract_refused secp256k1 hash command texts;
    deal_refused = t.deal_causes.deal_refused secp256k1 hash command texts;
    in_order = t.deal_causes.in_order secp256k1 hash command texts;
  }
  caused_texts (chains.show contract deal) texts = t.causes.in_order secp256k1 hash (chains.show contract deal) texts
  caused_texts (chains.state contract deal chain signatures) texts =
      t.causes.in_order secp256k1 hash (chains.state contract deal chain signatures) texts
  caused_texts (chains.state_with contract deal chain signatures secrets) texts =
      t.causes.in_order secp256k1 hash (chains.state_with contract deal chain signatures secrets) texts

  caused_by : (command : ChainCommand) (o : Option (List Text))
      → CausedByTexts hash command o (chain_read_answer secp256k1 hash command o)
  caused_by command None = (refl, refl)
  caused_by command (Some texts) = caused_texts command texts

  caused : (command : Option ChainCommand) (reads : List Read) → Caused hash command reads (chain_answer secp256k1 hash command reads)
  caused None reads = refl
  caused (Some command) reads = caused_by command (texts_read reads)

  -- ---- a deal that is taken

  keeps : (contract_text deal_text : List ℕ) (advert : Advert) (deal : Deal) → contract_of contract_text ≡ Ok advert
      → read_deal secp256k1 advert deal_text ≡ Ok deal → Keeps hash advert deal
  keeps contract_text deal_text advert deal c d =
      let keys = deal_keys deal in
      let s = deal_instance advert deal in
      let sized = t.sized secp256k1 hash advert deal_text deal d in
      let applied = sized.applied (well_formed contract_text advert c) in
      let there = t.given secp256k1 hash advert deal_text deal (well_formed contract_text advert c) d in
      record {
        gives_all = t.gives_all secp256k1 advert deal_text deal d;
        sized = sized;
        points = t.points secp256k1 advert deal_text deal d;
        scripts = t.payable secp256k1 advert deal_text deal d;
        given = there;
        verified = λ file given read. t.verified secp256k1 hash keys s file given (inr there) read;
        witnesses = λ file given read g among whole. t.witnesses secp256k1 hash keys s file given read g among whole;
        planned = t.planned hash deal.network keys s;
        asks = t.asks hash keys s;
        hashes = t.hashes hash (key_at deal.keys) (own_scripts deal) s;
        lists = λ given slot. t.lists hash keys s given slot;
        starts = λ given. t.starts hash keys s given;
        finishes = λ file given strings which l read shown there. record {
          exactly = t.exactly hash keys s given strings l;
          finished = λ none.
              t.finished secp256k1 hash advert deal_text deal file given strings which l (well_formed contract_text advert c) d read shown there none;
        };
        opens = λ valid position contract stack there short. t.scripts hash keys valid s position contract stack sized.are_keys
            (record { checked = applied.checked; committed = applied.committed; is_position = there }) short;
        no_other_way = λ valid. t.no_other_way hash keys valid;
      }

  keeps_taken : (texts : List Text) → KeepsTaken hash texts
  keeps_taken texts contract_text deal_text advert deal first second c d =
      (keeps contract_text deal_text advert deal c d, t.once secp256k1 advert deal_text deal d)

  keeps_texts : (o : Option (List Text)) → KeepsTexts hash o
  keeps_texts None = tt
  keeps_texts (Some texts) = keeps_taken texts

  -- ---- a transaction that is finished

  finished_texts : (command : ChainCommand) (texts : List Text)
      → IfFinishedBy hash command texts (chain_text_answer secp256k1 hash command texts)
  finished_texts (on_deal command) texts = λ which e zero_status. t.answers secp256k1 hash command texts which bytes e zero_status
  finished_texts (chains.show contract deal) texts = tt
  finished_texts (chains.state contract deal chain signatures) texts = tt
  finished_texts (chains.state_with contract deal chain signatures secrets) texts = tt

  finished_by : (command : ChainCommand) (o : Option (List Text))
      → IfFinished hash (Some command) o (chain_read_answer secp256k1 hash command o)
  finished_by command None = tt
  finished_by command (Some texts) = finished_texts command texts

  finished : (command : Option ChainCommand) (reads : List Read)
      → IfFinished hash command (texts_read reads) (chain_answer secp256k1 hash command reads)
  finished None reads = tt
  finished (Some command) reads = finished_by command (texts_read reads)

  -- ---- where a deal stands

  stands_by : (command : ChainCommand) (o : Option (List Text))
      → IfStandsRead hash (Some command) o (chain_read_answer secp256k1 hash command o)
  stands_by command None = tt
  stands_by command (Some texts) = t.stands secp256k1 hash command texts bytes

  stands : (command : Option ChainCommand) (reads : List Read)
      → IfStandsRead hash command (texts_read reads) (chain_answer secp256k1 hash command reads)
  stands None reads = tt
  stands (Some command) reads = stands_by command (texts_read reads)

  tells_by : (command : ChainCommand) (o : Option (List Text))
      → IfTellsRead hash (Some command) o (chain_read_answer secp256k1 hash command o)
  tells_by command None = tt
  tells_by command (Some texts) = t.tells secp256k1 hash command texts bytes

  tells : (command : Option ChainCommand) (reads : List Read)
      → IfTellsRead hash command (texts_read reads) (chain_answer secp256k1 hash command reads)
  tells None reads = tt
  tells (Some command) reads = tells_by command (texts_read reads)

  -- ---- what a text says

  says_texts : (command : ChainCommand) (texts : List Text) → IfSaysBy hash command texts (chain_text_answer secp256k1 hash command texts)
  says_texts (on_deal command) texts = t.says secp256k1 hash bytes command texts
  says_texts (chains.show contract deal) texts = tt
  says_texts (chains.state contract deal chain signatures) texts = tt
  says_texts (chains.state_with contract deal chain signatures secrets) texts = tt

  says_by : (command : ChainCommand) (o : Option (List Text)) → IfSays hash (Some command) o (chain_read_answer secp256k1 hash command o)
  says_by command None = tt
  says_by command (Some texts) = says_texts command texts

  says : (command : Option ChainCommand) (reads : List Read)
      → IfSays hash command (texts_read reads) (chain_answer secp256k1 hash command reads)
  says None reads = tt
  says (Some command) reads = says_by command (texts_read reads)

  -- ---- what signers are given

  signers_taken : (texts : List Text) → SignersTexts hash (Some texts)
  signers_taken texts advert deal contract_file deal_file taken =
      t.signers secp256k1 hash texts advert deal contract_file deal_file taken

  signers_texts : (o : Option (List Text)) → SignersTexts hash o
  signers_texts None = tt
  signers_texts (Some texts) = signers_taken texts

  -- ---- the whole

  unread_is : (command : Option ChainCommand) (reads : List Read) → (chain_answer secp256k1 hash command reads).status ≡ 3 → texts_read reads ≡ None
  unread_is None reads e = absurd (cc)
  unread_is (Some c) reads e = (t.causes.unread secp256k1 hash c reads).0 e

  module _ (command : Option ChainCommand) (before now : Around) where
    of_answer : (status : ℕ) → Answers hash command before now status → Headline hash command before now status
    of_answer status a =
        let printed = chain_answer secp256k1 hash command a.reads in
        record {
          serves = inl (record {
            answers = a;
            caused = caused command a.reads;
            keeps = keeps_texts (texts_read a.reads);
            finished = finished command a.reads;
            stands = stands command a.reads;
            tells = tells command a.reads;
            says = says command a.reads;
            signers = signers_texts (texts_read a.reads);
            verifier = t.verifier;
            files = t.files;
            follows = t.follows;
            foresees = t.foresees;
            wallets = t.wallets;
          });
          usage = λ e. (t.causes.usage secp256k1 hash command a.reads).0 (ended_with printed a.ends.went 2 (λ f. absurd (cc)) (sym e ∙ a.ends.status_is));
          unread = λ e.
              a.unread (unread_is command a.reads (ended_with printed a.ends.went 3 (λ f. absurd (cc)) (sym e ∙ a.ends.status_is)));
          unwritten = λ e.
              a.ends.unwritten (unwritten_by printed a.ends.went (answer_known command a.reads) (sym e ∙ a.ends.status_is));
          memory = λ e. absurd (five_by printed a.ends.went (answer_known command a.reads) (sym e ∙ a.ends.status_is));
        }

    of_none : (status : ℕ) → GivesUp (option_map chain_files command) before now status → Headline hash command before now status
    of_none status g = record {
      serves = inr g;
      usage = λ e. absurd (let f = g.status_is in cc);
      unread = λ e. absurd (let f = g.status_is in cc);
      unwritten = λ e. absurd (let f = g.status_is in cc);
      memory = λ e. some_command chain_files command g.some;
    }

    pub headline_of : (status : ℕ) → AnswersOrGivesUp hash command before now status → Headline hash command before now status
    headline_of status (inl a) = of_answer status a
    headline_of status (inr g) = of_none status g
