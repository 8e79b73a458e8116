-- The text of `state` is a file of secrets that gives what is known.
use Rattle.std.proofs.Common.{◌≡◌, ℕ, List, [], ◌∷◌, true, Option, Some, None, Ok, refl, ap, subst, ◌∙◌}
use Rattle.std.specs.List.{list_all, AllByRecursion}
use Rattle.std.proofs.lemmas.Bool.{and_from}
use Rattle.spec_terms.specs.Advert.{Advert}
use Rattle.spec_terms.specs.Faults.{IsWellFormed}
use Rattle.spec_terms.specs.Precondition.{secrets as secrets_of, names_of}
use Rattle.spec_terms.specs.Readable.{is_name}
use Rattle.spec_compiler.specs.Keyed.Instance.{Instance}
use Rattle.spec_tool.specs.Answers.{contract_in}
use Rattle.spec_tool.specs.Reads.{Text, text_at}
use Rattle.spec_deal.specs.declared.entry.Shown.{Shown}
use Rattle.spec_deal.specs.Needed.{needed_secrets}
use Rattle.spec_deal.specs.SecretFile.{shows}
use Rattle.spec_deal.specs.Setting.{deal_keys, deal_instance}
use Rattle.spec_deal.specs.Verifier.{Verifier}
use Rattle.spec_chain.specs.Chain.{Course, stands}
use Rattle.spec_chain.specs.Commands as commands
use Rattle.spec_chain.specs.Commands.{ChainCommand}
use Rattle.spec_chain.specs.Outstanding.{known}
use Rattle.theory_calculus.proofs.Members.{all_in}
use Rattle.theory_calculus.proofs.Names.{all_among, different_names}
use Rattle.theory_run.proofs.Accepted.Tested.{secrets_different}
use Rattle.theory_deal.specs.Finished.{do_fit}
use Rattle.theory_deal.specs.SecretLines.{SecretFilesAreRead}
use Rattle.theory_deal.proofs.ReadSecrets.{behind_fit}
use Rattle.theory_deal.proofs.WellFormed.{well_formed}
use Rattle.theory_play_text.proofs.Named.{IsOwned, secrets_named, has_names}
use Rattle.theory_state.specs.Causes.{told_behind}
use Rattle.theory_state.specs.StateAnswers.{IsStateText, StateAnswers}
use Rattle.theory_state_text.specs.Secrets.{spoken, IsFileOfSecrets, TellsSecrets, StateTellsSecrets}
use Rattle.theory_state_text.proofs.Known.{StringFine, file_fine, course_named, known_fine}
use Rattle.theory_state_text.proofs.Lined.{spoken_of}
use Rattle.theory_state_text.proofs.Named.{Each}
use Rattle.theory_state_text.proofs.ReadBack.{file_gives}
use Rattle.theory_state_text.proofs.StateLines.{state_lined}

-- ---- names

all_named : (xs : List (List ℕ × List ℕ)) → AllByRecursion IsOwned xs → list_all is_name (names_of xs) ≡ true
all_named [] h = refl
all_named (x ∷ xs) h = and_from _ _ (h.0).0 (all_named xs h.1)

-- ---- the file of secrets that was told, if there is one

record ToldFine (hash : List ℕ → List ℕ) (s : Instance) (strings : List Shown) : Type 0 where
  fit : do_fit hash s strings ≡ true
  fine : Each (StringFine s) strings

module _ (t : SecretFilesAreRead) (hash : List ℕ → List ℕ) (s : Instance) where
  told_fine : (secrets : Option Text) (course : Course) (tip : ℕ) (strings : List Shown)
      → told_behind hash s secrets (stands course tip) ≡ shows strings → ToldFine hash s strings
  told_fine None course tip strings e =
      let none : [] ≡ strings = cc in subst (ToldFine hash s) none (record { fit = refl; fine = λ x i. absurd i })
  told_fine (Some None) course tip strings e = cc
  told_fine (Some (Some text)) course tip strings e =
      record { fit = behind_fit hash s course.messages text strings e; fine = file_fine hash s t course.messages text strings e }

-- ---- where a deal stands

contract_well : (text : Text) (advert : Advert) → contract_in text ≡ Ok advert → IsWellFormed advert
contract_well None advert e = cc
contract_well (Some text) advert e = well_formed text advert e

module _ (t : SecretFilesAreRead) (v : Verifier) (hash : List ℕ → List ℕ) (texts : List Text) (secrets : Option Text) (text : List ℕ) where
  is_file : (h : IsStateText v hash texts secrets text)
      → IsFileOfSecrets hash (deal_instance h.advert h.deal) (known h.course.state h.strings) text
  is_file h messages other same =
      let keys = deal_keys h.deal in
      let s : Instance = deal_instance h.advert h.deal in
      let well = contract_well (text_at texts 0) h.advert h.contract_is in
      let told = told_fine t hash s secrets h.course h.tip h.strings h.strings_are in
      let names = needed_secrets h.advert in
      let named = all_named (secrets_of h.advert.pre) (secrets_named h.advert.pre (has_names h.advert well).pre) in
      let fine = known_fine hash keys s well h.chain h.course h.tip h.followed h.strings told.fit told.fine in
      let lined = state_lined hash keys s well h.course h.tip h.given h.strings
      (course_named hash keys s well h.chain h.course h.tip h.followed) fine (λ x i. all_in is_name names x named i) in
      file_gives hash s (known h.course.state h.strings) fine (λ x i. all_among is_name names x named i) messages other
      (same ∙ ap spoken h.text_is ∙ spoken_of _ _ lined) (secrets_different h.advert.pre (different_names h.advert well))

  tells : IsStateText v hash texts secrets text → TellsSecrets v hash texts secrets text
  tells h = record { stands = h; tells = is_file h }

pub state_tells_secrets : StateAnswers → SecretFilesAreRead → StateTellsSecrets
state_tells_secrets a t v hash (commands.on_deal command) texts bytes = tt
state_tells_secrets a t v hash (commands.show contract deal) texts bytes = tt
state_tells_secrets a t v hash (commands.state contract deal chain signatures) texts bytes =
    λ e. tells t v hash texts None _ (a v hash (commands.state contract deal chain signatures) texts bytes e)
state_tells_secrets a t v hash (commands.state_with contract deal chain signatures secrets) texts bytes =
    λ e. tells t v hash texts (Some (text_at texts 4)) _ (a v hash (commands.state_with contract deal chain signatures secrets) texts bytes e)
