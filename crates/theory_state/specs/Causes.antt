-- What is claimed of the statuses of the program for deals, with those of chains.
use Rattle.std.specs.Prelude.{◌≡◌, ℕ, List, [], ◌∷◌, Bool, true, false, Option, Some, None, ◌↔◌, is_err}
use Rattle.spec_data.specs.Lists.{has_number}
use Rattle.spec_compiler.specs.Keyed.Keys.{Keys}
use Rattle.spec_compiler.specs.Keyed.Instance.{Instance}
use Rattle.spec_tool.specs.Answers.{contract_in}
use Rattle.spec_tool.specs.Reads.{Read, Text, text_at, texts_read}
use Rattle.spec_deal.specs.Answers.{signatures_in}
use Rattle.spec_deal.specs.SecretFile.{SecretsRead, shows}
use Rattle.spec_deal.specs.Verifier.{Verifier}
use Rattle.spec_chain.specs.Answers.{chain_in, told_in, chain_text_answer, chain_answer}
use Rattle.spec_chain.specs.Chain.{Followed, stands, refused, collided, follow_reading}
use Rattle.spec_chain.specs.Commands as commands
use Rattle.spec_chain.specs.Commands.{ChainCommand}
use Rattle.theory_deal.specs.Causes.{Cause, deal_statuses, is_unread, if_taken, do_collide, is_circular, are_bad, have_collided, first_status}
use Rattle.theory_deal.specs.Causes.{causes as deal_causes}

-- the statuses that the texts of files are answered with
abbrev pub chain_statuses : List ℕ
chain_statuses = 17 ∷ deal_statuses

-- ---- a chain

-- whether its file is refused, and whether its strings collide
abbrev pub is_refused : Followed → Bool
is_refused (stands course tip) = false
is_refused (refused fault) = true
is_refused (collided earlier later) = false

abbrev pub is_collided : Followed → Bool
is_collided (stands course tip) = false
is_collided (refused fault) = false
is_collided (collided earlier later) = true

abbrev pub chain_of : (List ℕ → List ℕ) → Text → Keys → Instance → Followed
chain_of hash chain keys s = follow_reading hash keys s (chain_in chain)

-- the secrets that are read behind a chain that is followed to its tip, if there is a file of them
abbrev pub told_behind : (List ℕ → List ℕ) → Instance → Option Text → Followed → SecretsRead
told_behind hash s None followed = shows []
told_behind hash s (Some text) (stands course tip) = told_in hash s course.messages text
told_behind hash s (Some text) (refused fault) = shows []
told_behind hash s (Some text) (collided earlier later) = shows []

-- ---- all causes in their order

-- of a deal that is taken: a chain file that is refused, whose strings collide, a bad file of signatures, a bad file of secrets, whose
-- strings collide
abbrev pub state_causes : Verifier → (List ℕ → List ℕ) → Text → Text → Option Text → ((Keys → Instance → Bool) → Bool) → List Cause
state_causes v hash chain signatures secrets so =
    (so (λ keys s. is_refused (chain_of hash chain keys s)), 17)
    ∷ (so (λ keys s. is_collided (chain_of hash chain keys s)), 8)
    ∷ (so (λ keys s. is_err (signatures_in v hash keys s signatures)), 14)
    ∷ (so (λ keys s. are_bad (told_behind hash s secrets (chain_of hash chain keys s))), 15)
    ∷ (so (λ keys s. have_collided (told_behind hash s secrets (chain_of hash chain keys s))), 8)
    ∷ []

-- of a contract and a deal: one is refused, strings of the compiled deal collide, it makes one of its own deposits or pays to one of its
-- positions; and those of what is done with it
abbrev pub causes_of_deal : Verifier → (List ℕ → List ℕ) → List Text → List Cause → List Cause
causes_of_deal v hash texts later =
    (is_err (contract_in (text_at texts 0)), 1)
    ∷ (is_unread v (contract_in (text_at texts 0)) (text_at texts 1), 13)
    ∷ (if_taken v (do_collide hash) (contract_in (text_at texts 0)) (text_at texts 1), 8)
    ∷ (if_taken v (is_circular hash) (contract_in (text_at texts 0)) (text_at texts 1), 13)
    ∷ later

abbrev pub causes_on_chain : Verifier → (List ℕ → List ℕ) → List Text → Option Text → List Cause
causes_on_chain v hash texts secrets =
    causes_of_deal v hash texts
    (state_causes v hash (text_at texts 2) (text_at texts 3) secrets
    (λ test. if_taken v test (contract_in (text_at texts 0)) (text_at texts 1)))

-- of a command
abbrev pub causes : Verifier → (List ℕ → List ℕ) → ChainCommand → List Text → List Cause
causes v hash (commands.on_deal command) texts = deal_causes v hash command texts
causes v hash (commands.show contract deal) texts = causes_of_deal v hash texts []
causes v hash (commands.state contract deal chain signatures) texts = causes_on_chain v hash texts None
causes v hash (commands.state_with contract deal chain signatures secrets) texts = causes_on_chain v hash texts (Some (text_at texts 4))

pub record ChainCausesTheorem : Type 0 where
  -- 2 is answered exactly where the words are no command
  pub usage : (v : Verifier) (hash : List ℕ → List ℕ) (command : Option ChainCommand) (reads : List Read)
      → ((chain_answer v hash command reads).status ≡ 2) ↔ (command ≡ None)
  -- 3 is answered exactly where a read failed
  pub unread : (v : Verifier) (hash : List ℕ → List ℕ) (command : ChainCommand) (reads : List Read)
      → ((chain_answer v hash (Some command) reads).status ≡ 3) ↔ (texts_read reads ≡ None)
  -- the status is that of the first cause in their order
  pub in_order : (v : Verifier) (hash : List ℕ → List ℕ) (command : ChainCommand) (texts : List Text)
      → (chain_text_answer v hash command texts).status ≡ first_status (causes v hash command texts)
  -- no other is answered to the texts
  pub others : (v : Verifier) (hash : List ℕ → List ℕ) (command : ChainCommand) (texts : List Text)
      → has_number (chain_text_answer v hash command texts).status chain_statuses ≡ true
