-- Each status of the program for deals on a chain comes by its cause.
use Rattle.std.proofs.Common.{◌≡◌, ℕ, ◌↔◌, Bool, true, false, List, [], ◌∷◌, Option, Some, None, refl, sym, subst, cond, arith}
use Rattle.std.specs.Prelude.{◌==◌}
use Rattle.std.specs.List.{list_all}
use Rattle.std.proofs.lemmas.Bool.{false≢true, and_parts, or_right}
use Rattle.spec_data.specs.Lists.{has_number}
use Rattle.spec_tool.specs.Reads.{Read, Text, texts_read}
use Rattle.spec_deal.specs.Verifier.{Verifier}
use Rattle.spec_chain.specs.Answers.{chain_text_answer, chain_read_answer, chain_answer}
use Rattle.spec_chain.specs.Commands as commands
use Rattle.spec_chain.specs.Commands.{ChainCommand}
use Rattle.theory_deal.specs.Causes.{Cause, DealCausesTheorem, deal_statuses, first_status}
use Rattle.theory_state.specs.Causes.{chain_statuses, causes, ChainCausesTheorem}
use Rattle.theory_state.proofs.InOrder.{in_order}

-- the status of the first cause is one of these, if each is
among : (statuses : List ℕ) (cs : List Cause) → has_number 0 statuses ≡ true → list_all (λ (c : Cause). has_number (c.1) statuses) cs ≡ true
    → has_number (first_status cs) statuses ≡ true
among statuses [] zeroth all = zeroth
among statuses (c ∷ cs) zeroth all =
    let parts = and_parts (has_number (c.1) statuses) (list_all (λ (x : Cause). has_number (x.1) statuses) cs) all in
    by_test (c.0) (parts.0) (among statuses cs zeroth (parts.1))
  where
    by_test : (b : Bool) → has_number (c.1) statuses ≡ true → has_number (first_status cs) statuses ≡ true
        → has_number (cond b (c.1) (first_status cs)) statuses ≡ true
    by_test true here later = here
    by_test false here later = later

module _ (t : DealCausesTheorem) (v : Verifier) (hash : List ℕ → List ℕ) where
  abbrev status_of : ChainCommand → List Text → ℕ
  status_of command texts = (chain_text_answer v hash command texts).status

  others : (command : ChainCommand) (texts : List Text) → has_number (status_of command texts) chain_statuses ≡ true
  others (commands.on_deal command) texts =
      or_right (17 == status_of (commands.on_deal command) texts) (has_number (status_of (commands.on_deal command) texts) deal_statuses)
      (t.others v hash command texts)
  others (commands.show contract deal) texts =
      let command = commands.show contract deal in
      subst (λ (n : ℕ). has_number n chain_statuses ≡ true) (sym (in_order t v hash command texts))
      (among chain_statuses (causes v hash command texts) refl refl)
  others (commands.state contract deal chain signatures) texts =
      let command = commands.state contract deal chain signatures in
      subst (λ (n : ℕ). has_number n chain_statuses ≡ true) (sym (in_order t v hash command texts))
      (among chain_statuses (causes v hash command texts) refl refl)
  others (commands.state_with contract deal chain signatures secrets) texts =
      let command = commands.state_with contract deal chain signatures secrets in
      subst (λ (n : ℕ). has_number n chain_statuses ≡ true) (sym (in_order t v hash command texts))
      (among chain_statuses (causes v hash command texts) refl refl)

  -- ---- reads and words

  unread_by : (command : ChainCommand) (o : Option (List Text)) → ((chain_read_answer v hash command o).status ≡ 3) ↔ (o ≡ None)
  unread_by command None = (λ e. refl, λ e. refl)
  unread_by command (Some texts) = (
    λ e. absurd (false≢true (subst (λ (n : ℕ). has_number n chain_statuses ≡ true) e (others command texts))),
    λ e. cc,
  )

  no_usage : (command : ChainCommand) (o : Option (List Text)) → (chain_read_answer v hash command o).status ≡ 2 → ⊥
  no_usage command None e = absurd (omega (arith, e))
  no_usage command (Some texts) e = false≢true (subst (λ (n : ℕ). has_number n chain_statuses ≡ true) e (others command texts))

  by_command : (command : Option ChainCommand) (reads : List Read) → ((chain_answer v hash command reads).status ≡ 2) ↔ (command ≡ None)
  by_command None reads = (λ e. refl, λ e. refl)
  by_command (Some command) reads = (λ e. absurd (no_usage command (texts_read reads) e), λ e. cc)

pub chain_causes : DealCausesTheorem → ChainCausesTheorem
chain_causes t = record {
  usage = λ v hash command reads. by_command t v hash command reads;
  unread = λ v hash command reads. unread_by t v hash command (texts_read reads);
  in_order = λ v hash command texts. in_order t v hash command texts;
  others = λ v hash command texts. others t v hash command texts;
}
