-- A contract that isn't compiled takes no honest party's deposit: only compiled ones have its leave.
use Rattle.std.proofs.Common.{◌≡◌, ℕ, List, Bool, true, false, [], Option, Some, None, refl, sym, ap, ◌∙◌, inl, inr}
use Rattle.std.specs.Prelude.{◌⊎◌, ◌&&◌}
use Rattle.std.proofs.lemmas.Bool.{or_cases}
use Rattle.spec_bitcoin.specs.declared.tx.Tx.{Tx}
use Rattle.spec_compiler.specs.Instance.{Instance}
use Rattle.spec_run.specs.declared.event.Event.{Event}
use Rattle.spec_run.specs.declared.outcome.Outcome.{Outcome}
use Rattle.spec_run.specs.declared.outcome.Outcome.TheVariants as outcomes
use Rattle.spec_run.specs.declared.outcome.Record.{Record}
use Rattle.spec_run.specs.Setup.{Setup}
use Rattle.spec_run.specs.World.{World}
use Rattle.spec_run.specs.Ledger.{Kind, Begins, Takes, Moves, is_initial, kind_of, position_path, position_branch}
use Rattle.spec_run.specs.Compiled.{compiled_instance}
use Rattle.spec_run.specs.HonestDeposits.{gives, is_init, is_endorse, was_done, takes_persistent, takes_put, is_of_path, by_contract}
use Rattle.spec_run.specs.HonestDeposits.{by_transaction, has_leave}
use Rattle.spec_run.specs.Translation.{course, opening_configuration}
use Rattle.spec_run.specs.Event.{opening_world}
use Rattle.spec_run.specs.Statements.{spends_with_leave}
use Rattle.theory_run.proofs.Following.{holds-map}
use Rattle.theory_run.proofs.Honest.Throughout.{honest_deposits}
use Rattle.theory_offers.specs.BoundDeposits.{contract_of_kind, IsOfAnother, bound_deposits, BoundDepositsTheorem}

first_of : (a b c : Bool) → (a && b && c) ≡ true → a ≡ true
first_of true b c h = refl
first_of false true true h = cc
first_of false true false h = cc
first_of false false c h = cc

module _ (s : Setup) (w : World) (before : List Record) (party : List ℕ) (number contract : ℕ)
    (uncompiled : compiled_instance s w contract ≡ None) where
  -- a contract that some test says is compiled isn't this one
  another : (p : Option Instance → Bool) → p None ≡ false → (other : ℕ) → p (compiled_instance s w other) ≡ true → other ≡ contract → ⊥
  another p none other h e =
      let there : p None ≡ true = ap p (sym uncompiled) ∙ ap (λ (k : ℕ). p (compiled_instance s w k)) (sym e) ∙ h in
      let collision_with : false ≡ true = sym none ∙ there in
      cc

  by_kind : (tx : Tx) (kind : Kind) → by_contract s w before party number tx kind ≡ true
      → (other : ℕ) × (contract_of_kind kind ≡ Some other) × (other ≡ contract → ⊥)
  by_kind tx (Begins k) h =
      let initial = first_of (is_initial s tx (compiled_instance s w k)) (takes_persistent s w k party number)
      (was_done (is_init k party) before) h in
      (k, refl, another (λ (i : Option Instance). is_initial s tx i) refl k initial)
  by_kind tx (Takes held output branch) h =
      let of_path = first_of (is_of_path s tx (position_path held branch) (compiled_instance s w held.contract))
      (takes_put s w held.contract (position_branch s held branch) party number) (was_done (is_endorse held.contract party) before) h in
      (held.contract, refl, another (λ (i : Option Instance). is_of_path s tx (position_path held branch) i) refl held.contract of_path)
  by_kind tx Moves h = absurd (cc)

  by_accepted : (spent : List ℕ) (made : List (ℕ × ℕ)) (lock : ℕ) (tx : Option Tx)
      → by_transaction s w before party number spent tx ≡ true → IsOfAnother s w contract tx (outcomes.Accepted spent made lock)
  by_accepted spent made lock None h = absurd (cc)
  by_accepted spent made lock (Some tx) h = by_kind tx (kind_of s w tx spent) h

  by_outcome : (e : Event) (tx : Option Tx) (outcome : Outcome) → has_leave s w before e tx party number outcome ≡ true
      → (gives party number e ≡ true) ⊎ IsOfAnother s w contract tx outcome
  by_outcome e tx outcomes.Done h = absurd (cc)
  by_outcome e tx (outcomes.Accepted spent made lock) h =
      elim (or_cases (gives party number e) (by_transaction s w before party number spent tx) h) [
        | inl own ↦ inl own
        | inr other ↦ inr (by_accepted spent made lock tx other)
      ]
  by_outcome e tx (outcomes.Refused reason) h = absurd (cc)

pub deposits_stay : BoundDepositsTheorem
deposits_stay s es run =
    holds-map (spends_with_leave s) (bound_deposits s)
    (λ before g w t leave contract number party uncompiled honest owner gone.
    by_outcome s w before party number contract uncompiled t.event t.tx t.outcome (leave party number honest owner gone))
    (course s es).turns [] (opening_configuration s) (opening_world s) (honest_deposits s es run)
