-- What is claimed of the order of the lines below a transaction that can't come, and of whom the deal waits for.
use Rattle.std.specs.Prelude.{◌≡◌, ℕ, List, [], ◌∷◌, ◌++◌, map, Some, ◌↔◌}
use Rattle.std.specs.List.{Contains}
use Rattle.spec_terms.specs.Faults.{IsWellFormed}
use Rattle.spec_compiler.specs.Keyed.Keys.{Keys}
use Rattle.spec_compiler.specs.Keyed.Instance.{Instance, people}
use Rattle.spec_run.specs.Firing.{revealed_by}
use Rattle.spec_tool.specs.declared.which.Which.{Which}
use Rattle.spec_tool.specs.Keyed.Listed.{Listed, listed_at}
use Rattle.spec_deal.specs.declared.entry.Shown.{Shown}
use Rattle.spec_deal.specs.declared.signed.Signed.{Signed}
use Rattle.spec_deal.specs.Finished.{label_party, which_branch}
use Rattle.spec_deal.specs.Slots.{slots}
use Rattle.theory_deal.specs.SigningOrder.{Precedes, IsAscending}
use Rattle.spec_chain.specs.declared.requirement.Requirement.{Requirement}
use Rattle.spec_chain.specs.declared.requirement.Requirement.TheVariants as requirements
use Rattle.spec_chain.specs.Following.{State}
use Rattle.spec_chain.specs.Outstanding.{asked, deposits_needed, signature_requirement, secret_requirement, outstanding, awaited}
use Rattle.spec_chain.specs.StateText.{all_outstanding}

-- ---- the lines below a transaction

-- all lines that may stand below it: its lock, the signatures in the order of the text, its deposits by input, the secrets in the order of
-- its reveal, and what never comes
abbrev pub may_stand : (List ℕ → List ℕ) → Keys → Instance → Which → Listed → List Requirement
may_stand hash keys s which l =
    requirements.Height l.pending.lock
    ∷ (map signature_requirement (slots hash keys s)
    ++ (map requirements.Deposit (deposits_needed s which)
    ++ (map (secret_requirement s) (revealed_by (which_branch s which)) ++ requirements.DepositGone ∷ requirements.PredicateFalse ∷ [])))

-- each of these stands once
abbrev pub StandOnce : {X : Type 0} → List X → Type 0
StandOnce {X} xs = IsAscending (λ (x y : X). x ≡ y → ⊥) xs

-- the lines stand in this order, each once
abbrev pub RequirementsInOrder : Type 0
RequirementsInOrder =
    (hash : List ℕ → List ℕ) (keys : Keys) (s : Instance) (given : List Signed) (strings : List Shown) (state : State) (tip : ℕ)
    (which : Which) (l : Listed)
    → IsWellFormed s.advert → listed_at hash keys s which ≡ Some l
    → IsAscending (Precedes (may_stand hash keys s which l)) (outstanding hash keys s given strings state tip which)
    × StandOnce (outstanding hash keys s given strings state tip which)

-- ---- who is waited for

-- a line names a party: its signature, the witness of its wallet or its secret is missing
abbrev pub Names : Requirement → List ℕ → Type 0
Names (requirements.Height height) party = ⊥
Names (requirements.Signature which input label verb) party = label_party label ≡ party
Names (requirements.Wallet which input deposit owner verb) party = owner ≡ party
Names (requirements.Deposit name) party = ⊥
Names (requirements.Secret name holder) party = holder ≡ party
Names requirements.DepositGone party = ⊥
Names requirements.PredicateFalse party = ⊥

-- a line of these names the party, and none says that it never comes
pub record AwaitsOf (party : List ℕ) (lines : List Requirement) : Type 0 where
  pub line : Requirement
  pub among : Contains lines line
  pub names : Names line party
  pub funded : Contains lines requirements.DepositGone → ⊥
  pub possible : Contains lines requirements.PredicateFalse → ⊥

-- a transaction that is asked for waits for the party
pub record IsAwaited (hash : List ℕ → List ℕ) (keys : Keys) (s : Instance) (given : List Signed) (strings : List Shown) (state : State)
    (tip : ℕ) (party : List ℕ) : Type 0 where
  pub person : Contains (people s) party
  pub which : Which
  pub asked_for : Contains (asked s state) which
  pub waits : AwaitsOf party (outstanding hash keys s given strings state tip which)

-- a participant is waited for exactly where a transaction that may still come waits for it; they stand in their order, each once
abbrev pub WaitsExactly : Type 0
WaitsExactly =
    (hash : List ℕ → List ℕ) (keys : Keys) (s : Instance) (given : List Signed) (strings : List Shown) (state : State) (tip : ℕ)
    → ((party : List ℕ) → Contains (awaited s (all_outstanding hash keys s given strings state tip)) party
    ↔ IsAwaited hash keys s given strings state tip party)
    × IsAscending (Precedes (people s)) (awaited s (all_outstanding hash keys s given strings state tip))
    × StandOnce (awaited s (all_outstanding hash keys s given strings state tip))
