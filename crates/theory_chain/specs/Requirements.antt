-- What is claimed of the lines below a transaction that can't come: each kind stands exactly where it is so.
use Rattle.std.specs.Prelude.{◌≡◌, ℕ, ◌<◌, List, [], true, false, None, Some, ◌↔◌}
use Rattle.std.specs.List.{Contains, list_any}
use Rattle.spec_compiler.specs.Keyed.Keys.{Keys}
use Rattle.spec_compiler.specs.Keyed.Instance.{Instance}
use Rattle.spec_run.specs.Firing.{revealed_by}
use Rattle.spec_tool.specs.declared.which.Which.{Which}
use Rattle.spec_tool.specs.Keyed.Listed.{Listed, listed_at}
use Rattle.spec_deal.specs.declared.entry.Shown.{Shown}
use Rattle.spec_deal.specs.declared.finish.FinishRefusal.TheVariants as refusals
use Rattle.spec_deal.specs.declared.signed.Signed.{Signed}
use Rattle.spec_deal.specs.declared.transaction.Wallet.{Wallet}
use Rattle.spec_deal.specs.Finished.{which_branch, predicate_refusal}
use Rattle.spec_deal.specs.Given.{has}
use Rattle.spec_deal.specs.SecretFile.{string_for}
use Rattle.spec_deal.specs.Slots.{Slot, slots}
use Rattle.spec_chain.specs.declared.requirement.Requirement.{Requirement}
use Rattle.spec_chain.specs.declared.requirement.Requirement.TheVariants as requirements
use Rattle.spec_chain.specs.Following.{State}
use Rattle.spec_chain.specs.Outputs.{is_deposit}
use Rattle.spec_chain.specs.Outstanding.{is_needed_for, signature_requirement, unverified_for, deposits_needed, secrets_outstanding, secret_requirement, outstanding}

-- the deposit is spent and isn't live
abbrev pub IsGone : Instance → State → Which → List ℕ → Type 0
IsGone s state which x = Contains (deposits_needed s which) x × (list_any (is_deposit x) state.live ≡ false)

-- this is missing for the transaction of a name
abbrev pub IsOutstanding : (List ℕ → List ℕ) → Keys → Instance → List Signed → List Shown → State → ℕ → Which → Listed → Requirement → Type 0
-- its lock is above the tip
IsOutstanding hash keys s given strings state tip which l (requirements.Height height) = (height ≡ l.pending.lock) × (tip < height)
-- it needs the signature, which isn't there
IsOutstanding hash keys s given strings state tip which l (requirements.Signature w k label verb) =
    (slot : Slot) × Contains (slots hash keys s) slot × (is_needed_for which slot ≡ true) × (has hash keys given slot ≡ false)
    × (signature_requirement slot ≡ requirements.Signature w k label verb)
-- or the witness of a wallet
IsOutstanding hash keys s given strings state tip which l (requirements.Wallet w k deposit owner verb) =
    (slot : Slot) × Contains (slots hash keys s) slot × (is_needed_for which slot ≡ true) × (has hash keys given slot ≡ false)
    × (signature_requirement slot ≡ requirements.Wallet w k deposit owner verb)
IsOutstanding hash keys s given strings state tip which l (requirements.Deposit x) = IsGone s state which x
-- it reveals the secret, which isn't known
IsOutstanding hash keys s given strings state tip which l (requirements.Secret a party) =
    Contains (revealed_by (which_branch s which)) a × (string_for strings a ≡ None) × (secret_requirement s a ≡ requirements.Secret a party)
IsOutstanding hash keys s given strings state tip which l requirements.DepositGone = (x : List ℕ) × IsGone s state which x
-- all that it reveals is known, and its predicate is false of it
IsOutstanding hash keys s given strings state tip which l requirements.PredicateFalse =
    (secrets_outstanding s strings which ≡ []) × (predicate_refusal strings (which_branch s which) ≡ Some refusals.Predicate)

abbrev pub RequirementsExactly : Type 0
RequirementsExactly =
    (hash : List ℕ → List ℕ) (keys : Keys) (s : Instance) (given : List Signed) (strings : List Shown) (state : State) (tip : ℕ)
    (which : Which) (l : Listed) (requirement : Requirement)
    → listed_at hash keys s which ≡ Some l
    → Contains (outstanding hash keys s given strings state tip which) requirement ↔ IsOutstanding hash keys s given strings state tip which l requirement

-- ---- below a transaction that can come

-- it needs the witness of a wallet, which is there
pub record IsCountedOn (hash : List ℕ → List ℕ) (keys : Keys) (s : Instance) (given : List Signed) (which : Which) (slot : Slot) : Type 0 where
  pub among : Contains (slots hash keys s) slot
  pub needed : is_needed_for which slot ≡ true
  pub wallet : Wallet
  pub by_wallet : slot.wallet ≡ Some wallet
  pub there : has hash keys given slot ≡ true

-- a line `unverified` stands exactly where it counts on such a witness
abbrev pub UnverifiedExactly : Type 0
UnverifiedExactly =
    (hash : List ℕ → List ℕ) (keys : Keys) (s : Instance) (given : List Signed) (which : Which) (slot : Slot)
    → Contains (unverified_for hash keys s given which) slot ↔ IsCountedOn hash keys s given which slot
