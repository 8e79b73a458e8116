-- What is claimed of what may come next of a deal: what can come is finished, final and opened by every oracle that takes its signatures;
-- what a deposit is gone for never comes.
use Rattle.std.specs.Prelude.{◌≡◌, ℕ, ◌≤◌, List, [], ◌∷◌, ◌++◌, ◌↔◌, ◌⊎◌, true, None, Some, is_some}
use Rattle.std.specs.List.{Contains, list_all, list_any}
use Rattle.spec_compiler.specs.Keyed.Keys.{Keys}
use Rattle.spec_compiler.specs.Keyed.Instance.{Instance}
use Rattle.spec_compiler.specs.Keyed.Statements.{AreKeys, AreKeyDeposits}
use Rattle.spec_text.specs.Lines.{lines_of}
use Rattle.spec_tool.specs.declared.which.Which.{Which}
use Rattle.spec_tool.specs.Keyed.Listed.{Listed, listed_at}
use Rattle.spec_deal.specs.declared.entry.Shown.{Shown}
use Rattle.spec_deal.specs.declared.signed.Signed.{Signed}
use Rattle.spec_deal.specs.Finished.{witnesses, which_branch, finish_refusal}
use Rattle.spec_deal.specs.Given.{has}
use Rattle.spec_deal.specs.SecretFile.{string_for}
use Rattle.spec_deal.specs.Slots.{Slot, slots}
use Rattle.spec_run.specs.Firing.{revealed_by}
use Rattle.theory_deal.specs.Finished.{Oracle, accepts, IsApplied, are_short, do_fit, AllOpen, AllInputsOpen}
use Rattle.spec_chain.specs.Chain.{Course, stands, follow_chain}
use Rattle.spec_chain.specs.Following.{State}
use Rattle.spec_chain.specs.Outputs.{is_deposit}
use Rattle.spec_chain.specs.Outstanding.{is_needed_for, deposits_needed, deposits_outstanding, known, outstanding}
use Rattle.spec_chain.specs.declared.requirement.Requirement.TheVariants as requirements

-- every string that is known after a chain fits its secret, if those that were given do
abbrev pub KnownFit : Type 0
KnownFit = (hash : List ℕ → List ℕ) (keys : Keys) (s : Instance) (text : List ℕ) (course : Course) (tip : ℕ) (strings : List Shown)
    → follow_chain hash keys s text ≡ stands course tip → do_fit hash s strings ≡ true
    → do_fit hash s (known course.state strings) ≡ true

-- a transaction for which nothing is missing, with these signatures and strings, where a deal stands so under this tip
pub record CanCome (hash : List ℕ → List ℕ) (keys : Keys) (s : Instance) (given : List Signed) (strings : List Shown) (state : State)
    (tip : ℕ) (which : Which) (l : Listed) : Type 0 where
  -- it is finished
  pub finishes : finish_refusal hash keys s given strings l ≡ None
  -- its lock is reached
  pub final : l.pending.lock ≤ tip
  -- its deposits are live
  pub funded : list_all (λ x. list_any (is_deposit x) state.live) (deposits_needed s which) ≡ true

-- nothing is missing exactly where it can come
abbrev pub CanExactly : Type 0
CanExactly =
    (hash : List ℕ → List ℕ) (keys : Keys) (s : Instance) (given : List Signed) (strings : List Shown) (state : State) (tip : ℕ)
    (which : Which) (l : Listed)
    → listed_at hash keys s which ≡ Some l
    → (outstanding hash keys s given strings state tip which ≡ []) ↔ CanCome hash keys s given strings state tip which l

-- what may be missing for a transaction is there: its deposits are live, its lock is reached, each signature that it needs is given and
-- each secret that it reveals is known
pub record IsSupplied (hash : List ℕ → List ℕ) (keys : Keys) (s : Instance) (given : List Signed) (strings : List Shown) (state : State)
    (tip : ℕ) (which : Which) (l : Listed) : Type 0 where
  pub funded : deposits_outstanding s state which ≡ []
  pub final : l.pending.lock ≤ tip
  pub signed : (slot : Slot) → Contains (slots hash keys s) slot → is_needed_for which slot ≡ true → has hash keys given slot ≡ true
  pub told : list_all (λ a. is_some (string_for strings a)) (revealed_by (which_branch s which)) ≡ true

-- then nothing is missing, or that its predicate is false is all that is left
abbrev pub SuppliedComes : Type 0
SuppliedComes =
    (hash : List ℕ → List ℕ) (keys : Keys) (s : Instance) (given : List Signed) (strings : List Shown) (state : State) (tip : ℕ)
    (which : Which) (l : Listed)
    → listed_at hash keys s which ≡ Some l → IsSupplied hash keys s given strings state tip which l
    → (outstanding hash keys s given strings state tip which ≡ [])
    ⊎ (outstanding hash keys s given strings state tip which ≡ requirements.PredicateFalse ∷ [])

-- its witnesses open what keys of the deal sign, and are those that were handed in for what wallets do
pub record IsOpened (hash : List ℕ → List ℕ) (keys : Keys) (s : Instance) (given : List Signed) (oracle : Oracle) (l : Listed)
    (ws : List (List (List ℕ))) : Type 0 where
  pub by_input : AllInputsOpen hash keys s given oracle l ws
  -- so where all deposits are of keys they open all that it spends
  pub of_keys : AreKeyDeposits keys → AllOpen hash oracle 0 l.pending.spends ws

-- and this for every oracle that accepts the given signatures
abbrev pub CanOpens : Type 0
CanOpens =
    (hash : List ℕ → List ℕ) (keys : Keys) (s : Instance) (text : List ℕ) (course : Course) (tip : ℕ) (given : List Signed)
    (strings : List Shown) (which : Which) (l : Listed) (oracle : Oracle)
    → AreKeys hash keys → IsApplied s → are_short given ≡ true → do_fit hash s strings ≡ true
    → follow_chain hash keys s text ≡ stands course tip → listed_at hash keys s which ≡ Some l
    → outstanding hash keys s given (known course.state strings) course.state tip which ≡ []
    → accepts hash keys s given oracle l ≡ true
    → IsOpened hash keys s given oracle l (witnesses hash keys s given (known course.state strings) l l.which)

-- where a deposit is gone, its transaction can't come after any further lines, whatever is signed and known
abbrev pub GoneNeverComes : Type 0
GoneNeverComes =
    (hash : List ℕ → List ℕ) (keys : Keys) (s : Instance) (text longer : List ℕ) (more : List (List ℕ))
    (course later : Course) (tip top : ℕ) (given : List Signed) (strings : List Shown) (which : Which)
    → lines_of longer ≡ lines_of text ++ more
    → follow_chain hash keys s text ≡ stands course tip → follow_chain hash keys s longer ≡ stands later top
    → (deposits_outstanding s course.state which ≡ [] → ⊥)
    → outstanding hash keys s given strings later.state top which ≡ [] → ⊥
