-- What a transaction is, and what steps it stands for, doesn't hang on the book of signatures or on what was hashed.
use Rattle.std.proofs.Common.{◌≡◌, ℕ, ◌+◌, List, [], ◌∷◌, Option, Some, None, refl, ap, ◌∙◌}
use Rattle.std.specs.Prelude.{if◌then◌else◌}
use Rattle.spec_terms.specs.Advert.{Advert}
use Rattle.spec_bitcoin.specs.declared.tx.Tx.{Tx}
use Rattle.spec_bitcoin.specs.Keys.{Pair}
use Rattle.spec_calculus.specs.Configuration.{Configuration}
use Rattle.spec_run.specs.Setup.{Setup, contract_at}
use Rattle.spec_run.specs.World.{World}
use Rattle.spec_run.specs.Compiled.{instance_if_complete, compiled_instance}
use Rattle.spec_run.specs.Ledger.{Kind, Begins, Takes, Moves, initial_from, initial_of, is_initial, first_position, kind_by, kind_of}
use Rattle.spec_run.specs.Steps.{kind_steps, accepted_steps}

module _ (s : Setup) (w : World) (book : List Pair) (hashed : List (List ℕ)) where
  abbrev pub other : World
  other = record w { book = book; hashed = hashed }

  pub compiled_same : (k : ℕ) → compiled_instance s other k ≡ compiled_instance s w k
  compiled_same k = by_contract (contract_at s k)
    where
      by_contract : (o : Option Advert) → instance_if_complete other k o ≡ instance_if_complete w k o
      by_contract None = refl
      by_contract (Some a) = refl

  pub initial_same : (tx : Tx) (k : ℕ) (cs : List Advert) → initial_from s other tx k cs ≡ initial_from s w tx k cs
  initial_same tx k [] = refl
  initial_same tx k (c ∷ cs) =
      ap (λ o. if is_initial s tx o then Some k else initial_from s other tx (k + 1) cs) (compiled_same k)
      ∙ ap (λ r. if is_initial s tx (compiled_instance s w k) then Some k else r) (initial_same tx (k + 1) cs)

  held_same : (spent : List ℕ) → first_position other spent ≡ first_position w spent
  held_same [] = refl
  held_same (n ∷ ns) = refl

  pub kind_same : (tx : Tx) (spent : List ℕ) → kind_of s other tx spent ≡ kind_of s w tx spent
  kind_same tx spent = ap (λ o. kind_by s tx spent o (first_position other spent)) (initial_same tx 0 s.contracts)
      ∙ ap (kind_by s tx spent (initial_of s w tx)) (held_same spent)

  by_kind : (g : Configuration) (tx : Tx) (spent : List ℕ) (k : Kind) → kind_steps s g other tx spent k ≡ kind_steps s g w tx spent k
  by_kind g tx spent (Begins k) = refl
  by_kind g tx spent (Takes h n i) = refl
  by_kind g tx spent Moves = refl

  pub steps_same : (g : Configuration) (next : World) (spent : List ℕ) (o : Option Tx) → accepted_steps s g other next spent o
      ≡ accepted_steps s g w next spent o
  steps_same g next spent None = refl
  steps_same g next spent (Some tx) = let e = ap (kind_steps s g other tx spent) (kind_same tx spent) ∙ by_kind g tx spent (kind_of s w tx spent) in rw e refl
