-- What is claimed of a deal that isn't refused as circular: its own transactions make none of its deposits, and nobody is paid at one of its
-- positions.
use Rattle.std.specs.Prelude.{◌≡◌, ℕ, List, Some, None, ◌↔◌}
use Rattle.std.specs.List.{Contains}
use Rattle.spec_terms.specs.declared.path.PathStep.{PathStep}
use Rattle.spec_bitcoin.specs.declared.tx.OutPoint.{OutPoint}
use Rattle.spec_bitcoin.specs.Digests.{txid}
use Rattle.spec_bitcoin.specs.Keys.{pay_to}
use Rattle.spec_compiler.specs.Keyed.Keys.{Keys, own_payee}
use Rattle.spec_compiler.specs.Keyed.Instance.{Instance, people}
use Rattle.spec_compiler.specs.Keyed.Transactions.{tx_of}
use Rattle.spec_compiler.specs.Keyed.Compilation.{scripts}
use Rattle.spec_tool.specs.Keyed.Listed.{Listed, listed}
use Rattle.spec_deal.specs.Answers.{circular}

pub record StandsAlone (hash : List ℕ → List ℕ) (keys : Keys) (s : Instance) : Type 0 where
  -- no deposit lies where one of the deal's transactions makes outputs
  pub unmade : (d : List ℕ × OutPoint) → Contains s.bound d → (l : Listed) → Contains (listed hash keys s) l
      → txid hash (tx_of l.pending) ≡ d.1.txid → ⊥
  -- the output script where a participant is paid is that of no position
  pub unpaid : (party script : List ℕ) → Contains (people s) party → own_payee keys party ≡ Some script
      → (p : List PathStep × List ℕ) → Contains (scripts hash keys s) p → pay_to (hash (p.1)) ≡ script → ⊥

-- exactly then it isn't circular
abbrev pub NoneIsCircular : Type 0
NoneIsCircular = (hash : List ℕ → List ℕ) (keys : Keys) (s : Instance) → (circular hash keys s ≡ None) ↔ StandsAlone hash keys s
