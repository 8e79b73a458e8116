-- What a transaction is to all contracts of a run, by what they are compiled to.
use Rattle.std.proofs.Common.{◌≡◌, ℕ, zero, suc, ◌+◌, List, [], ◌∷◌, Option, Some, None, refl, ap, ◌∙◌, arith, zero-add}
use Rattle.std.specs.Prelude.{slice_get, Bool}
use Rattle.std.specs.Option.{option_map}
use Rattle.spec_terms.specs.Advert.{Advert}
use Rattle.spec_terms.specs.Term.{Contract}
use Rattle.spec_terms.specs.Paths.{contract_under}
use Rattle.spec_terms.specs.declared.path.PathStep.{PathStep}
use Rattle.spec_nodes.specs.Nodes.{Node, nodes_of}
use Rattle.spec_nodes.specs.Numbers.{choice_number_at}
use Rattle.spec_bitcoin.specs.declared.tx.Tx.{Tx}
use Rattle.spec_compiler.specs.Instance.{Instance}
use Rattle.spec_run.specs.Setup.{Setup, contract_at}
use Rattle.spec_run.specs.World.{ContractPosition, World}
use Rattle.spec_run.specs.Compiled.{compiled_instance}
use Rattle.spec_run.specs.Ledger.{is_initial, initial_from, initial_of, branch_count, count_of}
use Rattle.theory_world.proofs.Later.{IsCompiledAt, compiled_is}
use Rattle.theory_script.proofs.Listing.Stands.{some_same}
use Rattle.bm_compile.specs.Numbered.{Numbered, numbered}
use Rattle.bm_match.specs.declared.found.Active.{Active}
use Rattle.bm_match.specs.Matches.{compiled_from, all_compiled, begins, first_begun, IsHeld, nodes_at}

-- ---- the contract that begins

begins_is : (s : Setup) (tx : Tx) (o : Option Instance) → begins tx (option_map (numbered s.hash) o) ≡ is_initial s tx o
begins_is s tx None = refl
begins_is s tx (Some instance) = refl

first_is : (s : Setup) (w : World) (tx : Tx) (k : ℕ) (adverts : List Advert)
    → first_begun tx k (compiled_from s w k adverts) ≡ initial_from s w tx k adverts
first_is s w tx k [] = refl
first_is s w tx k (advert ∷ adverts) = rw (begins_is s tx (compiled_instance s w k), first_is s w tx (k + 1) adverts) refl

-- the first contract whose initial transaction it is
pub begun_is : (s : Setup) (w : World) (tx : Tx) (compiled : List (Option Numbered)) → compiled ≡ all_compiled s w
    → first_begun tx 0 compiled ≡ initial_of s w tx
begun_is s w tx compiled e = ap (first_begun tx 0) e ∙ first_is s w tx 0 s.contracts

-- ---- the contract that goes on

from_get : (s : Setup) (w : World) (k i : ℕ) (adverts : List Advert) (advert : Advert) → slice_get adverts i ≡ Some advert
    → slice_get (compiled_from s w k adverts) i ≡ Some (option_map (numbered s.hash) (compiled_instance s w (k + i)))
from_get s w k i [] advert e = cc
from_get s w k zero (a ∷ adverts) advert e =
    let z : k ≡ k + 0 = omega arith in
    ap (λ j. Some (option_map (numbered s.hash) (compiled_instance s w j))) z
from_get s w k (suc i) (a ∷ adverts) advert e =
    let z : k + 1 + i ≡ k + suc i = omega arith in
    from_get s w (k + 1) i adverts advert e ∙ ap (λ j. Some (option_map (numbered s.hash) (compiled_instance s w j))) z

module _ (s : Setup) (w : World) (compiled : List (Option Numbered)) (held : ContractPosition) (number : ℕ) (active : Active)
    (all : compiled ≡ all_compiled s w) (is : IsHeld s w held number active) where
  contract : IsCompiledAt s w held.contract is.instance
  contract = compiled_is s w held.contract is.instance is.compiled

  -- the nodes of a held output's contract
  nodes_held : nodes_at compiled active.contract ≡ Some (nodes_of contract.advert.root)
  nodes_held =
      let text : is.instance.advert ≡ contract.advert = ap (λ (y : Instance). y.advert) contract.is in
      let there : slice_get compiled active.contract ≡ Some (Some (numbered s.hash is.instance)) =
      rw (all, is.contract)
      (from_get s w 0 held.contract s.contracts contract.advert contract.there ∙ rw (zero-add held.contract, is.compiled) refl) in
      rw there (ap (λ (y : Advert). Some (nodes_of y.root)) text)

  -- the count by nodes is that of its position
  pub counts_held : (nodes : List Node) (count : ℕ) → Some nodes ≡ nodes_at compiled active.contract
      → ((root : Contract) (q : List PathStep) → nodes ≡ nodes_of root → choice_number_at nodes q ≡ Some active.node
      → count ≡ count_of (contract_under root q))
      → count ≡ branch_count s held
  counts_held nodes count e counts =
      let same : nodes ≡ nodes_of contract.advert.root = some_same (e ∙ nodes_held) in
      let node : choice_number_at (nodes_of contract.advert.root) held.position ≡ Some active.node = rw contract.there at is.node in
      rw contract.there (counts contract.advert.root held.position same (rw same node))

  pub some_nodes : None ≡ nodes_at compiled active.contract → ⊥
  some_nodes e = let h : None ≡ Some (nodes_of contract.advert.root) = e ∙ nodes_held in cc
