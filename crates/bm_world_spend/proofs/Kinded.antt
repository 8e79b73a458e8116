-- What a transaction is to the contracts, by what these are compiled to.
use Rattle.std.proofs.Common.{◌≡◌, ℕ, ◌+◌, List, [], ◌∷◌, Option, Some, None, refl, sym, ap, ◌∙◌}
use Rattle.std.specs.Prelude.{slice_get}
use Rattle.std.specs.Option.{option_and_then}
use Rattle.spec_terms.specs.Term.{Guarded, auth, after, put_reveal, withdraw, split}
use Rattle.spec_terms.specs.Core.{core}
use Rattle.spec_terms.specs.Paths.{at}
use Rattle.spec_terms.specs.declared.path.PathStep.{PathStep}
use Rattle.spec_nodes.specs.Nodes.{Node, nodes_of, deed_of}
use Rattle.spec_nodes.specs.Numbers.{number_at, IsBranchOf}
use Rattle.spec_bitcoin.specs.declared.tx.Tx.{Tx}
use Rattle.spec_compiler.specs.Witness.{chosen_by}
use Rattle.spec_run.specs.Setup.{Setup}
use Rattle.spec_run.specs.World.{ContractPosition, World, live_position_at}
use Rattle.spec_run.specs.Ledger as ledger
use Rattle.spec_run.specs.Ledger.{first_position, first_number, kind_by, kind_of, initial_of, position_path, position_branch, branch_in, core_holds, new_position, begun_after, branch_count, first_witness}
use Rattle.theory_nodes.specs.Found.{BranchesAreFound, ChoicesAreFound}
use Rattle.bm_compile.specs.Numbered.{Numbered}
use Rattle.bm_match.specs.declared.found.Match.{Match}
use Rattle.bm_match.specs.Matches.{all_compiled, seen_kind, IsActive}
use Rattle.bm_world_board.specs.declared.pending_change.Purpose.{Purpose}
use Rattle.bm_world_board.specs.Prepares.{with_begun}
use Rattle.bm_world_board.specs.Reaching.{spent_in, IsPurpose}
use Rattle.bm_world_coins.specs.Coined.{position_by}
use Rattle.bm_world_spend.specs.Placed.{IsPosition, IsPlaced}
use Rattle.bm_world_spend.specs.Purposes.{active_in, active_first, deed_holds, node_holds, branch_node_at, branch_holds, match_holds, match_begins}
use Rattle.bm_world_spend.proofs.Standing.{contract_there, compiled_there, active_there}

-- what a core makes, by what its node says that it does
core_is : (contract : ℕ) (path : List PathStep) (n : ℕ) (c : Guarded) (k : ℕ) → deed_holds contract path (deed_of n c) k ≡ core_holds contract path c k
core_is contract path n (put_reveal puts reveals test next) k = refl
core_is contract path n (withdraw party) k = refl
core_is contract path n (split parts) k = refl
core_is contract path n (auth party body) k = refl
core_is contract path n (after height body) k = refl

-- what a branch makes, by its node
node_is : (contract : ℕ) (nodes : List Node) (path : List PathStep) (k : ℕ) (n : Option ℕ) (b : Option Guarded) → IsBranchOf nodes path n b
    → node_holds contract (option_and_then (slice_get nodes) n) k ≡ ledger.branch_holds contract path b k
node_is contract nodes path k None None h = refl
node_is contract nodes path k None (Some b) h = absurd h
node_is contract nodes path k (Some n) None h = absurd h
node_is contract nodes path k (Some n) (Some b) h = ap (λ o. node_holds contract o k) h ∙ core_is contract path (n + 1) (core b) k

module _ (s : Setup) (w : World) (compiled : List (Option Numbered))
    (all : compiled ≡ all_compiled s w) (placed : IsPlaced s w) (branches : BranchesAreFound) (choices : ChoicesAreFound) where
  -- what a branch of a position makes
  held_is : (held : ContractPosition) → IsPosition s w held → (branch k : ℕ)
      → branch_holds compiled branch (Some held) k ≡ ledger.branch_holds held.contract (position_path held branch) (position_branch s held branch) k
  held_is held is branch k =
      let root = is.instance.advert.root in
      let path = position_path held branch in
      ap (λ o. node_holds held.contract (branch_node_at o path) k) (compiled_there s w compiled all held is)
      ∙ node_is held.contract (nodes_of root) path k (number_at (nodes_of root) path) (at root path) (branches root path)
      ∙ ap (λ o. ledger.branch_holds held.contract path (branch_in o path) k) (sym (contract_there s w compiled all held is))

  -- the output that the first input spends
  pub active_is : (spent : List ℕ) → IsActive s w (first_position w spent) (first_number spent) (active_first compiled w.outputs spent)
  active_is [] = tt
  active_is (n ∷ ns) = by_held (live_position_at w n) refl
    where
      by_held : (o : Option ContractPosition) → live_position_at w n ≡ o → IsActive s w o n (active_in compiled n o)
      by_held None e = tt
      by_held (Some held) e = active_there s w compiled all held (placed.held n held e) choices n

  -- what a transaction makes
  holds_by : (tx : Tx) (k : ℕ) (spent : List ℕ) (o : Option ℕ)
      → match_holds compiled w.outputs (seen_kind (kind_by s tx spent o (first_position w spent))) k
      ≡ new_position s (kind_by s tx spent o (first_position w spent)) k
  holds_by tx k spent (Some contract) = refl
  holds_by tx k [] None = refl
  holds_by tx k (n ∷ ns) None = by_held (live_position_at w n) refl
    where
      by_held : (o : Option ContractPosition) → live_position_at w n ≡ o
          → match_holds compiled w.outputs (seen_kind (kind_by s tx (n ∷ ns) None o)) k ≡ new_position s (kind_by s tx (n ∷ ns) None o) k
      by_held None e = refl
      by_held (Some held) e =
          let chosen = chosen_by (branch_count s held) (first_witness tx.inputs) in
          ap (λ o. branch_holds compiled chosen o k) e ∙ held_is held (placed.held n held e) chosen k

  -- the purpose of a transaction, by its match
  pub purpose_is : (tx : Tx) (m : Match) (p : Purpose) → m ≡ seen_kind (kind_of s w tx (spent_in w tx))
      → ((k : ℕ) → position_by p.positions k ≡ match_holds compiled w.outputs m k) → p.begins ≡ match_begins m → IsPurpose s w tx p
  purpose_is tx m p same positions begins = record {
    positions = λ k. positions k ∙ ap (λ x. match_holds compiled w.outputs x k) same ∙ holds_by tx k (spent_in w tx) (initial_of s w tx);
    begins = λ begun. ap (λ o. with_begun o begun) (begins ∙ ap match_begins same) ∙ begins_by (kind_of s w tx (spent_in w tx)) begun;
  }
    where
      begins_by : (kind : ledger.Kind) (begun : List ℕ) → with_begun (match_begins (seen_kind kind)) begun ≡ begun_after kind begun
      begins_by (ledger.Begins contract) begun = refl
      begins_by (ledger.Takes held output branch) begun = refl
      begins_by ledger.Moves begun = refl
