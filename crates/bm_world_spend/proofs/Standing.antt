-- What contracts are compiled to, and live contract outputs, by number.
use Rattle.std.proofs.Common.{◌≡◌, ℕ, suc, ◌+◌, List, [], ◌∷◌, length, Option, Some, None, refl, sym, ap, ◌∙◌, subst}
use Rattle.std.specs.Prelude.{option_map}
use Rattle.spec_terms.specs.Advert.{Advert}
use Rattle.spec_nodes.specs.Nodes.{Node, nodes_of}
use Rattle.spec_nodes.specs.Numbers.{choice_number_at, IsChoiceOf}
use Rattle.spec_bitcoin.specs.Keys.{Pair}
use Rattle.spec_compiler.specs.Instance.{Instance}
use Rattle.spec_run.specs.Setup.{Setup, contract_at}
use Rattle.spec_run.specs.World.{ContractPosition, World}
use Rattle.theory_nodes.specs.Found.{ChoicesAreFound}
use Rattle.theory_world.proofs.Bookless.{other, compiled_same}
use Rattle.theory_world.proofs.Later.{IsCompiledAt, compiled_is}
use Rattle.bm_compile.specs.Numbered.{Numbered, numbered}
use Rattle.bm_match.specs.Matches.{compiled_from, all_compiled, choice_in, IsActive}
use Rattle.bm_world_board.specs.Compiling.{compiled_at}
use Rattle.bm_world_board.proofs.Compilations.{compiled_is as numbered_is}
use Rattle.bm_world_spend.specs.Placed.{IsPosition, IsPlaced}
use Rattle.bm_world_spend.specs.Purposes.{choice_at, active_by, active_in}

-- ---- what contracts are compiled to

length-compiled_from : (s : Setup) (w : World) (k : ℕ) (adverts : List Advert) → length (compiled_from s w k adverts) ≡ length adverts
length-compiled_from s w k [] = refl
length-compiled_from s w k (a ∷ adverts) = ap (λ n. suc n) (length-compiled_from s w (k + 1) adverts)

-- one for each contract
pub length-all_compiled : (s : Setup) (w : World) → length (all_compiled s w) ≡ length s.contracts
length-all_compiled s w = length-compiled_from s w 0 s.contracts

module _ (s : Setup) (w : World) (compiled : List (Option Numbered))
    (all : compiled ≡ all_compiled s w) (held : ContractPosition) (is : IsPosition s w held) where
  contract : IsCompiledAt s w held.contract is.instance
  contract = compiled_is s w held.contract is.instance is.compiled

  text : is.instance.advert ≡ contract.advert
  text = ap (λ (y : Instance). y.advert) contract.is

  -- the contract of a position
  pub contract_there : contract_at s held.contract ≡ Some is.instance.advert
  contract_there = contract.there ∙ ap (λ (a : Advert). Some a) (sym text)

  -- is compiled
  pub compiled_there : compiled_at compiled held.contract ≡ Some (numbered s.hash is.instance)
  compiled_there = numbered_is s w held.contract compiled all ∙ ap (option_map (numbered s.hash)) is.compiled

  -- it is a live output of that position, where the position's choice has this number
  active_held : (number : ℕ) (node : Option ℕ) → choice_number_at (nodes_of is.instance.advert.root) held.position ≡ node
      → IsChoiceOf (nodes_of is.instance.advert.root) held.position node (Some is.choice)
      → IsActive s w (Some held) number (active_by held number node)
  active_held number None e h = absurd h
  active_held number (Some node) e h = record {
    contract = refl;
    output = refl;
    node = ap (λ o. choice_in o held.position) contract_there ∙ e;
    instance = is.instance;
    compiled = is.compiled;
  }

  pub active_there : ChoicesAreFound → (number : ℕ) → IsActive s w (Some held) number (active_in compiled number (Some held))
  active_there theorem number =
      let nodes : List Node = nodes_of is.instance.advert.root in
      let found : IsChoiceOf nodes held.position (choice_number_at nodes held.position) (Some is.choice) =
      subst (λ o. IsChoiceOf nodes held.position (choice_number_at nodes held.position) o) is.stands (theorem is.instance.advert.root held.position) in
      subst (λ o. IsActive s w (Some held) number (active_by held number (choice_at o held.position))) (sym compiled_there)
      (active_held number (choice_number_at nodes held.position) refl found)

-- ---- what is signed or hashed doesn't matter

module _ (s : Setup) (w : World) (book : List Pair) (hashed : List (List ℕ)) where
  compiled_from-same : (k : ℕ) (adverts : List Advert) → compiled_from s (other s w book hashed) k adverts ≡ compiled_from s w k adverts
  compiled_from-same k [] = refl
  compiled_from-same k (a ∷ adverts) = λ i. option_map (numbered s.hash) (compiled_same s w book hashed k i) ∷ compiled_from-same (k + 1) adverts i

  pub compiled_unsigned : (compiled : List (Option Numbered)) → compiled ≡ all_compiled s w → compiled
      ≡ all_compiled s (record w { book = book; hashed = hashed })
  compiled_unsigned compiled e = e ∙ sym (compiled_from-same 0 s.contracts)

  pub placed_unsigned : IsPlaced s w → IsPlaced s (record w { book = book; hashed = hashed })
  placed_unsigned placed = record {
    held = λ n held h.
        let p : IsPosition s w held = placed.held n held h in
        record { instance = p.instance; compiled = compiled_same s w book hashed held.contract ∙ p.compiled; choice = p.choice; stands = p.stands };
  }
