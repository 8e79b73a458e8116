-- What the contracts of a board are compiled to, by their number.
use Rattle.std.proofs.Common.{◌≡◌, ℕ, List, Option, Some, None, refl, sym, ap, ◌∙◌, subst}
use Rattle.std.specs.Prelude.{slice_get, is_some}
use Rattle.std.specs.Option.{option_map}
use Rattle.spec_terms.specs.Advert.{Advert}
use Rattle.spec_compiler.specs.Instance.{Instance}
use Rattle.spec_nodes.specs.Nodes.{nodes_of}
use Rattle.spec_run.specs.Compiled.{instance_if_complete}
use Rattle.theory_script.proofs.Listing.Stands.{some_same}
use Rattle.theory_world.proofs.Later.{IsCompiledAt}
use Rattle.theory_world.proofs.Later as later
use Rattle.bm_compile.specs.Numbered.{Numbered, numbered}
use Rattle.bm_world_board.specs.declared.board.Board.{Board}
use Rattle.bm_world_board.specs.Compiling.{compiled_at}
use Rattle.bm_world_board.specs.Prepares.{setup_of, world_of}
use Rattle.bm_world_board.proofs.Compilations.{compiled_is}
use Rattle.bm_world_sign.specs.Instances.{AllCompiled, instance_on, Shows}

pub some-map : {X Y : Type 0} (f : X → Y) (o : Option X) → is_some (option_map f o) ≡ is_some o
some-map f None = refl
some-map f (Some x) = refl

-- ---- a board

module _ (hash : List ℕ → List ℕ) (b : Board) (messages : List (List ℕ)) (k : ℕ) (all : AllCompiled hash b messages) where
  -- what a contract is compiled to is that with which it is compiled
  pub compiled_here : compiled_at b.compiled k ≡ option_map (numbered hash) (instance_on hash b messages k)
  compiled_here = compiled_is (setup_of hash b) (world_of b messages) k b.compiled all

  pub is_here : is_some (compiled_at b.compiled k) ≡ is_some (instance_on hash b messages k)
  is_here = ap is_some compiled_here ∙ some-map (numbered hash) (instance_on hash b messages k)

  pub shown : (advert : Advert) (compiled : Numbered) → slice_get b.contracts k ≡ Some advert → compiled_at b.compiled k ≡ Some compiled
      → Shows hash k (instance_on hash b messages k) (Some (advert, compiled))
  shown advert compiled text code = by_instance (instance_on hash b messages k) refl
    where
      by_instance : (o : Option Instance) → instance_on hash b messages k ≡ o → Shows hash k o (Some (advert, compiled))
      by_instance None e =
          let gone : None ≡ Some compiled = sym (compiled_here ∙ ap (option_map (numbered hash)) e) ∙ code in
          absurd cc
      by_instance (Some st) e =
          let is : IsCompiledAt (setup_of hash b) (world_of b messages) k st =
          later.compiled_is (setup_of hash b) (world_of b messages) k st e in
          record {
            number = ap (λ (y : Instance). y.contract) is.is;
            text = ap (λ (y : Instance). y.advert) is.is ∙ some_same (sym is.there ∙ text);
            compilation = some_same (sym code ∙ compiled_here ∙ ap (option_map (numbered hash)) e);
          }

  -- nothing is shown of a contract that isn't there, or isn't compiled
  pub no_text : slice_get b.contracts k ≡ None → Shows hash k (instance_on hash b messages k) None
  no_text e = subst (λ o. Shows hash k o None) (sym (ap (instance_if_complete (world_of b messages) k) e)) tt

  pub no_code : compiled_at b.compiled k ≡ None → Shows hash k (instance_on hash b messages k) None
  no_code e = by_instance (instance_on hash b messages k) refl
    where
      by_instance : (o : Option Instance) → instance_on hash b messages k ≡ o → Shows hash k o None
      by_instance None f = tt
      by_instance (Some st) f =
          let gone : None ≡ Some (numbered hash st) = sym e ∙ compiled_here ∙ ap (option_map (numbered hash)) f in
          absurd cc

-- ---- what is shown

-- the nodes of what is shown are those of its text
pub shown_nodes : (hash : List ℕ → List ℕ) (k : ℕ) (o : Option Instance) (advert : Advert) (compiled : Numbered)
    → Shows hash k o (Some (advert, compiled)) → compiled.nodes ≡ nodes_of advert.root
shown_nodes hash k None advert compiled h = absurd h
shown_nodes hash k (Some st) advert compiled h =
    ap (λ (n : Numbered). n.nodes) h.compilation ∙ ap (λ (a : Advert). nodes_of a.root) h.text

-- where nothing is shown, nothing is compiled
pub not_shown : (hash : List ℕ → List ℕ) (k : ℕ) (o : Option Instance) → Shows hash k o None → o ≡ None
not_shown hash k None h = refl
not_shown hash k (Some st) h = absurd h

-- what is shown is what the contract of this number and text is compiled to
pub shown_gives : {P : Type 0} (hash : List ℕ → List ℕ) (k : ℕ) (o : Option Instance) (advert : Advert) (compiled : Numbered)
    → Shows hash k o (Some (advert, compiled))
    → ((st : Instance) → compiled ≡ numbered hash st → st.contract ≡ k → st.advert ≡ advert → P) → P
shown_gives hash k None advert compiled h f = absurd h
shown_gives hash k (Some st) advert compiled h f = f st h.compilation h.number h.text
