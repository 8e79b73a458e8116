-- The contracts of a board that are compiled.
use Rattle.std.specs.Prelude.{◌≡◌, ℕ, List, Option, Some, None}
use Rattle.spec_terms.specs.Advert.{Advert}
use Rattle.spec_compiler.specs.Instance.{Instance}
use Rattle.spec_run.specs.Compiled.{compiled_instance}
use Rattle.bm_compile.specs.Numbered.{Numbered, numbered}
use Rattle.bm_match.specs.Matches.{all_compiled}
use Rattle.bm_world_board.specs.declared.board.Board.{Board}
use Rattle.bm_world_board.specs.Prepares.{setup_of, world_of}

-- the board has what its contracts are compiled to, where these messages are hashed
abbrev pub AllCompiled : (List ℕ → List ℕ) → Board → List (List ℕ) → Type 0
AllCompiled hash b messages = b.compiled ≡ all_compiled (setup_of hash b) (world_of b messages)

-- what the contract of this number is compiled with, where it is
abbrev pub instance_on : (List ℕ → List ℕ) → Board → List (List ℕ) → ℕ → Option Instance
instance_on hash b messages k = compiled_instance (setup_of hash b) (world_of b messages) k

-- the contract of this number has this text and is compiled to this
pub record IsShown (hash : List ℕ → List ℕ) (k : ℕ) (instance : Instance) (advert : Advert) (compiled : Numbered) : Type 0 where
  pub number : instance.contract ≡ k
  pub text : instance.advert ≡ advert
  pub compilation : compiled ≡ numbered hash instance

-- it is shown where it is compiled, and nowhere else
abbrev pub Shows : (List ℕ → List ℕ) → ℕ → Option Instance → Option (Advert × Numbered) → Type 0
Shows hash k None None = Unit {0}
Shows hash k (Some instance) (Some p) = IsShown hash k instance (p.0) (p.1)
Shows hash k None (Some p) = ⊥
Shows hash k (Some instance) None = ⊥
