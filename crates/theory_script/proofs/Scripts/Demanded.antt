-- What is proved of the script of a position, by what its branches ask for.
use Rattle.std.specs.Prelude.{◌≡◌, ℕ, ◌<◌, ◌≤◌, List, [], ◌∷◌, ◌++◌, length, map, Bool, true, ◌&&◌, slice_get, reverse, Some}
use Rattle.std.specs.List.{list_all}
use Rattle.spec_data.specs.Lists.{is_among}
use Rattle.spec_terms.specs.Term.{Expr, constant, length_of, plus, minus, Pred, always, both, negation, equal, less}
use Rattle.spec_terms.specs.Value.{holds}
use Rattle.spec_terms.specs.Bound.{is_bounded}
use Rattle.spec_bitcoin.specs.Effects.{Item, truth}
use Rattle.spec_bitcoin.specs.Scripts.{encode, counted, script_ops}
use Rattle.spec_bitcoin.specs.Meaning.{script_meaning}
use Rattle.spec_compiler.specs.Scripts.{Demands, output_ops}
use Rattle.spec_compiler.specs.Witness.{selection}
use Rattle.spec_compiler.specs.Statements.{are_valid, are_secrets, secret_lengths, has_size}
use Rattle.theory_script.proofs.Sizes.Cost.{cost_bytes, cost_operations}

-- whether each length of an expression is of one of the names
abbrev pub covers : List (List ℕ) → Expr → Bool
covers names (constant n) = true
covers names (length_of a) = is_among a names
covers names (plus e f) = covers names e && covers names f
covers names (minus e f) = covers names e && covers names f

-- the same of a predicate
abbrev pub covers_test : List (List ℕ) → Pred → Bool
covers_test names always = true
covers_test names (negation p) = covers_test names p
covers_test names (both p q) = covers_test names p && covers_test names q
covers_test names (equal e f) = covers names e && covers names f
covers_test names (less e f) = covers names e && covers names f

-- the stack, from its top, is selectors, secrets and signatures that open branch i
pub record Unlocks (hash : Item → Item) (valid : Item → Item → Bool) (branches : List Demands) (stack : List Item) : Type 0 where
  pub i : ℕ
  pub b : Demands
  pub selectors : List Item
  pub secrets : List Item
  pub signatures : List Item
  pub is_branch : slice_get branches i ≡ Some b
  pub is_stack : stack ≡ selectors ++ (secrets ++ signatures)
  pub selects : map truth selectors ≡ selection i (length branches)
  pub fits : are_secrets hash secrets b.digests ≡ true
  pub predicate : holds (secret_lengths b.names secrets) b.test ≡ true
  pub signed : are_valid valid signatures b.keys ≡ true

-- what a checked contract's branch keeps
pub record IsWell (b : Demands) : Type 0 where
  pub same_length : length b.names ≡ length b.digests
  pub known : covers_test b.names b.test ≡ true
  pub bounded : is_bounded b.test ≡ true
  pub some_key : 0 < length b.keys
  pub digest_sizes : list_all (has_size 32) b.digests ≡ true
  pub key_sizes : list_all (has_size 33) b.keys ≡ true
  pub no_test : length b.digests ≡ 0 → b.test ≡ always

abbrev pub AllWell : List Demands → Type 0
AllWell [] = Unit {0}
AllWell (b ∷ branches) = IsWell b × AllWell branches

-- what a checked contract's position keeps
pub record IsChecked (branches : List Demands) : Type 0 where
  pub some_branch : 0 < length branches
  pub well : AllWell branches
  pub bytes : cost_bytes branches ≤ 10000
  pub operations : cost_operations branches ≤ 201

-- the script is true on a stack, given from its bottom, exactly where the stack opens one of the branches
pub record SaysUnlocks (hash : Item → Item) (valid : Item → Item → Bool) (branches : List Demands) (stack : List Item) : Type 0 where
  pub true_unlocks : script_meaning hash valid (encode (output_ops branches)) stack ≡ true → Unlocks hash valid branches (reverse stack)
  pub unlocks_true : Unlocks hash valid branches (reverse stack) → script_meaning hash valid (encode (output_ops branches)) stack ≡ true

-- its size is the cost, and its bytes spell the operations
pub record HasSize (branches : List Demands) : Type 0 where
  pub bytes : length (encode (output_ops branches)) ≡ cost_bytes branches
  pub operations : counted (output_ops branches) ≡ cost_operations branches
  pub spells : script_ops (encode (output_ops branches)) ≡ Some (output_ops branches)
