-- What is found by a node's number.
use Rattle.std.proofs.Common.{◌≡◌, ℕ, List, [], ◌∷◌, map, Bool, true, false, Option, Some, None, refl, sym, ap, ◌∙◌}
use Rattle.std.specs.Prelude.{slice_get, option_map, if◌then◌else◌}
use Rattle.std.specs.Option.{option_and_then}
use Rattle.std.proofs.lemmas.Option.{slice_get-map}
use Rattle.spec_terms.specs.Paths.{path_eq}
use Rattle.spec_terms.specs.PathSameness.{path_eq-Decides}
use Rattle.spec_terms.specs.declared.path.PathStep.{PathStep}
use Rattle.spec_compiler.specs.declared.prepared.Prepared.{Prepared}
use Rattle.spec_compiler.specs.ByPath.{prepared_at}
use Rattle.spec_compiler.specs.Instance.{Instance, branch_keys}
use Rattle.spec_nodes.specs.Nodes.{Node, choice_node, branch_node}
use Rattle.theory_script.specs.Listed.{PathsAreListed, ScriptsAreListed, at_path}
use Rattle.bm_compile.specs.Numbered.{Numbered, numbered, transaction_of, script_of, compiled_transaction, compiled_script}
use Rattle.bm_compile.specs.Numbered.{keys_of, keyed_paths, is_branch_at}

joined : {A V : Type 0} (f : A → Option V) (o : Option A) → option_and_then f o ≡ option_and_then (λ x. x) (option_map f o)
joined f None = refl
joined f (Some a) = refl

-- what two lists lead to at a number, where they lead to the same things in turn
pub same_found : {A B V : Type 0} (f : A → Option V) (g : B → Option V) (xs : List A) (ys : List B) (n : ℕ) → map f xs ≡ map g ys
    → option_and_then f (slice_get xs n) ≡ option_and_then g (slice_get ys n)
same_found f g xs ys n e =
    let here = joined f (slice_get xs n) ∙ ap (option_and_then (λ x. x)) (sym (slice_get-map f xs n)) in
    let there = joined g (slice_get ys n) ∙ ap (option_and_then (λ x. x)) (sym (slice_get-map g ys n)) in
    here ∙ ap (λ l. option_and_then (λ x. x) (slice_get l n)) e ∙ sym there

by_each : {A V : Type 0} (f g : A → Option V) (o : Option A) → ((a : A) → f a ≡ g a) → option_and_then f o ≡ option_and_then g o
by_each f g None h = refl
by_each f g (Some a) h = h a

module _ (hash : List ℕ → List ℕ) (s : Instance) (c : Numbered) (is : c ≡ numbered hash s) (n : ℕ) where
  transaction_is : PathsAreListed → (node : Node) → transaction_of c.paths node ≡ compiled_transaction hash s node
  transaction_is listed (choice_node position branches) = refl
  transaction_is listed (branch_node path asked height deed) = rw is (listed hash s path)

  script_is : ScriptsAreListed → (node : Node) → script_of c.scripts node ≡ compiled_script hash s node
  script_is listed (choice_node position branches) = rw is (listed hash s position)
  script_is listed (branch_node path asked height deed) = refl

  pub transaction_found : PathsAreListed → option_and_then (transaction_of c.paths) (slice_get c.nodes n)
      ≡ option_and_then (compiled_transaction hash s) (slice_get c.nodes n)
  transaction_found listed = by_each (transaction_of c.paths) (compiled_transaction hash s) (slice_get c.nodes n) (transaction_is listed)

  pub script_found : ScriptsAreListed → option_and_then (script_of c.scripts) (slice_get c.nodes n)
      ≡ option_and_then (compiled_script hash s) (slice_get c.nodes n)
  script_found listed = by_each (script_of c.scripts) (compiled_script hash s) (slice_get c.nodes n) (script_is listed)

-- ---- by the number of the branch at a path

transaction_here : (paths : List (List PathStep × Prepared)) (path : List PathStep) (o : Option Node) → option_map (is_branch_at path) o ≡ Some true
    → option_and_then (transaction_of paths) o ≡ at_path path paths
transaction_here paths path None h = cc
transaction_here paths path (Some (choice_node position branches)) h = cc
transaction_here paths path (Some (branch_node known asked height deed)) h =
    let same : path_eq known path ≡ true = cc in ap (λ p. at_path p paths) ((path_eq-Decides known path).0 same)

-- what its node has is what its path has
pub transaction_there : (paths : List (List PathStep × Prepared)) (path : List PathStep) (nodes : List Node) (n : ℕ)
    → option_map (is_branch_at path) (slice_get nodes n) ≡ Some true
    → option_and_then (transaction_of paths) (slice_get nodes n) ≡ at_path path paths
transaction_there paths path nodes n h = transaction_here paths path (slice_get nodes n) h

keys_here : (paths : List (List PathStep × Prepared)) (table : List (List (List ℕ))) (path : List PathStep) (o : Option Node)
    → option_map (is_branch_at path) o ≡ Some true → option_and_then (keys_of paths table) o ≡ at_path path (keyed_paths paths table)
keys_here paths table path None h = cc
keys_here paths table path (Some (choice_node position branches)) h = cc
keys_here paths table path (Some (branch_node known asked height deed)) h =
    let same : path_eq known path ≡ true = cc in
    ap (λ p. at_path p (keyed_paths paths table)) ((path_eq-Decides known path).0 same)

pub keys_there : (paths : List (List PathStep × Prepared)) (table : List (List (List ℕ))) (path : List PathStep) (nodes : List Node) (n : ℕ)
    → option_map (is_branch_at path) (slice_get nodes n) ≡ Some true
    → option_and_then (keys_of paths table) (slice_get nodes n) ≡ at_path path (keyed_paths paths table)
keys_there paths table path nodes n h = keys_here paths table path (slice_get nodes n) h

-- ---- keys that are worked out for each path

-- where each row is what this gives for its path, so is the row of each path that is listed
by_path : (keys : List PathStep → List (List ℕ)) (paths : List (List PathStep × Prepared)) (path : List PathStep)
    → at_path path (keyed_paths paths (map (λ p. keys p.0) paths)) ≡ option_map (λ made. keys path) (at_path path paths)
by_path keys [] path = refl
by_path keys (p ∷ ps) path = by_test (path_eq p.0 path) refl (by_path keys ps path)
  where
    by_test : (b : Bool) → path_eq p.0 path ≡ b
        → at_path path (keyed_paths ps (map (λ q. keys q.0) ps)) ≡ option_map (λ made. keys path) (at_path path ps)
        → (if b then Some (keys p.0) else at_path path (keyed_paths ps (map (λ q. keys q.0) ps)))
        ≡ option_map (λ made. keys path) (if b then Some (p.1) else at_path path ps)
    by_test true e ih = ap (λ q. Some (keys q)) ((path_eq-Decides p.0 path).0 e)
    by_test false e ih = ih

pub keys_planned : (hash : List ℕ → List ℕ) (s : Instance) (c : Numbered) (path : List PathStep) → PathsAreListed → c ≡ numbered hash s
    → at_path path (keyed_paths c.paths c.keys) ≡ option_map (λ made. branch_keys hash s path) (prepared_at hash s path)
keys_planned hash s c path listed is =
    ap (λ n. at_path path (keyed_paths n.paths n.keys)) is
    ∙ by_path (branch_keys hash s) (numbered hash s).paths path
    ∙ ap (option_map (λ made. branch_keys hash s path)) (listed hash s path)
