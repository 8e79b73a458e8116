-- What the passes over the nodes give is what a contract is defined to be compiled to.
use Rattle.std.proofs.Common.{◌≡◌, ℕ, ◌+◌, List, [], ◌∷◌, ◌++◌, map, true, false, Option, Some, None, refl, sym, ap, ◌∙◌, append-nil}
use Rattle.std.specs.Prelude.{slice_get, option_map, unwrap_or}
use Rattle.std.specs.List.{flat_map}
use Rattle.std.proofs.lemmas.Option.{slice_get-map, unwrap_or-slice_get}
use Rattle.spec_terms.specs.declared.path.PathStep.{PathStep}
use Rattle.spec_bitcoin.specs.Keys.{label_text}
use Rattle.spec_compiler.specs.declared.prepared.Prepared.{Prepared}
use Rattle.spec_compiler.specs.Keyed.Keys.{Keys, by_plan, given as handed}
use Rattle.spec_compiler.specs.Keyed.Instance.{Instance, people, branch_label, branch_keys, position_script}
use Rattle.spec_compiler.specs.Keyed.Transactions.{prepared, initial_unsigned}
use Rattle.spec_compiler.specs.Keyed.Compilation.{compilation, path_transactions, scripts}
use Rattle.spec_compiler.specs.Keyed.Hashed.{key_strings}
use Rattle.spec_nodes.specs.Nodes.{Node, choice_node, branch_node, nodes_of}
use Rattle.theory_nodes.specs.Keyed.Walk.{node_script, script_of, walk, node_paths, listed_scripts, NodesGiveTransactions, NodesGivePaths, NodesGiveScripts}
use Rattle.theory_nodes.proofs.Begins.{Begins, begins_get, begins_right}
use Rattle.theory_script.specs.Keyed.Listed.{are_once, PathsInOrder}
use Rattle.bm_compile.specs.Numbered.{named, keys_of_branches}
use Rattle.bm_compile.proofs.Chains.{map-view}
use Rattle.bm_compile.proofs.Places.{named_paths, named_positions}
use Rattle.bm_compile.specs.Passes.{keys_of_node, labels_of_path, labels_of_node, script_of_node, scripts_of_node, listed_script, root_with}

-- ---- lists

flat_map-map : {X Y Z : Type 0} (g : X → Y) (f : Y → List Z) (xs : List X) → flat_map f (map g xs) ≡ flat_map (λ x. f (g x)) xs
flat_map-map g f [] = refl
flat_map-map g f (x ∷ xs) = ap (λ l. f (g x) ++ l) (flat_map-map g f xs)

singles : {X Y : Type 0} (f : X → Y) (xs : List X) → flat_map (λ x. f x ∷ []) xs ≡ map f xs
singles f [] = refl
singles f (x ∷ xs) = ap (λ l. f x ∷ l) (singles f xs)

abbrev no_strings : List (List ℕ)
no_strings = []

none_of : {X : Type 0} (xs : List X) → flat_map (λ x. no_strings) xs ≡ no_strings
none_of [] = refl
none_of (x ∷ xs) = none_of xs

-- what is hashed to have the keys of a path, participant by participant
labels_here : (keys : Keys) (s : Instance) (path : List PathStep) → labels_of_path keys s path ≡ key_strings keys s path
labels_here by_plan s path = singles (λ party. label_text (branch_label s.contract path party)) (people s)
labels_here (handed keys own) s path = none_of (people s)

module _ (hash : List ℕ → List ℕ) (keys : Keys) (s : Instance) where
  -- ---- keys

  labels_of_paths : (ns : List Node) → flat_map (labels_of_node keys s) ns ≡ flat_map (key_strings keys s) (node_paths ns)
  labels_of_paths [] = refl
  labels_of_paths (choice_node position branches ∷ ns) = labels_of_paths ns
  labels_of_paths (branch_node path asked height deed ∷ ns) = λ j. labels_here keys s path j ++ labels_of_paths ns j

  -- the labels of the branches' nodes are those of the contract's paths
  pub labels_whole : {X : Type 0} (view : X → Node) (xs : List X) → NodesGivePaths → map view xs ≡ nodes_of s.advert.root
      → flat_map (λ x. labels_of_node keys s (view x)) xs ≡ flat_map (λ p. key_strings keys s p.0) (path_transactions hash keys s)
  labels_whole view xs paths is =
      sym (flat_map-map view (labels_of_node keys s) xs)
      ∙ ap (flat_map (labels_of_node keys s)) is
      ∙ labels_of_paths (nodes_of s.advert.root)
      ∙ ap (flat_map (key_strings keys s)) (paths hash keys s)
      ∙ flat_map-map (λ p. p.0) (key_strings keys s) (path_transactions hash keys s)

  -- the keys of the branches' nodes are those of their paths
  kept_keys : (ns : List Node) → keys_of_branches ns (map (keys_of_node hash keys s) ns) ≡ map (branch_keys hash keys s) (node_paths ns)
  kept_keys [] = refl
  kept_keys (choice_node position branches ∷ ns) = kept_keys ns
  kept_keys (branch_node path asked height deed ∷ ns) = ap (λ l. branch_keys hash keys s path ∷ l) (kept_keys ns)

  pub keys_whole : (ns : List Node) (table : List (List (List ℕ))) → NodesGivePaths → ns ≡ nodes_of s.advert.root
      → table ≡ map (keys_of_node hash keys s) (nodes_of s.advert.root)
      → keys_of_branches ns table ≡ map (λ p. branch_keys hash keys s p.0) (compilation hash keys s).paths
  keys_whole ns table given is made =
      (λ j. keys_of_branches (is j) (made j))
      ∙ kept_keys (nodes_of s.advert.root)
      ∙ ap (map (branch_keys hash keys s)) (given hash keys s)
      ∙ map-view (λ p. p.0) (branch_keys hash keys s) (path_transactions hash keys s)
      ∙ sym (map-view (λ p. (p.0, prepared hash p.1)) (λ p. branch_keys hash keys s p.0) (path_transactions hash keys s))

  -- ---- scripts

  module _ (all : List Node) where
    script_or_none : (o : Option Node) → unwrap_or (option_map (script_of_node hash keys s all) o) [] ≡ node_script hash keys s all o
    script_or_none None = refl
    script_or_none (Some (choice_node position branches)) = refl
    script_or_none (Some (branch_node path asked height deed)) = refl

    listed_is : (n : ℕ) → listed_script (map (script_of_node hash keys s all) all) n ≡ script_of hash keys s all n
    unfolding script_of
    listed_is n =
        sym (unwrap_or-slice_get (map (script_of_node hash keys s all) all) n [])
        ∙ ap (λ o. unwrap_or o []) (slice_get-map (script_of_node hash keys s all) all n)
        ∙ script_or_none (slice_get all n)

    script_here : (n : ℕ) (node : Node) → slice_get all n ≡ Some node → script_of hash keys s all n ≡ node_script hash keys s all (Some node)
    unfolding script_of
    script_here n node e = ap (node_script hash keys s all) e

    -- the choices' scripts are the listed ones
    strings_of_scripts : (n : ℕ) (ns : List Node) → Begins all n ns → flat_map (scripts_of_node hash keys s all) ns
        ≡ map (λ p. p.1) (listed_scripts (script_of hash keys s all) n ns)
    strings_of_scripts n [] b = refl
    strings_of_scripts n (choice_node position branches ∷ ns) b =
        let here = script_here n (choice_node position branches) (begins_get all n (choice_node position branches) ns b) in
        let rest = strings_of_scripts (n + 1) ns (begins_right all n 1 (choice_node position branches ∷ []) ns refl b) in
        λ j. sym here j ∷ rest j
    strings_of_scripts n (branch_node path asked height deed ∷ ns) b =
        strings_of_scripts (n + 1) ns (begins_right all n 1 (branch_node path asked height deed ∷ []) ns refl b)

  pub scripts_whole : {X : Type 0} (view : X → Node) (xs : List X) (table : List (List ℕ)) → map view xs ≡ nodes_of s.advert.root
      → table ≡ map (λ x. script_of_node hash keys s (map view xs) (view x)) xs → (n : ℕ) → listed_script table n
      ≡ script_of hash keys s (nodes_of s.advert.root) n
  scripts_whole view xs table is made n =
      ap (λ t. listed_script t n) (made ∙ sym (map-view view (script_of_node hash keys s (map view xs)) xs))
      ∙ ap (λ l. listed_script (map (script_of_node hash keys s l) l) n) is
      ∙ listed_is (nodes_of s.advert.root) n

  whole : (ns : List Node) → Begins ns 0 ns
  whole ns = record { rest = []; is = sym (append-nil ns) }

  pub strings_whole : {X : Type 0} (view : X → Node) (xs : List X) → NodesGiveScripts → map view xs ≡ nodes_of s.advert.root
      → flat_map (λ x. scripts_of_node hash keys s (map view xs) (view x)) xs ≡ map (λ p. p.1) (scripts hash keys s)
  strings_whole view xs given is =
      let all = nodes_of s.advert.root in
      sym (flat_map-map view (scripts_of_node hash keys s (map view xs)) xs)
      ∙ ap (λ l. flat_map (scripts_of_node hash keys s l) l) is
      ∙ strings_of_scripts all 0 all (whole all)
      ∙ ap (map (λ p. p.1)) (given hash keys s)

  abbrev head_script : List (List PathStep × List ℕ) → List ℕ
  head_script [] = []
  head_script (p ∷ ps) = p.1

  -- the first of them is the root's
  pub root_script : NodesGiveScripts → script_of hash keys s (nodes_of s.advert.root) 0 ≡ position_script hash keys s [] s.advert.root
  root_script given = ap head_script (given hash keys s)

  -- ---- transactions

  pub walk_whole : (script : ℕ → List ℕ) (ns : List Node) (init : Prepared) → NodesGiveTransactions → ns ≡ nodes_of s.advert.root
      → ((n : ℕ) → script n ≡ script_of hash keys s (nodes_of s.advert.root) n) → init ≡ prepared hash (initial_unsigned hash keys s)
      → walk hash keys s script ns (root_with s init.txid ∷ []) ≡ path_transactions hash keys s
  walk_whole script ns init given is same made =
      ap (λ l. walk hash keys s script l (root_with s init.txid ∷ [])) is
      ∙ ap (λ p. walk hash keys s script (nodes_of s.advert.root) (root_with s p.txid ∷ [])) made
      ∙ (λ j. walk hash keys s (λ n. same n j) (nodes_of s.advert.root) (root_with s (prepared hash (initial_unsigned hash keys s)).txid ∷ []))
      ∙ given hash keys s

  pub listed_whole : (script : ℕ → List ℕ) (ns : List Node) → NodesGiveScripts → ns ≡ nodes_of s.advert.root
      → ((n : ℕ) → script n ≡ script_of hash keys s (nodes_of s.advert.root) n) → listed_scripts script 0 ns ≡ scripts hash keys s
  listed_whole script ns given is same =
      ap (listed_scripts script 0) is
      ∙ (λ j. listed_scripts (λ n. same n j) 0 (nodes_of s.advert.root))
      ∙ given hash keys s

  -- ---- paths

  pub paths_named : NodesGivePaths → map (λ p. p.0) (compilation hash keys s).paths ≡ named true (nodes_of s.advert.root)
  paths_named given =
      map-view (λ p. (p.0, prepared hash p.1)) (λ p. p.0) (path_transactions hash keys s)
      ∙ sym (given hash keys s)
      ∙ named_paths (nodes_of s.advert.root)

  pub paths_once : PathsInOrder → are_once (map (λ p. p.0) (compilation hash keys s).paths) ≡ true
  paths_once given = let i = given hash keys s in ap are_once i.paths ∙ i.paths_once

  pub scripts_named : NodesGiveScripts → map (λ p. p.0) (scripts hash keys s) ≡ named false (nodes_of s.advert.root)
  scripts_named given =
      ap (map (λ p. p.0)) (sym (given hash keys s))
      ∙ named_positions (script_of hash keys s (nodes_of s.advert.root)) 0 (nodes_of s.advert.root)

  pub scripts_once : PathsInOrder → are_once (map (λ p. p.0) (scripts hash keys s)) ≡ true
  scripts_once given = let i = given hash keys s in ap are_once i.scripts ∙ i.scripts_once
