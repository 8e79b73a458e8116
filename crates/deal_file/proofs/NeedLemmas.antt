-- What the nodes of a contract need is what its branches need; all needs in order.
use Rattle.std.proofs.Common.{◌≡◌, ℕ, List, [], ◌∷◌, ◌++◌, map, refl, sym, ap, ◌∙◌, append_assoc}
use Rattle.std.specs.List.{flat_map}
use Rattle.spec_terms.specs.Advert.{Advert}
use Rattle.spec_terms.specs.Order.{branch_paths}
use Rattle.spec_terms.specs.Parties.{participants}
use Rattle.spec_terms.specs.Precondition.{deposits, secrets, names_of}
use Rattle.spec_terms.specs.declared.path.PathStep.{PathStep}
use Rattle.spec_bitcoin.specs.declared.label.Label.TheVariants as labels
use Rattle.spec_compiler.specs.declared.prepared.Prepared.{Prepared}
use Rattle.spec_compiler.specs.declared.unsigned.Unsigned.{Unsigned}
use Rattle.spec_compiler.specs.Keyed.Keys.{by_plan}
use Rattle.spec_compiler.specs.Keyed.Instance.{Instance, branch_label}
use Rattle.spec_compiler.specs.Keyed.Compilation.{path_transactions}
use Rattle.spec_compiler.specs.Keyed.Transactions.{prepared}
use Rattle.spec_nodes.specs.Nodes.{Node, choice_node, branch_node, nodes_of}
use Rattle.spec_deal.specs.declared.deal.Needed.{Needed}
use Rattle.spec_deal.specs.declared.deal.Needed.TheVariants as needs
use Rattle.spec_deal.specs.Needed.{deal_contract, path_labels, needed_labels, needed_deposits, needed_secrets, needed}
use Rattle.theory_script.proofs.Keyed.InOrder.{paths_in_order}
use Rattle.theory_nodes.specs.Keyed.Walk.{node_paths}
use Rattle.theory_nodes.proofs.Keyed.Walking.{paths_listed}
use Rattle.deal_file.specs.Needs.{party_need, path_needs, node_needs}

-- ---- nodes

abbrev nothing : List ℕ → List ℕ
nothing x = x

-- any instance of a contract
abbrev bare : Advert → Instance
bare advert = record { contract = deal_contract; advert = advert; bound = []; hashes = [] }

prefixes : (es : List (List PathStep × Unsigned))
    → map (λ (p : List PathStep × Prepared). p.0) (map (λ (p : List PathStep × Unsigned). (p.0, prepared nothing p.1)) es)
    ≡ map (λ (p : List PathStep × Unsigned). p.0) es
prefixes [] = refl
prefixes (e ∷ es) = ap (λ (ps : List (List PathStep)). e.0 ∷ ps) (prefixes es)

paths_of_nodes : (advert : Advert) → node_paths (nodes_of advert.root) ≡ branch_paths advert.root
paths_of_nodes advert =
    paths_listed nothing by_plan (bare advert) ∙ sym (prefixes (path_transactions nothing by_plan (bare advert)))
    ∙ paths_in_order nothing by_plan (bare advert)

by_paths : (parties : List (List ℕ)) (ns : List Node) → flat_map (node_needs parties) ns ≡ flat_map (path_needs parties) (node_paths ns)
by_paths parties [] = refl
by_paths parties (choice_node position branches ∷ ns) = by_paths parties ns
by_paths parties (branch_node path asked height deed ∷ ns) = ap (λ more. path_needs parties path ++ more) (by_paths parties ns)

pub node_needs_all : (parties : List (List ℕ)) (advert : Advert) (ns : List Node) → ns ≡ nodes_of advert.root
    → flat_map (node_needs parties) ns ≡ flat_map (path_needs parties) (branch_paths advert.root)
node_needs_all parties advert ns here =
    ap (flat_map (node_needs parties)) here ∙ by_paths parties (nodes_of advert.root)
    ∙ ap (flat_map (path_needs parties)) (paths_of_nodes advert)

-- ---- all needs

map_both : {A B : Type 0} (f : A → B) (xs ys : List A) → map f (xs ++ ys) ≡ map f xs ++ map f ys
map_both f [] ys = refl
map_both f (x ∷ xs) ys = ap (λ more. f x ∷ more) (map_both f xs ys)

map_twice : {A B C : Type 0} (f : B → C) (g : A → B) (xs : List A) → map f (map g xs) ≡ map (λ x. f (g x)) xs
map_twice f g [] = refl
map_twice f g (x ∷ xs) = ap (λ more. f (g x) ∷ more) (map_twice f g xs)

of_paths : (advert : Advert) (paths : List (List PathStep))
    → map needs.Key (flat_map (path_labels advert) paths) ≡ flat_map (path_needs (participants advert)) paths
of_paths advert [] = refl
of_paths advert (path ∷ paths) =
    map_both needs.Key (path_labels advert path) (flat_map (path_labels advert) paths)
    ∙ (λ j. map_twice needs.Key (branch_label deal_contract path) (participants advert) j ++ of_paths advert paths j)

of_labels : (advert : Advert)
    → map needs.Key (needed_labels advert)
    ≡ map party_need (participants advert) ++ flat_map (path_needs (participants advert)) (branch_paths advert.root)
of_labels advert =
    map_both needs.Key (map (λ party. labels.Deposit party) (participants advert)) (flat_map (path_labels advert) (branch_paths advert.root))
    ∙ (λ j. map_twice needs.Key (λ party. labels.Deposit party) (participants advert) j ++ of_paths advert (branch_paths advert.root) j)

pub needed_parts : (advert : Advert)
    → needed advert
    ≡ map party_need (participants advert) ++ (flat_map (path_needs (participants advert)) (branch_paths advert.root)
    ++ (map needs.Deposit (names_of (deposits advert.pre)) ++ map needs.Hash (names_of (secrets advert.pre))))
needed_parts advert =
    ap (λ (prefix : List Needed). prefix ++ (map needs.Deposit (needed_deposits advert) ++ map needs.Hash (needed_secrets advert)))
    (of_labels advert)
    ∙ append_assoc (map party_need (participants advert)) (flat_map (path_needs (participants advert)) (branch_paths advert.root))
    (map needs.Deposit (names_of (deposits advert.pre)) ++ map needs.Hash (names_of (secrets advert.pre)))
