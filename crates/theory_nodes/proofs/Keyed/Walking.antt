-- A walk over the nodes makes the transactions of the term.
use Rattle.std.proofs.Common.{◌≡◌, ℕ, ◌+◌, List, [], ◌∷◌, ◌++◌, length, map, refl, sym, ap, ◌∙◌, arith, append_assoc, append-nil}
use Rattle.std.proofs.lemmas.List.{map-append}
use Rattle.std.specs.Prelude.{slice_get, replicate}
use Rattle.spec_terms.specs.Term as term
use Rattle.spec_terms.specs.Term.{auth, after, put_reveal, withdraw, split, Contract, no_branch, branch, branches, Parts, no_part, part}
use Rattle.spec_terms.specs.Core.{core, lock}
use Rattle.spec_terms.specs.declared.path.PathStep.{PathStep}
use Rattle.spec_bitcoin.specs.Scripts.{encode}
use Rattle.spec_compiler.specs.Keyed.Keys.{Keys}
use Rattle.spec_compiler.specs.Scripts.{demands_of, demands_from, output_ops}
use Rattle.spec_compiler.specs.declared.unsigned.Unsigned.{Unsigned}
use Rattle.spec_compiler.specs.Keyed.Instance.{Instance, branch_keys, branch_path, position_script}
use Rattle.spec_compiler.specs.Keyed.Transactions.{Standing, pays, part_position, part_outputs, core_unsigned, continued_value, continued, part_standing, put_deposits, output_outpoint, initial_unsigned, root_value, root_standing}
use Rattle.spec_compiler.specs.Keyed.Compilation.{choice_transactions, branch_transactions, parts_transactions, path_transactions, choice_scripts, branch_scripts, parts_scripts}
use Rattle.spec_nodes.specs.Nodes.{Node, choice_node, branch_node, asks_once, branch_count, branches_count, parts_count, choice_count, nodes_of, branch_numbers, part_numbers, branches_nodes, branch_nodes, parts_nodes, choice_nodes, choice_head, deed_of}
use Rattle.theory_nodes.proofs.Begins.{Begins, begins_left, begins_right, begins_get, length-branch_nodes, length-choice_nodes, below_nodes, branch_nodes-core}
use Rattle.theory_nodes.specs.declared.waiting.Waiting.{Waiting}
use Rattle.theory_nodes.specs.Keyed.Walk.{spent_of, node_demands, deed_demands, node_script, script_of, node_unsigned, parts_wait, walk, next_stack, made_by, root_waits, node_paths, listed_scripts, NodesGiveTransactions, NodesGivePaths, NodesGiveScripts}

module _ (hash : List ℕ → List ℕ) (keys : Keys) (s : Instance) (ns : List Node) where
  abbrev pub script : ℕ → List ℕ
  script = script_of hash keys s ns

  -- ---- the script of a choice by its number is that of its position

  core_demands : (n : ℕ) (b : term.Guarded) (own : List (List ℕ)) → deed_demands (deed_of n b) own s.hashes ≡ demands_of b own s.hashes
  core_demands n (put_reveal puts reveals test next) own = refl
  core_demands n (withdraw party) own = refl
  core_demands n (split parts) own = refl
  core_demands n (auth party body) own = refl
  core_demands n (after h body) own = refl

  demands_right : (position : List PathStep) (i n : ℕ) (c : Contract) → Begins ns n (branches_nodes position i n c)
      → map (λ m. node_demands hash keys s (slice_get ns m)) (branch_numbers n c)
      ≡ demands_from (λ k. branch_keys hash keys s (branch_path position k)) s.hashes i (branches c)
  demands_right position i n no_branch b = refl
  demands_right position i n (branch x xs) b =
      let path = branch_path position i in
      let here = branch_nodes path n (asks_once x) (lock x) x in
      let others = branches_nodes position (i + 1) (n + branch_count x) xs in
      let head = branch_node path (asks_once x) (lock x) (deed_of (n + 1) (core x)) in
      let whole : Begins ns n (head ∷ below_nodes path (n + 1) (core x)) = rw branch_nodes-core at (begins_left ns n here others b) in
      let got = begins_get ns n head (below_nodes path (n + 1) (core x)) whole in
      let rest = demands_right position (i + 1)
      (n + branch_count x) xs (begins_right ns n (branch_count x) here others (length-branch_nodes path n (asks_once x) (lock x) x) b) in
      λ j. (ap (node_demands hash keys s) got ∙ core_demands (n + 1) (core x) (branch_keys hash keys s path)) j ∷ rest j

  pub script_right : (position : List PathStep) (n : ℕ) (c : Contract) → Begins ns n (choice_nodes position n c)
      → script_of hash keys s ns n ≡ position_script hash keys s position c
  unfolding script_of position_script
  script_right position n c b =
      let got = begins_get ns n (choice_head position n c) (branches_nodes position 0 (n + 1) c) b in
      let under = begins_right ns n 1 (choice_head position n c ∷ []) (branches_nodes position 0 (n + 1) c) refl b in
      ap (node_script hash keys s ns) got ∙ ap (λ ds. encode (output_ops ds)) (demands_right position 0 (n + 1) c under)

  -- ---- the walk

  -- what waits at a position
  abbrev pub standing : List PathStep → Waiting → Standing
  standing position w = record { position = position; output = spent_of script w }

  pays_right : (path : List PathStep) (n v : ℕ) (c : Contract) → Begins ns n (choice_nodes path n c)
      → pays hash (script_of hash keys s ns n) v ≡ pays hash (position_script hash keys s path c) v
  pays_right path n v c b = ap (λ x. pays hash x v) (script_right path n c b)

  outputs_right : (path : List PathStep) (k n : ℕ) (ps : Parts) → Begins ns n (parts_nodes path k n ps)
      → map (λ p. pays hash (script_of hash keys s ns p.1) p.0) (part_numbers n ps) ≡ part_outputs hash keys s path k ps
  outputs_right path k n no_part b = refl
  outputs_right path k n (part v c ps) b =
      let here = choice_nodes (part_position path k) n c in
      let others = parts_nodes path (k + 1) (n + choice_count c) ps in
      let first = pays_right (part_position path k) n v c (begins_left ns n here others b) in
      let rest = outputs_right path (k + 1) (n + choice_count c) ps
      (begins_right ns n (choice_count c) here others (length-choice_nodes (part_position path k) n c) b) in
      λ j. first j ∷ rest j

  choice_under : (position : List PathStep) (n : ℕ) (c : Contract) → Begins ns n (choice_nodes position n c)
      → Begins ns (n + 1) (branches_nodes position 0 (n + 1) c)
  choice_under position n c b = begins_right ns n 1 (choice_head position n c ∷ []) (branches_nodes position 0 (n + 1) c) refl b

  mutual
    branches_walk : (position : List PathStep) (i n : ℕ) (c : Contract) (w : Waiting) (stack : List Waiting) (ys : List Node)
        → Begins ns n (branches_nodes position i n c)
        → walk hash keys s script (branches_nodes position i n c ++ ys) (replicate (length (branch_numbers n c)) w ++ stack)
        ≡ choice_transactions hash keys s (standing position w) i c ++ walk hash keys s script ys stack
    branches_walk position i n no_branch w stack ys b = refl
    branches_walk position i n (branch x xs) w stack ys b =
        let path = branch_path position i in
        let here = branch_nodes path n (asks_once x) (lock x) x in
        let others = branches_nodes position (i + 1) (n + branch_count x) xs in
        let under = begins_right ns n (branch_count x) here others (length-branch_nodes path n (asks_once x) (lock x) x) b in
        let more = replicate (length (branch_numbers (n + branch_count x) xs)) w ++ stack in
        ap (λ l. walk hash keys s script l (w ∷ more)) (append_assoc here others ys)
        ∙ branch_walk position i n (asks_once x) (lock x) x w more (others ++ ys) (begins_left ns n here others b)
        ∙ ap (λ l. branch_transactions hash keys s (standing position w) i (lock x) x ++ l)
        (branches_walk position (i + 1) (n + branch_count x) xs w stack ys under)
        ∙ sym (append_assoc (branch_transactions hash keys s (standing position w) i (lock x) x)
        (choice_transactions hash keys s (standing position w) (i + 1) xs) (walk hash keys s script ys stack))

    branch_walk : (position : List PathStep) (i n : ℕ) (asked : List (List ℕ)) (height : ℕ) (x : term.Guarded) (w : Waiting)
        (stack : List Waiting) (ys : List Node)
        → Begins ns n (branch_nodes (branch_path position i) n asked height x)
        → walk hash keys s script (branch_nodes (branch_path position i) n asked height x ++ ys) (w ∷ stack)
        ≡ branch_transactions hash keys s (standing position w) i height x ++ walk hash keys s script ys stack
    branch_walk position i n asked height (auth party body) w stack ys b = branch_walk position i n asked height body w stack ys b
    branch_walk position i n asked height (after h body) w stack ys b = branch_walk position i n asked height body w stack ys b
    branch_walk position i n asked height (withdraw party) w stack ys b = refl
    branch_walk position i n asked height (put_reveal puts reveals test next) w stack ys b =
        let path = branch_path position i in
        let deed = deed_of (n + 1) (put_reveal puts reveals test next) in
        let below = begins_right ns n 1 (branch_node path asked height deed ∷ []) (choice_nodes path (n + 1) next) refl b in
        let value = continued_value s w.value puts in
        let made : node_unsigned hash keys s script w height deed
        ≡ core_unsigned hash keys s (standing position w) i height (put_reveal puts reveals test next) =
        λ j. record { spends = spent_of script w ∷ put_deposits hash keys s puts; outputs = pays_right path (n + 1) value next below j ∷ []; lock = height } in
        let here : standing path (record { outpoint = output_outpoint hash (node_unsigned hash keys s script w height deed) 0; choice = n + 1; value = value })
        ≡ continued hash keys s path (core_unsigned hash keys s (standing position w) i height (put_reveal puts reveals test next)) value next =
        λ j. record {
          position = path;
          output = record { outpoint = output_outpoint hash (made j) 0; script = script_right path (n + 1) next below j; value = value };
        } in
        let rest = branches_walk path 0 (n + 1 + 1) next
        (record { outpoint = output_outpoint hash (node_unsigned hash keys s script w height deed) 0; choice = n + 1; value = value }) stack ys
        (choice_under path (n + 1) next below)
        ∙ ap (λ x. choice_transactions hash keys s x 0 next ++ walk hash keys s script ys stack) here in
        λ j. (path, made j) ∷ rest j
    branch_walk position i n asked height (split parts) w stack ys b =
        let path = branch_path position i in
        let deed = deed_of (n + 1) (split parts) in
        let below = begins_right ns n 1 (branch_node path asked height deed ∷ []) (parts_nodes path 0 (n + 1) parts) refl b in
        let made : node_unsigned hash keys s script w height deed ≡ core_unsigned hash keys s (standing position w) i height (split parts) =
        λ j. record { spends = spent_of script w ∷ []; outputs = outputs_right path 0 (n + 1) parts below j; lock = height } in
        let rest = parts_walk path (node_unsigned hash keys s script w height deed) 0 (n + 1) parts stack ys below
        ∙ ap (λ d. parts_transactions hash keys s path d 0 parts ++ walk hash keys s script ys stack) made in
        λ j. (path, made j) ∷ rest j

    parts_walk : (path : List PathStep) (d : Unsigned) (k n : ℕ) (ps : Parts) (stack : List Waiting) (ys : List Node) → Begins ns n (parts_nodes path k n ps)
        → walk hash keys s script (parts_nodes path k n ps ++ ys) (parts_wait hash d k (part_numbers n ps) ++ stack)
        ≡ parts_transactions hash keys s path d k ps ++ walk hash keys s script ys stack
    parts_walk path d k n no_part stack ys b = refl
    parts_walk path d k n (part v c ps) stack ys b =
        let position = part_position path k in
        let nodes = choice_nodes position n c in
        let others = parts_nodes path (k + 1) (n + choice_count c) ps in
        let first = begins_left ns n nodes others b in
        let under = begins_right ns n (choice_count c) nodes others (length-choice_nodes position n c) b in
        let w : Waiting = record { outpoint = output_outpoint hash d k; choice = n; value = v } in
        let more = parts_wait hash d (k + 1) (part_numbers (n + choice_count c) ps) ++ stack in
        let here : standing position w ≡ part_standing hash keys s path d k v c =
        λ j. record { position = position; output = record { outpoint = output_outpoint hash d k; script = script_right position n c first j; value = v } } in
        ap (λ l. walk hash keys s script l (w ∷ more)) (append_assoc nodes others ys)
        ∙ branches_walk position 0 (n + 1) c w more (others ++ ys) (choice_under position n c first)
        ∙ (λ j. choice_transactions hash keys s (here j) 0 c ++ parts_walk path d (k + 1) (n + choice_count c) ps stack ys under j)
        ∙ sym (append_assoc (choice_transactions hash keys s (part_standing hash keys s path d k v c) 0 c)
        (parts_transactions hash keys s path d (k + 1) ps) (walk hash keys s script ys stack))

  pub choice_walk : (position : List PathStep) (n : ℕ) (c : Contract) (w : Waiting) (stack : List Waiting) (ys : List Node)
      → Begins ns n (choice_nodes position n c)
      → walk hash keys s script (choice_nodes position n c ++ ys) (w ∷ stack) ≡ choice_transactions hash keys s (standing position w) 0 c
      ++ walk hash keys s script ys stack
  choice_walk position n c w stack ys b =
      branches_walk position 0 (n + 1) c w stack ys (choice_under position n c b)

  -- ---- lists over the nodes

  mutual
    paths_of_branches : (here : Standing) (i n : ℕ) (c : Contract) (ys : List Node)
        → node_paths (branches_nodes here.position i n c ++ ys) ≡ map (λ p. p.0) (choice_transactions hash keys s here i c) ++ node_paths ys
    paths_of_branches here i n no_branch ys = refl
    paths_of_branches here i n (branch x xs) ys =
        let nodes = branch_nodes (branch_path here.position i) n (asks_once x) (lock x) x in
        let others = branches_nodes here.position (i + 1) (n + branch_count x) xs in
        ap node_paths (append_assoc nodes others ys)
        ∙ paths_of_branch here i n (asks_once x) (lock x) x (others ++ ys)
        ∙ ap (λ l. map (λ p. p.0) (branch_transactions hash keys s here i (lock x) x) ++ l) (paths_of_branches here (i + 1) (n + branch_count x) xs ys)
        ∙ sym (append_assoc (map (λ p. p.0) (branch_transactions hash keys s here i (lock x) x))
        (map (λ p. p.0) (choice_transactions hash keys s here (i + 1) xs)) (node_paths ys))
        ∙ ap (λ l. l ++ node_paths ys) (sym (map-append (λ p. p.0) (branch_transactions hash keys s here i (lock x) x)
        (choice_transactions hash keys s here (i + 1) xs)))

    paths_of_branch : (here : Standing) (i n : ℕ) (asked : List (List ℕ)) (height : ℕ) (x : term.Guarded) (ys : List Node)
        → node_paths (branch_nodes (branch_path here.position i) n asked height x ++ ys)
        ≡ map (λ p. p.0) (branch_transactions hash keys s here i height x) ++ node_paths ys
    paths_of_branch here i n asked height (auth party body) ys = paths_of_branch here i n asked height body ys
    paths_of_branch here i n asked height (after h body) ys = paths_of_branch here i n asked height body ys
    paths_of_branch here i n asked height (withdraw party) ys = refl
    paths_of_branch here i n asked height (put_reveal puts reveals test next) ys =
        let path = branch_path here.position i in
        ap (λ l. path ∷ l) (paths_of_branches (continued hash keys s path
        (core_unsigned hash keys s here i height (put_reveal puts reveals test next)) (continued_value s here.output.value puts) next) 0
        (n + 1 + 1) next ys)
    paths_of_branch here i n asked height (split parts) ys =
        let path = branch_path here.position i in
        ap (λ l. path ∷ l) (paths_of_parts path (core_unsigned hash keys s here i height (split parts)) 0 (n + 1) parts ys)

    paths_of_parts : (path : List PathStep) (d : Unsigned) (k n : ℕ) (ps : Parts) (ys : List Node)
        → node_paths (parts_nodes path k n ps ++ ys) ≡ map (λ p. p.0) (parts_transactions hash keys s path d k ps) ++ node_paths ys
    paths_of_parts path d k n no_part ys = refl
    paths_of_parts path d k n (part v c ps) ys =
        let here = part_standing hash keys s path d k v c in
        let others = parts_nodes path (k + 1) (n + choice_count c) ps in
        ap node_paths (append_assoc (choice_nodes (part_position path k) n c) others ys)
        ∙ paths_of_branches here 0 (n + 1) c (others ++ ys)
        ∙ ap (λ l. map (λ p. p.0) (choice_transactions hash keys s here 0 c) ++ l) (paths_of_parts path d (k + 1) (n + choice_count c) ps ys)
        ∙ sym (append_assoc (map (λ p. p.0) (choice_transactions hash keys s here 0 c))
        (map (λ p. p.0) (parts_transactions hash keys s path d (k + 1) ps)) (node_paths ys))
        ∙ ap (λ l. l ++ node_paths ys) (sym (map-append (λ p. p.0) (choice_transactions hash keys s here 0 c)
        (parts_transactions hash keys s path d (k + 1) ps)))

  mutual
    scripts_of_branches : (position : List PathStep) (i n m : ℕ) (c : Contract) (ys : List Node) → m ≡ n + branches_count c
        → Begins ns n (branches_nodes position i n c)
        → listed_scripts script n (branches_nodes position i n c ++ ys) ≡ choice_scripts hash keys s position i c ++ listed_scripts script m ys
    scripts_of_branches position i n m no_branch ys e b = let z : n ≡ m = omega (arith, e) in ap (λ k. listed_scripts script k ys) z
    scripts_of_branches position i n m (branch x xs) ys e b =
        let path = branch_path position i in
        let nodes = branch_nodes path n (asks_once x) (lock x) x in
        let others = branches_nodes position (i + 1) (n + branch_count x) xs in
        let under = begins_right ns n (branch_count x) nodes others (length-branch_nodes path n (asks_once x) (lock x) x) b in
        ap (listed_scripts script n) (append_assoc nodes others ys)
        ∙ scripts_of_branch path n (n + branch_count x) (asks_once x) (lock x) x (others ++ ys) refl (begins_left ns n nodes others b)
        ∙ ap (λ l. branch_scripts hash keys s path x ++ l) (scripts_of_branches position (i + 1) (n + branch_count x) m xs ys (omega (arith, e)) under)
        ∙ sym (append_assoc (branch_scripts hash keys s path x) (choice_scripts hash keys s position (i + 1) xs) (listed_scripts script m ys))

    scripts_of_branch : (path : List PathStep) (n m : ℕ) (asked : List (List ℕ)) (height : ℕ) (x : term.Guarded) (ys : List Node) → m
        ≡ n + branch_count x → Begins ns n (branch_nodes path n asked height x)
        → listed_scripts script n (branch_nodes path n asked height x ++ ys) ≡ branch_scripts hash keys s path x ++ listed_scripts script m ys
    scripts_of_branch path n m asked height (auth party body) ys e b = scripts_of_branch path n m asked height body ys e b
    scripts_of_branch path n m asked height (after h body) ys e b = scripts_of_branch path n m asked height body ys e b
    scripts_of_branch path n m asked height (withdraw party) ys e b = ap (λ k. listed_scripts script k ys) (sym e)
    scripts_of_branch path n m asked height (put_reveal puts reveals test next) ys e b =
        let below = begins_right ns n 1 (branch_node path asked height (deed_of (n + 1) (put_reveal puts reveals test next)) ∷ [])
        (choice_nodes path (n + 1) next) refl b in
        let rest = scripts_of_branches path 0 (n + 1 + 1) m next ys (omega (arith, e)) (choice_under path (n + 1) next below) in
        λ j. (path, script_right path (n + 1) next below j) ∷ rest j
    scripts_of_branch path n m asked height (split parts) ys e b =
        scripts_of_parts path 0 (n + 1) m parts ys (omega (arith, e))
        (begins_right ns n 1 (branch_node path asked height (deed_of (n + 1) (split parts)) ∷ []) (parts_nodes path 0 (n + 1) parts) refl b)

    scripts_of_parts : (path : List PathStep) (k n m : ℕ) (ps : Parts) (ys : List Node) → m ≡ n + parts_count ps → Begins ns n (parts_nodes path k n ps)
        → listed_scripts script n (parts_nodes path k n ps ++ ys) ≡ parts_scripts hash keys s path k ps ++ listed_scripts script m ys
    scripts_of_parts path k n m no_part ys e b = let z : n ≡ m = omega (arith, e) in ap (λ j. listed_scripts script j ys) z
    scripts_of_parts path k n m (part v c ps) ys e b =
        let position = part_position path k in
        let nodes = choice_nodes position n c in
        let others = parts_nodes path (k + 1) (n + choice_count c) ps in
        let first = begins_left ns n nodes others b in
        let under = begins_right ns n (choice_count c) nodes others (length-choice_nodes position n c) b in
        let rest = scripts_of_branches position 0 (n + 1) (n + choice_count c) c (others ++ ys) (omega arith) (choice_under position n c first) in
        ap (listed_scripts script n) (append_assoc nodes others ys)
        ∙ (λ j. (position, script_right position n c first j) ∷ rest j)
        ∙ ap (λ l. ((position, position_script hash keys s position c) ∷ choice_scripts hash keys s position 0 c) ++ l)
        (scripts_of_parts path (k + 1) (n + choice_count c) m ps ys (omega (arith, e)) under)
        ∙ sym (append_assoc ((position, position_script hash keys s position c) ∷ choice_scripts hash keys s position 0 c)
        (parts_scripts hash keys s path (k + 1) ps) (listed_scripts script m ys))

-- ---- the whole

whole : (c : Contract) → Begins (nodes_of c) 0 (choice_nodes [] 0 c)
whole c = record { rest = []; is = sym (append-nil (nodes_of c)) }

pub transactions_walked : NodesGiveTransactions
transactions_walked hash keys s =
    let root = s.advert.root in
    let ns = nodes_of root in
    let here : standing hash keys s ns [] (root_waits hash keys s) ≡ root_standing hash keys s =
    λ j. record {
      position = [];
      output = record {
        outpoint = output_outpoint hash (initial_unsigned hash keys s) 0;
        script = script_right hash keys s ns [] 0 root (whole root) j;
        value = root_value s;
      };
    } in
    ap (λ l. walk hash keys s (script_of hash keys s ns) l (root_waits hash keys s ∷ [])) (sym (append-nil ns))
    ∙ choice_walk hash keys s ns [] 0 root (root_waits hash keys s) [] [] (whole root)
    ∙ append-nil (choice_transactions hash keys s (standing hash keys s ns [] (root_waits hash keys s)) 0 root)
    ∙ ap (λ x. choice_transactions hash keys s x 0 root) here

pub paths_listed : NodesGivePaths
paths_listed hash keys s =
    let root = s.advert.root in
    ap node_paths (sym (append-nil (nodes_of root)))
    ∙ paths_of_branches hash keys s (nodes_of root) (root_standing hash keys s) 0 1 root []
    ∙ append-nil (map (λ p. p.0) (path_transactions hash keys s))

pub scripts_listed : NodesGiveScripts
scripts_listed hash keys s =
    let root = s.advert.root in
    let ns = nodes_of root in
    let rest = scripts_of_branches hash keys s ns [] 0 1 (1 + branches_count root) root [] refl (choice_under hash keys s ns [] 0 root (whole root)) in
    ap (listed_scripts (script_of hash keys s ns) 0) (sym (append-nil ns))
    ∙ (λ j. ([], script_right hash keys s ns [] 0 root (whole root) j) ∷ rest j)
    ∙ ap (λ l. ([], position_script hash keys s [] root) ∷ l) (append-nil (choice_scripts hash keys s [] 0 root))

-- ---- one node, and then the others

walk-empty : (hash : List ℕ → List ℕ) (keys : Keys) (s : Instance) (script : ℕ → List ℕ) (ns : List Node) → walk hash keys s script ns [] ≡ []
walk-empty hash keys s script [] = refl
walk-empty hash keys s script (choice_node position branches ∷ ns) = refl
walk-empty hash keys s script (branch_node path asked height deed ∷ ns) = refl

pub walk-step : (hash : List ℕ → List ℕ) (keys : Keys) (s : Instance) (script : ℕ → List ℕ) (n : Node) (ns : List Node) (stack : List Waiting)
    → walk hash keys s script (n ∷ ns) stack ≡ made_by hash keys s script n stack ++ walk hash keys s script ns (next_stack hash keys s script n stack)
walk-step hash keys s script n ns [] = sym (walk-empty hash keys s script ns)
walk-step hash keys s script (choice_node position branches) ns (w ∷ stack) = refl
walk-step hash keys s script (branch_node path asked height deed) ns (w ∷ stack) = refl
