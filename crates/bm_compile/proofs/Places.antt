-- The places of nodes lead to what their paths have in a list.
use Rattle.std.proofs.Common.{◌≡◌, ℕ, zero, suc, ◌+◌, List, [], ◌∷◌, ◌++◌, length, map, Bool, true, false, Option, Some, None, refl, sym, ap, ◌∙◌, subst, arith, append_assoc}
use Rattle.std.specs.Prelude.{if◌then◌else◌, slice_get, option_map, not}
use Rattle.std.specs.List.{list_any}
use Rattle.std.proofs.lemmas.Bool.{and_parts, or_parts}
use Rattle.std.proofs.lemmas.List.{length-append}
use Rattle.spec_terms.specs.Paths.{path_eq}
use Rattle.spec_terms.specs.PathSameness.{path_eq-Decides}
use Rattle.spec_terms.specs.declared.path.PathStep.{PathStep}
use Rattle.spec_compiler.specs.declared.prepared.Prepared.{Prepared}
use Rattle.spec_nodes.specs.Nodes.{Node, choice_node, branch_node}
use Rattle.theory_nodes.specs.Walk.{node_paths, listed_scripts}
use Rattle.theory_script.specs.Listed.{at_path, are_once, is_path_among}
use Rattle.bm_compile.specs.Numbered.{is_kind, path_of, named, places_from, value_at, row_at, transaction_of, script_of, keyed_paths, keys_of}

-- what a list has for the path of a node of the kind
abbrev found : {V : Type 0} → Bool → List (List PathStep × V) → Node → Option V
found kind es n = if is_kind kind n then at_path (path_of n) es else None

not-true : (b : Bool) → not b ≡ true → b ≡ false
not-true true h = cc
not-true false h = refl

module _ {V : Type 0} where
  -- a path that isn't among these differs from each
  apart : (p : List PathStep) (before : List (List PathStep × V)) (e : List PathStep × V) (rest : List (List PathStep × V))
      → list_any (path_eq p) (map (λ x. x.0) (before ++ e ∷ rest)) ≡ false → path_eq p e.0 ≡ false
  apart p [] e rest h = (or_parts (path_eq p e.0) (list_any (path_eq p) (map (λ x. x.0) rest)) h).0
  apart p (b ∷ before) e rest h = apart p before e rest (or_parts (path_eq p b.0) (list_any (path_eq p) (map (λ x. x.0) (before ++ e ∷ rest))) h).1

  -- where each path stands once, each has what stands there
  at_once : (before : List (List PathStep × V)) (e : List PathStep × V) (rest : List (List PathStep × V))
      → are_once (map (λ x. x.0) (before ++ e ∷ rest)) ≡ true → at_path e.0 (before ++ e ∷ rest) ≡ Some (e.1)
  at_once [] e rest h = rw ((path_eq-Decides e.0 e.0).1 refl) refl
  at_once (b ∷ before) e rest h =
      let p = and_parts (not (is_path_among b.0 (map (λ x. x.0) (before ++ e ∷ rest)))) (are_once (map (λ x. x.0) (before ++ e ∷ rest))) h in
      rw (apart b.0 before e rest (not-true _ p.0)) (at_once before e rest p.1)

  get_at : (before : List (List PathStep × V)) (e : List PathStep × V) (rest : List (List PathStep × V))
      → slice_get (before ++ e ∷ rest) (length before) ≡ Some e
  get_at [] e rest = refl
  get_at (b ∷ before) e rest = get_at before e rest

  module _ (kind : Bool) (es : List (List PathStep × V)) (once : are_once (map (λ x. x.0) es) ≡ true) where
    -- so many entries stand before the one of the next node of the kind
    led : (ns : List Node) (before rest : List (List PathStep × V)) (k : ℕ) → k ≡ length before → es ≡ before ++ rest → map (λ x. x.0) rest ≡ named kind ns
        → map (value_at es) (places_from kind k ns) ≡ map (found kind es) ns
    led [] before rest k size whole names = refl
    led (n ∷ ns) before rest k size whole names =
        by_kind (is_kind kind n) rest whole names (λ early late j more all others. led ns early late j more all others)
      where
        by_kind : (t : Bool) (rest : List (List PathStep × V)) → es ≡ before ++ rest → map (λ x. x.0) rest
            ≡ (if t then path_of n ∷ named kind ns else named kind ns)
            → ((early late : List (List PathStep × V)) (j : ℕ) → j ≡ length early → es ≡ early ++ late → map (λ x. x.0) late ≡ named kind ns
            → map (value_at es) (places_from kind j ns) ≡ map (found kind es) ns)
            → map (value_at es) (if t then Some k ∷ places_from kind (k + 1) ns else None ∷ places_from kind k ns)
            ≡ (if t then at_path (path_of n) es else None) ∷ map (found kind es) ns
        by_kind false rest whole names led_on = ap (λ l. None ∷ l) (led_on before rest k size whole names)
        by_kind true [] whole names led_on = cc
        by_kind true (e ∷ rest) whole names led_on =
            let first : e.0 ≡ path_of n = cc in
            let others : map (λ x. x.0) rest ≡ named kind ns = cc in
            let here : value_at es (Some k) ≡ Some (e.1) =
            ap (λ j. option_map (λ x. x.1) (slice_get es j)) size
            ∙ ap (λ l. option_map (λ x. x.1) (slice_get l (length before))) whole ∙ ap (option_map (λ x. x.1)) (get_at before e rest) in
            let there : at_path (path_of n) es ≡ Some (e.1) =
            ap (λ p. at_path p es) (sym first) ∙ ap (at_path e.0) whole ∙ at_once before e rest (subst (λ l. are_once (map (λ x. x.0) l) ≡ true) whole once) in
            let longer : k + 1 ≡ length (before ++ e ∷ []) = (let l = length-append before (e ∷ []) in omega (arith, size, l)) in
            let next = led_on (before ++ e ∷ []) rest (k + 1) longer (whole ∙ sym (append_assoc before (e ∷ []) rest)) others in
            λ j. (here ∙ sym there) j ∷ next j

    pub all_led : (ns : List Node) → map (λ x. x.0) es ≡ named kind ns → map (value_at es) (places_from kind 0 ns) ≡ map (found kind es) ns
    all_led ns names = led ns [] es 0 refl refl names

-- ---- branches and choices

transactions_found : (paths : List (List PathStep × Prepared)) (ns : List Node) → map (found true paths) ns ≡ map (transaction_of paths) ns
transactions_found paths [] = refl
transactions_found paths (choice_node position branches ∷ ns) = ap (λ l. None ∷ l) (transactions_found paths ns)
transactions_found paths (branch_node path asked height deed ∷ ns) = ap (λ l. at_path path paths ∷ l) (transactions_found paths ns)

scripts_found : (scripts : List (List PathStep × List ℕ)) (ns : List Node) → map (found false scripts) ns ≡ map (script_of scripts) ns
scripts_found scripts [] = refl
scripts_found scripts (choice_node position branches ∷ ns) = ap (λ l. at_path position scripts ∷ l) (scripts_found scripts ns)
scripts_found scripts (branch_node path asked height deed ∷ ns) = ap (λ l. None ∷ l) (scripts_found scripts ns)

pub transactions_led : (paths : List (List PathStep × Prepared)) (ns : List Node) → map (λ x. x.0) paths ≡ named true ns
    → are_once (map (λ x. x.0) paths) ≡ true
    → map (value_at paths) (places_from true 0 ns) ≡ map (transaction_of paths) ns
transactions_led paths ns names once = all_led true paths once ns names ∙ transactions_found paths ns

pub scripts_led : (scripts : List (List PathStep × List ℕ)) (ns : List Node) → map (λ x. x.0) scripts ≡ named false ns
    → are_once (map (λ x. x.0) scripts) ≡ true
    → map (value_at scripts) (places_from false 0 ns) ≡ map (script_of scripts) ns
scripts_led scripts ns names once = all_led false scripts once ns names ∙ scripts_found scripts ns

-- ---- keys

-- where each transaction has its row of keys, the paths beside the keys are those of the transactions
keyed_names : (paths : List (List PathStep × Prepared)) (table : List (List (List ℕ))) → length table ≡ length paths
    → map (λ x. x.0) (keyed_paths paths table) ≡ map (λ x. x.0) paths
keyed_names [] table size = refl
keyed_names (p ∷ ps) [] size = cc
keyed_names (p ∷ ps) (row ∷ rows) size = let fewer : length rows ≡ length ps = omega (arith, size) in ap (λ l. p.0 ∷ l) (keyed_names ps rows fewer)

-- and beside each path stands its row
row_beside : (paths : List (List PathStep × Prepared)) (table : List (List (List ℕ))) (k : ℕ) → length table ≡ length paths
    → slice_get table k ≡ option_map (λ x. x.1) (slice_get (keyed_paths paths table) k)
row_beside [] [] k size = refl
row_beside [] (row ∷ rows) k size = cc
row_beside (p ∷ ps) [] k size = cc
row_beside (p ∷ ps) (row ∷ rows) zero size = refl
row_beside (p ∷ ps) (row ∷ rows) (suc k) size = let fewer : length rows ≡ length ps = omega (arith, size) in row_beside ps rows k fewer

rows_beside : (paths : List (List PathStep × Prepared)) (table : List (List (List ℕ))) (places : List (Option ℕ)) → length table ≡ length paths
    → map (row_at table) places ≡ map (value_at (keyed_paths paths table)) places
rows_beside paths table [] size = refl
rows_beside paths table (None ∷ places) size = ap (λ l. None ∷ l) (rows_beside paths table places size)
rows_beside paths table (Some k ∷ places) size = λ j. row_beside paths table k size j ∷ rows_beside paths table places size j

keys_found : (paths : List (List PathStep × Prepared)) (table : List (List (List ℕ))) (ns : List Node)
    → map (found true (keyed_paths paths table)) ns ≡ map (keys_of paths table) ns
keys_found paths table [] = refl
keys_found paths table (choice_node position branches ∷ ns) = ap (λ l. None ∷ l) (keys_found paths table ns)
keys_found paths table (branch_node path asked height deed ∷ ns) = ap (λ l. at_path path (keyed_paths paths table) ∷ l) (keys_found paths table ns)

pub rows_led : (paths : List (List PathStep × Prepared)) (table : List (List (List ℕ))) (ns : List Node) → length table ≡ length paths
    → map (λ x. x.0) paths ≡ named true ns → are_once (map (λ x. x.0) paths) ≡ true
    → map (row_at table) (places_from true 0 ns) ≡ map (keys_of paths table) ns
rows_led paths table ns size names once =
    let same = keyed_names paths table size in
    rows_beside paths table (places_from true 0 ns) size
    ∙ all_led true (keyed_paths paths table) (ap are_once same ∙ once) ns (same ∙ names)
    ∙ keys_found paths table ns

-- ---- their paths

pub named_paths : (ns : List Node) → node_paths ns ≡ named true ns
named_paths [] = refl
named_paths (choice_node position branches ∷ ns) = named_paths ns
named_paths (branch_node path asked height deed ∷ ns) = ap (λ l. path ∷ l) (named_paths ns)

pub named_positions : (script : ℕ → List ℕ) (n : ℕ) (ns : List Node) → map (λ x. x.0) (listed_scripts script n ns) ≡ named false ns
named_positions script n [] = refl
named_positions script n (choice_node position branches ∷ ns) = ap (λ l. position ∷ l) (named_positions script (n + 1) ns)
named_positions script n (branch_node path asked height deed ∷ ns) = named_positions script (n + 1) ns
