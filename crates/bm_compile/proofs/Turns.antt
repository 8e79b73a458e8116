-- One turn of the loop over the nodes.
use Rattle.std.proofs.Common.{◌≡◌, ℕ, ◌+◌, ◌<◌, ◌≤◌, List, [], ◌∷◌, ◌++◌, length, map, drop, get_or, true, sym, ap, ◌∙◌, subst}
use Rattle.std.specs.List.{flat_map, list_all}
use Rattle.std.proofs.lemmas.Bool.{and_parts}
use Rattle.std.proofs.lemmas.List.Folds.{list_all-append}
use Rattle.std.proofs.lemmas.List.{drop_more, drop_all}
use Rattle.bm_hash.specs.declared.messages.TrailError.{TrailError}
use Rattle.bm_hash.specs.Messages.{Message}
use Rattle.bm_hash.specs.Trails.{Hashed, Stops}
use Rattle.spec_terms.specs.declared.path.PathStep.{PathStep}
use Rattle.spec_compiler.specs.declared.unsigned.Unsigned.{Unsigned}
use Rattle.spec_compiler.specs.Keyed.Keys.{Keys}
use Rattle.spec_compiler.specs.Keyed.Instance.{Instance}
use Rattle.spec_nodes.specs.Nodes.{Node}
use Rattle.theory_nodes.specs.declared.waiting.Waiting.{Waiting}
use Rattle.theory_nodes.specs.Keyed.Walk.{walk, next_stack, made_by}
use Rattle.theory_nodes.proofs.Keyed.Walking.{walk-step}
use Rattle.bm_compile.specs.Passes.{ready_strings}
use Rattle.bm_compile.specs.Seen.{is_payable}
use Rattle.bm_compile.proofs.Chains.{all_drop}
use Rattle.bm_compile.proofs.Walks.{Walked, walked_more, walked_stops}

module _ {H X P : Type 0} (f : (Message → Message) → List PathStep × Unsigned → P) (view : X → Node) (digest : H → Message → Message)
    (keys : Keys) (s : Instance) (script : ℕ → List ℕ) (first here : H) (same : here ≡ first)
    (xs : List X) (i : ℕ) (x : X) (lt : i < length xs)
    (at : x ≡ get_or xs i x) (stack : List Waiting) (old mid new : List Message) (all : List (List PathStep × Unsigned)) (made : List P) where
  abbrev hash : Message → Message
  hash = digest first

  -- what this node makes, and then what the others make
  abbrev rest : List Waiting → List (List PathStep × Unsigned)
  rest after = walk hash keys s script (map view (drop (i + 1) xs)) after

  parted : walk hash keys s script (map view (drop i xs)) stack ≡ made_by hash keys s script (view x) stack
      ++ rest (next_stack hash keys s script (view x) stack)
  parted =
      let cut : drop i xs ≡ x ∷ drop (i + 1) xs = drop_more xs i x lt ∙ ap (λ z. z ∷ drop (i + 1) xs) (sym at) in
      ap (λ l. walk hash keys s script (map view l) stack) cut ∙ walk-step hash keys s script (view x) (map view (drop (i + 1) xs)) stack

  pub turn_more : (after : List Waiting) (more : List P)
      → Walked (f hash) (ready_strings hash) hash old mid all (walk hash keys s script (map view (drop i xs)) stack) made
      → after ≡ next_stack (digest here) keys s script (view x) stack
      → more ≡ made ++ map (f (digest here)) (made_by (digest here) keys s script (view x) stack)
      → Hashed (digest here) mid new (flat_map (ready_strings (digest here)) (made_by (digest here) keys s script (view x) stack))
      → Walked (f hash) (ready_strings hash) hash old new all (walk hash keys s script (map view (drop (i + 1) xs)) after) more
  turn_more after more w e m h =
      let after_is : after ≡ next_stack hash keys s script (view x) stack = rw same at e in
      let now = subst (λ r. Walked (f hash) (ready_strings hash) hash old mid all r made) parted w in
      subst (λ a. Walked (f hash) (ready_strings hash) hash old new all (rest a) more) (sym after_is)
      (walked_more (f hash) (ready_strings hash) hash all old mid new (made_by hash keys s script (view x) stack)
      (rest (next_stack hash keys s script (view x) stack)) made more now (rw same at m) (rw same at h))

  pub turn_stops : (e : TrailError) → Walked (f hash) (ready_strings hash) hash old mid all (walk hash keys s script (map view (drop i xs)) stack) made
      → Stops (digest here) mid new (flat_map (ready_strings (digest here)) (made_by (digest here) keys s script (view x) stack)) e
      → Stops hash old new (flat_map (ready_strings hash) all) e
  turn_stops e w stops =
      walked_stops (f hash) (ready_strings hash) hash all old mid new (made_by hash keys s script (view x) stack)
      (rest (next_stack hash keys s script (view x) stack)) made e
      (subst (λ r. Walked (f hash) (ready_strings hash) hash old mid all r made) parted w) (rw same at stops)

  -- the transaction that this node makes is payable where all are
  pub turn_payable : Walked (f hash) (ready_strings hash) hash old mid all (walk hash keys s script (map view (drop i xs)) stack) made
      → list_all is_payable all ≡ true
      → list_all is_payable (made_by (digest here) keys s script (view x) stack) ≡ true
  turn_payable w h =
      let now = subst (λ r. Walked (f hash) (ready_strings hash) hash old mid all r made) parted w in
      let left = subst (λ l. list_all is_payable l ≡ true) now.rest_is (all_drop is_payable (length made) all h) in
      let others = rest (next_stack hash keys s script (view x) stack) in
      let p = and_parts (list_all is_payable (made_by hash keys s script (view x) stack))
      (list_all is_payable others) (sym (list_all-append is_payable (made_by hash keys s script (view x) stack) others) ∙ left) in
      subst (λ k. list_all is_payable (made_by (digest k) keys s script (view x) stack) ≡ true) (sym same) p.0

-- no node is left
pub turn_end : {X P : Type 0} (f : (Message → Message) → List PathStep × Unsigned → P) (view : X → Node) (hash : Message → Message)
    (keys : Keys) (s : Instance) (script : ℕ → List ℕ) (xs : List X) (i : ℕ) (stack : List Waiting) (old now : List Message)
    (all : List (List PathStep × Unsigned)) (made : List P)
    → length xs ≤ i → Walked (f hash) (ready_strings hash) hash old now all (walk hash keys s script (map view (drop i xs)) stack) made
    → Walked (f hash) (ready_strings hash) hash old now all [] made
turn_end f view hash keys s script xs i stack old now all made past w =
    subst (λ r. Walked (f hash) (ready_strings hash) hash old now all r made) (ap (λ l. walk hash keys s script (map view l) stack) (drop_all i xs past)) w
