-- The output at a position is an output of the transaction that leads there.
use Rattle.std.proofs.Common.{◌≡◌, ℕ, zero, suc, ◌+◌, ◌-◌, List, [], ◌∷◌, ◌++◌, length, Option, Some, None, refl, sym, ap, ◌∙◌, arith}
use Rattle.std.specs.Prelude.{option_map, option_and_then, slice_get}
use Rattle.spec_terms.specs.Term as term
use Rattle.spec_terms.specs.Term.{Contract, Parts, no_part, part, parts_list, branches, auth, after, put_reveal, withdraw, split}
use Rattle.spec_terms.specs.Core.{core}
use Rattle.spec_terms.specs.declared.path.PathStep.{PathStep}
use Rattle.spec_terms.specs.declared.path.PathStep.TheVariants.{Branch as To, Part as Into}
use Rattle.spec_bitcoin.specs.declared.tx.TxOut.{TxOut}
use Rattle.spec_compiler.specs.Instance.{Instance, branch_path, position_script}
use Rattle.spec_compiler.specs.Transactions.{Standing, pays, prepared, part_position, part_outputs, part_standing, branch_unsigned, core_outputs, root_standing}
use Rattle.spec_compiler.specs.Compilation.{compilation}
use Rattle.spec_compiler.specs.ByPath.{PathEnd, at_position, at_branch, branch_end, continued_end, part_end, next_end, end_at, as_position, as_unsigned, position_at}
use Rattle.spec_tool.specs.Weights.{position_of}
use Rattle.theory_script.specs.Listed.{at_path}
use Rattle.theory_script.proofs.Listing.Stands.{some_same, end_from-step}
use Rattle.theory_script.proofs.Listing.Transactions.{paths_are_listed}
use Rattle.bm_compile.specs.Numbered.{numbered}
use Rattle.bm_psbt_plan.specs.Parts.{last_of, output_of, output_by, output_at}

-- ---- a path by its last step

pub data Ends : List PathStep → Type 0 where
  nowhere : Ends []
  further : (prefix : List PathStep) → (step : PathStep) → Ends (prefix ++ step ∷ [])

ends_more : (x : PathStep) (path : List PathStep) → Ends path → Ends (x ∷ path)
ends_more x [] nowhere = further [] x
ends_more x _ (further prefix step) = further (x ∷ prefix) step

pub ends : (path : List PathStep) → Ends path
ends [] = nowhere
ends (x ∷ path) = ends_more x path (ends path)

pub position_of-further : (prefix : List PathStep) (step : PathStep) → position_of (prefix ++ step ∷ []) ≡ prefix
position_of-further [] step = refl
position_of-further (x ∷ []) step = refl
position_of-further (x ∷ y ∷ prefix) step = ap (λ (rest : List PathStep). x ∷ rest) (position_of-further (y ∷ prefix) step)

get_last : (prefix : List PathStep) (step : PathStep) → slice_get (prefix ++ step ∷ []) (length prefix) ≡ Some step
get_last [] step = refl
get_last (x ∷ prefix) step = get_last prefix step

length_further : (prefix : List PathStep) (step : PathStep) → length (prefix ++ step ∷ []) ≡ suc (length prefix)
length_further [] step = refl
length_further (x ∷ prefix) step = ap suc (length_further prefix step)

last_of-further : (prefix : List PathStep) (step : PathStep) → last_of (prefix ++ step ∷ []) ≡ Some step
last_of-further prefix step =
    let e = length_further prefix step in
    let n : length (prefix ++ step ∷ []) - 1 ≡ length prefix = omega (arith, e) in
    ap (slice_get (prefix ++ step ∷ [])) n ∙ get_last prefix step

module _ (hash : List ℕ → List ℕ) (s : Instance) where
  abbrev pub paid : Standing → TxOut
  paid here = pays hash here.output.script here.output.value

  -- ---- outputs of parts

  part_paid : (path : List PathStep) (parts : Parts) (k n : ℕ) (p : ℕ × Contract) → slice_get (parts_list parts) n ≡ Some p
      → slice_get (part_outputs hash s path k parts) n ≡ Some (pays hash (position_script hash s (part_position path (k + n)) (p.1)) (p.0))
  part_paid path no_part k n p h = absurd cc
  part_paid path (part v c ps) k zero p h =
      let e : k ≡ k + zero = omega arith in
      ap (λ (q : ℕ × Contract). Some (pays hash (position_script hash s (part_position path k) (q.1)) (q.0))) (some_same h)
      ∙ ap (λ (m : ℕ). Some (pays hash (position_script hash s (part_position path m) (p.1)) (p.0))) e
  part_paid path (part v c ps) k (suc n) p h =
      let e : k + 1 + n ≡ k + suc n = omega arith in
      part_paid path ps (k + 1) n p h
      ∙ ap (λ (m : ℕ). Some (pays hash (position_script hash s (part_position path m) (p.1)) (p.0))) e

  -- ---- what a branch goes on to

  continued_paid : (h here : Standing) (i : ℕ) (b c : term.Guarded) (choice : Contract) → continued_end hash s h i b c ≡ Some (here, choice)
      → slice_get (core_outputs hash s (branch_path h.position i) h.output.value c) 0 ≡ Some (paid here)
  continued_paid h here i b (put_reveal puts reveals test next) choice e =
      ap (λ (p : Standing × Contract). Some (paid (p.0))) (some_same e)
  continued_paid h here i b (withdraw party) choice e = absurd cc
  continued_paid h here i b (split parts) choice e = absurd cc
  continued_paid h here i b (auth party body) choice e = absurd cc
  continued_paid h here i b (after height body) choice e = absurd cc

  branch_paid : (h here : Standing) (i : ℕ) (o : Option term.Guarded) (choice : Contract)
      → option_and_then (as_position hash s) (option_map (at_branch h i) o) ≡ Some (here, choice)
      → output_of (option_map (prepared hash) (option_and_then (as_unsigned hash s) (option_map (at_branch h i) o))) 0 ≡ Some (paid here)
  branch_paid h here i None choice e = absurd cc
  branch_paid h here i (Some b) choice e = continued_paid h here i b (core b) choice e

  next_paid : (here : Standing) (i : ℕ) (r : Option (Standing × Contract)) (choice : Contract)
      → option_and_then (as_position hash s) (option_and_then (λ (p : Standing × Contract). branch_end (p.0) (p.1) i) r) ≡ Some (here, choice)
      → output_of (option_map (prepared hash) (option_and_then (as_unsigned hash s)
      (option_and_then (λ (p : Standing × Contract). branch_end (p.0) (p.1) i) r))) 0 ≡ Some (paid here)
  next_paid here i None choice e = absurd cc
  next_paid here i (Some p) choice e = branch_paid (p.0) here i (slice_get (branches (p.1)) i) choice e

  to_paid : (here : Standing) (i : ℕ) (q : Option PathEnd) (choice : Contract)
      → option_and_then (as_position hash s) (option_and_then (next_end hash s (To i)) q) ≡ Some (here, choice)
      → output_of (option_map (prepared hash) (option_and_then (as_unsigned hash s) (option_and_then (next_end hash s (To i)) q))) 0
      ≡ Some (paid here)
  to_paid here i None choice e = absurd cc
  to_paid here i (Some (at_position h c)) choice e = branch_paid h here i (slice_get (branches c) i) choice e
  to_paid here i (Some (at_branch h j b)) choice e = next_paid here i (continued_end hash s h j b (core b)) choice e

  -- ---- what a split goes on to

  split_paid : (h here : Standing) (i k : ℕ) (b : term.Guarded) (parts : Parts) (o : Option (ℕ × Contract)) (choice : Contract)
      → slice_get (parts_list parts) k ≡ o
      → option_and_then (as_position hash s) (option_map (λ (p : ℕ × Contract).
      at_position (part_standing hash s (branch_path h.position i) (branch_unsigned hash s h i b) k (p.0) (p.1)) (p.1)) o) ≡ Some (here, choice)
      → slice_get (part_outputs hash s (branch_path h.position i) 0 parts) k ≡ Some (paid here)
  split_paid h here i k b parts None choice e f = absurd cc
  split_paid h here i k b parts (Some p) choice e f =
      let same : 0 + k ≡ k = omega arith in
      part_paid (branch_path h.position i) parts 0 k p e
      ∙ (ap (λ (m : ℕ). Some (pays hash (position_script hash s (part_position (branch_path h.position i) m) (p.1)) (p.0))) same
      ∙ ap (λ (q : Standing × Contract). Some (paid (q.0))) (some_same f))

  part_core : (h here : Standing) (i k : ℕ) (b c : term.Guarded) (choice : Contract)
      → option_and_then (as_position hash s) (part_end hash s h i b k c) ≡ Some (here, choice)
      → slice_get (core_outputs hash s (branch_path h.position i) h.output.value c) k ≡ Some (paid here)
  part_core h here i k b (put_reveal puts reveals test next) choice e = absurd cc
  part_core h here i k b (withdraw party) choice e = absurd cc
  part_core h here i k b (split parts) choice e = split_paid h here i k b parts (slice_get (parts_list parts) k) choice refl e
  part_core h here i k b (auth party body) choice e = absurd cc
  part_core h here i k b (after height body) choice e = absurd cc

  into_paid : (here : Standing) (k : ℕ) (q : Option PathEnd) (choice : Contract)
      → option_and_then (as_position hash s) (option_and_then (next_end hash s (Into k)) q) ≡ Some (here, choice)
      → output_of (option_map (prepared hash) (option_and_then (as_unsigned hash s) q)) k ≡ Some (paid here)
  into_paid here k None choice e = absurd cc
  into_paid here k (Some (at_position h c)) choice e = absurd cc
  into_paid here k (Some (at_branch h i b)) choice e = part_core h here i k b (core b) choice e

  -- ---- the output at a position

  by_last : (position : List PathStep) → Ends position → (here : Standing) (choice : Contract)
      → position_at hash s position ≡ Some (here, choice) → output_at position (numbered hash s) ≡ Some (paid here)
  by_last _ nowhere here choice e = ap (λ (p : Standing × Contract). Some (paid (p.0))) (some_same e)
  by_last _ (further prefix (To i)) here choice e =
      let path = prefix ++ To i ∷ [] in
      let start = at_position (root_standing hash s) s.advert.root in
      let there : end_at hash s path ≡ option_and_then (next_end hash s (To i)) (end_at hash s prefix) = end_from-step hash s start prefix (To i) in
      ap (λ (l : Option PathStep). output_by l path (numbered hash s)) (last_of-further prefix (To i))
      ∙ (ap (λ o. output_of o 0) (paths_are_listed hash s path)
      ∙ (ap (λ (o : Option PathEnd). output_of (option_map (prepared hash) (option_and_then (as_unsigned hash s) o)) 0) there
      ∙ to_paid here i (end_at hash s prefix) choice (ap (option_and_then (as_position hash s)) (sym there) ∙ e)))
  by_last _ (further prefix (Into k)) here choice e =
      let path = prefix ++ Into k ∷ [] in
      let start = at_position (root_standing hash s) s.advert.root in
      let there : end_at hash s path ≡ option_and_then (next_end hash s (Into k)) (end_at hash s prefix) = end_from-step hash s start prefix (Into k) in
      ap (λ (l : Option PathStep). output_by l path (numbered hash s)) (last_of-further prefix (Into k))
      ∙ (ap (λ (f : List PathStep). output_of (at_path f (compilation hash s).paths) k) (position_of-further prefix (Into k))
      ∙ (ap (λ o. output_of o k) (paths_are_listed hash s prefix)
      ∙ into_paid here k (end_at hash s prefix) choice (ap (option_and_then (as_position hash s)) (sym there) ∙ e)))

  pub output_found : (position : List PathStep) (here : Standing) (choice : Contract)
      → position_at hash s position ≡ Some (here, choice) → output_at position (numbered hash s) ≡ Some (paid here)
  output_found position here choice e = by_last position (ends position) here choice e

  -- ---- the position of a branch

  pub record Stands (r : Option PathEnd) (here : Standing) : Type 0 where
    pub choice : Contract
    pub there : option_and_then (as_position hash s) r ≡ Some (here, choice)

  same_standing : (h here : Standing) (i j : ℕ) (b d : term.Guarded) → at_branch h i b ≡ at_branch here j d → h ≡ here
  same_standing h here i j b d e = cc

  from_branch : (h here : Standing) (i j : ℕ) (o : Option term.Guarded) (d : term.Guarded)
      → option_map (at_branch h i) o ≡ Some (at_branch here j d) → h ≡ here
  from_branch h here i j None d e = absurd cc
  from_branch h here i j (Some b) d e = same_standing h here i j b d (some_same e)

  from_next : (here : Standing) (i j : ℕ) (r : Option (Standing × Contract)) (d : term.Guarded)
      → option_and_then (λ (p : Standing × Contract). branch_end (p.0) (p.1) i) r ≡ Some (at_branch here j d)
      → (choice : Contract) × (r ≡ Some (here, choice))
  from_next here i j None d e = absurd cc
  from_next here i j (Some p) d e =
      let f = from_branch (p.0) here i j (slice_get (branches (p.1)) i) d e in
      (p.1, ap (λ (h : Standing). Some (h, p.1)) f)

  pub stands : (here : Standing) (i j : ℕ) (q : Option PathEnd) (d : term.Guarded)
      → option_and_then (next_end hash s (To i)) q ≡ Some (at_branch here j d) → Stands q here
  stands here i j None d e = absurd cc
  stands here i j (Some (at_position h c)) d e =
      let f = from_branch h here i j (slice_get (branches c) i) d e in
      record { choice = c; there = ap (λ (x : Standing). Some (x, c)) f }
  stands here i j (Some (at_branch h k b)) d e =
      let f = from_next here i j (continued_end hash s h k b (core b)) d e in
      record { choice = f.0; there = f.1 }
