-- Positions of a deal lie at different places, each at an output of one of the deal's transactions.
use Rattle.std.proofs.Common.{◌≡◌, ℕ, zero, suc, ◌+◌, ◌<◌, List, [], ◌∷◌, length, map, Bool, true, false, Option, Some, None}
use Rattle.std.proofs.Common.{refl, sym, ap, subst, ◌∙◌, inl, inr, cond, arith, lit<}
use Rattle.std.specs.Prelude.{slice_get}
use Rattle.std.specs.Prelude.{◌||◌, ◌^◌}
use Rattle.std.specs.List.{flat_map, AllByRecursion}
use Rattle.std.specs.Str.{bytes_eq}
use Rattle.std.specs.Option.{option_map, option_and_then}
use Rattle.std.proofs.lemmas.List.{append_cancel_right}
use Rattle.spec_data.specs.Lists.{is_among}
use Rattle.spec_data.specs.Messages.{noted_all}
use Rattle.spec_terms.specs.Faults.{IsWellFormed}
use Rattle.spec_terms.specs.Order.{branch_paths}
use Rattle.spec_terms.specs.Paths as paths
use Rattle.spec_terms.specs.Paths.{Subterm, path_eq, subterm_from, as_branch, at}
use Rattle.spec_terms.specs.PathSameness.{path_eq-Decides}
use Rattle.spec_terms.specs.Term as term
use Rattle.spec_terms.specs.Term.{Contract, branches, Parts, no_part, part, parts_list, auth, after, put_reveal, withdraw, split}
use Rattle.spec_terms.specs.Core.{core}
use Rattle.spec_terms.specs.declared.path.PathStep.{PathStep}
use Rattle.spec_terms.specs.declared.path.PathStep.TheVariants.{Branch as To, Part as Into}
use Rattle.spec_bitcoin.specs.declared.label.Label.{Label}
use Rattle.spec_bitcoin.specs.declared.label.Label.TheVariants as labels
use Rattle.spec_bitcoin.specs.declared.script.Op.{Op}
use Rattle.spec_bitcoin.specs.declared.tx.OutPoint.{OutPoint}
use Rattle.spec_bitcoin.specs.declared.tx.TxOut.{TxOut}
use Rattle.spec_bitcoin.specs.Keys.{IsLabel, IsStep, pay_to}
use Rattle.spec_bitcoin.specs.Scripts.{script_ops}
use Rattle.spec_compiler.specs.declared.unsigned.Spent.{Spent}
use Rattle.spec_compiler.specs.declared.unsigned.Unsigned.{Unsigned}
use Rattle.spec_compiler.specs.Scripts.{output_ops, demands_of, demands_from}
use Rattle.spec_compiler.specs.Keyed.ByPath.{PathEnd, at_position, at_branch, branch_end, continued_end, part_end, next_end, end_at, as_position, as_unsigned, position_at, unsigned_at}
use Rattle.spec_compiler.specs.declared.prepared.Prepared.{Prepared}
use Rattle.spec_compiler.specs.Keyed.Compilation.{path_transactions, scripts, compilation}
use Rattle.spec_compiler.specs.Keyed.Instance.{Instance, people, branch_path, branch_label, branch_keys, position_script}
use Rattle.spec_compiler.specs.Keyed.Keys.{Keys, key_in}
use Rattle.spec_compiler.specs.Keyed.Statements.{IsCompiled}
use Rattle.spec_compiler.specs.Keyed.Transactions.{Standing, prepared, output_outpoint, pays, branch_unsigned, part_standing, part_position, part_outputs, root_standing, core_outputs}
use Rattle.spec_tool.specs.declared.which.Which.TheVariants as names
use Rattle.spec_tool.specs.Keyed.Listed.{Listed, initial_listed, path_listed, listed}
use Rattle.spec_deal.specs.Hashed.{deal_strings}
use Rattle.spec_deal.specs.Needed.{deal_contract, path_labels, needed_labels}
use Rattle.spec_chain.specs.declared.output.Held.TheVariants.{Position}
use Rattle.spec_chain.specs.Outputs.{held_by, branch_held, core_held, parts_held}
use Rattle.theory_calculus.specs.Members.{Is_in}
use Rattle.theory_calculus.proofs.Members.{in_left, in_right}
use Rattle.theory_calculus.proofs.Names.{bytes-true}
use Rattle.theory_script.specs.Keyed.Listed.{at_path}
use Rattle.theory_script.proofs.Scripts.Demanded.{IsWell, AllWell}
use Rattle.theory_script.proofs.Keyed.InOrder.{paths_in_order}
use Rattle.theory_script.proofs.Keyed.Opened.{is_checked, cost_is}
use Rattle.theory_script.proofs.Keyed.OutputScripts.{scripts_are_listed}
use Rattle.theory_script.proofs.Keyed.Stands.{some_same, end_from-step, IfAgrees, agrees_at, position_stands}
use Rattle.theory_world.proofs.Contracts.FirstKey.{first_key, output_first}
use Rattle.theory_world.proofs.Hashed.{among_head}
use Rattle.theory_world.proofs.Labels.{path_fine}
use Rattle.theory_deal.proofs.Branches.{along}
use Rattle.theory_deal.proofs.ByName.{listed_in, listed_path}
use Rattle.theory_chain.proofs.Deals.Whole.{Whole, in_map, script_heard, heard, same_txid}

-- ---- lists

pub in_flat : {X Y : Type 0} (f : X → List Y) (xs : List X) (x : X) (y : Y) → Is_in x xs → Is_in y (f x) → Is_in y (flat_map f xs)
in_flat f [] x y h k = absurd h
in_flat f (z ∷ xs) x y (inl e) k = in_left y (f z) (flat_map f xs) (subst (λ w. Is_in y (f w)) e k)
in_flat f (z ∷ xs) x y (inr i) k = in_right y (f z) (flat_map f xs) (in_flat f xs x y i k)

pub among_is : (t : List ℕ) (ts : List (List ℕ)) → is_among t ts ≡ true → Is_in t ts
among_is t [] h = cc
among_is t (u ∷ ts) h = by_test (bytes_eq u t) refl h (among_is t ts)
  where
    by_test : (b : Bool) → bytes_eq u t ≡ b → (b || is_among t ts) ≡ true → (is_among t ts ≡ true → Is_in t ts) → Is_in t (u ∷ ts)
    by_test true e k later = inl (sym (bytes-true u t e))
    by_test false e k later = inr (later k)

-- what a list has for a path is in it
at_path_in : {V : Type 0} (path : List PathStep) (es : List (List PathStep × V)) (v : V) → at_path path es ≡ Some v → Is_in (path, v) es
at_path_in path [] v h = cc
at_path_in path (e ∷ es) v h = by_test (path_eq e.0 path) refl h (at_path_in path es v)
  where
    by_test : (b : Bool) → path_eq e.0 path ≡ b → cond b (Some (e.1)) (at_path path es) ≡ Some v
        → (at_path path es ≡ Some v → Is_in (path, v) es) → Is_in (path, v) (e ∷ es)
    by_test true k same later = inl (λ i. (sym ((path_eq-Decides e.0 path).0 k) i, sym (some_same same) i))
    by_test false k same later = inr (later same)

module _ (hash : List ℕ → List ℕ) (keys : Keys) (s : Instance) where
  -- ---- branches of a position

  by_position_end : (j : ℕ) (p : PathEnd)
      → next_end hash keys s (To j) p ≡ option_and_then (λ (x : Standing × Contract). branch_end x.0 x.1 j) (as_position hash keys s p)
  by_position_end j (at_position here choice) = refl
  by_position_end j (at_branch here i b) = refl

  -- the branch of a position stands at its path
  pub branch_there : (q : List PathStep) (here : Standing) (choice : Contract) (j : ℕ) (b : term.Guarded)
      → position_at hash keys s q ≡ Some (here, choice) → slice_get (branches choice) j ≡ Some b
      → end_at hash keys s (branch_path q j) ≡ Some (at_branch here j b)
  branch_there q here choice j b e k =
      end_from-step hash keys s (at_position (root_standing hash keys s) s.advert.root) q (To j)
      ∙ by_end (end_at hash keys s q)
      ∙ ap (option_and_then (λ (x : Standing × Contract). branch_end x.0 x.1 j)) e
      ∙ ap (option_map (at_branch here j)) k
    where
      by_end : (o : Option PathEnd)
          → option_and_then (next_end hash keys s (To j)) o
          ≡ option_and_then (λ (x : Standing × Contract). branch_end x.0 x.1 j) (option_and_then (as_position hash keys s) o)
      by_end None = refl
      by_end (Some p) = by_position_end j p

  -- and has its transaction
  pub transaction_there : (path : List PathStep) (here : Standing) (j : ℕ) (b : term.Guarded)
      → end_at hash keys s path ≡ Some (at_branch here j b) → unsigned_at hash keys s path ≡ Some (branch_unsigned hash keys s here j b)
  transaction_there path here j b e = ap (option_and_then (as_unsigned hash keys s)) e

  pub listed_there : (path : List PathStep) (d : Unsigned) → unsigned_at hash keys s path ≡ Some d
      → Is_in (path_listed s path d) (listed hash keys s)
  listed_there path d e = listed_in hash keys s (names.At path) (path_listed s path d) (ap (option_map (path_listed s path)) e)

  -- ---- the numbers of a path fit

  path_fits : IsWellFormed s.advert → (path : List PathStep) (p : PathEnd) → end_at hash keys s path ≡ Some p → AllByRecursion IsStep path
  path_fits well path p e =
      by_term (subterm_from (paths.position s.advert.root) path) refl
      (subst (λ (o : Option PathEnd). IfAgrees hash keys s path o (subterm_from (paths.position s.advert.root) path)) e (agrees_at hash keys s path))
    where
      by_term : (o : Option Subterm) → subterm_from (paths.position s.advert.root) path ≡ o → IfAgrees hash keys s path (Some p) o
          → AllByRecursion IsStep path
      by_term None k agrees = absurd agrees
      by_term (Some t) k agrees = path_fine s.advert path t well k

  -- ---- what the term has at a path

  agreed : (path : List PathStep) (here : Standing) (i : ℕ) (b : term.Guarded) → end_at hash keys s path ≡ Some (at_branch here i b)
      → (branch_path here.position i ≡ path) × (at s.advert.root path ≡ Some b)
  agreed path here i b e =
      by_term (subterm_from (paths.position s.advert.root) path)
      (subst (λ (o : Option PathEnd). IfAgrees hash keys s path o (subterm_from (paths.position s.advert.root) path)) e (agrees_at hash keys s path))
    where
      by_term : (o : Option Subterm) → IfAgrees hash keys s path (Some (at_branch here i b)) o
          → (branch_path here.position i ≡ path) × (option_and_then as_branch o ≡ Some b)
      by_term None agrees = absurd agrees
      by_term (Some (paths.position c)) agrees = absurd agrees
      by_term (Some (paths.at_branch d)) agrees = (agrees.0, ap Some (sym agrees.1))

  pub path_named : (path : List PathStep) (here : Standing) (i : ℕ) (b : term.Guarded) → end_at hash keys s path ≡ Some (at_branch here i b)
      → branch_path here.position i ≡ path
  path_named path here i b e = (agreed path here i b e).0

  pub branch_at_path : (path : List PathStep) (here : Standing) (i : ℕ) (b : term.Guarded)
      → end_at hash keys s path ≡ Some (at_branch here i b) → at s.advert.root path ≡ Some b
  branch_at_path path here i b e = (agreed path here i b e).1

  -- ---- the transaction that makes a position

  -- it is an output of one of the deal's transactions
  pub record MadeAt (q : List PathStep) (output : Spent) : Type 0 where
    pub by_which : Listed
    pub among : Is_in by_which (listed hash keys s)
    pub vout : ℕ
    pub held : slice_get (held_by s.advert by_which.which) vout ≡ Some (Position q)
    pub place : output.outpoint ≡ output_outpoint hash by_which.pending vout
    pub there : slice_get by_which.pending.outputs vout ≡ Some (pays hash output.script output.value)

  abbrev IfMade : PathEnd → Type 0
  IfMade (at_position here choice) = MadeAt here.position here.output
  IfMade (at_branch here i b) = Unit {0}

  -- part k of a split
  part_made : (path : List PathStep) (j k : ℕ) (ps : Parts) (p : ℕ × Contract) → slice_get (parts_list ps) k ≡ Some p
      → slice_get (part_outputs hash keys s path j ps) k ≡ Some (pays hash (position_script hash keys s (part_position path (k + j)) p.1) p.0)
  part_made path j k no_part p e = cc
  part_made path j zero (part v c ps) p e =
      let same : (let q : ℕ × Contract = (v, c) in q) ≡ p = some_same e in
      let z : j ≡ 0 + j = omega arith in
      λ i. Some (pays hash (position_script hash keys s (part_position path (z i)) (same i).1) (same i).0)
  part_made path j (suc k) (part v c ps) p e =
      let z : k + (j + 1) ≡ suc k + j = omega arith in
      part_made path (j + 1) k ps p e
      ∙ ap (λ (n : ℕ). Some (pays hash (position_script hash keys s (part_position path n) p.1) p.0)) z

  pub parts_position : (path : List PathStep) (j k : ℕ) (ps : Parts) (p : ℕ × Contract) → slice_get (parts_list ps) k ≡ Some p
      → slice_get (parts_held path j ps) k ≡ Some (Position (part_position path (k + j)))
  parts_position path j k no_part p e = cc
  parts_position path j zero (part v c ps) p e =
      let z : j ≡ 0 + j = omega arith in
      ap (λ (n : ℕ). Some (Position (part_position path n))) z
  parts_position path j (suc k) (part v c ps) p e =
      let z : k + (j + 1) ≡ suc k + j = omega arith in
      parts_position path (j + 1) k ps p e ∙ ap (λ (n : ℕ). Some (Position (part_position path n))) z

  from_part : (prefix : List PathStep) (here : Standing) (i k : ℕ) (b c : term.Guarded) (r : PathEnd) → core b ≡ c
      → end_at hash keys s prefix ≡ Some (at_branch here i b) → part_end hash keys s here i b k c ≡ Some r → IfMade r
  from_part prefix here i k b (put_reveal puts reveals test next) r is ends e = cc
  from_part prefix here i k b (withdraw party) r is ends e = cc
  from_part prefix here i k b (auth party body) r is ends e = cc
  from_part prefix here i k b (after height body) r is ends e = cc
  from_part prefix here i k b (split parts) r is ends e = by_part (slice_get (parts_list parts) k) refl e
    where
      by_part : (o : Option (ℕ × Contract)) → slice_get (parts_list parts) k ≡ o
          → option_map
          (λ (p : ℕ × Contract).
          at_position (part_standing hash keys s (branch_path here.position i) (branch_unsigned hash keys s here i b) k p.0 p.1) p.1)
          o ≡ Some r
          → IfMade r
      by_part None f x = cc
      by_part (Some p) f x =
          let path = branch_path here.position i in
          let z : k + 0 ≡ k = omega arith in
          subst IfMade (some_same x) (record {
            by_which = path_listed s prefix (branch_unsigned hash keys s here i b);
            among = listed_there prefix (branch_unsigned hash keys s here i b) (transaction_there prefix here i b ends);
            vout = k;
            held =
                ap (λ (o : Option term.Guarded). slice_get (branch_held prefix o) k) (branch_at_path prefix here i b ends)
                ∙ ap (λ (y : term.Guarded). slice_get (core_held prefix y) k) is
                ∙ parts_position prefix 0 k parts p f
                ∙ (λ j. Some (Position (part_position (sym (path_named prefix here i b ends) j) (z j))));
            place = refl;
            there =
                ap (λ (y : term.Guarded). slice_get (core_outputs hash keys s path here.output.value y) k) is
                ∙ part_made path 0 k parts p f
                ∙ ap (λ (n : ℕ). Some (pays hash (position_script hash keys s (part_position path n) p.1) p.0)) z;
          })

  next_made : (prefix : List PathStep) (step : PathStep) (p r : PathEnd) → end_at hash keys s prefix ≡ Some p → IfMade p
      → next_end hash keys s step p ≡ Some r → IfMade r
  next_made prefix (To j) (at_position here choice) r there made e = to_branch (slice_get (branches choice) j) e
    where
      to_branch : (o : Option term.Guarded) → option_map (at_branch here j) o ≡ Some r → IfMade r
      to_branch None k = cc
      to_branch (Some b) k = subst IfMade (some_same k) tt
  next_made prefix (Into k) (at_position here choice) r there made e = cc
  next_made prefix (Into k) (at_branch here i b) r there made e =
      from_part prefix here i k b (core b) r refl there e
  next_made prefix (To j) (at_branch here i b) r there made e = by_continued (continued_end hash keys s here i b (core b)) e
    where
      to_branch : (next : Standing) (o : Option term.Guarded) → option_map (at_branch next j) o ≡ Some r → IfMade r
      to_branch next None k = cc
      to_branch next (Some c) k = subst IfMade (some_same k) tt

      by_continued : (o : Option (Standing × Contract)) → option_and_then (λ (p : Standing × Contract). branch_end p.0 p.1 j) o ≡ Some r
          → IfMade r
      by_continued None k = cc
      by_continued (Some p) k = to_branch (p.0) (slice_get (branches (p.1)) j) k

  root_made : MadeAt [] (root_standing hash keys s).output
  root_made = record {
    by_which = initial_listed hash keys s;
    among = inl refl;
    vout = 0;
    held = refl;
    place = refl;
    there = refl;
  }

  end_made : (path : List PathStep) (p : PathEnd) → end_at hash keys s path ≡ Some p → IfMade p
  end_made path p e =
      along hash keys s IfMade next_made [] path (at_position (root_standing hash keys s) s.advert.root) p refl root_made e

  from_continued : (path : List PathStep) (h : Standing) (i : ℕ) (b c : term.Guarded) (p : Standing × Contract) → core b ≡ c
      → end_at hash keys s path ≡ Some (at_branch h i b) → continued_end hash keys s h i b c ≡ Some p
      → MadeAt path p.0.output
  from_continued path h i b (put_reveal puts reveals test next) p is ends e =
      subst (λ (q : Standing × Contract). MadeAt path q.0.output) (some_same e) (record {
        by_which = path_listed s path (branch_unsigned hash keys s h i b);
        among = listed_there path (branch_unsigned hash keys s h i b) (transaction_there path h i b ends);
        vout = 0;
        held =
            ap (λ (o : Option term.Guarded). slice_get (branch_held path o) 0) (branch_at_path path h i b ends)
            ∙ ap (λ (y : term.Guarded). slice_get (core_held path y) 0) is;
        place = refl;
        there = ap (λ (y : term.Guarded). slice_get (core_outputs hash keys s (branch_path h.position i) h.output.value y) 0) is;
      })
  from_continued path h i b (withdraw party) p is ends e = cc
  from_continued path h i b (split parts) p is ends e = cc
  from_continued path h i b (auth party body) p is ends e = cc
  from_continued path h i b (after height body) p is ends e = cc

  -- a position's output is made by one of them
  pub position_made : (q : List PathStep) (here : Standing) (choice : Contract) → position_at hash keys s q ≡ Some (here, choice)
      → MadeAt q here.output
  position_made q here choice e = by_end (end_at hash keys s q) refl e
    where
      by_end : (o : Option PathEnd) → end_at hash keys s q ≡ o → option_and_then (as_position hash keys s) o ≡ Some (here, choice)
          → MadeAt q here.output
      by_end None k f = cc
      by_end (Some (at_position h c)) k f =
          subst (λ (x : List PathStep). MadeAt x here.output) (position_stands hash keys s q here choice e).path
          (subst (λ (p : Standing × Contract). MadeAt p.0.position p.0.output) (some_same f) (end_made q (at_position h c) k))
      by_end (Some (at_branch h i b)) k f = from_continued q h i b (core b) (here, choice) refl k f

  -- ---- scripts

  module _ (whole : Whole hash keys s) where
    -- the first key of a position's script is a participant's of its first branch
    record FirstKey (q : List PathStep) (script : List ℕ) : Type 0 where
      person : List ℕ
      among : is_among person (people s) ≡ true
      ops : List Op
      spells : script_ops script ≡ Some ops
      first : first_key ops ≡ Some (key_in hash keys (branch_label s.contract (branch_path q 0) person))

    keys_same : (c : term.Guarded) (ks : List (List ℕ)) (hashes : List (List ℕ × List ℕ)) → (demands_of c ks hashes).keys ≡ ks
    keys_same (put_reveal puts reveals test next) ks hashes = refl
    keys_same (auth party body) ks hashes = refl
    keys_same (after height body) ks hashes = refl
    keys_same (withdraw party) ks hashes = refl
    keys_same (split parts) ks hashes = refl

    module _ (q : List PathStep) (choice : Contract) (comp : IsCompiled s q choice) where
      abbrev keys_of : ℕ → List (List ℕ)
      keys_of i = branch_keys hash keys s (branch_path q i)

      abbrev first_keys : List (List ℕ) → List (List ℕ)
      first_keys ps = map (λ party. key_in hash keys (branch_label s.contract (branch_path q 0) party)) ps

      by_people : (ps : List (List ℕ)) → people s ≡ ps → (c : term.Guarded) (bs : List term.Guarded)
          → IsWell (demands_of (core c) (first_keys ps) s.hashes)
          → script_ops (position_script hash keys s q choice)
          ≡ Some (output_ops (demands_of (core c) (first_keys ps) s.hashes ∷ demands_from keys_of s.hashes 1 bs))
          → FirstKey q (position_script hash keys s q choice)
      by_people [] e c bs w sp = absurd (let k = ap length (keys_same (core c) [] s.hashes) in let l = w.some_key in omega (arith, k, l))
      by_people (p ∷ ps) e c bs w sp =
          let key = key_in hash keys (branch_label s.contract (branch_path q 0) p) in
          let len : length key ≡ 33 = whole.are_keys (branch_label s.contract (branch_path q 0) p) in
          record {
            person = p;
            among = subst (λ xs. is_among p xs ≡ true) (sym e) (among_head p ps);
            ops = output_ops (demands_of (core c) (key ∷ first_keys ps) s.hashes ∷ demands_from keys_of s.hashes 1 bs);
            spells = sp;
            first =
                output_first (demands_of (core c) (key ∷ first_keys ps) s.hashes) (demands_from keys_of s.hashes 1 bs) key (first_keys ps)
                (keys_same (core c) (key ∷ first_keys ps) s.hashes) len w.digest_sizes;
          }

      by_branches : (xs : List term.Guarded) → branches choice ≡ xs → 0 < length (demands_from keys_of s.hashes 0 xs)
          → AllWell (demands_from keys_of s.hashes 0 xs)
          → script_ops (position_script hash keys s q choice) ≡ Some (output_ops (demands_from keys_of s.hashes 0 xs))
          → FirstKey q (position_script hash keys s q choice) × (b : term.Guarded) × (slice_get (branches choice) 0 ≡ Some b)
      by_branches [] e some w sp = absurd (omega (arith, some))
      by_branches (c ∷ bs) e some w sp = (by_people (people s) refl c bs w.0 sp, c, ap (λ ys. slice_get ys 0) e)

      first_key_of : FirstKey q (position_script hash keys s q choice) × (b : term.Guarded) × (slice_get (branches choice) 0 ≡ Some b)
      first_key_of =
          let checked = is_checked hash keys s q choice whole.are_keys comp in
          by_branches (branches choice) refl checked.some_branch checked.well (cost_is hash keys s q choice whole.are_keys comp).spells

    pub compiled_at : (q : List PathStep) (here : Standing) (choice : Contract) → position_at hash keys s q ≡ Some (here, choice)
        → IsCompiled s q choice
    compiled_at q here choice e = record {
      checked = whole.checked;
      committed = whole.applied.committed;
      is_position = (position_stands hash keys s q here choice e).branches;
    }

    -- the path of a transaction is one of the contract's branches
    pub path_among : (path : List PathStep) (d : Unsigned) → unsigned_at hash keys s path ≡ Some d
        → Is_in path (branch_paths s.advert.root)
    path_among path d there =
        subst (Is_in path) (paths_in_order hash keys s)
        (in_map (λ (p : List PathStep × Prepared). p.0) (compilation hash keys s).paths (path, prepared hash d)
        (in_map (λ (p : List PathStep × Unsigned). (p.0, prepared hash p.1)) (path_transactions hash keys s) (path, d)
        (at_path_in path (path_transactions hash keys s) d (listed_path hash keys s path ∙ there))))

    abbrev path_in : Label → List PathStep
    path_in (labels.Deposit party) = []
    path_in (labels.Branch contract path party) = path

    label_fits : (path : List PathStep) (p : PathEnd) (party : List ℕ) → end_at hash keys s path ≡ Some p
        → IsLabel (branch_label s.contract path party)
    label_fits path p party e =
        (subst (λ (n : ℕ). n < 2 ^ 32) (sym whole.number) (lit< tt), path_fits whole.checked path p e)

    paid_same : {a b : List ℕ} → pay_to a ≡ pay_to b → a ≡ b
    paid_same e = cc

    -- the label of a participant's key of a branch is needed
    label_needed : (path : List PathStep) (d : Unsigned) (party : List ℕ) → unsigned_at hash keys s path ≡ Some d
        → is_among party (people s) ≡ true → Is_in (branch_label s.contract path party) (needed_labels s.advert)
    label_needed path d party there p =
        in_right (branch_label s.contract path party) (map (λ a. labels.Deposit a) (people s)) _
        (in_flat (path_labels s.advert) (branch_paths s.advert.root) path (branch_label s.contract path party) (path_among path d there)
        (subst (λ (n : ℕ). Is_in (branch_label n path party) (path_labels s.advert path)) (sym whole.number)
        (in_map (branch_label deal_contract path) (people s) party (among_is party (people s) p))))

    -- positions with one script are one
    pub same_script : (q r : List PathStep) (here there : Standing) (c d : Contract) → position_at hash keys s q ≡ Some (here, c)
        → position_at hash keys s r ≡ Some (there, d) → here.output.script ≡ there.output.script → q ≡ r
    same_script q r here there c d e f same =
        let a = first_key_of q c (compiled_at q here c e) in
        let b = first_key_of r d (compiled_at r there d f) in
        let script : position_script hash keys s q c ≡ position_script hash keys s r d =
        sym (position_stands hash keys s q here c e).script ∙ same ∙ (position_stands hash keys s r there d f).script in
        let ops : a.0.ops ≡ b.0.ops = some_same (sym a.0.spells ∙ ap script_ops script ∙ b.0.spells) in
        let key = some_same (sym a.0.first ∙ ap first_key ops ∙ b.0.first) in
        let end_a = branch_there q here c 0 a.1 e a.2 in
        let end_b = branch_there r there d 0 b.1 f b.2 in
        let label = whole.keys_apart (branch_label s.contract (branch_path q 0) a.0.person) (branch_label s.contract (branch_path r 0) b.0.person)
        (label_fits (branch_path q 0) (at_branch here 0 a.1) a.0.person end_a) (label_fits (branch_path r 0) (at_branch there 0 b.1) b.0.person end_b)
        (label_needed (branch_path q 0) _ a.0.person (transaction_there (branch_path q 0) here 0 a.1 end_a) a.0.among)
        (label_needed (branch_path r 0) _ b.0.person (transaction_there (branch_path r 0) there 0 b.1 end_b) b.0.among) refl refl key in
        append_cancel_right q r (To 0 ∷ []) (ap path_in label)

    -- ---- places

    script_among : (q : List PathStep) (here : Standing) (choice : Contract) → position_at hash keys s q ≡ Some (here, choice)
        → is_among here.output.script (noted_all [] (deal_strings hash keys s)) ≡ true
    script_among q here choice e =
        let listed_script = scripts_are_listed hash keys s q ∙ ap (option_map (λ (p : Standing × Contract). p.0.output.script)) e in
        heard hash keys s whole here.output.script
        (script_heard hash keys s (q, here.output.script) (at_path_in q (scripts hash keys s) here.output.script listed_script))

    -- positions at one place are one
    pub same_outpoint : (q r : List PathStep) (here there : Standing) (c d : Contract) → position_at hash keys s q ≡ Some (here, c)
        → position_at hash keys s r ≡ Some (there, d) → here.output.outpoint ≡ there.output.outpoint → q ≡ r
    same_outpoint q r here there c d e f same =
        let a = position_made q here c e in
        let b = position_made r there d f in
        let places : output_outpoint hash a.by_which.pending a.vout ≡ output_outpoint hash b.by_which.pending b.vout =
        sym a.place ∙ same ∙ b.place in
        let tx = same_txid hash keys s whole a.by_which b.by_which a.among b.among (ap (λ (p : OutPoint). p.txid) places) in
        let vout : a.vout ≡ b.vout = ap (λ (p : OutPoint). p.vout) places in
        let output : Some (pays hash here.output.script here.output.value) ≡ Some (pays hash there.output.script there.output.value) =
        sym a.there ∙ (λ i. slice_get (tx i).outputs (vout i)) ∙ b.there in
        let paid : pay_to (hash here.output.script) ≡ pay_to (hash there.output.script) = ap (λ (o : TxOut). o.script) (some_same output) in
        same_script q r here there c d e f
        (whole.clear.one here.output.script there.output.script (script_among q here c e) (script_among r there d f) (paid_same paid))
