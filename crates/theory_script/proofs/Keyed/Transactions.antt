-- The list of a contract's transactions has each path with the transaction of the branch there.
use Rattle.std.proofs.Common.{◌≡◌, ℕ, zero, suc, ◌+◌, List, [], ◌∷◌, ◌++◌, map, Bool, true, false, Option, Some, None, refl, sym, ap, ◌∙◌, subst, arith, append_assoc, append-nil}
use Rattle.std.specs.Prelude.{slice_get, if◌then◌else◌, ◌||◌}
use Rattle.std.specs.Option.{option_map, option_and_then}
use Rattle.std.specs.List.{list_any}
use Rattle.std.proofs.lemmas.Bool.{or_left, or_right}
use Rattle.spec_terms.specs.Term as term
use Rattle.spec_terms.specs.Term.{Pred, Contract, no_branch, branch, branches, Parts, no_part, part, parts_list, auth, after, put_reveal, withdraw, split}
use Rattle.spec_terms.specs.Core.{core, lock}
use Rattle.spec_terms.specs.Paths.{path_eq}
use Rattle.spec_terms.specs.PathSameness.{path_eq-Decides}
use Rattle.spec_terms.specs.declared.path.PathStep.{PathStep}
use Rattle.spec_terms.specs.declared.path.PathStep.TheVariants.{Branch as To, Part as Into}
use Rattle.spec_compiler.specs.Keyed.Keys.{Keys}
use Rattle.spec_compiler.specs.declared.prepared.Prepared.{Prepared}
use Rattle.spec_compiler.specs.Keyed.Instance.{Instance, branch_path}
use Rattle.spec_compiler.specs.declared.unsigned.Unsigned.{Unsigned}
use Rattle.spec_compiler.specs.Keyed.Transactions.{Standing, prepared, continued_value, core_unsigned, continued, part_position, part_standing, root_standing}
use Rattle.spec_compiler.specs.Keyed.Compilation.{choice_transactions, branch_transactions, parts_transactions, path_transactions, compilation}
use Rattle.spec_compiler.specs.Keyed.ByPath.{PathEnd, at_position, at_branch, branch_end, next_end, end_from, end_at, as_unsigned, unsigned_at, prepared_at}
use Rattle.theory_script.specs.Keyed.Listed.{at_path}
use Rattle.theory_script.proofs.Keyed.Stands.{end_from-step, next_core, is_next_core, some_same, last_step}

-- ---- lists by path

-- whether the list has the path
abbrev pub has_path : {V : Type 0} → List PathStep → List (List PathStep × V) → Bool
has_path path es = list_any (λ e. path_eq e.0 path) es

-- each entry is what the function gives for its path
abbrev pub AreRight : {V : Type 0} → (List PathStep → Option V) → List (List PathStep × V) → Type 0
AreRight f [] = Unit {0}
AreRight f (e ∷ es) = (f e.0 ≡ Some (e.1)) × AreRight f es

pub right-append : {V : Type 0} (f : List PathStep → Option V) (xs ys : List (List PathStep × V)) → AreRight f xs → AreRight f ys → AreRight f (xs ++ ys)
right-append f [] ys h k = k
right-append f (x ∷ xs) ys h k = (h.0, right-append f xs ys h.1 k)

pub path_same : (a : List PathStep) → path_eq a a ≡ true
path_same a = (path_eq-Decides a a).1 refl

right_or_none : {V : Type 0} (f : List PathStep → Option V) (path : List PathStep) (o : Option V) → f path ≡ o
    → ((v : V) → f path ≡ Some v → false ≡ true) → None ≡ f path
right_or_none f path None e all = sym e
right_or_none f path (Some v) e all = let bad = all v e in cc

-- a list whose entries are right, and that has each path for which there is something, is the function
pub list_is : {V : Type 0} (f : List PathStep → Option V) (path : List PathStep) (es : List (List PathStep × V)) → AreRight f es
    → ((v : V) → f path ≡ Some v → has_path path es ≡ true) → at_path path es ≡ f path
list_is f path [] right all = right_or_none f path (f path) refl all
list_is f path (e ∷ es) right all = by_test (path_eq e.0 path) refl all (λ k. list_is f path es right.1 k)
  where
    by_test : (b : Bool) → path_eq e.0 path ≡ b → ((v : _) → f path ≡ Some v → (b || has_path path es) ≡ true)
        → (((v : _) → f path ≡ Some v → has_path path es ≡ true) → at_path path es ≡ f path) → (if b then Some (e.1) else at_path path es) ≡ f path
    by_test true is k ih = sym right.0 ∙ ap f ((path_eq-Decides e.0 path).0 is)
    by_test false is k ih = ih k

has-append : {V : Type 0} (path : List PathStep) (xs ys : List (List PathStep × V)) → has_path path (xs ++ ys) ≡ (has_path path xs || has_path path ys)
has-append path [] ys = refl
has-append path (x ∷ xs) ys = by_test (path_eq x.0 path) (has-append path xs ys)
  where
    by_test : (b : Bool) → has_path path (xs ++ ys) ≡ (has_path path xs || has_path path ys) → (b || has_path path (xs ++ ys))
        ≡ ((b || has_path path xs) || has_path path ys)
    by_test true h = refl
    by_test false h = h

-- the first list has no path that the second lacks
pub record Within {V : Type 0} (xs ys : List (List PathStep × V)) : Type 0 where
  pub has : (path : List PathStep) → has_path path xs ≡ true → has_path path ys ≡ true

pub within_prefix : {V : Type 0} (xs ys : List (List PathStep × V)) → Within xs (xs ++ ys)
within_prefix xs ys = record { has = λ path h. has-append path xs ys ∙ or_left (has_path path xs) (has_path path ys) h }

pub within_back : {V : Type 0} (xs ys : List (List PathStep × V)) → Within ys (xs ++ ys)
within_back xs ys = record { has = λ path h. has-append path xs ys ∙ or_right (has_path path xs) (has_path path ys) h }

pub within_more : {V : Type 0} (x : List PathStep × V) (ys : List (List PathStep × V)) → Within ys (x ∷ ys)
within_more x ys = record { has = λ path h. or_right (path_eq x.0 path) (has_path path ys) h }

pub within_all : {V : Type 0} {xs ys zs : List (List PathStep × V)} → Within xs ys → Within ys zs → Within xs zs
within_all f g = record { has = λ path h. g.has path (f.has path h) }

pub within_same : {V : Type 0} (xs : List (List PathStep × V)) → Within xs xs
within_same xs = record { has = λ path h. h }

-- ---- each transaction of the list is right

module _ (hash : List ℕ → List ℕ) (keys : Keys) (s : Instance) where
  one_further : (path : List PathStep) (step : PathStep) (here : PathEnd) → end_at hash keys s path ≡ Some here
      → end_at hash keys s (path ++ step ∷ []) ≡ next_end hash keys s step here
  one_further path step here h =
      end_from-step hash keys s (at_position (root_standing hash keys s) s.advert.root) path step ∙ ap (option_and_then (next_end hash keys s step)) h

  -- the branches from number i on are those that stand there
  pub record Known (here : Standing) (i : ℕ) (rest : Contract) : Type 0 where
    pub at : (j : ℕ) → end_at hash keys s (branch_path here.position (i + j)) ≡ option_map (at_branch here (i + j)) (slice_get (branches rest) j)

  pub known_here : (here : Standing) (i : ℕ) (b : term.Guarded) (bs : Contract) → Known here i (branch b bs)
      → end_at hash keys s (branch_path here.position i) ≡ Some (at_branch here i b)
  known_here here i b bs k =
      let z : i + 0 ≡ i = omega arith in subst (λ (n : ℕ). end_at hash keys s (branch_path here.position n) ≡ Some (at_branch here n b)) z (k.at 0)

  pub known_more : (here : Standing) (i : ℕ) (b : term.Guarded) (bs : Contract) → Known here i (branch b bs) → Known here (i + 1) bs
  known_more here i b bs k =
      record {
        at =
            λ j.
            let z : i + suc j ≡ i + 1 + j = omega arith in
            subst (λ (n : ℕ). end_at hash keys s (branch_path here.position n) ≡ option_map (at_branch here n) (slice_get (branches bs) j)) z (k.at (suc j));
      }

  pub known_from : (here : Standing) (c : Contract) → ((j : ℕ) → end_at hash keys s (branch_path here.position j) ≡ branch_end here c j) → Known here 0 c
  known_from here c f =
      record {
        at =
            λ j.
            let z : 0 + j ≡ j = omega arith in
            subst (λ (n : ℕ). end_at hash keys s (branch_path here.position n) ≡ option_map (at_branch here n) (slice_get (branches c) j)) (sym z) (f j);
      }

  -- the parts from number k on are those that stand there
  pub record KnownParts (path : List PathStep) (made : Unsigned) (k : ℕ) (rest : Parts) : Type 0 where
    pub at : (j : ℕ) → end_at hash keys s (part_position path (k + j))
        ≡ option_map (λ (p : ℕ × Contract). at_position (part_standing hash keys s path made (k + j) p.0 p.1) p.1) (slice_get (parts_list rest) j)

  pub part_here : (path : List PathStep) (made : Unsigned) (k v : ℕ) (c : Contract) (ps : Parts) → KnownParts path made k (part v c ps)
      → end_at hash keys s (part_position path k) ≡ Some (at_position (part_standing hash keys s path made k v c) c)
  part_here path made k v c ps h =
      let z : k + 0 ≡ k = omega arith in
      subst (λ (n : ℕ). end_at hash keys s (part_position path n) ≡ Some (at_position (part_standing hash keys s path made n v c) c)) z (h.at 0)

  pub part_more : (path : List PathStep) (made : Unsigned) (k v : ℕ) (c : Contract) (ps : Parts) → KnownParts path made k (part v c ps)
      → KnownParts path made (k + 1) ps
  part_more path made k v c ps h =
      record {
        at =
            λ j.
            let z : k + suc j ≡ k + 1 + j = omega arith in
            subst (λ (n : ℕ). end_at hash keys s (part_position path n) ≡ option_map
            (λ (p : ℕ × Contract). at_position (part_standing hash keys s path made n p.0 p.1) p.1) (slice_get (parts_list ps) j)) z (h.at (suc j));
      }

  pub known_continued : (here : Standing) (i : ℕ) (w : term.Guarded) (puts reveals : List (List ℕ)) (test : Pred) (next : Contract)
      → end_at hash keys s (branch_path here.position i) ≡ Some (at_branch here i w) → core w ≡ put_reveal puts reveals test next
      → Known (continued hash keys s (branch_path here.position i)
      (core_unsigned hash keys s here i (lock w) (put_reveal puts reveals test next)) (continued_value s here.output.value puts) next) 0 next
  known_continued here i w puts reveals test next h e =
      known_from _ next (λ j. one_further (branch_path here.position i) (To j) (at_branch here i w) h ∙ rw (e, e) refl)

  pub known_parts : (here : Standing) (i : ℕ) (w : term.Guarded) (parts : Parts) → end_at hash keys s (branch_path here.position i)
      ≡ Some (at_branch here i w) → core w ≡ split parts
      → KnownParts (branch_path here.position i) (core_unsigned hash keys s here i (lock w) (split parts)) 0 parts
  known_parts here i w parts h e =
      record { at = λ j. let z : 0 + j ≡ j = omega arith in rw z (one_further (branch_path here.position i) (Into j) (at_branch here i w) h ∙ rw (e, e) refl) }

  pub part_known : (path : List PathStep) (made : Unsigned) (k v : ℕ) (c : Contract) → end_at hash keys s (part_position path k)
      ≡ Some (at_position (part_standing hash keys s path made k v c) c) → Known (part_standing hash keys s path made k v c) 0 c
  part_known path made k v c h = known_from _ c (λ j. one_further (part_position path k) (To j) (at_position (part_standing hash keys s path made k v c) c) h)

  -- the transaction of a branch that stands there
  unsigned_here : (here : Standing) (i : ℕ) (w c : term.Guarded) → end_at hash keys s (branch_path here.position i)
      ≡ Some (at_branch here i w) → core w ≡ c → unsigned_at hash keys s (branch_path here.position i) ≡ Some (core_unsigned hash keys s here i (lock w) c)
  unsigned_here here i w c h e =
      ap (option_and_then (as_unsigned hash keys s)) h ∙ ap (λ (x : term.Guarded). Some (core_unsigned hash keys s here i (lock w) x)) e

  mutual
    choice_right : (here : Standing) (i : ℕ) (c : Contract) → Known here i c → AreRight (unsigned_at hash keys s) (choice_transactions hash keys s here i c)
    choice_right here i no_branch k = tt
    choice_right here i (branch b bs) k =
        right-append (unsigned_at hash keys s) (branch_transactions hash keys s here i (lock b) b)
        (choice_transactions hash keys s here (i + 1) bs) (branch_right here i b b (known_here here i b bs k) refl)
        (choice_right here (i + 1) bs (known_more here i b bs k))

    branch_right : (here : Standing) (i : ℕ) (w b : term.Guarded) → end_at hash keys s (branch_path here.position i)
        ≡ Some (at_branch here i w) → core w ≡ core b → AreRight (unsigned_at hash keys s) (branch_transactions hash keys s here i (lock w) b)
    branch_right here i w (auth party body) h e = branch_right here i w body h e
    branch_right here i w (after height body) h e = branch_right here i w body h e
    branch_right here i w (put_reveal puts reveals test next) h e =
        (unsigned_here here i w (put_reveal puts reveals test next) h e, choice_right _ 0 next (known_continued here i w puts reveals test next h e))
    branch_right here i w (withdraw party) h e = (unsigned_here here i w (withdraw party) h e, tt)
    branch_right here i w (split parts) h e =
        (unsigned_here here i w (split parts) h e, parts_right (branch_path here.position i) _ 0 parts (known_parts here i w parts h e))

    parts_right : (path : List PathStep) (made : Unsigned) (k : ℕ) (ps : Parts) → KnownParts path made k ps
        → AreRight (unsigned_at hash keys s) (parts_transactions hash keys s path made k ps)
    parts_right path made k no_part h = tt
    parts_right path made k (part v c ps) h =
        right-append (unsigned_at hash keys s) (choice_transactions hash keys s (part_standing hash keys s path made k v c) 0 c)
        (parts_transactions hash keys s path made (k + 1) ps)
        (choice_right _ 0 c (part_known path made k v c (part_here path made k v c ps h)))
        (parts_right path made (k + 1) ps (part_more path made k v c ps h))

  pub transactions_right : AreRight (unsigned_at hash keys s) (path_transactions hash keys s)
  transactions_right = choice_right (root_standing hash keys s) 0 s.advert.root
      (known_from (root_standing hash keys s) s.advert.root (λ j. last_step hash keys s (branch_end (root_standing hash keys s) s.advert.root j)))

  -- ---- and each path is in the list

  -- the transactions under a branch with this core
  abbrev under : Standing → ℕ → ℕ → term.Guarded → List (List PathStep × Unsigned)
  under here i l (put_reveal puts reveals test next) =
      choice_transactions hash keys s (continued hash keys s (branch_path here.position i)
      (core_unsigned hash keys s here i l (put_reveal puts reveals test next)) (continued_value s here.output.value puts) next) 0 next
  under here i l (split parts) = parts_transactions hash keys s (branch_path here.position i) (core_unsigned hash keys s here i l (split parts)) 0 parts
  under here i l (withdraw party) = []
  under here i l (auth party body) = []
  under here i l (after height body) = []

  transactions_are : (here : Standing) (i l : ℕ) (b : term.Guarded) → branch_transactions hash keys s here i l b
      ≡ (branch_path here.position i, core_unsigned hash keys s here i l (core b)) ∷ under here i l (core b)
  transactions_are here i l (auth party body) = transactions_are here i l body
  transactions_are here i l (after height body) = transactions_are here i l body
  transactions_are here i l (put_reveal puts reveals test next) = refl
  transactions_are here i l (withdraw party) = refl
  transactions_are here i l (split parts) = refl

  own_path : (here : Standing) (i l : ℕ) (b : term.Guarded) → has_path (branch_path here.position i) (branch_transactions hash keys s here i l b) ≡ true
  own_path here i l b =
      ap (has_path (branch_path here.position i)) (transactions_are here i l b)
      ∙ or_left _ (has_path (branch_path here.position i) (under here i l (core b))) (path_same (branch_path here.position i))

  under_within : (here : Standing) (i l : ℕ) (b : term.Guarded) → Within (under here i l (core b)) (branch_transactions hash keys s here i l b)
  under_within here i l b = subst (λ (es : List (List PathStep × Unsigned)). Within (under here i l (core b)) es)
      (sym (transactions_are here i l b)) (within_more _ (under here i l (core b)))

  -- the transactions of one branch are among those of its choice
  branch_within : (here : Standing) (i : ℕ) (c : Contract) (j : ℕ) (b : term.Guarded) → slice_get (branches c) j ≡ Some b
      → Within (branch_transactions hash keys s here (i + j) (lock b) b) (choice_transactions hash keys s here i c)
  branch_within here i no_branch j b e = cc
  branch_within here i (branch d bs) zero b e =
      let same : d ≡ b = some_same e in
      let z : i + 0 ≡ i = omega arith in
      subst (λ (n : ℕ). Within (branch_transactions hash keys s here n (lock b) b) (choice_transactions hash keys s here i (branch d bs))) (sym z)
      (subst (λ (x : term.Guarded). Within (branch_transactions hash keys s here i (lock x) x)
      (choice_transactions hash keys s here i (branch d bs))) same
      (within_prefix (branch_transactions hash keys s here i (lock d) d) (choice_transactions hash keys s here (i + 1) bs)))
  branch_within here i (branch d bs) (suc j) b e =
      let z : i + suc j ≡ i + 1 + j = omega arith in
      subst (λ (n : ℕ). Within (branch_transactions hash keys s here n (lock b) b) (choice_transactions hash keys s here i (branch d bs))) (sym z)
      (within_all (branch_within here (i + 1) bs j b e)
      (within_back (branch_transactions hash keys s here i (lock d) d) (choice_transactions hash keys s here (i + 1) bs)))

  -- those of one part are among those of its split
  part_within : (path : List PathStep) (made : Unsigned) (k : ℕ) (ps : Parts) (j : ℕ) (p : ℕ × Contract) → slice_get (parts_list ps) j
      ≡ Some p → Within (choice_transactions hash keys s (part_standing hash keys s path made (k + j) p.0 p.1) 0 p.1)
      (parts_transactions hash keys s path made k ps)
  part_within path made k no_part j p e = cc
  part_within path made k (part v c ps) zero p e =
      let same : (v, c) ≡ p = some_same e in
      let z : k + 0 ≡ k = omega arith in
      subst (λ (n : ℕ). Within (choice_transactions hash keys s (part_standing hash keys s path made n p.0 p.1) 0 p.1)
      (parts_transactions hash keys s path made k (part v c ps))) (sym z)
      (subst (λ (x : ℕ × Contract). Within (choice_transactions hash keys s (part_standing hash keys s path made k x.0 x.1) 0 x.1)
      (parts_transactions hash keys s path made k (part v c ps))) same
      (within_prefix (choice_transactions hash keys s (part_standing hash keys s path made k v c) 0 c)
      (parts_transactions hash keys s path made (k + 1) ps)))
  part_within path made k (part v c ps) (suc j) p e =
      let z : k + suc j ≡ k + 1 + j = omega arith in
      subst (λ (n : ℕ). Within (choice_transactions hash keys s (part_standing hash keys s path made n p.0 p.1) 0 p.1)
      (parts_transactions hash keys s path made k (part v c ps))) (sym z)
      (within_all (part_within path made (k + 1) ps j p e)
      (within_back (choice_transactions hash keys s (part_standing hash keys s path made k v c) 0 c) (parts_transactions hash keys s path made (k + 1) ps)))

  -- what stands at the path has its transactions in the list
  abbrev Listed : List PathStep → PathEnd → Type 0
  Listed path (at_position here c) = (here.position ≡ path) × Within (choice_transactions hash keys s here 0 c) (path_transactions hash keys s)
  Listed path (at_branch here i b) =
      (branch_path here.position i ≡ path) × Within (branch_transactions hash keys s here i (lock b) b) (path_transactions hash keys s)

  abbrev IfListed : List PathStep → Option PathEnd → Type 0
  IfListed path None = Unit {0}
  IfListed path (Some p) = Listed path p

  listed_branch : (path : List PathStep) (here : Standing) (c : Contract) (j : ℕ) (o : Option term.Guarded) → slice_get (branches c) j ≡ o
      → branch_path here.position j ≡ path → Within (choice_transactions hash keys s here 0 c) (path_transactions hash keys s)
      → IfListed path (option_map (at_branch here j) o)
  listed_branch path here c j None e same w = tt
  listed_branch path here c j (Some b) e same w =
      let z : 0 + j ≡ j = omega arith in (
        same,
        within_all (subst (λ (n : ℕ). Within (branch_transactions hash keys s here n (lock b) b)
            (choice_transactions hash keys s here 0 c)) z (branch_within here 0 c j b e)) w,
      )

  listed_part : (path : List PathStep) (made : Unsigned) (ps : Parts) (k : ℕ) (o : Option (ℕ × Contract)) → slice_get (parts_list ps) k ≡ o
      → Within (parts_transactions hash keys s path made 0 ps) (path_transactions hash keys s)
      → IfListed (part_position path k) (option_map (λ (p : ℕ × Contract). at_position (part_standing hash keys s path made k p.0 p.1) p.1) o)
  listed_part path made ps k None e w = tt
  listed_part path made ps k (Some p) e w =
      let z : 0 + k ≡ k = omega arith in (
        refl,
        within_all (subst (λ (n : ℕ). Within (choice_transactions hash keys s (part_standing hash keys s path made n p.0 p.1) 0 p.1)
            (parts_transactions hash keys s path made 0 ps)) z (part_within path made 0 ps k p e)) w,
      )

  -- one step further from a branch, by its core
  listed_core : (path : List PathStep) (here : Standing) (i : ℕ) (w c : term.Guarded) (step : PathStep) → core w ≡ c
      → branch_path here.position i ≡ path → Within (under here i (lock w) c) (path_transactions hash keys s)
      → IfListed (path ++ step ∷ []) (next_core hash keys s here i w c step)
  listed_core path here i w (put_reveal puts reveals test next) (To j) e same h =
      rw e (listed_branch (path ++ To j ∷ []) _ next j (slice_get (branches next) j) refl (ap (λ (p : List PathStep). p ++ To j ∷ []) same) h)
  listed_core path here i w (put_reveal puts reveals test next) (Into k) e same h = tt
  listed_core path here i w (split parts) (To j) e same h = tt
  listed_core path here i w (split parts) (Into k) e same h =
      rw e (subst (λ (p : List PathStep). IfListed (p ++ Into k ∷ [])
      (option_map (λ (q : ℕ × Contract). at_position
      (part_standing hash keys s (branch_path here.position i) (core_unsigned hash keys s here i (lock w) (split parts)) k q.0 q.1) q.1)
      (slice_get (parts_list parts) k))) same (listed_part (branch_path here.position i) _ parts k (slice_get (parts_list parts) k) refl h))
  listed_core path here i w (auth party body) (To j) e same h = tt
  listed_core path here i w (auth party body) (Into k) e same h = tt
  listed_core path here i w (after height body) (To j) e same h = tt
  listed_core path here i w (after height body) (Into k) e same h = tt
  listed_core path here i w (withdraw party) (To j) e same h = tt
  listed_core path here i w (withdraw party) (Into k) e same h = tt

  listed_next : (path : List PathStep) (p : PathEnd) (step : PathStep) → Listed path p → IfListed (path ++ step ∷ []) (next_end hash keys s step p)
  listed_next path (at_position here c) (To j) h =
      listed_branch (path ++ To j ∷ []) here c j (slice_get (branches c) j) refl (ap (λ (p : List PathStep). p ++ To j ∷ []) h.0) h.1
  listed_next path (at_position here c) (Into k) h = tt
  listed_next path (at_branch here i b) step h =
      subst (λ (o : Option PathEnd). IfListed (path ++ step ∷ []) o) (sym (is_next_core hash keys s here i b step))
      (listed_core path here i b (core b) step refl h.0 (within_all (under_within here i (lock b) b) h.1))

  reached_if : (path steps : List PathStep) (d : Unsigned) (o : Option PathEnd) → IfListed path o
      → ((p : PathEnd) → Listed path p → option_and_then (as_unsigned hash keys s) (end_from hash keys s p steps) ≡ Some d
      → has_path (path ++ steps) (path_transactions hash keys s) ≡ true)
      → option_and_then (as_unsigned hash keys s) (option_and_then (λ (p : PathEnd). end_from hash keys s p steps) o) ≡ Some d
      → has_path (path ++ steps) (path_transactions hash keys s) ≡ true
  reached_if path steps d None h k e = cc
  reached_if path steps d (Some p) h k e = k p h e

  reached : (path steps : List PathStep) (d : Unsigned) (p : PathEnd) → Listed path p
      → option_and_then (as_unsigned hash keys s) (end_from hash keys s p steps) ≡ Some d → has_path (path ++ steps) (path_transactions hash keys s) ≡ true
  reached path [] d (at_position here c) h e = cc
  reached path [] d (at_branch here i b) h e =
      let has = h.1.has (branch_path here.position i) (own_path here i (lock b) b) in
      subst (λ (q : List PathStep). has_path q (path_transactions hash keys s) ≡ true) (h.0 ∙ sym (append-nil path)) has
  reached path (step ∷ steps) d p h e =
      subst (λ (q : List PathStep). has_path q (path_transactions hash keys s) ≡ true) (append_assoc path (step ∷ []) steps)
      (reached_if (path ++ step ∷ []) steps d (next_end hash keys s step p) (listed_next path p step h) (λ q k l. reached (path ++ step ∷ []) steps d q k l) e)

  transactions_listed : (path : List PathStep) → at_path path (path_transactions hash keys s) ≡ unsigned_at hash keys s path
  transactions_listed path = list_is (unsigned_at hash keys s) path (path_transactions hash keys s) transactions_right
      (λ d e. reached [] path d (at_position (root_standing hash keys s) s.advert.root) (refl, within_same (path_transactions hash keys s)) e)

  -- ---- with txids and digests

  mapped : (path : List PathStep) (es : List (List PathStep × Unsigned))
      → at_path path (map {B = List PathStep × Prepared} (λ e. (e.0, prepared hash e.1)) es) ≡ option_map (prepared hash) (at_path path es)
  mapped path [] = refl
  mapped path (e ∷ es) = by_test (path_eq e.0 path) (mapped path es)
    where
      by_test : (b : Bool) → at_path path (map {B = List PathStep × Prepared} (λ e. (e.0, prepared hash e.1)) es)
          ≡ option_map (prepared hash) (at_path path es)
          → (if b then Some (prepared hash e.1) else at_path path (map {B = List PathStep × Prepared} (λ e. (e.0, prepared hash e.1)) es))
          ≡ option_map (prepared hash) (if b then Some (e.1) else at_path path es)
      by_test true h = refl
      by_test false h = h

  pub paths_are_listed : (path : List PathStep) → at_path path (compilation hash keys s).paths ≡ prepared_at hash keys s path
  paths_are_listed path = mapped path (path_transactions hash keys s) ∙ ap (option_map (prepared hash)) (transactions_listed path)
