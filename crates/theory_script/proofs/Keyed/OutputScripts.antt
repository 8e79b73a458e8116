-- The list of a contract's scripts has each position with the script of its output.
use Rattle.std.proofs.Common.{◌≡◌, ℕ, zero, suc, ◌+◌, List, [], ◌∷◌, ◌++◌, true, Option, Some, None, refl, sym, ap, ◌∙◌, subst, arith, append_assoc, append-nil}
use Rattle.std.specs.Prelude.{slice_get}
use Rattle.std.specs.Option.{option_map, option_and_then}
use Rattle.std.proofs.lemmas.Bool.{or_left}
use Rattle.spec_terms.specs.Term as term
use Rattle.spec_terms.specs.Term.{Contract, no_branch, branch, branches, Parts, no_part, part, parts_list, auth, after, put_reveal, withdraw, split}
use Rattle.spec_terms.specs.Core.{core, lock}
use Rattle.spec_terms.specs.declared.path.PathStep.{PathStep}
use Rattle.spec_terms.specs.declared.path.PathStep.TheVariants.{Branch as To, Part as Into}
use Rattle.spec_compiler.specs.Keyed.Keys.{Keys}
use Rattle.spec_compiler.specs.Keyed.Instance.{Instance, branch_path, position_script}
use Rattle.spec_compiler.specs.declared.unsigned.Unsigned.{Unsigned}
use Rattle.spec_compiler.specs.Keyed.Transactions.{Standing, core_unsigned, part_position, part_standing, root_standing}
use Rattle.spec_compiler.specs.Keyed.Compilation.{choice_scripts, branch_scripts, parts_scripts, scripts}
use Rattle.spec_compiler.specs.Keyed.ByPath.{PathEnd, at_position, at_branch, branch_end, continued_end, next_end, end_from, end_at, as_position, position_at}
use Rattle.theory_script.specs.Keyed.Listed.{at_path}
use Rattle.theory_script.proofs.Keyed.Stands.{next_core, is_next_core, some_same, last_step}
use Rattle.theory_script.proofs.Keyed.Transactions.{has_path, AreRight, right-append, list_is, path_same, Within, within_prefix, within_back, within_more, within_all, within_same, Known, known_here, known_more, known_from, KnownParts, part_here, part_more, known_continued, known_parts, part_known}

-- the script of a position's output
abbrev script_of : Standing × Contract → List ℕ
script_of p = p.0.output.script

module _ (hash : List ℕ → List ℕ) (keys : Keys) (s : Instance) where
  abbrev script_at : List PathStep → Option (List ℕ)
  script_at path = option_map script_of (position_at hash keys s path)

  -- ---- each script of the list is right

  script_here : (path : List PathStep) (p : PathEnd) (v : List ℕ) → end_at hash keys s path ≡ Some p
      → option_map script_of (as_position hash keys s p) ≡ Some v → script_at path ≡ Some v
  script_here path p v h e = ap (λ (o : Option PathEnd). option_map script_of (option_and_then (as_position hash keys s) o)) h ∙ e

  mutual
    choice_right : (here : Standing) (i : ℕ) (c : Contract) → Known hash keys s here i c → AreRight script_at (choice_scripts hash keys s here.position i c)
    choice_right here i no_branch k = tt
    choice_right here i (branch b bs) k =
        right-append script_at (branch_scripts hash keys s (branch_path here.position i) b)
        (choice_scripts hash keys s here.position (i + 1) bs) (branch_right here i b b (known_here hash keys s here i b bs k) refl)
        (choice_right here (i + 1) bs (known_more hash keys s here i b bs k))

    branch_right : (here : Standing) (i : ℕ) (w b : term.Guarded) → end_at hash keys s (branch_path here.position i)
        ≡ Some (at_branch here i w) → core w ≡ core b → AreRight script_at (branch_scripts hash keys s (branch_path here.position i) b)
    branch_right here i w (auth party body) h e = branch_right here i w body h e
    branch_right here i w (after height body) h e = branch_right here i w body h e
    branch_right here i w (put_reveal puts reveals test next) h e = (
      script_here (branch_path here.position i) (at_branch here i w) (position_script hash keys s (branch_path here.position i) next) h (rw e refl),
      choice_right _ 0 next (known_continued hash keys s here i w puts reveals test next h e),
    )
    branch_right here i w (withdraw party) h e = tt
    branch_right here i w (split parts) h e = parts_right (branch_path here.position i) _ 0 parts (known_parts hash keys s here i w parts h e)

    parts_right : (path : List PathStep) (made : Unsigned) (k : ℕ) (ps : Parts) → KnownParts hash keys s path made k ps
        → AreRight script_at (parts_scripts hash keys s path k ps)
    parts_right path made k no_part h = tt
    parts_right path made k (part v c ps) h =
        let here = part_here hash keys s path made k v c ps h in (
          script_here (part_position path k) (at_position (part_standing hash keys s path made k v c) c)
              (position_script hash keys s (part_position path k) c) here refl,
          right-append script_at (choice_scripts hash keys s (part_position path k) 0 c) (parts_scripts hash keys s path (k + 1) ps)
              (choice_right _ 0 c (part_known hash keys s path made k v c here))
              (parts_right path made (k + 1) ps (part_more hash keys s path made k v c ps h)),
        )

  scripts_right : AreRight script_at (scripts hash keys s)
  scripts_right = (
    refl,
    choice_right (root_standing hash keys s) 0 s.advert.root
        (known_from hash keys s (root_standing hash keys s) s.advert.root
        (λ j. last_step hash keys s (branch_end (root_standing hash keys s) s.advert.root j))),
  )

  -- ---- and each position is in the list

  -- the scripts at and under a branch with this core
  abbrev from : List PathStep → term.Guarded → List (List PathStep × List ℕ)
  from path (put_reveal puts reveals test next) = (path, position_script hash keys s path next) ∷ choice_scripts hash keys s path 0 next
  from path (split parts) = parts_scripts hash keys s path 0 parts
  from path (withdraw party) = []
  from path (auth party body) = []
  from path (after height body) = []

  scripts_are : (path : List PathStep) (b : term.Guarded) → branch_scripts hash keys s path b ≡ from path (core b)
  scripts_are path (auth party body) = scripts_are path body
  scripts_are path (after height body) = scripts_are path body
  scripts_are path (put_reveal puts reveals test next) = refl
  scripts_are path (withdraw party) = refl
  scripts_are path (split parts) = refl

  branch_within : (position : List PathStep) (i : ℕ) (c : Contract) (j : ℕ) (b : term.Guarded) → slice_get (branches c) j ≡ Some b
      → Within (branch_scripts hash keys s (branch_path position (i + j)) b) (choice_scripts hash keys s position i c)
  branch_within position i no_branch j b e = cc
  branch_within position i (branch d bs) zero b e =
      let same : d ≡ b = some_same e in
      let z : i + 0 ≡ i = omega arith in
      subst (λ (n : ℕ). Within (branch_scripts hash keys s (branch_path position n) b) (choice_scripts hash keys s position i (branch d bs))) (sym z)
      (subst (λ (x : term.Guarded). Within (branch_scripts hash keys s (branch_path position i) x)
      (choice_scripts hash keys s position i (branch d bs))) same
      (within_prefix (branch_scripts hash keys s (branch_path position i) d) (choice_scripts hash keys s position (i + 1) bs)))
  branch_within position i (branch d bs) (suc j) b e =
      let z : i + suc j ≡ i + 1 + j = omega arith in
      subst (λ (n : ℕ). Within (branch_scripts hash keys s (branch_path position n) b) (choice_scripts hash keys s position i (branch d bs))) (sym z)
      (within_all (branch_within position (i + 1) bs j b e)
      (within_back (branch_scripts hash keys s (branch_path position i) d) (choice_scripts hash keys s position (i + 1) bs)))

  -- the script of a part, and those under it
  abbrev part_scripts : List PathStep → ℕ → Contract → List (List PathStep × List ℕ)
  part_scripts path k c = (part_position path k, position_script hash keys s (part_position path k) c) ∷ choice_scripts hash keys s (part_position path k) 0 c

  part_within : (path : List PathStep) (k : ℕ) (ps : Parts) (j : ℕ) (p : ℕ × Contract) → slice_get (parts_list ps) j ≡ Some p
      → Within (part_scripts path (k + j) p.1) (parts_scripts hash keys s path k ps)
  part_within path k no_part j p e = cc
  part_within path k (part v c ps) zero p e =
      let same : (v, c) ≡ p = some_same e in
      let z : k + 0 ≡ k = omega arith in
      subst (λ (n : ℕ). Within (part_scripts path n p.1) (parts_scripts hash keys s path k (part v c ps))) (sym z)
      (subst (λ (x : ℕ × Contract). Within (part_scripts path k x.1) (parts_scripts hash keys s path k (part v c ps))) same
      (within_prefix (part_scripts path k c) (parts_scripts hash keys s path (k + 1) ps)))
  part_within path k (part v c ps) (suc j) p e =
      let z : k + suc j ≡ k + 1 + j = omega arith in
      subst (λ (n : ℕ). Within (part_scripts path n p.1) (parts_scripts hash keys s path k (part v c ps))) (sym z)
      (within_all (part_within path (k + 1) ps j p e) (within_back (part_scripts path k c) (parts_scripts hash keys s path (k + 1) ps)))

  -- what stands at the path has its scripts in the list
  abbrev Listed : List PathStep → PathEnd → Type 0
  Listed path (at_position here c) =
      (here.position ≡ path) × Within ((here.position, position_script hash keys s here.position c)
      ∷ choice_scripts hash keys s here.position 0 c) (scripts hash keys s)
  Listed path (at_branch here i b) =
      (branch_path here.position i ≡ path) × Within (branch_scripts hash keys s (branch_path here.position i) b) (scripts hash keys s)

  abbrev IfListed : List PathStep → Option PathEnd → Type 0
  IfListed path None = Unit {0}
  IfListed path (Some p) = Listed path p

  listed_branch : (path : List PathStep) (here : Standing) (c : Contract) (j : ℕ) (o : Option term.Guarded) → slice_get (branches c) j ≡ o
      → branch_path here.position j ≡ path → Within (choice_scripts hash keys s here.position 0 c) (scripts hash keys s)
      → IfListed path (option_map (at_branch here j) o)
  listed_branch path here c j None e same w = tt
  listed_branch path here c j (Some b) e same w =
      let z : 0 + j ≡ j = omega arith in (
        same,
        within_all (subst (λ (n : ℕ). Within (branch_scripts hash keys s (branch_path here.position n) b)
            (choice_scripts hash keys s here.position 0 c)) z (branch_within here.position 0 c j b e)) w,
      )

  listed_part : (path : List PathStep) (made : Unsigned) (ps : Parts) (k : ℕ) (o : Option (ℕ × Contract)) → slice_get (parts_list ps) k ≡ o
      → Within (parts_scripts hash keys s path 0 ps) (scripts hash keys s)
      → IfListed (part_position path k) (option_map (λ (p : ℕ × Contract). at_position (part_standing hash keys s path made k p.0 p.1) p.1) o)
  listed_part path made ps k None e w = tt
  listed_part path made ps k (Some p) e w =
      let z : 0 + k ≡ k = omega arith in
      (refl, within_all (subst (λ (n : ℕ). Within (part_scripts path n p.1) (parts_scripts hash keys s path 0 ps)) z (part_within path 0 ps k p e)) w)

  listed_core : (path : List PathStep) (here : Standing) (i : ℕ) (w c : term.Guarded) (step : PathStep) → core w ≡ c
      → branch_path here.position i ≡ path → Within (from (branch_path here.position i) c) (scripts hash keys s)
      → IfListed (path ++ step ∷ []) (next_core hash keys s here i w c step)
  listed_core path here i w (put_reveal puts reveals test next) (To j) e same h =
      rw e (listed_branch (path ++ To j ∷ []) _ next j (slice_get (branches next) j) refl (ap (λ (p : List PathStep). p ++ To j ∷ []) same)
      (within_all (within_more _ (choice_scripts hash keys s (branch_path here.position i) 0 next)) h))
  listed_core path here i w (put_reveal puts reveals test next) (Into k) e same h = tt
  listed_core path here i w (split parts) (To j) e same h = tt
  listed_core path here i w (split parts) (Into k) e same h =
      rw e (subst (λ (p : List PathStep). IfListed (p ++ Into k ∷ [])
      (option_map (λ (q : ℕ × Contract). at_position
      (part_standing hash keys s (branch_path here.position i) (core_unsigned hash keys s here i (lock w) (split parts)) k q.0 q.1) q.1)
      (slice_get (parts_list parts) k))) same (listed_part (branch_path here.position i)
      (core_unsigned hash keys s here i (lock w) (split parts)) parts k (slice_get (parts_list parts) k) refl h))
  listed_core path here i w (auth party body) (To j) e same h = tt
  listed_core path here i w (auth party body) (Into k) e same h = tt
  listed_core path here i w (after height body) (To j) e same h = tt
  listed_core path here i w (after height body) (Into k) e same h = tt
  listed_core path here i w (withdraw party) (To j) e same h = tt
  listed_core path here i w (withdraw party) (Into k) e same h = tt

  listed_next : (path : List PathStep) (p : PathEnd) (step : PathStep) → Listed path p → IfListed (path ++ step ∷ []) (next_end hash keys s step p)
  listed_next path (at_position here c) (To j) h =
      listed_branch (path ++ To j ∷ []) here c j (slice_get (branches c) j) refl (ap (λ (p : List PathStep). p ++ To j ∷ []) h.0)
      (within_all (within_more _ (choice_scripts hash keys s here.position 0 c)) h.1)
  listed_next path (at_position here c) (Into k) h = tt
  listed_next path (at_branch here i b) step h =
      subst (λ (o : Option PathEnd). IfListed (path ++ step ∷ []) o) (sym (is_next_core hash keys s here i b step))
      (listed_core path here i b (core b) step refl h.0
      (subst (λ (es : List (List PathStep × List ℕ)). Within es (scripts hash keys s)) (scripts_are (branch_path here.position i) b) h.1))

  -- a position that stands at the path is in the list
  own_script : (path : List PathStep) (here : Standing) (i : ℕ) (d c : term.Guarded) (v : List ℕ)
      → Within (from path c) (scripts hash keys s) → option_map script_of (continued_end hash keys s here i d c) ≡ Some v
      → has_path path (scripts hash keys s) ≡ true
  own_script path here i d (put_reveal puts reveals test next) v h e =
      h.has path (or_left _ (has_path path (choice_scripts hash keys s path 0 next)) (path_same path))
  own_script path here i d (split parts) v h e = cc
  own_script path here i d (withdraw party) v h e = cc
  own_script path here i d (auth party body) v h e = cc
  own_script path here i d (after height body) v h e = cc

  own_position : (path : List PathStep) (p : PathEnd) (v : List ℕ) → Listed path p → option_map script_of (as_position hash keys s p)
      ≡ Some v → has_path path (scripts hash keys s) ≡ true
  own_position path (at_position here c) v h e =
      subst (λ (q : List PathStep). has_path q (scripts hash keys s) ≡ true) h.0
      (h.1.has here.position (or_left _ (has_path here.position (choice_scripts hash keys s here.position 0 c)) (path_same here.position)))
  own_position path (at_branch here i b) v h e =
      subst (λ (q : List PathStep). has_path q (scripts hash keys s) ≡ true) h.0
      (own_script (branch_path here.position i) here i b (core b) v
      (subst (λ (es : List (List PathStep × List ℕ)). Within es (scripts hash keys s)) (scripts_are (branch_path here.position i) b) h.1) e)

  reached_if : (path steps : List PathStep) (v : List ℕ) (o : Option PathEnd) → IfListed path o
      → ((p : PathEnd) → Listed path p → option_map script_of (option_and_then (as_position hash keys s) (end_from hash keys s p steps))
      ≡ Some v → has_path (path ++ steps) (scripts hash keys s) ≡ true)
      → option_map script_of (option_and_then (as_position hash keys s) (option_and_then (λ (p : PathEnd). end_from hash keys s p steps) o))
      ≡ Some v → has_path (path ++ steps) (scripts hash keys s) ≡ true
  reached_if path steps v None h k e = cc
  reached_if path steps v (Some p) h k e = k p h e

  reached : (path steps : List PathStep) (v : List ℕ) (p : PathEnd) → Listed path p
      → option_map script_of (option_and_then (as_position hash keys s) (end_from hash keys s p steps)) ≡ Some v
      → has_path (path ++ steps) (scripts hash keys s) ≡ true
  reached path [] v p h e = subst (λ (q : List PathStep). has_path q (scripts hash keys s) ≡ true) (sym (append-nil path)) (own_position path p v h e)
  reached path (step ∷ steps) v p h e =
      subst (λ (q : List PathStep). has_path q (scripts hash keys s) ≡ true) (append_assoc path (step ∷ []) steps)
      (reached_if (path ++ step ∷ []) steps v (next_end hash keys s step p) (listed_next path p step h) (λ q k l. reached (path ++ step ∷ []) steps v q k l) e)

  pub scripts_are_listed : (position : List PathStep) → at_path position (scripts hash keys s) ≡ script_at position
  scripts_are_listed position =
      list_is script_at position (scripts hash keys s) scripts_right
      (λ v e. reached [] position v (at_position (root_standing hash keys s) s.advert.root) (refl, within_same (scripts hash keys s)) e)
