-- The branch at the end of a path stands at a position, which has its branches and its script.
use Rattle.std.proofs.Common.{◌≡◌, ℕ, List, [], ◌∷◌, ◌++◌, Option, Some, None, refl, sym, ap, ◌∙◌, subst}
use Rattle.std.specs.Prelude.{slice_get}
use Rattle.std.specs.Option.{option_map, option_and_then}
use Rattle.spec_terms.specs.Term as term
use Rattle.spec_terms.specs.Term.{Contract, branches, parts_list, auth, after, put_reveal, withdraw, split}
use Rattle.spec_terms.specs.Core.{core}
use Rattle.spec_terms.specs.declared.path.PathStep.{PathStep}
use Rattle.spec_terms.specs.declared.path.PathStep.TheVariants.{Branch as To, Part as Into}
use Rattle.spec_compiler.specs.Keyed.Keys.{Keys}
use Rattle.spec_compiler.specs.Keyed.Instance.{Instance, branch_path}
use Rattle.spec_compiler.specs.Keyed.Transactions.{Standing, branch_unsigned, part_standing, root_standing}
use Rattle.spec_compiler.specs.Keyed.ByPath.{PathEnd, at_position, at_branch, branch_end, part_end, next_end, end_from, end_at, as_position}
use Rattle.theory_script.specs.Keyed.Listed.{StandsAt}
use Rattle.theory_script.proofs.Keyed.Stands.{end_from-step, position_stands, some_same}

module _ (hash : List ℕ → List ℕ) (keys : Keys) (s : Instance) where
  -- the position of branch i, which is this one
  pub record Found (here : Standing) (i : ℕ) (b : term.Guarded) : Type 0 where
    pub choice : Contract
    pub stands : StandsAt hash keys s here.position here choice
    pub is_branch : slice_get (branches choice) i ≡ Some b

  abbrev pub IfFound : PathEnd → Type 0
  IfFound (at_position here choice) = Unit {0}
  IfFound (at_branch here i b) = Found here i b

  by_position_end : (j : ℕ) (p : PathEnd)
      → next_end hash keys s (To j) p ≡ option_and_then (λ (x : Standing × Contract). branch_end x.0 x.1 j) (as_position hash keys s p)
  by_position_end j (at_position here choice) = refl
  by_position_end j (at_branch here i b) = refl

  of_position : (prefix : List PathStep) (x : Standing × Contract) (j : ℕ) (o : Option term.Guarded) (r : PathEnd)
      → option_and_then (as_position hash keys s) (end_at hash keys s prefix) ≡ Some x → slice_get (branches x.1) j ≡ o
      → option_map (at_branch x.0 j) o ≡ Some r → IfFound r
  of_position prefix x j None r there is e = cc
  of_position prefix x j (Some b) r there is e =
      let stands = position_stands hash keys s prefix (x.0) (x.1) there in
      subst IfFound (some_same e) (record {
        choice = x.1;
        stands = subst (λ (q : List PathStep). StandsAt hash keys s q (x.0) (x.1)) (sym stands.path) stands;
        is_branch = is;
      })

  of_branch : (prefix : List PathStep) (j : ℕ) (o : Option (Standing × Contract)) (r : PathEnd)
      → option_and_then (as_position hash keys s) (end_at hash keys s prefix) ≡ o
      → option_and_then (λ (x : Standing × Contract). branch_end x.0 x.1 j) o ≡ Some r → IfFound r
  of_branch prefix j None r there e = cc
  of_branch prefix j (Some x) r there e = of_position prefix x j (slice_get (branches x.1) j) r there refl e

  of_part : (here : Standing) (i k : ℕ) (b c : term.Guarded) (r : PathEnd) → part_end hash keys s here i b k c ≡ Some r → IfFound r
  of_part here i k b (put_reveal puts reveals test next) r e = cc
  of_part here i k b (withdraw party) r e = cc
  of_part here i k b (auth party body) r e = cc
  of_part here i k b (after height body) r e = cc
  of_part here i k b (split parts) r e = by_part (slice_get (parts_list parts) k) e
    where
      by_part : (o : Option (ℕ × Contract))
          → option_map
          (λ (p : ℕ × Contract).
          at_position (part_standing hash keys s (branch_path here.position i) (branch_unsigned hash keys s here i b) k p.0 p.1) p.1)
          o ≡ Some r
          → IfFound r
      by_part None x = cc
      by_part (Some p) x = subst IfFound (some_same x) tt

  found_next : (prefix : List PathStep) (step : PathStep) (p r : PathEnd) → end_at hash keys s prefix ≡ Some p
      → next_end hash keys s step p ≡ Some r → IfFound r
  found_next prefix (To j) p r there e =
      of_branch prefix j (as_position hash keys s p) r (ap (option_and_then (as_position hash keys s)) there) (sym (by_position_end j p) ∙ e)
  found_next prefix (Into k) (at_position here choice) r there e = cc
  found_next prefix (Into k) (at_branch here i b) r there e = of_part here i k b (core b) r e

  one_more : (prefix : List PathStep) (step : PathStep) (p : PathEnd) → end_at hash keys s prefix ≡ Some p
      → end_at hash keys s (prefix ++ step ∷ []) ≡ next_end hash keys s step p
  one_more prefix step p h =
      end_from-step hash keys s (at_position (root_standing hash keys s) s.advert.root) prefix step
      ∙ ap (option_and_then (next_end hash keys s step)) h

  by_next : (P : PathEnd → Type 0) (steps : List PathStep) (q : PathEnd) (o : Option PathEnd)
      → ((r : PathEnd) → o ≡ Some r → end_from hash keys s r steps ≡ Some q → P q)
      → option_and_then (λ (r : PathEnd). end_from hash keys s r steps) o ≡ Some q → P q
  by_next P steps q None go e = cc
  by_next P steps q (Some r) go e = go r refl e

  -- what each step keeps is kept along a path
  pub along : (P : PathEnd → Type 0)
      → ((prefix : List PathStep) (step : PathStep) (p r : PathEnd) → end_at hash keys s prefix ≡ Some p → P p
      → next_end hash keys s step p ≡ Some r → P r)
      → (prefix steps : List PathStep) (p q : PathEnd) → end_at hash keys s prefix ≡ Some p → P p → end_from hash keys s p steps ≡ Some q → P q
  along P next prefix [] p q there now e = subst P (some_same e) now
  along P next prefix (step ∷ steps) p q there now e =
      by_next P steps q (next_end hash keys s step p)
      (λ r is k. along P next (prefix ++ step ∷ []) steps r q (one_more prefix step p there ∙ is) (next prefix step p r there now is) k) e

  -- the branch at the end of a path
  pub branch_found : (path : List PathStep) (here : Standing) (i : ℕ) (b : term.Guarded)
      → end_at hash keys s path ≡ Some (at_branch here i b) → Found here i b
  branch_found path here i b e =
      along IfFound (λ prefix step p r there now is. found_next prefix step p r there is)
      [] path (at_position (root_standing hash keys s) s.advert.root) (at_branch here i b) refl tt e
