-- Each branch of a well-formed compiled contract is as text may have it.
use Rattle.std.proofs.Common.{◌≡◌, ℕ, List, [], ◌∷◌, ◌++◌, Bool, true, Option, Some, None, refl, subst}
use Rattle.std.specs.Prelude.{◌&&◌, nat_le, slice_get, option_map, option_and_then}
use Rattle.std.proofs.lemmas.Bool.{and_parts}
use Rattle.spec_terms.specs.Term as term
use Rattle.spec_terms.specs.Term.{Contract, branches, parts_list, auth, after, put_reveal, withdraw, split}
use Rattle.spec_terms.specs.Core.{core}
use Rattle.spec_data.specs.Ranges.{max_money}
use Rattle.spec_terms.specs.Readable.{is_readable_pre, is_readable_contract, is_readable_branch, is_readable_split, is_readable_test, is_readable_count, are_readable, are_readable_parts}
use Rattle.spec_terms.specs.Faults.{IsWellFormed}
use Rattle.spec_terms.specs.declared.path.PathStep.{PathStep}
use Rattle.spec_terms.specs.declared.path.PathStep.TheVariants.{Branch as To, Part as Into}
use Rattle.spec_compiler.specs.Instance.{Instance, branch_path}
use Rattle.spec_compiler.specs.Transactions.{Standing, continued_value, branch_unsigned, continued, part_standing, root_standing}
use Rattle.spec_compiler.specs.ByPath as by_path
use Rattle.spec_compiler.specs.ByPath.{PathEnd, branch_end, continued_end, part_end, next_end, end_from, position_at}
use Rattle.theory_world.proofs.Contracts.Standing.{stand_of_branch}
use Rattle.theory_world.proofs.Labels.{branch_readable, part_fine, core_readable}

abbrev is_fine : Contract → Bool
is_fine c = is_readable_count c && are_readable c

module _ (hash : List ℕ → List ℕ) (st : Instance) where
  abbrev Readable : PathEnd → Type 0
  Readable (by_path.at_position here choice) = is_fine choice ≡ true
  Readable (by_path.at_branch here i b) = is_readable_branch b ≡ true

  at_choice : (here : Standing) (choice : Contract) (i : ℕ) (end : PathEnd) → is_fine choice ≡ true → branch_end here choice i ≡ Some end → Readable end
  at_choice here choice i end f h = by_branch (slice_get (branches choice) i) refl h
    where
      by_branch : (o : Option term.Guarded) → slice_get (branches choice) i ≡ o → option_map (by_path.at_branch here i) o ≡ Some end → Readable end
      by_branch None e q = cc
      by_branch (Some b) e q =
          let z : by_path.at_branch here i b ≡ end = cc in
          subst Readable z (branch_readable choice i b (and_parts (is_readable_count choice) (are_readable choice) f).1 e)

  at_continued : (here : Standing) (i : ℕ) (b c : term.Guarded) (p : Standing × Contract) → is_readable_branch c ≡ true
      → continued_end hash st here i b c ≡ Some p → is_fine p.1 ≡ true
  at_continued here i b (put_reveal puts reveals test next) p f h =
      let z : (let q : Standing × Contract =
      (continued hash st (branch_path here.position i) (branch_unsigned hash st here i b) (continued_value st here.output.value puts) next, next) in q)
      ≡ p =
      cc in
      let r = and_parts _ (is_readable_test test && is_fine next) f in
      subst (λ (q : Standing × Contract). is_fine q.1 ≡ true) z (and_parts (is_readable_test test) (is_fine next) r.1).1
  at_continued here i b (withdraw party) p f h = cc
  at_continued here i b (split parts) p f h = cc
  at_continued here i b (auth party body) p f h = cc
  at_continued here i b (after height body) p f h = cc

  at_part : (here : Standing) (i k : ℕ) (b c : term.Guarded) (end : PathEnd) → is_readable_branch c ≡ true → part_end hash st here i b k c
      ≡ Some end → Readable end
  at_part here i k b (put_reveal puts reveals test next) end f h = cc
  at_part here i k b (withdraw party) end f h = cc
  at_part here i k b (split ps) end f h = by_part (slice_get (parts_list ps) k) refl h
    where
      by_part : (o : Option (ℕ × Contract)) → slice_get (parts_list ps) k ≡ o
          → option_map (λ (p : ℕ × Contract). by_path.at_position
          (part_standing hash st (branch_path here.position i) (branch_unsigned hash st here i b) k p.0 p.1) p.1) o ≡ Some end → Readable end
      by_part None e q = cc
      by_part (Some x) e q =
          let z : by_path.at_position (part_standing hash st (branch_path here.position i) (branch_unsigned hash st here i b) k x.0 x.1) x.1 ≡ end = cc in
          subst Readable z (part_fine ps k x (and_parts (is_readable_split ps) (are_readable_parts ps) f).1 e)
  at_part here i k b (auth party body) end f h = cc
  at_part here i k b (after height body) end f h = cc

  at_next : (step : PathStep) (here next : PathEnd) → Readable here → next_end hash st step here ≡ Some next → Readable next
  at_next (To i) (by_path.at_position here choice) next f h = at_choice here choice i next f h
  at_next (Into k) (by_path.at_position here choice) next f h = cc
  at_next (To j) (by_path.at_branch here i b) next f h = by_continued (continued_end hash st here i b (core b)) refl h
    where
      by_continued : (o : Option (Standing × Contract)) → continued_end hash st here i b (core b) ≡ o
          → option_and_then (λ (p : Standing × Contract). branch_end p.0 p.1 j) o ≡ Some next → Readable next
      by_continued None e q = cc
      by_continued (Some p) e q = at_choice p.0 p.1 j next (at_continued here i b (core b) p (core_readable b f) e) q
  at_next (Into k) (by_path.at_branch here i b) next f h = at_part here i k b (core b) next (core_readable b f) h

  from_readable : (path : List PathStep) (here end : PathEnd) → Readable here → end_from hash st here path ≡ Some end → Readable end
  from_readable [] here end f h = let e : here ≡ end = cc in subst Readable e f
  from_readable (step ∷ path) here end f h =
      by_next (next_end hash st step here) refl h (λ next e q. from_readable path next end (at_next step here next f e) q)
    where
      by_next : (o : Option PathEnd) → next_end hash st step here ≡ o → option_and_then (λ (next : PathEnd). end_from hash st next path) o ≡ Some end
          → ((next : PathEnd) → next_end hash st step here ≡ Some next → end_from hash st next path ≡ Some end → Readable end) → Readable end
      by_next None e q go = cc
      by_next (Some next) e q go = go next e q

  root_readable : IsWellFormed st.advert → is_fine st.advert.root ≡ true
  root_readable h =
      let r = and_parts (is_readable_pre st.advert.pre) (nat_le st.advert.fee max_money && is_readable_contract st.advert.root) h.readable in
      let c = (and_parts (nat_le st.advert.fee max_money) (is_readable_contract st.advert.root) r.1).1 in
      (and_parts (is_fine st.advert.root) _ c).0

  -- a branch of a position
  pub branch_is_readable : IsWellFormed st.advert → (q : List PathStep) (here : Standing) (choice : Contract) (i : ℕ) (b : term.Guarded)
      → position_at hash st q ≡ Some (here, choice) → slice_get (branches choice) i ≡ Some b → is_readable_branch b ≡ true
  branch_is_readable well q here choice i b stands there =
      from_readable (q ++ To i ∷ []) (by_path.at_position (root_standing hash st) st.advert.root) (by_path.at_branch here i b)
      (root_readable well) (stand_of_branch hash st q here choice i b stands there)
