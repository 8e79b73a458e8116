-- Where the positions of a compiled contract lie.
use Rattle.std.proofs.Common.{◌≡◌, ℕ, ◌<◌, ◌^◌, List, [], ◌∷◌, Option, Some, None, refl, ap, ◌∙◌, subst, arith}
use Rattle.std.specs.Prelude.{slice_get, option_map, option_and_then}
use Rattle.std.specs.List.{AllByRecursion}
use Rattle.spec_terms.specs.Faults.{IsWellFormed}
use Rattle.spec_terms.specs.Term as term
use Rattle.spec_terms.specs.Term.{Contract, branches, parts_list, auth, after, put_reveal, withdraw, split}
use Rattle.spec_terms.specs.Core.{core}
use Rattle.spec_terms.specs.declared.path.PathStep.{PathStep}
use Rattle.spec_terms.specs.declared.path.PathStep.TheVariants.{Branch as To, Part as Into}
use Rattle.spec_bitcoin.specs.Spelling.{stripped, IsPlace}
use Rattle.spec_bitcoin.specs.Keys.{IsStep}
use Rattle.spec_compiler.specs.Instance.{Instance, branch_path}
use Rattle.spec_compiler.specs.declared.unsigned.Unsigned.{Unsigned}
use Rattle.spec_compiler.specs.Transactions.{Standing, tx_of, output_outpoint, continued_value, branch_unsigned, continued, part_standing, initial_unsigned, root_standing}
use Rattle.spec_compiler.specs.ByPath as by_path
use Rattle.spec_compiler.specs.ByPath.{PathEnd, branch_end, continued_end, part_end, next_end, end_from, end_at, as_position, position_at}
use Rattle.spec_run.specs.Conditions.{HashesBytes}
use Rattle.theory_world.proofs.Contracts.Standing.{view_at}
use Rattle.theory_world.proofs.Labels.{path_fine}

module _ (hash : List ℕ → List ℕ) (size : HashesBytes hash) (st : Instance) where
  abbrev Placed : PathEnd → Type 0
  Placed (by_path.at_position here choice) = IsPlace here.output.outpoint
  Placed (by_path.at_branch here i b) = IsPlace here.output.outpoint

  made_place : (d : Unsigned) (k : ℕ) → k < 2 ^ 32 → IsPlace (output_outpoint hash d k)
  made_place d k h = record { txid = size.bytes (hash (stripped (tx_of d))); size = size.size (hash (stripped (tx_of d))); vout = h }

  branch_placed : (here : Standing) (choice : Contract) (i : ℕ) (end : PathEnd) → IsPlace here.output.outpoint → branch_end here choice i
      ≡ Some end → Placed end
  branch_placed here choice i end f h = by_branch (slice_get (branches choice) i) h
    where
      by_branch : (o : Option term.Guarded) → option_map (by_path.at_branch here i) o ≡ Some end → Placed end
      by_branch None q = cc
      by_branch (Some b) q = let z : by_path.at_branch here i b ≡ end = cc in subst Placed z f

  continued_placed : (here : Standing) (i : ℕ) (b c : term.Guarded) (p : Standing × Contract) → continued_end hash st here i b c ≡ Some p
      → IsPlace p.0.output.outpoint
  continued_placed here i b (put_reveal puts reveals test next) p h =
      let z : (let q : Standing × Contract =
      (continued hash st (branch_path here.position i) (branch_unsigned hash st here i b) (continued_value st here.output.value puts) next, next) in q)
      ≡ p =
      cc in
      subst (λ (q : Standing × Contract). IsPlace q.0.output.outpoint) z (made_place (branch_unsigned hash st here i b) 0 (omega arith))
  continued_placed here i b (withdraw party) p h = cc
  continued_placed here i b (split parts) p h = cc
  continued_placed here i b (auth party body) p h = cc
  continued_placed here i b (after height body) p h = cc

  part_placed : (here : Standing) (i k : ℕ) (b c : term.Guarded) (end : PathEnd) → k < 2 ^ 32 → part_end hash st here i b k c ≡ Some end → Placed end
  part_placed here i k b (put_reveal puts reveals test next) end l h = cc
  part_placed here i k b (withdraw party) end l h = cc
  part_placed here i k b (split ps) end l h = by_part (slice_get (parts_list ps) k) h
    where
      by_part : (o : Option (ℕ × Contract)) → option_map
          (λ (p : ℕ × Contract). by_path.at_position
          (part_standing hash st (branch_path here.position i) (branch_unsigned hash st here i b) k p.0 p.1) p.1) o ≡ Some end → Placed end
      by_part None q = cc
      by_part (Some x) q =
          let z : by_path.at_position (part_standing hash st (branch_path here.position i) (branch_unsigned hash st here i b) k x.0 x.1) x.1 ≡ end = cc in
          subst Placed z (made_place (branch_unsigned hash st here i b) k l)
  part_placed here i k b (auth party body) end l h = cc
  part_placed here i k b (after height body) end l h = cc

  next_placed : (step : PathStep) (here next : PathEnd) → IsStep step → Placed here → next_end hash st step here ≡ Some next → Placed next
  next_placed (To i) (by_path.at_position here choice) next l f h = branch_placed here choice i next f h
  next_placed (Into k) (by_path.at_position here choice) next l f h = cc
  next_placed (To j) (by_path.at_branch here i b) next l f h = by_continued (continued_end hash st here i b (core b)) refl h
    where
      by_continued : (o : Option (Standing × Contract)) → continued_end hash st here i b (core b) ≡ o
          → option_and_then (λ (p : Standing × Contract). branch_end p.0 p.1 j) o ≡ Some next → Placed next
      by_continued None e q = cc
      by_continued (Some p) e q = branch_placed p.0 p.1 j next (continued_placed here i b (core b) p e) q
  next_placed (Into k) (by_path.at_branch here i b) next l f h = part_placed here i k b (core b) next l h

  from_placed : (path : List PathStep) (here end : PathEnd) → AllByRecursion IsStep path → Placed here → end_from hash st here path ≡ Some end → Placed end
  from_placed [] here end l f h = let e : here ≡ end = cc in subst Placed e f
  from_placed (step ∷ path) here end l f h =
      by_next (next_end hash st step here) refl h (λ next e q. from_placed path next end l.1 (next_placed step here next l.0 f e) q)
    where
      by_next : (o : Option PathEnd) → next_end hash st step here ≡ o → option_and_then (λ (next : PathEnd). end_from hash st next path) o ≡ Some end
          → ((next : PathEnd) → next_end hash st step here ≡ Some next → end_from hash st next path ≡ Some end → Placed end) → Placed end
      by_next None e q go = cc
      by_next (Some next) e q go = go next e q

  -- where a position's output lies is a place
  pub position_place : IsWellFormed st.advert → (q : List PathStep) (here : Standing) (choice : Contract) → position_at hash st q
      ≡ Some (here, choice) → IsPlace here.output.outpoint
  position_place well q here choice h = by_stand (end_at hash st q) refl h
    where
      placed : (end : PathEnd) → end_at hash st q ≡ Some end → Placed end
      placed end e =
          let v = view_at hash st q ∙ ap (option_map _) e in
          from_placed q (by_path.at_position (root_standing hash st) st.advert.root) end (path_fine st.advert q _ well v)
          (made_place (initial_unsigned hash st) 0 (omega arith)) e

      by_end : (end : PathEnd) → Placed end → as_position hash st end ≡ Some (here, choice) → IsPlace here.output.outpoint
      by_end (by_path.at_position a c) f e =
          let z : (let p : Standing × Contract = (a, c) in p) ≡ (here, choice) = cc in
          subst (λ (p : Standing × Contract). IsPlace p.0.output.outpoint) z f
      by_end (by_path.at_branch a i b) f e = continued_placed a i b (core b) (here, choice) e

      by_stand : (o : Option PathEnd) → end_at hash st q ≡ o → option_and_then (as_position hash st) o ≡ Some (here, choice) → IsPlace here.output.outpoint
      by_stand None e k = cc
      by_stand (Some end) e k = by_end end (placed end e) k
