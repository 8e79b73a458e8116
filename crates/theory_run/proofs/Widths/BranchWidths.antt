-- The numbers of a branch's transaction are within their widths.
use Rattle.std.proofs.Common.{◌≡◌, ℕ, suc, ◌+◌, ◌-◌, ◌<◌, ◌≤◌, ◌^◌, List, [], ◌∷◌, ◌++◌, length, true, Some, refl, sym, ap, subst, arith, inl, inr}
use Rattle.std.specs.Prelude.{◌&&◌, nat_le, slice_get}
use Rattle.std.specs.List.{AllByRecursion, flat_map}
use Rattle.std.proofs.lemmas.Bool.{and_parts}
use Rattle.std.proofs.lemmas.Bool.Decides.{nat_tests}
use Rattle.spec_terms.specs.Term as term
use Rattle.spec_terms.specs.Term.{Contract, branches, Parts, no_part, part, parts_list, auth, after, put_reveal, withdraw, split}
use Rattle.spec_terms.specs.Core.{core, lock, puts_of}
use Rattle.spec_data.specs.Ranges.{max_money, last_height}
use Rattle.spec_terms.specs.Readable.{is_readable_branch, is_readable_split, is_readable_count, are_readable, are_readable_parts, is_some_list, most_parts}
use Rattle.spec_terms.specs.Faults.{IsWellFormed}
use Rattle.spec_terms.specs.declared.path.PathStep.{PathStep}
use Rattle.spec_terms.specs.declared.path.PathStep.TheVariants.{Branch as To}
use Rattle.spec_bitcoin.specs.Spelling.{IsPlace, IsOutput, IsTransaction, output_bytes}
use Rattle.spec_compiler.specs.Instance.{Instance, branch_path, position_script}
use Rattle.spec_compiler.specs.declared.unsigned.Spent.{Spent}
use Rattle.spec_compiler.specs.Transactions.{Standing, input_of, tx_of, party_script, continued_value, put_deposits, part_position, part_outputs, core_outputs, branch_unsigned}
use Rattle.spec_compiler.specs.ByPath.{position_at}
use Rattle.spec_run.specs.Conditions.{HashesBytes}
use Rattle.theory_calculus.specs.Members.{Is_in}
use Rattle.theory_world.proofs.Tests.{length_map}
use Rattle.theory_world.proofs.Contracts.Standing.{put_position}
use Rattle.theory_script.proofs.Balances.{position_little}
use Rattle.theory_world.proofs.Contracts.Places.{position_place}
use Rattle.theory_world.proofs.Labels.{core_readable}
use Rattle.theory_run.proofs.Widths.Fitting.{inputs_fit, output_fits, pays_size, AllShort, short_bytes}

-- ---- a branch that text may have

-- its lock is at most the last height
pub lock_low : (b : term.Guarded) → is_readable_branch b ≡ true → lock b ≤ last_height
lock_low (auth party body) h = lock_low body (and_parts _ (is_readable_branch body) h).1
lock_low (after height body) h =
    let p = and_parts (nat_le height last_height) (is_readable_branch body) h in
    let r = lock_low body p.1 in
    let l : height ≤ last_height = grind (arith, nat_tests, p.0) in
    omega (arith, r, l)
lock_low (put_reveal puts reveals test next) h = omega arith
lock_low (withdraw party) h = omega arith
lock_low (split parts) h = omega arith

-- ---- its outputs

module _ (hash : List ℕ → List ℕ) (size : HashesBytes hash) (st : Instance) where
  parts_fit : (path : List PathStep) (k : ℕ) (ps : Parts) → are_readable_parts ps ≡ true → AllByRecursion IsOutput (part_outputs hash st path k ps)
  parts_fit path k no_part h = tt
  parts_fit path k (part v c ps) h =
      let p = and_parts (nat_le v max_money && (is_readable_count c && are_readable c)) (are_readable_parts ps) h in
      let q = (and_parts (nat_le v max_money) (is_readable_count c && are_readable c) p.0).0 in
      let l : v ≤ max_money = grind (arith, nat_tests, q) in
      (output_fits hash size (position_script hash st (part_position path k) c) v l, parts_fit path (k + 1) ps p.1)

  length_parts : (path : List PathStep) (k : ℕ) (ps : Parts) → length (part_outputs hash st path k ps) ≡ length (parts_list ps)
  length_parts path k no_part = refl
  length_parts path k (part v c ps) = ap suc (length_parts path (k + 1) ps)

  outputs_fit : (path : List PathStep) (v : ℕ) (c : term.Guarded) → is_readable_branch c ≡ true → v ≤ max_money
      → ((puts reveals : List (List ℕ)) (test : term.Pred) (next : Contract) → c ≡ put_reveal puts reveals test next
      → continued_value st v puts ≤ max_money) → AllByRecursion IsOutput (core_outputs hash st path v c)
  outputs_fit path v (put_reveal puts reveals test next) r l f =
      (output_fits hash size (position_script hash st path next) (continued_value st v puts) (f puts reveals test next refl), tt)
  outputs_fit path v (withdraw party) r l f = (output_fits hash size (party_script hash party) (v - st.advert.fee) (omega (arith, l)), tt)
  outputs_fit path v (split ps) r l f = parts_fit path 0 ps (and_parts (is_readable_split ps) (are_readable_parts ps) r).1
  outputs_fit path v (auth party body) r l f = tt
  outputs_fit path v (after height body) r l f = tt

  outputs_few : (path : List PathStep) (v : ℕ) (c : term.Guarded) → is_readable_branch c ≡ true → length (core_outputs hash st path v c) ≤ 64
  outputs_few path v (put_reveal puts reveals test next) r = omega arith
  outputs_few path v (withdraw party) r = omega arith
  outputs_few path v (split ps) r =
      let s = (and_parts (is_readable_split ps) (are_readable_parts ps) r).0 in
      let m = (and_parts (is_some_list (parts_list ps)) (nat_le (length (parts_list ps)) most_parts) s).1 in
      let n : length (parts_list ps) ≤ most_parts = grind (arith, nat_tests, m) in
      let e = length_parts path 0 ps in
      omega (arith, n, e)
  outputs_few path v (auth party body) r = omega arith
  outputs_few path v (after height body) r = omega arith

  parts_short : (path : List PathStep) (k : ℕ) (ps : Parts) → AllShort (part_outputs hash st path k ps)
  parts_short path k no_part = tt
  parts_short path k (part v c ps) = (pays_size hash size (position_script hash st (part_position path k) c) v, parts_short path (k + 1) ps)

  outputs_short : (path : List PathStep) (v : ℕ) (c : term.Guarded) → AllShort (core_outputs hash st path v c)
  outputs_short path v (put_reveal puts reveals test next) = (pays_size hash size (position_script hash st path next) (continued_value st v puts), tt)
  outputs_short path v (withdraw party) = (pays_size hash size (party_script hash party) (v - st.advert.fee), tt)
  outputs_short path v (split ps) = parts_short path 0 ps
  outputs_short path v (auth party body) = tt
  outputs_short path v (after height body) = tt

  -- its outputs have few bytes
  pub branch_size : (here : Standing) (i : ℕ) (b : term.Guarded) → is_readable_branch b ≡ true
      → length (flat_map output_bytes (tx_of (branch_unsigned hash st here i b)).outputs) < 2 ^ 32
  branch_size here i b readable =
      let n = outputs_few (branch_path here.position i) here.output.value (core b) (core_readable b readable) in
      let l = short_bytes (core_outputs hash st (branch_path here.position i) here.output.value (core b))
      (outputs_short (branch_path here.position i) here.output.value (core b)) in
      omega (arith, n, l)

  -- the transaction of a readable branch whose puts lie at places, and are few
  pub branch_fits : IsWellFormed st.advert → (q : List PathStep) (here : Standing) (choice : Contract) (i : ℕ) (b : term.Guarded)
      → position_at hash st q ≡ Some (here, choice) → slice_get (branches choice) i ≡ Some b → is_readable_branch b ≡ true
      → ((x : Spent) → Is_in x (put_deposits hash st (puts_of (core b))) → IsPlace x.outpoint)
      → length (put_deposits hash st (puts_of (core b))) + 1 < 2 ^ 64 → IsTransaction (tx_of (branch_unsigned hash st here i b))
  branch_fits well q here choice i b stands there readable places few =
      let l = lock_low b readable in
      let r = core_readable b readable in
      let v = position_little hash st well q here choice stands in
      let n = length_map input_of (put_deposits hash st (puts_of (core b))) in
      record {
        version = omega arith;
        some = omega arith;
        few_inputs = omega (arith, n, few);
        inputs = inputs_fit (here.output ∷ put_deposits hash st (puts_of (core b))) (λ x j. elim j [
          | inl e ↦ subst (λ (y : Spent). IsPlace y.outpoint) (sym e) (position_place hash size st well q here choice stands)
          | inr k ↦ places x k
        ]);
        few_outputs = let f = outputs_few (branch_path here.position i) here.output.value (core b) r in omega (arith, f);
        outputs = outputs_fit (branch_path here.position i) here.output.value (core b) r v
            (λ puts reveals test next e. position_little hash st well (q ++ To i ∷ []) _ next
            (put_position hash st q here choice i b puts reveals test next stands there e));
        lock = omega (arith, l);
      }
