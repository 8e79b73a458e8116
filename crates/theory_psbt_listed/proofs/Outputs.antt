-- The outputs of a branch's transaction are few, and have few bytes.
use Rattle.std.proofs.Common.{◌≡◌, ℕ, suc, ◌+◌, ◌-◌, ◌≤◌, List, length, true, refl, ap, arith}
use Rattle.std.specs.Prelude.{nat_le}
use Rattle.std.proofs.lemmas.Bool.{and_parts, leb-true}
use Rattle.spec_data.specs.Hashes.{HashesBytes}
use Rattle.spec_terms.specs.Term as term
use Rattle.spec_terms.specs.Term.{Parts, no_part, part, parts_list, auth, after, put_reveal, withdraw, split}
use Rattle.spec_terms.specs.Readable.{is_readable_branch, is_readable_split, are_readable_parts, is_some_list, most_parts}
use Rattle.spec_terms.specs.declared.path.PathStep.{PathStep}
use Rattle.spec_compiler.specs.Instance.{Instance, position_script}
use Rattle.spec_compiler.specs.Transactions.{party_script, continued_value, part_position, part_outputs, core_outputs}
use Rattle.theory_run.proofs.Widths.Fitting.{pays_size, AllShort}

module _ (hash : List ℕ → List ℕ) (size : HashesBytes hash) (st : Instance) where
  length_parts : (path : List PathStep) (k : ℕ) (ps : Parts) → length (part_outputs hash st path k ps) ≡ length (parts_list ps)
  length_parts path k no_part = refl
  length_parts path k (part v c ps) = ap suc (length_parts path (k + 1) ps)

  pub outputs_few : (path : List PathStep) (v : ℕ) (c : term.Guarded) → is_readable_branch c ≡ true
      → length (core_outputs hash st path v c) ≤ 64
  outputs_few path v (put_reveal puts reveals test next) r = omega arith
  outputs_few path v (withdraw party) r = omega arith
  outputs_few path v (split ps) r =
      let s = (and_parts (is_readable_split ps) (are_readable_parts ps) r).0 in
      let m = (and_parts (is_some_list (parts_list ps)) (nat_le (length (parts_list ps)) most_parts) s).1 in
      let n = leb-true (length (parts_list ps)) 64 m in
      let e = length_parts path 0 ps in
      omega (arith, n, e)
  outputs_few path v (auth party body) r = omega arith
  outputs_few path v (after height body) r = omega arith

  parts_short : (path : List PathStep) (k : ℕ) (ps : Parts) → AllShort (part_outputs hash st path k ps)
  parts_short path k no_part = tt
  parts_short path k (part v c ps) =
      (pays_size hash size (position_script hash st (part_position path k) c) v, parts_short path (k + 1) ps)

  pub outputs_short : (path : List PathStep) (v : ℕ) (c : term.Guarded) → AllShort (core_outputs hash st path v c)
  outputs_short path v (put_reveal puts reveals test next) =
      (pays_size hash size (position_script hash st path next) (continued_value st v puts), tt)
  outputs_short path v (withdraw party) = (pays_size hash size (party_script hash party) (v - st.advert.fee), tt)
  outputs_short path v (split ps) = parts_short path 0 ps
  outputs_short path v (auth party body) = tt
  outputs_short path v (after height body) = tt
