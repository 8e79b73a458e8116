use Rattle.std.proofs.Common.{rules, ◌≡◌, ℕ, ◌-◌, ◌≤◌, List, length, ◌++◌, arith, ap, ◌∙◌, length-append, length-drop}
use Rattle.std.proofs.lemmas.List.{drop-replicate, length-replicate}
use Rattle.std.proofs.Math.Seq.{drop-append_seam}
use Rattle.std.proofs.Math.ListN.{replicate, drop}
use Rattle.spec_data.proofs.name.Name.new.Goals as goal

-- a room of zeros whose prefix is written over
length-filled : (bytes prefix : List ℕ) → prefix ≡ bytes → length bytes ≤ 32 → length (prefix ++ drop (length bytes) (replicate {A = ℕ} 32 0)) ≡ 32
length-filled bytes prefix e few =
    let n : length prefix ≡ length bytes = ap length e in
    omega (
      arith,
      length-append prefix (drop (length bytes) (replicate {A = ℕ} 32 0)),
      length-drop (length bytes)
          (replicate {A = ℕ} 32 0),
      length-replicate {A = ℕ} 32 0,
      n,
    )

drop-filled : (bytes prefix : List ℕ) → prefix ≡ bytes → drop (length bytes) (prefix ++ drop (length bytes) (replicate {A = ℕ} 32 0))
    ≡ replicate (32 - length bytes) 0
drop-filled bytes prefix e = rw e (drop-append_seam bytes (drop (length bytes) (replicate {A = ℕ} 32 0)) ∙ drop-replicate (length bytes) 32 0)

pub invariant_of-result : goal.invariant_of-result
invariant_of-result c = record {
  some = search rules;
  few = omega arith;
  whole = length-filled c.args.bytes.now _ c.copy_from_slice.ensures.after (omega arith);
  rest = drop-filled c.args.bytes.now _ c.copy_from_slice.ensures.after;
}
