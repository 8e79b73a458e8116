-- The operations of a script, one at a time.
use Rattle.std.proofs.Common.{◌≡◌, ℕ, zero, suc, ◌+◌, ◌-◌, ◌<◌, ◌≤◌, List, [], ◌∷◌, ◌++◌, length, take, drop, Bool, true, false, cond, Option, Some, None, refl, sym, ap, ◌∙◌, subst, arith, lit<, append_assoc, append-nil, length-drop}
use Rattle.std.specs.Prelude.{nat_le, if◌then◌else◌, is_some, slice_range, ◌==◌}
use Rattle.std.specs.Option.{option_map, option_and_then}
use Rattle.std.proofs.lemmas.Option.{same_Some}
use Rattle.spec_bitcoin.specs.declared.script.Op.{Op}
use Rattle.spec_bitcoin.specs.declared.script.Op.TheVariants.{Push, Code}
use Rattle.spec_bitcoin.specs.Opcodes.{opcode_of}
use Rattle.spec_bitcoin.specs.Scripts.{head_of, one_byte, two_bytes, four_bytes, cut_push, first_op, ops_of, script_ops}

mapped : (k : ℕ) (o : Option ℕ) (q : ℕ × ℕ) → 0 < k → option_map (λ (n : ℕ). (k, n)) o ≡ Some q → 0 < q.0
mapped k None q lt h = cc
mapped k (Some n) q lt h = subst (λ (x : ℕ). 0 < x) (ap (λ (z : ℕ × ℕ). z.0) (same_Some (k, n) q h)) lt

head_positive : (b : ℕ) (rest : List ℕ) (q : ℕ × ℕ) → head_of b rest ≡ Some q → 0 < q.0
head_positive b rest q h =
    elim (nat_le b 75) as (λ t. (if t then Some (1, b) else (if b == 76 then option_map (λ (n : ℕ). (2, n)) (one_byte rest) else
    (if b == 77 then option_map (λ (n : ℕ). (3, n)) (two_bytes rest) else option_map (λ (n : ℕ). (5, n)) (four_bytes rest)))) ≡ Some q → 0 < q.0) [
      | true ↦ λ s. mapped 1 (Some b) q (lit< tt) s
      | false ↦ λ s. elim (b == 76) as (λ t. (if t then option_map (λ (n : ℕ). (2, n)) (one_byte rest) else
          (if b == 77 then option_map (λ (n : ℕ). (3, n)) (two_bytes rest) else option_map (λ (n : ℕ). (5, n)) (four_bytes rest))) ≡ Some q → 0 < q.0) [
            | true ↦ mapped 2 (one_byte rest) q (lit< tt)
            | false ↦ λ s. elim (b == 77) as
                (λ t. (if t then option_map (λ (n : ℕ). (3, n)) (two_bytes rest) else option_map (λ (n : ℕ). (5, n)) (four_bytes rest)) ≡ Some q → 0 < q.0) [
                  | true ↦ mapped 3 (two_bytes rest) q (lit< tt)
                  | false ↦ mapped 5 (four_bytes rest) q (lit< tt)
                ] s
          ] s
    ] h

cut_shorter : (b : ℕ) (rest : List ℕ) (o : Option (ℕ × ℕ)) (p : Op × List ℕ) → ((q : ℕ × ℕ) → o ≡ Some q → 0 < q.0) → cut_push (b ∷ rest) o
    ≡ Some p → length p.1 ≤ length rest
cut_shorter b rest None p pos h = cc
cut_shorter b rest (Some q) p pos h =
    let lt = pos q refl in
    elim (nat_le (q.0 + q.1) (suc (length rest))) as
    (λ t. (if t then Some (Push (slice_range (b ∷ rest) q.0 (q.0 + q.1)), drop (q.0 + q.1) (b ∷ rest)) else None) ≡ Some p → length p.1 ≤ length rest) [
      | true ↦ λ s.
          let left = ap (λ (z : Op × List ℕ). length z.1) (same_Some _ p s) in
          let n = length-drop (q.0 + q.1) (b ∷ rest) in
          omega arith
      | false ↦ λ s. cc
    ] h

-- what follows the first operation is shorter
pub first_shorter : (b : ℕ) (rest : List ℕ) (p : Op × List ℕ) → first_op (b ∷ rest) ≡ Some p → length p.1 ≤ length rest
first_shorter b rest p h =
    elim (nat_le b 78) as (λ t. (if t then cut_push (b ∷ rest) (head_of b rest) else (if is_some (opcode_of b) then Some (Code b, rest) else None))
    ≡ Some p → length p.1 ≤ length rest) [
      | true ↦ cut_shorter b rest (head_of b rest) p (head_positive b rest)
      | false ↦ λ s. elim (is_some (opcode_of b)) as (λ t. (if t then Some (Code b, rest) else None) ≡ Some p → length p.1 ≤ length rest) [
        | true ↦ λ s. let left = ap (λ (z : Op × List ℕ). length z.1) (same_Some _ p s) in omega arith
        | false ↦ λ s. cc
      ] s
    ] h

and_then_same : {A B : Type 0} (f g : A → Option B) (o : Option A) → ((a : A) → o ≡ Some a → f a ≡ g a) → option_and_then f o ≡ option_and_then g o
and_then_same f g None h = refl
and_then_same f g (Some a) h = h a refl

-- more turns than bytes change nothing
ops_enough : (k : ℕ) (xs : List ℕ) → length xs ≤ k → (j : ℕ) → length xs ≤ j → ops_of k xs ≡ ops_of j xs
unfolding ops_of
ops_enough k [] h j g = refl
ops_enough zero (b ∷ rest) h j g = absurd (omega arith)
ops_enough (suc k) (b ∷ rest) h zero g = absurd (omega arith)
ops_enough (suc k) (b ∷ rest) h (suc j) g =
    and_then_same _ _ (first_op (b ∷ rest))
    (λ p e. let s = first_shorter b rest p e in ap (option_map (λ (ops : List Op). p.0 ∷ ops)) (ops_enough k p.1 (omega arith) j (omega arith)))

pub ops_next : (bytes left : List ℕ) (op : Op) → first_op bytes ≡ Some (op, left) → ops_of (length bytes) bytes
    ≡ option_map (λ (ops : List Op). op ∷ ops) (ops_of (length left) left)
unfolding ops_of
ops_next [] left op h = cc
ops_next (b ∷ rest) left op h =
    let s = first_shorter b rest (op, left) h in
    ap (option_and_then (λ (p : Op × List ℕ). option_map (λ (ops : List Op). p.0 ∷ ops) (ops_of (length rest) p.1))) h
    ∙ ap (option_map (λ (ops : List Op). op ∷ ops)) (ops_enough (length rest) left s (length left) (omega arith))

pub ops_bad : (bytes : List ℕ) → 0 < length bytes → first_op bytes ≡ None → ops_of (length bytes) bytes ≡ None
unfolding ops_of
ops_bad [] lt h = absurd (omega arith)
ops_bad (b ∷ rest) lt h = ap (option_and_then (λ (p : Op × List ℕ). option_map (λ (ops : List Op). p.0 ∷ ops) (ops_of (length rest) p.1))) h

pub ops_none : (bytes : List ℕ) → length bytes ≡ 0 → ops_of (length bytes) bytes ≡ Some []
unfolding ops_of
ops_none [] h = refl
ops_none (b ∷ rest) h = cc

fused : (done next : List Op) (op : Op) (o : Option (List Op)) → next ≡ done ++ op ∷ [] → option_map (λ (more : List Op). next ++ more) o
    ≡ option_map (λ (more : List Op). done ++ more) (option_map (λ (ops : List Op). op ∷ ops) o)
fused done next op None e = refl
fused done next op (Some ops) e = ap Some (ap (λ l. l ++ ops) e ∙ append_assoc done (op ∷ []) ops)

-- the loop's step
pub decode_step : (done next : List Op) (rest left : List ℕ) (op : Op) (all : Option (List Op)) → first_op rest ≡ Some (op, left) → next
    ≡ done ++ op ∷ [] → option_map (λ (more : List Op). done ++ more) (ops_of (length rest) rest) ≡ all
    → option_map (λ (more : List Op). next ++ more) (ops_of (length left) left) ≡ all
decode_step done next rest left op all h e so_far =
    fused done next op (ops_of (length left) left) e ∙ ap (option_map (λ (more : List Op). done ++ more)) (sym (ops_next rest left op h)) ∙ so_far

-- the bytes are used up
pub decode_end : (done : List Op) (rest : List ℕ) (all : Option (List Op)) → length rest ≡ 0
    → option_map (λ (more : List Op). done ++ more) (ops_of (length rest) rest) ≡ all → all ≡ Some done
decode_end done rest all h so_far = sym so_far ∙ ap (option_map (λ (more : List Op). done ++ more)) (ops_none rest h) ∙ ap Some (append-nil done)

-- no operation is found
pub decode_bad : (done : List Op) (rest : List ℕ) (all : Option (List Op)) → 0 < length rest → first_op rest ≡ None
    → option_map (λ (more : List Op). done ++ more) (ops_of (length rest) rest) ≡ all → all ≡ None
decode_bad done rest all lt h so_far = sym so_far ∙ ap (option_map (λ (more : List Op). done ++ more)) (ops_bad rest lt h)

-- what the loop's test says of the length
pub some_left : (n : ℕ) → false ≡ (n == 0) → 0 < n
some_left n h = grind arith

pub none_left : (n : ℕ) → true ≡ (n == 0) → n ≡ 0
none_left n h = grind arith
