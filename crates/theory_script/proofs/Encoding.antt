-- What is written is read again.
use Rattle.std.proofs.Common.{◌≡◌, ℕ, zero, suc, ◌+◌, ◌*◌, ◌/◌, ◌%◌, ◌<◌, ◌≤◌, List, [], ◌∷◌, ◌++◌, length, drop, Bool, true, false, Option, Some, refl, sym, ap, ◌∙◌, arith, append_assoc, length-append}
use Rattle.std.specs.Prelude.{if◌then◌else◌, nat_lt, nat_le, is_some, ◌-◌}
use Rattle.std.specs.Option.{option_and_then, option_map}
use Rattle.std.specs.List.{list_all}
use Rattle.std.proofs.Math.Nat.{div-add-mod}
use Rattle.std.proofs.lemmas.Bool.{and_parts}
use Rattle.spec_bitcoin.specs.declared.script.Op.{Op}
use Rattle.spec_bitcoin.specs.declared.script.Op.TheVariants.{Push, Code}
use Rattle.spec_bitcoin.specs.Opcodes.{opcode_of}
use Rattle.spec_bitcoin.specs.Scripts.{cut_push, first_op, ops_of, script_ops, encode_op, encode, is_written}
use Rattle.std.proofs.Math.Seq.{take-append_seam, drop-append_seam}

-- what stands after a head of k bytes
cut_whole : (before item rest : List ℕ) (k : ℕ) → length before ≡ k → cut_push (before ++ (item ++ rest)) (Some (k, length item)) ≡ Some (Push item, rest)
cut_whole before item rest k e =
    let n = length-append before (item ++ rest) in
    let m = length-append item rest in
    let le : nat_le (k + length item) (length (before ++ (item ++ rest))) ≡ true = grind (arith, n, m, e) in
    let d : k + length item - k ≡ length item = omega arith in
    let len : k + length item ≡ length (before ++ item) = omega (arith, length-append before item, e) in
    let skip : drop k (before ++ (item ++ rest)) ≡ item ++ rest = rw (← e) (drop-append_seam before (item ++ rest)) in
    let past : drop (k + length item) (before ++ (item ++ rest)) ≡ rest =
    rw len (ap (drop (length (before ++ item))) (sym (append_assoc before item rest)) ∙ drop-append_seam (before ++ item) rest) in
    rw (le, d, skip, past, take-append_seam item rest)

push_front : (a b : Bool) (item rest : List ℕ) → nat_le (length item) 520 ≡ true → nat_le (length item) 75 ≡ a → nat_le (length item) 255
    ≡ b → first_op ((if a then length item ∷ item else (if b then 76 ∷ (length item ∷ item) else 77
    ∷ ((length item % 256) ∷ ((length item / 256) ∷ item)))) ++ rest) ≡ Some (Push item, rest)
push_front true b item rest w h k =
    let s : nat_le (length item) 78 ≡ true = grind arith in
    rw (s, h) (cut_whole (length item ∷ []) item rest 1 refl)
push_front false true item rest w h k = cut_whole (76 ∷ (length item ∷ [])) item rest 2 refl
push_front false false item rest w h k =
    let n : length item % 256 + 256 * (length item / 256) ≡ length item = omega (arith, div-add-mod (length item) 256) in
    rw n (cut_whole (77 ∷ ((length item % 256) ∷ ((length item / 256) ∷ []))) item rest 3 refl)

low_code : (c : ℕ) → nat_lt 78 c ≡ true → nat_le c 78 ≡ false
low_code c h = grind arith

op_prefix : (op : Op) (rest : List ℕ) → is_written op ≡ true → first_op (encode_op op ++ rest) ≡ Some (op, rest)
op_prefix (Push item) rest w = push_front (nat_le (length item) 75) (nat_le (length item) 255) item rest w refl refl
op_prefix (Code c) rest w =
    let p = and_parts (nat_lt 78 c) (is_some (opcode_of c)) w in
    rw (low_code c p.0, p.1)

ops_step : (k : ℕ) (bytes : List ℕ) (op : Op) (rest : List ℕ) → first_op bytes ≡ Some (op, rest) → ops_of (suc k) bytes
    ≡ option_map (λ (ops : List Op). op ∷ ops) (ops_of k rest)
unfolding ops_of
ops_step k [] op rest h = cc
ops_step k (b ∷ bytes) op rest h =
    ap (λ (o : Option (Op × List ℕ)). option_and_then (λ (p : Op × List ℕ). option_map (λ (ops : List Op). p.0 ∷ ops) (ops_of k p.1)) o) h

no_ops : (k : ℕ) → ops_of k [] ≡ Some []
unfolding ops_of
no_ops k = refl

read_again : (ops : List Op) (k : ℕ) → length ops ≤ k → list_all is_written ops ≡ true → ops_of k (encode ops) ≡ Some ops
read_again [] k le w = no_ops k
read_again (op ∷ ops) zero le w = absurd (omega (arith, le))
read_again (op ∷ ops) (suc k) le w =
    let p = and_parts (is_written op) (list_all is_written ops) w in
    ops_step k _ op (encode ops) (op_prefix op (encode ops) p.0) ∙ rw (read_again ops k (omega arith) p.1)

op_some : (op : Op) → 0 < length (encode_op op)
op_some (Code c) = omega arith
op_some (Push item) = by_tests (nat_le (length item) 75) (nat_le (length item) 255)
  where
    by_tests : (a b : Bool) → 0 < length (if a then length item
        ∷ item else (if b then 76 ∷ (length item ∷ item) else 77 ∷ ((length item % 256) ∷ ((length item / 256) ∷ item))))
    by_tests true b = omega arith
    by_tests false true = omega arith
    by_tests false false = omega arith

fewer_ops : (ops : List Op) → length ops ≤ length (encode ops)
fewer_ops [] = omega arith
fewer_ops (op ∷ ops) = omega (arith, length-append (encode_op op) (encode ops), op_some op, fewer_ops ops)

pub encode_read : (ops : List Op) → list_all is_written ops ≡ true → script_ops (encode ops) ≡ Some ops
encode_read ops w = read_again ops (length (encode ops)) (fewer_ops ops) w
