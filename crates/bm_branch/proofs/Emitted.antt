-- Lists that the code writes from the prefix.
use Rattle.std.proofs.Common.{◌≡◌, ℕ, zero, suc, ◌+◌, ◌-◌, ◌<◌, List, [], ◌∷◌, ◌++◌, length, sym, ap, ◌∙◌, refl, arith, append_assoc}
use Rattle.std.specs.Prelude.{replicate, reverse, nat_lt, true, false, ◌≤◌}
use Rattle.std.proofs.lemmas.List.{reverse-append}
use Rattle.spec_compiler.specs.Witness.{selectors}
use Rattle.spec_bitcoin.specs.declared.script.Op.{Op}
use Rattle.spec_bitcoin.specs.declared.script.Op.TheVariants.{Code}
use Rattle.spec_compiler.specs.Scripts.{choice_ops}
use Rattle.spec_bitcoin.specs.Scripts.{encode}
use Rattle.spec_bitcoin.proofs.EncodeLemmas.{encode-append}

-- ---- copies

-- one of several copies was written
pub copies_more : {X : Type 0} (xs next all : List X) (x : X) (k count : ℕ) → k < count → next ≡ xs ++ x ∷ []
    → xs ++ replicate (count - k) x ≡ all → next ++ replicate (count - (k + 1)) x ≡ all
copies_more xs next all x k count lt e h =
    let s : count - k ≡ suc (count - (k + 1)) = omega arith in
    rw e (append_assoc xs (x ∷ []) (replicate (count - (k + 1)) x) ∙ rw s at h)

replicate-more : {X : Type 0} (n : ℕ) (x : X) → replicate n x ++ x ∷ [] ≡ x ∷ replicate n x
replicate-more zero x = refl
replicate-more (suc n) x = ap (λ xs. x ∷ xs) (replicate-more n x)

reverse-same : {X : Type 0} (n : ℕ) (x : X) → reverse (replicate n x) ≡ replicate n x
reverse-same zero x = refl
reverse-same (suc n) x =
    ap reverse (sym (replicate-more n x)) ∙ reverse-append (replicate n x) (x ∷ []) ∙ ap (λ xs. x ∷ xs) (reverse-same n x)

-- ---- selectors

-- those of a branch that isn't the last one
pub selectors_last : (i n : ℕ) → i + 1 < n → reverse (selectors i n) ≡ (1 ∷ []) ∷ replicate i []
selectors_last i n h =
    let t : nat_lt (i + 1) n ≡ true = grind arith in
    rw t (reverse-append (replicate i []) ((1 ∷ []) ∷ []) ∙ ap (λ xs. (1 ∷ []) ∷ xs) (reverse-same i []))

-- those of the last one
pub selectors_none : (i n : ℕ) → n ≤ i + 1 → reverse (selectors i n) ≡ replicate i []
selectors_none i n h =
    let t : nat_lt (i + 1) n ≡ false = grind arith in
    rw t (reverse-same i [])

-- ---- positions

-- the bytes of a choice between these operations and others, written one piece after another
pub choice_bytes : (start b1 b2 b3 b4 b5 : List ℕ) (ops : List Op) (others : List (List Op)) → 0 < length others
    → b1 ≡ start ++ 0x63 ∷ [] → b2 ≡ b1 ++ encode ops → b3 ≡ b2 ++ 0x67 ∷ [] → b4 ≡ b3 ++ encode (choice_ops others)
    → b5 ≡ b4 ++ 0x68 ∷ [] → b5 ≡ start ++ encode (choice_ops (ops ∷ others))
choice_bytes start b1 b2 b3 b4 b5 ops [] some e1 e2 e3 e4 e5 = absurd (omega (arith, some))
choice_bytes start b1 b2 b3 b4 b5 ops (next ∷ others) some e1 e2 e3 e4 e5 =
    let rest = choice_ops (next ∷ others) in
    let tail = rest ++ Code 0x68 ∷ [] in
    let pieces = ((((start ++ 0x63 ∷ []) ++ encode ops) ++ 0x67 ∷ []) ++ encode rest) ++ 0x68 ∷ [] in
    let flat : pieces ≡ start ++ (0x63 ∷ (encode ops ++ 0x67 ∷ (encode rest ++ 0x68 ∷ []))) = simp append_assoc in
    let whole : encode (ops ++ Code 0x67 ∷ tail) ≡ encode ops ++ 0x67 ∷ (encode rest ++ 0x68 ∷ []) =
    encode-append ops (Code 0x67 ∷ tail) ∙ ap (λ bs. encode ops ++ 0x67 ∷ bs) (encode-append rest (Code 0x68 ∷ [])) in
    let all : b5 ≡ pieces = cc in
    all ∙ flat ∙ ap (λ bs. start ++ 0x63 ∷ bs) (sym whole)
