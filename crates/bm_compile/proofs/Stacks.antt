-- Stacks whose top stands last.
use Rattle.std.proofs.Common.{◌≡◌, ℕ, zero, suc, ◌+◌, ◌-◌, ◌<◌, List, [], ◌∷◌, ◌++◌, length, refl, sym, ap, ◌∙◌, arith, append_assoc}
use Rattle.std.specs.Prelude.{replicate}
use Rattle.spec_compiler.specs.declared.unsigned.Unsigned.{Unsigned}
use Rattle.spec_compiler.specs.Transactions.{tx_of, output_outpoint}
use Rattle.spec_bitcoin.specs.Digests.{txid}
use Rattle.theory_nodes.specs.declared.waiting.Waiting.{Waiting}
use Rattle.theory_nodes.specs.Walk.{parts_wait}

-- the last part of a split
pub parts_wait_push : (hash : List ℕ → List ℕ) (d : Unsigned) (k : ℕ) (ps : List (ℕ × ℕ)) (p : ℕ × ℕ)
    → parts_wait hash d k (ps ++ p ∷ []) ≡ parts_wait hash d k ps
    ++ record { outpoint = output_outpoint hash d (k + length ps); choice = p.1; value = p.0 } ∷ []
parts_wait_push hash d k [] p = let z : k ≡ k + 0 = omega arith in ap (λ j. record { outpoint = output_outpoint hash d j; choice = p.1; value = p.0 } ∷ []) z
parts_wait_push hash d k (q ∷ ps) p =
    let z : k + 1 + length ps ≡ k + length (q ∷ ps) = omega arith in
    ap (λ l. record { outpoint = output_outpoint hash d k; choice = q.1; value = q.0 } ∷ l)
    (parts_wait_push hash d (k + 1) ps p ∙ ap
    (λ j. parts_wait hash d (k + 1) ps ++ record { outpoint = output_outpoint hash d j; choice = p.1; value = p.0 } ∷ []) z)

replicate-more : {X : Type 0} (n : ℕ) (x : X) (xs : List X) → replicate n x ++ x ∷ xs ≡ x ∷ (replicate n x ++ xs)
replicate-more zero x xs = refl
replicate-more (suc n) x xs = ap (λ l. x ∷ l) (replicate-more n x xs)

-- one more copy on top
pub copies_more : {X : Type 0} (x : X) (xs now new : List X) (k count : ℕ) → k < count → new ≡ x ∷ now
    → replicate (count - k) x ++ now ≡ xs → replicate (count - (k + 1)) x ++ new ≡ xs
copies_more x xs now new k count lt e h =
    let s : count - k ≡ suc (count - (k + 1)) = omega arith in
    rw e (replicate-more (count - (k + 1)) x now ∙ rw s at h)

-- the last part's choice on top
pub parts_less : (hash : List ℕ → List ℕ) (d : Unsigned) (id : List ℕ) (rest others : List (ℕ × ℕ)) (p : ℕ × ℕ) (now new all : List Waiting)
    → id ≡ txid hash (tx_of d) → rest ≡ others ++ p ∷ []
    → new ≡ record { outpoint = record { txid = id; vout = length others }; choice = p.1; value = p.0 } ∷ now → parts_wait hash d 0 rest
    ++ now ≡ all → parts_wait hash d 0 others ++ new ≡ all
parts_less hash d id rest others p now new all same cut pushed so =
    let z : length others ≡ 0 + length others = omega arith in
    let w : Waiting = record { outpoint = record { txid = id; vout = length others }; choice = p.1; value = p.0 } in
    let last : record { outpoint = output_outpoint hash d (0 + length others); choice = p.1; value = p.0 } ≡ w =
    λ j. record { outpoint = record { txid = sym same j; vout = sym z j }; choice = p.1; value = p.0 } in
    let whole : parts_wait hash d 0 rest ≡ parts_wait hash d 0 others ++ w ∷ [] =
    ap (parts_wait hash d 0) cut ∙ parts_wait_push hash d 0 others p ∙ ap (λ x. parts_wait hash d 0 others ++ x ∷ []) last in
    ap (λ l. parts_wait hash d 0 others ++ l) pushed ∙ sym (append_assoc (parts_wait hash d 0 others) (w ∷ []) now) ∙ sym (ap (λ l. l ++ now) whole) ∙ so
