-- Reading values one after the other, as a loop does.
use Rattle.std.proofs.Common.{◌≡◌, ℕ, suc, ◌-◌, ◌+◌, ◌≤◌, ◌<◌, List, [], ◌∷◌, ◌++◌, Result, Ok, Err, refl, sym, ap, ◌∙◌, append_assoc, arith}
use Rattle.std.proofs.lemmas.List.{append-nil}
use Rattle.bm_tx.specs.declared.fault.ReadError.{ReadError}
use Rattle.bm_tx.specs.declared.fault.ReadError.TheVariants.{Memory, Bad}
use Rattle.bm_tx.specs.Giving.{Fails}
use Rattle.spec_bitcoin.specs.Reading.{◌>>=◌, many}

-- what was read before, and what is still read
abbrev pub with_prefix : {A : Type 0} → List A → Result (List A × List ℕ) ℕ → Result (List A × List ℕ) ℕ
with_prefix prefix read = read >>= λ x. Ok (prefix ++ x.0, x.1)

pub regroup : {A : Type 0} (prefix : List A) (n : A) (read : Result (List A × List ℕ) ℕ)
    → with_prefix prefix (read >>= λ x. Ok (n ∷ x.0, x.1)) ≡ with_prefix (prefix ++ n ∷ []) read
regroup {A} prefix n (Ok x) = ap (λ (ns : List A). Ok (ns, x.1)) (simp append_assoc)
regroup prefix n (Err f) = refl

pub goes_on : {A : Type 0} (read : List ℕ → Result (A × List ℕ) ℕ) (prefix : List A) (count i : ℕ) (bytes : List ℕ) (n : A) (after : List ℕ)
    (total : Result (List A × List ℕ) ℕ) → i < count → read bytes ≡ Ok (n, after)
    → with_prefix prefix (many read (count - i) bytes) ≡ total → with_prefix (prefix ++ n ∷ []) (many read (count - (i + 1)) after) ≡ total
unfolding many
goes_on read prefix count i bytes n after total lt h so_far =
    let k : count - i ≡ suc (count - (i + 1)) = omega arith in
    let one : with_prefix prefix (many read (count - i) bytes) ≡ with_prefix (prefix ++ n ∷ []) (many read (count - (i + 1)) after) =
    rw (k, h) (regroup prefix n (many read (count - (i + 1)) after)) in
    sym one ∙ so_far

pub ends : {A : Type 0} (read : List ℕ → Result (A × List ℕ) ℕ) (e : ReadError) (prefix : List A) (count i : ℕ) (bytes : List ℕ)
    (total : Result (List A × List ℕ) ℕ) → i < count → Fails e (read bytes)
    → with_prefix prefix (many read (count - i) bytes) ≡ total → Fails e total
unfolding many
ends read Memory prefix count i bytes total lt h so_far = tt
ends {A} read (Bad left) prefix count i bytes total lt h so_far =
    let k : count - i ≡ suc (count - (i + 1)) = omega arith in
    let one : with_prefix prefix (many read (count - i) bytes) ≡ Err left = rw (k, h) refl in
    sym so_far ∙ one

pub is_done : {A : Type 0} (read : List ℕ → Result (A × List ℕ) ℕ) (prefix : List A) (count i : ℕ) (bytes : List ℕ)
    (total : Result (List A × List ℕ) ℕ) → count ≤ i → with_prefix prefix (many read (count - i) bytes) ≡ total → total ≡ Ok (prefix, bytes)
unfolding many
is_done {A} read prefix count i bytes total le so_far =
    let k : count - i ≡ 0 = omega arith in
    let one : with_prefix prefix (many read (count - i) bytes) ≡ Ok (prefix, bytes) = rw k (ap (λ (ns : List A). Ok (ns, bytes)) (append-nil prefix)) in
    sym so_far ∙ one
