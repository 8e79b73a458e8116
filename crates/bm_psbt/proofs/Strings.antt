-- Strings that are read one behind another.
use Rattle.std.proofs.Common.{◌≡◌, ℕ, suc, ◌-◌, ◌+◌, ◌≤◌, ◌<◌, List, [], ◌∷◌, ◌++◌, length, Bool, true, false, eqb, Option, Some, None, Result, Ok, Err, refl, sym, ap, ◌∙◌, append_assoc, arith}
use Rattle.std.specs.Prelude.{is_some}
use Rattle.std.proofs.lemmas.List.{append-nil}
use Rattle.spec_bitcoin.specs.Reading.{◌>>=◌, many}
use Rattle.spec_text.specs.Words.{given}
use Rattle.spec_tool.specs.Psbt.{whole}
use Rattle.spec_tool.specs.PsbtBytes.{taken}
use Rattle.bm_psbt.specs.Ordered.{rest_of}

-- ---- what is behind them

abbrev with_first : {A : Type 0} → A → List A × List ℕ → Result (List A × List ℕ) ℕ
with_first x others = Ok (x ∷ others.0, others.1)

rest_more : {A : Type 0} (x : A) (read : Result (List A × List ℕ) ℕ) → rest_of (read >>= with_first x) ≡ rest_of read
rest_more x (Ok others) = refl
rest_more x (Err left) = refl

pub behind_more : {A : Type 0} (read : List ℕ → Result (A × List ℕ) ℕ) (count i : ℕ) (bytes after : List ℕ) (x : A)
    (total : Option (List ℕ)) → i < count → read bytes ≡ Ok (x, after)
    → rest_of (many read (count - i) bytes) ≡ total → rest_of (many read (count - (i + 1)) after) ≡ total
unfolding many
behind_more read count i bytes after x total lt h so_far =
    let k : count - i ≡ suc (count - (i + 1)) = omega arith in
    let one : rest_of (many read (count - i) bytes) ≡ rest_of (many read (count - (i + 1)) after) =
    rw (k, h) (rest_more x (many read (count - (i + 1)) after)) in
    sym one ∙ so_far

pub behind_stop : {A : Type 0} (read : List ℕ → Result (A × List ℕ) ℕ) (count i left : ℕ) (bytes : List ℕ) (total : Option (List ℕ))
    → i < count → read bytes ≡ Err left
    → rest_of (many read (count - i) bytes) ≡ total → None ≡ total
unfolding many
behind_stop read count i left bytes total lt h so_far =
    let k : count - i ≡ suc (count - (i + 1)) = omega arith in
    let one : rest_of (many read (count - i) bytes) ≡ None = rw (k, h) refl in
    sym one ∙ so_far

pub behind_all : {A : Type 0} (read : List ℕ → Result (A × List ℕ) ℕ) (count i : ℕ) (bytes : List ℕ) (total : Option (List ℕ)) → count ≤ i
    → rest_of (many read (count - i) bytes) ≡ total → Some bytes ≡ total
unfolding many
behind_all read count i bytes total le so_far =
    let k : count - i ≡ 0 = omega arith in
    let one : rest_of (many read (count - i) bytes) ≡ Some bytes = rw k refl in
    sym one ∙ so_far

-- ---- the strings themselves

-- what was read before, and what is still read
abbrev pub with_prefix : {A : Type 0} → List A → Result (List A × List ℕ) ℕ → Result (List A × List ℕ) ℕ
with_prefix prefix read = read >>= λ x. Ok (prefix ++ x.0, x.1)

regroup : {A : Type 0} (prefix : List A) (n : A) (read : Result (List A × List ℕ) ℕ) → with_prefix prefix (read >>= with_first n)
    ≡ with_prefix (prefix ++ n ∷ []) read
regroup {A} prefix n (Ok x) = ap (λ (ns : List A). Ok (ns, x.1)) (simp append_assoc)
regroup prefix n (Err f) = refl

pub items_more : {A : Type 0} (read : List ℕ → Result (A × List ℕ) ℕ) (prefix : List A) (count i : ℕ) (bytes : List ℕ) (n : A)
    (after : List ℕ) (total : Result (List A × List ℕ) ℕ) → i < count → read bytes ≡ Ok (n, after)
    → with_prefix prefix (many read (count - i) bytes) ≡ total → with_prefix (prefix ++ n ∷ []) (many read (count - (i + 1)) after) ≡ total
unfolding many
items_more read prefix count i bytes n after total lt h so_far =
    let k : count - i ≡ suc (count - (i + 1)) = omega arith in
    let one : with_prefix prefix (many read (count - i) bytes) ≡ with_prefix (prefix ++ n ∷ []) (many read (count - (i + 1)) after) =
    rw (k, h) (regroup prefix n (many read (count - (i + 1)) after)) in
    sym one ∙ so_far

pub items_stop : {A : Type 0} (read : List ℕ → Result (A × List ℕ) ℕ) (prefix : List A) (count i left : ℕ) (bytes : List ℕ)
    (total : Result (List A × List ℕ) ℕ) → i < count → read bytes ≡ Err left
    → with_prefix prefix (many read (count - i) bytes) ≡ total → taken total ≡ None
unfolding many
items_stop {A} read prefix count i left bytes total lt h so_far =
    let k : count - i ≡ suc (count - (i + 1)) = omega arith in
    let one : with_prefix prefix (many read (count - i) bytes) ≡ Err left = rw (k, h) refl in
    ap (taken {A = List A}) (sym so_far ∙ one)

pub items_done : {A : Type 0} (read : List ℕ → Result (A × List ℕ) ℕ) (prefix : List A) (count i : ℕ) (bytes : List ℕ)
    (total : Result (List A × List ℕ) ℕ) → count ≤ i → with_prefix prefix (many read (count - i) bytes) ≡ total → taken total ≡ Some (prefix, bytes)
unfolding many
items_done {A} read prefix count i bytes total le so_far =
    let k : count - i ≡ 0 = omega arith in
    let one : with_prefix prefix (many read (count - i) bytes) ≡ Ok (prefix, bytes) = rw k (ap (λ (ns : List A). Ok (ns, bytes)) (append-nil prefix)) in
    ap (taken {A = List A}) (sym so_far ∙ one)

-- ---- all of the bytes

abbrev is_empty : Option (List ℕ) → Bool
is_empty None = false
is_empty (Some rest) = eqb (length rest) 0

pub is_whole : {A : Type 0} (read : Result (A × List ℕ) ℕ) → is_some (whole read) ≡ is_empty (rest_of read)
is_whole (Ok x) = by_test (eqb (length (x.1)) 0)
  where
    by_test : (t : Bool) → is_some (given t (x.0)) ≡ t
    by_test true = refl
    by_test false = refl
is_whole (Err left) = refl
