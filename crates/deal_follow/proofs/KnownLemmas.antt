-- The transaction that has some bytes, by its number.
use Rattle.std.proofs.Common.{◌≡◌, ℕ, ◌+◌, List, [], ◌∷◌, map, Bool, true, false, cond, Option, Some, None}
use Rattle.std.proofs.Common.{refl, sym, ap, ◌∙◌, suc, arith}
use Rattle.std.specs.Prelude.{option_map, slice_get}
use Rattle.std.specs.List.{find}
use Rattle.std.specs.Option.{option_and_then}
use Rattle.std.specs.Str.{bytes_eq}
use Rattle.spec_deal.specs.declared.transaction.Transaction.{Transaction}
use Rattle.spec_deal.specs.SignatureFile.{has_bytes}
use Rattle.deal_index.proofs.Finding.{find_map}
use Rattle.deal_follow.specs.declared.known.Known.{Known}
use Rattle.deal_follow.specs.Boards.{known_in, numbered}

-- what stands at the next place, with one transaction before it
behind : (t : Transaction) (ts : List Transaction) (o : Option ℕ)
    → option_and_then (slice_get (t ∷ ts)) (option_map (λ n. n + 1) o) ≡ option_and_then (slice_get ts) o
behind t ts None = refl
behind t ts (Some n) = let e : n + 1 ≡ suc n = omega arith in ap (slice_get (t ∷ ts)) e

-- the number of the first transaction that has these bytes, where the first of them has number k
abbrev number_of : List ℕ → ℕ → List Transaction → Option ℕ
number_of q k ts = option_map (λ (p : List ℕ × ℕ). p.1) (find (λ (p : List ℕ × ℕ). bytes_eq p.0 q) (numbered k ts))

-- from the next number on, each number is one more
number_next : (q : List ℕ) (k : ℕ) (ts : List Transaction) → number_of q (k + 1) ts ≡ option_map (λ n. n + 1) (number_of q k ts)
number_next q k [] = refl
number_next q k (t ∷ ts) = by_test (bytes_eq t.bytes q) (number_next q (k + 1) ts)
  where
    by_test : (b : Bool) → number_of q (k + 1 + 1) ts ≡ option_map (λ n. n + 1) (number_of q (k + 1) ts)
        → option_map (λ (p : List ℕ × ℕ). p.1)
        (cond b (Some (t.bytes, k + 1)) (find (λ (p : List ℕ × ℕ). bytes_eq p.0 q) (numbered (k + 1 + 1) ts)))
        ≡ option_map (λ n. n + 1) (option_map (λ (p : List ℕ × ℕ). p.1)
        (cond b (Some (t.bytes, k)) (find (λ (p : List ℕ × ℕ). bytes_eq p.0 q) (numbered (k + 1) ts))))
    by_test true h = refl
    by_test false h = h

-- that number leads to it
numbered_first : (q : List ℕ) (ts : List Transaction) → option_and_then (slice_get ts) (number_of q 0 ts) ≡ find (has_bytes q) ts
numbered_first q [] = refl
numbered_first q (t ∷ ts) =
    by_test (bytes_eq t.bytes q)
    (ap (option_and_then (slice_get (t ∷ ts))) (number_next q 0 ts) ∙ behind t ts (number_of q 0 ts) ∙ numbered_first q ts)
  where
    by_test : (b : Bool) → option_and_then (slice_get (t ∷ ts)) (number_of q 1 ts) ≡ find (has_bytes q) ts
        → option_and_then (slice_get (t ∷ ts)) (option_map (λ (p : List ℕ × ℕ). p.1)
        (cond b (Some (t.bytes, 0)) (find (λ (p : List ℕ × ℕ). bytes_eq p.0 q) (numbered 1 ts))))
        ≡ cond b (Some t) (find (has_bytes q) ts)
    by_test true h = refl
    by_test false h = h

number_in : (o : Option Known) → option_map (λ (n : Known). n.number) o ≡ option_map (λ (p : List ℕ × ℕ). p.1) (option_map known_in o)
number_in None = refl
number_in (Some n) = refl

pub transaction_found : (ts : List Transaction) (ns : List Known) (q : List ℕ) (o : Option Known) → map known_in ns ≡ numbered 0 ts
    → o ≡ find (λ (n : Known). bytes_eq n.bytes q) ns
    → option_and_then (slice_get ts) (option_map (λ (n : Known). n.number) o) ≡ find (has_bytes q) ts
transaction_found ts ns q o all here =
    ap (option_and_then (slice_get ts))
    (number_in o ∙ ap (option_map (λ (p : List ℕ × ℕ). p.1))
    (ap (option_map known_in) here ∙ sym (find_map known_in (λ (p : List ℕ × ℕ). bytes_eq p.0 q) ns)
    ∙ ap (find (λ (p : List ℕ × ℕ). bytes_eq p.0 q)) all))
    ∙ numbered_first q ts
