-- Strings that are gone through, and strings that are added one by one.
use Rattle.std.proofs.Common.{◌≡◌, ℕ, ◌+◌, ◌-◌, ◌<◌, ◌≤◌, List, [], ◌∷◌, ◌++◌, length, Bool, true, false, ◌||◌, get_or, take, drop, suc}
use Rattle.std.proofs.Common.{sym, ap, ◌∙◌, arith, append_assoc}
use Rattle.std.specs.Str.{bytes_eq}
use Rattle.std.proofs.lemmas.List.{length-append, drop_all}
use Rattle.std.proofs.Math.Seq.{drop-cons, take-suc, take-append_seam, take-append-add}
use Rattle.spec_data.specs.Lists.{is_among}

-- ---- a string that is looked for

module _ (q : List ℕ) (strings : List (List ℕ)) (k : ℕ) (lt : k < length strings) where
  among_from : is_among q (drop k strings) ≡ (bytes_eq (get_or strings k []) q || is_among q (drop (k + 1) strings))
  among_from =
      let next : suc k ≡ k + 1 = omega arith in
      ap (is_among q) (drop-cons strings k [] lt) ∙ ap (λ n. bytes_eq (get_or strings k []) q || is_among q (drop n strings)) next

  seen : (s : List ℕ) (b : Bool) → s ≡ get_or strings k [] → bytes_eq s q ≡ b
      → is_among q (drop k strings) ≡ (b || is_among q (drop (k + 1) strings))
  seen s b here test = among_from ∙ ap (λ x. x || is_among q (drop (k + 1) strings)) (ap (λ x. bytes_eq x q) (sym here) ∙ test)

  pub among_on : (s : List ℕ) → s ≡ get_or strings k [] → bytes_eq s q ≡ false → is_among q (drop k strings) ≡ is_among q strings
      → is_among q (drop (k + 1) strings) ≡ is_among q strings
  among_on s here test is = sym (seen s false here test) ∙ is

  pub among_here : (s : List ℕ) → s ≡ get_or strings k [] → bytes_eq s q ≡ true → is_among q (drop k strings) ≡ is_among q strings
      → true ≡ is_among q strings
  among_here s here test is = sym (seen s true here test) ∙ is

pub among_nowhere : (q : List ℕ) (strings : List (List ℕ)) (k : ℕ) → length strings ≤ k → is_among q (drop k strings) ≡ is_among q strings
    → false ≡ is_among q strings
among_nowhere q strings k le is = sym (ap (is_among q) (drop_all k strings le)) ∙ is

-- ---- strings that are added

pub added_on : (old strings now next : List (List ℕ)) (k : ℕ) (s : List ℕ) → k < length strings → s ≡ get_or strings k []
    → now ≡ old ++ take k strings → next ≡ now ++ s ∷ [] → next ≡ old ++ take (k + 1) strings
added_on old strings now next k s lt here is more =
    let after : suc k ≡ k + 1 = omega arith in
    more ∙ ap (λ l. l ++ s ∷ []) is ∙ append_assoc old (take k strings) (s ∷ [])
    ∙ ap (λ x. old ++ (take k strings ++ x ∷ [])) here
    ∙ ap (λ l. old ++ l) (sym (take-suc strings k [] lt)) ∙ ap (λ n. old ++ take n strings) after

pub added_more : (old ys now : List (List ℕ)) → now ≡ old ++ ys → length old ≤ length now
added_more old ys now is = let longer = ap length is ∙ length-append old ys in omega (arith, longer)

pub added_prefix : (old ys now : List (List ℕ)) → now ≡ old ++ ys → take (length old) now ≡ old
added_prefix old ys now is = ap (take (length old)) is ∙ take-append_seam old ys

-- ---- strings that are taken away again

pub cut_behind : (indexed latest left : List (List ℕ)) (count before : ℕ) → before ≡ length indexed → before ≤ count
    → left ≡ take (count - before) latest → indexed ++ left ≡ take count (indexed ++ latest)
cut_behind indexed latest left count before is le e =
    let whole : length indexed + (count - before) ≡ count = omega (arith, is, le) in
    ap (λ l. indexed ++ l) e ∙ sym (take-append-add indexed latest (count - before))
    ∙ ap (λ n. take n (indexed ++ latest)) whole
