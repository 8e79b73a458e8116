-- A book that signs several pairs, one after another.
use Rattle.std.proofs.Common.{◌≡◌, ℕ, zero, suc, ◌+◌, ◌<◌, Bool, true, false, List, [], ◌∷◌, length, map, take, drop, get_or, refl, sym, ap, ◌∙◌, subst, arith}
use Rattle.std.specs.Prelude.{if◌then◌else◌}
use Rattle.std.proofs.lemmas.List.{drop_more, take-take}
use Rattle.spec_bitcoin.specs.Keys.{Pair}
use Rattle.spec_run.specs.Signing.{signed, signed_all}
use Rattle.bm_world_board.specs.Prepares.{IsPrefix}
use Rattle.bm_world_board.proofs.Refusals.{prefix_same, prefix_signed}

-- the prefix of a prefix
pub prefix_then : (a b c : List Pair) → IsPrefix a b → IsPrefix b c → IsPrefix a c
prefix_then a b c f h = record {
  few = omega arith;
  same = sym (take-take (length a) (length b) c f.few) ∙ ap (take (length a)) h.same ∙ f.same;
}

-- what stands at a place of a list doesn't hang on what stands in for it elsewhere
pub there_is : {X : Type 0} (xs : List X) (i : ℕ) (d e : X) → i < length xs → get_or xs i d ≡ get_or xs i e
there_is [] i d e lt = absurd (omega (arith, lt))
there_is (x ∷ xs) zero d e lt = refl
there_is (x ∷ xs) (suc i) d e lt = there_is xs i d e (omega arith)

-- one more pair is signed
pub signed_step : {X : Type 0} (f : X → Pair) (xs : List X) (i : ℕ) (x : X) (now new all : List Pair) → i < length xs → x ≡ get_or xs i x
    → new ≡ signed now (f x)
    → signed_all now (map f (drop i xs)) ≡ all → signed_all new (map f (drop (i + 1) xs)) ≡ all
signed_step f xs i x now new all lt at made so =
    let cut : drop i xs ≡ x ∷ drop (i + 1) xs = drop_more xs i x lt ∙ ap (λ z. z ∷ drop (i + 1) xs) (sym at) in
    rw made (rw cut at so)

pub prefix_step : (first now new : List Pair) (pair : Pair) → IsPrefix first now → new ≡ signed now pair → IsPrefix first new
prefix_step first now new pair f made = subst (IsPrefix first) (sym made) (prefix_then first now (signed now pair) f (prefix_signed now pair))

-- ---- a book that is cut to its prefix, or isn't

pub kept_pairs : (before after final : List Pair) (count : ℕ) (b : Bool) → count ≡ length before → IsPrefix before after → final
    ≡ (if b then after else take count after)
    → final ≡ (if b then after else before)
kept_pairs before after final count true n f e = e
kept_pairs before after final count false n f e = e ∙ ap (λ k. take k after) n ∙ f.same

pub kept_prefix : (before after final : List Pair) (count : ℕ) (b : Bool) → count ≡ length before → IsPrefix before after → final
    ≡ (if b then after else take count after)
    → IsPrefix before final
kept_prefix before after final count true n f e = subst (IsPrefix before) (sym e) f
kept_prefix before after final count false n f e = subst (IsPrefix before) (sym (kept_pairs before after final count false n f e)) (prefix_same before)
