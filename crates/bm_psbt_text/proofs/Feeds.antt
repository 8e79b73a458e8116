-- A text without a line feed at its end.
use Rattle.std.proofs.Common.{◌≡◌, ◌≢◌, ℕ, suc, ◌-◌, List, [], ◌∷◌, length, take, false, Option, Some, None, refl, sym, ap, ◌∙◌, arith}
use Rattle.std.specs.Prelude.{◌==◌, slice_get}
use Rattle.std.proofs.lemmas.Bool.{ne_eqb}
use Rattle.spec_tool.specs.PsbtText.{without_feed}

abbrev last_of : List ℕ → Option ℕ
last_of text = slice_get text (length text - 1)

last_behind : (b c : ℕ) (bytes : List ℕ) → last_of (c ∷ bytes) ≡ last_of (b ∷ c ∷ bytes)
last_behind b c bytes =
    let e : length (c ∷ bytes) - 1 ≡ length bytes = omega arith in
    let f : suc (length bytes) ≡ length (b ∷ c ∷ bytes) - 1 = omega arith in
    ap (slice_get (c ∷ bytes)) e ∙ ap (slice_get (b ∷ c ∷ bytes)) f

take_behind : (b c : ℕ) (bytes : List ℕ)
    → b ∷ take (length (c ∷ bytes) - 1) (c ∷ bytes) ≡ take (length (b ∷ c ∷ bytes) - 1) (b ∷ c ∷ bytes)
take_behind b c bytes =
    let e : suc (length (c ∷ bytes) - 1) ≡ length (b ∷ c ∷ bytes) - 1 = omega arith in
    ap (λ (n : ℕ). take n (b ∷ c ∷ bytes)) e

pub nothing_stays : (text : List ℕ) → slice_get text (length text - 1) ≡ None → without_feed text ≡ text
nothing_stays [] h = refl
nothing_stays (b ∷ []) h = absurd cc
nothing_stays (b ∷ c ∷ bytes) h = ap (λ (rest : List ℕ). b ∷ rest) (nothing_stays (c ∷ bytes) (last_behind b c bytes ∙ h))

pub feed_cut : (text : List ℕ) → slice_get text (length text - 1) ≡ Some 10 → without_feed text ≡ take (length text - 1) text
feed_cut [] h = absurd cc
feed_cut (b ∷ []) h =
    let e : b ≡ 10 = cc in
    rw e refl
feed_cut (b ∷ c ∷ bytes) h =
    ap (λ (rest : List ℕ). b ∷ rest) (feed_cut (c ∷ bytes) (last_behind b c bytes ∙ h)) ∙ take_behind b c bytes

pub feed_stays : (text : List ℕ) (last : ℕ) → slice_get text (length text - 1) ≡ Some last → last ≢ 10 → without_feed text ≡ text
feed_stays [] last h other = absurd cc
feed_stays (b ∷ []) last h other =
    let e : b ≡ last = cc in
    let f : (b == 10) ≡ false = ne_eqb b 10 (λ g. other (sym e ∙ g)) in
    rw f refl
feed_stays (b ∷ c ∷ bytes) last h other =
    ap (λ (rest : List ℕ). b ∷ rest) (feed_stays (c ∷ bytes) last (last_behind b c bytes ∙ h) other)
