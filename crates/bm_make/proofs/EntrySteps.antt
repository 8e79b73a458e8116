-- The entry of one secret, and then the others.
use Rattle.std.proofs.Common.{◌≡◌, ℕ, zero, suc, ◌+◌, ◌<◌, List, [], ◌∷◌, ◌++◌, length, drop, ap, refl, ◌∙◌, arith}
use Rattle.std.specs.Prelude.{codes}
use Rattle.spec_text.specs.Canonical.{rest_entries_text}
use Rattle.spec_text.specs.Generator.{Generated, secret_name, secret_entries}

-- the entry of secret j, and the others
abbrev and_more : ℕ → List Generated → List ℕ
and_more j ms = codes " | A: secret " ++ (secret_name j ++ rest_entries_text (secret_entries (j + 1) ms))

at_drop : (j i : ℕ) (ms : List Generated) → i < length ms
    → rest_entries_text (secret_entries j (drop i ms)) ≡ and_more j (drop (suc i) ms)
at_drop j i [] h = absurd (omega arith)
at_drop j zero (m ∷ ms) h = refl
at_drop j (suc i) (m ∷ ms) h = at_drop j i ms (omega arith)

pub entry_step : (j i : ℕ) (ms : List Generated) → i < length ms
    → rest_entries_text (secret_entries j (drop i ms))
    ≡ codes " | A: secret " ++ (secret_name j ++ rest_entries_text (secret_entries (j + 1) (drop (i + 1) ms)))
entry_step j i ms h =
    let next : suc i ≡ i + 1 = omega arith in
    at_drop j i ms h ∙ ap (λ k. and_more j (drop k ms)) next
