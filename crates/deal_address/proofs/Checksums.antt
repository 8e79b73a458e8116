-- The checksum of values that stand behind others.
use Rattle.std.proofs.Common.{◌≡◌, ℕ, ◌+◌, ◌/◌, ◌<◌, List, [], ◌∷◌, ◌++◌, length, drop, refl, sym, ap, ◌∙◌, get_or}
use Rattle.std.specs.Prelude.{bit_xor}
use Rattle.std.proofs.Math.Seq.{drop-cons}
use Rattle.std.proofs.Common.{add-one}
use Rattle.spec_address.specs.Checksum.{chosen, folded, next_state, state_from}

pub folded_more : (generators : List ℕ) (i bits state : ℕ) → i < length generators
    → folded (bits / 2) (drop (i + 1) generators) (bit_xor state (chosen bits (get_or generators i 0))) ≡ folded bits (drop i generators) state
folded_more generators i bits state less =
    ap (λ n. folded (bits / 2) (drop n generators) (bit_xor state (chosen bits (get_or generators i 0)))) (add-one i)
    ∙ sym (ap (λ gs. folded bits gs state) (drop-cons generators i 0 less))

pub state_append : (state : ℕ) (xs ys : List ℕ) → state_from state (xs ++ ys) ≡ state_from (state_from state xs) ys
state_append state [] ys = refl
state_append state (x ∷ xs) ys = state_append (next_state state x) xs ys
