-- One draw of several, and then the others.
use Rattle.std.proofs.Common.{◌≡◌, ℕ, zero, suc, ◌+◌, ◌-◌, ◌%◌, ◌<◌, ap, arith}
use Rattle.spec_text.specs.Generator.{drawn, next_state, onto_drawn, draw_bytes, draw_secret, draw_secrets}

less_one : (k i : ℕ) → i < k → k - i ≡ suc (k - (i + 1))
less_one k i h = omega arith

pub bytes_step : (k i state : ℕ) → i < k
    → draw_bytes (k - i) state ≡ onto_drawn (drawn (next_state state) % 256) (draw_bytes (k - (i + 1)) (next_state state))
bytes_step k i state h = ap (λ n. draw_bytes n state) (less_one k i h)

pub secrets_step : (k i j state : ℕ) → i < k
    → draw_secrets (k - i) j state ≡ onto_drawn ((draw_secret j state).0) (draw_secrets (k - (i + 1)) (j + 1) ((draw_secret j state).1))
secrets_step k i j state h = ap (λ n. draw_secrets n j state) (less_one k i h)
