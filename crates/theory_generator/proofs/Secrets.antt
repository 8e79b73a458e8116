-- What is known of the secrets that are drawn.
use Rattle.std.proofs.Common.{◌≡◌, ℕ, zero, suc, ◌+◌, ◌%◌, ◌<◌, ◌≤◌, List, [], ◌∷◌, length, refl, arith}
use Rattle.spec_data.specs.Hashes.{IsBytes}
use Rattle.spec_text.specs.Generator.{next_state, drawn, draw_bytes, Generated, made_of, draw_secret, draw_secrets}

-- ---- bytes

-- so many bytes
pub record AreBytes (n : ℕ) (bytes : List ℕ) : Type 0 where
  pub size : length bytes ≡ n
  pub bytes' : IsBytes bytes

byte_of : (x : ℕ) → x % 256 < 256
byte_of x = omega arith

pub bytes_cons : (b : ℕ) (bytes : List ℕ) → b < 256 → IsBytes bytes → IsBytes (b ∷ bytes)
bytes_cons b bytes h t zero = h
bytes_cons b bytes h t (suc i) = t i

bytes_none : IsBytes []
bytes_none i = omega arith

pub bytes_drawn : (n state : ℕ) → AreBytes n ((draw_bytes n state).0)
bytes_drawn zero state = record { size = refl; bytes' = bytes_none }
bytes_drawn (suc n) state =
    let t = bytes_drawn n (next_state state) in
    record { size = omega (arith, t.size); bytes' = bytes_cons _ _ (byte_of (drawn (next_state state))) t.bytes' }

-- ---- secrets

-- secret j: its first byte is its number
pub record IsMade (j : ℕ) (m : Generated) : Type 0 where
  pub short : m.0 ≤ 16
  pub rest : List ℕ
  pub is : m.1 ≡ j ∷ rest
  pub are : AreBytes (15 + m.0) rest

-- the secrets from number j on
abbrev pub AreGenerated : ℕ → List Generated → Type 0
AreGenerated j [] = Unit {0}
AreGenerated j (m ∷ ms) = IsMade j m × AreGenerated (j + 1) ms

-- so many of them
pub record AreDrawn (n j : ℕ) (ms : List Generated) : Type 0 where
  pub count : length ms ≡ n
  pub made : AreGenerated j ms

length_of : (x : ℕ) → x % 17 ≤ 16
length_of x = omega arith

secret_of : (j length state : ℕ) → length ≤ 16 → IsMade j ((made_of j length (draw_bytes (15 + length) state)).0)
secret_of j length state h = record {
  short = h;
  rest = (draw_bytes (15 + length) state).0;
  is = refl;
  are = bytes_drawn (15 + length) state;
}

pub secrets_drawn : (n j state : ℕ) → AreDrawn n j ((draw_secrets n j state).0)
secrets_drawn zero j state = record { count = refl; made = tt }
secrets_drawn (suc n) j state =
    let t = secrets_drawn n (j + 1) ((draw_secret j state).1) in
    let first = secret_of j (drawn (next_state state) % 17) (next_state state) (length_of (drawn (next_state state))) in
    record { count = omega (arith, t.count); made = (first, t.made) }
