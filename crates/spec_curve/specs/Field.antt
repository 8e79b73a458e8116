-- Numbers modulo m: sums, differences, products and powers; and the two moduli of the curve secp256k1 (SEC 2, section 2.4.1).
use Rattle.std.specs.Prelude.{ℕ, zero, suc, ◌+◌, ◌-◌, ◌*◌, ◌/◌, ◌%◌, ◌^◌, ◌==◌, if◌then◌else◌}

-- the prime of the field
abbrev pub field_prime : ℕ
field_prime = 2 ^ 256 - 2 ^ 32 - 977

-- the order of the group
abbrev pub group_order : ℕ
group_order = 0xFFFFFFFFFFFFFFFFFFFFFFFFFFFFFFFEBAAEDCE6AF48A03BBFD25E8CD0364141

unfoldable pub plus : ℕ → ℕ → ℕ → ℕ
plus m a b = (a + b) % m

-- b is below m
unfoldable pub minus : ℕ → ℕ → ℕ → ℕ
minus m a b = (a + (m - b)) % m

unfoldable pub times : ℕ → ℕ → ℕ → ℕ
times m a b = (a * b) % m

-- a to the power k modulo m, where k has at most as many bits as the first number says: by squares
unfoldable pub power : ℕ → ℕ → ℕ → ℕ → ℕ
power zero m a k = 1 % m
power (suc bits) m a k =
    let h : ℕ = power bits m a (k / 2) in
    if k % 2 == 1 then times m (times m h h) a else times m h h

-- the inverse modulo a prime: the power m - 2 (0 of 0)
unfoldable pub inverse : ℕ → ℕ → ℕ
inverse m a = power 256 m a (m - 2)

-- a square root modulo a prime m where m % 4 is 3, of a number that has one
unfoldable pub root : ℕ → ℕ → ℕ
root m a = power 256 m a ((m + 1) / 4)
