-- The tests of a signature in another order.
use Rattle.std.proofs.Common.{◌≡◌, Bool, true, false, refl}
use Rattle.std.specs.Prelude.{◌&&◌}

pub no_r : (a b c : Bool) → b ≡ false → false ≡ (a && (b && c))
no_r true true c e = cc
no_r true false c e = refl
no_r false b c e = refl

pub no_s : (a b c : Bool) → c ≡ false → false ≡ (a && (b && c))
no_s true true true e = cc
no_s true true false e = refl
no_s true false c e = refl
no_s false b c e = refl

pub all_but : (a b c : Bool) → b ≡ true → c ≡ true → a ≡ (a && (b && c))
all_but true true true e f = refl
all_but true true false e f = cc
all_but true false c e f = cc
all_but false b c e f = refl
