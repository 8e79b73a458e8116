-- A live output as it is shown.
use Rattle.std.specs.Prelude.{ℕ}
use Rattle.spec_bitcoin.specs.Live.{Entry}

abbrev pub number_and_value : Entry → ℕ × ℕ
number_and_value e = ((e.1).0, ((e.1).1).value)
