-- What files and sinks have done so far, as proofs alone see it.
use Rattle.std.specs.Prelude.{ℕ, List, Result}
use Rattle.bm_io.specs.declared.files.ReadError.{ReadError}

-- a read: the name and the limit that were asked for, and what was answered
pub record Reply : Type 0 where
  pub name : List ℕ
  pub limit : ℕ
  pub answer : Result (List ℕ) ReadError

-- the same, put together
abbrev pub reply_of : List ℕ → ℕ → Result (List ℕ) ReadError → Reply
reply_of name limit answer = record { name = name; limit = limit; answer = answer }
