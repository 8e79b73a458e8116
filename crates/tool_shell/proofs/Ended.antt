-- What the status of a call tells of its answer.
use Rattle.std.proofs.Common.{◌≡◌, ℕ, Bool, true, false, ◌==◌, cond, length, refl, sym}
use Rattle.spec_tool.specs.Commands.{Printed}
use Rattle.spec_tool.specs.Answers.{ended}

ended_without : (empty : Bool) (status n : ℕ) → (n ≡ 4 → ⊥) → n ≡ cond empty status 4 → status ≡ n
ended_without true status n other e = sym e
ended_without false status n other e = absurd (other e)

-- where a call ends with another status than 4, it is that of the answer
pub ended_with : (printed : Printed) (went : Bool) (n : ℕ) → (n ≡ 4 → ⊥) → n ≡ ended printed went → printed.status ≡ n
ended_with printed true n other e = sym e
ended_with printed false n other e = ended_without (length printed.text == 0) printed.status n other e

-- where a call ends with 4, and the answer's status isn't 4, the write failed
pub write_failed : (printed : Printed) (went : Bool) → (printed.status ≡ 4 → ⊥) → 4 ≡ ended printed went → went ≡ false
write_failed printed true other e = absurd (other (sym e))
write_failed printed false other e = refl
