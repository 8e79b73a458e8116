-- What a configuration tells of a secret, and its line.
use Rattle.std.proofs.Common.{◌≡◌, ℕ, Bool, List, Option, Some, None, refl}
use Rattle.spec_text.specs.PlayText.{secret_line}
use Rattle.bm_calculus.specs.Answers.{with_revealed}
use Rattle.bm_report.specs.Told.{told_line}

pub told_line_of : (k : ℕ) (a s : List ℕ) (revealed : Bool) (length : Option (Option ℕ))
    → told_line k a s (with_revealed revealed length) ≡ secret_line k a s revealed length
told_line_of k a s revealed None = refl
told_line_of k a s revealed (Some length) = refl
