-- What a run keeps apart: messages by their digests, and committed secrets by theirs; and the outputs that deposits are bound to.
use Rattle.std.specs.Prelude.{◌≡◌, ℕ, List, Bool, true, Some, is_some}
use Rattle.std.specs.List.{list_all}
use Rattle.spec_data.specs.Lists.{is_among}
use Rattle.spec_calculus.specs.declared.parts.Revealed.{Revealed}
use Rattle.spec_run.specs.World.{Promise, World, output_at}
use Rattle.spec_run.specs.Secrets.{digest_at}

-- no two different messages have one digest
pub record NoCollision (hash : List ℕ → List ℕ) (ms : List (List ℕ)) : Type 0 where
  pub one : (t u : List ℕ) → is_among t ms ≡ true → is_among u ms ≡ true → hash t ≡ hash u → t ≡ u

-- no two secrets are committed by one digest
pub record Once (ps : List Promise) : Type 0 where
  pub one : (x y : Revealed) (d : List ℕ) → digest_at ps x ≡ Some d → digest_at ps y ≡ Some d → x ≡ y

-- whether each binding is to an output that was made
abbrev pub are_made : World → List (List ℕ × ℕ) → Bool
are_made w bs = list_all (λ b. is_some (output_at w (b.1))) bs
