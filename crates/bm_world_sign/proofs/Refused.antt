-- Why signing is refused, test by test.
use Rattle.std.proofs.Common.{◌≡◌, ℕ, List, [], ◌∷◌, Bool, true, false, Option, Some, None, refl, sym, ap, ◌∙◌}
use Rattle.std.specs.Prelude.{not, is_some, if◌then◌else◌}
use Rattle.spec_data.specs.Lists.{is_among, first_reason, or_else}
use Rattle.spec_terms.specs.Core.{asks}
use Rattle.spec_terms.specs.Term.{Guarded}
use Rattle.spec_compiler.specs.Endorsements.{Need}
use Rattle.spec_run.specs.declared.outcome.Reason.{Reason}
use Rattle.spec_run.specs.declared.outcome.Reason.TheVariants as reason
use Rattle.spec_run.specs.Setup.{Setup, has_contract, takes_part}
use Rattle.spec_run.specs.World.{ContractPosition, World, live_position_at}
use Rattle.spec_run.specs.Compiled.{compiled_instance}
use Rattle.spec_run.specs.Ledger.{position_branch}
use Rattle.spec_run.specs.Signing.{endorse_row, init_row, missed_need, not_endorsed, asked_by, branch_if_live, authorise_row}
use Rattle.bm_world_sign.specs.Starting.{missed_reason}

-- ---- the initial transaction

after_three : (a b c : Bool) (p q r : Reason) (o : Option Need)
    → first_reason ((a, p) ∷ (b, q) ∷ (c, r) ∷ (is_some o, not_endorsed o) ∷ [])
    ≡ or_else (first_reason ((a, p) ∷ (b, q) ∷ (c, r) ∷ [])) (missed_reason o)
after_three true b c p q r o = refl
after_three false true c p q r o = refl
after_three false false true p q r o = refl
after_three false false false p q r None = refl
after_three false false false p q r (Some need) = refl

-- an endorsement that is missing is asked for last
init_then : (s : Setup) (w : World) (contract : ℕ) (party : List ℕ)
    → first_reason (init_row s w contract party)
    ≡ or_else (first_reason (endorse_row s w contract party)) (missed_reason (missed_need s w contract party))
init_then s w contract party =
    after_three (not (has_contract s contract)) (not (takes_part s contract party)) (not (is_some (compiled_instance s w contract)))
    reason.NoContract reason.NotParticipant reason.NotAllCommitted (missed_need s w contract party)

-- so one that is refused before is refused for that reason
pub init_early : (s : Setup) (w : World) (contract : ℕ) (party : List ℕ) (r : Reason)
    → first_reason (endorse_row s w contract party) ≡ Some r → Some r ≡ first_reason (init_row s w contract party)
init_early s w contract party r e =
    sym (init_then s w contract party ∙ ap (λ o. or_else o (missed_reason (missed_need s w contract party))) e)

-- ---- a branch

-- the row of what is held and the branch that is found
abbrev pub found_row : List ℕ → Option ContractPosition → Option Guarded → List (Bool × Reason)
found_row party held b =
    (not (is_some held), reason.NotActive)
    ∷ (not (is_some b), reason.NoBranch)
    ∷ (not (is_among party (asked_by b)), reason.NotAsked)
    ∷ []

pub authorise_is : (s : Setup) (w : World) (party : List ℕ) (output branch : ℕ) (held : Option ContractPosition) (b : Option Guarded)
    → live_position_at w output ≡ held → branch_if_live s held branch ≡ b
    → first_reason (authorise_row s w party output branch) ≡ first_reason (found_row party held b)
authorise_is s w party output branch held b e f =
    ap (λ h. first_reason (found_row party h (branch_if_live s h branch))) e
    ∙ ap (λ x. first_reason (found_row party held x)) f

by_asked : (asked : Bool) → first_reason ((false, reason.NotActive) ∷ (false, reason.NoBranch) ∷ (not asked, reason.NotAsked) ∷ [])
    ≡ (if asked then None else Some reason.NotAsked)
by_asked true = refl
by_asked false = refl

-- a branch that is there is refused where it doesn't ask the party
pub authorise_found : (s : Setup) (w : World) (party : List ℕ) (output branch : ℕ) (held : ContractPosition) (b : Guarded) (asked : Bool)
    → live_position_at w output ≡ Some held → position_branch s held branch ≡ Some b → is_among party (asks b) ≡ asked
    → first_reason (authorise_row s w party output branch) ≡ (if asked then None else Some reason.NotAsked)
authorise_found s w party output branch held b asked e f g =
    authorise_is s w party output branch (Some held) (Some b) e f
    ∙ ap (λ x. first_reason ((false, reason.NotActive) ∷ (false, reason.NoBranch) ∷ (not x, reason.NotAsked) ∷ [])) g
    ∙ by_asked asked
