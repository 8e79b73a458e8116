-- Secrets that aren't known of a branch that is to be taken.
use Rattle.std.proofs.Common.{◌≡◌, ℕ, List, [], ◌∷◌, not, Option, Some, None, refl, sym, ap, ◌∙◌}
use Rattle.std.specs.Prelude.{option_map, is_some, if◌then◌else◌}
use Rattle.spec_data.specs.Lists.{first_reason}
use Rattle.spec_terms.specs.Core.{core, reveals_of}
use Rattle.spec_terms.specs.Term as term
use Rattle.spec_compiler.specs.Instance.{Instance}
use Rattle.spec_run.specs.declared.outcome.Reason.{Reason}
use Rattle.spec_run.specs.declared.outcome.Reason.TheVariants as reason
use Rattle.spec_run.specs.Setup.{Setup, bytes_or_none}
use Rattle.spec_run.specs.World.{ContractPosition, World, digests_at, live_position_at}
use Rattle.spec_run.specs.Compiled.{compiled_instance}
use Rattle.spec_run.specs.Ledger.{position_branch}
use Rattle.spec_run.specs.Signing.{branch_if_live}
use Rattle.spec_run.specs.Revealing.{fitting}
use Rattle.spec_compiler.specs.Scripts.{digest_of}
use Rattle.spec_run.specs.Firing.{first_unshown, unknown_secret, position_instance, fire_row}
use Rattle.theory_world.proofs.Later.{compiled_is}
use Rattle.bm_compile.specs.Numbered.{Numbered, numbered}
use Rattle.bm_world_fire.specs.Shown.{first_unshown_by}

unshown_each : (s : Setup) (w : World) (instance : Instance) (names : List (List ℕ)) → first_unshown_by s w.posted instance.hashes names
    ≡ first_unshown s w instance names
unshown_each s w instance [] = refl
unshown_each s w instance (name ∷ names) =
    ap (λ rest. if is_some (fitting s w.posted (digest_of instance.hashes name)) then rest else Some name) (unshown_each s w instance names)

module _ (s : Setup) (w : World) (k : ℕ) (b : term.Guarded) where
  pub unknown_some : (n : Numbered) → option_map (numbered s.hash) (compiled_instance s w k) ≡ Some n
      → first_unshown_by s w.posted (digests_at w.promises k) (reveals_of (core b)) ≡ unknown_secret s w (compiled_instance s w k) (Some b)
  unknown_some n e = by_instance (compiled_instance s w k) refl e
    where
      by_instance : (o : Option Instance) → compiled_instance s w k ≡ o → option_map (numbered s.hash) o ≡ Some n
          → first_unshown_by s w.posted (digests_at w.promises k) (reveals_of (core b)) ≡ unknown_secret s w o (Some b)
      by_instance None c q = cc
      by_instance (Some st) c q =
          let is = compiled_is s w k st c in
          ap (λ hashes. first_unshown_by s w.posted hashes (reveals_of (core b))) (sym (ap (λ (y : Instance). y.hashes) is.is))
          ∙ unshown_each s w st (reveals_of (core b))

-- ---- refusals

module _ (s : Setup) (w : World) (output branch : ℕ) where
  abbrev row_by : Option ContractPosition → Option Reason
  row_by o = first_reason (
      (not (is_some o), reason.NotActive)
      ∷ (not (is_some (branch_if_live s o branch)), reason.NoBranch)
      ∷ (
        is_some (unknown_secret s w (position_instance s w o) (branch_if_live s o branch)),
        reason.SecretUnknown
            (bytes_or_none (unknown_secret s w (position_instance s w o) (branch_if_live s o branch))),
      )
      ∷ []
      )

  pub refused_inactive : live_position_at w output ≡ None → Some reason.NotActive ≡ first_reason (fire_row s w output branch)
  refused_inactive e = sym (ap row_by e)

  module _ (held : ContractPosition) (live : live_position_at w output ≡ Some held) where
    abbrev row_with : Option term.Guarded → Option Reason
    row_with o = first_reason (
        (not (is_some o), reason.NoBranch)
        ∷ (
          is_some (unknown_secret s w (compiled_instance s w held.contract) o),
          reason.SecretUnknown
              (bytes_or_none (unknown_secret s w (compiled_instance s w held.contract) o)),
        )
        ∷ []
        )

    pub refused_branchless : position_branch s held branch ≡ None → Some reason.NoBranch ≡ first_reason (fire_row s w output branch)
    refused_branchless e = sym (ap row_by live ∙ ap row_with e)

    module _ (b : term.Guarded) (there : position_branch s held branch ≡ Some b) where
      abbrev row_of : Option (List ℕ) → Option Reason
      row_of o = if is_some o then Some (reason.SecretUnknown (bytes_or_none o)) else None

      pub refused_unknown : (name : List ℕ) → unknown_secret s w (compiled_instance s w held.contract) (Some b) ≡ Some name
          → Some (reason.SecretUnknown name) ≡ first_reason (fire_row s w output branch)
      refused_unknown name e = sym (ap row_by live ∙ ap row_with there ∙ ap row_of e)

      pub passed : unknown_secret s w (compiled_instance s w held.contract) (Some b) ≡ None → None ≡ first_reason (fire_row s w output branch)
      passed e = sym (ap row_by live ∙ ap row_with there ∙ ap row_of e)
