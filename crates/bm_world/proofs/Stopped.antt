-- A call that stopped: what is answered after a halt, and what is kept of it.
use Rattle.std.proofs.Common.{◌≡◌, Option, Some, None, refl, sym, ap, subst, ◌∙◌, inl, inr}
use Rattle.std.proofs.lemmas.Option.{none-some, same_Some}
use Rattle.spec_run.specs.Pending as run
use Rattle.bm_world.specs.declared.halt.Halt.{Halt}
use Rattle.bm_world.specs.declared.halt.Halt.TheVariants.{Collided, Guessed, Memory}
use Rattle.bm_world.specs.Halts.{halt_of, IsAgain}
use Rattle.bm_world.specs.Playing.{Played, StoppedBy}

-- a halted world answers the same
pub stopped_again : {H : Type 0} (p : Played H) (kept result : Halt) (why : Type 0) → p.halt ≡ Some kept → IsAgain kept result
    → StoppedBy p p result why
stopped_again p kept result why at again = record {
  setup = record { hasher = refl; header = refl; contracts = refl };
  kept = refl;
  trace = refl;
  halted = λ none. absurd (none-some kept (sym none ∙ at));
  again = λ earlier h. (subst (λ x. IsAgain x result) (same_Some kept earlier (sym at ∙ h)) again, refl);
  cause = λ none. absurd (none-some kept (sym none ∙ at));
}

-- it's kept, unless it is out of memory
pub kept_halt : {H : Type 0} (old new : Played H) (halt : Halt) (why : Type 0) → StoppedBy old new halt why → (halt ≡ Memory → ⊥)
    → new.halt ≡ Some halt
kept_halt old new halt why h other = by_halt old.halt refl
  where
    by_again : (earlier : Halt) → old.halt ≡ Some earlier → IsAgain earlier halt → new ≡ old → new.halt ≡ Some halt
    by_again earlier at (inl same) stays = ap (λ (p : Played _). p.halt) stays ∙ at ∙ ap Some (sym same)
    by_again earlier at (inr memory) stays = absurd (other memory)

    by_halt : (o : Option Halt) → old.halt ≡ o → new.halt ≡ Some halt
    by_halt None at = h.halted at
    by_halt (Some earlier) at = let a = h.again earlier at in by_again earlier at a.0 a.1

-- but as memory ran out it is a halt of the definitions
pub halt_named : (halt : Halt) → (halt ≡ Memory → ⊥) → (h : run.Halt) × (halt_of halt ≡ Some h)
halt_named (Collided earlier later) other = (run.Collided earlier later, refl)
halt_named (Guessed party secret) other = (run.Guessed party secret, refl)
halt_named Memory other = absurd (other refl)
