-- The branches that may come, one after another.
use Rattle.std.proofs.Common.{◌≡◌, ℕ, ◌+◌, List, [], ◌∷◌, ◌++◌, sym, append_assoc, append-nil}
use Rattle.spec_terms.specs.Term.{Guarded}
use Rattle.spec_calculus.specs.Configuration.{Configuration}
use Rattle.spec_run.specs.declared.event.Event.TheVariants as events
use Rattle.spec_next.specs.Candidates.{authorising, taking}

pub taking_first : (g : Configuration) (ps : List (List ℕ)) (n i : ℕ) (b : Guarded) (bs : List Guarded)
    → taking g ps n i (b ∷ bs) ≡ taking g ps n i (b ∷ []) ++ taking g ps n (i + 1) bs
taking_first g ps n i b bs = sym (append_assoc (authorising g ps n i b) (events.Fire n i ∷ []) (taking g ps n (i + 1) bs))

-- no binding more
pub nothing_bound : (bs : List (List ℕ × ℕ)) → bs ++ [] ≡ bs
nothing_bound bs = append-nil bs
