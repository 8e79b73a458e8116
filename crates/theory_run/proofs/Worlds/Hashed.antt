-- The messages and the posted strings of a run are those of its events, in turn.
use Rattle.std.proofs.Common.{◌≡◌, ℕ, List, [], ◌∷◌, ◌++◌, refl, sym, ap, ◌∙◌, append_assoc, append-nil}
use Rattle.std.specs.List.{flat_map}
use Rattle.std.proofs.lemmas.List.Concat.{flat_map-cons}
use Rattle.spec_run.specs.Setup.{Setup}
use Rattle.spec_run.specs.World.{World}
use Rattle.spec_data.specs.Messages.{noted, noted_all}
use Rattle.spec_run.specs.Event.{Passed}
use Rattle.spec_run.specs.Translation.{world_after}
use Rattle.theory_run.proofs.Worlds.AllPassed.{AllPassed}

pub noted-append : (ms xs ys : List (List ℕ)) → noted_all ms (xs ++ ys) ≡ noted_all (noted_all ms xs) ys
noted-append ms [] ys = refl
noted-append ms (x ∷ xs) ys = noted-append (noted ms x) xs ys

pub hashed_after : (s : Setup) (ps : List Passed) (w : World) → AllPassed s w ps
    → (world_after w ps).hashed ≡ noted_all w.hashed (flat_map (λ p. p.pending.hashes) ps)
hashed_after s [] w h = refl
hashed_after s (p ∷ ps) w h =
    hashed_after s ps p.world h.1
    ∙ ap (λ (v : World). noted_all v.hashed (flat_map (λ p. p.pending.hashes) ps)) h.0.world
    ∙ sym (noted-append w.hashed p.pending.hashes (flat_map (λ p. p.pending.hashes) ps))
    ∙ ap (noted_all w.hashed) (sym (flat_map-cons (λ (q : Passed). q.pending.hashes) p ps))

pub posted_after : (s : Setup) (ps : List Passed) (w : World) → AllPassed s w ps
    → (world_after w ps).posted ≡ w.posted ++ flat_map (λ p. p.pending.posts) ps
posted_after s [] w h = sym (append-nil w.posted)
posted_after s (p ∷ ps) w h =
    posted_after s ps p.world h.1
    ∙ ap (λ (v : World). v.posted ++ flat_map (λ p. p.pending.posts) ps) h.0.world
    ∙ append_assoc w.posted p.pending.posts (flat_map (λ p. p.pending.posts) ps)
    ∙ ap (λ xs. w.posted ++ xs) (sym (flat_map-cons (λ (q : Passed). q.pending.posts) p ps))
