use Rattle.std.proofs.Common.{◌≡◌, ◌++◌, ◌∷◌, [], List, ℕ, drop}
use Rattle.std.specs.List.{list_all, list_any}
use Rattle.spec_run.specs.World.{is_promise_of}
use Rattle.bm_world_commit.specs.Committed.{promise_in}
use Rattle.bm_world_commit.proofs.compiling.have_promised.Given as goal

abbrev pub invariant-loop-party : goal.invariant-loop-party
invariant-loop-party l =
    list_all (λ (party : List ℕ). list_any (is_promise_of l.promising.contract party) (l.exchange.promises ++ promise_in l.promising ∷ []))
    (drop l.party-index l.parties)
    ≡ list_all (λ (party : List ℕ). list_any (is_promise_of l.promising.contract party) (l.exchange.promises ++ promise_in l.promising ∷ [])) l.parties
