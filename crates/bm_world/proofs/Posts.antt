-- What a run has posted was hashed.
use Rattle.std.proofs.Common.{◌≡◌, List, true, ap, subst}
use Rattle.spec_data.specs.Lists.{is_among}
use Rattle.spec_run.specs.declared.outcome.Record.{Record}
use Rattle.spec_run.specs.Setup.{Setup}
use Rattle.spec_run.specs.World.{World}
use Rattle.spec_run.specs.Conditions.{IsSetup}
use Rattle.spec_run.specs.Translation.{last_world}
use Rattle.theory_calculus.proofs.Names.{all_among}
use Rattle.theory_run.proofs.Worlds.WorldsOfRuns.{world_of_run}
use Rattle.bm_world_board.specs.Playable.{ArePostsHashed}
use Rattle.bm_world.specs.Reached.{events_of, IsLeft, IsReached}
use Rattle.bm_world.proofs.Reaching.{run_of, last_is}

pub posts_reached : (s : Setup) (w : World) (trace : List Record) → IsSetup s → IsReached s w trace → ArePostsHashed w
posts_reached s w trace setup is =
    let last = last_world s (events_of trace) in
    let left : IsLeft last w = last_is s w trace is in
    let known = (world_of_run s (events_of trace) (run_of s w trace setup is)).messages.heard in
    let same : w.posted ≡ last.posted = ap (λ (x : World). x.posted) left.same in
    record {
      hashed = λ t i. left.heard t (all_among (λ u. is_among u last.hashed) last.posted t known (subst (λ l. is_among t l ≡ true) same i));
    }
