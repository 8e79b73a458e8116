-- Live contract outputs stand at choices of compiled contracts, also after a halt.
use Rattle.std.proofs.Common.{◌≡◌, ℕ, List, Option, Some, None, refl, sym, ap, ◌∙◌, subst}
use Rattle.std.specs.Prelude.{option_map}
use Rattle.theory_nodes.specs.Found.{ChoicesAreFound}
use Rattle.spec_run.specs.declared.outcome.Record.{Record}
use Rattle.spec_run.specs.Setup.{Setup}
use Rattle.spec_run.specs.World.{ContractPosition, World, live_position_at}
use Rattle.spec_run.specs.Conditions.{IsSetup}
use Rattle.spec_run.specs.Translation.{last_world, last_configuration}
use Rattle.spec_run.specs.Statements.{simulated}
use Rattle.theory_run.proofs.Following.{run_posts, kept_at_end}
use Rattle.theory_run.specs.KeptRuns.{KeptRun}
use Rattle.theory_run.proofs.Simulated.{kept_run, keeps_simulated, opening_run}
use Rattle.bm_compile.specs.Numbered.{Numbered}
use Rattle.bm_match.specs.declared.found.Active.{Active}
use Rattle.bm_match.specs.Matches.{all_compiled, IsActive}
use Rattle.bm_world_spend.specs.Placed.{IsPlaced}
use Rattle.bm_world_spend.specs.Purposes.{active_in}
use Rattle.bm_world_spend.proofs.Kept.{placed_kept}
use Rattle.bm_world_spend.proofs.Standing.{active_there, placed_unsigned}
use Rattle.bm_world.specs.Reached.{events_of, IsReached}
use Rattle.bm_world.specs.Standing.{node_in, node_of, node_by}
use Rattle.bm_world.proofs.Reaching.{run_of, last_is}

-- every live contract output of a world that a run led to stands for a position of a compiled contract
pub placed_reached : (s : Setup) (w : World) (trace : List Record) → IsSetup s → IsReached s w trace → IsPlaced s w
placed_reached s w trace setup is =
    let es = events_of trace in
    let run = run_of s w trace setup is in
    let z = run_posts s es in
    let kept : KeptRun s z (last_configuration s es) (last_world s es) =
    (kept_at_end s (simulated s) (kept_run s z) es (keeps_simulated s es run) run.events (opening_run s es run z)).holds in
    let there : IsPlaced s (last_world s es) = placed_kept s (last_configuration s es) (last_world s es) kept.books in
    let here : IsPlaced s (record w { hashed = (last_world s es).hashed }) = subst (IsPlaced s) (sym (last_is s w trace is).same) there in
    placed_unsigned s (record w { hashed = (last_world s es).hashed }) w.book w.hashed here

-- ---- the node of an output

-- the node, and that there is one only where something is held
pub record IsNode (s : Setup) (held : Option ContractPosition) (node : Option (ℕ × ℕ)) : Type 0 where
  pub is : node ≡ node_in s held
  pub none : node ≡ None → held ≡ None

by_active : (s : Setup) (w : World) (held : ContractPosition) (number : ℕ) (active : Option Active) → IsActive s w (Some held) number active
    → IsNode s (Some held) (option_map node_of active)
by_active s w held number None h = absurd h
by_active s w held number (Some active) h = record {
  is = ap (λ k. Some (k, active.node)) h.contract ∙ sym (ap (option_map (λ node. (held.contract, node))) h.node);
  none = λ e. cc;
}

pub node_is : ChoicesAreFound → (s : Setup) (w : World) (compiled : List (Option Numbered)) (number : ℕ) → compiled ≡ all_compiled s w
    → IsPlaced s w
    → IsNode s (live_position_at w number) (node_by compiled number (live_position_at w number))
node_is theorem s w compiled number all placed = by_held (live_position_at w number) refl
  where
    by_held : (o : Option ContractPosition) → live_position_at w number ≡ o → IsNode s o (node_by compiled number o)
    by_held None e = record { is = refl; none = λ h. refl }
    by_held (Some held) e = by_active s w held number (active_in compiled number (Some held))
        (active_there s w compiled all held (placed.held number held e) theorem number)
