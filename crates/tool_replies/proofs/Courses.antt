-- A run that was played from its opening on is its course.
use Rattle.std.proofs.Common.{◌≡◌, ℕ, List, [], ◌∷◌, map, Option, None, refl, sym, ap, subst, ◌∙◌}
use Rattle.spec_calculus.specs.Configuration.{Configuration}
use Rattle.spec_calculus.specs.Steps.{after_steps}
use Rattle.spec_run.specs.declared.event.Event.{Event}
use Rattle.spec_run.specs.declared.header.Header.{Header}
use Rattle.spec_run.specs.declared.outcome.Record.{Record}
use Rattle.spec_terms.specs.Advert.{Advert}
use Rattle.std.specs.List.{AllByRecursion}
use Rattle.spec_run.specs.Conditions.{IsSetup, IsEvent}
use Rattle.spec_run.specs.Setup.{Setup}
use Rattle.spec_run.specs.World.{World}
use Rattle.spec_run.specs.Event.{Passed, opening_world, played}
use Rattle.spec_run.specs.Steps.{steps_of}
use Rattle.spec_run.specs.Translation.{Turn, turns_from, world_after, last_or, record_in, trace, last_world, opening_configuration}
use Rattle.bm_world_opening.specs.Opening.{setup_with}
use Rattle.bm_world.specs.Playing as world
use Rattle.bm_world.specs.Playing.{setup_in}
use Rattle.bm_world.specs.Starting.{Opens, Unopened}
use Rattle.bm_world.specs.declared.halt.Halt.TheVariants.{Memory}
use Rattle.bm_world.specs.declared.halt.Halt.{Halt}
use Rattle.tool_replies.specs.Going.{record_passed, Plays}
use Rattle.tool_replies.specs.Whole.{IsLeft}
use Rattle.tool_replies.proofs.OneByOne.{setup_same}

-- each turn is recorded as its event was
records_of : (s : Setup) (strings : List (List ℕ)) (g : Configuration) (w : World) (ps : List Passed)
    → map record_in (turns_from s strings g w ps) ≡ map record_passed ps
records_of s strings g w [] = refl
records_of s strings g w (p ∷ ps) =
    ap (λ (rs : List Record). record_passed p ∷ rs) (records_of s strings (after_steps g (steps_of s strings g w p.world p.event p.pending)) p.world ps)

-- and the last leaves the last world
last_left : (s : Setup) (strings : List (List ℕ)) (g : Configuration) (w : World) (ps : List Passed)
    → last_or w (map (λ (t : Turn). t.world) (turns_from s strings g w ps)) ≡ world_after w ps
last_left s strings g w [] = refl
last_left s strings g w (p ∷ ps) = last_left s strings (after_steps g (steps_of s strings g w p.world p.event p.pending)) p.world ps

pub trace_is : (s : Setup) (es : List Event) → trace s es ≡ map record_passed (played s es).passed
trace_is s es = records_of s (world_after (opening_world s) (played s es).passed).posted (opening_configuration s) (opening_world s) (played s es).passed

last_is : (s : Setup) (es : List Event) → last_world s es ≡ world_after (opening_world s) (played s es).passed
last_is s es = last_left s (world_after (opening_world s) (played s es).passed).posted (opening_configuration s) (opening_world s) (played s es).passed

module _ {H : Type 0} (digest : H → List ℕ → List ℕ) (hash : H) (header : Header) (contracts : List Advert) (old new : world.Played H) (es : List Event) (stop : Option (ℕ × Halt)) where
  pub left_is : IsSetup (setup_with (digest hash) header contracts) → AllByRecursion (IsEvent (setup_with (digest hash) header contracts)) es
      → Opens digest hash header contracts old → Plays digest old new es stop → IsLeft digest (setup_with (digest hash) header contracts) es new stop
  left_is setup events o h =
      let s : Setup = setup_with (digest hash) header contracts in
      let p : Plays digest (record { hasher = hash; header = header; contracts = contracts; world = opening_world s; trace = []; halt = None }) new es stop =
      subst (λ w. Plays digest w new es stop) o.is h in
      record {
        setup =
            setup_same digest (record { hasher = hash; header = header; contracts = contracts; world = opening_world s; trace = []; halt = None }) new p.setup;
        run = record { setup = setup; opens = o.apart; events = events };
        going = p.going;
        stops = p.stops;
        trace = p.trace ∙ sym (trace_is s es);
        world = p.left ∙ ap (λ (w : World). record w { hashed = new.world.hashed }) (sym (last_is s es));
        whole = λ e. p.whole e ∙ sym (last_is s es);
      }

-- memory was short
pub short_opening : (s : Setup) → Unopened s Memory
short_opening s = record { collided = λ earlier later x. cc; unguessed = λ party secret x. cc }
