-- The rules of a strategy go on with a run.
use Rattle.std.proofs.Common.{◌≡◌, ℕ, ◌+◌, List, [], ◌∷◌, ◌++◌, length, Option, Some, None, refl, sym, ap, ◌∙◌, subst, arith}
use Rattle.std.specs.List.{AllByRecursion}
use Rattle.std.proofs.lemmas.List.{length-append}
use Rattle.std.proofs.lemmas.List.Sorted.{length_permutation}
use Rattle.spec_run.specs.declared.event.Event.{Event}
use Rattle.spec_data.specs.Messages.{collision}
use Rattle.spec_run.specs.Setup.{Setup}
use Rattle.spec_run.specs.World.{World}
use Rattle.spec_run.specs.Pending.{Went, guess, apply, applied, answer}
use Rattle.spec_run.specs.Event.{pending, event}
use Rattle.spec_run.specs.Translation.{last_world, first_halt}
use Rattle.spec_run.specs.Statements.{IsRun}
use Rattle.spec_tool.specs.declared.rule.Rule.{Rule}
use Rattle.spec_tool.specs.Turns.{rule_event, Progress, extended}
use Rattle.theory_world.specs.KeptApart.{NoCollision}
use Rattle.theory_run.proofs.Worlds.WorldsOfRuns.{worlds_of_runs}
use Rattle.theory_auto.specs.Continued.{AreTaken, IsRefusal, IsRefusedIf, IsIdle, HashedMore, GoesOnBy, StrategiesGoOn}
use Rattle.theory_run.proofs.Fewer.{Within, collision_within, again_calm}
use Rattle.theory_run.proofs.Events.Hashless.{carried, pending_same}
use Rattle.theory_auto.proofs.HashlessRules.{rule_same}
use Rattle.theory_auto.proofs.Tries.{Rests, RestsBy, RestsIf}
use Rattle.theory_auto.proofs.Rounds.{as_many, Ended, EndsBy, rounds_end}
use Rattle.theory_auto.proofs.Longer.{longer}

-- ---- rules that rest are idle

module _ (s : Setup) (w : World) (hs : List (List ℕ)) (clear : NoCollision s.hash hs) (r : Rule) where
  -- in a world with all or with fewer of these messages
  idle_by : (xs : List (List ℕ)) → Within xs hs → (e : Event) → rule_event s w r ≡ Some e → RestsBy s w hs e
      → IsRefusal (event s (record w { hashed = xs }) e)
  idle_by xs within e has rests =
      let d = pending s w e in
      let calm : collision s.hash xs d.hashes ≡ None =
      collision_within s.hash xs hs d.hashes within (again_calm s.hash hs d.hashes clear rests.heard) in
      let there = record w { hashed = xs } in
      let is : event s there e ≡ Went (carried xs d) (applied there (carried xs d)) =
      ap (answer s there) (pending_same s w xs e)
      ∙ (ap (λ c. apply there (carried xs d) c (guess s w.posted d.posts d.allowed)) calm
      ∙ ap (apply there (carried xs d) None) rests.unguessed) in
      subst IsRefusal (sym is) rests.refused

  idle_if : (xs : List (List ℕ)) → Within xs hs → (o : Option Event) → rule_event s w r ≡ o → RestsIf s w hs o
      → IsRefusedIf s (record w { hashed = xs }) o
  idle_if xs within None has rests = tt
  idle_if xs within (Some e) has rests = idle_by xs within e has rests

  idle : (xs : List (List ℕ)) → Within xs hs → Rests s w hs r → IsIdle s (record w { hashed = xs }) r
  idle xs within rests =
      subst (IsRefusedIf s (record w { hashed = xs })) (sym (rule_same s w xs r)) (idle_if xs within (rule_event s w r) refl rests)

all_idle : (s : Setup) (w : World) (hs xs : List (List ℕ)) → NoCollision s.hash hs → Within xs hs → (rs : List Rule)
    → AllByRecursion (Rests s w hs) rs → AllByRecursion (IsIdle s (record w { hashed = xs })) rs
all_idle s w hs xs clear within [] h = tt
all_idle s w hs xs clear within (r ∷ rs) h = (idle s w hs clear r xs within h.0, all_idle s w hs xs clear within rs h.1)

-- ---- the strategy

-- no two messages of a run's world collision
clear_after : (s : Setup) (es : List Event) → IsRun s es → NoCollision s.hash (last_world s es).hashed
clear_after s es run = record { one = (worlds_of_runs s es run).messages.different }

ends : (s : Setup) (es : List Event) (rules : List Rule) → IsRun s es
    → EndsBy s (last_world s es) rules (extended s (last_world s es) rules)
ends s es rules run =
    let w = last_world s es in
    rounds_end s (length rules + 1) rules w w.hashed (omega arith) (λ t i. i) (clear_after s es run)

goes_on : (s : Setup) (es : List Event) (rules : List Rule) (p : Progress) → first_halt s es ≡ None → Ended s (last_world s es) rules p
    → GoesOnBy s es rules p
goes_on s es rules p on h =
    let l = longer s es p.events h.taken h.last on h.by in
    let more : HashedMore h.last p.world = record { same = h.world; more = h.within } in
    let here = all_idle s h.last p.world.hashed p.world.hashed h.clear (λ t i. i) p.left h.rests in
    let there = all_idle s h.last p.world.hashed h.last.hashed h.clear h.within p.left h.rests in
    record {
      rules_taken = h.taken;
      each_once = h.each_once;
      count = omega (
        arith,
        length_permutation (h.taken ++ p.left) rules h.each_once,
        length-append h.taken p.left,
        as_many s h.taken p.events (last_world s es) h.last h.by,
      );
      taken = subst (λ x. AreTaken s (last_world s es) h.taken p.events x) (sym l.world) h.by;
      whole = l.whole;
      grown = l.grown;
      world = subst (λ x. HashedMore x p.world) (sym l.world) more;
      idle = subst (λ x. AllByRecursion (IsIdle s x) p.left) (sym h.world) here;
      idle_in_run = subst (λ x. AllByRecursion (IsIdle s x) p.left) (sym l.world) there;
    }

pub strategies_go : StrategiesGoOn
strategies_go = record {
  goes_on = λ s es rules p run on e.
      goes_on s es rules p on (subst (EndsBy s (last_world s es) rules) e (ends s es rules run));
  halts = λ s es rules halt run on e. subst (EndsBy s (last_world s es) rules) e (ends s es rules run);
}
