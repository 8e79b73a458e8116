-- What rounds come to: which rules are taken, and that those which are left rest.
use Rattle.std.proofs.Common.{◌≡◌, ℕ, zero, suc, ◌<◌, List, [], ◌∷◌, ◌++◌, length, Bool, true, false, Option, Some, None, Ok, Err, refl}
use Rattle.std.proofs.Common.{sym, ap, subst, append_assoc, arith}
use Rattle.std.specs.Prelude.{◌==◌, if◌then◌else◌, IsPermutation}
use Rattle.std.specs.List.{AllByRecursion}
use Rattle.std.proofs.lemmas.Bool.{eqb-true}
use Rattle.std.proofs.lemmas.Bool.Decides.{nat_tests}
use Rattle.std.proofs.lemmas.List.{length-append}
use Rattle.std.proofs.lemmas.List.Sorted.{IsPermutation-refl, IsPermutation-append_right, IsPermutation-trans, length_permutation}
use Rattle.spec_run.specs.declared.event.Event.{Event}
use Rattle.spec_run.specs.Setup.{Setup}
use Rattle.spec_run.specs.World.{World}
use Rattle.spec_tool.specs.declared.rule.Rule.{Rule}
use Rattle.spec_tool.specs.Turns.{rule_event, Progress, Progressed, tried_if, resting, round, after_events, rounds_on, rounds}
use Rattle.theory_world.specs.KeptApart.{NoCollision}
use Rattle.theory_auto.specs.Continued.{AreTaken, HaltsAt}
use Rattle.theory_run.proofs.Fewer.{Within}
use Rattle.theory_auto.proofs.HashlessRules.{rule_same}
use Rattle.theory_auto.proofs.Tries.{Rests, RestsIf, Moved, MovesBy, kept_moved, tried_moved}

-- ---- one round

nothing_moved : (s : Setup) (w : World) (hs : List (List ℕ)) → Within w.hashed hs → NoCollision s.hash hs
    → Moved s w hs [] (resting (record w { hashed = hs }))
nothing_moved s w hs within clear = record {
  taken = [];
  last = w;
  each_once = IsPermutation-refl [];
  by = refl;
  world = refl;
  within = within;
  clear = clear;
  grown = λ t i. i;
  rests = λ none. tt;
}

pub round_moves : (s : Setup) (rules : List Rule) (w : World) (hs : List (List ℕ)) → Within w.hashed hs → NoCollision s.hash hs
    → MovesBy s w hs rules (round s (record w { hashed = hs }) rules)
round_moves s [] w hs within clear = nothing_moved s w hs within clear
round_moves s (r ∷ rs) w hs within clear =
    subst (λ o. MovesBy s w hs (r ∷ rs) (tried_if s (record w { hashed = hs }) r o (λ next. round s next rs))) (sym (rule_same s w hs r))
    (by_event (rule_event s w r) refl (round_moves s rs))
  where
    by_event : (o : Option Event) → rule_event s w r ≡ o
        → ((v : World) (gs : List (List ℕ)) → Within v.hashed gs → NoCollision s.hash gs → MovesBy s v gs rs
        (round s (record v { hashed = gs }) rs))
        → MovesBy s w hs (r ∷ rs) (tried_if s (record w { hashed = hs }) r o (λ next. round s next rs))
    by_event None h later =
        kept_moved s w hs hs r rs (round s (record w { hashed = hs }) rs) (λ t i. i) (λ x k. subst (RestsIf s w x) (sym h) tt)
        (later w hs within clear)
    by_event (Some e) h later = tried_moved s w hs r rs e h within clear later

-- ---- rules that are taken

nothing_taken : (s : Setup) (w last : World) (rs : List Rule) (es : List Event) → length es ≡ 0 → AreTaken s w rs es last → w ≡ last
nothing_taken s w last [] [] h t = t
nothing_taken s w last (r ∷ rs) [] h t = absurd t
nothing_taken s w last rs (e ∷ es) h t = cc

pub as_many : (s : Setup) (rs : List Rule) (es : List Event) (w last : World) → AreTaken s w rs es last → length rs ≡ length es
as_many s [] [] w last t = refl
as_many s [] (e ∷ es) w last t = absurd t
as_many s (r ∷ rs) [] w last t = absurd t
as_many s (r ∷ rs) (e ∷ es) w last t = ap suc (as_many s rs es t.next last t.goes_on)

pub taken_append : (s : Setup) (rs : List Rule) (es : List Event) (w mid last : World) (rs' : List Rule) (es' : List Event)
    → AreTaken s w rs es mid → AreTaken s mid rs' es' last → AreTaken s w (rs ++ rs') (es ++ es') last
taken_append s [] [] w mid last rs' es' t u = subst (λ x. AreTaken s x rs' es' last) (sym t) u
taken_append s [] (e ∷ es) w mid last rs' es' t u = absurd t
taken_append s (r ∷ rs) [] w mid last rs' es' t u = absurd t
taken_append s (r ∷ rs) (e ∷ es) w mid last rs' es' t u = record {
  has = t.has;
  came_to = t.came_to;
  next = t.next;
  went = t.went;
  not_refused = t.not_refused;
  goes_on = taken_append s rs es t.next mid last rs' es' t.goes_on u;
}

-- ---- all rounds

-- the rules that are left rest in the last world
pub record Ended (s : Setup) (w : World) (rules : List Rule) (p : Progress) : Type 0 where
  pub taken : List Rule
  pub last : World
  pub each_once : IsPermutation (taken ++ p.left) rules
  pub by : AreTaken s w taken p.events last
  pub world : p.world ≡ record last { hashed = p.world.hashed }
  pub within : Within last.hashed p.world.hashed
  pub clear : NoCollision s.hash p.world.hashed
  pub rests : AllByRecursion (Rests s last p.world.hashed) p.left

abbrev pub EndsBy : Setup → World → List Rule → Progressed → Type 0
EndsBy s w rules (Ok p) = Ended s w rules p
EndsBy s w rules (Err halt) = HaltsAt s w rules halt

-- a round that takes no rule ends them
ends_here : (s : Setup) (w : World) (hs : List (List ℕ)) (rules : List Rule) (p : Progress) → Moved s w hs rules p → length p.events ≡ 0
    → Ended s w rules p
ends_here s w hs rules p m none = record {
  taken = m.taken;
  last = m.last;
  each_once = m.each_once;
  by = m.by;
  world = m.world;
  within = m.within;
  clear = m.clear;
  rests = subst (λ x. AllByRecursion (Rests s x p.world.hashed) p.left) (nothing_taken s w m.last m.taken p.events none m.by)
      (m.rests none);
}

-- each other leaves fewer rules
fewer_left : (s : Setup) (w : World) (hs : List (List ℕ)) (rules : List Rule) (p : Progress) (n : ℕ) → Moved s w hs rules p
    → (length p.events == 0) ≡ false → length rules < suc n → length p.left < n
fewer_left s w hs rules p n m some few =
    let all = length_permutation (m.taken ++ p.left) rules m.each_once in
    let parts = length-append m.taken p.left in
    let count = as_many s m.taken p.events w m.last m.by in
    let positive : 0 < length p.events = grind (arith, nat_tests, some) in
    omega (arith, all, parts, count, positive, few)

-- the rounds behind one that took rules
behind : (s : Setup) (w : World) (hs : List (List ℕ)) (rules : List Rule) (p : Progress) → (m : Moved s w hs rules p) (x : Progressed)
    → EndsBy s m.last p.left x → EndsBy s w rules (after_events p.events x)
behind s w hs rules p m (Err halt) h = record {
  rules_taken = m.taken ++ h.rules_taken;
  events = p.events ++ h.events;
  last = h.last;
  taken = taken_append s m.taken p.events w m.last h.last h.rules_taken h.events m.by h.taken;
  tried = h.tried;
  world = h.world;
  rule = h.rule;
  others = h.others;
  each_once =
      let back = IsPermutation-append_right m.taken (h.rules_taken ++ h.rule ∷ h.others) p.left h.each_once in
      subst (λ xs. IsPermutation xs rules) (sym (append_assoc m.taken h.rules_taken (h.rule ∷ h.others)))
      (IsPermutation-trans _ _ _ back m.each_once);
  halting = h.halting;
  has = h.has;
  halts = h.halts;
  there = h.there;
}
behind s w hs rules p m (Ok q) h = record {
  taken = m.taken ++ h.taken;
  last = h.last;
  each_once =
      let back = IsPermutation-append_right m.taken (h.taken ++ q.left) p.left h.each_once in
      subst (λ xs. IsPermutation xs rules) (sym (append_assoc m.taken h.taken q.left)) (IsPermutation-trans _ _ _ back m.each_once);
  by = taken_append s m.taken p.events w m.last h.last h.taken q.events m.by h.by;
  world = h.world;
  within = h.within;
  clear = h.clear;
  rests = h.rests;
}

pub rounds_end : (s : Setup) (n : ℕ) (rules : List Rule) (w : World) (hs : List (List ℕ)) → length rules < n → Within w.hashed hs
    → NoCollision s.hash hs → EndsBy s w rules (rounds n s (record w { hashed = hs }) rules)
unfolding rounds
rounds_end s zero rules w hs few within clear = absurd (omega (arith, few))
rounds_end s (suc n) rules w hs few within clear =
    by_round (round s (record w { hashed = hs }) rules) (round_moves s rules w hs within clear) (rounds_end s n)
  where
    by_round : (x : Progressed) → MovesBy s w hs rules x
        → ((left : List Rule) (v : World) (gs : List (List ℕ)) → length left < n → Within v.hashed gs → NoCollision s.hash gs
        → EndsBy s v left (rounds n s (record v { hashed = gs }) left))
        → EndsBy s w rules (rounds_on x (λ next left. rounds n s next left))
    by_round (Err halt) m later = m
    by_round (Ok p) m later = by_count (length p.events == 0) refl
      where
        by_count : (b : Bool) → (length p.events == 0) ≡ b
            → EndsBy s w rules (if b then Ok p else after_events p.events (rounds n s p.world p.left))
        by_count true h = ends_here s w hs rules p m (eqb-true (length p.events) 0 h)
        by_count false h =
            let next = later p.left m.last p.world.hashed (fewer_left s w hs rules p n m h few) m.within m.clear in
            behind s w hs rules p m (rounds n s p.world p.left)
            (subst (λ x. EndsBy s m.last p.left (rounds n s x p.left)) (sym m.world) next)
