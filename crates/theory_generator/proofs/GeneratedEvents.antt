-- The events of the generated run: each is read from its line, and there are few enough.
use Rattle.std.proofs.Common.{◌≡◌, ℕ, zero, suc, ◌+◌, ◌-◌, ◌*◌, ◌<◌, ◌≤◌, ◌^◌, List, [], ◌∷◌, ◌++◌, length, refl, arith}
use Rattle.std.specs.List.{AllByRecursion}
use Rattle.std.proofs.lemmas.List.{length-append}
use Rattle.std.proofs.lemmas.Nat.{mod_below}
use Rattle.spec_run.specs.declared.event.Event.{Event}
use Rattle.spec_run.specs.declared.event.Event.TheVariants as events
use Rattle.spec_text.specs.Generator.{before, stage_events, all_stages, first_events, begun, generated_events}
use Rattle.spec_text.specs.Generator.{draw_below, next_state, drawn, party_a, secret_name, Going, gift_from, gifts, taken}
use Rattle.theory_generator.proofs.SpelledEvents.{AllSpelled, reveal_spelled, fire_spelled, give_spelled, first_spelled}

all_append : {X : Type 0} (P : X → Type 0) (xs ys : List X) → AllByRecursion P xs → AllByRecursion P ys → AllByRecursion P (xs ++ ys)
all_append P [] ys h k = k
all_append P (x ∷ xs) ys h k = (h.0, all_append P xs ys h.1 k)

spelled_append : (ds es : List Event) → AllSpelled ds → AllSpelled es → AllSpelled (ds ++ es)
spelled_append ds es h k = all_append _ ds es h k

-- ---- what the events go on from

-- an output of B, with its value
record IsSmall (o : ℕ × ℕ) : Type 0 where
  number : o.0 < 2 ^ 32
  value : o.1 ≤ 1000000000

-- all numbers and values can be written, and some output is there to give
record Fits (g : Going) : Type 0 where
  contract : g.contract < 2 ^ 32
  queue : AllByRecursion IsSmall g.queue
  some : 1 ≤ length g.queue

-- so many events, and so many outputs more
record Plays (count outputs : ℕ) (g : Going) (p : List Event × Going) : Type 0 where
  spelled : AllSpelled p.0
  many : length p.0 ≡ count
  fits : Fits p.1
  next : p.1.next ≡ g.next + outputs

-- ---- gifts

drawn_below : (bound state : ℕ) → (draw_below (bound + 1) state).0 ≤ bound
drawn_below bound state = let less = mod_below (drawn (next_state state)) (bound + 1) (omega arith) in omega (arith, less)

one_gift : (q : List (ℕ × ℕ)) (g : Going) → AllByRecursion IsSmall q → 1 ≤ length q → Fits g → g.next + 2 ≤ 2 ^ 32
    → Plays 1 2 g (gift_from q g)
one_gift [] g small some fits room = absurd (omega arith)
one_gift (o ∷ rest) g small some fits room =
    let d = (draw_below (o.1 + 1) g.state).0 in
    let less : d ≤ o.1 = drawn_below o.1 g.state in
    let value : o.1 ≤ 1000000000 = small.0.value in
    let first : IsSmall (g.next, d) = record { number = omega (arith, room); value = omega (arith, less, value) } in
    let second : IsSmall (g.next + 1, o.1 - d) = record { number = omega (arith, room); value = omega (arith, value) } in
    let new : List (ℕ × ℕ) = (g.next, d) ∷ (g.next + 1, o.1 - d) ∷ [] in
    record {
      spelled = (give_spelled o.0 d (o.1 - d) small.0.number (omega (arith, less, value)) (omega (arith, value)), tt);
      many = refl;
      fits = record {
        contract = fits.contract;
        queue = all_append IsSmall rest new small.1 (first, (second, tt));
        some = omega (arith, length-append rest new);
      };
      next = refl;
    }

plays_gifts : (n : ℕ) (g : Going) → Fits g → g.next + 2 * n ≤ 2 ^ 32 → Plays n (2 * n) g (gifts n g)
plays_gifts zero g fits room = record { spelled = tt; many = refl; fits = fits; next = omega arith }
plays_gifts (suc n) g fits room =
    let p = gift_from g.queue g in
    let a = one_gift g.queue g fits.queue fits.some fits (omega (arith, room)) in
    let b = plays_gifts n (p.1) a.fits (omega (arith, a.next, room)) in
    record {
      spelled = spelled_append (p.0) ((gifts n (p.1)).0) a.spelled b.spelled;
      many = omega (arith, length-append (p.0) ((gifts n (p.1)).0), a.many, b.many);
      fits = b.fits;
      next = omega (arith, a.next, b.next);
    }

-- ---- stages

taken_fits : (g : Going) → Fits g → g.next < 2 ^ 32 → Fits (taken g)
taken_fits g fits room = record { contract = room; queue = fits.queue; some = fits.some }

-- what comes before a stage's gifts
abbrev stage_prefix : ℕ → Going → List Event
stage_prefix j g = events.Reveal 0 party_a (secret_name j) ∷ events.Fire g.contract 0 ∷ []

-- a stage with so many gifts
plays_prefix : (n j : ℕ) (g : Going) → j < 1000 → Fits g → Plays n (2 * n) (taken g) (gifts n (taken g))
    → Plays (n + 2) (2 * n + 1) g (before (stage_prefix j g) (gifts n (taken g)))
plays_prefix n j g small fits p = record {
  spelled = (reveal_spelled j small, (fire_spelled g.contract fits.contract, p.spelled));
  many = omega (arith, p.many);
  fits = p.fits;
  next = omega (arith, p.next);
}

plays_stage : (j : ℕ) (g : Going) → j < 1000 → Fits g → g.next + 601 ≤ 2 ^ 32 → Plays 302 601 g (stage_events j g)
plays_stage j g small fits room =
    plays_prefix 300 j g small fits (plays_gifts 300 (taken g) (taken_fits g fits (omega (arith, room))) (omega (arith, room)))

-- so many events, each of which is read from its line
pub record AreSpelled (count : ℕ) (es : List Event) : Type 0 where
  pub spelled : AllSpelled es
  pub many : length es ≡ count

plays_stages : (n j : ℕ) (g : Going) → j + n ≤ 1000 → Fits g → g.next + 601 * n ≤ 2 ^ 32 → AreSpelled (302 * n + 1) (all_stages n j g)
plays_stages zero j g small fits room = record { spelled = (fire_spelled g.contract fits.contract, tt); many = refl }
plays_stages (suc n) j g small fits room =
    let p = stage_events j g in
    let a = plays_stage j g (omega (arith, small)) fits (omega (arith, room)) in
    let b = plays_stages n (j + 1) (p.1) (omega (arith, small)) a.fits (omega (arith, a.next, room)) in
    record {
      spelled = spelled_append (p.0) (all_stages n (j + 1) (p.1)) a.spelled b.spelled;
      many = omega (arith, length-append (p.0) (all_stages n (j + 1) (p.1)), a.many, b.many);
    }

-- ---- all of them

begun_fits : (state : ℕ) → Fits (begun state)
begun_fits state = record {
  contract = omega arith;
  queue = (record { number = omega arith; value = omega arith }, tt);
  some = omega arith;
}

pub events_spelled : (size state : ℕ) → size ≤ 30 → AreSpelled (302 * size + 9) (generated_events size state)
events_spelled size state h =
    let p = plays_stages size 1 (begun state) (omega (arith, h)) (begun_fits state) (omega (arith, h)) in
    record {
      spelled = spelled_append first_events (all_stages size 1 (begun state)) first_spelled p.spelled;
      many = omega (arith, length-append first_events (all_stages size 1 (begun state)), p.many);
    }
