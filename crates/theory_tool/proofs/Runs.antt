-- Runs end with a collision or a guess exactly where one is there.
use Rattle.std.proofs.Common.{◌≡◌, ℕ, ◌↔◌, List, [], ◌∷◌, ◌++◌, Bool, true, false, Option, Some, None, refl, sym, ap, subst, ◌∙◌}
use Rattle.std.proofs.Common.{inl, inr, arith}
use Rattle.std.specs.Prelude.{◌||◌}
use Rattle.std.proofs.Common.{append_assoc}
use Rattle.spec_data.specs.Lists.{is_among, has_number}
use Rattle.spec_data.specs.Messages.{collision}
use Rattle.spec_calculus.specs.Configuration.{Configuration}
use Rattle.spec_run.specs.declared.event.Event.{Event}
use Rattle.spec_run.specs.declared.header.HeldSecret.{HeldSecret}
use Rattle.spec_run.specs.Setup.{Setup}
use Rattle.spec_run.specs.World.{World}
use Rattle.spec_run.specs.Pending.{Halt, Collided, Guessed, guess, applied, apply}
use Rattle.spec_run.specs.Event.{pending, goes_on, opening_strings, opening_world, opening_collision, played_from, played}
use Rattle.spec_run.specs.Halting.{AreApart, Collides, GivesAway, GivesNoneAway, NothingHalts}
use Rattle.spec_run.proofs.Courses.{last_left}
use Rattle.spec_run.specs.Translation.{opening_configuration, world_after, last_world, last_configuration, first_halt}
use Rattle.spec_text.specs.Played.{ending_from, ending}
use Rattle.spec_tool.specs.Commands.{ending_status}
use Rattle.theory_calculus.proofs.Names.{among-append}
use Rattle.theory_world.specs.KeptApart.{NoCollision}
use Rattle.theory_world.proofs.Hashed.{no_collision_none, no_collision, among_head}
use Rattle.theory_run.proofs.Halting.Halts.{calm_is, collides, none_away, guesses}
use Rattle.theory_tool.specs.Runs.{CollidesAt, GuessesAt, left_by, HaltsBy, NoneHalts, OpensCalmly, OpeningCollides, IsGuessing}
use Rattle.theory_tool.specs.Runs.{IsColliding, IsUnhalted, RunsHaltByCauses}

-- ---- what excludes what

among_left : (t : List ℕ) (xs ys : List (List ℕ)) → is_among t xs ≡ true → is_among t (xs ++ ys) ≡ true
among_left t xs ys h = among-append t xs ys ∙ ap (λ b. b || is_among t ys) h

among_right : (t : List ℕ) (xs ys : List (List ℕ)) → is_among t ys ≡ true → is_among t (xs ++ ys) ≡ true
among_right t xs ys h = among-append t xs ys ∙ or_true (is_among t xs) (is_among t ys) h
  where
    or_true : (a b : Bool) → b ≡ true → (a || b) ≡ true
    or_true true b k = refl
    or_true false b k = k

-- strings that are apart don't collide
pub apart_or_collides : (hash : List ℕ → List ℕ) (before hashes : List (List ℕ)) (earlier later : List ℕ) → AreApart hash (before ++ hashes)
    → Collides hash before hashes earlier later → ⊥
apart_or_collides hash before hashes earlier later apart c =
    let e : is_among earlier (before ++ (c.sooner ++ later ∷ c.afterwards)) ≡ true =
    ap (is_among earlier) (sym (append_assoc before c.sooner (later ∷ c.afterwards)))
    ∙ among_left earlier (before ++ c.sooner) (later ∷ c.afterwards) c.earlier_first in
    let l : is_among later (before ++ (c.sooner ++ later ∷ c.afterwards)) ≡ true =
    among_right later before (c.sooner ++ later ∷ c.afterwards)
    (among_right later c.sooner (later ∷ c.afterwards) (among_left later (later ∷ []) c.afterwards (one later))) in
    let here : (t : List ℕ) → is_among t (before ++ (c.sooner ++ later ∷ c.afterwards)) ≡ true → is_among t (before ++ hashes) ≡ true =
    λ t k. subst (λ xs. is_among t (before ++ xs) ≡ true) (sym c.in_order) k in
    c.different (apart.apart earlier later (here earlier e) (here later l) c.same_digest)
  where
    one : (t : List ℕ) → is_among t (t ∷ []) ≡ true
    one t = among_head t []

-- ---- a secret that is given away is among all
given_among : (s : Setup) (w : World) (e : Event) (sooner : List HeldSecret) (x : HeldSecret) (afterwards : List HeldSecret)
    → GivesNoneAway s w e (sooner ++ x ∷ afterwards) → GivesAway s w e x → ⊥
given_among s w e [] x afterwards none away = none.0 away
given_among s w e (y ∷ ys) x afterwards none away = given_among s w e ys x afterwards none.1 away

on_not_collides : (s : Setup) (w : World) (e : Event) → NothingHalts s w e → CollidesAt s w e → ⊥
on_not_collides s w e on c = apart_or_collides s.hash w.hashed (pending s w e).hashes c.0 c.1 on.calm c.2

on_not_guesses : (s : Setup) (w : World) (e : Event) → NothingHalts s w e → GuessesAt s w e → ⊥
on_not_guesses s w e on g =
    let q = g.2.1 in
    given_among s w e q.sooner q.secret q.afterwards (subst (GivesNoneAway s w e) q.in_order on.unguessed) q.given

guesses_not_collides : (s : Setup) (w : World) (e : Event) → GuessesAt s w e → CollidesAt s w e → ⊥
guesses_not_collides s w e g c = apart_or_collides s.hash w.hashed (pending s w e).hashes c.0 c.1 g.2.0 c.2

-- where nothing halts no event is halted
none_or_halts : (cause : Setup → World → Event → Type 0) → ((s : Setup) (w : World) (e : Event) → NothingHalts s w e → cause s w e → ⊥)
    → (s : Setup) (w : World) (es : List Event) → NoneHalts s w es → HaltsBy cause s w es → ⊥
none_or_halts cause other s w [] none h = absurd h
none_or_halts cause other s w (e ∷ es) none (inl h) = other s w e none.0 h
none_or_halts cause other s w (e ∷ es) none (inr h) = none_or_halts cause other s (left_by s w e) es none.1 h.1

-- what halts first is a guess or a collision
guess_or_collision : (s : Setup) (w : World) (es : List Event) → HaltsBy GuessesAt s w es → HaltsBy CollidesAt s w es → ⊥
guess_or_collision s w [] g c = absurd g
guess_or_collision s w (e ∷ es) (inl g) (inl c) = guesses_not_collides s w e g c
guess_or_collision s w (e ∷ es) (inl g) (inr c) = on_not_guesses s w e c.0 g
guess_or_collision s w (e ∷ es) (inr g) (inl c) = on_not_collides s w e g.0 c
guess_or_collision s w (e ∷ es) (inr g) (inr c) = guess_or_collision s (left_by s w e) es g.1 c.1

-- ---- what comes of the events

-- what the halt of these events shows
abbrev Shows : Setup → World → List Event → Option (Event × Halt) → Type 0
Shows s w es None = NoneHalts s w es
Shows s w es (Some (e, Collided earlier later)) = HaltsBy CollidesAt s w es
Shows s w es (Some (e, Guessed party name)) = HaltsBy GuessesAt s w es

shows_later : (s : Setup) (w : World) (e : Event) (es : List Event) (h : Option (Event × Halt)) → NothingHalts s w e
    → Shows s (left_by s w e) es h → Shows s w (e ∷ es) h
shows_later s w e es None on k = (on, k)
shows_later s w e es (Some (x, Collided earlier later)) on k = inr (on, k)
shows_later s w e es (Some (x, Guessed party name)) on k = inr (on, k)

shown : (s : Setup) (es : List Event) (w : World) → NoCollision s.hash w.hashed → Shows s w es (played_from s w es).halt
shown s [] w fresh = tt
shown s (e ∷ es) w fresh =
    let d = pending s w e in
    by_answer (collision s.hash w.hashed d.hashes) (guess s w.posted d.posts d.allowed) refl refl (shown s es)
  where
    by_answer : (c : Option (List ℕ × List ℕ)) (u : Option HeldSecret) → collision s.hash w.hashed (pending s w e).hashes ≡ c
        → guess s w.posted (pending s w e).posts (pending s w e).allowed ≡ u
        → ((next : World) → NoCollision s.hash next.hashed → Shows s next es (played_from s next es).halt)
        → Shows s w (e ∷ es) (goes_on e (apply w (pending s w e) c u) (λ next. played_from s next es)).halt
    by_answer (Some pair) u ec eu ih = inl (pair.0, pair.1, collides s.hash w.hashed (pending s w e).hashes pair.0 pair.1 fresh ec)
    by_answer None (Some held) ec eu ih = inl (
      held.party,
      held.name,
      (calm_is s.hash w.hashed (pending s w e).hashes fresh ec, guesses s w e s.header.secrets held eu),
    )
    by_answer None None ec eu ih =
        let next = applied w (pending s w e) in
        shows_later s w e es (played_from s next es).halt
        (record { calm = calm_is s.hash w.hashed (pending s w e).hashes fresh ec; unguessed = none_away s w e s.header.secrets eu })
        (ih next (no_collision s.hash w.hashed (pending s w e).hashes fresh ec))

-- ---- one of three statuses

-- a status of a run by its cause
pub data Outcome (A B C : Type 0) (n : ℕ) : Type 0 where
  is_whole : n ≡ 0 → A → Outcome A B C n
  is_guess : n ≡ 7 → B → Outcome A B C n
  is_collision : n ≡ 8 → C → Outcome A B C n

-- causes that exclude one another
pub record Different (A B C : Type 0) : Type 0 where
  pub whole_guess : A → B → ⊥
  pub whole_collision : A → C → ⊥
  pub guess_collision : B → C → ⊥

-- the status is each exactly by its cause, and no other
pub record Exactly (A B C : Type 0) (n : ℕ) : Type 0 where
  pub whole : (n ≡ 0) ↔ A
  pub guess : (n ≡ 7) ↔ B
  pub collision : (n ≡ 8) ↔ C
  pub few : has_number n (0 ∷ (7 ∷ (8 ∷ []))) ≡ true

pub exactly : (A B C : Type 0) (n : ℕ) → Different A B C → Outcome A B C n → Exactly A B C n
exactly A B C n d (is_whole h a) = record {
  whole = (λ e. a, λ e. h);
  guess = (λ e. absurd (omega (arith, e, h)), λ b. absurd (d.whole_guess a b));
  collision = (λ e. absurd (omega (arith, e, h)), λ c. absurd (d.whole_collision a c));
  few = ap (λ (k : ℕ). has_number k (0 ∷ (7 ∷ (8 ∷ [])))) h;
}
exactly A B C n d (is_guess h b) = record {
  whole = (λ e. absurd (omega (arith, e, h)), λ a. absurd (d.whole_guess a b));
  guess = (λ e. b, λ e. h);
  collision = (λ e. absurd (omega (arith, e, h)), λ c. absurd (d.guess_collision b c));
  few = ap (λ (k : ℕ). has_number k (0 ∷ (7 ∷ (8 ∷ [])))) h;
}
exactly A B C n d (is_collision h c) = record {
  whole = (λ e. absurd (omega (arith, e, h)), λ a. absurd (d.whole_collision a c));
  guess = (λ e. absurd (omega (arith, e, h)), λ b. absurd (d.guess_collision b c));
  collision = (λ e. c, λ e. h);
  few = ap (λ (k : ℕ). has_number k (0 ∷ (7 ∷ (8 ∷ [])))) h;
}

-- ---- how a run ends

-- of a status, what it shows of a run
abbrev Ends : Setup → List Event → ℕ → Type 0
Ends s es n = Outcome (IsUnhalted s es) (IsGuessing s es) (IsColliding s es) n

opened : (s : Setup) → opening_collision s ≡ None → OpensCalmly s
opened s h = calm_is s.hash [] (opening_strings s) (no_collision_none s.hash) h

pub opening_clear : (s : Setup) → opening_collision s ≡ None → NoCollision s.hash (opening_world s).hashed
opening_clear s h = no_collision s.hash [] (opening_strings s) (no_collision_none s.hash) h

ends : (s : Setup) (es : List Event) → Ends s es (ending_status (ending s es))
ends s es = by_opening (opening_collision s) refl
  where
    w : World
    w = last_world s es

    g : Configuration
    g = last_configuration s es

    by_halt : (h : Option (Event × Halt)) → OpensCalmly s → Shows s (opening_world s) es h
        → Ends s es (ending_status (ending_from w g None h))
    by_halt None calm k = is_whole refl (calm, k)
    by_halt (Some (e, Collided earlier later)) calm k = is_collision refl (inr (calm, k))
    by_halt (Some (e, Guessed party name)) calm k = is_guess refl (calm, k)

    by_opening : (o : Option (List ℕ × List ℕ)) → opening_collision s ≡ o → Ends s es (ending_status (ending_from w g o (first_halt s es)))
    by_opening (Some pair) h =
        is_collision refl (inl (pair.0, pair.1, collides s.hash [] (opening_strings s) pair.0 pair.1 (no_collision_none s.hash) h))
    by_opening None h = by_halt (first_halt s es) (opened s h) (shown s es (opening_world s) (opening_clear s h))

-- ---- the causes are different

opening_or : (s : Setup) → OpensCalmly s → OpeningCollides s → ⊥
opening_or s calm c = apart_or_collides s.hash [] (opening_strings s) c.0 c.1 calm c.2

unhalted_guessing : (s : Setup) (es : List Event) → IsUnhalted s es → IsGuessing s es → ⊥
unhalted_guessing s es u g = none_or_halts GuessesAt on_not_guesses s (opening_world s) es u.1 g.1

unhalted_colliding : (s : Setup) (es : List Event) → IsUnhalted s es → IsColliding s es → ⊥
unhalted_colliding s es u (inl c) = opening_or s u.0 c
unhalted_colliding s es u (inr c) = none_or_halts CollidesAt on_not_collides s (opening_world s) es u.1 c.1

guessing_colliding : (s : Setup) (es : List Event) → IsGuessing s es → IsColliding s es → ⊥
guessing_colliding s es g (inl c) = opening_or s g.0 c
guessing_colliding s es g (inr c) = guess_or_collision s (opening_world s) es g.1 c.1

-- ---- the theorem

pub run_exactly : (s : Setup) (es : List Event)
    → Exactly (IsUnhalted s es) (IsGuessing s es) (IsColliding s es) (ending_status (ending s es))
run_exactly s es =
    exactly (IsUnhalted s es) (IsGuessing s es) (IsColliding s es) (ending_status (ending s es))
    (record {
      whole_guess = unhalted_guessing s es;
      whole_collision = unhalted_colliding s es;
      guess_collision = guessing_colliding s es;
    })
    (ends s es)

pub runs_halt : RunsHaltByCauses
runs_halt = record {
  whole = λ s es. (run_exactly s es).whole;
  guessed = λ s es. (run_exactly s es).guess;
  collided = λ s es. (run_exactly s es).collision;
}

-- ---- the last world

-- the opening of a run that isn't halted doesn't collide
pub opens_calmly : (s : Setup) (es : List Event) → ending_status (ending s es) ≡ 0 → opening_collision s ≡ None
opens_calmly s es h = by_opening (opening_collision s) h
  where
    by_opening : (o : Option (List ℕ × List ℕ))
        → ending_status (ending_from (last_world s es) (last_configuration s es) o (first_halt s es)) ≡ 0 → o ≡ None
    by_opening None k = refl
    by_opening (Some pair) k = absurd (omega (arith, k))

-- no two messages of the world that these events leave collision
clear_after : (s : Setup) (es : List Event) (w : World) → NoCollision s.hash w.hashed
    → NoCollision s.hash (world_after w (played_from s w es).passed).hashed
clear_after s [] w fresh = fresh
clear_after s (e ∷ es) w fresh =
    let d = pending s w e in
    by_answer (collision s.hash w.hashed d.hashes) (guess s w.posted d.posts d.allowed) refl (clear_after s es)
  where
    by_answer : (c : Option (List ℕ × List ℕ)) (u : Option HeldSecret) → collision s.hash w.hashed (pending s w e).hashes ≡ c
        → ((next : World) → NoCollision s.hash next.hashed → NoCollision s.hash (world_after next (played_from s next es).passed).hashed)
        → NoCollision s.hash (world_after w (goes_on e (apply w (pending s w e) c u) (λ next. played_from s next es)).passed).hashed
    by_answer (Some pair) u ec ih = fresh
    by_answer None (Some held) ec ih = fresh
    by_answer None None ec ih = ih (applied w (pending s w e)) (no_collision s.hash w.hashed (pending s w e).hashes fresh ec)

pub last_clear : (s : Setup) (es : List Event) → opening_collision s ≡ None → NoCollision s.hash (last_world s es).hashed
last_clear s es h =
    let w = opening_world s in
    let ps = (played s es).passed in
    subst (λ (x : World). NoCollision s.hash x.hashed) (sym (last_left s (world_after w ps).posted ps (opening_configuration s) w))
    (clear_after s es w (opening_clear s h))
