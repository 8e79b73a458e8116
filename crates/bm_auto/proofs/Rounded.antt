-- All rounds, one by one.
use Rattle.std.proofs.Common.{◌≡◌, ℕ, zero, suc, ◌+◌, ◌<◌, ◌≤◌, List, [], ◌∷◌, ◌++◌, length, Bool, true, false, Option, Some, None, Ok, Err}
use Rattle.std.proofs.Common.{refl, sym, ap, subst, ◌∙◌, append_assoc, append-nil, length-append, arith, inl, inr}
use Rattle.std.proofs.lemmas.List.{length-map}
use Rattle.std.proofs.lemmas.Option.{none-some}
use Rattle.std.specs.Prelude.{◌==◌, ◌⊎◌, if◌then◌else◌}
use Rattle.std.specs.List.{AllByRecursion}
use Rattle.std.proofs.lemmas.Bool.{ne_eqb, eq-eqb}
use Rattle.spec_run.specs.declared.event.Event.{Event}
use Rattle.spec_run.specs.declared.outcome.Record.{Record}
use Rattle.spec_run.specs.Setup.{Setup}
use Rattle.spec_run.specs.World.{World}
use Rattle.spec_run.specs.Pending as run
use Rattle.spec_tool.specs.declared.rule.Rule.{Rule}
use Rattle.spec_tool.specs.Turns.{Progress, Progressed, round, after_events, rounds_go, rounds_on, rounds, extended}
use Rattle.theory_auto.specs.OwnRules.{IsHonest}
use Rattle.bm_world.specs.declared.halt.Halt.{Halt}
use Rattle.bm_world.specs.declared.halt.Halt.TheVariants as halts
use Rattle.bm_world.specs.Playing as world
use Rattle.bm_world.specs.Playing.{setup_in, most_records}
use Rattle.bm_world.specs.Reached.{events_of}
use Rattle.bm_world.proofs.Stopped.{halt_named}
use Rattle.bm_auto.specs.Taking.{round_takes, takes_on, rounds_take, extended_takes}
use Rattle.bm_auto.specs.Trying.{IsCause}
use Rattle.bm_auto.specs.Turning.{Turns, StopsTurning}
use Rattle.bm_auto.specs.Extending.{Between, Extends, StopsExtending}
use Rattle.bm_auto.proofs.Tried.{setup_same, same_again}

-- ---- events before rounds

after_nothing : (x : Progressed) → after_events [] x ≡ x
after_nothing (Err halt) = refl
after_nothing (Ok p) = refl

after_both : (prefix more : List Event) (x : Progressed) → after_events prefix (after_events more x) ≡ after_events (prefix ++ more) x
after_both prefix more (Err halt) = refl
after_both prefix more (Ok p) =
    ap (λ (es : List Event). Ok (record { world = p.world; left = p.left; events = es })) (sym (append_assoc prefix more p.events))

-- a halt ends all rounds
caused_on : (prefix : List Event) (go : World → List Rule → Progressed) (halt : Halt) (x : Progressed) → IsCause halt x
    → IsCause halt (after_events prefix (rounds_on x go))
caused_on prefix go halt x c h is = ap (λ y. after_events prefix (rounds_on y go)) (c h is)

caused_err : (halt : Halt) (x : Progressed) → (halt ≡ halts.Memory → ⊥) → IsCause halt x → (cause : run.Halt) × (x ≡ Err cause)
caused_err halt x other c = let n = halt_named halt other in (n.0, c n.0 n.1)

-- ---- before any round

pub begin_rounds : {H : Type 0} (digest : H → List ℕ → List ℕ) (old : world.Played H) (rules : List Rule) → AllByRecursion (IsHonest old.header) rules
    → Between digest old old rules rules [] 0
begin_rounds digest old rules honest = record {
  setup = record { hasher = refl; header = refl; contracts = refl };
  halt = refl;
  stays = λ earlier h. refl;
  more = length rules + 1;
  fuel = omega arith;
  comes = sym (after_nothing (extended (setup_in digest old) old.world rules));
  adds = refl;
  grows = sym (append-nil (events_of old.trace));
  count = omega arith;
  honest = honest;
}

-- ---- a round more

module _ {H : Type 0} (digest : H → List ℕ → List ℕ) (old mid : world.Played H) (rules left : List Rule) (events : List Event) (made : ℕ)
    (b : Between digest old mid rules left events made) where
  abbrev s : Setup
  s = setup_in digest old

  by_setup : (P : Setup → Type 0) → P (setup_in digest mid) → P s
  by_setup P h = subst P (setup_same digest old mid b.setup) h

  -- there is room for the records of the rules that are left
  pub room_left : length old.trace + length rules ≤ most_records → length mid.trace + length left ≤ most_records
  room_left few =
      let x : length (events_of mid.trace) ≡ length (events_of old.trace) + length events = ap length b.grows ∙ length-append (events_of old.trace) events in
      let y = length-map mid.trace (λ (t : Record). t.event) in
      let z = length-map old.trace (λ (t : Record). t.event) in
      let n = b.count in
      omega (arith, x, y, z, n, few)

  pub honest_left : AllByRecursion (IsHonest mid.header) left
  honest_left = subst (λ h. AllByRecursion (IsHonest h) left) (sym b.setup.header) b.honest

  -- memory is short
  pub short_between : StopsExtending digest old mid rules halts.Memory
  short_between = record {
    setup = b.setup;
    again = λ earlier h. (inr refl, b.stays earlier h);
    kept = λ other. absurd (other refl);
    taken = events;
    rest = rounds_take b.more s mid.world left;
    so_far = b.adds;
    grows = b.grows;
    cause = λ none h is. absurd (none-some h is);
    all = λ none other. absurd (other refl);
  }

  -- no round is left to make
  pub out_of_rounds : length rules + 1 ≤ made → Extends digest old mid rules events
  unfolding rounds
  out_of_rounds over =
      let none : b.more ≡ 0 = let f = b.fuel in omega (arith, f, over) in
      record {
        setup = b.setup;
        halt = b.halt;
        stays = b.stays;
        left = left;
        comes = b.comes ∙ ap (λ n. after_events events (rounds n s mid.world left)) none
            ∙ ap (λ (es : List Event). Ok (record { world = mid.world; left = left; events = es })) (append-nil events);
        grows = b.grows;
      }

  module _ (new : world.Played H) (less : made < length rules + 1) where
    -- the rounds behind this one
    record OneLess : Type 0 where
      n : ℕ
      is : b.more ≡ suc n

    one_less : (n : ℕ) → b.more ≡ n → OneLess
    one_less zero h = let f = b.fuel in absurd (omega (arith, f, less, h))
    one_less (suc n) h = record { n = n; is = h }

    fewer : OneLess
    fewer = one_less b.more refl

    abbrev go : World → List Rule → Progressed
    go next rest = rounds fewer.n s next rest

    abbrev add : World → List Rule → List Event
    add next rest = rounds_take fewer.n s next rest

    comes_of : extended s old.world rules ≡ after_events events (rounds_on (round s mid.world left) go)
    unfolding rounds
    comes_of = b.comes ∙ ap (λ n. after_events events (rounds n s mid.world left)) fewer.is

    adds_of : extended_takes s old.world rules ≡ events ++ (round_takes s mid.world left ++ takes_on (round s mid.world left) add)
    unfolding rounds_take
    adds_of = b.adds ∙ ap (λ n. events ++ rounds_take n s mid.world left) fewer.is

    module _ (left' : List Rule) (events' : List Event) (t : Turns digest mid new left left' events events') where
      round_is : round s mid.world left ≡ Ok (record { world = new.world; left = left'; events = t.taken })
      round_is = by_setup (λ x. round x mid.world left ≡ Ok (record { world = new.world; left = left'; events = t.taken })) t.comes

      grown : length events' ≡ length events + length t.taken
      grown = ap length t.events ∙ length-append events t.taken

      abbrev p : Progress
      p = record { world = new.world; left = left'; events = t.taken }

      grows_on : events_of new.trace ≡ events_of old.trace ++ events'
      grows_on = t.grows ∙ ap (λ (es : List Event). es ++ t.taken) b.grows ∙ append_assoc (events_of old.trace) events t.taken
          ∙ ap (λ (es : List Event). events_of old.trace ++ es) (sym t.events)

      -- it took no rule
      pub last_round : length events' ≡ length events → Extends digest old new rules events'
      last_round none =
          let empty : length t.taken ≡ 0 = let g = grown in omega (arith, g, none) in
          let ends : rounds_go p go ≡ Ok p = ap (λ (z : Bool). if z then Ok p else after_events t.taken (go new.world left')) (eq-eqb (length t.taken) 0 empty) in
          record {
            setup = same_again old mid new b.setup t.setup;
            halt = t.halt ∙ b.halt;
            stays = λ earlier h. t.stays earlier (b.halt ∙ h) ∙ b.stays earlier h;
            left = left';
            comes = comes_of ∙ ap (λ x. after_events events (rounds_on x go)) round_is ∙ ap (after_events events) ends
                ∙ ap (λ (es : List Event). Ok (record { world = new.world; left = left'; events = es })) (sym t.events);
            grows = grows_on;
          }

      -- it took some
      pub next_round : (length events' ≡ length events → ⊥) → Between digest old new rules left' events' (made + 1)
      next_round some =
          let filled : (length t.taken == 0) ≡ false = ne_eqb (length t.taken) 0 (λ e. some (let g = grown in omega (arith, g, e))) in
          let on : rounds_go p go ≡ after_events t.taken (go new.world left') =
          ap (λ (z : Bool). if z then Ok p else after_events t.taken (go new.world left')) filled in
          let added : takes_on (Ok p) add ≡ add new.world left' = ap (λ (z : Bool). if z then [] else add new.world left') filled in
          record {
            setup = same_again old mid new b.setup t.setup;
            halt = t.halt ∙ b.halt;
            stays = λ earlier h. t.stays earlier (b.halt ∙ h) ∙ b.stays earlier h;
            more = fewer.n;
            fuel = let f = b.fuel in let i = fewer.is in omega (arith, f, i);
            comes = comes_of ∙ ap (λ x. after_events events (rounds_on x go)) round_is ∙ ap (after_events events) on
                ∙ after_both events t.taken (go new.world left') ∙ ap (λ (es : List Event). after_events es (go new.world left')) (sym t.events);
            adds = adds_of
                ∙ ap (λ (es : List Event). events ++ (es ++ takes_on (round s mid.world left) add))
                (by_setup (λ x. round_takes x mid.world left ≡ t.taken) t.adds)
                ∙ ap (λ x. events ++ (t.taken ++ takes_on x add)) round_is
                ∙ ap (λ (es : List Event). events ++ (t.taken ++ es)) added
                ∙ sym (append_assoc events t.taken (add new.world left'))
                ∙ ap (λ (es : List Event). es ++ add new.world left') (sym t.events);
            grows = grows_on;
            count = let n = b.count in let k = t.count in let g = grown in omega (arith, n, k, g);
            honest = subst (λ h. AllByRecursion (IsHonest h) left') b.setup.header t.honest;
          }

    -- it halted
    pub round_stops : (halt : Halt) → StopsTurning digest mid new left halt → StopsExtending digest old new rules halt
    round_stops halt t =
        let taken_here : round_takes s mid.world left ≡ t.taken ++ t.rest = by_setup (λ x. round_takes x mid.world left ≡ t.taken ++ t.rest) t.so_far in
        let behind : List Event = takes_on (round s mid.world left) add in
        let caused : old.halt ≡ None → IsCause halt (round s mid.world left) =
        λ none. by_setup (λ x. IsCause halt (round x mid.world left)) (t.cause (b.halt ∙ none)) in
        record {
          setup = same_again old mid new b.setup t.setup;
          again = λ earlier h. let a = t.again earlier (b.halt ∙ h) in (a.0, a.1 ∙ b.stays earlier h);
          kept = t.kept;
          taken = events ++ t.taken;
          rest = t.rest ++ takes_on (round s mid.world left) add;
          so_far = adds_of
              ∙ ap (λ (es : List Event). events ++ (es ++ behind)) taken_here
              ∙ ap (λ (es : List Event). events ++ es) (append_assoc t.taken t.rest behind)
              ∙ sym (append_assoc events t.taken (t.rest ++ behind));
          grows = t.grows ∙ ap (λ (es : List Event). es ++ t.taken) b.grows ∙ append_assoc (events_of old.trace) events t.taken;
          cause = λ none. subst (IsCause halt) (sym comes_of) (caused_on events go halt (round s mid.world left) (caused none));
          all = λ none other.
              let err = caused_err halt (round s mid.world left) other (caused none) in
              ap (λ (es : List Event). es ++ takes_on (round s mid.world left) add) (t.all (b.halt ∙ none) other)
              ∙ ap (λ x. takes_on x add) err.1;
        }
