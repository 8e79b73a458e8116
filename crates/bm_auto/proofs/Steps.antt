-- A round, rule by rule.
use Rattle.std.proofs.Common.{◌≡◌, ℕ, ◌+◌, ◌<◌, ◌≤◌, List, [], ◌∷◌, ◌++◌, length, map, Option, Some, None, Ok, Err, refl, sym, ap, subst, ◌∙◌}
use Rattle.std.proofs.Common.{append_assoc, append-nil, length-append, arith, inr, suc, drop, get_or, add-one}
use Rattle.std.proofs.Math.Seq.{drop-cons}
use Rattle.std.proofs.Math.ListN.{drop_of_length-le}
use Rattle.std.specs.Borrow.{Bor}
use Rattle.std.specs.List.{AllByRecursion}
use Rattle.std.proofs.lemmas.List.{length-map}
use Rattle.std.proofs.lemmas.Option.{none-some}
use Rattle.spec_run.specs.declared.event.Event.{Event}
use Rattle.spec_run.specs.declared.outcome.Record.{Record}
use Rattle.spec_run.specs.Setup.{Setup}
use Rattle.spec_run.specs.World.{World}
use Rattle.spec_tool.specs.declared.rule.Rule.{Rule}
use Rattle.spec_tool.specs.Turns.{rule_event, Progressed, keeps, takes, tried_if, round}
use Rattle.theory_auto.specs.OwnRules.{IsHonest}
use Rattle.bm_world.specs.declared.halt.Halt.{Halt}
use Rattle.bm_world.specs.declared.halt.Halt.TheVariants as halts
use Rattle.bm_world.specs.Playing as world
use Rattle.bm_world.specs.Playing.{setup_in, SameSetup, most_records}
use Rattle.bm_world.specs.Reached.{events_of}
use Rattle.bm_world.proofs.Stopped.{kept_halt}
use Rattle.bm_auto.specs.Taking.{taken_if, round_takes}
use Rattle.bm_auto.specs.Trying.{passed_by, taken_by, kept_by, Tries, IsCause, Ends, StopsTrying}
use Rattle.bm_auto.specs.Turning.{Stops, onto, Midway, Turns, StopsTurning}
use Rattle.bm_auto.proofs.Tried.{setup_same, same_again}

-- ---- what comes behind some rules

onto_nothing : (x : Progressed) → onto [] [] x ≡ x
onto_nothing (Err halt) = refl
onto_nothing (Ok p) = refl

onto_kept : (left : List Rule) (taken : List Event) (r : Rule) (x : Progressed) → onto left taken (keeps r x) ≡ onto (left ++ r ∷ []) taken x
onto_kept left taken r (Err halt) = refl
onto_kept left taken r (Ok p) =
    ap (λ (rs : List Rule). Ok (record { world = p.world; left = rs; events = taken ++ p.events })) (sym (append_assoc left (r ∷ []) p.left))

onto_taken : (left : List Rule) (taken : List Event) (e : Event) (x : Progressed) → onto left taken (takes e x) ≡ onto left (taken ++ e ∷ []) x
onto_taken left taken e (Err halt) = refl
onto_taken left taken e (Ok p) =
    ap (λ (es : List Event). Ok (record { world = p.world; left = left ++ p.left; events = es })) (sym (append_assoc taken (e ∷ []) p.events))

caused_onto : (left : List Rule) (taken : List Event) (halt : Halt) (x : Progressed) → IsCause halt x → IsCause halt (onto left taken x)
caused_onto left taken halt x c h is = ap (onto left taken) (c h is)

all_and_one : {X : Type 0} (P : X → Type 0) (xs : List X) (x : X) → AllByRecursion P xs → P x → AllByRecursion P (xs ++ x ∷ [])
all_and_one P [] x h k = (k, tt)
all_and_one P (y ∷ xs) x h k = (h.0, all_and_one P xs x h.1 k)

-- ---- rules that are lent

-- what is lent
abbrev pub lent : List (Bor Rule) → List Rule
lent rs = map (λ r. r.now) rs

pub lent_from : (rs : List (Bor Rule)) (n : ℕ) (r : Bor Rule) → n < length rs → r ≡ get_or rs n r
    → lent (drop n rs) ≡ r.now ∷ lent (drop (n + 1) rs)
lent_from rs n r less here =
    ap lent (drop-cons rs n r less) ∙ ap (λ (x : Bor Rule). x.now ∷ lent (drop (suc n) rs)) (sym here)
    ∙ ap (λ m. r.now ∷ lent (drop m rs)) (sym (add-one n))

pub lent_none : (rs : List (Bor Rule)) (n : ℕ) → length rs ≤ n → lent (drop n rs) ≡ []
lent_none rs n over = ap lent (drop_of_length-le rs over)

-- ---- before any rule

pub begin_round : {H : Type 0} (digest : H → List ℕ → List ℕ) (old : world.Played H) (rules : List Rule) (before : List Event)
    → AllByRecursion (IsHonest old.header) rules → Midway digest old old rules [] rules before before
begin_round digest old rules before honest = record {
  setup = record { hasher = refl; header = refl; contracts = refl };
  halt = refl;
  stays = λ earlier h. refl;
  taken = [];
  events = sym (append-nil before);
  comes = sym (onto_nothing (round (setup_in digest old) old.world rules));
  adds = refl;
  grows = sym (append-nil (events_of old.trace));
  count = omega arith;
  honest_left = tt;
  honest_rest = honest;
}

-- ---- one rule more

module _ {H : Type 0} (digest : H → List ℕ → List ℕ) (old mid : world.Played H) (rules left : List Rule) (r : Rule) (rest : List Rule)
    (before later : List Event)
    (m : Midway digest old mid rules left (r ∷ rest) before later) where
  abbrev s : Setup
  s = setup_in digest old

  same : setup_in digest mid ≡ setup_in digest old
  same = setup_same digest old mid m.setup

  -- there is room for its record
  pub room : length old.trace + length rules ≤ most_records → length mid.trace < most_records
  room few =
      let a : length (events_of mid.trace) ≡ length (events_of old.trace) + length m.taken = ap length m.grows ∙ length-append (events_of old.trace) m.taken in
      let b = length-map mid.trace (λ (x : Record). x.event) in
      let c = length-map old.trace (λ (x : Record). x.event) in
      let n = m.count in
      omega (arith, a, b, c, n, few)

  pub honest : IsHonest mid.header r
  honest = subst (λ h. IsHonest h r) (sym m.setup.header) m.honest_rest.0

  -- the rule in the setup of the round
  by_setup : (P : Setup → Type 0) → P (setup_in digest mid) → P s
  by_setup P h = subst P same h

  module _ (new : world.Played H) where
    comes_to : (o : Option Event) → Tries digest mid new r o → round s mid.world (r ∷ rest) ≡ passed_by r o (round s new.world rest)
    comes_to o t = by_setup (λ x. tried_if x mid.world r (rule_event x mid.world r) (λ next. round s next rest) ≡ passed_by r o (round s new.world rest))
        (t.comes (λ next. round s next rest))

    adds_to : (o : Option Event) → Tries digest mid new r o → round_takes s mid.world (r ∷ rest) ≡ taken_by o ++ round_takes s new.world rest
    adds_to o t = by_setup (λ x. taken_if x mid.world (rule_event x mid.world r) (λ next. round_takes s next rest) ≡ taken_by o ++ round_takes s new.world rest)
        (t.adds (λ next. round_takes s next rest))

    stays_to : (o : Option Event) → Tries digest mid new r o → (earlier : Halt) → old.halt ≡ Some earlier → new ≡ old
    stays_to o t earlier h = t.stays earlier (m.halt ∙ h) ∙ m.stays earlier h

    -- it is left
    pub left_one : Tries digest mid new r None → Midway digest old new rules (left ++ r ∷ []) rest before later
    left_one t = record {
      setup = same_again old mid new m.setup t.setup;
      halt = t.halt ∙ m.halt;
      stays = stays_to None t;
      taken = m.taken;
      events = m.events;
      comes = m.comes ∙ ap (onto left m.taken) (comes_to None t) ∙ onto_kept left m.taken r (round s new.world rest);
      adds = m.adds ∙ ap (λ (es : List Event). m.taken ++ es) (adds_to None t);
      grows = t.grows ∙ append-nil (events_of mid.trace) ∙ m.grows;
      count = let n = m.count in let k : length (left ++ r ∷ []) ≡ length left + 1 = length-append left (r ∷ []) in omega (arith, n, k);
      honest_left = all_and_one (IsHonest old.header) left r m.honest_left m.honest_rest.0;
      honest_rest = m.honest_rest.1;
    }

    -- it is taken
    pub taken_one : (e : Event) (longer : List Event) → longer ≡ later ++ e ∷ [] → Tries digest mid new r (Some e)
        → Midway digest old new rules left rest before longer
    taken_one e longer more t = record {
      setup = same_again old mid new m.setup t.setup;
      halt = t.halt ∙ m.halt;
      stays = stays_to (Some e) t;
      taken = m.taken ++ e ∷ [];
      events = more ∙ ap (λ (es : List Event). es ++ e ∷ []) m.events ∙ append_assoc before m.taken (e ∷ []);
      comes = m.comes ∙ ap (onto left m.taken) (comes_to (Some e) t) ∙ onto_taken left m.taken e (round s new.world rest);
      adds = m.adds ∙ ap (λ (es : List Event). m.taken ++ es) (adds_to (Some e) t) ∙ sym (append_assoc m.taken (e ∷ []) (round_takes s new.world rest));
      grows = t.grows ∙ ap (λ (es : List Event). es ++ e ∷ []) m.grows ∙ append_assoc (events_of old.trace) m.taken (e ∷ []);
      count = let n = m.count in let k : length (m.taken ++ e ∷ []) ≡ length m.taken + 1 = length-append m.taken (e ∷ []) in omega (arith, n, k);
      honest_left = m.honest_left;
      honest_rest = m.honest_rest.1;
    }

    -- it is either
    pub one_more : (o : Option Event) (others : List Rule) (longer : List Event) → others ≡ left ++ kept_by r o → longer ≡ later ++ taken_by o
        → Tries digest mid new r o → Midway digest old new rules others rest before longer
    one_more None others longer a b t =
        subst (λ x. Midway digest old new rules x rest before longer) (sym a)
        (subst (λ y. Midway digest old new rules (left ++ r ∷ []) rest before y) (sym (b ∙ append-nil later)) (left_one t))
    one_more (Some e) others longer a b t =
        subst (λ x. Midway digest old new rules x rest before longer) (sym (a ∙ append-nil left)) (taken_one e longer b t)

    -- it halts
    pub one_stops : (halt : Halt) → StopsTrying digest mid new r halt → StopsTurning digest old new rules halt
    one_stops halt t =
        record {
          setup = same_again old mid new m.setup t.setup;
          again = λ earlier h. let a = t.again earlier (m.halt ∙ h) in (a.0, a.1 ∙ m.stays earlier h);
          kept = kept_halt mid new halt _ t;
          taken = m.taken;
          rest = round_takes s mid.world (r ∷ rest);
          so_far = m.adds;
          grows = ap events_of t.trace ∙ m.grows;
          cause = λ none.
              let c = t.cause (m.halt ∙ none) in
              let here : IsCause halt (round s mid.world (r ∷ rest)) =
              by_setup (λ x. IsCause halt (tried_if x mid.world r (rule_event x mid.world r) (λ next. round s next rest)))
              (c.comes (λ next. round s next rest)) in
              subst (IsCause halt) (sym m.comes) (caused_onto left m.taken halt (round s mid.world (r ∷ rest)) here);
          all = λ none other.
              by_setup (λ x. taken_if x mid.world (rule_event x mid.world r) (λ next. round_takes s next rest) ≡ [])
              ((t.cause (m.halt ∙ none)).adds other (λ next. round_takes s next rest));
        }

-- ---- at any place

module _ {H : Type 0} (digest : H → List ℕ → List ℕ) (old now : world.Played H) (rules left rest : List Rule) (before later : List Event)
    (m : Midway digest old now rules left rest before later) where
  -- memory is short
  pub short : StopsTurning digest old now rules halts.Memory
  short = record {
    setup = m.setup;
    again = λ earlier h. (inr refl, m.stays earlier h);
    kept = λ other. absurd (other refl);
    taken = m.taken;
    rest = round_takes (setup_in digest old) now.world rest;
    so_far = m.adds;
    grows = m.grows;
    cause = λ none h is. absurd (none-some h is);
    all = λ none other. absurd (other refl);
  }

  -- no rule is left to try
  pub end_round : rest ≡ [] → Turns digest old now rules left before later
  end_round none =
      let s : Setup = setup_in digest old in
      record {
        setup = m.setup;
        halt = m.halt;
        stays = m.stays;
        taken = m.taken;
        events = m.events;
        comes = m.comes ∙ ap (λ rs. onto left m.taken (round s now.world rs)) none
            ∙ (λ i. Ok (record { world = now.world; left = append-nil left i; events = append-nil m.taken i }));
        adds = m.adds ∙ ap (λ rs. m.taken ++ round_takes s now.world rs) none ∙ append-nil m.taken;
        grows = m.grows;
        count = let n = m.count in let k : length rest ≡ 0 = ap length none in omega (arith, n, k);
        honest = m.honest_left;
      }

-- ---- by the number of the rule

module _ {H : Type 0} (digest : H → List ℕ → List ℕ) (old mid : world.Played H) (rules : List (Bor Rule)) (left : List Rule) (n : ℕ) (r : Bor Rule)
    (less : n < length rules) (here : r ≡ get_or rules n r) (before later : List Event)
    (m : Midway digest old mid (lent rules) left (lent (drop n rules)) before later) where
  at_rule : Midway digest old mid (lent rules) left (r.now ∷ lent (drop (n + 1) rules)) before later
  at_rule = subst (λ x. Midway digest old mid (lent rules) left x before later) (lent_from rules n r less here) m

  abbrev rest : List Rule
  rest = lent (drop (n + 1) rules)

  pub honest_here : IsHonest mid.header r.now
  honest_here = honest digest old mid (lent rules) left r.now rest before later at_rule

  pub room_here : length old.trace + length rules ≤ most_records → length mid.trace < most_records
  room_here few =
      let k = length-map rules (λ (x : Bor Rule). x.now) in
      room digest old mid (lent rules) left r.now rest before later at_rule (omega (arith, k, few))

  module _ (new : world.Played H) where
    pub stops_here : (halt : Halt) → StopsTrying digest mid new r.now halt → StopsTurning digest old new (lent rules) halt
    stops_here halt t = one_stops digest old mid (lent rules) left r.now rest before later at_rule new halt t

    pub goes_here : (o : Option Event) (others : List Rule) (longer : List Event) → others ≡ left ++ kept_by r.now o → longer ≡ later ++ taken_by o
        → Tries digest mid new r.now o → Midway digest old new (lent rules) others rest before longer
    goes_here o others longer a b t = one_more digest old mid (lent rules) left r.now rest before later at_rule new o others longer a b t

    pub short_here : (o : Option Event) → Tries digest mid new r.now o → StopsTurning digest old new (lent rules) halts.Memory
    short_here o t =
        short digest old new (lent rules) (left ++ kept_by r.now o) rest before (later ++ taken_by o)
        (goes_here o (left ++ kept_by r.now o) (later ++ taken_by o) refl refl t)
