-- One rule is tried: an event that would go on is played, and comes to the same.
use Rattle.std.proofs.Common.{◌≡◌, ℕ, List, [], ◌∷◌, ◌++◌, map, Bool, true, false, Option, Some, None, refl, sym, ap, subst, ◌∙◌}
use Rattle.std.proofs.Common.{append-nil}
use Rattle.std.specs.Prelude.{if◌then◌else◌, not}
use Rattle.std.proofs.lemmas.List.{map-append}
use Rattle.std.proofs.lemmas.Option.{none-some}
use Rattle.spec_data.specs.Lists.{is_among}
use Rattle.spec_data.specs.Messages.{noted, noted_all, collision}
use Rattle.spec_run.specs.declared.event.Event.{Event}
use Rattle.spec_run.specs.declared.header.HeldSecret.{HeldSecret}
use Rattle.spec_run.specs.declared.outcome.Outcome.{Outcome}
use Rattle.spec_run.specs.declared.outcome.Record.{Record}
use Rattle.spec_run.specs.Setup.{Setup}
use Rattle.spec_run.specs.World.{World}
use Rattle.spec_run.specs.Conditions.{IsSetup, IsEvent}
use Rattle.spec_run.specs.Pending.{Pending, Halted, guess, apply, applied}
use Rattle.spec_run.specs.Pending as run
use Rattle.spec_run.specs.Event.{pending, event, record_of}
use Rattle.spec_run.specs.Values.{is_refused, RefusedKept}
use Rattle.spec_tool.specs.declared.rule.Rule.{Rule}
use Rattle.spec_tool.specs.Turns.{rule_event, Progressed, keeps, takes, tried, tried_if}
use Rattle.theory_world.specs.KeptApart.{NoCollision}
use Rattle.theory_world.proofs.Hashed.{no_collision, all_new, among_head, among_tail}
use Rattle.theory_world.proofs.Refused.{refusals_keep}
use Rattle.theory_auto.specs.OwnRules.{IsHonest}
use Rattle.theory_run.proofs.Events.Hashless.{carried, pending_same}
use Rattle.theory_run.proofs.Fewer.{Within, again_calm}
use Rattle.theory_auto.proofs.OwnRules.{done_by, declared_among, is_event}
use Rattle.bm_world.specs.declared.halt.Halt.{Halt}
use Rattle.bm_world.specs.declared.halt.Halt.TheVariants as halts
use Rattle.bm_world.specs.Playing as world
use Rattle.bm_world.specs.Playing.{setup_in, SameSetup, Halts, Stopped, Tested, Went}
use Rattle.bm_world.specs.Reached.{events_of}
use Rattle.bm_world.specs.Halts.{halt_of}
use Rattle.bm_world.proofs.Stopped.{halt_named}
use Rattle.bm_auto.specs.Taking.{taken_before, taken_if}
use Rattle.bm_auto.specs.Trying.{Tries, IsCause, Ends, StopsTrying}

-- ---- messages that are hashed again

noted_again : (ms ts : List (List ℕ)) → Within ts ms → noted_all ms ts ≡ ms
noted_again ms [] h = refl
noted_again ms (t ∷ ts) h =
    let here : noted ms t ≡ ms = rw (h t (among_head t ts)) refl in
    ap (λ xs. noted_all xs ts) here ∙ noted_again ms ts (λ m i. h m (among_tail m t ts i))

-- ---- an event that went on

record IsCalm (s : Setup) (w : World) (d : Pending) : Type 0 where
  calm : collision s.hash w.hashed d.hashes ≡ None
  unguessed : guess s w.posted d.posts d.allowed ≡ None

calm_by : (s : Setup) (w next : World) (d : Pending) (c : Option (List ℕ × List ℕ)) (g : Option HeldSecret)
    → collision s.hash w.hashed d.hashes ≡ c → guess s w.posted d.posts d.allowed ≡ g → apply w d c g ≡ run.Went d next → IsCalm s w d
calm_by s w next d (Some p) g a b h = cc
calm_by s w next d None (Some held) a b h = cc
calm_by s w next d None None a b h = record { calm = a; unguessed = b }

calm_of : (s : Setup) (w next : World) (e : Event) → event s w e ≡ run.Went (pending s w e) next → IsCalm s w (pending s w e)
calm_of s w next e h =
    let d = pending s w e in
    calm_by s w next d (collision s.hash w.hashed d.hashes) (guess s w.posted d.posts d.allowed) refl refl h

went_next : (d : Pending) (v next : World) → run.Went d v ≡ run.Went d next → v ≡ next
went_next d v next h = cc

-- ---- it is played after it was tried

module _ (s : Setup) (w : World) (r : Rule) (e : Event) (has : rule_event s w r ≡ Some e) (clear : NoCollision s.hash w.hashed)
    (went : event s w e ≡ run.Went (pending s w e) (applied w (pending s w e))) where
  abbrev d : Pending
  d = pending s w e

  abbrev heard : List (List ℕ)
  heard = noted_all w.hashed (pending s w e).hashes

  abbrev after : World
  after = record w { hashed = noted_all w.hashed (pending s w e).hashes }

  same : pending s after e ≡ carried heard d
  same = pending_same s w heard e

  is_calm : IsCalm s w d
  is_calm = calm_of s w (applied w d) e went

  within : Within d.hashes heard
  within = λ t i. all_new w.hashed d.hashes t i

  -- it goes on again, and leaves the same world
  pub again : event s after e ≡ run.Went (carried heard d) (applied w d)
  again =
      let calm : collision s.hash heard d.hashes ≡ None =
      again_calm s.hash heard d.hashes (no_collision s.hash w.hashed d.hashes clear is_calm.calm) within in
      let left : applied after (carried heard d) ≡ applied w d =
      ap (λ (ms : List (List ℕ)). record d.world { hashed = ms; posted = w.posted ++ d.posts }) (noted_again heard d.hashes within) in
      ap (run.answer s after) same
      ∙ ap (λ c. apply after (carried heard d) c (guess s w.posted d.posts d.allowed)) calm
      ∙ ap (apply after (carried heard d) None) is_calm.unguessed
      ∙ ap (run.Went (carried heard d)) left

  pub played_is : (next : World) → event s after e ≡ run.Went (pending s after e) next → next ≡ applied w d
  played_is next h =
      let twice : run.Went (carried heard d) next ≡ run.Went (carried heard d) (applied w d) = ap (λ x. run.Went x next) (sym same) ∙ sym h ∙ again in
      went_next (carried heard d) next (applied w d) twice

  pub not_halted : (halt : run.Halt) → event s after e ≡ Halted halt → ⊥
  not_halted halt h = let f : Halted halt ≡ run.Went (carried heard d) (applied w d) = sym h ∙ again in absurd (cc)

-- ---- by the answers of the world

pub setup_same : {H : Type 0} (digest : H → List ℕ → List ℕ) (old new : world.Played H) → SameSetup old new
    → setup_in digest new ≡ setup_in digest old
setup_same digest old new h = λ i. record { hash = digest (h.hasher i); header = h.header i; contracts = h.contracts i }

pub same_again : {H : Type 0} (old mid new : world.Played H) → SameSetup old mid → SameSetup mid new → SameSetup old new
same_again old mid new h k = record { hasher = k.hasher ∙ h.hasher; header = k.header ∙ h.header; contracts = k.contracts ∙ h.contracts }

not_both : {H : Type 0} (p : world.Played H) (earlier : Halt) → p.halt ≡ None → p.halt ≡ Some earlier → ⊥
not_both p earlier h k = absurd (cc)

not_false : (b : Bool) → not b ≡ false → b ≡ true
not_false true h = refl
not_false false h = cc

not_true : (b : Bool) → not b ≡ true → b ≡ false
not_true true h = cc
not_true false h = refl

-- the event of an honest party's rule is one
pub event_is : (s : Setup) (w : World) (r : Rule) (e : Event) → IsSetup s → IsHonest s.header r → rule_event s w r ≡ Some e → IsEvent s e
event_is s w r e setup honest has =
    is_event s r.party r.act e (declared_among r.party s.header.honest s.header.parties setup.header.honest_declared honest)
    (done_by s w r.party r.act e has)

module _ {H : Type 0} (digest : H → List ℕ → List ℕ) (old : world.Played H) (r : Rule) where
  abbrev s : Setup
  s = setup_in digest old

  -- there is no event
  pub unmoved : rule_event (setup_in digest old) old.world r ≡ None → Tries digest old old r None
  unmoved has = record {
    setup = record { hasher = refl; header = refl; contracts = refl };
    halt = refl;
    stays = λ earlier h. refl;
    comes = λ go. ap (λ o. tried_if s old.world r o go) has;
    adds = λ later. ap (λ o. taken_if s old.world o later) has;
    grows = sym (append-nil (events_of old.trace));
  }

  module _ (e : Event) (has : rule_event (setup_in digest old) old.world r ≡ Some e) where
    abbrev comes_to : Pending
    comes_to = pending s old.world e

    -- it is refused
    pub refused : (new : world.Played H) (passes : Bool) → passes ≡ false → Tested digest old new e passes → Tries digest old new r None
    refused new passes not_passed t =
        let is : is_refused comes_to.outcome ≡ true = not_false (is_refused comes_to.outcome) (sym t.passes ∙ not_passed) in
        let next : World = applied old.world comes_to in
        let kept : applied old.world comes_to ≡ new.world = subst (RefusedKept old.world) t.goes (refusals_keep s old.world e) is ∙ sym t.hears.world in
        record {
          setup = t.hears.setup;
          halt = t.hears.going.1 ∙ sym t.hears.going.0;
          stays = λ earlier h. absurd (not_both old earlier t.hears.going.0 h);
          comes = λ go. ap (λ o. tried_if s old.world r o go) has ∙ ap (λ a. tried r e a go) t.goes
              ∙ ap (λ b. if b then keeps r (go next) else takes e (go next)) is ∙ ap (λ x. keeps r (go x)) kept;
          adds = λ later. ap (λ o. taken_if s old.world o later) has ∙ ap (λ a. taken_before e a later) t.goes
              ∙ ap (λ b. if b then later next else e ∷ later next) is ∙ ap later kept;
          grows = ap events_of t.hears.trace ∙ sym (append-nil (events_of old.trace));
        }

    -- it is played
    module _ (mid : world.Played H) (clear : NoCollision (setup_in digest old).hash old.world.hashed) (t : Tested digest old mid e true) where
      -- what holds in the world where it was tried
      there : (P : Setup → World → Type 0) → P (setup_in digest mid) mid.world
          → P s (record old.world { hashed = noted_all old.world.hashed comes_to.hashes })
      there P h = subst (P s) t.hears.world (subst (λ x. P x mid.world) (setup_same digest old mid t.hears.setup) h)

      pub done : (new : world.Played H) (outcome : Outcome) → Went digest mid new e outcome → Tries digest old new r (Some e)
      done new outcome g =
          let is : is_refused comes_to.outcome ≡ false = not_true (is_refused comes_to.outcome) (sym t.passes) in
          let next : World = applied old.world comes_to in
          let went = there (λ x w. event x w e ≡ run.Went (pending x w e) new.world) g.goes.went in
          let left : next ≡ new.world = sym (played_is s old.world r e has clear t.goes new.world went) in
          record {
            setup = same_again old mid new t.hears.setup g.setup;
            halt = g.going.1 ∙ sym t.hears.going.0;
            stays = λ earlier h. absurd (not_both old earlier t.hears.going.0 h);
            comes = λ go. ap (λ o. tried_if s old.world r o go) has ∙ ap (λ a. tried r e a go) t.goes
                ∙ ap (λ b. if b then keeps r (go next) else takes e (go next)) is ∙ ap (λ x. takes e (go x)) left;
            adds = λ later. ap (λ o. taken_if s old.world o later) has ∙ ap (λ a. taken_before e a later) t.goes
                ∙ ap (λ b. if b then later next else e ∷ later next) is ∙ ap (λ x. e ∷ later x) left;
            grows = ap events_of g.goes.trace
                ∙ map-append (λ (x : Record). x.event) mid.trace (record_of e (pending (setup_in digest mid) mid.world e) ∷ [])
                ∙ ap (λ rs. events_of rs ++ e ∷ []) t.hears.trace;
          }

      -- nothing but out of memory can halt it then
      memory_only : (messages : List (List ℕ)) (halt : Halt) → Halts (setup_in digest mid) mid.world messages e halt → halt ≡ halts.Memory
      memory_only messages (halts.Collided earlier later) h =
          absurd (not_halted s old.world r e has clear t.goes (run.Collided earlier later)
          (there (λ x w. event x w e ≡ Halted (run.Collided earlier later)) (h.cause (run.Collided earlier later) refl)))
      memory_only messages (halts.Guessed party secret) h =
          absurd (not_halted s old.world r e has clear t.goes (run.Guessed party secret)
          (there (λ x w. event x w e ≡ Halted (run.Guessed party secret)) (h.cause (run.Guessed party secret) refl)))
      memory_only messages halts.Memory h = refl

      pub event_stops : (new : world.Played H) (halt : Halt) → Stopped digest mid new e halt → StopsTrying digest old new r halt
      event_stops new halt g =
          let memory : halt ≡ halts.Memory = memory_only new.world.hashed halt (g.cause t.hears.going.1) in
          record {
            setup = same_again old mid new t.hears.setup g.setup;
            kept = g.kept ∙ ap (λ (w : World). record w { hashed = new.world.hashed }) t.hears.world;
            trace = g.trace ∙ t.hears.trace;
            halted = λ none. g.halted t.hears.going.1;
            again = λ earlier h. absurd (not_both old earlier t.hears.going.0 h);
            cause = λ none. record {
              comes = λ go x is. absurd (none-some x (ap halt_of (sym memory) ∙ is));
              adds = λ other later. absurd (other memory);
            };
          }

    -- trying it halts
    ends : (messages : List (List ℕ)) (halt : Halt) → Halts s old.world messages e halt → Ends s old.world r halt
    ends messages halt h = record {
      comes = λ go x is. ap (λ o. tried_if s old.world r o go) has ∙ ap (λ a. tried r e a go) (h.cause x is);
      adds = λ other later.
          let n = halt_named halt other in
          ap (λ o. taken_if s old.world o later) has ∙ ap (λ a. taken_before e a later) (h.cause n.0 n.1);
    }

    pub test_stops : (new : world.Played H) (halt : Halt) → Stopped digest old new e halt → StopsTrying digest old new r halt
    test_stops new halt g = record {
      setup = g.setup;
      kept = g.kept;
      trace = g.trace;
      halted = g.halted;
      again = g.again;
      cause = λ none. ends new.world.hashed halt (g.cause none);
    }
