-- Events that are played one after another make a run.
use Rattle.std.proofs.Common.{◌≡◌, ℕ, List, [], ◌∷◌, ◌++◌, map, Option, Some, None, refl, sym, ap, subst, ◌∙◌, append_assoc, append-nil, ◌+◌, ◌<◌, ◌≤◌, length, length-append, arith, zero, suc, drop, get_or, add-one}
use Rattle.std.specs.Prelude.{slice_get, option_map}
use Rattle.std.proofs.lemmas.Option.{none-some, same_Some}
use Rattle.std.proofs.Math.Seq.{drop-cons}
use Rattle.std.proofs.Math.ListN.{drop_of_length-le}
use Rattle.std.proofs.lemmas.List.{map-append, length-map}
use Rattle.spec_run.specs.declared.event.Event.{Event}
use Rattle.spec_run.specs.declared.outcome.Record.{Record}
use Rattle.spec_run.specs.Setup.{Setup}
use Rattle.spec_run.specs.World.{World}
use Rattle.spec_run.specs.Pending.{Answer, Pending, Went, Halted}
use Rattle.spec_run.specs.Pending as run
use Rattle.spec_run.specs.Event.{Passed, Progress, onto_passed, goes_on, played_from, record_of, event, pending}
use Rattle.spec_run.specs.Translation.{world_after}
use Rattle.bm_world.specs.Playing as world
use Rattle.bm_world.specs.Playing.{most_records, setup_in, SameSetup, Stopped}
use Rattle.bm_world.specs.Halts.{halt_of}
use Rattle.bm_world.specs.declared.halt.Halt.{Halt}
use Rattle.tool_replies.specs.Going.{GoesOn, Stops, Steps, record_passed, behind, Midway, Plays}

-- ---- lists of events that went on

behind-onto : (prefix : List Passed) (p : Passed) (later : Progress) → behind prefix (onto_passed p later) ≡ behind (prefix ++ p ∷ []) later
behind-onto [] p later = refl
behind-onto (q ∷ prefix) p later = ap (onto_passed q) (behind-onto prefix p later)

passed-behind : (prefix : List Passed) (later : Progress) → (behind prefix later).passed ≡ prefix ++ later.passed
passed-behind [] later = refl
passed-behind (q ∷ prefix) later = ap (λ ps. q ∷ ps) (passed-behind prefix later)

halt-behind : (prefix : List Passed) (later : Progress) → (behind prefix later).halt ≡ later.halt
halt-behind [] later = refl
halt-behind (q ∷ prefix) later = halt-behind prefix later

world_after-last : (w : World) (prefix : List Passed) (p : Passed) → world_after w (prefix ++ p ∷ []) ≡ p.world
world_after-last w [] p = refl
world_after-last w (q ∷ prefix) p = world_after-last q.world prefix p

-- ---- setups

pub setup_same : {H : Type 0} (digest : H → List ℕ → List ℕ) (old new : world.Played H) → SameSetup old new → setup_in digest new ≡ setup_in digest old
setup_same digest old new h = λ i. record { hash = digest (h.hasher i); header = h.header i; contracts = h.contracts i }

same_again : {H : Type 0} (old mid new : world.Played H) → SameSetup old mid → SameSetup mid new → SameSetup old new
same_again old mid new h k = record { hasher = k.hasher ∙ h.hasher; header = k.header ∙ h.header; contracts = k.contracts ∙ h.contracts }

-- ---- one event

-- it was halted by this
halt_there : (o : Option run.Halt) (a : Answer) → Some a ≡ option_map Halted o → (h : run.Halt) × (o ≡ Some h) × (a ≡ Halted h)
halt_there None a e = absurd (none-some a (sym e))
halt_there (Some h) a e = (h, refl, same_Some a (Halted h) e)

-- ---- one event more

add_zero : (n : ℕ) → 0 + n ≡ n
add_zero n = omega arith

-- the event of a number, and those after it
pub rest_is : (es : List Event) (n : ℕ) (e : Event) → n < length es → e ≡ get_or es n e → drop n es ≡ e ∷ drop (n + 1) es
rest_is es n e less h = drop-cons es n e less ∙ ap (λ (x : Event). x ∷ drop (suc n) es) (sym h) ∙ ap (λ m. e ∷ drop m es) (sym (add-one n))

pub found_at : (es : List Event) (n : ℕ) (e : Event) → n < length es → e ≡ get_or es n e → slice_get es n ≡ Some e
found_at [] n e less h = absurd (omega arith)
found_at (x ∷ es) zero e less h = ap Some (sym h)
found_at (x ∷ es) (suc n) e less h = found_at es n e (omega arith) h

-- before any event
pub begin : {H : Type 0} (digest : H → List ℕ → List ℕ) (old : world.Played H) (es : List Event) → old.halt ≡ None → Midway digest old old es es
begin digest old es h = record {
  setup = record { hasher = refl; header = refl; contracts = refl };
  going = h;
  prefix = [];
  joined = refl;
  left = refl;
  count = add_zero (length es);
  trace = sym (append-nil old.trace);
}

module _ {H : Type 0} (digest : H → List ℕ → List ℕ) (old mid new : world.Played H) (es rest : List Event) (e : Event) (m : Midway digest old mid es (e ∷ rest)) where
  abbrev s : Setup
  s = setup_in digest old

  abbrev the_pending : Pending
  the_pending = pending s mid.world e

  abbrev one : Passed
  one = record { event = e; pending = the_pending; world = new.world }

  -- there is room for its record
  pub room : length old.trace + length es ≤ most_records → length mid.trace < most_records
  room few =
      let n : length mid.trace ≡ length old.trace + length m.prefix =
      ap length m.trace ∙ length-append old.trace (map record_passed m.prefix) ∙ ap (λ (k : ℕ). length old.trace + k) (length-map m.prefix record_passed) in
      let so_far = m.count in
      omega (arith, n, so_far, few)

  pub one_more : GoesOn digest mid new e → Midway digest old new es rest
  one_more g =
      let same : setup_in digest mid ≡ s = setup_same digest old mid m.setup in
      let went : event s mid.world e ≡ Went the_pending new.world =
      subst (λ (t : Setup). event t mid.world e ≡ Went (pending t mid.world e) new.world) same g.went in
      record {
        setup = same_again old mid new m.setup g.setup;
        going = g.going;
        prefix = m.prefix ++ one ∷ [];
        joined = m.joined ∙ ap (λ (a : Answer). behind m.prefix (goes_on e a (λ next. played_from s next rest))) went
            ∙ behind-onto m.prefix one (played_from s new.world rest);
        left = world_after-last old.world m.prefix one;
        count = let n : length (m.prefix ++ one ∷ []) ≡ length m.prefix + 1 = length-append m.prefix (one ∷ []) in let so_far = m.count in omega (arith, n, so_far);
        trace = g.trace ∙ ap (λ (t : Setup). mid.trace ++ record_of e (pending t mid.world e) ∷ []) same
            ∙ ap (λ (rs : List Record). rs ++ record_of e the_pending ∷ []) m.trace
            ∙ append_assoc old.trace (map record_passed m.prefix) (record_of e the_pending ∷ [])
            ∙ ap (λ (rs : List Record). old.trace ++ rs) (sym (map-append record_passed m.prefix (one ∷ [])));
      }

  pub no_more : (n : ℕ) (halt : Halt) → slice_get es n ≡ Some e → Stops digest mid new e halt → Plays digest old new es (Some (n, halt))
  no_more n halt at g =
      let same : setup_in digest mid ≡ s = setup_same digest old mid m.setup in
      let k = halt_there (halt_of halt) (event (setup_in digest mid) mid.world e) g.stopped in
      let stopped : event s mid.world e ≡ Halted (k.0) =
      subst (λ (t : Setup). event t mid.world e ≡ Halted (k.0)) same (k.2) in
      let last : Progress = record { passed = []; halt = Some (e, k.0) } in
      let whole : played_from s old.world es ≡ behind m.prefix last =
      m.joined ∙ ap (λ (a : Answer). behind m.prefix (goes_on e a (λ next. played_from s next rest))) stopped in
      let passed : (played_from s old.world es).passed ≡ m.prefix =
      ap (λ (p : Progress). p.passed) whole ∙ passed-behind m.prefix last ∙ append-nil m.prefix in
      record {
        setup = same_again old mid new m.setup g.setup;
        going = λ e. absurd (cc);
        stops = (e, k.0, at, k.1, ap (λ (p : Progress). p.halt) whole ∙ halt-behind m.prefix last);
        trace = g.trace ∙ m.trace ∙ ap (λ (ps : List Passed). old.trace ++ map record_passed ps) (sym passed);
        left = g.left ∙ ap (λ (w : World). record w { hashed = new.world.hashed }) (sym m.left ∙ ap (world_after old.world) (sym passed));
        whole = λ e. absurd (cc);
      }

-- by the number of the event
module _ {H : Type 0} (digest : H → List ℕ → List ℕ) (old mid new : world.Played H) (es : List Event) (n : ℕ) (e : Event) (less : n < length es) (here : e ≡ get_or es n e) (m : Midway digest old mid es (drop n es)) where
  midway : Midway digest old mid es (e ∷ drop (n + 1) es)
  midway = subst (Midway digest old mid es) (rest_is es n e less here) m

  pub goes_to_next : (o : Option Halt) → o ≡ None → Steps digest mid new e o → Midway digest old new es (drop (n + 1) es)
  goes_to_next o is g = one_more digest old mid new es (drop (n + 1) es) e midway (subst (Steps digest mid new e) is g)

  pub stops_here : (o : Option Halt) (stop : Halt) → o ≡ Some stop → Steps digest mid new e o → Plays digest old new es (Some (n, stop))
  stops_here o stop is g = no_more digest old mid new es (drop (n + 1) es) e midway n stop (found_at es n e less here) (subst (Steps digest mid new e) is g)

-- after the last event
pub ends : {H : Type 0} (digest : H → List ℕ → List ℕ) (old new : world.Played H) (es : List Event) → Midway digest old new es [] → Plays digest old new es None
ends digest old new es m =
    let s : Setup = setup_in digest old in
    let last : Progress = record { passed = []; halt = None } in
    let passed : (played_from s old.world es).passed ≡ m.prefix =
    ap (λ (p : Progress). p.passed) m.joined ∙ passed-behind m.prefix last ∙ append-nil m.prefix in
    let left : new.world ≡ world_after old.world (played_from s old.world es).passed = sym m.left ∙ ap (world_after old.world) (sym passed) in
    record {
      setup = m.setup;
      going = λ _. m.going;
      stops = ap (λ (p : Progress). p.halt) m.joined ∙ halt-behind m.prefix last;
      trace = m.trace ∙ ap (λ (ps : List Passed). old.trace ++ map record_passed ps) (sym passed);
      left = ap (λ (w : World). record w { hashed = new.world.hashed }) left;
      whole = λ _. left;
    }

pub ends_at : {H : Type 0} (digest : H → List ℕ → List ℕ) (old new : world.Played H) (es : List Event) (n : ℕ) → length es ≤ n
    → Midway digest old new es (drop n es) → Plays digest old new es None
ends_at digest old new es n over m = ends digest old new es (subst (Midway digest old new es) (drop_of_length-le es over) m)
