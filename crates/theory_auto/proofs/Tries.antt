-- What a round comes to when the event of a rule is tried: it halts, the rule is kept, or it is taken.
use Rattle.std.proofs.Common.{◌≡◌, ℕ, List, [], ◌∷◌, ◌++◌, length, Bool, true, false, Option, Some, None, Ok, Err, refl, sym, ap, ◌∙◌}
use Rattle.std.proofs.Common.{subst, append_assoc}
use Rattle.std.specs.Prelude.{if◌then◌else◌, IsPermutation}
use Rattle.std.specs.List.{AllByRecursion}
use Rattle.std.proofs.lemmas.List.Sorted.{IsPermutation-refl, IsPermutation-cons, IsPermutation-middle, IsPermutation-trans}
use Rattle.spec_run.specs.declared.event.Event.{Event}
use Rattle.spec_run.specs.declared.header.HeldSecret.{HeldSecret}
use Rattle.spec_data.specs.Lists.{is_among}
use Rattle.spec_data.specs.Messages.{noted_all, collision}
use Rattle.spec_run.specs.Setup.{Setup}
use Rattle.spec_run.specs.World.{World}
use Rattle.spec_run.specs.Pending.{Pending, Halt, Went, Halted, Collided, Guessed, guess, apply, applied}
use Rattle.spec_run.specs.Event.{pending, event}
use Rattle.spec_run.specs.Halting.{HaltIsThere}
use Rattle.spec_run.specs.Values.{is_refused, RefusedKept}
use Rattle.spec_tool.specs.declared.rule.Rule.{Rule}
use Rattle.spec_tool.specs.Turns.{rule_event, Progress, Progressed, keeps, takes, tried, round}
use Rattle.theory_world.specs.KeptApart.{NoCollision}
use Rattle.theory_world.proofs.Hashed.{no_collision, all_new, all_more}
use Rattle.theory_world.proofs.Refused.{refusals_keep}
use Rattle.theory_run.proofs.Halting.Halts.{collides, calm_is, guesses}
use Rattle.theory_auto.specs.Continued.{AreTaken, HaltsAt}
use Rattle.theory_run.proofs.Fewer.{Within, all_within, collision_within}
use Rattle.theory_run.proofs.Events.Hashless.{carried, pending_same}
use Rattle.theory_auto.proofs.HashlessRules.{rule_same}

-- ---- rules that rest

-- the event is refused whatever else was hashed, and what it hashes was hashed
pub record RestsBy (s : Setup) (w : World) (hs : List (List ℕ)) (e : Event) : Type 0 where
  pub refused : is_refused (pending s w e).outcome ≡ true
  pub heard : Within (pending s w e).hashes hs
  pub unguessed : guess s w.posted (pending s w e).posts (pending s w e).allowed ≡ None

abbrev pub RestsIf : Setup → World → List (List ℕ) → Option Event → Type 0
RestsIf s w hs None = Unit {0}
RestsIf s w hs (Some e) = RestsBy s w hs e

abbrev pub Rests : Setup → World → List (List ℕ) → Rule → Type 0
Rests s w hs r = RestsIf s w hs (rule_event s w r)

-- ---- what some rules come to

-- from the world with these messages on: which rules were taken, and the world of the run that they lead to
pub record Moved (s : Setup) (w : World) (hs : List (List ℕ)) (rules : List Rule) (p : Progress) : Type 0 where
  pub taken : List Rule
  pub last : World
  pub each_once : IsPermutation (taken ++ p.left) rules
  pub by : AreTaken s w taken p.events last
  pub world : p.world ≡ record last { hashed = p.world.hashed }
  pub within : Within last.hashed p.world.hashed
  pub clear : NoCollision s.hash p.world.hashed
  pub grown : Within hs p.world.hashed
  pub rests : length p.events ≡ 0 → AllByRecursion (Rests s w p.world.hashed) p.left

abbrev pub MovesBy : Setup → World → List (List ℕ) → List Rule → Progressed → Type 0
MovesBy s w hs rules (Ok p) = Moved s w hs rules p
MovesBy s w hs rules (Err halt) = HaltsAt s w rules halt

-- ---- a rule that is kept

halts_kept : (s : Setup) (w : World) (r : Rule) (rs : List Rule) (halt : Halt) → HaltsAt s w rs halt → HaltsAt s w (r ∷ rs) halt
halts_kept s w r rs halt h = record {
  rules_taken = h.rules_taken;
  events = h.events;
  last = h.last;
  taken = h.taken;
  tried = h.tried;
  world = h.world;
  rule = h.rule;
  others = r ∷ h.others;
  each_once =
      let one = h.rule ∷ [] in
      let prefix : IsPermutation (h.rules_taken ++ h.rule ∷ (r ∷ h.others)) (r ∷ ((h.rules_taken ++ one) ++ h.others)) =
      subst (λ xs. IsPermutation xs (r ∷ ((h.rules_taken ++ one) ++ h.others))) (append_assoc h.rules_taken one (r ∷ h.others))
      (IsPermutation-middle (h.rules_taken ++ one) r h.others) in
      let back : IsPermutation ((h.rules_taken ++ one) ++ h.others) rs =
      subst (λ xs. IsPermutation xs rs) (sym (append_assoc h.rules_taken one h.others)) h.each_once in
      IsPermutation-trans _ _ _ prefix (IsPermutation-cons r ((h.rules_taken ++ one) ++ h.others) rs back);
  halting = h.halting;
  has = h.has;
  halts = h.halts;
  there = h.there;
}

pub kept_moved : (s : Setup) (w : World) (hs more : List (List ℕ)) (r : Rule) (rs : List Rule) (x : Progressed) → Within hs more
    → ((later : List (List ℕ)) → Within more later → Rests s w later r) → MovesBy s w more rs x → MovesBy s w hs (r ∷ rs) (keeps r x)
kept_moved s w hs more r rs (Err halt) grows rests m = halts_kept s w r rs halt m
kept_moved s w hs more r rs (Ok p) grows rests m = record {
  taken = m.taken;
  last = m.last;
  each_once = IsPermutation-trans _ _ _ (IsPermutation-middle m.taken r p.left) (IsPermutation-cons r (m.taken ++ p.left) rs m.each_once);
  by = m.by;
  world = m.world;
  within = m.within;
  clear = m.clear;
  grown = λ t i. m.grown t (grows t i);
  rests = λ none. (rests p.world.hashed m.grown, m.rests none);
}

-- ---- a rule that is taken

module _ (s : Setup) (w next : World) (d : Pending) (r : Rule) (e : Event) (has : rule_event s w r ≡ Some e)
    (went : event s w e ≡ Went d next)
    (not_refused : is_refused d.outcome ≡ false) where
  taken_first : (rs : List Rule) (es : List Event) (last : World) → AreTaken s next rs es last → AreTaken s w (r ∷ rs) (e ∷ es) last
  taken_first rs es last t = record { has = has; came_to = d; next = next; went = went; not_refused = not_refused; goes_on = t }

  pub taken_moved : (hs more : List (List ℕ)) (rs : List Rule) (x : Progressed) → Within hs more → MovesBy s next more rs x
      → MovesBy s w hs (r ∷ rs) (takes e x)
  taken_moved hs more rs (Err halt) grows h = record {
    rules_taken = r ∷ h.rules_taken;
    events = e ∷ h.events;
    last = h.last;
    taken = taken_first h.rules_taken h.events h.last h.taken;
    tried = h.tried;
    world = h.world;
    rule = h.rule;
    others = h.others;
    each_once = IsPermutation-cons r (h.rules_taken ++ h.rule ∷ h.others) rs h.each_once;
    halting = h.halting;
    has = h.has;
    halts = h.halts;
    there = h.there;
  }
  taken_moved hs more rs (Ok p) grows m = record {
    taken = r ∷ m.taken;
    last = m.last;
    each_once = IsPermutation-cons r (m.taken ++ p.left) rs m.each_once;
    by = taken_first m.taken p.events m.last m.by;
    world = m.world;
    within = m.within;
    clear = m.clear;
    grown = λ t i. m.grown t (grows t i);
    rests = λ none. cc;
  }

-- ---- a rule whose event is tried

-- the rules behind it move on from any world
abbrev GoesOn : Setup → List Rule → Type 0
GoesOn s rs = (w : World) (hs : List (List ℕ)) → Within w.hashed hs → NoCollision s.hash hs
    → MovesBy s w hs rs (round s (record w { hashed = hs }) rs)

module _ (s : Setup) (w : World) (hs : List (List ℕ)) (r : Rule) (rs : List Rule) (e : Event) (has : rule_event s w r ≡ Some e)
    (within : Within w.hashed hs) (clear : NoCollision s.hash hs) (later : GoesOn s rs) where
  abbrev there : World
  there = record w { hashed = hs }

  abbrev comes : Pending
  comes = pending s there e

  abbrev go : World → Progressed
  go next = round s next rs

  halts_here : (halt : Halt) → event s there e ≡ Halted halt → HaltIsThere s there e halt → HaltsAt s w (r ∷ rs) halt
  halts_here halt h is = record {
    rules_taken = [];
    events = [];
    last = w;
    taken = refl;
    tried = there;
    world = record { same = refl; more = within };
    rule = r;
    others = rs;
    each_once = IsPermutation-refl (r ∷ rs);
    halting = e;
    has = rule_same s w hs r ∙ has;
    halts = h;
    there = is;
  }

  -- nothing halts it
  module _ (calm : collision s.hash hs comes.hashes ≡ None) (unguessed : guess s w.posted comes.posts comes.allowed ≡ None) where
    abbrev after : List (List ℕ)
    after = noted_all hs comes.hashes

    same : comes ≡ carried hs (pending s w e)
    same = pending_same s w hs e

    went : event s there e ≡ Went comes (applied there comes)
    went = rw (calm, unguessed) refl

    grows : Within hs after
    grows = λ t i. all_more hs comes.hashes t i

    refused_moved : is_refused comes.outcome ≡ true → MovesBy s w hs (r ∷ rs) (keeps r (go (applied there comes)))
    refused_moved refused =
        let kept : applied there comes ≡ record w { hashed = after } = subst (RefusedKept there) went (refusals_keep s there e) refused in
        let more : Within w.hashed after = λ t i. grows t (within t i) in
        let m = later w after more (no_collision s.hash hs comes.hashes clear calm) in
        let rests : (x : List (List ℕ)) → Within after x → Rests s w x r =
        λ x h. subst (RestsIf s w x) (sym has) (record {
          refused = ap (λ (d : Pending). is_refused d.outcome) (sym same) ∙ refused;
          heard = λ t i. h t (all_new hs comes.hashes t (ap (λ (d : Pending). is_among t d.hashes) same ∙ i));
          unguessed = ap (λ (d : Pending). guess s w.posted d.posts d.allowed) (sym same) ∙ unguessed;
        }) in
        subst (λ x. MovesBy s w hs (r ∷ rs) (keeps r (go x))) (sym kept)
        (kept_moved s w hs after r rs (go (record w { hashed = after })) grows rests m)

    done_moved : is_refused comes.outcome ≡ false → MovesBy s w hs (r ∷ rs) (takes e (go (applied there comes)))
    done_moved done =
        let d = pending s w e in
        let next = applied w d in
        let hs' = noted_all hs d.hashes in
        let calm' : collision s.hash hs d.hashes ≡ None = ap (λ (x : Pending). collision s.hash hs x.hashes) (sym same) ∙ calm in
        let unguessed' : guess s w.posted d.posts d.allowed ≡ None = ap (λ (x : Pending). guess s w.posted x.posts x.allowed) (sym same)
        ∙ unguessed in
        let calm_there : collision s.hash w.hashed d.hashes ≡ None = collision_within s.hash w.hashed hs d.hashes within calm' in
        let went_there : event s w e ≡ Went d next = rw (calm_there, unguessed') refl in
        let is : applied there comes ≡ record next { hashed = hs' } = ap (applied there) same in
        let m = later next hs' (all_within w.hashed hs d.hashes within) (no_collision s.hash hs d.hashes clear calm') in
        let done' : is_refused d.outcome ≡ false = ap (λ (x : Pending). is_refused x.outcome) (sym same) ∙ done in
        subst (λ x. MovesBy s w hs (r ∷ rs) (takes e (go x))) (sym is)
        (taken_moved s w next d r e has went_there done' hs hs' rs (go (record next { hashed = hs' })) (λ t i. all_more hs d.hashes t i) m)

    went_moved : (b : Bool) → is_refused comes.outcome ≡ b
        → MovesBy s w hs (r ∷ rs) (if b then keeps r (go (applied there comes)) else takes e (go (applied there comes)))
    went_moved true h = refused_moved h
    went_moved false h = done_moved h

  answer_moved : (c : Option (List ℕ × List ℕ)) (g : Option HeldSecret) → collision s.hash hs comes.hashes ≡ c
      → guess s w.posted comes.posts comes.allowed ≡ g → MovesBy s w hs (r ∷ rs) (tried r e (apply there comes c g) go)
  answer_moved (Some pair) g ec eu =
      halts_here (Collided (pair.0) (pair.1))
      (ap (λ o. apply there comes o (guess s w.posted comes.posts comes.allowed)) ec)
      (collides s.hash hs comes.hashes (pair.0) (pair.1) clear ec)
  answer_moved None (Some held) ec eu =
      halts_here (Guessed held.party held.name) (rw (ec, eu) refl)
      (calm_is s.hash hs comes.hashes clear ec, guesses s there e s.header.secrets held eu)
  answer_moved None None ec eu = went_moved ec eu (is_refused comes.outcome) refl

  pub tried_moved : MovesBy s w hs (r ∷ rs) (tried r e (event s there e) go)
  tried_moved = answer_moved (collision s.hash hs comes.hashes) (guess s w.posted comes.posts comes.allowed) refl refl
