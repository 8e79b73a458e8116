-- The rows of a run hold its events, each once.
use Rattle.std.proofs.Common.{◌≡◌, ℕ, zero, suc, ◌+◌, ◌-◌, ◌≤◌, List, [], ◌∷◌, length, Bool, true, false, refl, arith, ap, ◌∙◌}
use Rattle.std.specs.Prelude.{if◌then◌else◌, nat_le}
use Rattle.std.proofs.lemmas.Bool.Decides.{nat_tests}
use Rattle.spec_run.specs.Translation.{Turn}
use Rattle.spec_page.specs.Moments.{Moment, after_turn}
use Rattle.spec_page.specs.Folds.{Fold, may_share, longer, fold_of, folded_from, folded}
use Rattle.spec_page.specs.Stops.{most_rows, is_refusal, fold_look, count_refused, with_room, thinned, shown_folds, held_in}
use Rattle.spec_page.specs.Statements.{HoldFrom, RisesFrom, others_of, AllRowsHoldEvents}

-- ---- all rows

hold_from : (f : Fold) (ts : List Turn) → f.first ≤ f.last → HoldFrom f.first (folded_from f ts)
hold_from f [] h = (refl, h, tt)
hold_from f (t ∷ ts) h =
    by_share (may_share f.turn t) (hold_from (longer f t (after_turn f.moment t)) ts (omega (arith, h)))
    (hold_from (fold_of (f.last + 1) t (after_turn f.moment t)) ts (omega arith))
  where
    by_share : (share : Bool)
        → HoldFrom f.first (folded_from (longer f t (after_turn f.moment t)) ts)
        → HoldFrom (f.last + 1) (folded_from (fold_of (f.last + 1) t (after_turn f.moment t)) ts)
        → HoldFrom f.first (if share then folded_from (longer f t (after_turn f.moment t)) ts
        else f ∷ folded_from (fold_of (f.last + 1) t (after_turn f.moment t)) ts)
    by_share true joins parts = joins
    by_share false joins parts = (refl, h, parts)

held_all : (f : Fold) (ts : List Turn) → f.first ≤ f.last → held_in (folded_from f ts) ≡ (f.last - f.first + 1) + length ts
held_all f [] h = omega arith
held_all f (t ∷ ts) h =
    by_share (may_share f.turn t) (held_all (longer f t (after_turn f.moment t)) ts (omega (arith, h)))
    (held_all (fold_of (f.last + 1) t (after_turn f.moment t)) ts (omega arith))
  where
    by_share : (share : Bool)
        → held_in (folded_from (longer f t (after_turn f.moment t)) ts) ≡ (f.last + 1 - f.first + 1) + length ts
        → held_in (folded_from (fold_of (f.last + 1) t (after_turn f.moment t)) ts) ≡ (f.last + 1 - (f.last + 1) + 1) + length ts
        → held_in (if share then folded_from (longer f t (after_turn f.moment t)) ts
        else f ∷ folded_from (fold_of (f.last + 1) t (after_turn f.moment t)) ts) ≡ (f.last - f.first + 1) + suc (length ts)
    by_share true joins parts = omega (arith, joins, h)
    by_share false joins parts = omega (arith, parts, h)

all_hold : (m : Moment) (ts : List Turn) → HoldFrom 1 (folded m ts)
all_hold m [] = tt
all_hold m (t ∷ ts) = hold_from (fold_of 1 t (after_turn m t)) ts (omega arith)

all_held : (m : Moment) (ts : List Turn) → held_in (folded m ts) ≡ length ts
all_held m [] = refl
all_held m (t ∷ ts) = let h = held_all (fold_of 1 t (after_turn m t)) ts (omega arith) in omega (arith, h)

-- ---- those that are shown

rises : (n : ℕ) (fs : List Fold) → HoldFrom n fs → RisesFrom n fs
rises n [] h = tt
rises n (f ∷ fs) h = (omega (arith, h.0), h.1, rises (f.last + 1) fs h.2)

rises_later : (n m : ℕ) (fs : List Fold) → n ≤ m → RisesFrom m fs → RisesFrom n fs
rises_later n m [] k h = tt
rises_later n m (f ∷ fs) k h = (omega (arith, k, h.0), h.1, h.2)

room_rises : (k n : ℕ) (f : Fold) (fs : List Fold) → n ≤ f.first → f.first ≤ f.last → RisesFrom (f.last + 1) fs → RisesFrom n (with_room k f fs)
room_rises zero n f fs a b h = rises_later n (f.last + 1) fs (omega (arith, a, b)) h
room_rises (suc k) n f fs a b h = (a, b, h)

thinned_rises : (r o n : ℕ) (fs : List Fold) → RisesFrom n fs → RisesFrom n (thinned r o fs)
thinned_rises r o n [] h = tt
thinned_rises r o n (f ∷ fs) h =
    by_look (is_refusal (fold_look f)) (room_rises r n f _ h.0 h.1 (thinned_rises (r - 1) o (f.last + 1) fs h.2))
    (room_rises o n f _ h.0 h.1 (thinned_rises r (o - 1) (f.last + 1) fs h.2))
  where
    by_look : (refused : Bool) → RisesFrom n (with_room r f (thinned (r - 1) o fs)) → RisesFrom n (with_room o f (thinned r (o - 1) fs))
        → RisesFrom n (if refused then with_room r f (thinned (r - 1) o fs) else with_room o f (thinned r (o - 1) fs))
    by_look true a b = a
    by_look false a b = b

-- ---- how many they are

room_long : (k : ℕ) (f : Fold) (fs : List Fold) (m : ℕ) → length fs ≤ (k - 1) + m → length (with_room k f fs) ≤ k + m
room_long zero f fs m h = omega (arith, h)
room_long (suc k) f fs m h = omega (arith, h)

-- as much as there is room for
thinned_long : (r o : ℕ) (fs : List Fold) → length (thinned r o fs) ≤ r + o
thinned_long r o [] = omega arith
thinned_long r o (f ∷ fs) =
    by_look (is_refusal (fold_look f)) (room_long r f _ o (thinned_long (r - 1) o fs))
    (let h = thinned_long r (o - 1) fs in room_long o f _ r (omega (arith, h)))
  where
    by_look : (refused : Bool) → length (with_room r f (thinned (r - 1) o fs)) ≤ r + o → length (with_room o f (thinned r (o - 1) fs)) ≤ o + r
        → length (if refused then with_room r f (thinned (r - 1) o fs) else with_room o f (thinned r (o - 1) fs)) ≤ r + o
    by_look true a b = a
    by_look false a b = omega (arith, b)

refused_few : (fs : List Fold) → count_refused fs ≤ length fs
refused_few [] = omega arith
refused_few (f ∷ fs) = by_look (is_refusal (fold_look f)) (refused_few fs)
  where
    by_look : (refused : Bool) → count_refused fs ≤ length fs → (if refused then 1 else 0) + count_refused fs ≤ suc (length fs)
    by_look true h = omega (arith, h)
    by_look false h = omega (arith, h)

room_any : (k : ℕ) (f : Fold) (fs : List Fold) → length (with_room k f fs) ≤ length fs + 1
room_any zero f fs = omega arith
room_any (suc k) f fs = omega arith

-- the refused ones for which there is room, and the others
others_long : (r o : ℕ) (fs : List Fold) → length (thinned r o fs) + count_refused fs ≤ r + length fs
others_long r o [] = omega arith
others_long r o (f ∷ fs) =
    by_look (is_refusal (fold_look f)) (others_long (r - 1) o fs) (others_long r (o - 1) fs)
  where
    by_look : (refused : Bool)
        → length (thinned (r - 1) o fs) + count_refused fs ≤ (r - 1) + length fs
        → length (thinned r (o - 1) fs) + count_refused fs ≤ r + length fs
        → length (if refused then with_room r f (thinned (r - 1) o fs) else with_room o f (thinned r (o - 1) fs))
        + ((if refused then 1 else 0) + count_refused fs) ≤ r + suc (length fs)
    by_look true a b =
        let c = refused_few fs in
        let k = room_long r f (thinned (r - 1) o fs) (length fs - count_refused fs) (omega (arith, a, c)) in omega (arith, k, c)
    by_look false a b = let k = room_any o f (thinned r (o - 1) fs) in omega (arith, b, k)

few_shown : (fs : List Fold) → length (shown_folds fs) ≤ most_rows
few_shown fs =
    by_size (nat_le (length fs) most_rows) refl (thinned_long (most_rows - (length fs - count_refused fs)) most_rows fs)
    (others_long (most_rows - (length fs - count_refused fs)) most_rows fs) (refused_few fs)
  where
    by_size : (small : Bool) → nat_le (length fs) most_rows ≡ small
        → length (thinned (most_rows - (length fs - count_refused fs)) most_rows fs) ≤ (most_rows - (length fs - count_refused fs)) + most_rows
        → length (thinned (most_rows - (length fs - count_refused fs)) most_rows fs) + count_refused fs
        ≤ (most_rows - (length fs - count_refused fs)) + length fs
        → count_refused fs ≤ length fs
        → length (if small then fs else thinned (most_rows - (length fs - count_refused fs)) most_rows fs) ≤ most_rows
    by_size true e a b c = grind (arith, nat_tests, e)
    by_size false e a b c = omega (arith, a, b, c)

-- ---- how many events they hold

room_held : (k : ℕ) (f : Fold) (fs : List Fold) → held_in (with_room k f fs) ≤ (f.last - f.first + 1) + held_in fs
room_held zero f fs = omega arith
room_held (suc k) f fs = omega arith

thinned_held : (r o : ℕ) (fs : List Fold) → held_in (thinned r o fs) ≤ held_in fs
thinned_held r o [] = omega arith
thinned_held r o (f ∷ fs) =
    by_look (is_refusal (fold_look f)) (thinned_held (r - 1) o fs) (thinned_held r (o - 1) fs)
  where
    by_look : (refused : Bool) → held_in (thinned (r - 1) o fs) ≤ held_in fs → held_in (thinned r (o - 1) fs) ≤ held_in fs
        → held_in (if refused then with_room r f (thinned (r - 1) o fs) else with_room o f (thinned r (o - 1) fs))
        ≤ (f.last - f.first + 1) + held_in fs
    by_look true a b = let k = room_held r f (thinned (r - 1) o fs) in omega (arith, a, k)
    by_look false a b = let k = room_held o f (thinned r (o - 1) fs) in omega (arith, b, k)

shown_rise : (small : Bool) (r : ℕ) (fs : List Fold) → RisesFrom 1 fs → RisesFrom 1 (if small then fs else thinned r most_rows fs)
shown_rise true r fs h = h
shown_rise false r fs h = thinned_rises r most_rows 1 fs h

shown_held : (small : Bool) (r : ℕ) (fs : List Fold) → held_in (if small then fs else thinned r most_rows fs) ≤ held_in fs
shown_held true r fs = omega arith
shown_held false r fs = thinned_held r most_rows fs

-- ---- the refused ones go first

one_refused : (r : ℕ) (f : Fold) (fs : List Fold) → is_refusal (fold_look f) ≡ true → others_of (with_room r f fs) ≡ others_of fs
one_refused zero f fs e = refl
one_refused (suc r) f fs e = ap (λ (refused : Bool). if refused then others_of fs else (f ∷ others_of fs)) e

one_other : (o : ℕ) (f : Fold) (fs : List Fold) → is_refusal (fold_look f) ≡ false → 1 ≤ o → others_of (with_room o f fs) ≡ f ∷ others_of fs
one_other zero f fs e h = absurd (omega (arith, h))
one_other (suc o) f fs e h = ap (λ (refused : Bool). if refused then others_of fs else (f ∷ others_of fs)) e

others_kept : (r o : ℕ) (fs : List Fold) → length (others_of fs) ≤ o → others_of (thinned r o fs) ≡ others_of fs
others_kept r o [] h = refl
others_kept r o (f ∷ fs) h =
    by_look (is_refusal (fold_look f)) refl h (λ k. others_kept (r - 1) o fs k) (λ k. others_kept r (o - 1) fs k)
  where
    by_look : (refused : Bool) → is_refusal (fold_look f) ≡ refused → length (if refused then others_of fs else (f ∷ others_of fs)) ≤ o
        → (length (others_of fs) ≤ o → others_of (thinned (r - 1) o fs) ≡ others_of fs)
        → (length (others_of fs) ≤ o - 1 → others_of (thinned r (o - 1) fs) ≡ others_of fs)
        → others_of (if refused then with_room r f (thinned (r - 1) o fs) else with_room o f (thinned r (o - 1) fs))
        ≡ (if refused then others_of fs else (f ∷ others_of fs))
    by_look true e k a b = one_refused r f (thinned (r - 1) o fs) e ∙ a k
    by_look false e k a b =
        one_other o f (thinned r (o - 1) fs) e (omega (arith, k)) ∙ ap (λ (gs : List Fold). f ∷ gs) (b (omega (arith, k)))

all_kept : (small : Bool) (r : ℕ) (fs : List Fold) → length (others_of fs) ≤ most_rows
    → others_of (if small then fs else thinned r most_rows fs) ≡ others_of fs
all_kept true r fs h = refl
all_kept false r fs h = others_kept r most_rows fs h

pub rows_hold_events : AllRowsHoldEvents
rows_hold_events m ts =
    let fs = folded m ts in
    let e = all_held m ts in
    let k = shown_held (nat_le (length fs) most_rows) (most_rows - (length fs - count_refused fs)) fs in
    record {
      each = all_hold m ts;
      all = e;
      rising = shown_rise (nat_le (length fs) most_rows) (most_rows - (length fs - count_refused fs)) fs (rises 1 fs (all_hold m ts));
      few = few_shown fs;
      counted = omega (arith, k, e);
      kept = all_kept (nat_le (length fs) most_rows) (most_rows - (length fs - count_refused fs)) fs;
    }
