-- In a run all sums of each row together are the header's deposits.
use Rattle.std.proofs.Common.{◌≡◌, ℕ, zero, suc, ◌+◌, ◌-◌, ◌≤◌, List, [], ◌∷◌, ◌++◌, map, length, Bool, true, false, Option, Some, None, refl, arith}
use Rattle.std.specs.Prelude.{if◌then◌else◌, nat_le, sum_by, flat_map}
use Rattle.std.specs.List.{AllByRecursion}
use Rattle.std.proofs.lemmas.List.Sums.{sum_by-cons}
use Rattle.spec_data.specs.Lists.{is_among, are_different}
use Rattle.spec_terms.specs.Parties.{participants, add_new, add_all}
use Rattle.spec_calculus.specs.declared.parts.Deposit.{Deposit}
use Rattle.spec_calculus.specs.declared.step.Step.{Step}
use Rattle.spec_calculus.specs.declared.step.Owner.TheVariants.{Party}
use Rattle.spec_calculus.specs.Configuration.{Configuration}
use Rattle.spec_calculus.specs.Moves.{made}
use Rattle.spec_calculus.specs.Steps.{fails, effect, owned}
use Rattle.spec_run.specs.declared.event.Event.{Event}
use Rattle.spec_run.specs.declared.outcome.Record.{Record}
use Rattle.spec_run.specs.Setup.{Setup}
use Rattle.spec_run.specs.World.{World}
use Rattle.spec_run.specs.Pending.{Halt}
use Rattle.spec_run.specs.Event.{opening_collision, opening_world}
use Rattle.spec_run.specs.Statements.{IsRun, HoldsFrom}
use Rattle.spec_run.specs.Translation.{Turn, Course, record_in, opening_configuration, course}
use Rattle.theory_calculus.specs.Money.{total_money}
use Rattle.theory_calculus.proofs.Funded.{IsFine}
use Rattle.theory_calculus.proofs.Kept.{fine_after, never_grows, opening_fine}
use Rattle.theory_calculus.proofs.Runs.{kept_along}
use Rattle.theory_run.specs.Sound.{IsSound, sound_after, RunsAreSound}
use Rattle.theory_text.proofs.ListFacts.{different_push}
use Rattle.spec_page.specs.Moments.{Moment, first_moment, after_turn}
use Rattle.spec_page.specs.Balances.{columns, all_money, money_of}
use Rattle.spec_page.specs.Folds.{Fold, may_share, longer, fold_of, folded_from, folded}
use Rattle.spec_page.specs.Stops.{Stop, fold_stop, most_rows, is_refusal, fold_look, with_room, thinned, shown_folds, last_moment}
use Rattle.spec_page.specs.Stops.{more_stops, halt_stops, stops_in, stops_from, count_refused, held_in}
use Rattle.spec_page.specs.Statements.{all_of_it, RowsAreWhole}
use Rattle.theory_page.proofs.Whole.{money_is_whole}

-- ---- what is there at the opening

made_worth : (n : ℕ) (ds : List (List ℕ × ℕ)) → sum_by (λ (d : Deposit). d.value) (made n (owned ds)) ≡ sum_by (λ (d : List ℕ × ℕ). d.1) ds
made_worth n [] = refl
made_worth n (d ∷ ds) =
    let first : Deposit = record { number = n; owner = Party (d.0); value = d.1 } in
    let here = sum_by-cons (λ (e : Deposit). e.value) first (made (n + 1) (owned ds)) in
    let there = sum_by-cons (λ (e : List ℕ × ℕ). e.1) d ds in
    let rest = made_worth (n + 1) ds in
    omega (arith, here, there, rest)

-- ---- columns

new_or_not : (among : Bool) (names : List (List ℕ)) (name : List ℕ) → is_among name names ≡ among → are_different names ≡ true
    → are_different (if among then names else (names ++ name ∷ [])) ≡ true
new_or_not true names name e h = h
new_or_not false names name e h = different_push names name h e

added_differ : (names new : List (List ℕ)) → are_different names ≡ true → are_different (add_all names new) ≡ true
added_differ names [] h = h
added_differ names (x ∷ xs) h = added_differ (add_new names x) xs (new_or_not (is_among x names) names x refl h)

columns_differ : (s : Setup) → are_different (columns s) ≡ true
columns_differ s = added_differ [] (flat_map participants s.contracts) refl

-- ---- moments

module _ (s : Setup) where
  -- no more is there than the header's deposits
  abbrev IsCovered : Configuration → Type 0
  IsCovered g = total_money g ≤ all_money s

  abbrev FineCovered : Configuration → Type 0
  FineCovered g = IsFine g × IsCovered g

  covered_after : (g : Configuration) (x : Step) → fails g x ≡ 0 → FineCovered g → FineCovered (effect g x)
  covered_after g x e f = let l = never_grows g f.0 x e in let k = f.1 in (fine_after g f.0 x e, omega (arith, l, k))

  opening_covered : IsCovered (opening_configuration s)
  opening_covered = let e = made_worth 0 s.header.deposits in omega (arith, e)

  sound_covered : (es : List Event) → IsRun s es → (g : Configuration) → IsSound s g → IsCovered g
  sound_covered es run g h =
      (kept_along FineCovered covered_after (opening_configuration s) h.steps g h.legal
      (opening_fine s.header.parties s.header.honest s.header.deposits s.contracts run.setup.contracts, opening_covered)).1

  abbrev TurnsCovered : List Turn → Type 0
  TurnsCovered ts = AllByRecursion (λ t. IsCovered t.configuration) ts

  turns_covered : (es : List Event) → IsRun s es → (before : List Record) (g : Configuration) (w : World) (ts : List Turn)
      → HoldsFrom (sound_after s) before g w ts → TurnsCovered ts
  turns_covered es run before g w [] h = tt
  turns_covered es run before g w (t ∷ ts) h =
      (sound_covered es run t.configuration h.0, turns_covered es run (before ++ record_in t ∷ []) t.configuration t.world ts h.1)

  -- ---- folds

  abbrev FoldsCovered : List Fold → Type 0
  FoldsCovered fs = AllByRecursion (λ f. IsCovered f.moment.configuration) fs

  folded_covered : (f : Fold) (ts : List Turn) → IsCovered f.moment.configuration → TurnsCovered ts → FoldsCovered (folded_from f ts)
  folded_covered f [] h k = (h, tt)
  folded_covered f (t ∷ ts) h k =
      by_share (may_share f.turn t) (folded_covered (longer f t (after_turn f.moment t)) ts k.0 k.1)
      (folded_covered (fold_of (f.last + 1) t (after_turn f.moment t)) ts k.0 k.1)
    where
      by_share : (share : Bool) → FoldsCovered (folded_from (longer f t (after_turn f.moment t)) ts)
          → FoldsCovered (folded_from (fold_of (f.last + 1) t (after_turn f.moment t)) ts)
          → FoldsCovered (if share then folded_from (longer f t (after_turn f.moment t)) ts
          else f ∷ folded_from (fold_of (f.last + 1) t (after_turn f.moment t)) ts)
      by_share true a b = a
      by_share false a b = (h, b)

  all_covered : (m : Moment) (ts : List Turn) → TurnsCovered ts → FoldsCovered (folded m ts)
  all_covered m [] k = tt
  all_covered m (t ∷ ts) k = folded_covered (fold_of 1 t (after_turn m t)) ts k.0 k.1

  room_covered : (n : ℕ) (f : Fold) (fs : List Fold) → IsCovered f.moment.configuration → FoldsCovered fs → FoldsCovered (with_room n f fs)
  room_covered zero f fs h k = k
  room_covered (suc n) f fs h k = (h, k)

  thinned_covered : (r o : ℕ) (fs : List Fold) → FoldsCovered fs → FoldsCovered (thinned r o fs)
  thinned_covered r o [] h = tt
  thinned_covered r o (f ∷ fs) h =
      by_look (is_refusal (fold_look f)) (room_covered r f (thinned (r - 1) o fs) h.0 (thinned_covered (r - 1) o fs h.1))
      (room_covered o f (thinned r (o - 1) fs) h.0 (thinned_covered r (o - 1) fs h.1))
    where
      by_look : (refused : Bool) → FoldsCovered (with_room r f (thinned (r - 1) o fs)) → FoldsCovered (with_room o f (thinned r (o - 1) fs))
          → FoldsCovered (if refused then with_room r f (thinned (r - 1) o fs) else with_room o f (thinned r (o - 1) fs))
      by_look true a b = a
      by_look false a b = b

  shown_covered : (fs : List Fold) → FoldsCovered fs → FoldsCovered (shown_folds fs)
  shown_covered fs h = by_size (nat_le (length fs) most_rows) (most_rows - (length fs - count_refused fs))
    where
      by_size : (small : Bool) (r : ℕ) → FoldsCovered (if small then fs else thinned r most_rows fs)
      by_size true r = h
      by_size false r = thinned_covered r most_rows fs h

  last_covered : (m : Moment) (ts : List Turn) → IsCovered m.configuration → TurnsCovered ts → IsCovered (last_moment m ts).configuration
  last_covered m [] h k = h
  last_covered m (t ∷ ts) h k = last_covered (after_turn m t) ts k.0 k.1

  -- ---- rows

  abbrev IsWhole : Stop → Type 0
  IsWhole st = all_of_it st.row.money ≡ all_money s

  abbrev AllWhole : List Stop → Type 0
  AllWhole sts = AllByRecursion IsWhole sts

  whole_at : (g : Configuration) → IsCovered g → all_of_it (money_of (columns s) (all_money s) g) ≡ all_money s
  whole_at g h = money_is_whole (columns s) (all_money s) g (columns_differ s) h

  all_append : (xs ys : List Stop) → AllWhole xs → AllWhole ys → AllWhole (xs ++ ys)
  all_append [] ys h k = k
  all_append (x ∷ xs) ys h k = (h.0, all_append xs ys h.1 k)

  folds_whole : (fs : List Fold) → FoldsCovered fs → AllWhole (map (fold_stop s) fs)
  folds_whole [] h = tt
  folds_whole (f ∷ fs) h = (whole_at f.moment.configuration h.0, folds_whole fs h.1)

  more_whole : (number left : ℕ) (m : Moment) → IsCovered m.configuration → AllWhole (more_stops s number left m)
  more_whole number zero m h = tt
  more_whole number (suc n) m h = (whole_at m.configuration h, tt)

  halt_whole : (number : ℕ) (halt : Option (Event × Halt)) (m : Moment) → IsCovered m.configuration → AllWhole (halt_stops s number halt m)
  halt_whole number None m h = tt
  halt_whole number (Some x) m h = (whole_at m.configuration h, tt)

  course_whole : (c : Course) → TurnsCovered c.turns → AllWhole (stops_in s c)
  course_whole c h =
      let first = first_moment s in
      let fs = shown_folds (folded first c.turns) in
      let end = last_moment first c.turns in
      let e : IsCovered end.configuration = last_covered first c.turns opening_covered h in (
        whole_at first.configuration opening_covered,
        all_append (map (fold_stop s) fs) _ (folds_whole fs (shown_covered (folded first c.turns) (all_covered first c.turns h)))
            (all_append (more_stops s (length c.turns) (length c.turns - held_in fs) end) _
            (more_whole (length c.turns) (length c.turns - held_in fs) end e) (halt_whole (length c.turns + 1) c.halt end e)),
      )

  stops_whole : (collided : Option (List ℕ × List ℕ)) (c : Course) → TurnsCovered c.turns → AllWhole (stops_from s collided c)
  stops_whole (Some pair) c h = (whole_at (opening_configuration s) opening_covered, (whole_at (opening_configuration s) opening_covered, tt))
  stops_whole None c h = course_whole c h

pub rows_are_whole : RunsAreSound → RowsAreWhole
rows_are_whole sound s es run =
    stops_whole s (opening_collision s) (course s es)
    (turns_covered s es run [] (opening_configuration s) (opening_world s) (course s es).turns (sound s es run).events)
