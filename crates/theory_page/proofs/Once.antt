-- No id of a page stands twice: different numbers have different texts.
use Rattle.std.proofs.Common.{◌≡◌, ℕ, zero, suc, ◌+◌, ◌-◌, ◌<◌, ◌≤◌, ◌^◌, List, [], ◌∷◌, ◌++◌, length, map, Bool, true, false}
use Rattle.std.proofs.Common.{Option, Some, None, refl, ap, ◌∙◌, arith}
use Rattle.std.specs.Prelude.{if◌then◌else◌, nat_le, codes}
use Rattle.std.specs.List.{AllByRecursion}
use Rattle.std.specs.Fmt.{decimal}
use Rattle.std.specs.Str.{bytes_eq}
use Rattle.std.proofs.lemmas.Fmt.{decimal_injective}
use Rattle.std.proofs.lemmas.List.Folds.{list_any-append}
use Rattle.std.proofs.lemmas.Slice.Eq.{bytes_eq-Decides}
use Rattle.spec_data.specs.Lists.{is_among, are_different}
use Rattle.spec_run.specs.declared.event.Event.{Event}
use Rattle.spec_run.specs.declared.outcome.Outcome.{Outcome}
use Rattle.spec_run.specs.declared.outcome.Outcome.TheVariants as outcomes
use Rattle.spec_run.specs.Event.{Passed, event, goes_on, opening_collision, opening_world, played, played_from}
use Rattle.spec_run.specs.Pending.{Answer, Went, Halted, Halt}
use Rattle.spec_run.specs.Setup.{Setup}
use Rattle.spec_run.specs.Steps.{steps_of}
use Rattle.spec_run.specs.Translation.{Course, course, last_or, turns_from, world_after, opening_configuration}
use Rattle.spec_run.specs.World.{World}
use Rattle.spec_terms.specs.Parties.{participants}
use Rattle.spec_calculus.specs.Configuration.{Configuration}
use Rattle.spec_calculus.specs.Steps.{after_steps}
use Rattle.spec_page.specs.Folds.{Fold, folded}
use Rattle.spec_page.specs.Moments.{Moment, first_moment}
use Rattle.spec_page.specs.Picture.{contract_lines, picture, sheet}
use Rattle.spec_page.specs.Statements.{HoldFrom, RisesFrom}
use Rattle.spec_page.specs.Stops.{Stop, fold_look, fold_stop, brings_blocks, more_stops, halt_stops, most_rows, count_refused}
use Rattle.spec_page.specs.Stops.{held_in, is_refusal, last_moment, rows_of, shown_folds, stops, stops_from, stops_in, thinned, with_room}
use Rattle.theory_text.proofs.ListFacts.{and_is, and_left, and_right, not_yes, not_no, or_no}
use Rattle.theory_page.specs.Ids.{IdsStandOnce, id_of, page_ids}
use Rattle.theory_page.proofs.Held.{rows_hold_events}
use Rattle.theory_page.proofs.Ids.{page_has, sheet_page_bare}

-- ---- different texts

pub not_same : (a b : List ℕ) → (a ≡ b → ⊥) → bytes_eq a b ≡ false
not_same a b differ = by_test (bytes_eq a b) refl
  where
    by_test : (t : Bool) → bytes_eq a b ≡ t → t ≡ false
    by_test true e = absurd (differ ((bytes_eq-Decides a b).0 e))
    by_test false e = refl

-- ---- two lists

-- none of these stands among those
abbrev pub Apart : List (List ℕ) → List (List ℕ) → Type 0
Apart xs ys = AllByRecursion (λ (x : List ℕ). is_among x ys ≡ false) xs

pub both_differ : (xs ys : List (List ℕ)) → are_different xs ≡ true → are_different ys ≡ true → Apart xs ys → are_different (xs ++ ys) ≡ true
both_differ [] ys h k a = k
both_differ (x ∷ xs) ys h k a =
    let new : is_among x (xs ++ ys) ≡ false = list_any-append (λ (t : List ℕ). bytes_eq t x) xs ys ∙ or_no _ _ (not_yes _ (and_left _ _ h)) a.0 in
    and_is _ _ (not_no _ new) (both_differ xs ys (and_right _ _ h) k a.1)

-- ---- how far the numbers of rows go

abbrev AllBelow : ℕ → List Fold → Type 0
AllBelow n fs = AllByRecursion (λ f. f.first < n) fs

below : (n most : ℕ) (fs : List Fold) → HoldFrom n fs → n + held_in fs ≤ most → AllBelow most fs
below n most [] h few = tt
below n most (f ∷ fs) h few =
    let first = h.0 in
    let rises = h.1 in
    (omega (arith, first, rises, few), below (f.last + 1) most fs h.2 (omega (arith, first, rises, few)))

room_below : (n k : ℕ) (f : Fold) (fs : List Fold) → f.first < n → AllBelow n fs → AllBelow n (with_room k f fs)
room_below n zero f fs h hs = hs
room_below n (suc k) f fs h hs = (h, hs)

thinned_below : (n refused others : ℕ) (fs : List Fold) → AllBelow n fs → AllBelow n (thinned refused others fs)
thinned_below n refused others [] h = tt
thinned_below n refused others (f ∷ fs) h =
    by_look (is_refusal (fold_look f)) (room_below n refused f (thinned (refused - 1) others fs) h.0 (thinned_below n (refused - 1) others fs h.1))
    (room_below n others f (thinned refused (others - 1) fs) h.0 (thinned_below n refused (others - 1) fs h.1))
  where
    by_look : (refusal : Bool) → AllBelow n (with_room refused f (thinned (refused - 1) others fs))
        → AllBelow n (with_room others f (thinned refused (others - 1) fs))
        → AllBelow n (if refusal then with_room refused f (thinned (refused - 1) others fs)
        else with_room others f (thinned refused (others - 1) fs))
    by_look true a b = a
    by_look false a b = b

shown_below : (n : ℕ) (fs : List Fold) → AllBelow n fs → AllBelow n (shown_folds fs)
shown_below n fs h = by_few (nat_le (length fs) most_rows)
  where
    by_few : (few : Bool) → AllBelow n (if few then fs else thinned (most_rows - (length fs - count_refused fs)) most_rows fs)
    by_few true = h
    by_few false = thinned_below n (most_rows - (length fs - count_refused fs)) most_rows fs h

-- ---- the rows of events

abbrev event_id : ℕ → List ℕ
event_id n = codes "event-" ++ decimal n

abbrev fold_ids : List Fold → List (List ℕ)
fold_ids fs = map (λ f. event_id f.first) fs

by_outcome : (s : Setup) (f : Fold) (blocks : Bool) (o : Outcome) → brings_blocks f.turn.event ≡ blocks → (last_or f.turn f.others).outcome ≡ o
    → id_of (fold_stop s f).row ≡ event_id f.first
by_outcome s f blocks (outcomes.Refused reason) b e = rw (b, e) refl
by_outcome s f blocks (outcomes.Accepted spent made lock) b e = rw (b, e) refl
by_outcome s f true outcomes.Done b e = rw (b, e) refl
by_outcome s f false outcomes.Done b e = rw (b, e) refl

fold_id : (s : Setup) (f : Fold) → id_of (fold_stop s f).row ≡ event_id f.first
fold_id s f = by_outcome s f (brings_blocks f.turn.event) (last_or f.turn f.others).outcome refl refl

folds_ids : (s : Setup) (fs : List Fold) (sts : List Stop) → map id_of (rows_of (map (fold_stop s) fs ++ sts)) ≡ fold_ids fs ++ map id_of (rows_of sts)
folds_ids s [] sts = refl
folds_ids s (f ∷ fs) sts = λ i. fold_id s f i ∷ folds_ids s fs sts i

-- numbers differ where their texts do
behind : (x y : List ℕ) → 101 ∷ 118 ∷ 101 ∷ 110 ∷ 116 ∷ 45 ∷ x ≡ 101 ∷ 118 ∷ 101 ∷ 110 ∷ 116 ∷ 45 ∷ y → x ≡ y
behind x y e = cc

later_new : (most m n : ℕ) (fs : List Fold) → most ≤ 2 ^ 32 → m < n → m < most → RisesFrom n fs → AllBelow most fs
    → is_among (event_id m) (fold_ids fs) ≡ false
later_new most m n [] small less few rises low = refl
later_new most m n (f ∷ fs) small less few rises low =
    let first = rises.0 in
    let last = rises.1 in
    let here = low.0 in
    let differ : bytes_eq (event_id f.first) (event_id m) ≡ false =
    not_same _ _ (λ same. let k = decimal_injective f.first m (omega (arith, here, small)) (omega (arith, few, small)) (behind _ _ same) in absurd (omega (arith, k, less, first))) in
    or_no _ _ differ (later_new most m (f.last + 1) fs small (omega (arith, less, first, last)) few rises.2 low.1)

events_differ : (most n : ℕ) (fs : List Fold) → most ≤ 2 ^ 32 → RisesFrom n fs → AllBelow most fs → are_different (fold_ids fs) ≡ true
events_differ most n [] small rises low = refl
events_differ most n (f ∷ fs) small rises low =
    let last = rises.1 in
    and_is _ _ (not_no _ (later_new most f.first (f.last + 1) fs small (omega (arith, last)) low.0 rises.2 low.1))
    (events_differ most (f.last + 1) fs small rises.2 low.1)

-- ---- the first rows and the last

-- what else has an id is no event
no_event : (word : List ℕ) (fs : List Fold) → ((n : ℕ) → bytes_eq (event_id n) word ≡ false) → is_among word (fold_ids fs) ≡ false
no_event word [] h = refl
no_event word (f ∷ fs) h = or_no _ _ (h f.first) (no_event word fs h)

-- ids behind those of events
record IsLast (ids : List (List ℕ)) : Type 0 where
  differ : are_different ids ≡ true
  events : (n : ℕ) → is_among (event_id n) ids ≡ false
  range : is_among (codes "range") ids ≡ false
  said : is_among (codes "said") ids ≡ false
  start : is_among (codes "start") ids ≡ false

last_ids : (s : Setup) (n k l : ℕ) (halt : Option (Event × Halt)) (m : Moment)
    → IsLast (map id_of (rows_of (more_stops s n k m ++ halt_stops s l halt m)))
last_ids s n zero l None m = record { differ = refl; events = λ i. refl; range = refl; said = refl; start = refl }
last_ids s n zero l (Some h) m = record { differ = refl; events = λ i. refl; range = refl; said = refl; start = refl }
last_ids s n (suc k) l None m = record { differ = refl; events = λ i. refl; range = refl; said = refl; start = refl }
last_ids s n (suc k) l (Some h) m = record { differ = refl; events = λ i. refl; range = refl; said = refl; start = refl }

events_apart : (fs : List Fold) (ids : List (List ℕ)) → IsLast ids → Apart (fold_ids fs) ids
events_apart [] ids l = tt
events_apart (f ∷ fs) ids l = (l.events f.first, events_apart fs ids l)

-- a word stands neither among the events nor behind them
absent : (word : List ℕ) (fs : List Fold) (ids : List (List ℕ)) → ((n : ℕ) → bytes_eq (event_id n) word ≡ false) → is_among word ids ≡ false
    → is_among word (fold_ids fs ++ ids) ≡ false
absent word fs ids h k = list_any-append (λ (t : List ℕ). bytes_eq t word) (fold_ids fs) ids ∙ or_no _ _ (no_event word fs h) k

-- ---- how many events there are

few_passed : (s : Setup) (es : List Event) (w : World) → length (played_from s w es).passed ≤ length es
few_passed s [] w = omega arith
few_passed s (e ∷ es) w = by_answer (event s w e) (few_passed s es)
  where
    by_answer : (a : Answer) → ((next : World) → length (played_from s next es).passed ≤ length es)
        → length (goes_on e a (λ next. played_from s next es)).passed ≤ length (e ∷ es)
    by_answer (Halted halt) later = omega arith
    by_answer (Went d next) later = let n = later next in omega (arith, n)

turns_for_each : (s : Setup) (strings : List (List ℕ)) (g : Configuration) (w : World) (ps : List Passed)
    → length (turns_from s strings g w ps) ≡ length ps
turns_for_each s strings g w [] = refl
turns_for_each s strings g w (p ∷ ps) =
    ap suc (turns_for_each s strings (after_steps g (steps_of s strings g w p.world p.event p.pending)) p.world ps)

few_turns : (s : Setup) (es : List Event) → length (course s es).turns ≤ length es
few_turns s es =
    let passed = (played s es).passed in
    let a = turns_for_each s (world_after (opening_world s) passed).posted (opening_configuration s) (opening_world s) passed in
    let b = few_passed s es (opening_world s) in
    omega (arith, a, b)

-- ---- all

of_course : (s : Setup) (c : Course) → length c.turns < 2 ^ 31 → are_different (page_ids (rows_of (stops_in s c))) ≡ true
of_course s c few =
    let m = first_moment s in
    let h = rows_hold_events m c.turns in
    let fs = shown_folds (folded m c.turns) in
    let end = last_moment m c.turns in
    let missing = length c.turns - held_in fs in
    let rest = more_stops s (length c.turns) missing end ++ halt_stops s (length c.turns + 1) c.halt end in
    let all = h.all in
    let most = length c.turns + 1 in
    let low : AllBelow most fs = shown_below most (folded m c.turns) (below 1 most (folded m c.turns) h.each (omega (arith, all))) in
    let l : IsLast (map id_of (rows_of rest)) = last_ids s (length c.turns) missing (length c.turns + 1) c.halt end in
    let ids = fold_ids fs ++ map id_of (rows_of rest) in
    let behind_start : are_different ids ≡ true =
    both_differ (fold_ids fs) (map id_of (rows_of rest)) (events_differ most 1 fs (omega (arith, few)) h.rising low) l.differ
    (events_apart fs (map id_of (rows_of rest)) l) in
    let start = absent (codes "start") fs (map id_of (rows_of rest)) (λ n. refl) l.start in
    let said = absent (codes "said") fs (map id_of (rows_of rest)) (λ n. refl) l.said in
    let range = absent (codes "range") fs (map id_of (rows_of rest)) (λ n. refl) l.range in
    ap (λ t. are_different (codes "range" ∷ codes "said" ∷ codes "start" ∷ t)) (folds_ids s fs rest)
    ∙ and_is _ _ (not_no _ range) (and_is _ _ (not_no _ said) (and_is _ _ (not_no _ start) behind_start))

pub stand_once : (s : Setup) (es : List Event) → length es < 2 ^ 31 → are_different (page_ids (rows_of (stops s es))) ≡ true
stand_once s es few = by_opening (opening_collision s)
  where
    by_opening : (o : Option (List ℕ × List ℕ)) → are_different (page_ids (rows_of (stops_from s o (course s es)))) ≡ true
    by_opening None = let n = few_turns s es in of_course s (course s es) (omega (arith, n, few))
    by_opening (Some pair) = refl

pub ids_stand_once : IdsStandOnce
ids_stand_once = record {
  each = λ title s es. page_has title (picture s es);
  once = stand_once;
  none = λ title a. sheet_page_bare title (participants a) (sheet a) (contract_lines (a ∷ []));
}
