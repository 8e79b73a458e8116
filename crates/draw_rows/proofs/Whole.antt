-- The rows by the entries of a run are those of its events.
use Rattle.std.proofs.Common.{◌≡◌, ℕ, zero, suc, ◌+◌, ◌-◌, List, [], ◌∷◌, ◌++◌, map, length, Bool, true, false, Option, Some, None, refl, sym, ap, ◌∙◌, arith}
use Rattle.std.specs.Prelude.{nat_le, ◌&&◌, if◌then◌else◌, codes}
use Rattle.std.specs.List.{list_all}
use Rattle.spec_terms.specs.Parties.{add_all}
use Rattle.spec_calculus.specs.Configuration.{Configuration}
use Rattle.spec_calculus.specs.Steps.{after_steps}
use Rattle.spec_run.specs.declared.event.Event.{Event}
use Rattle.spec_run.specs.Setup.{Setup}
use Rattle.spec_run.specs.World.{World}
use Rattle.spec_run.specs.Pending.{Halt, Collided, Guessed}
use Rattle.spec_run.specs.Event.{Passed, opening_collision, opening_world, played}
use Rattle.spec_run.specs.Steps.{steps_of}
use Rattle.spec_run.specs.Translation.{Turn, course, turns_from, last_or, world_after, opening_configuration}
use Rattle.spec_text.specs.Canonical.{joined}
use Rattle.spec_text.specs.Played.{entry_of, entries}
use Rattle.spec_page.specs.declared.event_row.EventRow.{EventRow}
use Rattle.spec_page.specs.declared.event_row.Look.{Look}
use Rattle.spec_page.specs.EventWords.{are_several}
use Rattle.spec_page.specs.Moments.{Moment, first_moment, after_turn, after_steps_to}
use Rattle.spec_page.specs.Folds.{Fold, may_share, are_equal, is_plain, turn_line, fold_of, longer, folded, folded_from}
use Rattle.spec_page.specs.Stops as spec
use Rattle.spec_page.specs.Stops.{Stop, most_rows, is_refusal, fold_look, fold_stop, stop, words_by, lines_by, actor_by, look_by, note_by, brings_blocks}
use Rattle.spec_page.specs.Stops.{step_word, with_room, shown_folds, more_stops, halt_stops, stops, stops_by, stops_in, stops_from, rows_of, last_moment, first_stop}
use Rattle.draw_rows.specs.Pictures.{unopened_rows}
use Rattle.draw_rows.specs.Settings.{setup_with}
use Rattle.draw_rows.specs.Turns.{turn_of, after_entry, after_entries, folds_from, folds_of, fold_row, count_refused, row_with_room, thinned}
use Rattle.draw_rows.specs.Turns.{shown_rows, held_in, ended, rows_by}

-- ---- lists

map_append : {X Y : Type 0} → (f : X → Y) (xs ys : List X) → map f (xs ++ ys) ≡ map f xs ++ map f ys
map_append f [] ys = refl
map_append f (x ∷ xs) ys = ap (λ zs. f x ∷ zs) (map_append f xs ys)

length_map : {X Y : Type 0} → (f : X → Y) (xs : List X) → length (map f xs) ≡ length xs
length_map f [] = refl
length_map f (x ∷ xs) = ap suc (length_map f xs)

map_twice : {X Y Z : Type 0} → (g : Y → Z) (f : X → Y) (xs : List X) → map g (map f xs) ≡ map (λ x. g (f x)) xs
map_twice g f [] = refl
map_twice g f (x ∷ xs) = ap (λ zs. g (f x) ∷ zs) (map_twice g f xs)

-- ---- a turn as far as rows read it

abbrev plain : Turn → Turn
plain t = turn_of (entry_of t)

abbrev plains : List Turn → List Turn
plains ts = map plain ts

equal_plains : (u : Turn) (ts : List Turn) → list_all (λ t. are_equal u t) ts ≡ list_all (λ t. are_equal (plain u) t) (plains ts)
equal_plains u [] = refl
equal_plains u (t ∷ ts) = ap (λ (b : Bool). are_equal u t && b) (equal_plains u ts)

words_plains : (ts : List Turn) → map (λ t. step_word t.event) ts ≡ map (λ t. step_word t.event) (plains ts)
words_plains [] = refl
words_plains (t ∷ ts) = ap (λ zs. step_word t.event ∷ zs) (words_plains ts)

lines_plains : (ts : List Turn) → map turn_line ts ≡ map turn_line (plains ts)
lines_plains [] = refl
lines_plains (t ∷ ts) = ap (λ zs. turn_line t ∷ zs) (lines_plains ts)

last_plains : (t : Turn) (ts : List Turn) → plain (last_or t ts) ≡ last_or (plain t) (plains ts)
last_plains t [] = refl
last_plains t (u ∷ us) = last_plains u us

-- ---- a fold as far as rows read it

abbrev plain_fold : Fold → Fold
plain_fold f = record { first = f.first; last = f.last; turn = plain f.turn; others = plains f.others; moment = f.moment }

plain_same : (f : Fold) → is_plain f ≡ is_plain (plain_fold f)
plain_same f = equal_plains f.turn f.others

words_same : (several b : Bool) (f : Fold) → words_by several b f ≡ words_by several b (plain_fold f)
words_same several true f = refl
words_same several false f =
    ap (λ ws. spec.step_text several f.turn.event ++ joined (codes ", ") (add_all [] (step_word f.turn.event ∷ ws))) (words_plains f.others)

lines_same : (b : Bool) (f : Fold) → lines_by b f ≡ lines_by b (plain_fold f)
lines_same true f = refl
lines_same false f = ap (λ ls. joined (10 ∷ []) (turn_line f.turn ∷ ls)) (lines_plains f.others)

actor_same : (b : Bool) (f : Fold) → actor_by b f.turn ≡ actor_by b (plain f.turn)
actor_same true f = refl
actor_same false f = refl

look_same : (f : Fold) → fold_look f ≡ fold_look (plain_fold f)
look_same f = ap (λ (t : Turn). look_by (brings_blocks f.turn.event) t.outcome) (last_plains f.turn f.others)

module _ (s : Setup) where
  abbrev row_of : Fold → Look → List ℕ → List ℕ → Option (List ℕ) → EventRow
  row_of f look words lines who =
      (stop s f.first f.last look words (note_by (brings_blocks f.turn.event) f.moment.configuration.time f.turn.outcome) lines who f.moment).row

  row_same : (f : Fold) → fold_row s f ≡ fold_row s (plain_fold f)
  row_same f =
      let several = are_several s in
      let look = look_same f in
      let words = words_same several (is_plain f) f ∙ ap (λ (b : Bool). words_by several b (plain_fold f)) (plain_same f) in
      let lines = lines_same (is_plain f) f ∙ ap (λ (b : Bool). lines_by b (plain_fold f)) (plain_same f) in
      let who = actor_same (is_plain f) f ∙ ap (λ (b : Bool). actor_by b (plain f.turn)) (plain_same f) in
      ap (λ (l : Look). row_of f l (spec.fold_words several f) (spec.fold_lines f) (actor_by (is_plain f) f.turn)) look
      ∙ ap (λ (ws : List ℕ). row_of f (fold_look (plain_fold f)) ws (spec.fold_lines f) (actor_by (is_plain f) f.turn)) words
      ∙ ap (λ (ls : List ℕ). row_of f (fold_look (plain_fold f)) (spec.fold_words several (plain_fold f)) ls (actor_by (is_plain f) f.turn)) lines
      ∙ ap (row_of f (fold_look (plain_fold f)) (spec.fold_words several (plain_fold f)) (spec.fold_lines (plain_fold f))) who

  rows_same : (fs : List Fold) → map (fold_row s) fs ≡ map (fold_row s) (map plain_fold fs)
  rows_same [] = refl
  rows_same (f ∷ fs) =
      ap (λ (r : EventRow). r ∷ map (fold_row s) fs) (row_same f)
      ∙ ap (λ (rs : List EventRow). fold_row s (plain_fold f) ∷ rs) (rows_same fs)

-- ---- what turns leave

-- each leaves what its steps make
abbrev Follows : Configuration → List Turn → Type 0
Follows g [] = Unit {0}
Follows g (t ∷ ts) = (t.configuration ≡ after_steps g t.steps) × Follows t.configuration ts

follows : (s : Setup) (strings : List (List ℕ)) (g : Configuration) (w : World) (ps : List Passed) → Follows g (turns_from s strings g w ps)
follows s strings g w [] = tt
follows s strings g w (p ∷ ps) =
    (refl, follows s strings (after_steps g (steps_of s strings g w p.world p.event p.pending)) p.world ps)

passes : (m : Moment) (t : Turn) → t.configuration ≡ after_steps m.configuration t.steps → after_turn m t ≡ after_entry m (entry_of t)
passes m t e = ap (after_steps_to m t.steps) e

ends_same : (m : Moment) (ts : List Turn) → Follows m.configuration ts → last_moment m ts ≡ after_entries m (map entry_of ts)
ends_same m [] h = refl
ends_same m (t ∷ ts) h =
    ends_same (after_turn m t) ts h.1 ∙ ap (λ (n : Moment). after_entries n (map entry_of ts)) (passes m t h.0)

-- a fold so far with these others, one more than before, which left this
abbrev with_others : Fold → Moment → List Turn → Fold
with_others f m us = record { first = f.first; last = f.last + 1; turn = plain f.turn; others = us; moment = m }

folds_same_from : (f : Fold) (ts : List Turn) → Follows f.moment.configuration ts
    → map plain_fold (folded_from f ts) ≡ folds_from (plain_fold f) (map entry_of ts)
folds_same_from f [] h = refl
folds_same_from f (t ∷ ts) h = by_test (λ g k. folds_same_from g ts k) (may_share f.turn t)
  where
    next : Moment
    next = after_turn f.moment t

    longer_same : plain_fold (longer f t next) ≡ longer (plain_fold f) (plain t) (after_entry f.moment (entry_of t))
    longer_same =
        ap (with_others f next) (map_append plain f.others (t ∷ []))
        ∙ ap (longer (plain_fold f) (plain t)) (passes f.moment t h.0)

    by_test : ((g : Fold) → Follows g.moment.configuration ts → map plain_fold (folded_from g ts) ≡ folds_from (plain_fold g) (map entry_of ts))
        → (b : Bool)
        → map plain_fold (if b then folded_from (longer f t next) ts else f ∷ folded_from (fold_of (f.last + 1) t next) ts)
        ≡ (if b then folds_from (longer (plain_fold f) (plain t) (after_entry f.moment (entry_of t))) (map entry_of ts)
        else plain_fold f ∷ folds_from (fold_of (f.last + 1) (plain t) (after_entry f.moment (entry_of t))) (map entry_of ts))
    by_test again true = again (longer f t next) h.1 ∙ ap (λ (g : Fold). folds_from g (map entry_of ts)) longer_same
    by_test again false =
        ap (λ (fs : List Fold). plain_fold f ∷ fs)
        (again (fold_of (f.last + 1) t next) h.1
        ∙ ap (λ (n : Moment). folds_from (fold_of (f.last + 1) (plain t) n) (map entry_of ts)) (passes f.moment t h.0))

folds_same : (m : Moment) (ts : List Turn) → Follows m.configuration ts → map plain_fold (folded m ts) ≡ folds_of m (map entry_of ts)
folds_same m [] h = refl
folds_same m (t ∷ ts) h =
    folds_same_from (fold_of 1 t (after_turn m t)) ts h.1
    ∙ ap (λ (n : Moment). folds_from (fold_of 1 (plain t) n) (map entry_of ts)) (passes m t h.0)

-- ---- at most so many

one_is_less : (n : ℕ) → nat_le 1 (suc n) ≡ true
one_is_less n = grind arith

module _ (s : Setup) where
  counted_same : (fs : List Fold) → count_refused (map (fold_row s) fs) ≡ spec.count_refused fs
  counted_same [] = refl
  counted_same (f ∷ fs) = ap (λ (n : ℕ). (if is_refusal (fold_look f) then 1 else 0) + n) (counted_same fs)

  held_same : (fs : List Fold) → held_in (map (fold_row s) fs) ≡ spec.held_in fs
  held_same [] = refl
  held_same (f ∷ fs) = ap (λ (n : ℕ). (f.last - f.first + 1) + n) (held_same fs)

  room_same : (n : ℕ) (f : Fold) (fs : List Fold) (rs : List EventRow) → map (fold_row s) fs ≡ rs
      → map (fold_row s) (with_room n f fs) ≡ row_with_room n (fold_row s f) rs
  room_same zero f fs rs h = h
  room_same (suc n) f fs rs h =
      ap (λ (zs : List EventRow). fold_row s f ∷ zs) h
      ∙ ap (λ (b : Bool). if b then fold_row s f ∷ rs else rs) (sym (one_is_less n))

  thinned_same : (refused others : ℕ) (fs : List Fold)
      → map (fold_row s) (spec.thinned refused others fs) ≡ thinned refused others (map (fold_row s) fs)
  thinned_same refused others [] = refl
  thinned_same refused others (f ∷ fs) =
      by_test (thinned_same (refused - 1) others fs) (thinned_same refused (others - 1) fs) (is_refusal (fold_look f))
    where
      by_test : map (fold_row s) (spec.thinned (refused - 1) others fs) ≡ thinned (refused - 1) others (map (fold_row s) fs)
          → map (fold_row s) (spec.thinned refused (others - 1) fs) ≡ thinned refused (others - 1) (map (fold_row s) fs)
          → (b : Bool)
          → map (fold_row s) (if b then with_room refused f (spec.thinned (refused - 1) others fs)
          else with_room others f (spec.thinned refused (others - 1) fs))
          ≡ (if b then row_with_room refused (fold_row s f) (thinned (refused - 1) others (map (fold_row s) fs))
          else row_with_room others (fold_row s f) (thinned refused (others - 1) (map (fold_row s) fs)))
      by_test x y true = room_same refused f _ _ x
      by_test x y false = room_same others f _ _ y

  -- of so many folds, of which so many are refused
  abbrev shown_of : ℕ → ℕ → List EventRow → List EventRow
  shown_of n refused rs = if nat_le n most_rows then rs else thinned (most_rows - (n - refused)) most_rows rs

  shown_same : (fs : List Fold) → map (fold_row s) (shown_folds fs) ≡ shown_rows (map (fold_row s) fs)
  shown_same fs =
      by_test (nat_le (length fs) most_rows)
      ∙ ap (λ (n : ℕ). shown_of n (spec.count_refused fs) (map (fold_row s) fs)) (sym (length_map (fold_row s) fs))
      ∙ ap (λ (n : ℕ). shown_of (length (map (fold_row s) fs)) n (map (fold_row s) fs)) (sym (counted_same fs))
    where
      by_test : (b : Bool)
          → map (fold_row s) (if b then fs else spec.thinned (most_rows - (length fs - spec.count_refused fs)) most_rows fs)
          ≡ (if b then map (fold_row s) fs else thinned (most_rows - (length fs - spec.count_refused fs)) most_rows (map (fold_row s) fs))
      by_test true = refl
      by_test false = thinned_same (most_rows - (length fs - spec.count_refused fs)) most_rows fs

-- ---- all rows

-- without the strings that collide, which rows don't read
abbrev pub unnamed : Option (Event × Halt) → Option (Event × Halt)
unnamed None = None
unnamed (Some (e, Collided earlier later)) = Some (e, Collided [] [])
unnamed (Some (e, Guessed party secret)) = Some (e, Guessed party secret)

abbrev row_in : Stop → EventRow
row_in st = st.row

module _ (s : Setup) where
  halts_same : (n : ℕ) (halt : Option (Event × Halt)) (m : Moment)
      → map row_in (halt_stops s n halt m) ≡ map row_in (halt_stops s n (unnamed halt) m)
  halts_same n None m = refl
  halts_same n (Some (e, Collided earlier later)) m = refl
  halts_same n (Some (e, Guessed party secret)) m = refl

  -- the rows of these turns
  turns_rows : (ts : List Turn) (halt : Option (Event × Halt)) → Follows (first_moment s).configuration ts
      → rows_of (stops_by s ts halt (shown_folds (folded (first_moment s) ts)) (last_moment (first_moment s) ts))
      ≡ rows_by s (map entry_of ts) (unnamed halt)
  turns_rows ts halt h =
      let m = first_moment s in
      let fs = folded m ts in
      let shown = shown_folds fs in
      let end = last_moment m ts in
      let more = more_stops s (length ts) (length ts - spec.held_in shown) end in
      let stopped = halt_stops s (length ts + 1) halt end in
      let first : EventRow = (first_stop s).row in
      let rows = shown_rows (map (fold_row s) fs) in
      let parts : rows_of (stops_by s ts halt shown end) ≡ first ∷ (map (fold_row s) shown ++ (map row_in more ++ map row_in stopped)) =
      ap (λ (rs : List EventRow). first ∷ rs)
      (map_append row_in (map (fold_stop s) shown) (more ++ stopped)
      ∙ ap (λ (rs : List EventRow). rs ++ map row_in (more ++ stopped)) (map_twice row_in (fold_stop s) shown)
      ∙ ap (λ (rs : List EventRow). map (fold_row s) shown ++ rs) (map_append row_in more stopped)) in
      let halted : map (fold_row s) shown ++ (map row_in more ++ map row_in stopped)
      ≡ map (fold_row s) shown ++ (map row_in more ++ map row_in (halt_stops s (length ts + 1) (unnamed halt) end)) =
      ap (λ (rs : List EventRow). map (fold_row s) shown ++ (map row_in more ++ rs)) (halts_same (length ts + 1) halt end) in
      let held : spec.held_in shown ≡ held_in (map (fold_row s) shown) = sym (held_same s shown) in
      parts
      ∙ ap (λ (rs : List EventRow). first ∷ rs)
      (halted
      ∙ ap (λ (n : ℕ). map (fold_row s) shown ++ (map row_in (more_stops s (length ts) (length ts - n) end)
      ++ map row_in (halt_stops s (length ts + 1) (unnamed halt) end))) held
      ∙ ap (λ (rs : List EventRow). ended s (length ts) (unnamed halt) end rs) (shown_same s fs)
      ∙ ap (λ (rs : List EventRow). ended s (length ts) (unnamed halt) end (shown_rows rs))
      (rows_same s fs ∙ ap (map (fold_row s)) (folds_same m ts h))
      ∙ ap (λ (n : ℕ). ended s n (unnamed halt) end (shown_rows (map (fold_row s) (folds_of m (map entry_of ts))))) (sym (length_map entry_of ts))
      ∙ ap (λ (e : Moment). ended s (length (map entry_of ts)) (unnamed halt) e (shown_rows (map (fold_row s) (folds_of m (map entry_of ts)))))
      (ends_same m ts h))

-- of a run that opens
pub run_rows_are : (s : Setup) (es : List Event) → opening_collision s ≡ None
    → rows_by (setup_with s.header s.contracts) (entries s es) (unnamed (course s es).halt) ≡ rows_of (stops s es)
run_rows_are s es opens =
    let passed = (played s es).passed in
    let strings = (world_after (opening_world s) passed).posted in
    sym (ap (λ o. rows_of (stops_from s o (course s es))) opens
    ∙ turns_rows s (course s es).turns (course s es).halt (follows s strings (opening_configuration s) (opening_world s) passed))

-- of one whose opening collides
pub unopened_rows_are : (s : Setup) (es : List Event) (earlier later : List ℕ) → opening_collision s ≡ Some (earlier, later)
    → unopened_rows (setup_with s.header s.contracts) ≡ rows_of (stops s es)
unopened_rows_are s es earlier later e = sym (ap (λ o. rows_of (stops_from s o (course s es))) e)
