-- In every row each part of a contract has the look that it has at the row's moment, by the number at which a page looks it up.
use Rattle.std.proofs.Common.{◌≡◌, ℕ, zero, suc, ◌+◌, ◌-◌, List, [], ◌∷◌, ◌++◌, map, length, Option, Some, None, refl, sym, ap, ◌∙◌, append_assoc, length-append, arith}
use Rattle.std.specs.Prelude.{unwrap_or, flat_map}
use Rattle.std.specs.List.{AllByRecursion}
use Rattle.std.proofs.lemmas.Option.{slice_get-get_or}
use Rattle.std.proofs.Math.Seq.{get_or-append_seam}
use Rattle.spec_terms.specs.Advert.{Advert}
use Rattle.spec_tool.specs.declared.which.Which.TheVariants.{Init, At}
use Rattle.spec_run.specs.declared.event.Event.{Event}
use Rattle.spec_run.specs.Pending.{Halt}
use Rattle.spec_run.specs.Event.{opening_collision}
use Rattle.spec_run.specs.Setup.{Setup}
use Rattle.spec_run.specs.Translation.{Course, course}
use Rattle.spec_page.specs.declared.status.Status.{Status}
use Rattle.spec_page.specs.declared.status.Status.TheVariants.{Open}
use Rattle.spec_page.specs.declared.way_row.Condition.{Condition}
use Rattle.spec_page.specs.declared.way_row.Payment.{Payment}
use Rattle.spec_page.specs.declared.way_row.WayRow.{WayRow}
use Rattle.spec_page.specs.declared.way_row.WayRow.TheVariants.{Choice, Way}
use Rattle.spec_page.specs.Ways.{way_rows}
use Rattle.spec_page.specs.Moments.{Moment, Move, move, first_moment}
use Rattle.spec_page.specs.Statuses.{move_status, condition_statuses, payment_statuses, row_looks, looks_from}
use Rattle.spec_page.specs.Timeline.{look_in}
use Rattle.spec_page.specs.Picture.{sheet}
use Rattle.spec_page.specs.ContractPart.{row_size, rows_size, sheet_size}
use Rattle.spec_page.specs.Folds.{Fold, folded}
use Rattle.spec_page.specs.Stops.{Stop, fold_stop, shown_folds, last_moment, more_stops, halt_stops, held_in, stops_in, stops_from}
use Rattle.theory_page.specs.Shows.{ShowConditions, ShowPayments, ShowRow, ShowRows, ShowContracts, RowsShowLooks}

-- ---- a list in three parts

at_seam : (before : List Status) (x : Status) (after : List Status) → look_in (length before) (before ++ x ∷ after) ≡ x
at_seam before x after =
    let l : length (before ++ x ∷ after) ≡ length before + suc (length after) = length-append before (x ∷ after) in
    ap (λ (o : Option Status). unwrap_or o Open)
    (slice_get-get_or (before ++ x ∷ after) (length before) Open (omega (arith, l))
    ∙ ap (λ (y : Status). Some y) (get_or-append_seam before x after Open))

-- one more stands before
pushed : (before : List Status) (x : Status) (rest : List Status) → (before ++ x ∷ []) ++ rest ≡ before ++ x ∷ rest
pushed before x rest = append_assoc before (x ∷ []) rest

pushed_length : (before : List Status) (x : Status) (n : ℕ) → length before ≡ n → length (before ++ x ∷ []) ≡ n + 1
pushed_length before x n e = let l : length (before ++ x ∷ []) ≡ length before + 1 = length-append before (x ∷ []) in omega (arith, l, e)

joined_length : (before xs : List Status) (n k : ℕ) → length before ≡ n → length xs ≡ k → length (before ++ xs) ≡ n + k
joined_length before xs n k e f = let l : length (before ++ xs) ≡ length before + length xs = length-append before xs in omega (arith, l, e, f)

here : (looks before : List Status) (x : Status) (after : List Status) (n : ℕ) → length before ≡ n → looks ≡ before ++ x ∷ after
    → look_in n looks ≡ x
here looks before x after n e l =
    ap (λ (k : ℕ). look_in k looks) (sym e) ∙ (ap (λ (xs : List Status). look_in (length before) xs) l ∙ at_seam before x after)

-- ---- conditions and payments

conditions_shown : (looks : List Status) (m : Moment) (a : Advert) (x : Move) (n : ℕ) (cs : List Condition) (before after : List Status)
    → length before ≡ n → looks ≡ before ++ (condition_statuses m a x cs ++ after) → ShowConditions looks m a x n cs
conditions_shown looks m a x n [] before after e l = tt
conditions_shown looks m a x n (c ∷ cs) before after e l = (
  here looks before _ (condition_statuses m a x cs ++ after) n e l,
  conditions_shown looks m a x (n + 1) cs (before ++ _ ∷ []) after (pushed_length before _ n e)
      (l ∙ sym (pushed before _ (condition_statuses m a x cs ++ after))),
)

payments_shown : (looks : List Status) (m : Moment) (k n : ℕ) (ps : List Payment) (before after : List Status)
    → length before ≡ n → looks ≡ before ++ (payment_statuses m k ps ++ after) → ShowPayments looks m k n ps
payments_shown looks m k n [] before after e l = tt
payments_shown looks m k n (p ∷ ps) before after e l = (
  here looks before _ (payment_statuses m k ps ++ after) n e l,
  payments_shown looks m k (n + 1) ps (before ++ _ ∷ []) after (pushed_length before _ n e)
      (l ∙ sym (pushed before _ (payment_statuses m k ps ++ after))),
)

conditions_length : (m : Moment) (a : Advert) (x : Move) (cs : List Condition) → length (condition_statuses m a x cs) ≡ length cs
conditions_length m a x [] = refl
conditions_length m a x (c ∷ cs) = ap suc (conditions_length m a x cs)

payments_length : (m : Moment) (k : ℕ) (ps : List Payment) → length (payment_statuses m k ps) ≡ length ps
payments_length m k [] = refl
payments_length m k (p ∷ ps) = ap suc (payments_length m k ps)

-- ---- rows

row_length : (m : Moment) (k : ℕ) (a : Advert) (r : WayRow) → length (row_looks m k a r) ≡ row_size r
row_length m k a (Choice depth share) = refl
row_length m k a (Way path depth share conditions payments) =
    let l : length (condition_statuses m a (move k (At path)) conditions ++ payment_statuses m k payments)
    ≡ length (condition_statuses m a (move k (At path)) conditions) + length (payment_statuses m k payments) =
    length-append (condition_statuses m a (move k (At path)) conditions) (payment_statuses m k payments) in
    let c = conditions_length m a (move k (At path)) conditions in
    let p = payments_length m k payments in
    omega (arith, l, c, p)

row_shown : (looks : List Status) (m : Moment) (k : ℕ) (a : Advert) (n : ℕ) (r : WayRow) (before after : List Status)
    → length before ≡ n → looks ≡ before ++ (row_looks m k a r ++ after) → ShowRow looks m k a n r
row_shown looks m k a n (Choice depth share) before after e l = tt
row_shown looks m k a n (Way path depth share conditions payments) before after e l =
    let x = move k (At path) in
    let cs = condition_statuses m a x conditions in
    let ps = payment_statuses m k payments in
    let first : List Status = before ++ move_status m x ∷ [] in
    let f : length first ≡ n + 1 = pushed_length before (move_status m x) n e in
    let both : looks ≡ first ++ (cs ++ (ps ++ after)) =
    l ∙ (ap (λ (xs : List Status). before ++ move_status m x ∷ xs) (append_assoc cs ps after) ∙ sym (pushed before (move_status m x) (cs ++ (ps ++ after)))) in (
      here looks before (move_status m x) ((cs ++ ps) ++ after) n e l,
      conditions_shown looks m a x (n + 1) conditions first (ps ++ after) f both,
      payments_shown looks m k (n + 1 + length conditions) payments (first ++ cs) after
          (joined_length first cs (n + 1) (length conditions) f (conditions_length m a x conditions))
          (both ∙ sym (append_assoc first cs (ps ++ after))),
    )

rows_length : (m : Moment) (k : ℕ) (a : Advert) (rs : List WayRow) → length (flat_map (row_looks m k a) rs) ≡ rows_size rs
rows_length m k a [] = refl
rows_length m k a (r ∷ rs) =
    joined_length (row_looks m k a r) (flat_map (row_looks m k a) rs) (row_size r) (rows_size rs) (row_length m k a r) (rows_length m k a rs)

rows_shown : (looks : List Status) (m : Moment) (k : ℕ) (a : Advert) (n : ℕ) (rs : List WayRow) (before after : List Status)
    → length before ≡ n → looks ≡ before ++ (flat_map (row_looks m k a) rs ++ after) → ShowRows looks m k a n rs
rows_shown looks m k a n [] before after e l = tt
rows_shown looks m k a n (r ∷ rs) before after e l =
    let one = row_looks m k a r in
    let more : List Status = flat_map (row_looks m k a) rs in
    let apart : looks ≡ before ++ (one ++ (more ++ after)) = l ∙ ap (λ (xs : List Status). before ++ xs) (append_assoc one more after) in (
      row_shown looks m k a n r before (more ++ after) e apart,
      rows_shown looks m k a (n + row_size r) rs (before ++ one) after (joined_length before one n (row_size r) e (row_length m k a r))
          (apart ∙ sym (append_assoc before one (more ++ after))),
    )

-- ---- contracts

contracts_shown : (looks : List Status) (m : Moment) (k n : ℕ) (as' : List Advert) (before : List Status)
    → length before ≡ n → looks ≡ before ++ looks_from m k as' → ShowContracts looks m k n as'
contracts_shown looks m k n [] before e l = tt
contracts_shown looks m k n (a ∷ as') before e l =
    let i = move_status m (move k Init) in
    let rs : List Status = flat_map (row_looks m k a) (way_rows a) in
    let more = looks_from m (k + 1) as' in
    let first : List Status = before ++ i ∷ [] in
    let f : length first ≡ n + 1 = pushed_length before i n e in
    let all : looks ≡ first ++ (rs ++ more) = l ∙ sym (pushed before i (rs ++ more)) in
    let g : length (first ++ rs) ≡ n + 1 + rows_size (way_rows a) = joined_length first rs (n + 1) (rows_size (way_rows a)) f (rows_length m k a (way_rows a)) in (
      here looks before i (rs ++ more) n e l,
      rows_shown looks m k a (n + 1) (way_rows a) first more f all,
      contracts_shown looks m (k + 1) (n + sheet_size (sheet a)) as' (first ++ rs) (omega (arith, g)) (all ∙ sym (append_assoc first rs more)),
    )

-- ---- stops

module _ (s : Setup) where
  abbrev IsShown : Stop → Type 0
  IsShown st = ShowContracts st.row.looks st.moment 0 0 s.contracts

  abbrev AllShown : List Stop → Type 0
  AllShown sts = AllByRecursion IsShown sts

  shown_at : (m : Moment) → ShowContracts (looks_from m 0 s.contracts) m 0 0 s.contracts
  shown_at m = contracts_shown (looks_from m 0 s.contracts) m 0 0 s.contracts [] refl refl

  both_shown : (xs ys : List Stop) → AllShown xs → AllShown ys → AllShown (xs ++ ys)
  both_shown [] ys h k = k
  both_shown (x ∷ xs) ys h k = (h.0, both_shown xs ys h.1 k)

  folds_shown : (fs : List Fold) → AllShown (map (fold_stop s) fs)
  folds_shown [] = tt
  folds_shown (f ∷ fs) = (shown_at f.moment, folds_shown fs)

  more_shown : (number left : ℕ) (m : Moment) → AllShown (more_stops s number left m)
  more_shown number zero m = tt
  more_shown number (suc n) m = (shown_at m, tt)

  halt_shown : (number : ℕ) (halt : Option (Event × Halt)) (m : Moment) → AllShown (halt_stops s number halt m)
  halt_shown number None m = tt
  halt_shown number (Some x) m = (shown_at m, tt)

  course_shown : (c : Course) → AllShown (stops_in s c)
  course_shown c =
      let first = first_moment s in
      let fs = shown_folds (folded first c.turns) in
      let end = last_moment first c.turns in (
        shown_at first,
        both_shown (map (fold_stop s) fs) _ (folds_shown fs)
            (both_shown (more_stops s (length c.turns) (length c.turns - held_in fs) end) _
            (more_shown (length c.turns) (length c.turns - held_in fs) end) (halt_shown (length c.turns + 1) c.halt end)),
      )

  stops_shown : (collided : Option (List ℕ × List ℕ)) (c : Course) → AllShown (stops_from s collided c)
  stops_shown (Some pair) c = (shown_at (first_moment s), (shown_at (first_moment s), tt))
  stops_shown None c = course_shown c

pub rows_show_looks : RowsShowLooks
rows_show_looks s es = stops_shown s (opening_collision s) (course s es)
