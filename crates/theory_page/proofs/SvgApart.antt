-- No two texts of an SVG overlap, and none leaves it.
use Rattle.std.proofs.Common.{◌≡◌, ◌≤◌, ◌<◌, ℕ, ◌+◌, ◌-◌, List, [], ◌∷◌, ◌++◌, map, Bool, true, false, refl, ap, ◌∙◌, arith}
use Rattle.std.specs.Prelude.{◌||◌, ◌==◌, max, nat_le, if◌then◌else◌, flat_map, sum_by}
use Rattle.std.specs.List.{list_all}
use Rattle.std.proofs.lemmas.Grind.{common_steps}
use Rattle.std.proofs.lemmas.List.Sums.{sum_by-cons}
use Rattle.std.proofs.lemmas.Bool.Decides.{nat_tests}
use Rattle.theory_text.proofs.ListFacts.{and_is, and_left, and_right}
use Rattle.spec_page.specs.declared.svg_row.Item.{Item}
use Rattle.spec_page.specs.declared.svg_row.Cell.{Cell}
use Rattle.spec_page.specs.declared.svg_row.GridRow.{GridRow}
use Rattle.spec_page.specs.SvgItems.{size, items_size}
use Rattle.spec_page.specs.SvgRun.{picture_grids, outlook_items}
use Rattle.spec_page.specs.SvgLayout.{Spot, spot, Placed, placed, moved, beside, fitting, behind, flowing, reach, last_line, most_beside, what_places, row_lines}
use Rattle.spec_page.specs.SvgLayout.{Widths, wider, with_row, with_rows, widths, table_width, cells_places, row_places}
use Rattle.spec_page.specs.SvgLayout.{PlacedRow, placed_rows, lines_behind, outlook_places, outlook_row, Drawing, drawing_with}
use Rattle.spec_page.specs.SvgFormed.{is_apart, are_apart, is_within, all_places, StandsApart}
use Rattle.spec_page.specs.Statements.{TextsStandApart}

-- ---- two texts

left_apart : (p q : Placed) → p.at + size p.item ≤ q.at → is_apart p q ≡ true
left_apart p q h = grind (arith, nat_tests, common_steps)

above_apart : (p q : Placed) → p.line < q.line → is_apart p q ≡ true
above_apart p q h = grind (arith, nat_tests, common_steps)

-- a spot is another one, or stands behind it
data Later (l a m b : ℕ) : Type 0 where
  below : l < m → Later l a m b
  along : l ≡ m → a ≤ b → Later l a m b

later_later : (l a m b n c : ℕ) → Later l a m b → Later m b n c → Later l a n c
later_later l a m b n c (below h) (below k) = below (omega arith)
later_later l a m b n c (below h) (along k i) = below (omega arith)
later_later l a m b n c (along h i) (below k) = below (omega arith)
later_later l a m b n c (along h i) (along k j) = along (h ∙ k) (omega arith)

later_apart : (p q : Placed) → Later p.line (p.at + size p.item) q.line q.at → is_apart p q ≡ true
later_apart p q (below h) = above_apart p q h
later_apart p q (along h k) = left_apart p q k

-- ---- texts in order

abbrev AllLater : ℕ → ℕ → List Placed → Type 0
AllLater l a [] = Unit {0}
AllLater l a (p ∷ ps) = Later l a p.line p.at × AllLater l a ps

-- each stands behind those before it
abbrev Ordered : List Placed → Type 0
Ordered [] = Unit {0}
Ordered (p ∷ ps) = AllLater p.line (p.at + size p.item) ps × Ordered ps

all_later : (l a m b : ℕ) (ps : List Placed) → Later l a m b → AllLater m b ps → AllLater l a ps
all_later l a m b [] h k = tt
all_later l a m b (p ∷ ps) h k = (later_later l a m b p.line p.at h (k.0), all_later l a m b ps h (k.1))

one_apart : (p : Placed) (ps : List Placed) → AllLater p.line (p.at + size p.item) ps → list_all (is_apart p) ps ≡ true
one_apart p [] h = refl
one_apart p (q ∷ ps) h = and_is _ _ (later_apart p q (h.0)) (one_apart p ps (h.1))

ordered_apart : (ps : List Placed) → Ordered ps → are_apart ps ≡ true
ordered_apart [] h = refl
ordered_apart (p ∷ ps) h = and_is _ _ (one_apart p ps (h.0)) (ordered_apart ps (h.1))

-- ---- texts between lines and between characters

record In (l m a b : ℕ) (p : Placed) : Type 0 where
  top : l ≤ p.line
  bottom : p.line < m
  left : a ≤ p.at
  right : p.at + size p.item ≤ b

abbrev AllIn : ℕ → ℕ → ℕ → ℕ → List Placed → Type 0
AllIn l m a b [] = Unit {0}
AllIn l m a b (p ∷ ps) = In l m a b p × AllIn l m a b ps

-- and so between others that hold these
one_widened : (l m a b k n c d : ℕ) → k ≤ l → m ≤ n → c ≤ a → b ≤ d → (p : Placed) → In l m a b p → In k n c d p
one_widened l m a b k n c d e f g h p i =
    let top : l ≤ p.line = i.top in
    let bottom : p.line < m = i.bottom in
    let left : a ≤ p.at = i.left in
    let right : p.at + size p.item ≤ b = i.right in
    record { top = omega arith; bottom = omega arith; left = omega arith; right = omega arith }

widened : (l m a b k n c d : ℕ) → k ≤ l → m ≤ n → c ≤ a → b ≤ d → (ps : List Placed) → AllIn l m a b ps → AllIn k n c d ps
widened l m a b k n c d e f g h [] i = tt
widened l m a b k n c d e f g h (p ∷ ps) i = (one_widened l m a b k n c d e f g h p (i.0), widened l m a b k n c d e f g h ps (i.1))

both_in : (l m a b : ℕ) (xs ys : List Placed) → AllIn l m a b xs → AllIn l m a b ys → AllIn l m a b (xs ++ ys)
both_in l m a b [] ys h k = k
both_in l m a b (x ∷ xs) ys h k = (h.0, both_in l m a b xs ys (h.1) k)

-- a text that ends before the others begin
left_of_all : (l m a b : ℕ) (p : Placed) (ps : List Placed) → p.at + size p.item ≤ a → AllIn l m a b ps → list_all (is_apart p) ps ≡ true
left_of_all l m a b p [] h k = refl
left_of_all l m a b p (q ∷ ps) h k =
    let left : a ≤ q.at = (k.0).left in
    and_is _ _ (left_apart p q (omega arith)) (left_of_all l m a b p ps h (k.1))

above_all : (l m a b : ℕ) (p : Placed) (ps : List Placed) → p.line < l → AllIn l m a b ps → list_all (is_apart p) ps ≡ true
above_all l m a b p [] h k = refl
above_all l m a b p (q ∷ ps) h k =
    let top : l ≤ q.line = (k.0).top in
    and_is _ _ (above_apart p q (omega arith)) (above_all l m a b p ps h (k.1))

all_append : (f : Placed → Bool) (xs ys : List Placed) → list_all f xs ≡ true → list_all f ys ≡ true → list_all f (xs ++ ys) ≡ true
all_append f [] ys h k = k
all_append f (x ∷ xs) ys h k = and_is _ _ (and_left _ _ h) (all_append f xs ys (and_right _ _ h) k)

-- texts on the left of a character, and others on its right
beside_apart : (k l m n a c d b : ℕ) → c ≤ d → (xs ys : List Placed) → AllIn k l a c xs → AllIn m n d b ys
    → are_apart xs ≡ true → are_apart ys ≡ true → are_apart (xs ++ ys) ≡ true
beside_apart k l m n a c d b e [] ys h i p q = q
beside_apart k l m n a c d b e (x ∷ xs) ys h i p q =
    let right : x.at + size x.item ≤ c = (h.0).right in
    and_is _ _ (all_append (is_apart x) xs ys (and_left _ _ p) (left_of_all m n d b x ys (omega arith) i))
    (beside_apart k l m n a c d b e xs ys (h.1) i (and_right _ _ p) q)

-- texts above a line, and others below it
below_apart : (k l n a b c d : ℕ) (xs ys : List Placed) → AllIn k l a b xs → AllIn l n c d ys
    → are_apart xs ≡ true → are_apart ys ≡ true → are_apart (xs ++ ys) ≡ true
below_apart k l n a b c d [] ys h i p q = q
below_apart k l n a b c d (x ∷ xs) ys h i p q =
    and_is _ _ (all_append (is_apart x) xs ys (and_left _ _ p) (above_all l n c d x ys (h.0).bottom i))
    (below_apart k l n a b c d xs ys (h.1) i (and_right _ _ p) q)

-- ---- texts side by side

side_in : (line at : ℕ) (is : List Item) → AllIn line (line + 1) at (at + items_size is) (beside line at is)
side_in line at [] = tt
side_in line at (i ∷ is) =
    let all : items_size (i ∷ is) ≡ size i + items_size is = sum_by-cons size i is in (
      record { top = omega arith; bottom = omega arith; left = omega arith; right = omega (arith, all) },
      widened line (line + 1) (at + size i) (at + size i + items_size is) line (line + 1) at (at + items_size (i ∷ is))
          (omega arith) (omega arith) (omega arith) (omega (arith, all)) (beside line (at + size i) is) (side_in line (at + size i) is),
    )

side_apart : (line at : ℕ) (is : List Item) → are_apart (beside line at is) ≡ true
side_apart line at [] = refl
side_apart line at (i ∷ is) =
    and_is _ _
    (left_of_all line (line + 1) (at + size i) (at + size i + items_size is) (placed (spot line at) i) (beside line (at + size i) is)
    (omega arith) (side_in line (at + size i) is))
    (side_apart line (at + size i) is)

-- ---- texts in lines

fit_later : (begin limit : ℕ) (s : Spot) (n : ℕ) → Later s.line s.at (fitting begin limit s n).line (fitting begin limit s n).at
fit_later begin limit s n = by_test ((s.at == begin) || nat_le (s.at + n) limit)
  where
    by_test : (b : Bool) → Later s.line s.at (if b then s else spot (s.line + 1) begin).line (if b then s else spot (s.line + 1) begin).at
    by_test true = along refl (omega arith)
    by_test false = below (omega arith)

fit_begins : (begin limit : ℕ) (s : Spot) (n : ℕ) → begin ≤ s.at → begin ≤ (fitting begin limit s n).at
fit_begins begin limit s n h = by_test ((s.at == begin) || nat_le (s.at + n) limit)
  where
    by_test : (b : Bool) → begin ≤ (if b then s else spot (s.line + 1) begin).at
    by_test true = h
    by_test false = omega arith

flow_later : (begin limit : ℕ) (s : Spot) (is : List Item) → AllLater s.line s.at (flowing begin limit s is)
flow_later begin limit s [] = tt
flow_later begin limit s (i ∷ is) =
    let f = fitting begin limit s (size i) in (
      fit_later begin limit s (size i),
      all_later s.line s.at f.line (f.at + size i) (flowing begin limit (behind f (size i)) is)
          (later_later s.line s.at f.line f.at f.line (f.at + size i) (fit_later begin limit s (size i)) (along refl (omega arith)))
          (flow_later begin limit (behind f (size i)) is),
    )

flow_ordered : (begin limit : ℕ) (s : Spot) (is : List Item) → Ordered (flowing begin limit s is)
flow_ordered begin limit s [] = tt
flow_ordered begin limit s (i ∷ is) =
    let f = fitting begin limit s (size i) in
    (flow_later begin limit (behind f (size i)) is, flow_ordered begin limit (behind f (size i)) is)

line_later : (l a m b : ℕ) → Later l a m b → l ≤ m
line_later l a m b (below h) = omega arith
line_later l a m b (along h k) = omega arith

-- the last line isn't above the first
flow_ends : (begin limit : ℕ) (s : Spot) (is : List Item) → s.line ≤ last_line s.line (flowing begin limit s is)
flow_ends begin limit s [] = omega arith
flow_ends begin limit s (i ∷ is) =
    let f = fitting begin limit s (size i) in
    let fit : s.line ≤ f.line = line_later s.line s.at f.line f.at (fit_later begin limit s (size i)) in
    let ends : f.line ≤ last_line f.line (flowing begin limit (behind f (size i)) is) = flow_ends begin limit (behind f (size i)) is in
    omega arith

flow_in : (begin limit : ℕ) (s : Spot) (is : List Item) → begin ≤ s.at
    → AllIn s.line (last_line s.line (flowing begin limit s is) + 1) begin (reach (flowing begin limit s is)) (flowing begin limit s is)
flow_in begin limit s [] h = tt
flow_in begin limit s (i ∷ is) h =
    let f = fitting begin limit s (size i) in
    let rest = flowing begin limit (behind f (size i)) is in
    let fit : s.line ≤ f.line = line_later s.line s.at f.line f.at (fit_later begin limit s (size i)) in
    let begins : begin ≤ f.at = fit_begins begin limit s (size i) h in
    let ends : f.line ≤ last_line f.line rest = flow_ends begin limit (behind f (size i)) is in (
      record { top = fit; bottom = omega arith; left = begins; right = omega arith },
      widened f.line (last_line f.line rest + 1) begin (reach rest) s.line (last_line f.line rest + 1) begin (max (f.at + size i) (reach rest))
          fit (omega arith) (omega arith) (omega arith) rest (flow_in begin limit (behind f (size i)) is (omega arith)),
    )

-- ---- texts that are moved

later_moved : (line at l a m b : ℕ) → Later l a m b → Later (line + l) (at + a) (line + m) (at + b)
later_moved line at l a m b (below h) = below (omega arith)
later_moved line at l a m b (along h k) = along (ap (λ n. line + n) h) (omega arith)

all_later_moved : (line at l a : ℕ) (ps : List Placed) → AllLater l a ps → AllLater (line + l) (at + a) (map (moved line at) ps)
all_later_moved line at l a [] h = tt
all_later_moved line at l a (p ∷ ps) h = (later_moved line at l a p.line p.at (h.0), all_later_moved line at l a ps (h.1))

ordered_moved : (line at : ℕ) (ps : List Placed) → Ordered ps → Ordered (map (moved line at) ps)
ordered_moved line at [] h = tt
ordered_moved line at (p ∷ ps) h = (
  all_later (line + p.line) (at + p.at + size p.item) (line + p.line) (at + (p.at + size p.item)) (map (moved line at) ps)
      (along refl (omega arith)) (all_later_moved line at p.line (p.at + size p.item) ps (h.0)),
  ordered_moved line at ps (h.1),
)

in_moved : (line at l m a b : ℕ) (ps : List Placed) → AllIn l m a b ps → AllIn (line + l) (line + m) (at + a) (at + b) (map (moved line at) ps)
in_moved line at l m a b [] h = tt
in_moved line at l m a b (p ∷ ps) h =
    let top : l ≤ p.line = (h.0).top in
    let bottom : p.line < m = (h.0).bottom in
    let left : a ≤ p.at = (h.0).left in
    let right : p.at + size p.item ≤ b = (h.0).right in
    (record { top = omega arith; bottom = omega arith; left = omega arith; right = omega arith }, in_moved line at l m a b ps (h.1))

-- ---- columns

abbrev pub Fits : List ℕ → List Cell → Type 0
Fits ws [] = Unit {0}
Fits [] (c ∷ cs) = 1 ≤ 0
Fits (w ∷ ws) (c ∷ cs) = (items_size c.items ≤ w) × Fits ws cs

sizes_fit : (cs : List Cell) → Fits (map (λ c. items_size c.items) cs) cs
sizes_fit [] = tt
sizes_fit (c ∷ cs) = (omega arith, sizes_fit cs)

wider_fits : (ws : List ℕ) (cs : List Cell) → Fits (wider ws cs) cs
wider_fits [] cs = sizes_fit cs
wider_fits (w ∷ ws) [] = tt
wider_fits (w ∷ ws) (c ∷ cs) = (omega arith, wider_fits ws cs)

wider_keeps : (ws : List ℕ) (ds cs : List Cell) → Fits ws cs → Fits (wider ws ds) cs
wider_keeps ws ds [] h = tt
wider_keeps [] ds (c ∷ cs) h = absurd (omega arith)
wider_keeps (w ∷ ws) [] (c ∷ cs) h = h
wider_keeps (w ∷ ws) (d ∷ ds) (c ∷ cs) h =
    let fit : items_size c.items ≤ w = h.0 in
    (omega arith, wider_keeps ws ds cs (h.1))

abbrev sum : List ℕ → ℕ
sum ws = sum_by (λ n. n) ws

cells_in : (line at : ℕ) (ws : List ℕ) (cs : List Cell) → Fits ws cs → AllIn line (line + 1) at (at + sum ws) (cells_places line at ws cs)
cells_in line at [] cs h = tt
cells_in line at (w ∷ ws) [] h = tt
cells_in line at (w ∷ ws) (c ∷ cs) h =
    let n = items_size c.items in
    let fit : n ≤ w = h.0 in
    let all : sum (w ∷ ws) ≡ w + sum ws = sum_by-cons (λ k. k) w ws in
    both_in line (line + 1) at (at + sum (w ∷ ws)) (beside line (at + (w - n)) c.items) (cells_places line (at + w) ws cs)
    (widened line (line + 1) (at + (w - n)) (at + (w - n) + n) line (line + 1) at (at + sum (w ∷ ws))
    (omega arith) (omega arith) (omega arith) (omega (arith, all)) (beside line (at + (w - n)) c.items) (side_in line (at + (w - n)) c.items))
    (widened line (line + 1) (at + w) (at + w + sum ws) line (line + 1) at (at + sum (w ∷ ws))
    (omega arith) (omega arith) (omega arith) (omega (arith, all)) (cells_places line (at + w) ws cs) (cells_in line (at + w) ws cs (h.1)))

cells_apart : (line at : ℕ) (ws : List ℕ) (cs : List Cell) → Fits ws cs → are_apart (cells_places line at ws cs) ≡ true
cells_apart line at [] cs h = refl
cells_apart line at (w ∷ ws) [] h = refl
cells_apart line at (w ∷ ws) (c ∷ cs) h =
    let n = items_size c.items in
    let fit : n ≤ w = h.0 in
    beside_apart line (line + 1) line (line + 1) (at + (w - n)) (at + (w - n) + n) (at + w) (at + w + sum ws) (omega arith)
    (beside line (at + (w - n)) c.items) (cells_places line (at + w) ws cs)
    (side_in line (at + (w - n)) c.items) (cells_in line (at + w) ws cs (h.1))
    (side_apart line (at + (w - n)) c.items) (cells_apart line (at + w) ws cs (h.1))

-- ---- rows fit into their columns

pub record FitsRow (w : Widths) (r : GridRow) : Type 0 where
  pub path : items_size r.path ≤ w.path
  pub what : reach (what_places r) ≤ w.what
  pub sums : Fits w.sums r.sums

abbrev pub AllFit : Widths → List GridRow → Type 0
AllFit w [] = Unit {0}
AllFit w (r ∷ rs) = FitsRow w r × AllFit w rs

row_fits : (w : Widths) (r : GridRow) → FitsRow (with_row w r) r
row_fits w r = record { path = omega arith; what = omega arith; sums = wider_fits w.sums r.sums }

row_keeps : (w : Widths) (x r : GridRow) → FitsRow w r → FitsRow (with_row w x) r
row_keeps w x r h =
    let path : items_size r.path ≤ w.path = h.path in
    let what : reach (what_places r) ≤ w.what = h.what in
    record { path = omega arith; what = omega arith; sums = wider_keeps w.sums x.sums r.sums h.sums }

rows_keep : (w : Widths) (xs : List GridRow) (r : GridRow) → FitsRow w r → FitsRow (with_rows w xs) r
rows_keep w [] r h = h
rows_keep w (x ∷ xs) r h = rows_keep (with_row w x) xs r (row_keeps w x r h)

pub rows_fit : (w : Widths) (rs : List GridRow) → AllFit (with_rows w rs) rs
rows_fit w [] = tt
rows_fit w (r ∷ rs) = (rows_keep (with_row w r) rs r (row_fits w r), rows_fit (with_row w r) rs)

-- ---- a row

what_in : (w : Widths) (line : ℕ) (r : GridRow) → FitsRow w r
    → AllIn line (line + row_lines r) w.path (w.path + w.what) (map (moved line w.path) (what_places r))
what_in w line r h =
    let what : reach (what_places r) ≤ w.what = h.what in
    widened (line + 0) (line + (last_line 0 (what_places r) + 1)) (w.path + r.indent) (w.path + reach (what_places r))
    line (line + row_lines r) w.path (w.path + w.what) (omega arith) (omega arith) (omega arith) (omega arith)
    (map (moved line w.path) (what_places r))
    (in_moved line w.path 0 (last_line 0 (what_places r) + 1) r.indent (reach (what_places r)) (what_places r)
    (flow_in r.indent most_beside (spot 0 r.indent) r.what (omega arith)))

-- what stands beside the path, and the sums
rest_in : (w : Widths) (line : ℕ) (r : GridRow) → FitsRow w r
    → AllIn line (line + row_lines r) w.path (table_width w)
    (map (moved line w.path) (what_places r) ++ cells_places line (w.path + w.what) w.sums r.sums)
rest_in w line r h =
    both_in line (line + row_lines r) w.path (table_width w) (map (moved line w.path) (what_places r))
    (cells_places line (w.path + w.what) w.sums r.sums)
    (widened line (line + row_lines r) w.path (w.path + w.what) line (line + row_lines r) w.path (table_width w)
    (omega arith) (omega arith) (omega arith) (omega arith) (map (moved line w.path) (what_places r)) (what_in w line r h))
    (widened line (line + 1) (w.path + w.what) (w.path + w.what + sum w.sums) line (line + row_lines r) w.path (table_width w)
    (omega arith) (omega arith) (omega arith) (omega arith) (cells_places line (w.path + w.what) w.sums r.sums)
    (cells_in line (w.path + w.what) w.sums r.sums h.sums))

row_in : (w : Widths) (line : ℕ) (r : GridRow) → FitsRow w r → AllIn line (line + row_lines r) 0 (table_width w) (row_places w line r)
row_in w line r h =
    let path : items_size r.path ≤ w.path = h.path in
    let rest = map (moved line w.path) (what_places r) ++ cells_places line (w.path + w.what) w.sums r.sums in
    both_in line (line + row_lines r) 0 (table_width w) (beside line 0 r.path) rest
    (widened line (line + 1) 0 (0 + items_size r.path) line (line + row_lines r) 0 (table_width w)
    (omega arith) (omega arith) (omega arith) (omega arith) (beside line 0 r.path) (side_in line 0 r.path))
    (widened line (line + row_lines r) w.path (table_width w) line (line + row_lines r) 0 (table_width w)
    (omega arith) (omega arith) (omega arith) (omega arith) rest (rest_in w line r h))

row_apart : (w : Widths) (line : ℕ) (r : GridRow) → FitsRow w r → are_apart (row_places w line r) ≡ true
row_apart w line r h =
    let path : items_size r.path ≤ w.path = h.path in
    let sums = cells_places line (w.path + w.what) w.sums r.sums in
    let what = map (moved line w.path) (what_places r) in
    beside_apart line (line + 1) line (line + row_lines r) 0 (0 + items_size r.path) w.path (table_width w) (omega arith)
    (beside line 0 r.path) (what ++ sums) (side_in line 0 r.path) (rest_in w line r h) (side_apart line 0 r.path)
    (beside_apart line (line + row_lines r) line (line + 1) w.path (w.path + w.what) (w.path + w.what) (w.path + w.what + sum w.sums) (omega arith)
    what sums (what_in w line r h) (cells_in line (w.path + w.what) w.sums r.sums h.sums)
    (ordered_apart what (ordered_moved line w.path (what_places r) (flow_ordered r.indent most_beside (spot 0 r.indent) r.what)))
    (cells_apart line (w.path + w.what) w.sums r.sums h.sums))

-- ---- all rows

abbrev pub places_in : List PlacedRow → List Placed
places_in rows = flat_map (λ r. r.places) rows

lines_grow : (line : ℕ) (rs : List GridRow) → line ≤ lines_behind line rs
lines_grow line [] = omega arith
lines_grow line (r ∷ rs) =
    let grows : line + row_lines r ≤ lines_behind (line + row_lines r) rs = lines_grow (line + row_lines r) rs in
    omega arith

rows_in : (w : Widths) (line : ℕ) (rs : List GridRow) → AllFit w rs
    → AllIn line (lines_behind line rs) 0 (table_width w) (places_in (placed_rows w line rs))
rows_in w line [] h = tt
rows_in w line (r ∷ rs) h =
    let grows : line + row_lines r ≤ lines_behind (line + row_lines r) rs = lines_grow (line + row_lines r) rs in
    let later = places_in (placed_rows w (line + row_lines r) rs) in
    both_in line (lines_behind (line + row_lines r) rs) 0 (table_width w) (row_places w line r) later
    (widened line (line + row_lines r) 0 (table_width w) line (lines_behind (line + row_lines r) rs) 0 (table_width w)
    (omega arith) grows (omega arith) (omega arith) (row_places w line r) (row_in w line r (h.0)))
    (widened (line + row_lines r) (lines_behind (line + row_lines r) rs) 0 (table_width w)
    line (lines_behind (line + row_lines r) rs) 0 (table_width w)
    (omega arith) (omega arith) (omega arith) (omega arith) later (rows_in w (line + row_lines r) rs (h.1)))

rows_apart : (w : Widths) (line : ℕ) (rs : List GridRow) → AllFit w rs → are_apart (places_in (placed_rows w line rs)) ≡ true
rows_apart w line [] h = refl
rows_apart w line (r ∷ rs) h =
    below_apart line (line + row_lines r) (lines_behind (line + row_lines r) rs) 0 (table_width w) 0 (table_width w)
    (row_places w line r) (places_in (placed_rows w (line + row_lines r) rs))
    (row_in w line r (h.0)) (rows_in w (line + row_lines r) rs (h.1))
    (row_apart w line r (h.0)) (rows_apart w (line + row_lines r) rs (h.1))

-- ---- the drawing

pub places_append : (rs : List PlacedRow) (r : PlacedRow) → places_in (rs ++ r ∷ []) ≡ places_in rs ++ r.places
places_append [] r = append_nil r.places
  where
    append_nil : (ps : List Placed) → ps ++ [] ≡ ps
    append_nil [] = refl
    append_nil (p ∷ ps) = ap (λ xs. p ∷ xs) (append_nil ps)
places_append (x ∷ xs) r =
    ap (λ ps. x.places ++ ps) (places_append xs r) ∙ assoc x.places (places_in xs) r.places
  where
    assoc : (as' bs cs : List Placed) → as' ++ (bs ++ cs) ≡ (as' ++ bs) ++ cs
    assoc [] bs cs = refl
    assoc (a ∷ as') bs cs = ap (λ ps. a ∷ ps) (assoc as' bs cs)

all_within : (d : Drawing) (ps : List Placed) → AllIn 0 d.lines 0 d.width ps → list_all (is_within d) ps ≡ true
all_within d [] h = refl
all_within d (p ∷ ps) h = and_is _ _ (one_within p (h.0).bottom (h.0).right) (all_within d ps (h.1))
  where
    one_within : (p : Placed) → p.line < d.lines → p.at + size p.item ≤ d.width → is_within d p ≡ true
    one_within p h k = grind (arith, nat_tests, common_steps)

-- rows that fit into these columns, and what can be done
stands_apart : (w : Widths) (rs : List GridRow) (is : List Item) → AllFit w rs → StandsApart (drawing_with w rs is)
stands_apart w rs is fit =
    let line = lines_behind 0 rs in
    let d = drawing_with w rs is in
    let flow = outlook_places (table_width w) is in
    let last = map (moved line 0) flow in
    let rows = places_in (placed_rows w 0 rs) in
    let e : all_places d ≡ rows ++ last = places_append (placed_rows w 0 rs) (outlook_row line flow) in
    let rows_are : AllIn 0 line 0 (table_width w) rows = rows_in w 0 rs fit in
    let last_is : AllIn (line + 0) (line + (last_line 0 flow + 1)) (0 + 0) (0 + reach flow) last =
    in_moved line 0 0 (last_line 0 flow + 1) 0 (reach flow) flow (flow_in 0 (table_width w) (spot 0 0) is (omega arith)) in
    let low : AllIn line (line + last_line 0 flow + 1) 0 (reach flow) last =
    widened (line + 0) (line + (last_line 0 flow + 1)) (0 + 0) (0 + reach flow) line (line + last_line 0 flow + 1) 0 (reach flow)
    (omega arith) (omega arith) (omega arith) (omega arith) last last_is in
    record {
      apart = ap are_apart e ∙ below_apart 0 line (line + last_line 0 flow + 1) 0 (table_width w) 0 (reach flow) rows last rows_are low
          (rows_apart w 0 rs fit) (ordered_apart last (ordered_moved line 0 flow (flow_ordered 0 (table_width w) (spot 0 0) is)));
      within = ap (λ ps. list_all (is_within d) ps) e
          ∙ all_within d (rows ++ last)
          (both_in 0 d.lines 0 d.width rows last
          (widened 0 line 0 (table_width w) 0 d.lines 0 d.width (omega arith) (omega arith) (omega arith) (omega arith) rows rows_are)
          (widened line (line + last_line 0 flow + 1) 0 (reach flow) 0 d.lines 0 d.width
          (omega arith) (omega arith) (omega arith) (omega arith) last low));
    }

pub texts_stand_apart : TextsStandApart
texts_stand_apart p =
    stands_apart (widths (picture_grids p)) (picture_grids p) (outlook_items p.rows)
    (rows_fit (record { path = 0; what = 0; sums = [] }) (picture_grids p))
