-- No id of an SVG stands twice: different paths and different contracts have different texts.
use Rattle.std.proofs.Common.{◌≡◌, ℕ, ◌+◌, ◌<◌, ◌≤◌, ◌^◌, List, [], ◌∷◌, ◌++◌, length, map, Bool, true, false, refl, sym, ap, subst, ◌∙◌, append_assoc, arith, lit≤}
use Rattle.std.specs.Prelude.{if◌then◌else◌, nat_lt, codes}
use Rattle.std.specs.List.{AllByRecursion}
use Rattle.std.specs.Fmt.{decimal}
use Rattle.std.specs.Str.{bytes_eq}
use Rattle.std.proofs.lemmas.Bool.Decides.{nat_tests}
use Rattle.std.proofs.lemmas.List.{length-map}
use Rattle.std.proofs.lemmas.List.Folds.{list_any-append}
use Rattle.spec_data.specs.Lists.{is_among, are_different}
use Rattle.spec_data.specs.Ranges.{most_contracts}
use Rattle.spec_terms.specs.Advert.{Advert}
use Rattle.spec_terms.specs.Faults.{IsWellFormed}
use Rattle.spec_terms.specs.Order.{branch_paths}
use Rattle.spec_terms.specs.Paths.{path_eq}
use Rattle.spec_terms.specs.PathSameness.{path_eq-Decides}
use Rattle.spec_terms.specs.declared.path.PathStep.{PathStep}
use Rattle.spec_bitcoin.specs.Keys.{path_text}
use Rattle.spec_bitcoin.proofs.StepLemmas.{two_decimals, two_paths}
use Rattle.spec_run.specs.declared.event.Event.{Event}
use Rattle.spec_run.specs.Setup.{Setup}
use Rattle.spec_tool.specs.declared.which.Which.{Which}
use Rattle.spec_tool.specs.declared.which.Which.TheVariants.{Init, At}
use Rattle.spec_page.specs.declared.event_row.EventRow.{EventRow}
use Rattle.spec_page.specs.declared.event_row.Look.{Look}
use Rattle.spec_page.specs.declared.event_row.Look.TheVariants as looks
use Rattle.spec_page.specs.declared.way_row.WayRow.{WayRow}
use Rattle.spec_page.specs.declared.way_row.WayRow.TheVariants.{Choice, Way}
use Rattle.spec_page.specs.EventWords.{contract_text, move_text, which_words}
use Rattle.spec_page.specs.Moments.{move}
use Rattle.spec_page.specs.Picture.{picture, sheet}
use Rattle.spec_page.specs.RunPart.{row_id}
use Rattle.spec_page.specs.Statements.{count_path, paid_paths, shown_paths}
use Rattle.spec_page.specs.Stops.{rows_of, stops}
use Rattle.spec_page.specs.Ways.{way_rows}
use Rattle.theory_text.proofs.ListFacts.{and_is, and_left, and_right, not_yes, not_no, or_no, or_left, or_right}
use Rattle.theory_script.specs.Listed.{is_path_among, are_once, PathsInOrder}
use Rattle.theory_page.specs.Ids.{SvgIdsStandOnce, id_of, way_id, way_ids, sheet_ids, svg_ids}
use Rattle.theory_page.proofs.Once.{Apart, both_differ, not_same, stand_once}
use Rattle.theory_page.proofs.Shown.{rows_show_branches}
use Rattle.theory_page.proofs.Small.{IsSmall, AreSmall, paths_small}
use Rattle.theory_page.proofs.SvgIds.{svg_has}

-- ---- how often a path stands in a list

count_both : (p : List PathStep) (qs rs : List (List PathStep)) → count_path p (qs ++ rs) ≡ count_path p qs + count_path p rs
count_both p [] rs = omega arith
count_both p (q ∷ qs) rs = by_same (path_eq p q) (count_both p qs rs)
  where
    by_same : (same : Bool) → count_path p (qs ++ rs) ≡ count_path p qs + count_path p rs
        → (if same then 1 else 0) + count_path p (qs ++ rs) ≡ ((if same then 1 else 0) + count_path p qs) + count_path p rs
    by_same true h = omega (arith, h)
    by_same false h = omega (arith, h)

absent_count : (p : List PathStep) (qs : List (List PathStep)) → is_path_among p qs ≡ false → count_path p qs ≡ 0
absent_count p [] h = refl
absent_count p (q ∷ qs) h =
    λ i. (if or_left (path_eq p q) (is_path_among p qs) h i then 1 else 0)
    + absent_count p qs (or_right (path_eq p q) (is_path_among p qs) h) i

count_absent : (p : List PathStep) (qs : List (List PathStep)) → count_path p qs ≡ 0 → is_path_among p qs ≡ false
count_absent p [] h = refl
count_absent p (q ∷ qs) h = by_same (path_eq p q) refl h (count_absent p qs)
  where
    by_same : (same : Bool) → path_eq p q ≡ same → (if same then 1 else 0) + count_path p qs ≡ 0
        → (count_path p qs ≡ 0 → is_path_among p qs ≡ false) → is_path_among p (q ∷ qs) ≡ false
    by_same true e k later = absurd (omega (arith, k))
    by_same false e k later = or_no _ _ e (later (omega (arith, k)))

once_count : (p : List PathStep) (qs : List (List PathStep)) → are_once qs ≡ true → count_path p qs ≤ 1
once_count p [] h = omega arith
once_count p (q ∷ qs) h = by_same (path_eq p q) refl (once_count p qs (and_right _ _ h))
  where
    by_same : (same : Bool) → path_eq p q ≡ same → count_path p qs ≤ 1 → (if same then 1 else 0) + count_path p qs ≤ 1
    by_same true e later =
        let same : q ≡ p = sym ((path_eq-Decides p q).0 e) in
        let none = absent_count p qs (subst (λ (r : List PathStep). is_path_among r qs ≡ false) same (not_yes _ (and_left _ _ h))) in
        omega (arith, none)
    by_same false e later = omega (arith, later)

same_count : (p : List PathStep) (qs : List (List PathStep)) → count_path p (p ∷ qs) ≡ 1 + count_path p qs
same_count p qs = λ i. (if (path_eq-Decides p p).1 refl i then 1 else 0) + count_path p qs

more_count : (p q : List PathStep) (qs : List (List PathStep)) → count_path p qs ≤ count_path p (q ∷ qs)
more_count p q qs = omega arith

count_once : (qs : List (List PathStep)) → ((p : List PathStep) → count_path p qs ≤ 1) → are_once qs ≡ true
count_once [] h = refl
count_once (q ∷ qs) h =
    let one = h q in
    let all = same_count q qs in
    and_is _ _ (not_no _ (count_absent q qs (omega (arith, one, all))))
    (count_once qs (λ p. let few = h p in let more = more_count p q qs in omega (arith, few, more)))

small_among : (p : List PathStep) (qs : List (List PathStep)) → AreSmall qs → 1 ≤ count_path p qs → IsSmall p
small_among p [] h k = absurd (omega (arith, k))
small_among p (q ∷ qs) h k = by_same (path_eq p q) refl k (small_among p qs h.1)
  where
    by_same : (same : Bool) → path_eq p q ≡ same → 1 ≤ (if same then 1 else 0) + count_path p qs
        → (1 ≤ count_path p qs → IsSmall p) → IsSmall p
    by_same true e k later = subst IsSmall (sym ((path_eq-Decides p q).0 e)) h.0
    by_same false e k later = later (omega (arith, k))

all_small : (qs : List (List PathStep)) → ((p : List PathStep) → 1 ≤ count_path p qs → IsSmall p) → AreSmall qs
all_small [] h = tt
all_small (q ∷ qs) h =
    let all = same_count q qs in
    (h q (omega (arith, all)), all_small qs (λ p k. let more = more_count p q qs in h p (omega (arith, k, more))))

-- ---- the paths of rows

abbrev way_paths : List WayRow → List (List PathStep)
way_paths [] = []
way_paths (Choice depth share ∷ rows) = way_paths rows
way_paths (Way path depth share conditions payments ∷ rows) = path ∷ way_paths rows

fewer_ways : (p : List PathStep) (rows : List WayRow) → count_path p (way_paths rows) ≤ count_path p (shown_paths rows)
fewer_ways p [] = lit≤ tt
fewer_ways p (Choice depth share ∷ rows) = fewer_ways p rows
fewer_ways p (Way path depth share conditions payments ∷ rows) =
    let h = fewer_ways p rows in
    let both = count_both p (paid_paths path payments) (shown_paths rows) in
    omega (arith, h, both)

module _ (order : PathsInOrder) (a : Advert) where
  in_branches : (p : List PathStep) → count_path p (way_paths (way_rows a)) ≤ count_path p (branch_paths a.root)
  in_branches p = let h = fewer_ways p (way_rows a) in let e = rows_show_branches a p in omega (arith, h, e)

  ways_once : are_once (way_paths (way_rows a)) ≡ true
  ways_once =
      count_once (way_paths (way_rows a))
      (λ p. let few = in_branches p in
      let one = once_count p (branch_paths a.root) (order (λ x. x) (record { contract = 0; advert = a; bound = []; hashes = [] })).paths_once in
      omega (arith, few, one))

  ways_small : IsWellFormed a → AreSmall (way_paths (way_rows a))
  ways_small well =
      all_small (way_paths (way_rows a))
      (λ p k. let few = in_branches p in small_among p (branch_paths a.root) (paths_small a well) (omega (arith, k, few)))

-- ---- their texts

-- what stands behind the numbers of two contracts, and whether they are one
name_cut : (several : Bool) (k l : ℕ) (x y : List ℕ) → k < 2 ^ 32 → l < 2 ^ 32 → contract_text several k ++ x ≡ contract_text several l ++ y
    → (several ≡ true → k ≡ l) × (x ≡ y)
name_cut false k l x y h g e = (λ t. absurd cc, e)
name_cut true k l x y h g e =
    let r = two_decimals k l (58 ∷ x) (58 ∷ y) h g refl refl
    (sym (append_assoc (decimal k) (codes ":") x) ∙ e ∙ append_assoc (decimal l) (codes ":") y) in
    (λ t. r.0, behind_colon r.1)
  where
    behind_colon : 58 ∷ x ≡ 58 ∷ y → x ≡ y
    behind_colon e = cc

behind : (x y : List ℕ) → 119 ∷ 97 ∷ 121 ∷ 45 ∷ x ≡ 119 ∷ 97 ∷ 121 ∷ 45 ∷ y → x ≡ y
behind x y e = cc

same_path : (p q : List PathStep) → IsSmall p → IsSmall q → path_text p ≡ path_text q → p ≡ q
same_path p q h k e = (two_paths p q [] [] h k (ap (λ (t : List ℕ). tail_of t ++ 58 ∷ []) e)).0
  where
    tail_of : List ℕ → List ℕ
    tail_of [] = []
    tail_of (b ∷ bytes) = bytes

first_of : List ℕ → ℕ
first_of [] = 0
first_of (b ∷ bytes) = b

no_init : (p : List PathStep) → which_words (At p) ≡ which_words Init → ⊥
unfolding first_of
no_init p e = let n : 114 ≡ 105 = ap first_of e in omega (arith, n)

no_truth : (a : Bool) → a ≡ true → a ≡ false → ⊥
no_truth true e f = cc
no_truth false e f = cc

-- ---- one contract

module _ (several : Bool) (k : ℕ) (small : k < 2 ^ 32) where
  init_new : (rows : List WayRow) → is_among (way_id several k Init) (way_ids several k rows) ≡ false
  init_new [] = refl
  init_new (Choice depth share ∷ rows) = init_new rows
  init_new (Way path depth share conditions payments ∷ rows) =
      or_no _ _ (not_same _ _ (λ e. no_init path (name_cut several k k (which_words (At path)) (which_words Init) small small (behind (move_text several (move k (At path))) (move_text several (move k Init)) e)).1)) (init_new rows)

  path_new : (p : List PathStep) (rows : List WayRow) → IsSmall p → AreSmall (way_paths rows) → is_path_among p (way_paths rows) ≡ false
      → is_among (way_id several k (At p)) (way_ids several k rows) ≡ false
  path_new p [] h g e = refl
  path_new p (Choice depth share ∷ rows) h g e = path_new p rows h g e
  path_new p (Way path depth share conditions payments ∷ rows) h g e =
      let differ : bytes_eq (way_id several k (At path)) (way_id several k (At p)) ≡ false =
      not_same _ _ (λ same. no_truth (path_eq p path)
      ((path_eq-Decides p path).1 (sym (same_path path p g.0 h (name_cut several k k (which_words (At path)) (which_words (At p)) small small (behind (move_text several (move k (At path))) (move_text several (move k (At p))) same)).1))) (or_left _ _ e)) in
      or_no _ _ differ (path_new p rows h g.1 (or_right _ _ e))

  ways_differ : (rows : List WayRow) → AreSmall (way_paths rows) → are_once (way_paths rows) ≡ true → are_different (way_ids several k rows) ≡ true
  ways_differ [] h e = refl
  ways_differ (Choice depth share ∷ rows) h e = ways_differ rows h e
  ways_differ (Way path depth share conditions payments ∷ rows) h e =
      and_is _ _ (not_no _ (path_new path rows h.0 h.1 (not_yes _ (and_left _ _ e)))) (ways_differ rows h.1 (and_right _ _ e))

-- ---- several contracts

others_differ : (k l : ℕ) (v w : Which) → k < l → l < 2 ^ 32 → bytes_eq (way_id true l w) (way_id true k v) ≡ false
others_differ k l v w less small =
    not_same _ _ (λ e. let n = (name_cut true l k (which_words w) (which_words v) small (omega (arith, less, small)) (behind (move_text true (move l w)) (move_text true (move k v)) e)).0 refl in absurd (omega (arith, n, less)))

-- a transaction of contract k isn't one of a later contract
other_new : (k l : ℕ) (v : Which) (rows : List WayRow) → k < l → l < 2 ^ 32 → is_among (way_id true k v) (way_ids true l rows) ≡ false
other_new k l v [] less small = refl
other_new k l v (Choice depth share ∷ rows) less small = other_new k l v rows less small
other_new k l v (Way path depth share conditions payments ∷ rows) less small =
    or_no _ _ (others_differ k l v (At path) less small) (other_new k l v rows less small)

later_new : (k l : ℕ) (v : Which) (others : List Advert) → k < l → l + length others ≤ 2 ^ 32
    → is_among (way_id true k v) (sheet_ids true l (map sheet others)) ≡ false
later_new k l v [] less few = refl
later_new k l v (a ∷ others) less few =
    list_any-append (λ (t : List ℕ). bytes_eq t (way_id true k v)) (way_id true l Init ∷ way_ids true l (way_rows a))
    (sheet_ids true (l + 1) (map sheet others))
    ∙ or_no _ _ (or_no _ _ (others_differ k l v Init less (omega (arith, few))) (other_new k l v (way_rows a) less (omega (arith, few))))
    (later_new k (l + 1) v others (omega (arith, less)) (omega (arith, few)))

ways_apart : (k : ℕ) (rows : List WayRow) (others : List Advert) → (k + 1) + length others ≤ 2 ^ 32
    → Apart (way_ids true k rows) (sheet_ids true (k + 1) (map sheet others))
ways_apart k [] others few = tt
ways_apart k (Choice depth share ∷ rows) others few = ways_apart k rows others few
ways_apart k (Way path depth share conditions payments ∷ rows) others few =
    (later_new k (k + 1) (At path) others (omega arith) few, ways_apart k rows others few)

-- ---- all contracts

module _ (order : PathsInOrder) where
  sheet_differs : (several : Bool) (k : ℕ) (a : Advert) → k < 2 ^ 32 → IsWellFormed a
      → are_different (way_id several k Init ∷ way_ids several k (way_rows a)) ≡ true
  sheet_differs several k a small well =
      and_is _ _ (not_no _ (init_new several k small (way_rows a)))
      (ways_differ several k small (way_rows a) (ways_small order a well) (ways_once order a))

  sheets_differ : (k : ℕ) (adverts : List Advert) → AllByRecursion IsWellFormed adverts → k + length adverts ≤ 2 ^ 32
      → are_different (sheet_ids true k (map sheet adverts)) ≡ true
  sheets_differ k [] well few = refl
  sheets_differ k (a ∷ others) well few =
      both_differ (way_id true k Init ∷ way_ids true k (way_rows a)) (sheet_ids true (k + 1) (map sheet others))
      (sheet_differs true k a (omega (arith, few)) well.0) (sheets_differ (k + 1) others well.1 (omega (arith, few)))
      (later_new k (k + 1) Init others (omega arith) (omega (arith, few)), ways_apart k (way_rows a) others (omega (arith, few)))

  -- by whether there are several
  contracts_differ : (several : Bool) (adverts : List Advert) → nat_lt 1 (length adverts) ≡ several → AllByRecursion IsWellFormed adverts
      → length adverts ≤ 2 ^ 32 → are_different (sheet_ids several 0 (map sheet adverts)) ≡ true
  contracts_differ true adverts e well few = sheets_differ 0 adverts well (omega (arith, few))
  contracts_differ false [] e well few = refl
  contracts_differ false (a ∷ []) e well few =
      both_differ (way_id false 0 Init ∷ way_ids false 0 (way_rows a)) [] (sheet_differs false 0 a (omega arith) well.0) refl
      (none (way_id false 0 Init ∷ way_ids false 0 (way_rows a)))
    where
      none : (ids : List (List ℕ)) → Apart ids []
      none [] = tt
      none (id ∷ ids) = (refl, none ids)
  contracts_differ false (a ∷ b ∷ others) e well few = absurd (grind (arith, nat_tests, e))

-- ---- rows of the run

no_row : (x : List ℕ) (first : ℕ) (look : Look) → bytes_eq (row_id first look) (codes "way-" ++ x) ≡ false
no_row x first looks.Start = refl
no_row x first looks.Blocks = refl
no_row x first looks.Done = refl
no_row x first looks.Accepted = refl
no_row x first looks.Refused = refl
no_row x first looks.More = refl
no_row x first looks.Halt = refl

no_rows : (x : List ℕ) (rows : List EventRow) → is_among (codes "way-" ++ x) (map id_of rows) ≡ false
no_rows x [] = refl
no_rows x (r ∷ rows) = or_no _ _ (no_row x r.first r.look) (no_rows x rows)

ways_no_rows : (several : Bool) (k : ℕ) (ways : List WayRow) (rows : List EventRow) → Apart (way_ids several k ways) (map id_of rows)
ways_no_rows several k [] rows = tt
ways_no_rows several k (Choice depth share ∷ ways) rows = ways_no_rows several k ways rows
ways_no_rows several k (Way path depth share conditions payments ∷ ways) rows = (no_rows _ rows, ways_no_rows several k ways rows)

both_apart : (xs ys zs : List (List ℕ)) → Apart xs zs → Apart ys zs → Apart (xs ++ ys) zs
both_apart [] ys zs h g = g
both_apart (x ∷ xs) ys zs h g = (h.0, both_apart xs ys zs h.1 g)

sheets_no_rows : (several : Bool) (k : ℕ) (adverts : List Advert) (rows : List EventRow)
    → Apart (sheet_ids several k (map sheet adverts)) (map id_of rows)
sheets_no_rows several k [] rows = tt
sheets_no_rows several k (a ∷ others) rows =
    both_apart (way_id several k Init ∷ way_ids several k (way_rows a)) (sheet_ids several (k + 1) (map sheet others)) (map id_of rows)
    (no_rows _ rows, ways_no_rows several k (way_rows a) rows) (sheets_no_rows several (k + 1) others rows)

-- ---- all

svgs_once : PathsInOrder → (s : Setup) (es : List Event) → AllByRecursion IsWellFormed s.contracts → length s.contracts ≤ most_contracts
    → length es < 2 ^ 31 → are_different (svg_ids (picture s es)) ≡ true
svgs_once order s es well few events =
    let rows = rows_of (stops s es) in
    let several = nat_lt 1 (length (map sheet s.contracts)) in
    let count = length-map s.contracts sheet in
    both_differ (sheet_ids several 0 (map sheet s.contracts)) (map id_of rows)
    (contracts_differ order several s.contracts (ap (nat_lt 1) (sym count)) well (omega (arith, few)))
    (and_right _ _ (and_right _ _ (stand_once s es events)))
    (sheets_no_rows several 0 s.contracts rows)

pub svg_ids_stand_once : PathsInOrder → SvgIdsStandOnce
svg_ids_stand_once order = record { each = svg_has; once = svgs_once order }
