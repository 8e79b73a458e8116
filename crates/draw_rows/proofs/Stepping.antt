-- The rows of folds, one event more.
use Rattle.std.proofs.Common.{◌≡◌, ℕ, ◌<◌, ◌+◌, List, [], ◌∷◌, ◌++◌, map, length, get_or, drop, Bool, true, false, refl, sym, ap, ◌∙◌, append_assoc}
use Rattle.std.proofs.lemmas.List.{drop_more}
use Rattle.std.specs.Prelude.{if◌then◌else◌}
use Rattle.spec_run.specs.Setup.{Setup}
use Rattle.spec_text.specs.declared.entry.Entry.{Entry}
use Rattle.spec_page.specs.Folds.{Fold, may_share, fold_of, longer}
use Rattle.spec_page.specs.declared.event_row.EventRow.{EventRow}
use Rattle.spec_page.specs.Moments.{Moment}
use Rattle.draw_rows.specs.Turns.{turn_of, after_entry, after_entries, folds_from, fold_row, went, pushed}

pub folds_step : (s : Setup) (f : Fold) (e : Entry) (es : List Entry)
    → map (fold_row s) (folds_from f (e ∷ es)) ≡ pushed s f e ++ map (fold_row s) (folds_from (went f e) es)
unfolding went pushed
folds_step s f e es = by_test (may_share f.turn (turn_of e))
  where
    more : Fold
    more = longer f (turn_of e) (after_entry f.moment e)

    next : Fold
    next = fold_of (f.last + 1) (turn_of e) (after_entry f.moment e)

    by_test : (b : Bool) → map (fold_row s) (if b then folds_from more es else f ∷ folds_from next es)
        ≡ (if b then [] else (fold_row s f ∷ [])) ++ map (fold_row s) (folds_from (if b then more else next) es)
    by_test true = refl
    by_test false = refl

pub went_moment : (f : Fold) (e : Entry) → (went f e).moment ≡ after_entry f.moment e
unfolding went
went_moment f e = by_test (may_share f.turn (turn_of e))
  where
    by_test : (b : Bool)
        → (if b then longer f (turn_of e) (after_entry f.moment e) else fold_of (f.last + 1) (turn_of e) (after_entry f.moment e)).moment
        ≡ after_entry f.moment e
    by_test true = refl
    by_test false = refl

-- behind one more of these entries
pub kept : (s : Setup) (entries : List Entry) (i : ℕ) (e : Entry) (begins f f' : Fold) (before rows rows' : List EventRow)
    → i < length entries → e ≡ get_or entries i e → rows' ≡ rows ++ pushed s f e → f' ≡ went f e
    → (rows ++ map (fold_row s) (folds_from f (drop i entries)) ≡ before ++ map (fold_row s) (folds_from begins entries))
    × (after_entries f.moment (drop i entries) ≡ after_entries begins.moment entries)
    → (rows' ++ map (fold_row s) (folds_from f' (drop (i + 1) entries)) ≡ before ++ map (fold_row s) (folds_from begins entries))
    × (after_entries f'.moment (drop (i + 1) entries) ≡ after_entries begins.moment entries)
kept s entries i e begins f f' before rows rows' lt at r w h =
    let rest = drop (i + 1) entries in
    let cut : drop i entries ≡ e ∷ rest = drop_more entries i e lt ∙ ap (λ z. z ∷ rest) (sym at) in (
      ap (λ (rs : List EventRow). rs ++ map (fold_row s) (folds_from f' rest)) r
          ∙ ap (λ (g : Fold). (rows ++ pushed s f e) ++ map (fold_row s) (folds_from g rest)) w
          ∙ append_assoc rows (pushed s f e) (map (fold_row s) (folds_from (went f e) rest))
          ∙ ap (λ (rs : List EventRow). rows ++ rs) (sym (folds_step s f e rest))
          ∙ ap (λ (es : List Entry). rows ++ map (fold_row s) (folds_from f es)) (sym cut)
          ∙ h.0,
      ap (λ (g : Fold). after_entries g.moment rest) w
          ∙ ap (λ (m : Moment). after_entries m rest) (went_moment f e)
          ∙ ap (after_entries f.moment) (sym cut)
          ∙ h.1,
    )
