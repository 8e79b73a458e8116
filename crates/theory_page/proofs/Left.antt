-- Each row's moment is what its events left.
use Rattle.std.proofs.Common.{◌≡◌, ℕ, ◌+◌, List, [], ◌∷◌, ◌++◌, take, length, Bool, true, false, refl, sym, ap, subst, ◌∙◌, arith, append_assoc, length-append}
use Rattle.std.specs.Prelude.{if◌then◌else◌}
use Rattle.std.specs.List.{AllByRecursion}
use Rattle.spec_run.specs.Translation.{Turn}
use Rattle.spec_page.specs.Moments.{Moment, after_turn}
use Rattle.spec_page.specs.Folds.{Fold, may_share, longer, fold_of, folded_from}
use Rattle.spec_page.specs.Stops.{last_moment}
use Rattle.theory_page.specs.Shows.{FoldsHaveMoments}

-- what one more turn leaves
last_more : (m : Moment) (ts : List Turn) (t : Turn) → last_moment m (ts ++ t ∷ []) ≡ after_turn (last_moment m ts) t
last_more m [] t = refl
last_more m (x ∷ xs) t = last_more (after_turn m x) xs t

pub taken_all : (xs ys : List Turn) → take (length xs) (xs ++ ys) ≡ xs
taken_all [] ys = refl
taken_all (x ∷ xs) ys = ap (λ (zs : List Turn). x ∷ zs) (taken_all xs ys)

module _ (m : Moment) where
  -- so many of these turns left the moment of a fold
  abbrev IsLeft : List Turn → Fold → Type 0
  IsLeft ts f = f.moment ≡ last_moment m (take f.last ts)

  abbrev AllLeft : List Turn → List Fold → Type 0
  AllLeft ts fs = AllByRecursion (IsLeft ts) fs

  left_by : (done rest : List Turn) (f : Fold) → length done ≡ f.last → f.moment ≡ last_moment m done → IsLeft (done ++ rest) f
  left_by done rest f e h =
      h
      ∙ sym
      (ap (λ (n : ℕ). last_moment m (take n (done ++ rest))) (sym e)
      ∙ ap (λ (ts : List Turn). last_moment m ts) (taken_all done rest))

  pub next_length : (done : List Turn) (t : Turn) (n : ℕ) → length done ≡ n → length (done ++ t ∷ []) ≡ n + 1
  next_length done t n e = let l : length (done ++ t ∷ []) ≡ length done + 1 = length-append done (t ∷ []) in omega (arith, l, e)

  next_left : (done : List Turn) (t : Turn) (before : Moment) → before ≡ last_moment m done
      → after_turn before t ≡ last_moment m (done ++ t ∷ [])
  next_left done t before h = ap (λ (x : Moment). after_turn x t) h ∙ sym (last_more m done t)

  from_left : (done : List Turn) (f : Fold) (ts : List Turn) → length done ≡ f.last → f.moment ≡ last_moment m done
      → AllLeft (done ++ ts) (folded_from f ts)
  from_left done f [] e h = (left_by done [] f e h, tt)
  from_left done f (t ∷ ts) e h =
      by_share (may_share f.turn t)
      (along (longer f t (after_turn f.moment t))
      (from_left (done ++ t ∷ []) (longer f t (after_turn f.moment t)) ts (next_length done t f.last e) (next_left done t f.moment h)))
      (along (fold_of (f.last + 1) t (after_turn f.moment t))
      (from_left (done ++ t ∷ []) (fold_of (f.last + 1) t (after_turn f.moment t)) ts (next_length done t f.last e) (next_left done t f.moment h)))
    where
      along : (g : Fold) → AllLeft ((done ++ t ∷ []) ++ ts) (folded_from g ts) → AllLeft (done ++ t ∷ ts) (folded_from g ts)
      along g k = subst (λ (all : List Turn). AllLeft all (folded_from g ts)) (append_assoc done (t ∷ []) ts) k

      by_share : (share : Bool) → AllLeft (done ++ t ∷ ts) (folded_from (longer f t (after_turn f.moment t)) ts)
          → AllLeft (done ++ t ∷ ts) (folded_from (fold_of (f.last + 1) t (after_turn f.moment t)) ts)
          → AllLeft (done ++ t ∷ ts)
          (if share then folded_from (longer f t (after_turn f.moment t)) ts
          else f ∷ folded_from (fold_of (f.last + 1) t (after_turn f.moment t)) ts)
      by_share true a b = a
      by_share false a b = (left_by done (t ∷ ts) f e h, b)

pub folds_have_moments : FoldsHaveMoments
folds_have_moments m [] = tt
folds_have_moments m (t ∷ ts) = from_left m (t ∷ []) (fold_of 1 t (after_turn m t)) ts refl refl
