-- One file more among several.
use Rattle.std.proofs.Common.{◌≡◌, ℕ, ◌<◌, zero, suc, List, [], ◌∷◌, ◌++◌, length, true, slice_set, slice_index_or, refl, sym, ap, ◌∙◌, arith}
use Rattle.std.specs.Prelude.{drop, take}
use Rattle.std.specs.Str.{bytes_eq}
use Rattle.bm_io.specs.Files.{with_file}

-- where the file at a place was seen to have this name, its bytes are set there
pub set-with_file : (files : List (List ℕ × List ℕ)) (place : ℕ) (file seen : List ℕ × List ℕ) (text name bytes : List ℕ)
    → place < length files → file ≡ slice_index_or files place file → seen ≡ slice_index_or files place seen → text ≡ seen.0
    → bytes_eq text name ≡ true → slice_set files place (file.0, bytes) ≡ take place files ++ with_file name bytes (drop place files)
set-with_file [] place file seen text name bytes lt at see word same = absurd (omega (arith, lt))
set-with_file (f ∷ fs) zero file seen text name bytes lt at see word same =
    let named : bytes_eq (f.0) name ≡ true = ap (λ (t : List ℕ). bytes_eq t name) (sym (word ∙ ap (λ (s : List ℕ × List ℕ). s.0) see)) ∙ same in
    rw (at, named) refl
set-with_file (f ∷ fs) (suc k) file seen text name bytes lt at see word same =
    ap (λ r. f ∷ r) (set-with_file fs k file seen text name bytes (omega (arith, lt)) at see word same)
