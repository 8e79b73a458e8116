-- Words that are printed of a deal end no line.
use Rattle.std.proofs.Common.{◌≡◌, ℕ, zero, suc, ◌+◌, ◌/◌, ◌%◌, List, [], ◌∷◌, ◌++◌, Bool, true, false, refl, sym, subst, arith, cond}
use Rattle.std.specs.Prelude.{flat_map, not, ◌==◌, nat_lt, codes}
use Rattle.std.specs.Fmt.{decimal, digits, digits_onto, digit_glyph}
use Rattle.std.specs.List.{list_all}
use Rattle.std.proofs.lemmas.Bool.Decides.{nat_tests}
use Rattle.spec_data.specs.Digits.{hex_text}
use Rattle.spec_terms.specs.declared.path.PathStep.{PathStep}
use Rattle.spec_terms.specs.declared.path.PathStep.TheVariants.{Branch as To, Part as Into}
use Rattle.spec_bitcoin.specs.declared.label.Label.{Label}
use Rattle.spec_bitcoin.specs.declared.label.Label.TheVariants as labels
use Rattle.spec_bitcoin.specs.Keys.{step_text, path_text, label_text}
use Rattle.spec_bitcoin.proofs.StepLemmas.{branch_is, deposit_is}
use Rattle.spec_text.specs.RunText.{output_text, outputs_text}
use Rattle.spec_tool.specs.declared.which.Which.{Which}
use Rattle.spec_tool.specs.declared.which.Which.TheVariants as names
use Rattle.spec_tool.specs.Keyed.Listed.{which_text}
use Rattle.spec_deal.specs.Finished.{label_party}
use Rattle.theory_text.proofs.Lines.LineBytes.{ends_line, name_line}
use Rattle.theory_text.proofs.Lines.Separated.{Lacks, lacks_append}
use Rattle.theory_play_text.specs.Printable.{IsNamed}
use Rattle.theory_play_text.proofs.LineWords.{lacks_where}
use Rattle.theory_play_text.proofs.WordsBack.{bytes_plain}

abbrev pub Ends : List ℕ → Type 0
Ends text = Lacks ends_line text

pub both : (xs ys : List ℕ) → Ends xs → Ends ys → Ends (xs ++ ys)
both xs ys h k = lacks_append ends_line xs ys h k

-- a word that is known
pub word_ends : (word : List ℕ) → list_all (λ b. not (ends_line b)) word ≡ true → Ends word
word_ends word h = lacks_where ends_line word h

-- ---- numbers

glyph_ends : (d : ℕ) → ends_line (digit_glyph false d) ≡ false
glyph_ends d = by_ten (nat_lt d 10)
  where
    by_ten : (t : Bool) → ends_line (cond t (48 + d) (87 + d)) ≡ false
    by_ten true = grind (arith, nat_tests)
    by_ten false = grind (arith, nat_tests)

onto_ends : (k base n : ℕ) (acc : List ℕ) → Ends acc → Ends (digits_onto k base false n acc)
onto_ends zero base n acc h = h
onto_ends (suc k) base n acc h =
    let here : Ends (digit_glyph false (n % base) ∷ acc) = (glyph_ends (n % base), h) in
    by_last (n / base == 0) here (onto_ends k base (n / base) (digit_glyph false (n % base) ∷ acc) here)
  where
    by_last : (t : Bool) → Ends (digit_glyph false (n % base) ∷ acc) → Ends (digits_onto k base false (n / base) (digit_glyph false (n % base) ∷ acc))
        → Ends (cond t (digit_glyph false (n % base) ∷ acc) (digits_onto k base false (n / base) (digit_glyph false (n % base) ∷ acc)))
    by_last true a b = a
    by_last false a b = b

pub decimal_ends : (n : ℕ) → Ends (decimal n)
unfolding digits
decimal_ends n = onto_ends 64 10 n [] tt

pub output_ends : (n : ℕ) → Ends (output_text n)
output_ends n = (refl, decimal_ends n)

pub outputs_ends : (ns : List ℕ) → Ends (outputs_text ns)
outputs_ends [] = tt
outputs_ends (n ∷ ns) = (refl, both (output_text n) (outputs_text ns) (output_ends n) (outputs_ends ns))

-- ---- names

pub name_ends : (name : List ℕ) → IsNamed name → Ends name
name_ends name h = (name_line name h).ends

pub hex_ends : (bytes : List ℕ) → Ends (hex_text bytes)
hex_ends bytes = (bytes_plain bytes).ends

steps_end : (path : List PathStep) → Ends (flat_map step_text path)
steps_end [] = tt
steps_end (To i ∷ path) = (refl, both (decimal i) (flat_map step_text path) (decimal_ends i) (steps_end path))
steps_end (Into k ∷ path) = (refl, both (decimal k) (flat_map step_text path) (decimal_ends k) (steps_end path))

pub path_ends : (path : List PathStep) → Ends (path_text path)
path_ends path = (refl, steps_end path)

pub which_ends : (which : Which) → Ends (which_text which)
which_ends names.Init = word_ends (codes "init") refl
which_ends (names.At path) = path_ends path

-- a label, where whoever has it ends no line
pub label_ends : (label : Label) → Ends (label_party label) → Ends (label_text label)
label_ends (labels.Deposit party) h = subst Ends (sym (deposit_is party)) (refl, (refl, h))
label_ends (labels.Branch contract path party) h =
    subst Ends (sym (branch_is contract path party)) (
      refl,
      (
        refl,
        both (decimal contract) (58 ∷ (path_text path ++ 58 ∷ party)) (decimal_ends contract)
            (refl, both (path_text path) (58 ∷ party) (path_ends path) (refl, h)),
      ),
    )
