-- A label is read from its text.
use Rattle.std.proofs.Common.{◌≡◌, ℕ, ◌<◌, ◌^◌, Bool, true, false, ◌==◌, List, [], ◌∷◌, ◌++◌, Option, Some}
use Rattle.std.proofs.Common.{refl, ap, ◌∙◌, arith}
use Rattle.std.specs.Fmt.{decimal}
use Rattle.std.specs.List.{list_all, AllByRecursion}
use Rattle.std.proofs.lemmas.Bool.Decides.{nat_tests}
use Rattle.spec_data.specs.Digits.{is_digit}
use Rattle.spec_terms.specs.Readable.{is_letter, is_name_byte, is_word, is_name}
use Rattle.spec_terms.specs.declared.path.PathStep.{PathStep}
use Rattle.spec_bitcoin.specs.Keys.{path_text, label_text, IsStep, IsLabel}
use Rattle.spec_bitcoin.specs.declared.label.Label.{Label}
use Rattle.spec_bitcoin.specs.declared.label.Label.TheVariants.{Deposit, Branch}
use Rattle.spec_text.specs.Lines.{parts_of}
use Rattle.spec_text.specs.Words.{◌>>=◌, given, path, a_name, label_of, label}
use Rattle.spec_bitcoin.proofs.StepLemmas.{branch_is, deposit_is}
use Rattle.theory_text.proofs.ListFacts.{and_is, and_left, and_right, or_yes}
use Rattle.theory_text.proofs.Options.{some}
use Rattle.theory_text.proofs.Lines.Decimals.{decimal-digits, small_back}
use Rattle.theory_text.proofs.Lines.PathsBack.{path_back, steps_lack}
use Rattle.theory_text.proofs.Lines.Separated.{Lacks, part_last, part_more}

-- ---- what has no colon

abbrev is_colon : ℕ → Bool
is_colon = λ b. b == 58

digit_colon : (b : ℕ) → is_digit b ≡ true → (b == 58) ≡ false
digit_colon b h = grind (arith, nat_tests)

name_colon : (b : ℕ) → is_name_byte b ≡ true → (b == 58) ≡ false
name_colon b h = grind (arith, nat_tests)

all_lack : (passes : ℕ → Bool) → ((b : ℕ) → passes b ≡ true → (b == 58) ≡ false) → (xs : List ℕ) → list_all passes xs ≡ true
    → Lacks is_colon xs
all_lack passes f [] h = tt
all_lack passes f (x ∷ xs) h = (f x (and_left _ _ h), all_lack passes f xs (and_right (passes x) _ h))

word_lacks : (x : List ℕ) → is_word x ≡ true → Lacks is_colon x
word_lacks [] h = tt
word_lacks (b ∷ rest) h =
    let all : list_all is_name_byte (b ∷ rest) ≡ true =
    and_is _ _ (or_yes (is_letter b) _ (and_left _ _ h)) (and_right (is_letter b) _ h) in
    all_lack is_name_byte name_colon (b ∷ rest) all

name_lacks : (x : List ℕ) → is_name x ≡ true → Lacks is_colon x
unfolding is_name
name_lacks x h = word_lacks x (and_left _ _ h)

decimal_lacks : (n : ℕ) → n < 2 ^ 32 → Lacks is_colon (decimal n)
decimal_lacks n h = all_lack is_digit digit_colon (decimal n) (decimal-digits n (omega arith))

path_lacks : (q : List PathStep) → AllByRecursion IsStep q → Lacks is_colon (path_text q)
path_lacks q h = (refl, steps_lack is_colon refl refl decimal_lacks q h)

-- ---- labels read back from their texts

deposit_parts : (p : List ℕ) → is_name p ≡ true → parts_of is_colon (label_text (Deposit p)) ≡ (68 ∷ []) ∷ p ∷ []
deposit_parts p n =
    ap (parts_of is_colon) (deposit_is p)
    ∙ part_more is_colon (68 ∷ []) 58 p (refl, tt) refl
    ∙ ap (λ (ps : List (List ℕ)). (68 ∷ []) ∷ ps) (part_last is_colon p (name_lacks p n))

branch_parts : (k : ℕ) (q : List PathStep) (p : List ℕ) → k < 2 ^ 32 → AllByRecursion IsStep q → is_name p ≡ true
    → parts_of is_colon (label_text (Branch k q p)) ≡ (66 ∷ []) ∷ decimal k ∷ path_text q ∷ p ∷ []
branch_parts k q p h i n =
    ap (parts_of is_colon) (branch_is k q p)
    ∙ part_more is_colon (66 ∷ []) 58 (decimal k ++ (58 ∷ (path_text q ++ (58 ∷ p)))) (refl, tt) refl
    ∙ ap (λ (ps : List (List ℕ)). (66 ∷ []) ∷ ps) (part_more is_colon (decimal k) 58 (path_text q ++ (58 ∷ p)) (decimal_lacks k h) refl)
    ∙ ap (λ (ps : List (List ℕ)). (66 ∷ []) ∷ decimal k ∷ ps) (part_more is_colon (path_text q) 58 p (path_lacks q i) refl)
    ∙ ap (λ (ps : List (List ℕ)). (66 ∷ []) ∷ decimal k ∷ path_text q ∷ ps) (part_last is_colon p (name_lacks p n))

abbrev some_deposit : List ℕ → Option Label
some_deposit p = Some (Deposit p)

abbrev some_branch : ℕ → List PathStep → List ℕ → Option Label
some_branch k q p = Some (Branch k q p)

-- its party is a name of contract text
abbrev pub HasName : Label → Type 0
HasName (Deposit p) = is_name p ≡ true
HasName (Branch k q p) = is_name p ≡ true

-- a label whose numbers have four bytes and whose party is a name is read from its text
pub label_back : (l : Label) → IsLabel l → HasName l → label (label_text l) ≡ some l
label_back (Deposit p) h n = ap label_of (deposit_parts p n) ∙ ap (λ t. given t p >>= some_deposit) n
label_back (Branch k q p) h n =
    ap label_of (branch_parts k q p h.0 h.1 n)
    ∙ ap (λ o. o >>= λ a. path (path_text q) >>= λ b. a_name p >>= some_branch a b) (small_back k h.0)
    ∙ ap (λ o. o >>= λ b. a_name p >>= some_branch k b) (path_back q h.1)
    ∙ ap (λ t. given t p >>= some_branch k q) n
