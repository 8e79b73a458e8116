-- Words of a line are what their values are written as.
use Rattle.std.proofs.Common.{◌≡◌, ℕ, ◌^◌, Bool, true, false, List, [], ◌∷◌, ◌++◌, Option, Some, None, refl, sym, ap, subst, ◌∙◌, arith, append_assoc}
use Rattle.std.specs.Prelude.{◌==◌, if◌then◌else◌, flat_map, codes}
use Rattle.std.specs.Fmt.{decimal}
use Rattle.std.specs.Str.{bytes_eq}
use Rattle.std.proofs.lemmas.Bool.Decides.{nat_tests}
use Rattle.std.proofs.lemmas.List.{append-nil}
use Rattle.std.proofs.lemmas.Slice.Eq.{bytes_eq-Decides}
use Rattle.spec_data.specs.Lists.{is_among}
use Rattle.spec_data.specs.Digits.{onto}
use Rattle.spec_terms.specs.Readable.{is_name}
use Rattle.spec_terms.specs.declared.path.PathStep.{PathStep}
use Rattle.spec_bitcoin.specs.Keys.{step_text, path_text, label_text}
use Rattle.spec_bitcoin.specs.declared.label.Label.{Label}
use Rattle.spec_bitcoin.specs.declared.label.Label.TheVariants.{Deposit, Branch}
use Rattle.spec_text.specs.Canonical.{joined}
use Rattle.spec_text.specs.Lines.{parts_of}
use Rattle.spec_text.specs.Words.{◌>>=◌, given, small, amount, output, a_name, one_of, two_parts, named, all_of, step_mark, step_of, step, steps_from, steps, path, label_of, label}
use Rattle.spec_text.specs.RunText.{output_text}
use Rattle.theory_text.proofs.Options.{some, some_is, none_some, came, onto_is, given_is}
use Rattle.theory_text.proofs.Lines.Decimals.{guarded, number_word}
use Rattle.theory_text.proofs.Lines.Separated.{parts_joined, each_spaced}

pub same_bytes : (xs ys : List ℕ) → bytes_eq xs ys ≡ true → xs ≡ ys
same_bytes xs ys h = (bytes_eq-Decides xs ys).0 h

same_number : (a b : ℕ) → (a == b) ≡ true → a ≡ b
same_number a b h = grind (arith, nat_tests)

-- ---- numbers and names

pub small_word : (word : List ℕ) (n : ℕ) → small word ≡ some n → decimal n ≡ word
small_word word n h = number_word (2 ^ 32) word n (omega arith) h

pub amount_word : (word : List ℕ) (n : ℕ) → amount word ≡ some n → decimal n ≡ word
amount_word word n h = number_word (2 ^ 64) word n (omega arith) h

pub output_word : (word : List ℕ) (n : ℕ) → output word ≡ some n → output_text n ≡ word
output_word [] n h = absurd (none_some n h)
output_word (b ∷ bytes) n h =
    let g = guarded (b == 35) (small bytes) n h in
    let first = sym (same_number b 35 g.holds) in
    let rest = small_word bytes n g.then' in
    λ i. first i ∷ rest i

pub one_word : (names : List (List ℕ)) (word a : List ℕ) → one_of names word ≡ some a → a ≡ word
one_word names word a h = sym (given_is (is_among word names) word a h).same

pub name_word : (word x : List ℕ) → a_name word ≡ some x → x ≡ word
name_word word x h = sym (given_is (is_name word) word x h).same

-- ---- two parts

pub record TwoParts (parts : List (List ℕ)) (p : List ℕ × List ℕ) : Type 0 where
  pub are : parts ≡ p.0 ∷ p.1 ∷ []

two_are : (a b : List ℕ) (p : List ℕ × List ℕ) → some (a, b) ≡ some p → TwoParts (a ∷ b ∷ []) p
two_are a b p h = subst (TwoParts (a ∷ b ∷ [])) (some_is (a, b) p h) (record { are = refl })

pub two_is : (parts : List (List ℕ)) (p : List ℕ × List ℕ) → two_parts parts ≡ some p → TwoParts parts p
two_is [] p h = absurd (none_some p h)
two_is (a ∷ []) p h = absurd (none_some p h)
two_is (a ∷ b ∷ []) p h = two_are a b p h
two_is (a ∷ b ∷ c ∷ parts) p h = absurd (none_some p h)

-- the word of two parts with a byte between them
pub two_joined : (c : ℕ) (word a b : List ℕ) → parts_of (λ x. x == c) word ≡ a ∷ b ∷ [] → a ++ c ∷ b ≡ word
two_joined c word a b h =
    let whole : joined (c ∷ []) (a ∷ b ∷ []) ≡ word = ap (joined (c ∷ [])) (sym h) ∙ parts_joined c word in
    ap (λ (xs : List ℕ). a ++ c ∷ xs) (sym (append-nil b)) ∙ whole

-- a name with an output
abbrev pub binding_text : List ℕ × ℕ → List ℕ
binding_text b = b.0 ++ (codes "=" ++ output_text b.1)

pub binding_word : (word : List ℕ) (b : List ℕ × ℕ) → named output word ≡ some b → binding_text b ≡ word
binding_word word b h =
    let c = came (two_parts (parts_of (λ x. x == 61) word)) (λ p. a_name (p.0) >>= λ x. output (p.1) >>= λ v. some (x, v)) b h in
    let d = came (a_name (c.first.0)) (λ x. output (c.first.1) >>= λ v. some (x, v)) b c.then' in
    let e = came (output (c.first.1)) (λ v. some (d.first, v)) b d.then' in
    let whole = two_joined 61 word c.first.0 c.first.1 (two_is (parts_of (λ x. x == 61) word) c.first c.is).are in
    let name = name_word c.first.0 d.first d.is in
    let number = output_word c.first.1 e.first e.is in
    let text : binding_text (d.first, e.first) ≡ c.first.0 ++ 61 ∷ c.first.1 = λ i. name i ++ 61 ∷ number i in
    ap binding_text (sym (some_is (d.first, e.first) b e.then')) ∙ (text ∙ whole)

-- ---- all words of a kind

-- what is read from each word is written as that word
pub all_words : {A : Type 0} (read : List ℕ → Option A) (text : A → List ℕ) → ((word : List ℕ) (x : A) → read word ≡ some x → text x ≡ word)
    → (words : List (List ℕ)) (xs : List A) → all_of read words ≡ some xs → flat_map (λ x. codes " " ++ text x) xs ≡ each_spaced words
all_words read text f [] xs h = ap (flat_map (λ x. codes " " ++ text x)) (sym (some_is [] xs h))
all_words read text f (word ∷ words) xs h =
    let o = onto_is (read word) (all_of read words) xs h in
    let first = f word o.first o.is in
    let others = all_words read text f words o.others o.are in
    ap (flat_map (λ x. codes " " ++ text x)) o.all ∙ (λ i. 32 ∷ (first i ++ others i))

-- ---- paths

abbrev mark_byte : Bool → ℕ
mark_byte true = 46
mark_byte false = 47

record MarkIs (b : ℕ) (mark : Bool) : Type 0 where
  byte : b ≡ mark_byte mark

mark_by : (b : ℕ) (t u mark : Bool) → (b == 46) ≡ t → (b == 47) ≡ u → (if t then some true else if u then some false else None) ≡ some mark → MarkIs b mark
mark_by b true u mark e f h = subst (MarkIs b) (some_is true mark h) (record { byte = same_number b 46 e })
mark_by b false true mark e f h = subst (MarkIs b) (some_is false mark h) (record { byte = same_number b 47 f })
mark_by b false false mark e f h = absurd (none_some mark h)

mark_is : (b : ℕ) (mark : Bool) → step_mark b ≡ some mark → MarkIs b mark
mark_is b mark h = mark_by b (b == 46) (b == 47) mark refl refl h

step_of_text : (mark : Bool) (n : ℕ) → step_text (step_of mark n) ≡ mark_byte mark ∷ decimal n
step_of_text true n = refl
step_of_text false n = refl

step_word : (mark : Bool) (digits : List ℕ) (s : PathStep) → step mark digits ≡ some s → step_text s ≡ mark_byte mark ∷ digits
step_word mark digits s h =
    let c = came (small digits) (λ n. some (step_of mark n)) s h in
    ap step_text (sym (some_is (step_of mark c.first) s c.then'))
    ∙ (step_of_text mark c.first ∙ ap (λ (ds : List ℕ). mark_byte mark ∷ ds) (small_word digits c.first c.is))

onto_steps : (mark : Bool) (digits rest : List ℕ) (later : Option (List PathStep)) (ss : List PathStep) → onto (step mark digits) later
    ≡ some ss → ((ts : List PathStep) → later ≡ some ts → flat_map step_text ts ≡ rest) → flat_map step_text ss ≡ mark_byte mark ∷ (digits ++ rest)
onto_steps mark digits rest later ss h f =
    let o = onto_is (step mark digits) later ss h in
    let first = step_word mark digits o.first o.is in
    let others = f o.others o.are in
    ap (flat_map step_text) o.all ∙ (λ i. first i ++ others i)

marked : (q : Option Bool) (mark : Bool) (digits : List ℕ) (b : ℕ) (bytes : List ℕ) (ss : List PathStep) → step_mark b ≡ q
    → (elim q [ None ↦ steps_from mark (digits ++ b ∷ []) bytes | Some next ↦ onto (step mark digits) (steps_from next [] bytes) ]) ≡ some ss
    → ((m : Bool) (ds : List ℕ) (ts : List PathStep) → steps_from m ds bytes ≡ some ts → flat_map step_text ts ≡ mark_byte m ∷ (ds ++ bytes))
    → flat_map step_text ss ≡ mark_byte mark ∷ (digits ++ b ∷ bytes)
marked None mark digits b bytes ss e h f = f mark (digits ++ b ∷ []) ss h ∙ ap (λ (xs : List ℕ). mark_byte mark ∷ xs) (append_assoc digits (b ∷ []) bytes)
marked (Some next) mark digits b bytes ss e h f =
    onto_steps mark digits (b ∷ bytes) (steps_from next [] bytes) ss h
    (λ ts k. f next [] ts k ∙ ap (λ (x : ℕ). x ∷ bytes) (sym (mark_is b next e).byte))

steps_from_word : (bytes : List ℕ) (mark : Bool) (digits : List ℕ) (ss : List PathStep) → steps_from mark digits bytes ≡ some ss
    → flat_map step_text ss ≡ mark_byte mark ∷ (digits ++ bytes)
steps_from_word [] mark digits ss h = onto_steps mark digits [] (some []) ss h (λ ts k. ap (flat_map step_text) (sym (some_is [] ts k)))
steps_from_word (b ∷ bytes) mark digits ss h = marked (step_mark b) mark digits b bytes ss refl h (steps_from_word bytes)

steps_word : (bytes : List ℕ) (ss : List PathStep) → steps bytes ≡ some ss → flat_map step_text ss ≡ bytes
steps_word [] ss h = ap (flat_map step_text) (sym (some_is [] ss h))
steps_word (b ∷ bytes) ss h =
    let c = came (step_mark b) (λ mark. steps_from mark [] bytes) ss h in
    steps_from_word bytes c.first [] ss c.then' ∙ ap (λ (x : ℕ). x ∷ bytes) (sym (mark_is b c.first c.is).byte)

path_word : (word : List ℕ) (ss : List PathStep) → path word ≡ some ss → path_text ss ≡ word
path_word [] ss h = absurd (none_some ss h)
path_word (b ∷ bytes) ss h =
    let g = guarded (b == 114) (steps bytes) ss h in
    let first = sym (same_number b 114 g.holds) in
    let rest = steps_word bytes ss g.then' in
    λ i. first i ∷ rest i

-- ---- labels

from_left : (a b c : List ℕ) → codes "B:" ++ a ++ codes ":" ++ b ++ codes ":" ++ c ≡ codes "B" ++ (58 ∷ (a ++ (58 ∷ (b ++ (58 ∷ c)))))
from_left a b c = simp append_assoc

branch_text : (contract : ℕ) (place : List PathStep) (party : List ℕ)
    → label_text (Branch contract place party) ≡ codes "B" ++ (58 ∷ (decimal contract ++ (58 ∷ (path_text place ++ (58 ∷ party)))))
unfolding label_text
branch_text contract place party = from_left (decimal contract) (path_text place) party

parts_label : (parts : List (List ℕ)) (l : Label) → label_of parts ≡ some l → label_text l ≡ joined (codes ":") parts
unfolding label_text
parts_label [] l h = absurd (none_some l h)
parts_label (kind ∷ []) l h = absurd (none_some l h)
parts_label (kind ∷ party ∷ []) l h =
    let c = came (given (bytes_eq kind (codes "D")) party) (λ word. a_name word >>= λ p. some (Deposit p)) l h in
    let d = came (a_name c.first) (λ p. some (Deposit p)) l c.then' in
    let g = given_is (bytes_eq kind (codes "D")) party c.first c.is in
    let first = sym (same_bytes kind (codes "D") g.holds) in
    let last = name_word c.first d.first d.is ∙ (sym g.same ∙ sym (append-nil party)) in
    ap label_text (sym (some_is (Deposit d.first) l d.then')) ∙ (λ i. first i ++ (58 ∷ last i))
parts_label (kind ∷ contract ∷ place ∷ []) l h = absurd (none_some l h)
parts_label (kind ∷ contract ∷ place ∷ party ∷ []) l h =
    let c = came (given (bytes_eq kind (codes "B")) contract) (λ word. small word >>= λ k. path place >>= λ q. a_name party >>= λ p. some (Branch k q p)) l h in
    let d = came (small c.first) (λ k. path place >>= λ q. a_name party >>= λ p. some (Branch k q p)) l c.then' in
    let e = came (path place) (λ q. a_name party >>= λ p. some (Branch d.first q p)) l d.then' in
    let f = came (a_name party) (λ p. some (Branch d.first e.first p)) l e.then' in
    let g = given_is (bytes_eq kind (codes "B")) contract c.first c.is in
    let first = sym (same_bytes kind (codes "B") g.holds) in
    let second = small_word c.first d.first d.is ∙ sym g.same in
    let third = path_word place e.first e.is in
    let last = name_word party f.first f.is ∙ sym (append-nil party) in
    ap label_text (sym (some_is (Branch d.first e.first f.first) l f.then')) ∙ branch_text d.first e.first f.first
    ∙ (λ i. first i ++ (58 ∷ (second i ++ (58 ∷ (third i ++ (58 ∷ last i))))))
parts_label (kind ∷ contract ∷ place ∷ party ∷ more ∷ rest) l h = absurd (none_some l h)

pub label_word : (word : List ℕ) (l : Label) → label word ≡ some l → label_text l ≡ word
label_word word l h = parts_label (parts_of (λ b. b == 58) word) l h ∙ parts_joined 58 word
