-- Parts between bytes that pass a test, and words between spaces.
use Rattle.std.proofs.Common.{◌≡◌, ℕ, ◌+◌, ◌≤◌, Bool, true, false, List, [], ◌∷◌, ◌++◌, length, refl, ap, ◌∙◌, arith}
use Rattle.std.specs.Prelude.{◌==◌, codes}
use Rattle.std.specs.List.{AllByRecursion}
use Rattle.std.proofs.lemmas.Bool.Decides.{nat_tests}
use Rattle.std.proofs.lemmas.List.{append-nil, length-append}
use Rattle.spec_text.specs.Canonical.{each_after, joined}
use Rattle.spec_text.specs.Lines.{onto_first, cut_byte, parts_of, onto_words, filled, is_space, words_of}
use Rattle.theory_text.proofs.Lines.Words.{total, cut_is, filled_is}

-- no byte passes
abbrev pub Lacks : (ℕ → Bool) → List ℕ → Type 0
Lacks test [] = Unit {0}
Lacks test (b ∷ bytes) = (test b ≡ false) × Lacks test bytes

pub lacks_append : (test : ℕ → Bool) (xs ys : List ℕ) → Lacks test xs → Lacks test ys → Lacks test (xs ++ ys)
lacks_append test [] ys h k = k
lacks_append test (x ∷ xs) ys h k = (h.0, lacks_append test xs ys h.1 k)

pub lacks_prefix : (test : ℕ → Bool) (xs ys : List ℕ) → Lacks test (xs ++ ys) → Lacks test xs
lacks_prefix test [] ys h = tt
lacks_prefix test (x ∷ xs) ys h = (h.0, lacks_prefix test xs ys h.1)

-- ---- parts

-- bytes none of which passes are one part
pub part_last : (test : ℕ → Bool) (xs : List ℕ) → Lacks test xs → parts_of test xs ≡ xs ∷ []
part_last test [] h = refl
part_last test (x ∷ xs) h = rw (h.0, part_last test xs h.1) refl

-- a part ends at a byte that passes
pub part_more : (test : ℕ → Bool) (xs : List ℕ) (b : ℕ) (rest : List ℕ) → Lacks test xs → test b ≡ true → parts_of test (xs ++ b ∷ rest)
    ≡ xs ∷ parts_of test rest
part_more test [] b rest h e = rw e refl
part_more test (x ∷ xs) b rest h e = rw (h.0, part_more test xs b rest h.1 e) refl

first_lacks : (test : ℕ → Bool) (b : ℕ) (parts : List (List ℕ)) → test b ≡ false → AllByRecursion (Lacks test) parts
    → AllByRecursion (Lacks test) (onto_first b parts)
first_lacks test b [] e h = ((e, tt), tt)
first_lacks test b (part ∷ parts) e h = ((e, h.0), h.1)

cut_lacks : (test : ℕ → Bool) (t : Bool) (b : ℕ) (parts : List (List ℕ)) → test b ≡ t → AllByRecursion (Lacks test) parts
    → AllByRecursion (Lacks test) (cut_byte t b parts)
cut_lacks test true b parts e h = (tt, h)
cut_lacks test false b parts e h = first_lacks test b parts e h

-- no byte of a part passes
pub parts_lack : (test : ℕ → Bool) (bytes : List ℕ) → AllByRecursion (Lacks test) (parts_of test bytes)
parts_lack test [] = (tt, tt)
parts_lack test (b ∷ bytes) = cut_lacks test (test b) b (parts_of test bytes) refl (parts_lack test bytes)

-- ---- parts put together again

onto_joined : (c b : ℕ) (parts : List (List ℕ)) → 1 ≤ length parts → joined (c ∷ []) (onto_first b parts) ≡ b ∷ joined (c ∷ []) parts
onto_joined c b [] h = absurd (omega arith)
onto_joined c b (part ∷ parts) h = refl

each_joined : (c : ℕ) (parts : List (List ℕ)) → 1 ≤ length parts → each_after (c ∷ []) parts ≡ c ∷ joined (c ∷ []) parts
each_joined c [] h = absurd (omega arith)
each_joined c (part ∷ parts) h = refl

cut_joined : (c b : ℕ) (t : Bool) (parts : List (List ℕ)) → (b == c) ≡ t → 1 ≤ length parts → joined (c ∷ []) (cut_byte t b parts) ≡ b ∷ joined (c ∷ []) parts
cut_joined c b true parts e h = each_joined c parts h ∙ ap (λ (x : ℕ). x ∷ joined (c ∷ []) parts) (let same : c ≡ b = grind (arith, nat_tests) in same)
cut_joined c b false parts e h = onto_joined c b parts h

pub parts_joined : (c : ℕ) (bytes : List ℕ) → joined (c ∷ []) (parts_of (λ b. b == c) bytes) ≡ bytes
parts_joined c [] = refl
parts_joined c (b ∷ bytes) =
    let cut = cut_is (λ x. x == c) bytes in
    cut_joined c b (b == c) (parts_of (λ x. x == c) bytes) refl cut.some ∙ ap (λ (xs : List ℕ). b ∷ xs) (parts_joined c bytes)

-- ---- words

-- a word has bytes, and no space
pub record IsWord (word : List ℕ) : Type 0 where
  pub some : 1 ≤ length word
  pub lacks : Lacks is_space word

word_more : (part : List ℕ) (words : List (List ℕ)) → Lacks is_space part → AllByRecursion IsWord words → AllByRecursion IsWord (onto_words part words)
word_more [] words h k = k
word_more (b ∷ bytes) words h k = (record { some = omega arith; lacks = h }, k)

filled_words : (parts : List (List ℕ)) → AllByRecursion (Lacks is_space) parts → AllByRecursion IsWord (filled parts)
filled_words [] h = tt
filled_words (part ∷ parts) h = word_more part (filled parts) h.0 (filled_words parts h.1)

-- the words of a line are words
pub line_words : (line : List ℕ) → AllByRecursion IsWord (words_of line)
line_words line = filled_words (parts_of is_space line) (parts_lack is_space line)

-- words with a space between two of them
abbrev pub spaced : List (List ℕ) → List ℕ
spaced words = joined (codes " ") words

abbrev pub each_spaced : List (List ℕ) → List ℕ
each_spaced words = each_after (codes " ") words

spaced_parts : (word : List ℕ) (words : List (List ℕ)) → Lacks is_space word → AllByRecursion IsWord words
    → parts_of is_space (word ++ each_spaced words) ≡ word ∷ words
spaced_parts word [] h k = ap (parts_of is_space) (append-nil word) ∙ part_last is_space word h
spaced_parts word (next ∷ words) h k =
    part_more is_space word 32 (next ++ each_spaced words) h refl ∙ ap (λ (ws : List (List ℕ)). word ∷ ws) (spaced_parts next words k.0.lacks k.1)

filled_word : (word : List ℕ) (words : List (List ℕ)) → 1 ≤ length word → onto_words word words ≡ word ∷ words
filled_word [] words h = absurd (omega arith)
filled_word (b ∷ bytes) words h = refl

filled_all : (words : List (List ℕ)) → AllByRecursion IsWord words → filled words ≡ words
filled_all [] h = refl
filled_all (word ∷ words) h = filled_word word (filled words) h.0.some ∙ ap (λ (ws : List (List ℕ)). word ∷ ws) (filled_all words h.1)

-- they are the words of their line
pub spaced_words : (words : List (List ℕ)) → AllByRecursion IsWord words → words_of (spaced words) ≡ words
spaced_words [] h = refl
spaced_words (word ∷ words) h = ap filled (spaced_parts word words h.0.lacks h.1) ∙ filled_all (word ∷ words) h

-- ---- lengths

each_length : (words : List (List ℕ)) → length (each_spaced words) ≡ total words + length words
each_length [] = refl
each_length (word ∷ words) = omega (arith, length-append word (each_spaced words), each_length words)

-- words with one space between two are no longer than any line of as many bytes in as many words
pub spaced_length : (line : List ℕ) (words : List (List ℕ)) → 1 ≤ length words → total words ≡ total (words_of line) → length words
    ≡ length (words_of line) → length (spaced words) ≤ length line
spaced_length line [] some size count = absurd (omega arith)
spaced_length line (word ∷ words) some size count =
    let c = cut_is is_space line in
    let f = filled_is (parts_of is_space line) in
    omega (arith, length-append word (each_spaced words), each_length words, c.size, f.same, f.few, size, count)
