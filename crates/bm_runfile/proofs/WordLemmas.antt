-- Names that are found in a list, and words that are names.
use Rattle.std.proofs.Common.{◌≡◌, ℕ, ◌<◌, ◌≤◌, ◌↔◌, true, ◌&&◌, ◌||◌, not, List, [], ◌∷◌, length, drop, get_or, Option, Some, None, refl}
use Rattle.std.proofs.Common.{sym, ap, ◌∙◌, suc, arith}
use Rattle.std.specs.Prelude.{IsSome, IfSome, nat_le}
use Rattle.std.specs.Str.{bytes_eq}
use Rattle.std.proofs.Math.Seq.{drop-cons}
use Rattle.std.proofs.lemmas.Bool.{and_parts, leb-true}
use Rattle.std.proofs.lemmas.Slice.Eq.{bytes_eq-Decides}
use Rattle.spec_data.specs.Lists.{is_among}
use Rattle.spec_data.specs.Ranges.{most_name_bytes}
use Rattle.spec_terms.specs.Readable.{is_word, is_name, keywords}
use Rattle.spec_text.specs.Words.{given, one_of, a_name}

-- a name that was found is among the names
pub found_among : (names : List (List ℕ)) (word p : List ℕ) (i : ℕ) → i < length names → p ≡ get_or names i p → p ≡ word
    → is_among word (drop i names) ≡ is_among word names → Some p ≡ one_of names word
found_among names word p i less e s h =
    let here : is_among word (drop i names) ≡ true =
    ap (λ ps. is_among word ps) (drop-cons names i p less)
    ∙ ap (λ b. b || is_among word (drop (suc i) names)) (ap (λ q. bytes_eq q word) (sym e ∙ s) ∙ (bytes_eq-Decides word word).1 refl) in
    ap Some s ∙ sym (ap (λ b. given b word) (sym h ∙ here))

word_some : (word : List ℕ) → is_word word ≡ true → 0 < length word
word_some [] h = absurd cc
word_some (b ∷ bs) h = omega arith

made_name : (word : List ℕ) (made : Option (List ℕ)) → IsSome made → IfSome made (λ n. n ≡ word) → made ≡ Some word
made_name word None h e = absurd cc
made_name word (Some n) h e = ap Some e

name_parts : (word : List ℕ) → is_name word ≡ true
    → (is_word word && (nat_le (length word) most_name_bytes && not (is_among word keywords))) ≡ true
unfolding is_name
name_parts word h = h

-- a word that is a name has 1 to 32 bytes
pub name_made : (word : List ℕ) (made : Option (List ℕ)) → is_name word ≡ true → (IsSome made ↔ ((0 < length word) × (length word ≤ 32)))
    → IfSome made (λ n. n ≡ word) → made ≡ a_name word
name_made word made h sized e =
    let parts = and_parts (is_word word) (nat_le (length word) 32 && not (is_among word keywords)) (name_parts word h) in
    let few = and_parts (nat_le (length word) 32) (not (is_among word keywords)) parts.1 in
    let small : length word ≤ 32 = leb-true (length word) 32 few.0 in
    rw h (made_name word made (sized.1 (word_some word parts.0, small)) e)
