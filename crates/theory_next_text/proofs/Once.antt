-- What stands once among lines stands once among what they say.
use Rattle.std.proofs.Common.{◌≡◌, ℕ, Bool, true, false, List, [], ◌∷◌, ◌++◌, map, refl, sym, ap, inl, inr, ◌∙◌, append_assoc}
use Rattle.std.specs.Prelude.{◌||◌, if◌then◌else◌}
use Rattle.std.specs.List.{AllByRecursion}
use Rattle.std.specs.Str.{bytes_eq}
use Rattle.std.proofs.lemmas.Bool.{false≢true}
use Rattle.spec_data.specs.Lists.{is_among}
use Rattle.spec_next.specs.Together.{once_onto}
use Rattle.theory_calculus.proofs.Names.{bytes_refl}
use Rattle.theory_calculus.specs.Members.{Is_in}
use Rattle.theory_text.proofs.Lines.PrintedWords.{same_bytes}
use Rattle.theory_next_text.specs.Tells.{Firsts}

pub list_end : {A : Type 0} (xs : List A) → xs ++ [] ≡ xs
list_end [] = refl
list_end (x ∷ xs) = ap (λ (ys : List _). x ∷ ys) (list_end xs)

pub all_append : {A : Type 0} (P : A → Type 0) (xs ys : List A) → AllByRecursion P xs → AllByRecursion P ys → AllByRecursion P (xs ++ ys)
all_append P [] ys h k = k
all_append P (x ∷ xs) ys h k = (h.0, all_append P xs ys h.1 k)

map_append : {A B : Type 0} (f : A → B) (xs ys : List A) → map f (xs ++ ys) ≡ map f xs ++ map f ys
map_append f [] ys = refl
map_append f (x ∷ xs) ys = ap (λ (r : List _). f x ∷ r) (map_append f xs ys)

-- what was said before isn't said again
known : {A : Type 0} (seen : List A) (x : A) (xs said : List A) → Is_in x seen → Firsts seen xs said → Firsts seen (x ∷ xs) said
known seen x xs [] i f = (i, f)
known seen x xs (y ∷ said) i f = inl (i, f)

module _ {L : Type 0} (text : L → List ℕ) (P : L → Type 0) (apart : (a b : L) → P a → P b → text a ≡ text b → a ≡ b) where
  among_is : (seen : List L) (l : L) → AllByRecursion P seen → P l → is_among (text l) (map text seen) ≡ true → Is_in l seen
  among_is [] l h p e = absurd (false≢true e)
  among_is (s ∷ seen) l h p e = by_test (bytes_eq (text s) (text l)) refl e (among_is seen l h.1 p)
    where
      by_test : (t : Bool) → bytes_eq (text s) (text l) ≡ t → (t || is_among (text l) (map text seen)) ≡ true
          → (is_among (text l) (map text seen) ≡ true → Is_in l seen) → Is_in l (s ∷ seen)
      by_test true q k f = inl (sym (apart s l h.0 p (same_bytes (text s) (text l) q)))
      by_test false q k f = inr (f k)

  or_second : (t u : Bool) → u ≡ true → (t || u) ≡ true
  or_second true u h = refl
  or_second false u h = h

  or_first : (t u : Bool) → t ≡ true → (t || u) ≡ true
  or_first true u h = refl
  or_first false u h = absurd (false≢true h)

  is_among_them : (seen : List L) (l : L) → Is_in l seen → is_among (text l) (map text seen) ≡ true
  is_among_them [] l i = absurd i
  is_among_them (s ∷ seen) l (inl e) =
      or_first (bytes_eq (text s) (text l)) (is_among (text l) (map text seen))
      (ap (λ (x : L). bytes_eq (text s) (text x)) e ∙ bytes_refl (text s))
  is_among_them (s ∷ seen) l (inr i) =
      or_second (bytes_eq (text s) (text l)) (is_among (text l) (map text seen)) (is_among_them seen l i)

  -- what is said of these, behind what was said, and its lines
  pub record Said (seen ls : List L) : Type 0 where
    pub said : List L
    pub firsts : Firsts seen ls said
    pub are : once_onto (map text seen) (map text ls) ≡ map text (seen ++ said)
    pub fine : AllByRecursion P said

  anew : (seen : List L) (l : L) (ls : List L) → P l → is_among (text l) (map text seen) ≡ false → Said (seen ++ l ∷ []) ls
      → Said seen (l ∷ ls)
  anew seen l ls p e s =
      let more : map text seen ++ text l ∷ [] ≡ map text (seen ++ l ∷ []) = sym (map_append text seen (l ∷ [])) in
      record {
        said = l ∷ s.said;
        firsts = inr ((λ i. false≢true (sym e ∙ is_among_them seen l i)), refl, s.firsts);
        are = ap (λ (t : Bool). once_onto (if t then map text seen else map text seen ++ text l ∷ []) (map text ls)) e
            ∙ (ap (λ (ts : List (List ℕ)). once_onto ts (map text ls)) more
            ∙ (s.are ∙ ap (map text) (append_assoc seen (l ∷ []) s.said)));
        fine = (p, s.fine);
      }

  again : (seen : List L) (l : L) (ls : List L) → AllByRecursion P seen → P l → is_among (text l) (map text seen) ≡ true → Said seen ls
      → Said seen (l ∷ ls)
  again seen l ls h p e s = record {
    said = s.said;
    firsts = known seen l ls s.said (among_is seen l h p e) s.firsts;
    are = ap (λ (t : Bool). once_onto (if t then map text seen else map text seen ++ text l ∷ []) (map text ls)) e ∙ s.are;
    fine = s.fine;
  }

  pub said_once : (seen ls : List L) → AllByRecursion P seen → AllByRecursion P ls → Said seen ls
  said_once seen [] h k = record { said = []; firsts = refl; are = ap (map text) (sym (list_end seen)); fine = tt }
  said_once seen (l ∷ ls) h k =
      by_test (is_among (text l) (map text seen)) refl (λ seen' h'. said_once seen' ls h' k.1)
    where
      by_test : (t : Bool) → is_among (text l) (map text seen) ≡ t
          → ((seen' : List L) → AllByRecursion P seen' → Said seen' ls) → Said seen (l ∷ ls)
      by_test true e f = again seen l ls h k.0 e (f seen h)
      by_test false e f = anew seen l ls k.0 e (f (seen ++ l ∷ []) (all_append P seen (l ∷ []) h (k.0, tt)))
