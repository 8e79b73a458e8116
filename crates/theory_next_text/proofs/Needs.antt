-- The lines of what several parties lack are read as what they say.
use Rattle.std.proofs.Common.{◌≡◌, ℕ, true, List, [], ◌∷◌, ◌++◌, Option, Some, refl, sym, ap, ◌∙◌, append_assoc}
use Rattle.std.specs.Prelude.{flat_map, codes}
use Rattle.std.specs.Fmt.{decimal}
use Rattle.std.specs.List.{AllByRecursion}
use Rattle.spec_text.specs.RunText.{output_text}
use Rattle.spec_text.specs.Words.{◌>>=◌, a_name, all_of}
use Rattle.spec_next.specs.Together.{spaced, ending, together_text}
use Rattle.theory_play_text.specs.Lines.{Words, an_output}
use Rattle.theory_play_text.specs.Printable.{IsWide, IsNamed}
use Rattle.theory_play_text.proofs.LineWords.{IsPlain, ArePlain, is_plain_word, known_word, line_of, plain_append}
use Rattle.theory_play_text.proofs.WordsBack.{number_plain, output_back, output_plain}
use Rattle.theory_next_text.specs.Missing.{Lack, last_of, a_number, by_ending, by_branch, together_said, needs_said}
use Rattle.theory_next_text.specs.Missing as lack
use Rattle.theory_next_text.proofs.Words.{Ended, last_more, last_word, append_none, number_there, names_back, names_plain, names_then}

-- ---- the verb

abbrev pub verb_of : List (List ℕ) → List ℕ → List ℕ
verb_of (party ∷ []) verb = verb ++ codes "s"
verb_of _ verb = verb

verb_then : (ps : List (List ℕ)) (verb what : List ℕ) → verb ++ (ending ps ++ what) ≡ verb_of ps verb ++ (32 ∷ what)
verb_then [] verb what = refl
verb_then (p ∷ []) verb what = sym (append_assoc verb (codes "s") (32 ∷ what))
verb_then (p ∷ q ∷ ps) verb what = refl

pub together_are : (ps : List (List ℕ)) (verb word : List ℕ) (words : Words)
    → together_text ps verb (line_of (word ∷ words)) ≡ line_of (codes "needs" ∷ (ps ++ verb_of ps verb ∷ word ∷ words))
together_are ps verb word words =
    ap (λ (rest : List ℕ). codes "needs" ++ (flat_map spaced ps ++ (32 ∷ rest))) (verb_then ps verb (line_of (word ∷ words)))
    ∙ names_then (codes "needs") ps (verb_of ps verb) (word ∷ words)

verb_plain : (ps : List (List ℕ)) (verb : List ℕ) → is_plain_word verb ≡ true → is_plain_word (verb ++ codes "s") ≡ true
    → IsPlain (verb_of ps verb)
verb_plain [] verb h k = known_word verb h
verb_plain (p ∷ []) verb h k = known_word (verb ++ codes "s") k
verb_plain (p ∷ q ∷ ps) verb h k = known_word verb h

-- ---- of a contract

abbrev a_lack : Lack → Option Lack
a_lack l = Some l

-- read by its end
counted : (ps : List (List ℕ)) (verb : List ℕ) (k : ℕ) (l : Lack) → IsWide k
    → by_ending ps verb (an_output verb) k ≡ a_lack l → together_said (ps ++ verb ∷ decimal k ∷ []) ≡ a_lack l
counted ps verb k l h back =
    ap (λ (o : Option Ended). o >>= λ p. a_number (p.1) >>= λ n. last_of (p.0) >>= λ q. by_ending (q.0) (q.1) (an_output (q.1)) n)
    (last_more ps verb (decimal k ∷ []) (verb ∷ []) (decimal k) refl)
    ∙ (ap (λ (o : Option ℕ). o >>= λ n. last_of (ps ++ verb ∷ []) >>= λ q. by_ending (q.0) (q.1) (an_output (q.1)) n) (number_there k h)
    ∙ (ap (λ (o : Option Ended). o >>= λ q. by_ending (q.0) (q.1) (an_output (q.1)) k) (last_word ps verb)
    ∙ (ap (λ (ws : Words). by_ending ws verb (an_output verb) k) (append_none ps) ∙ back)))

-- the line of these parties, by its words
pub record Together (verb word : List ℕ) (words : Words) (ps : List (List ℕ)) (l : Lack) : Type 0 where
  pub plain : ArePlain (ps ++ verb_of ps verb ∷ word ∷ words)
  pub back : needs_said (ps ++ verb_of ps verb ∷ word ∷ words) ≡ a_lack l

found : (ps : List (List ℕ)) (verb word : List ℕ) (words : Words) (l : Lack) → AllByRecursion IsNamed ps → is_plain_word verb ≡ true
    → is_plain_word (verb ++ codes "s") ≡ true → ArePlain (word ∷ words)
    → together_said (ps ++ verb_of ps verb ∷ word ∷ words) ≡ a_lack l → Together verb word words ps l
found ps verb word words l h v vs plain back = record {
  plain = plain_append ps (verb_of ps verb ∷ word ∷ words) (names_plain ps h) (verb_plain ps verb v vs, plain);
  back = rw back refl;
}

names : (make : List (List ℕ) → Lack) (ps : List (List ℕ)) → AllByRecursion IsNamed ps
    → (all_of a_name ps >>= λ qs. a_lack (make qs)) ≡ a_lack (make ps)
names make ps h = ap (λ (o : Option (List (List ℕ))). o >>= λ qs. a_lack (make qs)) (names_back ps h)

pub commitments_read : (ps : List (List ℕ)) (k : ℕ) → AllByRecursion IsNamed ps → IsWide k
    → Together (codes "commit") (decimal k) [] ps (lack.commitments ps k)
commitments_read ps k h i =
    found ps (codes "commit") (decimal k) [] (lack.commitments ps k) h refl refl (number_plain k i, tt)
    (counted ps (verb_of ps (codes "commit")) k (lack.commitments ps k) i (by_verb ps h))
  where
    by_verb : (qs : List (List ℕ)) → AllByRecursion IsNamed qs
        → by_ending qs (verb_of qs (codes "commit")) (an_output (verb_of qs (codes "commit"))) k ≡ a_lack (lack.commitments qs k)
    by_verb [] g = refl
    by_verb (p ∷ []) g = names (λ qs. lack.commitments qs k) (p ∷ []) g
    by_verb (p ∷ q ∷ qs) g = names (λ rs. lack.commitments rs k) (p ∷ q ∷ qs) g

pub endorsements_read : (ps : List (List ℕ)) (k : ℕ) → AllByRecursion IsNamed ps → IsWide k
    → Together (codes "endorse") (decimal k) [] ps (lack.endorsements ps k)
endorsements_read ps k h i =
    found ps (codes "endorse") (decimal k) [] (lack.endorsements ps k) h refl refl (number_plain k i, tt)
    (counted ps (verb_of ps (codes "endorse")) k (lack.endorsements ps k) i (by_verb ps h))
  where
    by_verb : (qs : List (List ℕ)) → AllByRecursion IsNamed qs
        → by_ending qs (verb_of qs (codes "endorse")) (an_output (verb_of qs (codes "endorse"))) k ≡ a_lack (lack.endorsements qs k)
    by_verb [] g = refl
    by_verb (p ∷ []) g = names (λ qs. lack.endorsements qs k) (p ∷ []) g
    by_verb (p ∷ q ∷ qs) g = names (λ rs. lack.endorsements rs k) (p ∷ q ∷ qs) g

pub starts_read : (ps : List (List ℕ)) (k : ℕ) → AllByRecursion IsNamed ps → IsWide k
    → Together (codes "init") (decimal k) [] ps (lack.starts ps k)
starts_read ps k h i =
    found ps (codes "init") (decimal k) [] (lack.starts ps k) h refl refl (number_plain k i, tt)
    (counted ps (verb_of ps (codes "init")) k (lack.starts ps k) i (by_verb ps h))
  where
    by_verb : (qs : List (List ℕ)) → AllByRecursion IsNamed qs
        → by_ending qs (verb_of qs (codes "init")) (an_output (verb_of qs (codes "init"))) k ≡ a_lack (lack.starts qs k)
    by_verb [] g = refl
    by_verb (p ∷ []) g = names (λ qs. lack.starts qs k) (p ∷ []) g
    by_verb (p ∷ q ∷ qs) g = names (λ rs. lack.starts rs k) (p ∷ q ∷ qs) g

-- ---- of a branch

branched : (ps : List (List ℕ)) (verb : List ℕ) (n i : ℕ) (l : Lack) → IsWide n → IsWide i → by_branch ps verb n i ≡ a_lack l
    → together_said (ps ++ verb ∷ output_text n ∷ decimal i ∷ []) ≡ a_lack l
branched ps verb n i l h k back =
    ap (λ (o : Option Ended). o >>= λ p. a_number (p.1) >>= λ m. last_of (p.0) >>= λ q. by_ending (q.0) (q.1) (an_output (q.1)) m)
    (last_more ps verb (output_text n ∷ decimal i ∷ []) (verb ∷ output_text n ∷ []) (decimal i) refl)
    ∙ (ap (λ (o : Option ℕ). o >>= λ m. last_of (ps ++ verb ∷ output_text n ∷ []) >>= λ q. by_ending (q.0) (q.1) (an_output (q.1)) m)
    (number_there i k)
    ∙ (ap (λ (o : Option Ended). o >>= λ q. by_ending (q.0) (q.1) (an_output (q.1)) i)
    (last_more ps verb (output_text n ∷ []) (verb ∷ []) (output_text n) refl)
    ∙ (ap (λ (o : Option ℕ). by_ending (ps ++ verb ∷ []) (output_text n) o i) (output_back n h)
    ∙ (ap (λ (o : Option Ended). o >>= λ p. by_branch (p.0) (p.1) n i) (last_word ps verb)
    ∙ (ap (λ (ws : Words). by_branch ws verb n i) (append_none ps) ∙ back)))))

pub authorisations_read : (ps : List (List ℕ)) (n i : ℕ) → AllByRecursion IsNamed ps → IsWide n → IsWide i
    → Together (codes "authorise") (output_text n) (decimal i ∷ []) ps (lack.authorisations ps n i)
authorisations_read ps n i h j k =
    found ps (codes "authorise") (output_text n) (decimal i ∷ []) (lack.authorisations ps n i) h refl refl
    (output_plain n j, (number_plain i k, tt))
    (branched ps (verb_of ps (codes "authorise")) n i (lack.authorisations ps n i) j k (by_verb ps h))
  where
    by_verb : (qs : List (List ℕ)) → AllByRecursion IsNamed qs
        → by_branch qs (verb_of qs (codes "authorise")) n i ≡ a_lack (lack.authorisations qs n i)
    by_verb [] g = refl
    by_verb (p ∷ []) g = names (λ qs. lack.authorisations qs n i) (p ∷ []) g
    by_verb (p ∷ q ∷ qs) g = names (λ rs. lack.authorisations rs n i) (p ∷ q ∷ qs) g
