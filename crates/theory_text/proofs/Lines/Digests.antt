-- Words with hexadecimal digits, and their canonical form.
use Rattle.std.proofs.Common.{◌≡◌, ℕ, true, List, [], ◌∷◌, ◌++◌, length, Option, refl, sym, ap, subst, ◌∙◌, arith}
use Rattle.std.specs.Prelude.{◌==◌, codes}
use Rattle.std.specs.List.{AllZip, AllByRecursion}
use Rattle.std.proofs.lemmas.List.{length-append}
use Rattle.spec_bitcoin.specs.Spelling.{IsBytes}
use Rattle.spec_data.specs.Digits.{hex_text, read_hex}
use Rattle.spec_text.specs.Lines.{parts_of, is_space}
use Rattle.spec_text.specs.Words.{◌>>=◌, given, a_name, digest, two_parts, named, all_of}
use Rattle.spec_text.specs.RunText.{digests_text}
use Rattle.theory_text.proofs.Options.{some, some_is, came, onto_is, given_is}
use Rattle.theory_text.proofs.Lines.Hex.{read_hex_is}
use Rattle.theory_text.proofs.Lines.HexBack.{read_hex_back, hex_lacks, no_space, no_equal_sign}
use Rattle.theory_text.proofs.Lines.Separated.{Lacks, lacks_append, lacks_prefix, part_last, part_more, parts_lack, each_spaced}
use Rattle.theory_text.proofs.Lines.PrintedWords.{name_word, two_is, two_joined}

-- a word, and one that may stand in its place: as long, and with no space where the first has none
pub record Twin (word twin : List ℕ) : Type 0 where
  pub size : length twin ≡ length word
  pub lacks : Lacks is_space word → Lacks is_space twin

pub same_twin : (word : List ℕ) → Twin word word
same_twin word = record { size = refl; lacks = λ h. h }

pub same_twins : (words : List (List ℕ)) → AllZip Twin words words
same_twins [] = tt
same_twins (word ∷ words) = (same_twin word, same_twins words)

-- ---- bytes and digests

pub hex_twin : (word bytes : List ℕ) → read_hex word ≡ some bytes → Twin word (hex_text bytes)
hex_twin word bytes h = record { size = (read_hex_back word bytes h).size; lacks = λ k. hex_lacks is_space bytes no_space (read_hex_is word bytes h).bytes }

-- a digest, read again from the digits that it is written in
pub record DigestBack (word bytes : List ℕ) : Type 0 where
  pub hex : read_hex word ≡ some bytes
  pub read : digest (hex_text bytes) ≡ some bytes

size_again : (bytes : List ℕ) → (length bytes == 32) ≡ true → given (length bytes == 32) bytes ≡ some bytes
size_again bytes h = rw h refl

hex_again : (word bytes : List ℕ) → read_hex word ≡ some bytes → (length bytes == 32) ≡ true → digest (hex_text bytes) ≡ some bytes
hex_again word bytes h k = ap (λ (o : Option (List ℕ)). o >>= λ bs. given (length bs == 32) bs) (read_hex_back word bytes h).read ∙ size_again bytes k

pub digest_back : (word bytes : List ℕ) → digest word ≡ some bytes → DigestBack word bytes
digest_back word bytes h =
    let c = came (read_hex word) (λ bs. given (length bs == 32) bs) bytes h in
    let g = given_is (length c.first == 32) c.first bytes c.then' in
    subst (DigestBack word) g.same (record { hex = c.is; read = hex_again word c.first c.is g.holds })

-- ---- names with digests

abbrev pub digest_text : List ℕ × List ℕ → List ℕ
digest_text d = d.0 ++ (codes "=" ++ hex_text d.1)

record NamedBack (word : List ℕ) (d : List ℕ × List ℕ) : Type 0 where
  read : named digest (digest_text d) ≡ some d
  twin : Twin word (digest_text d)

named_again : (x bytes : List ℕ) → Lacks (λ b. b == 61) x → IsBytes bytes → a_name x ≡ some x → digest (hex_text bytes) ≡ some bytes
    → named digest (digest_text (x, bytes)) ≡ some (x, bytes)
named_again x bytes lacks are name read =
    let parts : parts_of (λ b. b == 61) (x ++ 61 ∷ hex_text bytes) ≡ x ∷ hex_text bytes ∷ [] =
    part_more (λ b. b == 61) x 61 (hex_text bytes) lacks refl
    ∙ ap (λ (ps : List (List ℕ)). x ∷ ps) (part_last (λ b. b == 61) (hex_text bytes) (hex_lacks (λ b. b == 61) bytes no_equal_sign are)) in
    rw (parts, name, read) refl

spaces_again : (a b bytes : List ℕ) → IsBytes bytes → Lacks is_space (a ++ 61 ∷ b) → Lacks is_space (a ++ 61 ∷ hex_text bytes)
spaces_again a b bytes are h = lacks_append is_space a (61 ∷ hex_text bytes) (lacks_prefix is_space a (61 ∷ b) h) (refl, hex_lacks is_space bytes no_space are)

named_twin : (a b bytes : List ℕ) → digest b ≡ some bytes → Twin (a ++ 61 ∷ b) (a ++ 61 ∷ hex_text bytes)
named_twin a b bytes h =
    let back = digest_back b bytes h in
    let size = (read_hex_back b bytes back.hex).size in
    record {
      size = omega (arith, length-append a (61 ∷ b), length-append a (61 ∷ hex_text bytes), size);
      lacks = spaces_again a b bytes (read_hex_is b bytes back.hex).bytes;
    }

named_from : (word a b x bytes : List ℕ) → a ++ 61 ∷ b ≡ word → x ≡ a → Lacks (λ c. c == 61) a → a_name a ≡ some x → digest b ≡ some bytes
    → NamedBack word (x, bytes)
named_from word a b x bytes whole same lacks name h =
    let back = digest_back b bytes h in
    let are = (read_hex_is b bytes back.hex).bytes in
    record {
      read = named_again x bytes (subst (Lacks (λ c. c == 61)) (sym same) lacks) are (ap a_name same ∙ name) back.read;
      twin = subst (λ (w : List ℕ). Twin w (digest_text (x, bytes))) whole
          (subst (λ (y : List ℕ). Twin (a ++ 61 ∷ b) (y ++ 61 ∷ hex_text bytes)) (sym same) (named_twin a b bytes h));
    }

named_back : (word : List ℕ) (d : List ℕ × List ℕ) → named digest word ≡ some d → NamedBack word d
named_back word d h =
    let c = came (two_parts (parts_of (λ x. x == 61) word)) (λ p. a_name (p.0) >>= λ x. digest (p.1) >>= λ v. some (x, v)) d h in
    let e = came (a_name (c.first.0)) (λ x. digest (c.first.1) >>= λ v. some (x, v)) d c.then' in
    let f = came (digest (c.first.1)) (λ v. some (e.first, v)) d e.then' in
    let are = (two_is (parts_of (λ x. x == 61) word) c.first c.is).are in
    let lacks = (subst (AllByRecursion (Lacks (λ x. x == 61))) are (parts_lack (λ x. x == 61) word)).0 in
    subst (NamedBack word) (some_is (e.first, f.first) d f.then')
    (named_from word c.first.0 c.first.1 e.first f.first (two_joined 61 word c.first.0 c.first.1 are) (name_word c.first.0 e.first e.is) lacks e.is f.is)

-- ---- all of them

pub record DigestsBack (words : List (List ℕ)) (ds : List (List ℕ × List ℕ)) : Type 0 where
  pub again : List (List ℕ)
  pub text : digests_text ds ≡ each_spaced again
  pub read : all_of (named digest) again ≡ some ds
  pub twins : AllZip Twin words again

pub digests_back : (words : List (List ℕ)) (ds : List (List ℕ × List ℕ)) → all_of (named digest) words ≡ some ds → DigestsBack words ds
digests_back [] ds h = subst (DigestsBack []) (some_is [] ds h) (record { again = []; text = refl; read = refl; twins = tt })
digests_back (word ∷ words) ds h =
    let o = onto_is (named digest word) (all_of (named digest) words) ds h in
    let one = named_back word o.first o.is in
    let others = digests_back words o.others o.are in
    subst (DigestsBack (word ∷ words)) (sym o.all) (record {
      again = digest_text o.first ∷ others.again;
      text = ap (λ (rest : List ℕ). codes " " ++ (digest_text o.first ++ rest)) others.text;
      read = rw (one.read, others.read) refl;
      twins = (one.twin, others.twins);
    })
