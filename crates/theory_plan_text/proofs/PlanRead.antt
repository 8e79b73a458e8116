-- Each line of a plan's text is read as what it says.
use Rattle.std.proofs.Common.{◌≡◌, ℕ, List, [], ◌∷◌, Option, refl, ap, ◌∙◌}
use Rattle.std.specs.Prelude.{reverse, codes, true}
use Rattle.std.specs.Fmt.{decimal}
use Rattle.std.specs.List.{AllByRecursion}
use Rattle.std.proofs.lemmas.List.{reverse-reverse}
use Rattle.spec_data.specs.Digits.{hex_text}
use Rattle.spec_bitcoin.specs.declared.tx.Tx.{Tx}
use Rattle.spec_bitcoin.specs.Keys.{IsStep, path_text}
use Rattle.spec_bitcoin.specs.Spelling.{IsTransaction, stripped}
use Rattle.spec_text.specs.Words.{◌>>=◌, a_name}
use Rattle.spec_tool.specs.declared.which.Which.{Which}
use Rattle.spec_tool.specs.declared.which.Which.TheVariants as names
use Rattle.spec_tool.specs.Commands.{which_of}
use Rattle.spec_tool.specs.Listed.{which_text}
use Rattle.spec_tool.specs.Psbt.{is_unsigned, unsigned_of}
use Rattle.theory_psbt.proofs.PartBytes.{unsigned_again}
use Rattle.theory_text.proofs.Lines.PathsBack.{path_back}
use Rattle.theory_text.proofs.Options.{some}
use Rattle.theory_play_text.specs.Lines.{Words, number, by_digits}
use Rattle.theory_play_text.specs.Printable.{IsWide, IsNamed}
use Rattle.theory_play_text.proofs.LineWords.{IsPlain, ArePlain, known_word}
use Rattle.theory_play_text.proofs.Paths.{path_plain}
use Rattle.theory_play_text.proofs.WordsBack.{number_back, number_plain, name_back, name_plain, bytes_back, bytes_plain}
use Rattle.theory_plan_text.specs.PlanLines.{IsWhich, PlanLine, plan_said}
use Rattle.theory_plan_text.specs.PlanLines as line
use Rattle.theory_plan_text.proofs.AnyLines.{Written}

-- ---- names of transactions

pub which_back : (which : Which) → IsWhich which → which_of (which_text which) ≡ some which
which_back names.Init h = refl
which_back (names.At path) h = ap (λ o. o >>= λ p. some (names.At p)) (path_back path h)

pub which_plain : (which : Which) → IsWhich which → IsPlain (which_text which)
which_plain names.Init h = known_word (codes "init") refl
which_plain (names.At path) h = path_plain path h

-- ---- lines

abbrev first_word : PlanLine → List ℕ
first_word line.compiled = codes "contract"
first_word line.uncompiled = codes "contract"
first_word (line.script position bytes) = codes "script"
first_word (line.transaction which txid tx) = codes "tx"
first_word (line.digest which k bytes) = codes "digest"
first_word (line.guessed party name) = codes "guessed"
first_word (line.collided earlier later) = codes "collided"

abbrev other_words : PlanLine → Words
other_words line.compiled = codes "0" ∷ codes "compiled" ∷ []
other_words line.uncompiled = codes "0" ∷ codes "not" ∷ codes "compiled" ∷ []
other_words (line.script position bytes) = path_text position ∷ hex_text bytes ∷ []
other_words (line.transaction which txid tx) = which_text which ∷ hex_text (reverse txid) ∷ hex_text (stripped tx) ∷ []
other_words (line.digest which k bytes) = which_text which ∷ decimal k ∷ hex_text bytes ∷ []
other_words (line.guessed party name) = party ∷ name ∷ []
other_words (line.collided earlier later) = hex_text earlier ∷ hex_text later ∷ []

abbrev pub written : Written PlanLine
written = record { word = first_word; words = other_words }

-- what may be said by a line
abbrev pub IsSaid : PlanLine → Type 0
IsSaid line.compiled = Unit {0}
IsSaid line.uncompiled = Unit {0}
IsSaid (line.script position bytes) = AllByRecursion IsStep position
IsSaid (line.transaction which txid tx) = IsWhich which × IsTransaction tx × (is_unsigned tx ≡ true)
IsSaid (line.digest which k bytes) = IsWhich which × IsWide k
IsSaid (line.guessed party name) = IsNamed party × IsNamed name
IsSaid (line.collided earlier later) = Unit {0}

pub words_plain : (l : PlanLine) → IsSaid l → ArePlain (first_word l ∷ other_words l)
words_plain line.compiled h =
    (known_word (codes "contract") refl, (known_word (codes "0") refl, (known_word (codes "compiled") refl, tt)))
words_plain line.uncompiled h = (
  known_word (codes "contract") refl,
  (known_word (codes "0") refl, (known_word (codes "not") refl, (known_word (codes "compiled") refl, tt))),
)
words_plain (line.script position bytes) h = (known_word (codes "script") refl, (path_plain position h, (bytes_plain bytes, tt)))
words_plain (line.transaction which txid tx) h =
    (known_word (codes "tx") refl, (which_plain which h.0, (bytes_plain (reverse txid), (bytes_plain (stripped tx), tt))))
words_plain (line.digest which k bytes) h =
    (known_word (codes "digest") refl, (which_plain which h.0, (number_plain k h.1, (bytes_plain bytes, tt))))
words_plain (line.guessed party name) h = (known_word (codes "guessed") refl, (name_plain party h.0, (name_plain name h.1, tt)))
words_plain (line.collided earlier later) h = (known_word (codes "collided") refl, (bytes_plain earlier, (bytes_plain later, tt)))

abbrev says : PlanLine → Option PlanLine
says l = some l

transaction_back : (which : Which) (txid : List ℕ) (tx : Tx) → IsWhich which → IsTransaction tx → is_unsigned tx ≡ true
    → line.transaction_said (which_text which ∷ hex_text (reverse txid) ∷ hex_text (stripped tx) ∷ [])
    ≡ says (line.transaction which txid tx)
transaction_back which txid tx h fits unsigned =
    ap (λ o. o >>= λ w. by_digits (hex_text (reverse txid)) >>= λ x. by_digits (hex_text (stripped tx)) >>= λ b.
    unsigned_of b >>= λ t. says (line.transaction w (reverse x) t)) (which_back which h)
    ∙ (ap (λ o. o >>= λ x. by_digits (hex_text (stripped tx)) >>= λ b.
    unsigned_of b >>= λ t. says (line.transaction which (reverse x) t)) (bytes_back (reverse txid))
    ∙ (ap (λ o. o >>= λ b. unsigned_of b >>= λ t. says (line.transaction which (reverse (reverse txid)) t)) (bytes_back (stripped tx))
    ∙ (ap (λ o. o >>= λ t. says (line.transaction which (reverse (reverse txid)) t)) (unsigned_again tx fits unsigned)
    ∙ ap (λ (x : List ℕ). says (line.transaction which x tx)) (reverse-reverse txid))))

pub words_back : (l : PlanLine) → IsSaid l → plan_said (first_word l ∷ other_words l) ≡ says l
words_back line.compiled h = refl
words_back line.uncompiled h = refl
words_back (line.script position bytes) h =
    ap (λ o. o >>= λ q. by_digits (hex_text bytes) >>= λ x. says (line.script q x)) (path_back position h)
    ∙ ap (λ o. o >>= λ x. says (line.script position x)) (bytes_back bytes)
words_back (line.transaction which txid tx) h = transaction_back which txid tx h.0 h.1 h.2
words_back (line.digest which k bytes) h =
    ap (λ o. o >>= λ w. number (decimal k) >>= λ j. by_digits (hex_text bytes) >>= λ x. says (line.digest w j x)) (which_back which h.0)
    ∙ (ap (λ o. o >>= λ j. by_digits (hex_text bytes) >>= λ x. says (line.digest which j x)) (number_back k h.1)
    ∙ ap (λ o. o >>= λ x. says (line.digest which k x)) (bytes_back bytes))
words_back (line.guessed party name) h =
    ap (λ o. o >>= λ a. a_name name >>= λ x. says (line.guessed a x)) (name_back party h.0)
    ∙ ap (λ o. o >>= λ x. says (line.guessed party x)) (name_back name h.1)
words_back (line.collided earlier later) h =
    ap (λ o. o >>= λ x. by_digits (hex_text later) >>= λ y. says (line.collided x y)) (bytes_back earlier)
    ∙ ap (λ o. o >>= λ y. says (line.collided earlier y)) (bytes_back later)
