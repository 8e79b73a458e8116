-- Each line of a deal's plan is read as what it says.
use Rattle.std.proofs.Common.{◌≡◌, ℕ, List, [], ◌∷◌, Option, Some, None, refl, ap, ◌∙◌, true}
use Rattle.std.specs.Prelude.{reverse, codes}
use Rattle.std.specs.Fmt.{decimal}
use Rattle.std.specs.List.{AllByRecursion}
use Rattle.std.proofs.lemmas.List.{reverse-reverse}
use Rattle.spec_data.specs.Digits.{hex_text}
use Rattle.spec_bitcoin.specs.declared.tx.Tx.{Tx}
use Rattle.spec_bitcoin.specs.Keys.{IsStep, path_text}
use Rattle.spec_bitcoin.specs.Spelling.{IsTransaction, stripped}
use Rattle.spec_text.specs.Words.{◌>>=◌}
use Rattle.spec_tool.specs.declared.which.Which.{Which}
use Rattle.spec_tool.specs.Keyed.Listed.{which_text}
use Rattle.spec_tool.specs.Psbt.{is_unsigned, unsigned_of}
use Rattle.theory_psbt.proofs.PartBytes.{unsigned_again}
use Rattle.theory_text.proofs.Lines.PathsBack.{path_back}
use Rattle.theory_text.proofs.Options.{some}
use Rattle.theory_play_text.specs.Lines.{Words, number, by_digits}
use Rattle.theory_play_text.specs.Printable.{IsWide, IsNamed}
use Rattle.theory_play_text.proofs.LineWords.{IsPlain, ArePlain, known_word}
use Rattle.theory_play_text.proofs.Paths.{path_plain}
use Rattle.theory_play_text.proofs.WordsBack.{number_back, number_plain, name_back, name_plain, bytes_back, bytes_plain}
use Rattle.theory_plan_text.specs.PlanLines.{IsWhich}
use Rattle.theory_plan_text.proofs.AnyLines.{Written}
use Rattle.theory_plan_text.proofs.PlanRead.{which_back, which_plain}
use Rattle.theory_deal_text.specs.Signers.{IsSlot}
use Rattle.theory_deal_text.specs.PlanLines.{ShownScript, ShownDeposit, PlanLine, output_said, plan_said}
use Rattle.theory_deal_text.specs.PlanLines as line
use Rattle.theory_deal_text.proofs.Words.{slot_and, slot_back, slot_plain}

-- ---- words

-- the address behind a script
abbrev pub address_word : Option (List ℕ) → Words
address_word None = []
address_word (Some text) = text ∷ []

abbrev pub script_and : ShownScript → Words
script_and s = hex_text s.bytes ∷ address_word s.address

abbrev first_word : PlanLine → List ℕ
first_word line.compiled = codes "contract"
first_word (line.script position bytes) = codes "script"
first_word (line.deposit d) = codes "deposit"
first_word (line.pays party s) = codes "pay"
first_word (line.transaction which txid tx) = codes "tx"
first_word (line.digest which k bytes) = codes "digest"
first_word (line.signs slot) = codes "sign"

abbrev other_words : PlanLine → Words
other_words line.compiled = codes "0" ∷ codes "compiled" ∷ []
other_words (line.script position bytes) = path_text position ∷ hex_text bytes ∷ []
other_words (line.deposit d) =
    d.name ∷ hex_text (reverse d.place.txid) ∷ decimal d.place.vout ∷ decimal d.value ∷ script_and d.script
other_words (line.pays party s) = party ∷ script_and s
other_words (line.transaction which txid tx) = which_text which ∷ hex_text (reverse txid) ∷ hex_text (stripped tx) ∷ []
other_words (line.digest which k bytes) = which_text which ∷ decimal k ∷ hex_text bytes ∷ []
other_words (line.signs slot) = slot_and slot []

abbrev pub written : Written PlanLine
written = record { word = first_word; words = other_words }

-- ---- what may be said

-- an address has no space and ends no line
abbrev pub IsAddress : Option (List ℕ) → Type 0
IsAddress None = Unit {0}
IsAddress (Some text) = IsPlain text

pub record IsDeposit (d : ShownDeposit) : Type 0 where
  pub name : IsNamed d.name
  pub vout : IsWide d.place.vout
  pub value : IsWide d.value
  pub address : IsAddress d.script.address

abbrev pub IsSaid : PlanLine → Type 0
IsSaid line.compiled = Unit {0}
IsSaid (line.script position bytes) = AllByRecursion IsStep position
IsSaid (line.deposit d) = IsDeposit d
IsSaid (line.pays party s) = IsNamed party × IsAddress s.address
IsSaid (line.transaction which txid tx) = IsWhich which × IsTransaction tx × (is_unsigned tx ≡ true)
IsSaid (line.digest which k bytes) = IsWhich which × IsWide k
IsSaid (line.signs slot) = IsSlot slot

address_plain : (o : Option (List ℕ)) → IsAddress o → ArePlain (address_word o)
address_plain None h = tt
address_plain (Some text) h = (h, tt)

script_plain : (s : ShownScript) → IsAddress s.address → ArePlain (script_and s)
script_plain s h = (bytes_plain s.bytes, address_plain s.address h)

pub words_plain : (l : PlanLine) → IsSaid l → ArePlain (first_word l ∷ other_words l)
words_plain line.compiled h =
    (known_word (codes "contract") refl, (known_word (codes "0") refl, (known_word (codes "compiled") refl, tt)))
words_plain (line.script position bytes) h = (known_word (codes "script") refl, (path_plain position h, (bytes_plain bytes, tt)))
words_plain (line.deposit d) h = (
  known_word (codes "deposit") refl,
  (
    name_plain d.name h.name,
    (
      bytes_plain (reverse d.place.txid),
      (number_plain d.place.vout h.vout, (number_plain d.value h.value, script_plain d.script h.address)),
    ),
  ),
)
words_plain (line.pays party s) h = (known_word (codes "pay") refl, (name_plain party h.0, script_plain s h.1))
words_plain (line.transaction which txid tx) h =
    (known_word (codes "tx") refl, (which_plain which h.0, (bytes_plain (reverse txid), (bytes_plain (stripped tx), tt))))
words_plain (line.digest which k bytes) h =
    (known_word (codes "digest") refl, (which_plain which h.0, (number_plain k h.1, (bytes_plain bytes, tt))))
words_plain (line.signs slot) h = (known_word (codes "sign") refl, slot_plain slot h [] tt)

-- ---- it is read

abbrev says : PlanLine → Option PlanLine
says l = some l

abbrev a_script : List ℕ → Option (List ℕ) → Option ShownScript
a_script bytes address = some (record { bytes = bytes; address = address })

output_back : (bytes : List ℕ) (o : Option (List ℕ)) → output_said (hex_text bytes) (address_word o) ≡ a_script bytes o
output_back bytes None = ap (λ o. o >>= λ x. a_script x None) (bytes_back bytes)
output_back bytes (Some text) = ap (λ o. o >>= λ x. a_script x (Some text)) (bytes_back bytes)

abbrev a_deposit : List ℕ → List ℕ → ℕ → ℕ → ShownScript → Option PlanLine
a_deposit name txid vout value own =
    says (line.deposit (record { name = name; place = record { txid = txid; vout = vout }; value = value; script = own }))

deposit_back : (d : ShownDeposit) → IsDeposit d
    → line.deposit_said (d.name ∷ hex_text (reverse d.place.txid) ∷ decimal d.place.vout ∷ decimal d.value ∷ script_and d.script)
    ≡ says (line.deposit d)
deposit_back d h =
    let shown = hex_text (reverse d.place.txid) in
    let script = output_said (hex_text d.script.bytes) (address_word d.script.address) in
    ap (λ o. o >>= λ x. by_digits shown >>= λ i. number (decimal d.place.vout) >>= λ n. number (decimal d.value) >>= λ v.
    script >>= λ own. a_deposit x (reverse i) n v own) (name_back d.name h.name)
    ∙ (ap (λ o. o >>= λ i. number (decimal d.place.vout) >>= λ n. number (decimal d.value) >>= λ v.
    script >>= λ own. a_deposit d.name (reverse i) n v own) (bytes_back (reverse d.place.txid))
    ∙ (ap (λ (x : List ℕ). number (decimal d.place.vout) >>= λ n. number (decimal d.value) >>= λ v.
    script >>= λ own. a_deposit d.name x n v own) (reverse-reverse d.place.txid)
    ∙ (ap (λ o. o >>= λ n. number (decimal d.value) >>= λ v. script >>= λ own. a_deposit d.name d.place.txid n v own)
    (number_back d.place.vout h.vout)
    ∙ (ap (λ o. o >>= λ v. script >>= λ own. a_deposit d.name d.place.txid d.place.vout v own) (number_back d.value h.value)
    ∙ ap (λ o. o >>= λ own. a_deposit d.name d.place.txid d.place.vout d.value own) (output_back d.script.bytes d.script.address)))))

transaction_back : (which : Which) (txid : List ℕ) (tx : Tx) → IsWhich which → IsTransaction tx → is_unsigned tx ≡ true
    → line.transaction_said (which_text which ∷ hex_text (reverse txid) ∷ hex_text (stripped tx) ∷ [])
    ≡ says (line.transaction which txid tx)
transaction_back which txid tx h fits unsigned =
    ap (λ o. o >>= λ w. by_digits (hex_text (reverse txid)) >>= λ x. by_digits (hex_text (stripped tx)) >>= λ b.
    unsigned_of b >>= λ t. says (line.transaction w (reverse x) t)) (which_back which h)
    ∙ (ap (λ o. o >>= λ x. by_digits (hex_text (stripped tx)) >>= λ b.
    unsigned_of b >>= λ t. says (line.transaction which (reverse x) t)) (bytes_back (reverse txid))
    ∙ (ap (λ o. o >>= λ b. unsigned_of b >>= λ t. says (line.transaction which (reverse (reverse txid)) t)) (bytes_back (stripped tx))
    ∙ (ap (λ o. o >>= λ t. says (line.transaction which (reverse (reverse txid)) t)) (unsigned_again tx fits unsigned)
    ∙ ap (λ (x : List ℕ). says (line.transaction which x tx)) (reverse-reverse txid))))

pub words_back : (l : PlanLine) → IsSaid l → plan_said (first_word l ∷ other_words l) ≡ says l
words_back line.compiled h = refl
words_back (line.script position bytes) h =
    ap (λ o. o >>= λ q. by_digits (hex_text bytes) >>= λ x. says (line.script q x)) (path_back position h)
    ∙ ap (λ o. o >>= λ x. says (line.script position x)) (bytes_back bytes)
words_back (line.deposit d) h = deposit_back d h
words_back (line.pays party s) h =
    ap (λ o. o >>= λ a. output_said (hex_text s.bytes) (address_word s.address) >>= λ own. says (line.pays a own)) (name_back party h.0)
    ∙ ap (λ o. o >>= λ own. says (line.pays party own)) (output_back s.bytes s.address)
words_back (line.transaction which txid tx) h = transaction_back which txid tx h.0 h.1 h.2
words_back (line.digest which k bytes) h =
    ap (λ o. o >>= λ w. number (decimal k) >>= λ j. by_digits (hex_text bytes) >>= λ x. says (line.digest w j x)) (which_back which h.0)
    ∙ (ap (λ o. o >>= λ j. by_digits (hex_text bytes) >>= λ x. says (line.digest which j x)) (number_back k h.1)
    ∙ ap (λ o. o >>= λ x. says (line.digest which k x)) (bytes_back bytes))
words_back (line.signs slot) h = ap (λ o. o >>= λ x. says (line.signs x)) (slot_back slot h)
