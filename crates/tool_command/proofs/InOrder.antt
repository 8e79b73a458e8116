-- Contracts are judged one after another.
use Rattle.std.proofs.Common.{◌≡◌, ℕ, ◌+◌, ◌<◌, List, [], ◌∷◌, ◌++◌, length, drop, get_or, Ok, Err, refl, sym, ap, ◌∙◌, append_assoc, add-one}
use Rattle.std.proofs.Math.Seq.{drop-cons}
use Rattle.spec_terms.specs.Advert.{Advert}
use Rattle.spec_tool.specs.Commands.{JudgedAll, onto_judged}
use Rattle.spec_tool.specs.Reads.{Text}
use Rattle.spec_tool.specs.Answers.{contract_in, contracts_in}
use Rattle.tool_command.specs.Judges.{behind}

behind-onto_judged : (prefix : List Advert) (n : ℕ) (a : Advert) (later : JudgedAll) → behind prefix (onto_judged n (Ok a) later)
    ≡ behind (prefix ++ a ∷ []) later
behind-onto_judged prefix n a (Ok adverts) = ap Ok (sym (append_assoc prefix (a ∷ []) adverts))
behind-onto_judged prefix n a (Err refusal) = refl

-- the contract of this number, and then the others
next_contract : (n : ℕ) (texts : List Text) (t : Text) → n < length texts
    → contracts_in n (drop n texts) ≡ onto_judged n (contract_in (get_or texts n t)) (contracts_in (n + 1) (drop (n + 1) texts))
next_contract n texts t less =
    ap (contracts_in n) (drop-cons texts n t less)
    ∙ ap (λ m. onto_judged n (contract_in (get_or texts n t)) (contracts_in (n + 1) (drop m texts))) (sym (add-one n))

-- it is taken
pub goes_on : (prefix : List Advert) (n : ℕ) (texts : List Text) (t : Text) (a : Advert) (whole : JudgedAll) → n < length texts
    → contract_in (get_or texts n t) ≡ Ok a → behind prefix (contracts_in n (drop n texts)) ≡ whole
    → behind (prefix ++ a ∷ []) (contracts_in (n + 1) (drop (n + 1) texts)) ≡ whole
goes_on prefix n texts t a whole less e h =
    sym (behind-onto_judged prefix n a (contracts_in (n + 1) (drop (n + 1) texts)))
    ∙ ap (λ judged. behind prefix (onto_judged n judged (contracts_in (n + 1) (drop (n + 1) texts)))) (sym e)
    ∙ ap (behind prefix) (sym (next_contract n texts t less))
    ∙ h

-- it is refused
pub stops : (prefix : List Advert) (n : ℕ) (texts : List Text) (t : Text) (why : List ℕ) (whole : JudgedAll) → n < length texts
    → contract_in (get_or texts n t) ≡ Err why → behind prefix (contracts_in n (drop n texts)) ≡ whole → whole ≡ Err (n, why)
stops prefix n texts t why whole less e h =
    sym h
    ∙ ap (behind prefix) (next_contract n texts t less)
    ∙ ap (λ judged. behind prefix (onto_judged n judged (contracts_in (n + 1) (drop (n + 1) texts)))) e
