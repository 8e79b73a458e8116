use Rattle.std.proofs.Common.{◌≡◌, ℕ, ◌==◌, List, [], ◌∷◌, length, true, refl, sym, ◌∙◌, arith}
use Rattle.std.specs.Prelude.{Ok}
use Rattle.std.proofs.lemmas.Bool.Decides.{nat_tests}
use Rattle.spec_text.specs.Lines.{lines_of}
use Rattle.spec_deal.specs.declared.signed.Signed.{Signed}
use Rattle.spec_deal.specs.declared.transaction.Transaction.{Transaction}
use Rattle.spec_deal.specs.SignatureFile.{take_lines}
use Rattle.spec_deal.specs.Verifier.{secp256k1}
use Rattle.deal_signatures.proofs.reading.read_lines.Goals as goal

-- no line is left
none_left : (ts : List Transaction) (given : List Signed) (n : ℕ) (rest : List ℕ) → (length rest == 0) ≡ true
    → take_lines secp256k1 ts given n (lines_of rest) ≡ Ok given
none_left ts given n [] e = refl
none_left ts given n (c ∷ rest) e = absurd (grind (arith, nat_tests, e))

pub returns : goal.returns
returns c =
    sym c.loop-rest.invariant.told
    ∙ none_left c.args.transactions.now c.loop-rest.given c.loop-rest.line c.loop-rest.rest.now (sym c.is_empty.ensures ∙ c.loop-rest-test.false)
