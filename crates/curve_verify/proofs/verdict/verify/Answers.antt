use Rattle.std.proofs.Common.{◌≡◌, ℕ, List, ◌≤◌, length, true, false, ◌∙◌, arith, rules, sym, subst}
use Rattle.spec_curve.specs.Key.{number_of}
use Rattle.spec_curve.specs.Verify.{verifies}
use Rattle.curve_point.specs.Coordinates.{place_of}
use Rattle.curve_verify.proofs.Verdicts.{r_length, s_length, unspelled_fails, keyless_fails, spelled_verifies}
use Rattle.curve_verify.proofs.verdict.verify.Goals as goal

pub returns-then-not-is_spelled : goal.returns-then-not-is_spelled
returns-then-not-is_spelled c =
    let told : c.is_spelled.result ≡ false = first_of (cc, search rules, grind arith) in
    sym (unspelled_fails c.args.key.now c.args.digest.now c.args.signature.now (sym c.is_spelled.ensures ∙ told))

pub signs-requires-clause-r : goal.signs-requires-clause-r
signs-requires-clause-r c =
    let told : c.is_spelled.result ≡ true = first_of (cc, search rules, grind arith) in
    subst (λ (bytes : List ℕ). length bytes ≤ 33) (sym c.r_bytes-r.ensures) (r_length c.args.signature.now (sym c.is_spelled.ensures ∙ told))

pub signs-requires-clause-s : goal.signs-requires-clause-s
signs-requires-clause-s c =
    let told : c.is_spelled.result ≡ true = first_of (cc, search rules, grind arith) in
    subst (λ (bytes : List ℕ). length bytes ≤ 33) (sym c.s_bytes-s.ensures) (s_length c.args.signature.now (sym c.is_spelled.ensures ∙ told))

pub returns-in-Some : goal.returns-in-Some
returns-in-Some c =
    let told : c.is_spelled.result ≡ true = first_of (cc, search rules, grind arith) in
    let q = place_of c.in-Some.point in
    c.signs.ensures
    ∙ ((λ i. verifies (c.from_bytes-z.ensures i) (number_of (c.r_bytes-r.ensures i)) (number_of (c.s_bytes-s.ensures i)) q)
    ∙ sym (spelled_verifies c.args.key.now c.args.digest.now c.args.signature.now q (sym c.is_spelled.ensures ∙ told) (sym c.in-Some.ensures.same)))

pub returns-in-None : goal.returns-in-None
returns-in-None c = sym (keyless_fails c.args.key.now c.args.digest.now c.args.signature.now (sym c.in-None.ensures.same))
