use Rattle.std.proofs.Common.{◌≡◌, Bool, true, false, subst, arith, rules}
use Rattle.std.specs.Prelude.{IfOk}
use Rattle.std.specs.Str.{bytes_eq}
use Rattle.deal_follow.proofs.WitnessLemmas.{opens_by_test}
use Rattle.deal_follow.proofs.refusal.opens.Goals as goal

pub returns-then-ne : goal.returns-then-ne
returns-then-ne g c =
    let other : bytes_eq c.in-Some.last.now c.args.script.now ≡ false =
    first_of (search rules, grind (arith, c.ne.ensures, c.if-ne.true, c.as_slice.ensures)) in
    opens_by_test (g.H.Hash32.digest_of c.args.hasher.now) c.args.script.now c.args.witness.now c.in-Some.last.now c.in-Some.items.now false
    c.in-Some.ensures.cases other

pub returns : goal.returns
returns g c =
    let same : bytes_eq c.in-Some.last.now c.args.script.now ≡ true =
    first_of (search rules, grind (arith, c.ne.ensures, c.if-ne.false, c.as_slice.ensures)) in
    subst (λ (o : Bool). IfOk c.is_true.result (λ b. b ≡ o))
    (opens_by_test (g.H.Hash32.digest_of c.args.hasher.now) c.args.script.now c.args.witness.now c.in-Some.last.now c.in-Some.items.now true
    c.in-Some.ensures.cases same)
    c.is_true.ensures
