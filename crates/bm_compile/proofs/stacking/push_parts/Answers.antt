use Rattle.std.proofs.Common.{◌≡◌, ◌++◌, ◌∷◌, [], length, ap, arith}
use Rattle.std.proofs.lemmas.List.{length-append}
use Rattle.std.specs.Prelude.{reverse}
use Rattle.bm_compile.proofs.Stacks.{parts_less}
use Rattle.bm_compile.proofs.stacking.push_parts.Goals as goal

pub loop-value-preserved : goal.loop-value-preserved
loop-value-preserved c =
    let cut : c.loop-value.rest.now ≡ c.in-Some.others.now ++ c.in-Some.field-0-0.now ∷ [] = search (c.in-Some.ensures.cases) in
    let sum = length-append c.in-Some.others.now (c.in-Some.field-0-0.now ∷ []) in
    let whole = ap length cut in
    let few = c.loop-value.invariant.few in
    record {
      few = omega (arith, sum, whole, few);
      waits =
          λ hash d same. parts_less hash d c.args.txid c.loop-value.rest.now c.in-Some.others.now c.in-Some.field-0-0.now
          (reverse c.loop-value.stack.items) (reverse c.push.new.stack.items) _ same cut c.in_ok-push.ensures (c.loop-value.invariant.waits hash d same);
    }
