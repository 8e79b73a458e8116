use Rattle.std.proofs.Common.{◌<◌, ◌≡◌, ◌++◌, List, length, arith, sym, ap, ◌∙◌, map}
use Rattle.std.proofs.lemmas.List.{length-map}
use Rattle.std.specs.Prelude.{◌==◌, false}
use Rattle.std.proofs.lemmas.Result.{on_ok_weaker}
use Rattle.spec_bitcoin.specs.declared.script.Op.{Op}
use Rattle.spec_bitcoin.specs.Scripts.{encode}
use Rattle.bm_branch.proofs.Emitted.{choice_bytes}
use Rattle.bm_branch.proofs.scripts.+put_choice.Goals as goal

pub returns : goal.returns
returns t c =
    let others = c.in-Some.others.now in
    let z : (length others == 0) ≡ false = sym c.is_empty.ensures ∙ c.if-is_empty.false in
    let n = length-map others (λ ops. ops.items) in
    let some : 0 < length (map (λ ops. ops.items) others) = grind (arith, n, z) in
    let second = c.in_ok-put_ops.ensures ∙ ap (λ (o : List Op). c.put_byte.new.bytes.items ++ encode o) c.as_slice-2.ensures.value in
    rw (c.in-Some.ensures.cases.0)
    (on_ok_weaker c.put_byte-3.result
    (λ e. choice_bytes _ _ _ _ _ _ c.in-Some.ops.now.items (map (λ ops. ops.items) others) some
    c.in_ok-put_byte.ensures second c.in_ok-put_byte-2.ensures c.in_ok-put_choice.ensures e)
    c.put_byte-3.ensures)
