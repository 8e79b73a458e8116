use Rattle.std.proofs.Common.{◌<◌, ◌++◌, length, sym, ap, ◌∙◌, arith, append-nil}
use Rattle.std.proofs.lemmas.List.{take_all}
use Rattle.bm_exchange.proofs.Posting.{added_on, added_more, added_prefix}
use Rattle.bm_exchange.proofs.posts.add_all.Goals as goal

pub loop-number-init : goal.loop-number-init
loop-number-init c = sym (append-nil c.args.indexed.now)

pub returns-in_err-add-clause-more : goal.returns-in_err-add-clause-more
returns-in_err-add-clause-more c = added_more c.args.indexed.now _ _ (c.in_err-add.ensures.err ∙ c.loop-number.invariant)

pub returns-in_err-add-clause-prefix : goal.returns-in_err-add-clause-prefix
returns-in_err-add-clause-prefix c = added_prefix c.args.indexed.now _ _ (c.in_err-add.ensures.err ∙ c.loop-number.invariant)

pub loop-number-preserved : goal.loop-number-preserved
loop-number-preserved c =
    let end = c.len-number-end.ensures in
    let test = c.loop-number-test.true in
    let lt : c.loop-number.number < length c.args.strings.now = omega (arith, end, test) in
    added_on c.args.indexed.now c.args.strings.now c.loop-number.indexed c.add.new.self c.loop-number.number c.get.result.now lt c.get.ensures
    c.loop-number.invariant c.in_ok-add.ensures.ok

pub returns-clause-ok : goal.returns-clause-ok
returns-clause-ok c =
    let end = c.len-number-end.ensures in
    let test = c.loop-number-test.false in
    c.loop-number.invariant ∙ ap (λ l. c.args.indexed.now ++ l) (take_all c.loop-number.number c.args.strings.now (omega (arith, end, test)))

pub returns-clause-more : goal.returns-clause-more
returns-clause-more c = added_more c.args.indexed.now _ _ c.loop-number.invariant

pub returns-clause-prefix : goal.returns-clause-prefix
returns-clause-prefix c = added_prefix c.args.indexed.now _ _ c.loop-number.invariant
