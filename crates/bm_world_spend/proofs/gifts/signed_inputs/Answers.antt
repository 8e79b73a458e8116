use Rattle.std.proofs.Common.{◌≡◌, ◌∙◌, refl, get_or}
use Rattle.std.proofs.lemmas.Result.{err_from_is_err_and}
use Rattle.bm_hash.proofs.Chains.{hashed_step, stops_step, mapped_step}
use Rattle.bm_world_spend.specs.Gifts.{strings_of, pair_of, signed_input}
use Rattle.bm_world_spend.proofs.Signed.{there_is, signed_step, prefix_step}
use Rattle.bm_world_spend.proofs.gifts.signed_inputs.Goals as goal

pub loop-number-preserved : goal.loop-number-preserved
loop-number-preserved g c =
    let digest = g.H.Hash32.digest_of in
    let first = c.args.trail.now.hasher in
    let outputs = c.args.coins.now.outputs in
    let account = c.args.account.now in
    let tx = c.args.tx.now in
    let same = c.loop-number.invariant.hasher in
    let numbers = c.args.numbers.now in
    let i = c.loop-number.number-index in
    let lt = c.loop-number-test.true in
    let n = get_or numbers i 0 in
    let at : n ≡ get_or numbers i n = there_is numbers i 0 n lt in
    record {
      hasher = c.in_ok-put_signed.ensures.trail.0 ∙ same;
      inputs = mapped_step (signed_input (digest first) outputs account tx) numbers i n _ _ _ _ lt at refl
          (rw same at c.in_ok-put_signed.ensures.inputs) c.loop-number.invariant.inputs;
      book = signed_step (pair_of (digest first) outputs account tx) numbers i n _ _ _ lt at (rw same at c.in_ok-put_signed.ensures.book)
          c.loop-number.invariant.book;
      prefix = prefix_step _ _ _ _ c.loop-number.invariant.prefix c.in_ok-put_signed.ensures.book;
      trail = hashed_step (λ h n. strings_of h outputs tx account.script n) digest first _ _ _ _ numbers i n same lt at
          c.loop-number.invariant.trail c.in_ok-put_signed.ensures.trail.1;
    }

pub returns-in_err-put_signed-clause-trail : goal.returns-in_err-put_signed-clause-trail
returns-in_err-put_signed-clause-trail g c =
    let p = err_from_is_err_and c.from_residual-in_err-put_signed.result c.from_residual-in_err-put_signed.ensures.1 in
    let same = c.loop-number.invariant.hasher in
    let numbers = c.args.numbers.now in
    let i = c.loop-number.number-index in
    let lt = c.loop-number-test.true in
    let n = get_or numbers i 0 in
    rw (p.1, p.2) (
      c.in_err-put_signed.ensures.trail.0
          ∙ same,
      tt,
      stops_step (λ h n. strings_of h c.args.coins.now.outputs c.args.tx.now c.args.account.now.script n) g.H.Hash32.digest_of
          c.args.trail.now.hasher _ _ _ _ numbers i n _ same lt (there_is numbers i 0 n lt) c.loop-number.invariant.trail c.in_err-put_signed.ensures.trail.2,
    )
