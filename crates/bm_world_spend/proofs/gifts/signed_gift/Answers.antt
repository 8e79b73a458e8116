use Rattle.std.proofs.Common.{◌∙◌, ◌++◌}
use Rattle.std.specs.List.{flat_map}
use Rattle.std.proofs.lemmas.Result.{err_from_is_err_and}
use Rattle.spec_bitcoin.specs.Digests.{txid_strings, shared_strings}
use Rattle.bm_hash.proofs.HashesLemmas.{Hashed-then, Stops-first, Stops-then}
use Rattle.bm_world_spend.specs.Gifts.{strings_of}
use Rattle.bm_world_spend.proofs.gifts.signed_gift.Goals as goal

pub returns-in_err-txid-clause-trail : goal.returns-in_err-txid-clause-trail
returns-in_err-txid-clause-trail g c =
    let hash = g.H.Hash32.digest_of c.args.trail.now.hasher in
    let last = flat_map (strings_of hash c.args.coins.now.outputs c.args.bare c.args.account.now.script) c.args.numbers.now in
    let p = err_from_is_err_and c.from_residual.result c.from_residual.ensures.1 in
    rw (p.1, p.2) (
      c.in_err-txid.ensures.trail.0,
      tt,
      Stops-first hash _ _
          (txid_strings hash c.args.bare ++ shared_strings hash c.args.bare) last _
          (Stops-first hash _ _ (txid_strings hash c.args.bare) (shared_strings hash c.args.bare) _ c.in_err-txid.ensures.trail.2),
    )

pub returns-in_err-lists-clause-trail : goal.returns-in_err-lists-clause-trail
returns-in_err-lists-clause-trail g c =
    let hash = g.H.Hash32.digest_of c.args.trail.now.hasher in
    let last = flat_map (strings_of hash c.args.coins.now.outputs c.args.bare c.args.account.now.script) c.args.numbers.now in
    let p = err_from_is_err_and c.from_residual-in_err-lists.result c.from_residual-in_err-lists.ensures.1 in
    rw (p.1, p.2) (
      c.in_err-lists.ensures.trail.0
          ∙ c.in_ok-txid.ensures.trail.0,
      tt,
      Stops-first hash _ _ (txid_strings hash c.args.bare ++ shared_strings hash c.args.bare) last _
          (Stops-then hash _ _ _ (txid_strings hash c.args.bare) (shared_strings hash c.args.bare) _ c.in_ok-txid.ensures.trail.1
          (rw c.in_ok-txid.ensures.trail.0 at c.in_err-lists.ensures.trail.2)),
    )

pub returns-in_err-inputs-clause-trail : goal.returns-in_err-inputs-clause-trail
returns-in_err-inputs-clause-trail g c =
    let hash = g.H.Hash32.digest_of c.args.trail.now.hasher in
    let last = flat_map (strings_of hash c.args.coins.now.outputs c.args.bare c.args.account.now.script) c.args.numbers.now in
    let p = err_from_is_err_and c.from_residual-in_err-inputs.result c.from_residual-in_err-inputs.ensures.1 in
    let second = rw c.in_ok-txid.ensures.trail.0 at c.in_ok-lists.ensures.trail.1 in
    let same = c.in_ok-lists.ensures.trail.0 ∙ c.in_ok-txid.ensures.trail.0 in
    rw (p.1, p.2) (
      c.in_err-inputs.ensures.trail.0
          ∙ same,
      tt,
      Stops-then hash _ _ _ (txid_strings hash c.args.bare ++ shared_strings hash c.args.bare) last _
          (Hashed-then hash _ _ _ (txid_strings hash c.args.bare) (shared_strings hash c.args.bare) c.in_ok-txid.ensures.trail.1 second)
          (rw same at c.in_err-inputs.ensures.trail.2),
    )
