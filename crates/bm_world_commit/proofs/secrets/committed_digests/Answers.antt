use Rattle.std.proofs.Common.{◌≡◌, [], true, sym, ap, subst, ◌∙◌}
use Rattle.std.specs.Prelude.{if◌then◌else◌}
use Rattle.std.proofs.lemmas.Result.{err_from_is_err_and}
use Rattle.spec_data.specs.Lists.{is_among}
use Rattle.spec_run.specs.Committing.{own_digests, own_strings}
use Rattle.bm_hash.specs.Trails.{Hashed, Stops}
use Rattle.bm_world_board.specs.Prepares.{setup_of}
use Rattle.bm_world_commit.proofs.Own.{digests_each, strings_each}
use Rattle.bm_world_commit.proofs.secrets.committed_digests.Goals as goal

pub returns-in_err-own-clause-trail : goal.returns-in_err-own-clause-trail
returns-in_err-own-clause-trail g c =
    let hash = g.H.Hash32.digest_of c.args.trail.now.hasher in
    let s = setup_of hash c.args.board.now in
    let names = c.args.names.now in
    let party = c.args.party.now in
    let honest : is_among party c.args.board.now.header.honest ≡ true = sym c.is_honest.ensures ∙ c.if-is_honest.true in
    let t = rw c.as_slice.ensures at c.in_err-own.ensures.trail in
    let p = err_from_is_err_and c.from_residual.result c.from_residual.ensures.1 in
    rw (p.1, p.2) (
      t.0,
      tt,
      subst (λ l. Stops hash c.args.trail.now.messages c.own_digests.new.trail.messages l c.in_err-own.field-0.0)
          (strings_each s party names ∙ sym (ap (λ b. if b then own_strings s party names else []) honest)) t.2,
    )

pub returns-then-is_honest-clause-digests : goal.returns-then-is_honest-clause-digests
returns-then-is_honest-clause-digests g c =
    let s = setup_of (g.H.Hash32.digest_of c.args.trail.now.hasher) c.args.board.now in
    let names = c.args.names.now in
    let party = c.args.party.now in
    let honest : is_among party c.args.board.now.header.honest ≡ true = sym c.is_honest.ensures ∙ c.if-is_honest.true in
    (rw c.as_slice.ensures at c.in_ok-own.ensures.digests) ∙ digests_each s party names
    ∙ sym (ap (λ b. if b then own_digests s party names else c.args.digests.now) honest)

pub returns-then-is_honest-clause-trail : goal.returns-then-is_honest-clause-trail
returns-then-is_honest-clause-trail g c =
    let hash = g.H.Hash32.digest_of c.args.trail.now.hasher in
    let s = setup_of hash c.args.board.now in
    let names = c.args.names.now in
    let party = c.args.party.now in
    let honest : is_among party c.args.board.now.header.honest ≡ true = sym c.is_honest.ensures ∙ c.if-is_honest.true in
    let t = rw c.as_slice.ensures at c.in_ok-own.ensures.trail in (
      t.0,
      subst (λ l. Hashed hash c.args.trail.now.messages c.own_digests.new.trail.messages l)
          (strings_each s party names ∙ sym (ap (λ b. if b then own_strings s party names else []) honest)) t.1,
      tt,
    )
