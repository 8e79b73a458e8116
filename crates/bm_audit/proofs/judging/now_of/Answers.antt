use Rattle.std.proofs.Common.{◌≡◌, ◌<◌, ◌^◌, length, map, refl, sym, ap, subst, ◌∙◌}
use Rattle.std.specs.Prelude.{IfOk}
use Rattle.spec_run.specs.World.{World}
use Rattle.spec_bitcoin.specs.Verdict.{spent_number}
use Rattle.spec_tool.specs.declared.finding.Now.TheVariants as nows
use Rattle.bm_match.specs.Matches.{all_compiled}
use Rattle.bm_world_board.specs.Prepares.{setup_of, world_of}
use Rattle.bm_world.specs.Playing.{setup_in}
use Rattle.bm_audit.proofs.Listing.{few_compiled}
use Rattle.bm_audit.proofs.Saying.{now_accepted, now_spending}
use Rattle.bm_audit.proofs.judging.now_of.Goals as goal

pub returns-in-Some : goal.returns-in-Some
returns-in-Some g c =
    now_accepted (setup_in g.H.Hash32.digest_of c.args.world.now) c.args.world.now.world c.args.tx.now _ (nows.Refused c.in-Some.refusal)
    (sym c.in-Some.is ∙ c.requires) refl

pub accepted-requires : goal.accepted-requires
accepted-requires g c =
    let hash = g.H.Hash32.digest_of c.args.world.now.hasher in
    let b = c.board.result.now in
    record {
      few = subst (λ cs. length cs < 2 ^ 32) (sym c.board.ensures.is.compiled)
          (few_compiled (setup_of hash b) (world_of b c.args.world.now.world.hashed) c.board.ensures.is.setup);
    }

pub returns : goal.returns
returns g c =
    let digest = g.H.Hash32.digest_of in
    let s = setup_in digest c.args.world.now in
    let w = c.args.world.now.world in
    let b = c.board.result.now in
    let same : setup_of (digest c.args.world.now.hasher) b ≡ s =
    λ i. record { hash = digest c.args.world.now.hasher; header = c.board.ensures.header i; contracts = c.board.ensures.contracts i } in
    let compiled : b.compiled ≡ all_compiled s w = c.board.ensures.is.compiled ∙ (λ i. all_compiled (same i) (c.board.ensures.same i)) in
    subst (λ kind. IfOk c.accepted.result (λ now. now ≡ kind))
    (now_spending s w c.args.tx.now c.as_slice-2.result.now c.args.refusal c.requires c.in_default.is
    (c.as_slice-2.ensures ∙ c.in_ok-spent.ensures ∙ (λ i. map (spent_number ((c.ledger.ensures i).live)) (c.as_slice.ensures i))))
    (c.accepted.ensures s w (sym c.board.ensures.contracts) (sym (ap (λ (x : World). x.outputs) c.board.ensures.same)) compiled)
