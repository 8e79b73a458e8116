use Rattle.std.proofs.Common.{◌∷◌, map, ap, ◌∙◌}
use Rattle.spec_terms.specs.Core.{core, reveals_of}
use Rattle.spec_compiler.specs.Witness.{witness_of}
use Rattle.spec_run.specs.Setup.{bytes_or_none}
use Rattle.spec_run.specs.Firing.{with_witnesses, other_digests}
use Rattle.spec_run.specs.Signing.{first_of}
use Rattle.bm_syntax.specs.View.{guarded}
use Rattle.bm_world_board.specs.Prepares.{setup_of}
use Rattle.bm_world_fire.specs.Filled.{deposits_items, owner_in, signed_by}
use Rattle.bm_world_fire.specs.Shown.{shown_by}
use Rattle.bm_world_fire.proofs.witnesses.filled.Goals as goal

pub returns : goal.returns
returns g c =
    let hash = g.H.Hash32.digest_of c.args.trail.now.hasher in
    let s = setup_of hash c.args.board.now in
    let t = c.args.taking.now in
    let posted = c.args.board.now.exchange.posted in
    let digest = c.first_of-digest.ensures ∙ ap first_of c.as_slice.ensures in
    let others = c.others_of-others.ensures ∙ ap other_digests c.as_slice-2.ensures in
    let signed = (rw c.hasher-hasher.ensures at c.in_ok-signed.ensures)
    ∙ (λ i. map (signed_by hash (c.contract-contract.ensures i) t.path (digest i)) (c.parties-parties.ensures i)) in
    let shown = map (λ name. bytes_or_none (shown_by s posted t.hashes name)) (reveals_of (core (guarded t.branch.now))) in
    let first = c.in_ok-first.ensures ∙ ap (λ x. witness_of x shown t.number c.args.branches c.args.script.now) (c.deref.ensures.value ∙ signed) in
    let pre = c.as_slice-pre.ensures.value ∙ ap (λ a. a.pre) c.behind-taking.view_is ∙ ap (λ a. a.pre) c.advert.ensures.value in
    let witnesses = (rw c.hasher-hasher.ensures at c.in_ok-witnesses.ensures)
    ∙ (λ i. first i ∷ deposits_items hash (map (owner_in (pre i)) (c.puts.ensures i)) (others i)) in
    c.in_ok-tx.ensures ∙ ap (with_witnesses c.args.made.now.tx) (c.as_slice-3.ensures ∙ witnesses)
