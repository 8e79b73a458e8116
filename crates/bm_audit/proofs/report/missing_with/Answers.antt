use Rattle.std.proofs.Common.{◌≡◌, Some, sym, ap, subst, ◌∙◌}
use Rattle.std.specs.Prelude.{option_map, slice_get, IfOk}
use Rattle.spec_run.specs.Setup.{contract_at}
use Rattle.spec_tool.specs.Listed.{listed}
use Rattle.spec_tool.specs.Audit.{missing_of}
use Rattle.bm_compile.specs.Numbered.{numbered}
use Rattle.bm_hash.specs.Messages.{Noted}
use Rattle.bm_world.specs.Playing.{setup_in}
use Rattle.bm_audit.proofs.Listing.{missing_some, missing_nowhere}
use Rattle.bm_audit.proofs.report.missing_with.Goals as goal

pub returns-in-Some : goal.returns-in-Some
returns-in-Some g c =
    let digest = g.H.Hash32.digest_of in
    let s = setup_in digest c.args.world.now in
    let there : Some c.in-Some.checked.now ≡ contract_at s c.args.contract =
    ap (option_map (λ x. x.now)) (sym c.in-Some.is) ∙ c.contract.ensures ∙ ap (λ cs. slice_get cs c.args.contract) c.board.ensures.contracts in
    let hasher = c.hasher-hasher.ensures ∙ ap (λ (t : Noted _). t.hasher) c.trail.ensures in
    missing_some s c.args.world.now.world c.args.contract c.in-Some.checked.now c.args.compiled.now c.missing.result there c.requires
    (λ i a b d.
    subst (λ all. IfOk c.missing.result (λ m. m ≡ all))
    (λ j. missing_of (digest (hasher j)) (c.book.ensures j) (listed (digest (hasher j)) i))
    (c.missing.ensures.compiled i a b (d ∙ ap (λ h. numbered (digest h) i) (sym hasher))))

pub returns-in-None : goal.returns-in-None
returns-in-None g c =
    let s = setup_in g.H.Hash32.digest_of c.args.world.now in
    c.new.ensures
    ∙ missing_nowhere s c.args.world.now.world c.args.contract c.args.compiled.now
    (ap (option_map (λ x. x.now)) (sym c.in-None.is) ∙ c.contract.ensures ∙ ap (λ cs. slice_get cs c.args.contract) c.board.ensures.contracts) c.requires
