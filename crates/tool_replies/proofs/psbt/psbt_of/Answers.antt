use Rattle.std.proofs.Common.{◌≡◌, List, get_or, sym, ap, subst, ◌∙◌}
use Rattle.spec_terms.specs.Advert.{Advert}
use Rattle.bm_hash.specs.Messages.{Noted}
use Rattle.bm_world.specs.Playing.{setup_in}
use Rattle.tool_replies.proofs.Contracts.{the_first}
use Rattle.tool_replies.proofs.psbt.psbt_of.Goals as goal

pub returns : goal.returns
returns g c =
    let digest = g.H.Hash32.digest_of in
    let w = c.args.world.now in
    let x = c.checked-item.result in
    c.psbt_text.ensures.run (setup_in digest w) w.world
    (ap digest (sym (c.hasher.ensures ∙ ap (λ (n : Noted _). n.hasher) c.trail.ensures)))
    (the_first w.contracts x c.requires.one (subst (λ (xs : List Advert). x ≡ get_or xs 0 x) c.contracts.ensures c.checked-item.is))
    (sym c.book.ensures)
    c.compiled.ensures
