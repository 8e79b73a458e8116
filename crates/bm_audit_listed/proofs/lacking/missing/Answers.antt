use Rattle.std.proofs.Common.{◌≡◌, subst, IfOk}
use Rattle.bm_audit_listed.proofs.Listing.{missing_by_lists}
use Rattle.bm_audit_listed.proofs.lacking.missing.Goals as goal

pub returns-clause-compiled : goal.returns-clause-compiled
returns-clause-compiled g c = λ s contract advert compiled.
    subst (λ all. IfOk c.missing_of.result (λ m. m ≡ all))
    (missing_by_lists (g.H.Hash32.digest_of c.args.hasher.now) c.args.book.now c.args.contract c.args.checked.now c.args.compiled.now s
    contract advert compiled) c.missing_of.ensures
