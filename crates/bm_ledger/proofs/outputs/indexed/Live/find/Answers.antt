use Rattle.std.proofs.Common.{◌∙◌, ap, sym}
use Rattle.std.specs.Option.{option_map}
use Rattle.spec_bitcoin.specs.Live.{Entry}
use Rattle.bm_ledger.proofs.Indexing.{found}
use Rattle.bm_ledger.proofs.outputs.indexed.Live.find.Goals as goal

pub returns-in_err-entry : goal.returns-in_err-entry
returns-in_err-entry c = rw (c.from_residual-in_err-entry.ensures, ← c.self.view_is)
    (ap (option_map (λ (e : Entry). e.1)) c.in_err-entry.ensures
    ∙ found _ c.self.inside.entries.items c.args.place.now c.in_ok-number.number.now c.self.invariant (sym c.in_ok-number.ensures.value))

pub returns : goal.returns
returns c = rw (← c.self.view_is) (ap (option_map (λ (e : Entry). e.1)) c.in_ok-entry.ensures
    ∙ found _ c.self.inside.entries.items c.args.place.now c.in_ok-number.number.now c.self.invariant (sym c.in_ok-number.ensures.value))
