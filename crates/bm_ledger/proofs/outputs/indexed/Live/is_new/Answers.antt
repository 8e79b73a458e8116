use Rattle.std.proofs.Common.{◌∙◌, ap}
use Rattle.std.specs.Prelude.{not}
use Rattle.std.specs.List.{list_any}
use Rattle.bm_ledger.proofs.Births.{is_of, is_new_txid}
use Rattle.bm_ledger.proofs.Indexing.{new_by_number}
use Rattle.bm_ledger.proofs.outputs.indexed.Live.is_new.Goals as goal

pub returns : goal.returns
returns c =
    let made = c.is_made.ensures ∙ ap (list_any (is_of c.args.txid.now)) (c.as_slice.ensures ∙ c.keys.ensures.rest) in
    rw (← c.self.view_is) (new_by_number _ c.self.inside.entries.items c.args.txid.now (not c.is_made.result) c.self.invariant
    (is_new_txid c.self.inside.numbers.entries c.args.txid.now c.is_made.result made))
