use Rattle.std.proofs.Common.{◌≡◌, ◌++◌, map, drop, true}
use Rattle.std.specs.Prelude.{is_some}
use Rattle.std.specs.List.{list_all}
use Rattle.serde_json.specs.View.{view}
use Rattle.spec_data.specs.Lists.{look_up}
use Rattle.spec_terms.specs.Precondition.{deposits}
use Rattle.deal_compile.specs.Keyed.{keys_of}
use Rattle.deal_show.specs.Showing.{deposit_by}
use Rattle.deal_show.proofs.deposits.deposit_values.Given as goal

-- what is there, and what is left, are the whole; each that is left has a place
abbrev pub invariant-loop-entry : goal.invariant-loop-entry
invariant-loop-entry g l =
    let hash = g.H.Hash32.digest_of l.hasher in
    let shown = deposit_by hash l.deal.network (keys_of l.keys) l.deal.deposits in
    record {
      placed : list_all (λ d. is_some (look_up (d.0) l.deal.deposits)) (deposits (drop l.entry-index l.pre)) ≡ true;
      told : map view l.values.items ++ map shown (deposits (drop l.entry-index l.pre)) ≡ map shown (deposits l.pre);
    }
