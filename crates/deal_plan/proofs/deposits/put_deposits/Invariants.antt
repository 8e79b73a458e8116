use Rattle.std.proofs.Common.{◌≡◌, ◌++◌, drop, true}
use Rattle.std.specs.Prelude.{is_some}
use Rattle.std.specs.List.{flat_map, list_all}
use Rattle.spec_data.specs.Lists.{look_up}
use Rattle.spec_terms.specs.Precondition.{deposits}
use Rattle.deal_plan.specs.Parts.{deposit_text}
use Rattle.deal_plan.proofs.deposits.put_deposits.Given as goal

-- what is there, and what is left, are the whole; each that is left has a place
abbrev pub invariant-loop-entry : goal.invariant-loop-entry
invariant-loop-entry g l =
    let hash = g.H.Hash32.digest_of l.hasher in
    record {
      placed : list_all (λ d. is_some (look_up (d.0) l.deal.deposits)) (deposits (drop l.entry-index l.pre)) ≡ true;
      told : l.out.items ++ flat_map (deposit_text hash l.deal) (deposits (drop l.entry-index l.pre))
          ≡ l.initial.out.items ++ flat_map (deposit_text hash l.deal) (deposits l.pre);
    }
