use Rattle.std.proofs.Common.{drop, ◌+◌, sym, subst}
use Rattle.std.proofs.Math.ListN.{drop_of_length-le}
use Rattle.std.proofs.lemmas.Result.{err_from_is_err_and}
use Rattle.next_outlook.specs.Seen.{MidwayContracts}
use Rattle.next_outlook.proofs.Composed.{first_left, begin_contracts, room_for, next_contract, stops_contract, end_contracts}
use Rattle.next_outlook.proofs.looking.look_contracts.Goals as goal

pub loop-checked-init : goal.loop-checked-init
loop-checked-init g c =
    subst (MidwayContracts g.H.Hash32.digest_of c.args.world.now c.args.world.now c.args.config.now 0 c.args.contracts.now c.args.contracts.now)
    (sym c.new-list.ensures) (begin_contracts g.H.Hash32.digest_of c.args.config.now c.args.world.now c.args.contracts.now)

pub look_next-requires : goal.look_next-requires
look_next-requires g c = record {
  few = room_for g.H.Hash32.digest_of c.args.config.now c.args.world.now c.loop-checked.world c.loop-checked.contract c.checked-item.result
      (drop (c.loop-checked.checked-index + 1) c.args.contracts.now) c.args.contracts.now c.loop-checked.list
      (subst (λ cs. MidwayContracts g.H.Hash32.digest_of c.args.world.now c.loop-checked.world c.args.config.now c.loop-checked.contract cs
      c.args.contracts.now c.loop-checked.list)
      (first_left c.args.contracts.now c.loop-checked.checked-index c.checked-item.result c.loop-checked-test.true c.checked-item.is)
      c.loop-checked.invariant) c.requires.few;
}

pub loop-checked-preserved : goal.loop-checked-preserved
loop-checked-preserved g c =
    subst (λ k. MidwayContracts g.H.Hash32.digest_of c.args.world.now c.look_next.new.world c.args.config.now k
    (drop (c.loop-checked.checked-index + 1) c.args.contracts.now) c.args.contracts.now c.look_next.new.list)
    (sym c.in_ok-contract.ensures.next)
    (next_contract g.H.Hash32.digest_of c.args.config.now c.args.world.now c.loop-checked.world c.loop-checked.contract c.checked-item.result
    (drop (c.loop-checked.checked-index + 1) c.args.contracts.now) c.args.contracts.now c.loop-checked.list
    (subst (λ cs. MidwayContracts g.H.Hash32.digest_of c.args.world.now c.loop-checked.world c.args.config.now c.loop-checked.contract cs
    c.args.contracts.now c.loop-checked.list)
    (first_left c.args.contracts.now c.loop-checked.checked-index c.checked-item.result c.loop-checked-test.true c.checked-item.is)
    c.loop-checked.invariant) c.look_next.new.world c.look_next.new.list c.in_ok-contract.ensures.sees)

pub returns-in_err-contract-clause-stopped : goal.returns-in_err-contract-clause-stopped
returns-in_err-contract-clause-stopped g c =
    let p = err_from_is_err_and c.from_residual.result c.from_residual.ensures.1 in
    rw (p.1, p.2) (stops_contract g.H.Hash32.digest_of c.args.config.now c.args.world.now c.loop-checked.world c.loop-checked.contract c.checked-item.result
    (drop (c.loop-checked.checked-index + 1) c.args.contracts.now) c.args.contracts.now c.loop-checked.list
    (subst (λ cs. MidwayContracts g.H.Hash32.digest_of c.args.world.now c.loop-checked.world c.args.config.now c.loop-checked.contract cs
    c.args.contracts.now c.loop-checked.list)
    (first_left c.args.contracts.now c.loop-checked.checked-index c.checked-item.result c.loop-checked-test.true c.checked-item.is)
    c.loop-checked.invariant) c.look_next.new.world _ c.in_err-contract.ensures.stopped)

pub returns-clause-sees : goal.returns-clause-sees
returns-clause-sees g c =
    end_contracts g.H.Hash32.digest_of c.args.config.now c.args.world.now c.loop-checked.world c.loop-checked.contract c.args.contracts.now
    c.loop-checked.list
    (subst (λ cs. MidwayContracts g.H.Hash32.digest_of c.args.world.now c.loop-checked.world c.args.config.now c.loop-checked.contract cs
    c.args.contracts.now c.loop-checked.list)
    (drop_of_length-le c.args.contracts.now c.loop-checked-test.false) c.loop-checked.invariant)
