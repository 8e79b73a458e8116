use Rattle.std.proofs.Common.{◌≡◌, rules, ap, sym, ◌∙◌, [], ◌∷◌, Some, true}
use Rattle.spec_data.specs.Lists.{first_false, look_up}
use Rattle.spec_terms.specs.Advert.{Advert}
use Rattle.spec_terms.specs.Parties.{participants}
use Rattle.spec_calculus.specs.Beginning.{contract_at, have_committed, has_persistent, is_there, bindings_of}
use Rattle.bm_calculus.proofs.Allowing.{allowing}
use Rattle.bm_calculus.proofs.state.State.auth_init_fails.Goals as goal

pub returns : goal.returns
returns c =
    let there : Some c.in-Some.checked.now ≡ contract_at c.args.self.now.contracts c.args.contract = search rules in
    let all : have_committed c.args.self.now.committed c.args.contract (participants c.in-Some.checked.now) ≡ true = search rules in
    let pre : c.in-Some.checked.now.pre ≡ c.behind-checked.inside.pre.items =
    ap (λ (a : Advert). a.pre) (sym c.advert.ensures.value ∙ sym c.behind-checked.view_is) in
    let rest : c.allowing_fails.result
    ≡ first_false 2 (has_persistent c.in-Some.checked.now.pre c.args.party.now c.args.deposit.now
    ∷ is_there c.args.self.now.deposits (look_up c.args.deposit.now (bindings_of c.args.self.now.advertised c.args.contract)) ∷ []) =
    rw (← c.self.view_is, pre)
    (rw (c.deref-4.ensures.value, c.bindings_of-bindings.ensures, c.deref-3.ensures.value) at c.allowing_fails.ensures) in
    allowing c.args.self.now c.args.contract c.in-Some.checked.now c.args.party.now c.args.deposit.now
    c.allowing_fails.result there all rest
