-- A contract that begins is endorsed: an honest participant's deposit goes only with its leave, which it gives to what is endorsed.
use Rattle.std.proofs.Common.{◌≡◌, ℕ, List, map, true, false, Option, Some, sym, ap, ◌∙◌, subst}
use Rattle.std.specs.Prelude.{◌&&◌, slice_get}
use Rattle.std.specs.Option.{is_none}
use Rattle.std.proofs.lemmas.Bool.{and_parts, and_from}
use Rattle.spec_data.specs.Lists.{is_among, look_up}
use Rattle.spec_terms.specs.Precondition.{Holding, persistent}
use Rattle.spec_bitcoin.specs.declared.tx.Tx.{Tx}
use Rattle.spec_calculus.specs.Configuration.{Configuration}
use Rattle.spec_calculus.specs.declared.step.Owner.TheVariants.{Party}
use Rattle.spec_compiler.specs.Instance.{Instance, people}
use Rattle.spec_compiler.specs.Transactions.{input_of, deposit, persistent_deposits}
use Rattle.spec_compiler.specs.Endorsements.{is_endorsed}
use Rattle.spec_run.specs.declared.event.Event.{Event}
use Rattle.spec_run.specs.declared.outcome.Record.{Record}
use Rattle.spec_run.specs.Setup.{Setup, is_honest, people_of}
use Rattle.spec_run.specs.World.{Output, World, output_at, is_deposit, bindings_at}
use Rattle.spec_run.specs.Owners.{owner_by, owner_of}
use Rattle.spec_run.specs.Compiled.{compiled_instance}
use Rattle.spec_run.specs.Pending.{applied}
use Rattle.spec_run.specs.Ledger.{Begins, accepted, is_initial, initial_of, kind_of, kind_by, first_position}
use Rattle.spec_run.specs.Steps.{names_deposit}
use Rattle.spec_run.specs.Event.{record_of}
use Rattle.spec_run.specs.HonestDeposits.{is_init, was_done, gives, by_contract, takes_persistent, SpendsWithLeave}
use Rattle.theory_calculus.proofs.Names.{persistent_deposit}
use Rattle.theory_world.specs.KeptApart.{NoCollision}
use Rattle.theory_world.proofs.Contracts.Mentions.{HasDeposit, has_deposit}
use Rattle.theory_world.proofs.Ledger.Worth.{IsAccepted}
use Rattle.theory_world.proofs.Ledger.Accepting.{accepting}
use Rattle.theory_world.proofs.Later.{compiled_is}
use Rattle.theory_run.specs.KeptBook.{KeptBook}
use Rattle.theory_run.proofs.Accepted.Spending.{Checked}
use Rattle.theory_run.proofs.Facts.Opening.{owner_is}
use Rattle.theory_run.proofs.Accepted.Accept.{bare_in, spent_at}
use Rattle.theory_run.proofs.Accepted.WhatItIs.{AtBound, at_bound, IsInitial, initial_is}
use Rattle.theory_offers.proofs.Basis.Stepped.{spends_in, is_gone}
use Rattle.theory_offers.proofs.Basis.Reached.{BeginsEndorsed}
use Rattle.theory_offers.proofs.Endorsing.{KeptStarts}

module _ (s : Setup) (g : Configuration) (w : World) (kept : KeptBook s g w) (check : Checked s w) (clear : NoCollision s.hash w.hashed)
    (before : List Record) (starts : KeptStarts s before w)
    (e : Event) (tx : Tx) (spent : List ℕ) (is : IsAccepted s w tx spent) where
  module _ (k : ℕ) (i : initial_of s w tx ≡ Some k) where
    abbrev it : IsInitial s w tx k
    it = initial_is s w tx k i

    abbrev st : Instance
    st = it.instance

    -- an honest participant, and a persistent deposit of it
    someone : (a : List ℕ) × (is_among a (people st) ≡ true) × (is_honest s a ≡ true)
    someone =
        let c = compiled_is s w k st it.compiled in
        let adv = kept.adverts k c.advertised in
        (adv.fair.0, subst (λ p. is_among adv.fair.0 p ≡ true) (ap people_of c.there ∙ ap (λ (y : Instance). people y) (sym c.is)) adv.fair.1, adv.fair.2)

    has : HasDeposit st.advert someone.0
    has = has_deposit st.advert someone.0 (check.checked k st it.compiled) someone.1

    abbrev d : List ℕ × Holding
    d = (has.name, has.holding)

    bound : AtBound s w st has.name has.holding
    bound = at_bound s g w kept k st it.compiled has.name has.holding (persistent_deposit st.advert.pre d has.there)

    looked : look_up has.name (bindings_at w.advertised k) ≡ Some bound.number
    looked = subst (λ m. look_up has.name (bindings_at w.advertised m) ≡ Some bound.number)
        (ap (λ (y : Instance). y.contract) (compiled_is s w k st it.compiled).is) bound.looked

    -- it is live before, and gone after
    live : bound.bound.output.live ≡ true
    live =
        let acc = accepting s w tx spent is in
        let j = bare_in (map input_of (persistent_deposits s.hash st)) tx.inputs (input_of (deposit s.hash st (d.0) (d.1)))
        (sym (ap (λ (y : Tx). y.inputs) it.is)) (spends_in s.hash st (persistent st.advert.pre) d has.there) in
        let r = spent_at s w tx spent tx.inputs j.0 acc.spends j.1 in
        let m = kept.apart bound.number r.0 bound.bound.output r.2.output bound.bound.there r.2.there (sym bound.outpoint ∙ sym j.2 ∙ r.2.outpoint) in
        let o : (let x : Option Output = Some bound.bound.output in x) ≡ Some r.2.output = sym bound.bound.there ∙ ap (slice_get w.outputs) m ∙ r.2.there in
        let same : bound.bound.output ≡ r.2.output = cc in
        ap (λ (x : Output). x.live) same ∙ r.2.live

    owned : owner_of s (output_at w bound.number) ≡ Party someone.0
    owned =
        let o = bound.bound.output in
        let dep : (o.live && is_none o.holds) ≡ true = and_from _ _ live (ap is_none bound.bound.free) in
        let who = owner_is s w.hashed clear kept.labelled kept.programs has.holding.owner bound.bound.declared in
        let by : owner_by s o.script ≡ Party someone.0 = ap (owner_by s) bound.bound.script ∙ who ∙ ap Party has.owner in
        ap (owner_of s) bound.bound.there ∙ rw dep by

    gone : is_deposit (output_at (applied w (accepted s w tx spent)) bound.number) ≡ false
    gone = sym (ap (names_deposit (applied w (accepted s w tx spent))) looked) ∙ is_gone s g w kept tx spent is k st it.compiled d has.there it.is

    -- it went with the party's leave, which isn't a gift's
    left : SpendsWithLeave s before w (record_of e (accepted s w tx spent)) (applied w (accepted s w tx spent))
        → gives someone.0 bound.number e ≡ false → was_done (is_init k someone.0) before ≡ true
    left leave no_gift =
        let h = leave someone.0 bound.number someone.2 owned gone in
        let kind : kind_of s w tx spent ≡ Begins k = ap (λ o. kind_by s tx spent o (first_position w spent)) i in
        let by : by_contract s w before someone.0 bound.number tx (kind_of s w tx spent) ≡ true = rw no_gift at h in
        let takes = is_initial s tx (compiled_instance s w k) && takes_persistent s w k someone.0 bound.number in
        (and_parts takes (was_done (is_init k someone.0) before) (subst (λ x. by_contract s w before someone.0 bound.number tx x ≡ true) kind by)).1

  pub begins_endorsed : SpendsWithLeave s before w (record_of e (accepted s w tx spent)) (applied w (accepted s w tx spent))
      → ((a : List ℕ) (n : ℕ) → gives a n e ≡ false) → BeginsEndorsed s w tx
  begins_endorsed leave no_gift k st i c =
      let r = starts.started k (someone k i).0 (someone k i).2 (left k i leave (no_gift (someone k i).0 (bound k i).number)) in
      let one : (let x : Option Instance = Some r.instance in x) ≡ Some st = sym r.compiled ∙ c in
      let same : r.instance ≡ st = cc in
      subst (λ (x : Instance). is_endorsed s.hash x w.book ≡ true) same r.endorsed
