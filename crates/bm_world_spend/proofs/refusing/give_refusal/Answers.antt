use Rattle.std.proofs.Common.{◌≡◌, true, false, Some, None, sym, ap, ◌∙◌, arith}
use Rattle.std.specs.Prelude.{nat_lt, is_none}
use Rattle.spec_data.specs.Lists as lists
use Rattle.spec_data.specs.Ranges.{max_money}
use Rattle.spec_run.specs.Giving.{first_dead, first_foreign, value_in, value_out}
use Rattle.bm_world_board.specs.Prepares.{setup_of, world_of}
use Rattle.bm_world_spend.proofs.Owning.{foreign_is, refused_by}
use Rattle.bm_world_spend.proofs.refusing.give_refusal.Goals as goal

pub returns-in-Some-first_foreign : goal.returns-in-Some-first_foreign
returns-in-Some-first_foreign c = λ hash messages same.
    let s = setup_of hash c.args.board.now in
    let w = world_of c.args.board.now messages in
    let inputs = c.args.inputs.now in
    let outputs = c.args.outputs.now in
    let dead : first_dead w inputs ≡ None = sym (c.first_dead.ensures messages) ∙ c.in_default.is in
    let foreign : first_foreign s w c.args.party.now inputs ≡ Some c.in-Some-first_foreign.number =
    sym (c.first_foreign.ensures ∙ foreign_is s c.args.board.now.accounts same w c.args.party.now inputs) ∙ c.in-Some-first_foreign.is in
    sym (λ i. refused_by (dead i) (foreign i) (lists.are_distinct inputs) (nat_lt max_money (value_out outputs))
    (nat_lt (value_in w inputs) (value_out outputs)))

pub returns-then-not-are_distinct : goal.returns-then-not-are_distinct
returns-then-not-are_distinct c = λ hash messages same.
    let s = setup_of hash c.args.board.now in
    let w = world_of c.args.board.now messages in
    let inputs = c.args.inputs.now in
    let outputs = c.args.outputs.now in
    let dead : first_dead w inputs ≡ None = sym (c.first_dead.ensures messages) ∙ c.in_default.is in
    let foreign : first_foreign s w c.args.party.now inputs ≡ None =
    sym (c.first_foreign.ensures ∙ foreign_is s c.args.board.now.accounts same w c.args.party.now inputs) ∙ c.in_default-first_foreign.is in
    let distinct : lists.are_distinct inputs ≡ false =
    first_of (cc (c.are_distinct.ensures, c.if-not-are_distinct.true), grind (arith, c.are_distinct.ensures, c.if-not-are_distinct.true)) in
    sym (λ i. refused_by (dead i) (foreign i) (distinct i) (nat_lt max_money (value_out outputs)) (nat_lt (value_in w inputs) (value_out outputs)))

pub returns-in_default-value_out : goal.returns-in_default-value_out
returns-in_default-value_out c = λ hash messages same.
    let s = setup_of hash c.args.board.now in
    let w = world_of c.args.board.now messages in
    let inputs = c.args.inputs.now in
    let outputs = c.args.outputs.now in
    let dead : first_dead w inputs ≡ None = sym (c.first_dead.ensures messages) ∙ c.in_default.is in
    let foreign : first_foreign s w c.args.party.now inputs ≡ None =
    sym (c.first_foreign.ensures ∙ foreign_is s c.args.board.now.accounts same w c.args.party.now inputs) ∙ c.in_default-first_foreign.is in
    let distinct : lists.are_distinct inputs ≡ true =
    first_of (cc (c.are_distinct.ensures, c.if-not-are_distinct.false), grind (arith, c.are_distinct.ensures, c.if-not-are_distinct.false)) in
    let above : nat_lt max_money (value_out outputs) ≡ true = sym c.value_out.ensures.none ∙ ap is_none c.in_default-value_out.is in
    sym (λ i. refused_by (dead i) (foreign i) (distinct i) (above i) (nat_lt (value_in w inputs) (value_out outputs)))

pub returns-then-is_short : goal.returns-then-is_short
returns-then-is_short c = λ hash messages same.
    let s = setup_of hash c.args.board.now in
    let w = world_of c.args.board.now messages in
    let inputs = c.args.inputs.now in
    let outputs = c.args.outputs.now in
    let dead : first_dead w inputs ≡ None = sym (c.first_dead.ensures messages) ∙ c.in_default.is in
    let foreign : first_foreign s w c.args.party.now inputs ≡ None =
    sym (c.first_foreign.ensures ∙ foreign_is s c.args.board.now.accounts same w c.args.party.now inputs) ∙ c.in_default-first_foreign.is in
    let distinct : lists.are_distinct inputs ≡ true =
    first_of (cc (c.are_distinct.ensures, c.if-not-are_distinct.false), grind (arith, c.are_distinct.ensures, c.if-not-are_distinct.false)) in
    let above : nat_lt max_money (value_out outputs) ≡ false = sym c.value_out.ensures.none ∙ ap is_none c.in-Some-value_out.is in
    let short : nat_lt (value_in w inputs) (value_out outputs) ≡ true =
    ap (nat_lt (value_in w inputs)) (sym c.in-Some-value_out.ensures.some) ∙ sym (c.is_short.ensures messages) ∙ c.if-is_short.true in
    sym (λ i. refused_by (dead i) (foreign i) (distinct i) (above i) (short i))

pub returns : goal.returns
returns c = λ hash messages same.
    let s = setup_of hash c.args.board.now in
    let w = world_of c.args.board.now messages in
    let inputs = c.args.inputs.now in
    let outputs = c.args.outputs.now in
    let dead : first_dead w inputs ≡ None = sym (c.first_dead.ensures messages) ∙ c.in_default.is in
    let foreign : first_foreign s w c.args.party.now inputs ≡ None =
    sym (c.first_foreign.ensures ∙ foreign_is s c.args.board.now.accounts same w c.args.party.now inputs) ∙ c.in_default-first_foreign.is in
    let distinct : lists.are_distinct inputs ≡ true =
    first_of (cc (c.are_distinct.ensures, c.if-not-are_distinct.false), grind (arith, c.are_distinct.ensures, c.if-not-are_distinct.false)) in
    let above : nat_lt max_money (value_out outputs) ≡ false = sym c.value_out.ensures.none ∙ ap is_none c.in-Some-value_out.is in
    let short : nat_lt (value_in w inputs) (value_out outputs) ≡ false =
    ap (nat_lt (value_in w inputs)) (sym c.in-Some-value_out.ensures.some) ∙ sym (c.is_short.ensures messages) ∙ c.if-is_short.false in
    sym (λ i. refused_by (dead i) (foreign i) (distinct i) (above i) (short i))
