use Rattle.std.proofs.Common.{rules, of_calls, ◌≤◌, ℕ, subst}
use Rattle.std.proofs.lemmas.Fn.{always_returns_same}
use Rattle.bm_ledger.proofs.Numbering.{is_below, partitioned, numbered-at, numbered-found}
use Rattle.bm_ledger.proofs.outputs.numbers.place_of_number.Goals as goal

pub returns-in-Some : goal.returns-in-Some
returns-in-Some c = numbered-found 0 4294967296 c.args.number c.args.entries.now.items c.in-Some.place c.requires.order c.in-Some.ensures

pub returns : goal.returns
returns c =
    let point = c.partition_point.ensures.partitioned (is_below c.args.number) (always_returns_same _ _ _ (λ a r f k. search (rules, of_calls)))
    (partitioned 0 4294967296 c.args.number c.args.entries.now.items c.requires.order) in
    let bound = subst (λ (n : ℕ). c.partition_point.result ≤ n) c.args.entries.now.ok.0 c.partition_point.ensures.bound in
    numbered-at 0 4294967296 c.args.number c.args.entries.now.items c.partition_point.result c.requires.order bound point
