use Rattle.std.proofs.Common.{◌≡◌, ℕ, ◌+◌, ◌++◌, List, length, drop, map, sym, subst, ◌∙◌, ◌∷◌, [], length-append}
use Rattle.spec_bitcoin.specs.declared.tx.TxOut.{TxOut}
use Rattle.tool_shows.specs.Live.{number_and_value}
use Rattle.tool_shows.proofs.Shown.{next_live, last_live}
use Rattle.tool_shows.proofs.live.live_outputs.Goals as goal

pub loop-number-preserved : goal.loop-number-preserved
loop-number-preserved c =
    let prefix = c.loop-number.live.items in
    let live = c.args.ledger.now.live in
    let p : ℕ × TxOut = (c.in-Some.number, c.in-Some.output.now) in
    let made : c.push.new.self.items ≡ prefix ++ (c.in-Some.number, c.in-Some.output.now.value) ∷ [] = c.in_ok-push.ensures.items in
    let n : length (prefix ++ (c.in-Some.number, c.in-Some.output.now.value) ∷ []) ≡ length prefix + 1 = length-append prefix ((c.in-Some.number, c.in-Some.output.now.value) ∷ []) in
    subst (λ (ls : List (ℕ × ℕ)). ls ++ map number_and_value (drop (length ls) live) ≡ map number_and_value live) (sym made)
    (next_live prefix live c.len.result (length (prefix ++ (c.in-Some.number, c.in-Some.output.now.value) ∷ [])) p (map number_and_value live) (c.len.ensures ∙ (c.loop-number.live.ok).0) n c.in-Some.ensures c.loop-number.invariant)

pub returns : goal.returns
returns c = last_live c.loop-number.live.items c.args.ledger.now.live c.len.result (map number_and_value c.args.ledger.now.live)
    (c.len.ensures ∙ (c.loop-number.live.ok).0) c.in_default.ensures c.loop-number.invariant
