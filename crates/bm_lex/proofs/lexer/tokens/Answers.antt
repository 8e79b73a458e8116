use Rattle.std.proofs.Common.{◌≡◌, ◌<◌, ℕ, List, subst, [], ◌∷◌, ◌++◌, length, arith, rules, ap, ◌∙◌}
use Rattle.spec_text.specs.Lexis.{Prefix, token_at, tokens_of}
use Rattle.bm_lex.specs.Prefixes.{LiesIn, prefix_of}
use Rattle.std.proofs.lemmas.List.{take_rest}
use Rattle.bm_lex.proofs.Lexing.{next_token, all_and_one}
use Rattle.bm_lex.proofs.lexer.tokens.Goals as goal

pub loop-place-preserved : goal.loop-place-preserved
loop-place-preserved c =
    let f : Prefix = (c.in-Some.kind, c.in-Some.more) in
    let Longer : List ℕ → Type 0 = λ xs. c.in-Some.more < length xs in
    let e : c.push.new.self.items ≡ c.loop-place.tokens.items ++ token_at c.loop-place.place f ∷ [] = search rules in
    rw e (record {
      told = next_token c.args.text.now c.loop-place.place f c.loop-place.tokens.items (tokens_of c.args.text.now) c.loop-place-test.true (search rules) (c.in-Some.ensures.value ∙ ap prefix_of (take_rest c.args.text.now c.loop-place.place)) (subst Longer (take_rest c.args.text.now c.loop-place.place) c.in-Some.ensures.within) c.loop-place.invariant.told;
      within = omega (arith, c.in-Some.ensures.within);
      placed = all_and_one (LiesIn (length c.args.text.now)) c.loop-place.tokens.items (token_at c.loop-place.place f) c.loop-place.invariant.placed (record { from = omega arith; to = omega (arith, c.in-Some.ensures.within) });
    })
