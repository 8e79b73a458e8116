use Rattle.deal_chain.proofs.WordCounts.{one_word, many_words}
use Rattle.deal_chain.proofs.lines.words_say.Goals as goal

pub returns-in-len1 : goal.returns-in-len1
returns-in-len1 c = one_word (λ w. w.now) c.args.height c.args.words.now c.in-len1.len_at_least c.in-len1.len_below

pub returns-in-len3-up : goal.returns-in-len3-up
returns-in-len3-up c = many_words (λ w. w.now) c.args.height c.args.words.now c.in-len3-up.len_at_least
