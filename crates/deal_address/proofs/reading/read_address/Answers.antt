use Rattle.deal_address.proofs.Scripts.{long_is_none}
use Rattle.deal_address.proofs.reading.read_address.Goals as goal

pub returns-then-word-gt-MOST_CHARACTERS : goal.returns-then-word-gt-MOST_CHARACTERS
returns-then-word-gt-MOST_CHARACTERS c = long_is_none c.args.hrp.now c.args.word.now c.if-word-gt-MOST_CHARACTERS.true
