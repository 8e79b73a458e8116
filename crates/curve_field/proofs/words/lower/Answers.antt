use Rattle.curve_field.proofs.Values.{row_split}
use Rattle.curve_field.proofs.words.lower.Goals as goal

pub returns : goal.returns
returns c = row_split c.args.row
