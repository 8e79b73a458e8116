use Rattle.std.proofs.Common.{◌∙◌, map, ap}
use Rattle.bm_compile.specs.Numbered.{value_at, row_at}
use Rattle.bm_compile.proofs.Places.{transactions_led, rows_led, scripts_led}
use Rattle.bm_compile.proofs.compiled.Compiled.of.Goals as goal

pub invariant_of-result : goal.invariant_of-result
invariant_of-result c =
    let branches = rw c.nodes.ensures at c.in_ok-branches.ensures in
    let choices = rw c.nodes-2.ensures at c.in_ok-choices.ensures in
    record {
      transactions = ap (map (value_at c.args.paths)) branches ∙ transactions_led c.args.paths c.args.arena c.requires.paths c.requires.paths_once;
      rows = ap (map (row_at c.args.keys)) branches ∙ rows_led c.args.paths c.args.keys c.args.arena c.requires.keys c.requires.paths c.requires.paths_once;
      outputs = ap (map (value_at c.args.scripts)) choices ∙ scripts_led c.args.scripts c.args.arena c.requires.scripts c.requires.scripts_once;
    }
