use Rattle.std.proofs.Common.{◌≡◌, ◌++◌, drop}
use Rattle.std.specs.List.{flat_map}
use Rattle.spec_tool.specs.PsbtText.{signature_line}
use Rattle.bm_psbt_text.proofs.lines.put_signatures.Given as goal

abbrev pub invariant-loop-key : goal.invariant-loop-key
invariant-loop-key l =
    l.out.items ++ flat_map (signature_line l.number) (drop l.key-index l.pairs) ≡ l.initial.out.items ++ flat_map (signature_line l.number) l.pairs
