use Rattle.std.specs.Prelude.{◌≡◌, ◌++◌, drop, true}
use Rattle.std.specs.List.{list_all}
use Rattle.spec_bitcoin.specs.Meaning.{is_short_push}
use Rattle.spec_bitcoin.specs.Scripts.{encode}
use Rattle.bm_ops.proofs.writing.encode_script.Given as goal

-- what is written and what is left to write are the whole
abbrev pub invariant-loop-op : goal.invariant-loop-op
invariant-loop-op l = (l.bytes.items ++ encode (drop l.op-index l.ops) ≡ encode l.ops) × (list_all is_short_push (drop l.op-index l.ops) ≡ true)
