use Rattle.std.proofs.Common.{◌≡◌, ◌+◌, ◌++◌, drop}
use Rattle.std.specs.List.{flat_map}
use Rattle.spec_text.specs.RunText.{secret_text}
use Rattle.spec_text.specs.Generator.{held_from}
use Rattle.bm_make.proofs.header.put_secrets.Given as goal

abbrev pub invariant-loop-secret : goal.invariant-loop-secret
invariant-loop-secret l = record {
  number : l.number ≡ 1 + l.secret-index;
  told : l.out.items ++ flat_map secret_text (held_from l.number (drop l.secret-index l.secrets))
      ≡ l.initial.out.items ++ flat_map secret_text (held_from 1 l.secrets);
}
