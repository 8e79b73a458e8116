use Rattle.std.proofs.Common.{◌≡◌, ◌+◌, ◌++◌, drop}
use Rattle.spec_text.specs.Canonical.{rest_entries_text}
use Rattle.spec_text.specs.Generator.{secret_entries}
use Rattle.bm_make.proofs.contract.put_secret_entries.Given as goal

abbrev pub invariant-loop-secret : goal.invariant-loop-secret
invariant-loop-secret l = record {
  number : l.number ≡ 1 + l._secret-index;
  told : l.out.items ++ rest_entries_text (secret_entries l.number (drop l._secret-index l.secrets))
      ≡ l.initial.out.items ++ rest_entries_text (secret_entries 1 l.secrets);
}
