use Rattle.std.proofs.Common.{◌≡◌, ◌≤◌, ◌-◌, ◌++◌, length}
use Rattle.std.specs.Prelude.{drop, take}
use Rattle.bm_io.specs.Files.{with_file}
use Rattle.bm_io.proofs.mem_files.put_file.Given as goal

-- the files before the place stay, and the file comes among those after it
abbrev pub invariant-loop-place : goal.invariant-loop-place
invariant-loop-place l = record {
  same : l.files.items ≡ l.initial.files.items;
  within : l.place ≤ length l.files.items;
  joined : take l.place l.files.items ++ with_file l.name l.bytes (drop l.place l.files.items) ≡ with_file l.name l.bytes l.files.items;
}

abbrev pub decreases-loop-place : goal.decreases-loop-place
decreases-loop-place l = length l.files.items - l.place
