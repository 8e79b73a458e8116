use Rattle.std.proofs.Common.{◌≡◌}
use Rattle.std.specs.Prelude.{drop}
use Rattle.spec_data.specs.Lists.{look_up}
use Rattle.bm_io.proofs.mem_files.file_of.Given as goal

-- what the files that are left have is what all have
abbrev pub invariant-loop-file : goal.invariant-loop-file
invariant-loop-file l = look_up l.name (drop l.file-index l.files) ≡ look_up l.name l.files
