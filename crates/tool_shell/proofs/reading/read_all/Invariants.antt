use Rattle.std.proofs.Common.{◌≡◌, ◌≤◌, map, length, true}
use Rattle.spec_tool.specs.Reads.{all_fit}
use Rattle.tool_shell.specs.Asked.{asked}
use Rattle.tool_shell.specs.Files.{taken, Went}
use Rattle.tool_shell.specs.Logs.{Logs}
use Rattle.tool_shell.proofs.reading.read_all.Given as goal

abbrev pub invariant-loop-name : goal.invariant-loop-name
invariant-loop-name g l = record {
  counted : length l.texts ≡ l.name-index;
  went : Went (g.F.Files.told l.initial.files) (g.F.Files.told l.files) (map asked l.list) l.texts;
  fit : all_fit (map asked l.list) l.texts ≡ true;
  logs : Logs (g.F.Files.log l.initial.files) (g.F.Files.log l.files) (g.F.Files.taken l.initial.files) (g.F.Files.taken l.files)
      (map asked l.list) (taken l.texts);
  later : g.F.Files.faults l.initial.files ≤ g.F.Files.faults l.files;
}
