use Rattle.std.proofs.Common.{◌≡◌, ◌++◌, drop, map}
use Rattle.deal_file.specs.Needs.{path_need}
use Rattle.deal_file.proofs.needs.put_path.Given as goal

abbrev pub invariant-loop-party : goal.invariant-loop-party
invariant-loop-party l =
    l.out.items ++ map (path_need l.path) (drop l.party-index l.parties) ≡ l.initial.out.items ++ map (path_need l.path) l.parties
