use Rattle.std.proofs.Common.{◌≡◌, ◌++◌, map, drop, true}
use Rattle.std.specs.Prelude.{is_some}
use Rattle.std.specs.List.{list_all}
use Rattle.spec_data.specs.Lists.{look_up}
use Rattle.spec_terms.specs.Precondition.{secrets}
use Rattle.deal_state.specs.Prospects.{secret_requirement_in}
use Rattle.deal_state.proofs.outstanding.put_secrets.Given as goal

abbrev pub invariant-loop-name : goal.invariant-loop-name
invariant-loop-name l =
    record {
      known : list_all (λ a. is_some (look_up a (secrets l.pre))) (drop l.name-index l.names) ≡ true;
      exact : l.requirements.items ++ map (secret_requirement_in l.pre) (drop l.name-index l.names)
          ≡ l.initial.requirements.items ++ map (secret_requirement_in l.pre) l.names;
    }
