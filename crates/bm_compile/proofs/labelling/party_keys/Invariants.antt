use Rattle.std.proofs.Common.{◌≡◌, ℕ, List, ◌++◌, map, take, drop}
use Rattle.std.specs.List.{flat_map}
use Rattle.bm_hash.specs.Trails.{Hashed}
use Rattle.spec_compiler.specs.Keyed.Keys.{key_in}
use Rattle.spec_compiler.specs.Keyed.Instance.{branch_label}
use Rattle.bm_compile.specs.Keyed.Sources.{label_strings, named_for}
use Rattle.bm_compile.proofs.labelling.party_keys.Given as goal

abbrev pub invariant-loop-party : goal.invariant-loop-party
invariant-loop-party g l =
    let hash = g.H.Hash32.digest_of l.fn.trail.hasher in
    let source = g.K.KeySource.keys l.source in
    record {
      label : (q : List ℕ) → named_for l.label q ≡ branch_label l.contract l.path q;
      hasher : l.trail.hasher ≡ l.fn.trail.hasher;
      keys : l.keys ++ map (λ party. key_in hash source (branch_label l.contract l.path party)) (drop l.party-index l.parties)
          ≡ map (λ party. key_in hash source (branch_label l.contract l.path party)) l.parties;
      trail : Hashed hash l.fn.trail.messages l.trail.messages
          (flat_map (λ party. label_strings source (branch_label l.contract l.path party)) (take l.party-index l.parties));
    }
