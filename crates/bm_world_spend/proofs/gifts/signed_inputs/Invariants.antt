use Rattle.std.proofs.Common.{◌≡◌, ◌++◌, map, take, drop}
use Rattle.std.specs.List.{flat_map}
use Rattle.bm_hash.specs.Trails.{Hashed}
use Rattle.spec_run.specs.Signing.{signed_all}
use Rattle.bm_world_board.specs.Prepares.{IsPrefix}
use Rattle.bm_world_spend.specs.Gifts.{strings_of, pair_of, signed_input}
use Rattle.bm_world_spend.proofs.gifts.signed_inputs.Given as goal

abbrev pub invariant-loop-number : goal.invariant-loop-number
invariant-loop-number g l =
    let hash = g.H.Hash32.digest_of l.fn.trail.hasher in
    record {
      hasher : l.trail.hasher ≡ l.fn.trail.hasher;
      inputs : l.inputs ++ map (signed_input hash l.coins.outputs l.account l.tx) (drop l.number-index l.numbers)
          ≡ map (signed_input hash l.coins.outputs l.account l.tx) l.numbers;
      book : signed_all l.book (map (pair_of hash l.coins.outputs l.account l.tx) (drop l.number-index l.numbers))
          ≡ signed_all l.fn.book (map (pair_of hash l.coins.outputs l.account l.tx) l.numbers);
      prefix : IsPrefix l.fn.book l.book;
      trail : Hashed hash l.fn.trail.messages l.trail.messages
          (flat_map (strings_of hash l.coins.outputs l.tx l.account.script) (take l.number-index l.numbers));
    }
