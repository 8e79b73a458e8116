use Rattle.std.proofs.Common.{◌≡◌, List, [], subst}
use Rattle.spec_bitcoin.specs.declared.tx.TxOut.{TxOut}
use Rattle.spec_bitcoin.specs.Digests.{txid_strings, opening_transaction}
use Rattle.spec_run.specs.Event.{opening_outputs}
use Rattle.bm_hash.specs.Trails.{Hashed}
use Rattle.bm_world_opening.specs.Opening.{setup_with}
use Rattle.bm_world_board.proofs.Naming.{accounts_there}
use Rattle.bm_world_opening.proofs.opening.coins_of.Goals as goal

pub returns-clause-trail : goal.returns-clause-trail
returns-clause-trail g c =
    let hash = g.H.Hash32.digest_of c.args.trail.now.hasher in
    let made : c.in_ok-outputs.outputs ≡ opening_outputs (setup_with (g.H.Hash32.digest_of c.args.trail.now.hasher) c.args.header.now []) = rw c.as_slice.ensures at (c.in_ok-outputs.ensures hash c.args.header.now.parties c.requires.accounts) in
    let hashed : Hashed (g.H.Hash32.digest_of c.args.trail.now.hasher) c.args.trail.now.messages c.opening.new.trail.messages (txid_strings (g.H.Hash32.digest_of c.args.trail.now.hasher) (opening_transaction c.in_ok-outputs.outputs)) = rw c.as_slice-2.ensures at c.in_ok-coins.ensures.trail.1 in (
      c.in_ok-coins.ensures.trail.0,
      subst (λ (os : List TxOut). Hashed (g.H.Hash32.digest_of c.args.trail.now.hasher)
          c.args.trail.now.messages c.opening.new.trail.messages
          (txid_strings (g.H.Hash32.digest_of c.args.trail.now.hasher) (opening_transaction os))) made hashed,
      tt,
    )

pub outputs_of-requires : goal.outputs_of-requires
outputs_of-requires g c =
    let h = c.args.header.now in
    rw c.as_slice.ensures (accounts_there (g.H.Hash32.digest_of c.args.trail.now.hasher) h.parties _ c.requires.accounts h.deposits c.requires.header.depositors)
