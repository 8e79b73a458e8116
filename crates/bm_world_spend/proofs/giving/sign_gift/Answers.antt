use Rattle.std.proofs.Common.{ap, subst, ◌∙◌}
use Rattle.std.proofs.lemmas.Result.{err_from_is_err_and}
use Rattle.spec_run.specs.Signing.{signed_all}
use Rattle.bm_hash.specs.Trails.{Hashed}
use Rattle.bm_world_board.specs.Prepares.{setup_of, world_of}
use Rattle.bm_world_board.proofs.Naming.{account_there, accounts_there}
use Rattle.bm_world_spend.proofs.Gifted.{gift_is, pairs_are, strings_are}
use Rattle.bm_world_spend.proofs.Named.{outputs_there}
use Rattle.bm_world_spend.proofs.Twice.{stops_same}
use Rattle.bm_world_spend.proofs.giving.sign_gift.Goals as goal

pub returns-in_err-tx-clause-trail : goal.returns-in_err-tx-clause-trail
returns-in_err-tx-clause-trail g c =
    let hash = g.H.Hash32.digest_of c.args.trail.now.hasher in
    let s = setup_of hash c.args.board.now in
    let w = world_of c.args.board.now c.args.trail.now.messages in
    let giver = c.declared_account.ensures hash c.args.board.now.header.parties (c.as_slice.ensures ∙ c.requires.playable.accounts) in
    let bare = c.in_ok-bare.ensures s (c.as_slice-2.ensures ∙ c.requires.playable.accounts) in
    let p = err_from_is_err_and c.from_residual-in_err-tx.result c.from_residual-in_err-tx.ensures.1 in
    rw (p.1, p.2) (
      c.in_err-tx.ensures.trail.0,
      tt,
      stops_same hash _ _ _ _ _
          (strings_are s w c.args.party.now c.args.inputs.now c.args.outputs.now c.declared_account.result.now c.in_ok-bare.bare giver bare)
          c.in_err-tx.ensures.trail.2,
    )

pub returns-clause-tx : goal.returns-clause-tx
returns-clause-tx g c =
    let hash = g.H.Hash32.digest_of c.args.trail.now.hasher in
    let s = setup_of hash c.args.board.now in
    let w = world_of c.args.board.now c.args.trail.now.messages in
    let giver = c.declared_account.ensures hash c.args.board.now.header.parties (c.as_slice.ensures ∙ c.requires.playable.accounts) in
    let bare = c.in_ok-bare.ensures s (c.as_slice-2.ensures ∙ c.requires.playable.accounts) in
    c.in_ok-tx.ensures.tx ∙ gift_is s w c.args.party.now c.args.inputs.now c.args.outputs.now c.declared_account.result.now c.in_ok-bare.bare giver bare

pub returns-clause-pairs : goal.returns-clause-pairs
returns-clause-pairs g c =
    let hash = g.H.Hash32.digest_of c.args.trail.now.hasher in
    let s = setup_of hash c.args.board.now in
    let w = world_of c.args.board.now c.args.trail.now.messages in
    let giver = c.declared_account.ensures hash c.args.board.now.header.parties (c.as_slice.ensures ∙ c.requires.playable.accounts) in
    let bare = c.in_ok-bare.ensures s (c.as_slice-2.ensures ∙ c.requires.playable.accounts) in
    c.in_ok-tx.ensures.book ∙ ap (signed_all c.args.board.now.book)
    (pairs_are s w c.args.party.now c.args.inputs.now c.args.outputs.now c.declared_account.result.now c.in_ok-bare.bare giver bare)

pub returns-clause-trail : goal.returns-clause-trail
returns-clause-trail g c =
    let hash = g.H.Hash32.digest_of c.args.trail.now.hasher in
    let s = setup_of hash c.args.board.now in
    let w = world_of c.args.board.now c.args.trail.now.messages in
    let giver = c.declared_account.ensures hash c.args.board.now.header.parties (c.as_slice.ensures ∙ c.requires.playable.accounts) in
    let bare = c.in_ok-bare.ensures s (c.as_slice-2.ensures ∙ c.requires.playable.accounts) in (
      c.in_ok-tx.ensures.trail.0,
      subst (λ l. Hashed hash c.args.trail.now.messages c.signed_gift.new.trail.messages l)
          (strings_are s w c.args.party.now c.args.inputs.now c.args.outputs.now c.declared_account.result.now c.in_ok-bare.bare giver bare)
          c.in_ok-tx.ensures.trail.1,
      tt,
    )

pub declared_account-requires : goal.declared_account-requires
declared_account-requires g c =
    let b = c.args.board.now in
    account_there (g.H.Hash32.digest_of c.args.trail.now.hasher) b.header.parties _ (c.as_slice.ensures ∙ c.requires.playable.accounts) c.args.party.now
    c.requires.gift.giver

pub bare_gift-requires-clause-inputs : goal.bare_gift-requires-clause-inputs
bare_gift-requires-clause-inputs g c =
    let s = setup_of (g.H.Hash32.digest_of c.args.trail.now.hasher) c.args.board.now in
    outputs_there s (world_of c.args.board.now c.args.trail.now.messages) c.args.party.now c.args.inputs.now c.args.outputs.now c.requires.passed

pub bare_gift-requires-clause-outputs : goal.bare_gift-requires-clause-outputs
bare_gift-requires-clause-outputs g c =
    let b = c.args.board.now in
    accounts_there (g.H.Hash32.digest_of c.args.trail.now.hasher) b.header.parties _ (c.as_slice-2.ensures ∙ c.requires.playable.accounts)
    c.args.outputs.now c.requires.gift.takers

pub signed_gift-requires : goal.signed_gift-requires
signed_gift-requires g c =
    let s = setup_of (g.H.Hash32.digest_of c.args.trail.now.hasher) c.args.board.now in
    outputs_there s (world_of c.args.board.now c.args.trail.now.messages) c.args.party.now c.args.inputs.now c.args.outputs.now c.requires.passed
