use Rattle.std.proofs.Common.{◌≡◌, ◌≤◌, length, None, refl, sym, ap, subst, ◌∙◌, arith}
use Rattle.std.specs.Prelude.{is_some, if◌then◌else◌}
use Rattle.std.proofs.lemmas.Result.{err_from_is_err_and}
use Rattle.spec_bitcoin.specs.declared.tx.Tx.{Tx}
use Rattle.spec_run.specs.Signing.{signed_all}
use Rattle.spec_run.specs.Giving.{gift, given_pairs, given_output, unsigned_gift, signed_input}
use Rattle.theory_world.proofs.Tests.{length_map}
use Rattle.bm_hash.specs.Messages.{evidence_of}
use Rattle.bm_hash.specs.Trails.{Hashed}
use Rattle.bm_world_board.specs.declared.board.Board.{Board}
use Rattle.bm_world_board.specs.Prepares.{setup_of, world_of, tx_in, Prepares}
use Rattle.bm_world_board.specs.Reaching.{IsFresh, reaches_in}
use Rattle.bm_world_spend.specs.Gifts.{gift_pending}
use Rattle.bm_world_spend.proofs.Gifted.{gift_strings-signed}
use Rattle.bm_world_spend.proofs.Kept.{placed_kept, apart_kept, fresh_gift}
use Rattle.bm_world_spend.proofs.Handed.{world_with, stops_signing, fresh_again, stops_handing, handed}
use Rattle.bm_world_spend.proofs.Twice.{stops_same}
use Rattle.bm_world_spend.proofs.Signed.{kept_pairs, kept_prefix}
use Rattle.bm_world_spend.proofs.Carried.{carried, returned, compiled_next, placed_next, stops_returned}
use Rattle.bm_world_spend.proofs.giving.pending_gift.Goals as goal

pub pending_reaching-requires-clause-inputs : goal.pending_reaching-requires-clause-inputs
pending_reaching-requires-clause-inputs g c =
    let digest = g.H.Hash32.digest_of in
    let first = c.args.trail.now.hasher in
    let before = c.args.board.now in
    let old = c.args.trail.now.messages in
    let party = c.args.party.now in
    let inputs = c.args.inputs.now in
    let outputs = c.args.outputs.now in
    let s = setup_of (digest first) before in
    let w = world_of before old in
    let pairs = signed_all before.book (given_pairs s w party inputs outputs) in
    let tx = gift s w party inputs outputs in
    let same_strings = gift_strings-signed s w party inputs outputs
    (apart_kept _ c.requires.playable.kept.config _ c.requires.playable.kept.books) c.requires.passed in
    let l = ap (λ (t : Tx). length t.inputs) c.in_ok-tx.ensures.tx ∙ length_map (signed_input s w party (unsigned_gift s w inputs outputs)) inputs in
    let few = c.requires.few in
    omega (arith, l, few)

pub pending_reaching-requires-clause-room : goal.pending_reaching-requires-clause-room
pending_reaching-requires-clause-room g c =
    let digest = g.H.Hash32.digest_of in
    let first = c.args.trail.now.hasher in
    let before = c.args.board.now in
    let old = c.args.trail.now.messages in
    let party = c.args.party.now in
    let inputs = c.args.inputs.now in
    let outputs = c.args.outputs.now in
    let s = setup_of (digest first) before in
    let w = world_of before old in
    let pairs = signed_all before.book (given_pairs s w party inputs outputs) in
    let tx = gift s w party inputs outputs in
    let same_strings = gift_strings-signed s w party inputs outputs
    (apart_kept _ c.requires.playable.kept.config _ c.requires.playable.kept.books) c.requires.passed in
    let l = ap (λ (t : Tx). length t.outputs) c.in_ok-tx.ensures.tx ∙ length_map (given_output s) outputs in
    let o = ap (λ (b : Board). length b.coins.outputs) c.in_ok-tx.ensures.board.rest in
    omega (arith, l, o, c.requires.playable.room, c.requires.gift.few_outputs)

pub pending_reaching-requires-clause-clear : goal.pending_reaching-requires-clause-clear
pending_reaching-requires-clause-clear g c =
    subst (λ h. evidence_of (g.H.Hash32.digest_of h) c.sign_gift.new.trail.messages ≡ None) (sym c.in_ok-tx.ensures.trail.0) c.in_ok-tx.ensures.trail.1.clear

pub pending_reaching-requires-clause-contracts : goal.pending_reaching-requires-clause-contracts
pending_reaching-requires-clause-contracts g c =
    subst (λ (b : Board). length b.contracts ≤ 16) (sym c.in_ok-tx.ensures.board.rest) c.requires.playable.setup.few_contracts

pub pending_reaching-requires-clause-compiled : goal.pending_reaching-requires-clause-compiled
pending_reaching-requires-clause-compiled g c =
    let digest = g.H.Hash32.digest_of in
    let first = c.args.trail.now.hasher in
    let before = c.args.board.now in
    let old = c.args.trail.now.messages in
    let party = c.args.party.now in
    let inputs = c.args.inputs.now in
    let outputs = c.args.outputs.now in
    let s = setup_of (digest first) before in
    let w = world_of before old in
    let pairs = signed_all before.book (given_pairs s w party inputs outputs) in
    let tx = gift s w party inputs outputs in
    let same_strings = gift_strings-signed s w party inputs outputs
    (apart_kept _ c.requires.playable.kept.config _ c.requires.playable.kept.books) c.requires.passed in
    let here = c.sign_gift.new.trail.hasher in
    let mid = c.sign_gift.new.trail.messages in
    let after = c.sign_gift.new.board in
    let same = c.in_ok-tx.ensures.trail.0 in
    let signs : after ≡ record before { book = pairs } = c.in_ok-tx.ensures.board.rest ∙ ap (λ x. record before { book = x }) c.in_ok-tx.ensures.pairs in
    let heard = subst (λ l. Hashed (digest first) old mid l) same_strings c.in_ok-tx.ensures.trail.1 in
    compiled_next digest first here same before after pairs signs old mid c.requires.playable.compiled

pub pending_reaching-requires-clause-placed : goal.pending_reaching-requires-clause-placed
pending_reaching-requires-clause-placed g c =
    let digest = g.H.Hash32.digest_of in
    let first = c.args.trail.now.hasher in
    let before = c.args.board.now in
    let old = c.args.trail.now.messages in
    let party = c.args.party.now in
    let inputs = c.args.inputs.now in
    let outputs = c.args.outputs.now in
    let s = setup_of (digest first) before in
    let w = world_of before old in
    let pairs = signed_all before.book (given_pairs s w party inputs outputs) in
    let tx = gift s w party inputs outputs in
    let same_strings = gift_strings-signed s w party inputs outputs
    (apart_kept _ c.requires.playable.kept.config _ c.requires.playable.kept.books) c.requires.passed in
    let here = c.sign_gift.new.trail.hasher in
    let mid = c.sign_gift.new.trail.messages in
    let after = c.sign_gift.new.board in
    let same = c.in_ok-tx.ensures.trail.0 in
    let signs : after ≡ record before { book = pairs } = c.in_ok-tx.ensures.board.rest ∙ ap (λ x. record before { book = x }) c.in_ok-tx.ensures.pairs in
    let heard = subst (λ l. Hashed (digest first) old mid l) same_strings c.in_ok-tx.ensures.trail.1 in
    placed_next digest first here same before after pairs signs old mid (placed_kept _ c.requires.playable.kept.config _ c.requires.playable.kept.books)

pub pending_reaching-requires-clause-fresh : goal.pending_reaching-requires-clause-fresh
pending_reaching-requires-clause-fresh g c =
    let digest = g.H.Hash32.digest_of in
    let first = c.args.trail.now.hasher in
    let before = c.args.board.now in
    let old = c.args.trail.now.messages in
    let party = c.args.party.now in
    let inputs = c.args.inputs.now in
    let outputs = c.args.outputs.now in
    let s = setup_of (digest first) before in
    let w = world_of before old in
    let pairs = signed_all before.book (given_pairs s w party inputs outputs) in
    let tx = gift s w party inputs outputs in
    let same_strings = gift_strings-signed s w party inputs outputs
    (apart_kept _ c.requires.playable.kept.config _ c.requires.playable.kept.books) c.requires.passed in
    let here = c.sign_gift.new.trail.hasher in
    let mid = c.sign_gift.new.trail.messages in
    let after = c.sign_gift.new.board in
    let same = c.in_ok-tx.ensures.trail.0 in
    let signs : after ≡ record before { book = pairs } = c.in_ok-tx.ensures.board.rest ∙ ap (λ x. record before { book = x }) c.in_ok-tx.ensures.pairs in
    let heard = subst (λ l. Hashed (digest first) old mid l) same_strings c.in_ok-tx.ensures.trail.1 in
    carried digest first here same before after pairs signs (λ h b. IsFresh (setup_of (digest h) b) (world_of b mid) c.in_ok-tx.tx)
    (subst (λ t. IsFresh s (world_with w pairs mid) t) (sym c.in_ok-tx.ensures.tx)
    (fresh_again s w pairs tx old mid refl c.requires.playable.clear heard (fresh_gift _ c.requires.playable.setup
    c.requires.playable.kept.config _ c.requires.playable.kept.books party inputs outputs c.requires.gift c.requires.passed)))

pub returns-in_err-tx-clause-err : goal.returns-in_err-tx-clause-err
returns-in_err-tx-clause-err g c =
    let digest = g.H.Hash32.digest_of in
    let first = c.args.trail.now.hasher in
    let before = c.args.board.now in
    let old = c.args.trail.now.messages in
    let party = c.args.party.now in
    let inputs = c.args.inputs.now in
    let outputs = c.args.outputs.now in
    let s = setup_of (digest first) before in
    let w = world_of before old in
    let pairs = signed_all before.book (given_pairs s w party inputs outputs) in
    let tx = gift s w party inputs outputs in
    let same_strings = gift_strings-signed s w party inputs outputs
    (apart_kept _ c.requires.playable.kept.config _ c.requires.playable.kept.books) c.requires.passed in
    let p = err_from_is_err_and c.from_residual.result c.from_residual.ensures.1 in
    rw (p.1, p.2) (stops_signing s w pairs tx old c.sign_gift.new.trail.messages _
    (stops_same (digest first) _ _ _ _ _ same_strings c.in_err-tx.ensures.trail.2))

pub returns-in_err-pending_change-clause-err : goal.returns-in_err-pending_change-clause-err
returns-in_err-pending_change-clause-err g c =
    let digest = g.H.Hash32.digest_of in
    let first = c.args.trail.now.hasher in
    let before = c.args.board.now in
    let old = c.args.trail.now.messages in
    let party = c.args.party.now in
    let inputs = c.args.inputs.now in
    let outputs = c.args.outputs.now in
    let s = setup_of (digest first) before in
    let w = world_of before old in
    let pairs = signed_all before.book (given_pairs s w party inputs outputs) in
    let tx = gift s w party inputs outputs in
    let same_strings = gift_strings-signed s w party inputs outputs
    (apart_kept _ c.requires.playable.kept.config _ c.requires.playable.kept.books) c.requires.passed in
    let here = c.sign_gift.new.trail.hasher in
    let mid = c.sign_gift.new.trail.messages in
    let after = c.sign_gift.new.board in
    let same = c.in_ok-tx.ensures.trail.0 in
    let signs : after ≡ record before { book = pairs } = c.in_ok-tx.ensures.board.rest ∙ ap (λ x. record before { book = x }) c.in_ok-tx.ensures.pairs in
    let heard = subst (λ l. Hashed (digest first) old mid l) same_strings c.in_ok-tx.ensures.trail.1 in
    let new = c.pending_reaching.new.trail.messages in
    let p = err_from_is_err_and c.from_residual-in_err-pending_change.result c.from_residual-in_err-pending_change.ensures.1 in
    rw (p.1, p.2) (stops_handing s w pairs tx old mid refl c.requires.playable.clear heard new _
    (stops_returned digest first here same before after pairs signs old mid new c.in_ok-tx.tx tx _ c.in_ok-tx.ensures.tx
    c.in_err-pending_change.ensures.err))

pub returns-clause-board : goal.returns-clause-board
returns-clause-board g c =
    let digest = g.H.Hash32.digest_of in
    let first = c.args.trail.now.hasher in
    let before = c.args.board.now in
    let old = c.args.trail.now.messages in
    let party = c.args.party.now in
    let inputs = c.args.inputs.now in
    let outputs = c.args.outputs.now in
    let s = setup_of (digest first) before in
    let w = world_of before old in
    let pairs = signed_all before.book (given_pairs s w party inputs outputs) in
    let tx = gift s w party inputs outputs in
    let same_strings = gift_strings-signed s w party inputs outputs
    (apart_kept _ c.requires.playable.kept.config _ c.requires.playable.kept.books) c.requires.passed in
    let here = c.sign_gift.new.trail.hasher in
    let mid = c.sign_gift.new.trail.messages in
    let after = c.sign_gift.new.board in
    let same = c.in_ok-tx.ensures.trail.0 in
    let signs : after ≡ record before { book = pairs } = c.in_ok-tx.ensures.board.rest ∙ ap (λ x. record before { book = x }) c.in_ok-tx.ensures.pairs in
    let heard = subst (λ l. Hashed (digest first) old mid l) same_strings c.in_ok-tx.ensures.trail.1 in
    let few : c.count-count.result ≡ length before.book = c.count-count.ensures in
    let rest : record after { book = c.keep_pairs.new.book } ≡ record before { book = c.keep_pairs.new.book } =
    ap (λ (b : Board). record b { book = c.keep_pairs.new.book }) c.in_ok-tx.ensures.board.rest in
    record {
      rest = rest;
      book = kept_prefix before.book after.book c.keep_pairs.new.book c.count-count.result _ few c.in_ok-tx.ensures.board.book c.keep_pairs.ensures;
    }

pub returns-clause-ok : goal.returns-clause-ok
returns-clause-ok g c =
    let digest = g.H.Hash32.digest_of in
    let first = c.args.trail.now.hasher in
    let before = c.args.board.now in
    let old = c.args.trail.now.messages in
    let party = c.args.party.now in
    let inputs = c.args.inputs.now in
    let outputs = c.args.outputs.now in
    let s = setup_of (digest first) before in
    let w = world_of before old in
    let pairs = signed_all before.book (given_pairs s w party inputs outputs) in
    let tx = gift s w party inputs outputs in
    let same_strings = gift_strings-signed s w party inputs outputs
    (apart_kept _ c.requires.playable.kept.config _ c.requires.playable.kept.books) c.requires.passed in
    let here = c.sign_gift.new.trail.hasher in
    let mid = c.sign_gift.new.trail.messages in
    let after = c.sign_gift.new.board in
    let same = c.in_ok-tx.ensures.trail.0 in
    let signs : after ≡ record before { book = pairs } = c.in_ok-tx.ensures.board.rest ∙ ap (λ x. record before { book = x }) c.in_ok-tx.ensures.pairs in
    let heard = subst (λ l. Hashed (digest first) old mid l) same_strings c.in_ok-tx.ensures.trail.1 in
    let new = c.pending_reaching.new.trail.messages in
    let x = c.in_ok-pending_change.pending_change in
    let final = c.keep_pairs.new.book in
    let few : c.count-count.result ≡ length before.book = c.count-count.ensures in
    let prepares = returned digest first here same before after pairs signs (λ h b. Prepares (digest h)
    (world_of b mid) mid new (reaches_in (setup_of (digest h) b) (world_of b mid) c.in_ok-tx.tx) x) c.in_ok-pending_change.ensures.ok in
    let applied = handed s w pairs tx old mid refl c.requires.playable.clear heard new x
    (subst (λ t. Prepares (digest first) (world_with w pairs mid) mid new (reaches_in s (world_with w pairs mid) t) x) c.in_ok-tx.ensures.tx prepares) in
    let book : final ≡ (if is_some (tx_in x.change) then pairs else before.book) =
    kept_pairs before.book after.book final c.count-count.result (is_some (tx_in x.change)) few c.in_ok-tx.ensures.board.book c.keep_pairs.ensures
    ∙ ap (λ y. if is_some (tx_in x.change) then y else before.book) c.in_ok-tx.ensures.pairs in
    let rest : record after { book = final } ≡ record before { book = final } = ap (λ (b : Board). record b { book = final }) c.in_ok-tx.ensures.board.rest in
    subst (λ b. Prepares (digest first) (world_of b old) old new (gift_pending s w party inputs outputs) x)
    (sym (rest ∙ ap (λ y. record before { book = y }) book)) applied
