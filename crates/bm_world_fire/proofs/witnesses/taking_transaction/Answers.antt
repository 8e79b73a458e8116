use Rattle.std.proofs.Common.{◌≡◌, ◌<◌, length, Some, None, sym, ap, subst, ◌∙◌}
use Rattle.std.specs.Prelude.{option_map}
use Rattle.spec_terms.specs.Term.{branches}
use Rattle.spec_terms.specs.Paths.{contract_under}
use Rattle.spec_compiler.specs.declared.prepared.Prepared.{Prepared}
use Rattle.spec_compiler.specs.ByPath.{prepared_at}
use Rattle.spec_run.specs.Ledger.{count_of, position_path}
use Rattle.bm_compile.specs.Numbered.{script_at}
use Rattle.bm_syntax.specs.View.{guarded}
use Rattle.bm_world_board.specs.Prepares.{setup_of, world_of}
use Rattle.bm_world_board.proofs.Compilations.{compiled_is}
use Rattle.bm_world_fire.specs.Taken.{taking_with}
use Rattle.bm_world_fire.proofs.Kept.{standing_of}
use Rattle.bm_world_fire.proofs.Taken.{number_of, advert_is, choice_there, script_there, script_is, within, made_there, made_is, some_digest, taking_is}
use Rattle.bm_world_fire.proofs.witnesses.taking_transaction.Goals as goal

pub unreachable-requires : goal.unreachable-requires
unreachable-requires g c =
    let hash = g.H.Hash32.digest_of c.args.trail.now.hasher in
    let board = c.args.board.now in
    let s = setup_of hash board in
    let w = world_of board c.args.trail.now.messages in
    let t = c.args.taking.now in
    let held = t.held.now in
    let o = c.requires.opened in
    let is = (standing_of s c.requires.playable.kept.config w c.requires.playable.kept.books).held o.output held o.live in
    let b = guarded t.branch.now in
    let some = sym (compiled_is s w held.contract board.compiled c.requires.playable.compiled) ∙ c.requires.taking.compiled in
    let numbers = number_of s w held is t.compiled.now some in
    let none : prepared_at s.hash is.instance (position_path held t.number) ≡ None =
    ap (prepared_at s.hash is.instance) (sym c.requires.taking.path)
    ∙ sym (c.transaction_at.ensures.compiled hash is.instance numbers) ∙ ap (option_map (λ r. r.now)) c.in_default.is in
    let x = sym none ∙ made_there s w held is t.number b o.branch in
    cc

pub filled-requires-clause-there : goal.filled-requires-clause-there
filled-requires-clause-there g c =
    let hash = g.H.Hash32.digest_of c.args.trail.now.hasher in
    let board = c.args.board.now in
    let s = setup_of hash board in
    let w = world_of board c.args.trail.now.messages in
    let t = c.args.taking.now in
    let held = t.held.now in
    let o = c.requires.opened in
    let is = (standing_of s c.requires.playable.kept.config w c.requires.playable.kept.books).held o.output held o.live in
    let b = guarded t.branch.now in
    let some = sym (compiled_is s w held.contract board.compiled c.requires.playable.compiled) ∙ c.requires.taking.compiled in
    let numbers = number_of s w held is t.compiled.now some in
    let count : c.branches_at-branches.result ≡ length (branches is.choice) =
    c.branches_at-branches.ensures is.instance.advert.root (c.arena.ensures ∙ ap (λ n. n.nodes) numbers)
    ∙ ap (λ q. count_of (contract_under is.instance.advert.root q)) c.position-position.ensures ∙ ap count_of (choice_there s w held is) in
    subst (λ n. t.number < n) (sym count) (within s w held is t.number b o.branch)

pub returns : goal.returns
returns g c =
    let hash = g.H.Hash32.digest_of c.args.trail.now.hasher in
    let board = c.args.board.now in
    let s = setup_of hash board in
    let w = world_of board c.args.trail.now.messages in
    let t = c.args.taking.now in
    let held = t.held.now in
    let o = c.requires.opened in
    let is = (standing_of s c.requires.playable.kept.config w c.requires.playable.kept.books).held o.output held o.live in
    let b = guarded t.branch.now in
    let some = sym (compiled_is s w held.contract board.compiled c.requires.playable.compiled) ∙ c.requires.taking.compiled in
    let numbers = number_of s w held is t.compiled.now some in
    let posted = board.exchange.posted in
    let path = c.requires.taking.path in
    let count : c.branches_at-branches.result ≡ length (branches is.choice) =
    c.branches_at-branches.ensures is.instance.advert.root (c.arena.ensures ∙ ap (λ n. n.nodes) numbers)
    ∙ ap (λ q. count_of (contract_under is.instance.advert.root q)) c.position-position.ensures ∙ ap count_of (choice_there s w held is) in
    let made = made_is s w held is t.number b o.branch c.in-Some.made.now
    (sym (ap (option_map (λ r. r.now)) c.in-Some.is) ∙ c.transaction_at.ensures.compiled hash is.instance numbers ∙ ap (prepared_at s.hash is.instance) path) in
    let script = script_is s w held is c.in-Some-script_at.script.now
    (sym (ap (option_map (λ r. r.now)) c.in-Some-script_at.is)
    ∙ c.script_at.ensures.compiled hash is.instance numbers ∙ ap (script_at s.hash is.instance) c.position-position.ensures) in
    let text = advert_is s w held is t.checked.now c.requires.taking.checked in
    ap Some (c.in_ok-tx.ensures ∙ (λ i. taking_with s posted held.contract (text i) (c.requires.taking.hashes i) (path i) t.number
    (count i) b (made i) ((c.as_slice.ensures ∙ script) i)))
    ∙ taking_is s w held is t.number b o.branch

pub unreachable-requires-in_default-script_at : goal.unreachable-requires-in_default-script_at
unreachable-requires-in_default-script_at g c =
    let hash = g.H.Hash32.digest_of c.args.trail.now.hasher in
    let board = c.args.board.now in
    let s = setup_of hash board in
    let w = world_of board c.args.trail.now.messages in
    let t = c.args.taking.now in
    let held = t.held.now in
    let o = c.requires.opened in
    let is = (standing_of s c.requires.playable.kept.config w c.requires.playable.kept.books).held o.output held o.live in
    let b = guarded t.branch.now in
    let some = sym (compiled_is s w held.contract board.compiled c.requires.playable.compiled) ∙ c.requires.taking.compiled in
    let numbers = number_of s w held is t.compiled.now some in
    let x = sym (ap (option_map (λ r. r.now)) c.in_default-script_at.is) ∙ c.script_at.ensures.compiled hash is.instance numbers
    ∙ ap (script_at s.hash is.instance) c.position-position.ensures ∙ script_there s w held is in
    cc

pub filled-requires-clause-some : goal.filled-requires-clause-some
filled-requires-clause-some g c =
    let hash = g.H.Hash32.digest_of c.args.trail.now.hasher in
    let board = c.args.board.now in
    let s = setup_of hash board in
    let w = world_of board c.args.trail.now.messages in
    let t = c.args.taking.now in
    let held = t.held.now in
    let o = c.requires.opened in
    let is = (standing_of s c.requires.playable.kept.config w c.requires.playable.kept.books).held o.output held o.live in
    let b = guarded t.branch.now in
    let some = sym (compiled_is s w held.contract board.compiled c.requires.playable.compiled) ∙ c.requires.taking.compiled in
    let numbers = number_of s w held is t.compiled.now some in
    let made = made_is s w held is t.number b o.branch c.in-Some.made.now
    (sym (ap (option_map (λ r. r.now)) c.in-Some.is)
    ∙ c.transaction_at.ensures.compiled hash is.instance numbers ∙ ap (prepared_at s.hash is.instance) c.requires.taking.path) in
    subst (λ (d : Prepared). 0 < length d.digests) (sym made) (some_digest s w held is t.number b o.branch)
