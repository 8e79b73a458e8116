use Rattle.std.proofs.Common.{◌≡◌, ℕ, ◌+◌, List, [], ◌∷◌, Option, Some, None, option_map, OnOk, sym, subst, ◌∙◌, arith}
use Rattle.spec_text.specs.Lines.{lines_of, words_of}
use Rattle.spec_compiler.specs.Keyed.Instance.{Instance}
use Rattle.spec_deal.specs.declared.entry.Shown.{Shown}
use Rattle.spec_deal.specs.SecretFile.{bad, collides, line_says, read_lines, SecretsRead}
use Rattle.bm_hash.specs.Messages.{evidence_of}
use Rattle.deal_secrets.specs.declared.error.LineError.{LineError}
use Rattle.deal_secrets.specs.declared.error.LineError.TheVariants.{Bad, Collided, Memory}
use Rattle.deal_secrets.specs.Gives.{Evidence, Stops, Refuses, Added, Takes, at_line}
use Rattle.deal_secrets.specs.Offers.{JudgesLine, IsWanted}
use Rattle.deal_secrets.proofs.LinesSay.{at_line_says, took}
use Rattle.deal_secrets.proofs.Offered.{Fresh, judged, still_fresh, some_deal, deal_wanted}
use Rattle.deal_secrets.proofs.reading.read_lines.Goals as goal

-- a line that stops the reading is why the text is refused
stopped : (hash : List ℕ → List ℕ) (s : Instance) (messages : List (List ℕ)) (taken : List Shown) (n : ℕ) (all rest : List (List ℕ))
    (line : List ℕ) → all ≡ line ∷ rest → (evidence : Evidence) (e : LineError) (read : SecretsRead)
    → Stops evidence e (line_says hash s messages taken n (words_of line)) → read_lines hash s messages taken n all ≡ read
    → Refuses evidence (at_line e n) read
stopped hash s messages taken n all rest line here evidence (Bad reason) read stops is =
    sym is ∙ at_line_says hash s messages taken n all rest line here (bad reason) stops
stopped hash s messages taken n all rest line here None Collided read stops is = stops
stopped hash s messages taken n all rest line here (Some pair) Collided read stops is =
    sym is ∙ at_line_says hash s messages taken n all rest line here (collides (pair.0) (pair.1)) stops
stopped hash s messages taken n all rest line here evidence Memory read stops is = tt

pub returns-in-Err-clause-gives : goal.returns-in-Err-clause-gives
returns-in-Err-clause-gives g c = λ s advert wanted.
    let hash = g.H.Hash32.digest_of c.args.trail.now.hasher in
    let read = read_lines hash s c.args.trail.now.messages [] 1 (lines_of c.args.text.now) in
    let evidence = evidence_of hash c.take_line.new.trail.messages in
    let hashes : Option (List (List ℕ × List ℕ)) = option_map (λ h. h.now) c.args.hashes in
    let judges = subst
    (λ h. JudgesLine (g.H.Hash32.digest_of h) s hashes c.loop-rest.strings c.loop-rest.line (words_of c.first_line.result.0.now))
    (sym c.loop-rest.invariant.hasher)
    (judged hash c.loop-rest.strings c.loop-rest.line c.args.text.now c.loop-rest.rest.now c.first_line.result.1.now
    c.first_line.result.0.now c.first_line.ensures.line c.loop-rest.invariant.fresh s hashes wanted) in
    let stops = subst (λ h. Stops (evidence_of (g.H.Hash32.digest_of h) c.take_line.new.trail.messages) c.in-Err.error
    (line_says (g.H.Hash32.digest_of h) s c.loop-rest.trail.messages c.loop-rest.strings c.loop-rest.line (words_of c.first_line.result.0.now)))
    c.loop-rest.invariant.hasher (c.in-Err.ensures.takes s advert judges) in
    subst (λ e. Refuses evidence e read) (sym c.at_line.ensures)
    (stopped hash s c.loop-rest.trail.messages c.loop-rest.strings c.loop-rest.line (lines_of c.loop-rest.rest.now)
    (lines_of c.first_line.result.1.now) c.first_line.result.0.now c.first_line.ensures.line evidence c.in-Err.error read stops
    (c.loop-rest.invariant.told s advert wanted))

pub loop-rest-preserved : goal.loop-rest-preserved
loop-rest-preserved g c =
    let digest = g.H.Hash32.digest_of in
    let messages = c.loop-rest.trail.messages in
    let new = c.take_line.new.trail.messages in
    let prefix = c.first_line.result.0.now in
    let more = c.first_line.result.1.now in
    let rest = c.loop-rest.rest.now in
    let text = c.args.text.now in
    let hash = digest c.args.trail.now.hasher in
    let hashes : Option (List (List ℕ × List ℕ)) = option_map (λ h. h.now) c.args.hashes in
    let deal = some_deal hash c.args.checked.now hashes text in
    let is = deal_wanted hash c.args.checked.now hashes text in
    let judges : (s : Instance) → IsWanted hash s hashes text
    → JudgesLine (digest c.loop-rest.trail.hasher) s hashes c.loop-rest.strings c.loop-rest.line (words_of prefix) =
    λ s wanted.
    subst (λ h. JudgesLine (digest h) s hashes c.loop-rest.strings c.loop-rest.line (words_of prefix)) (sym c.loop-rest.invariant.hasher)
    (judged hash c.loop-rest.strings c.loop-rest.line text rest more prefix c.first_line.ensures.line c.loop-rest.invariant.fresh s hashes
    wanted) in
    let added : (s : Instance) → s.advert ≡ c.args.checked.now → IsWanted hash s hashes text
    → Added messages new c.loop-rest.strings c.take_line.new.strings
    (line_says (digest c.loop-rest.trail.hasher) s messages c.loop-rest.strings c.loop-rest.line (words_of prefix)) =
    λ s advert wanted.
    subst
    (λ r. Takes (digest c.loop-rest.trail.hasher) messages new c.loop-rest.strings c.take_line.new.strings r
    (line_says (digest c.loop-rest.trail.hasher) s messages c.loop-rest.strings c.loop-rest.line (words_of prefix)))
    c.in_default.is (c.take_line.ensures.takes s advert (judges s wanted)) in
    record {
      told = λ s advert wanted.
          subst
          (λ h. read_lines (digest h) s new c.take_line.new.strings (c.loop-rest.line + 1) (lines_of more)
          ≡ read_lines (digest h) s messages c.loop-rest.strings c.loop-rest.line (lines_of c.loop-rest.rest.now))
          c.loop-rest.invariant.hasher
          (took (digest c.loop-rest.trail.hasher) s messages c.loop-rest.strings c.loop-rest.line (lines_of c.loop-rest.rest.now)
          (lines_of more) prefix c.first_line.ensures.line new c.take_line.new.strings
          (added s advert wanted))
          ∙ c.loop-rest.invariant.told s advert wanted;
      fresh =
          subst (λ h. Fresh (digest h) c.take_line.new.strings text more) c.loop-rest.invariant.hasher
          (still_fresh (digest c.loop-rest.trail.hasher) c.loop-rest.strings c.loop-rest.line text rest more prefix c.first_line.ensures.line
          (subst (λ h. Fresh (digest h) c.loop-rest.strings text rest) (sym c.loop-rest.invariant.hasher) c.loop-rest.invariant.fresh)
          deal messages new c.take_line.new.strings (added deal (is.0) (is.1)));
      hasher = c.take_line.ensures.hasher ∙ c.loop-rest.invariant.hasher;
      clear =
          subst (λ h. evidence_of (digest h) new ≡ None) c.loop-rest.invariant.hasher
          (subst (λ r. OnOk r (evidence_of (digest c.loop-rest.trail.hasher) new ≡ None)) c.in_default.is c.take_line.ensures.clear);
      line = omega arith;
    }
