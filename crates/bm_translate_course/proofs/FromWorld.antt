-- The board and the trail of a world are those of the run that led to it.
use Rattle.std.proofs.Common.{◌≡◌, ℕ, ◌+◌, List, [], ◌∷◌, map, true, Option, Some, refl, sym, ap, ◌∙◌, subst}
use Rattle.std.specs.Prelude.{option_map}
use Rattle.spec_data.specs.Lists.{is_among}
use Rattle.spec_terms.specs.Advert.{Advert}
use Rattle.spec_run.specs.declared.outcome.Record.{Record}
use Rattle.spec_run.specs.Setup.{Setup}
use Rattle.spec_run.specs.World.{World}
use Rattle.spec_run.specs.Event.{Passed, Progress, opening_world, record_of}
use Rattle.spec_run.specs.Translation.{world_after}
use Rattle.theory_world.proofs.Bookless.{compiled_same}
use Rattle.bm_hash.specs.Messages.{Noted, message_of}
use Rattle.bm_compile.specs.Numbered.{numbered}
use Rattle.bm_match.specs.Matches.{compiled_from, all_compiled}
use Rattle.bm_world_board.specs.declared.board.Board.{Board}
use Rattle.bm_world_board.specs.Prepares.{setup_of, world_of}
use Rattle.bm_world.specs.declared.halt.Halt.{Halt}
use Rattle.bm_world.specs.Playing.{Played, setup_in, IsWorld}
use Rattle.bm_translate_course.specs.Courses.{passed_in, end_of, IsPlayed}

-- what is compiled doesn't hang on what was hashed
compiled_hashless : (s : Setup) (b : Board) (messages hashed : List (List ℕ)) (k : ℕ) (cs : List Advert)
    → compiled_from s (record (world_of b messages) { hashed = hashed }) k cs ≡ compiled_from s (world_of b messages) k cs
compiled_hashless s b messages hashed k [] = refl
compiled_hashless s b messages hashed k (c ∷ cs) = λ i.
    option_map (numbered s.hash) (compiled_same s (world_of b messages) b.book hashed k i)
    ∷ compiled_hashless s b messages hashed (k + 1) cs i

pub played_of : (hash : List ℕ → List ℕ) (b : Board) (messages : List (List ℕ)) (trace : List Record) (halt : Option Halt)
    → IsWorld (setup_of hash b) b messages trace halt → IsPlayed (setup_of hash b) b messages trace
played_of hash b messages trace halt is =
    let s = setup_of hash b in
    let reached = is.reached in
    let same : passed_in s trace ≡ reached.passed = ap (λ (x : Progress). x.passed) reached.plays in
    let end : end_of s trace ≡ world_after (opening_world s) reached.passed = ap (world_after (opening_world s)) same in
    let last : record (world_of b messages) { hashed = (world_after (opening_world s) reached.passed).hashed } ≡ end_of s trace =
    reached.left.same ∙ sym end in
    let posted : b.exchange.posted ≡ (end_of s trace).posted = ap (λ (w : World). w.posted) last in
    record {
      run = record { setup = is.setup; opens = reached.opens; events = reached.events };
      records = ap (map (λ (p : Passed). record_of p.event p.pending)) same ∙ reached.records;
      header = refl;
      contracts = refl;
      accounts = is.accounts;
      compiled =
          is.compiled ∙ sym (compiled_hashless s b messages (world_after (opening_world s) reached.passed).hashed 0 b.contracts)
          ∙ ap (all_compiled s) last;
      outputs = ap (λ (w : World). w.outputs) last;
      posted = posted;
      promises = ap (λ (w : World). w.promises) last;
      advertised = ap (λ (w : World). w.advertised) last;
      heard = subst (λ ts. (t : List ℕ) → is_among t ts ≡ true → message_of hash messages (hash t) ≡ Some t) posted is.found;
    }

-- the setup of the board and the trail is that of the world
pub same_setup : {H : Type 0} (digest : H → List ℕ → List ℕ) (trail : Noted H) (b : Board) (p : Played H)
    → trail ≡ record { hasher = p.hasher; messages = p.world.hashed } → b.header ≡ p.header → b.contracts ≡ p.contracts
    → setup_of (digest trail.hasher) b ≡ setup_in digest p
same_setup digest trail b p t h c = λ i. record { hash = digest ((t i).hasher); header = h i; contracts = c i }

-- the trace of a world was played, and left its board and its trail
pub played_there : {H : Type 0} (digest : H → List ℕ → List ℕ) (trail : Noted H) (b : Board) (trace : List Record) (p : Played H)
    → trail ≡ record { hasher = p.hasher; messages = p.world.hashed } → trace ≡ p.trace
    → IsWorld (setup_of (digest p.hasher) b) b p.world.hashed p.trace p.halt
    → IsPlayed (setup_of (digest trail.hasher) b) b trail.messages trace
played_there {H} digest trail b trace p t e is =
    subst (λ (n : Noted H). IsPlayed (setup_of (digest n.hasher) b) b n.messages trace) (sym t)
    (subst (λ (rs : List Record). IsPlayed (setup_of (digest p.hasher) b) b p.world.hashed rs) (sym e)
    (played_of (digest p.hasher) b p.world.hashed p.trace p.halt is))
