-- The world of a run that opened.
use Rattle.std.proofs.Common.{◌≡◌, true, ℕ, List, [], ◌≤◌, ◌+◌, ◌*◌, length, None, refl, sym, ap, ◌∙◌, subst, arith}
use Rattle.std.specs.List.{AllByRecursion}
use Rattle.spec_data.specs.Hashes.{HashesBytes}
use Rattle.spec_data.specs.Lists.{is_among}
use Rattle.spec_data.specs.Messages.{noted_all}
use Rattle.spec_terms.specs.Advert.{Advert}
use Rattle.spec_terms.specs.Faults.{IsWellFormed}
use Rattle.spec_run.specs.declared.header.Header.{Header}
use Rattle.spec_run.specs.declared.outcome.Record.{Record}
use Rattle.spec_run.specs.Setup.{Setup}
use Rattle.spec_run.specs.Conditions.{IsHeader, IsSetup}
use Rattle.spec_bitcoin.specs.Digests.{txid, opening_transaction}
use Rattle.spec_run.specs.World.{World}
use Rattle.spec_run.specs.Event.{opening_outputs, opening_strings, opening_world, opening_collision, holds_nothing}
use Rattle.theory_world.proofs.Tests.{length_map}
use Rattle.theory_world.proofs.Ledger.Outputs.{length-made_from}
use Rattle.spec_run.specs.Translation.{opening_configuration}
use Rattle.theory_run.specs.KeptRuns.{KeptBooks}
use Rattle.theory_run.proofs.Facts.Bookkeeping.{opening_keeps}
use Rattle.bm_hash.specs.declared.messages.TrailError.{TrailError}
use Rattle.bm_hash.specs.declared.messages.TrailError.TheVariants as errors
use Rattle.bm_hash.specs.Trails.{Hashed, Stops}
use Rattle.bm_hash.proofs.Collisions.{hashed_adds, stopped_shows}
use Rattle.bm_match.specs.Matches.{all_compiled}
use Rattle.bm_world_board.specs.declared.board.Board.{Board}
use Rattle.bm_world_board.specs.Prepares.{setup_of, world_of}
use Rattle.bm_world_opening.specs.Opening.{setup_with, IsOpened}
use Rattle.bm_world.specs.declared.halt.Halt.{Halt}
use Rattle.bm_world.specs.Playing.{IsWorld}
use Rattle.bm_world.specs.Reached.{IsReached}
use Rattle.bm_world.specs.Starting.{Opens, Unopened}
use Rattle.bm_world.proofs.Played.{IsShown}
use Rattle.bm_world.proofs.Reaching.{reached_at_start}

nothing_posted : (t : List ℕ) → is_among t [] ≡ true → ⊥
nothing_posted t h = cc

module _ {H : Type 0} (digest : H → List ℕ → List ℕ) (hash here : H) (header : Header) (contracts : List Advert) (b : Board)
    (messages : List (List ℕ)) (same : here ≡ hash)
    (opened : IsOpened (setup_with (digest hash) header contracts) b)
    (hashed : Hashed (digest hash) [] messages (opening_strings (setup_with (digest hash) header contracts))) where
  abbrev s : Setup
  s = setup_with (digest hash) header contracts

  adds : (messages ≡ noted_all [] (opening_strings s)) × (opening_collision s ≡ None)
  adds = hashed_adds (digest hash) [] messages (opening_strings s) refl hashed

  at : setup_of (digest here) b ≡ s
  at = ap (λ x. setup_of (digest x) b) same ∙ opened.setup

  world : world_of b messages ≡ opening_world s
  world = ap (world_of b) adds.0 ∙ opened.world

  few_at_start : IsHeader header → length b.coins.outputs ≤ 1000 + 262144 * 0
  few_at_start fine =
      let made = length-made_from holds_nothing (txid s.hash (opening_transaction (opening_outputs s))) 0 (opening_outputs s) in
      let count : length (opening_outputs s) ≡ length s.header.deposits = length_map _ s.header.deposits in
      let there : length b.coins.outputs ≡ length (opening_world s).outputs = ap (λ (w : World). length w.outputs) world in
      omega (arith, made, count, there, fine.few_deposits)

  pub opened_world : (trace : List Record) → trace ≡ [] → HashesBytes (digest hash) → IsHeader header → length contracts ≤ 16
      → IsWorld (setup_of (digest here) b) b messages trace None
  opened_world trace none bytes fine few =
      let setup : IsSetup s = record {
        hash = bytes;
        header = fine;
        few_contracts = few;
        contracts = subst (AllByRecursion IsWellFormed)
            (ap (λ (x : Setup). x.contracts) opened.setup) opened.well_formed;
      } in
      let base : IsWorld s b messages [] None = record {
        setup = setup;
        accounts = opened.accounts;
        known = opened.known;
        compiled = opened.compiled ∙ ap (all_compiled s) (sym world);
        few = few_at_start fine;
        found = λ t h. absurd (nothing_posted t (subst (λ ts. is_among t ts ≡ true) (ap (λ (w : World). w.posted) world) h));
        reached = subst (λ v. IsReached s v []) (sym world) (reached_at_start s adds.1);
        kept = λ h. record {
          config = opening_configuration s;
          books = subst (KeptBooks s (opening_configuration s)) (sym world)
              (opening_keeps s setup adds.1);
        };
        clear = λ h. hashed.clear;
      } in
      subst (λ t. IsWorld (setup_of (digest here) b) b messages t None) (sym none) (subst (λ x. IsWorld x b messages [] None) (sym at) base)

  pub opened_is : (trace : List Record) → trace ≡ []
      → Opens digest hash header contracts
      (record { hasher = here; header = b.header; contracts = b.contracts; world = world_of b messages; trace = trace; halt = None })
  opened_is trace none = record {
    apart = adds.1;
    is = λ i. record {
      hasher = same i;
      header = (opened.setup i).header;
      contracts = (opened.setup i).contracts;
      world = world i;
      trace = none i;
      halt = None;
    };
  }

-- the collision that is shown is that of the opening strings
pub unopened_by : {H : Type 0} (digest : H → List ℕ → List ℕ) (hash : H) (header : Header) (contracts : List Advert)
    (messages : List (List ℕ)) (error : TrailError) (halt : Halt)
    → Stops (digest hash) [] messages (opening_strings (setup_with (digest hash) header contracts)) error
    → IsShown (digest hash) messages error halt → Unopened (setup_with (digest hash) header contracts) halt
unopened_by digest hash header contracts messages errors.Memory halt stops is =
    subst (Unopened (setup_with (digest hash) header contracts)) (sym (is.memory refl))
    (record { collided = λ earlier later x. cc; unguessed = λ party secret x. cc })
unopened_by digest hash header contracts messages errors.Collided halt stops is = record {
  collided = λ earlier later x.
      sym (stopped_shows (digest hash) [] messages (opening_strings (setup_with (digest hash) header contracts)) refl stops).0
      ∙ is.collided earlier later x;
  unguessed = is.unguessed;
}
