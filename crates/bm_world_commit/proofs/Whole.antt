-- The pending effect of a commitment, by what is hashed for its digests and what is left to pending effect then.
use Rattle.std.proofs.Common.{◌≡◌, ℕ, List, [], ◌∷◌, ◌++◌, Option, Some, None, refl, sym, ap, ◌∙◌, subst, append-nil}
use Rattle.std.specs.Prelude.{is_some, if◌then◌else◌}
use Rattle.std.proofs.lemmas.Bool.{not-false}
use Rattle.spec_data.specs.Lists.{first_reason}
use Rattle.spec_data.proofs.ListLemmas.{no_reason-none_true}
use Rattle.spec_run.specs.declared.outcome.Reason.{Reason}
use Rattle.spec_run.specs.declared.outcome.Reason.TheVariants as reason
use Rattle.spec_run.specs.Setup.{Setup, bytes_or_none}
use Rattle.spec_run.specs.World.{Promise, World}
use Rattle.spec_run.specs.Committing.{secrets_at, committed_digests, repeated_digest, commit_row, digest_row, committed_strings, with_promise, committed_pending, commit_pending, strings_compiled}
use Rattle.spec_run.specs.Compiled.{compiled_instance}
use Rattle.spec_run.specs.Advertising.{arranged}
use Rattle.spec_run.specs.Pending.{Pending, done, unless}
use Rattle.bm_hash.specs.declared.messages.TrailError.{TrailError}
use Rattle.bm_hash.specs.Trails.{Hashed, Stops}
use Rattle.bm_hash.proofs.HashesLemmas.{Hashed-then, Stops-then, Stops-first}
use Rattle.bm_compile.specs.Numbered.{Numbered}
use Rattle.bm_match.specs.Matches.{all_compiled}
use Rattle.bm_world_board.specs.declared.pending_change.PendingChange.{PendingChange}
use Rattle.bm_world_board.specs.declared.pending_change.Promising.{Promising}
use Rattle.bm_world_board.specs.declared.pending_change.Change.TheVariants.{Commit}
use Rattle.bm_world_board.specs.Compiling.{placed}
use Rattle.bm_world_board.specs.Prepares.{as_pending, IsReady, Prepares}
use Rattle.bm_world_board.proofs.Refusals.{prepares_passed, stops_passed, passed_by}
use Rattle.bm_world_commit.specs.Committed.{promised, later_pending}
use Rattle.bm_world_commit.specs.Entries.{entry_of}
use Rattle.bm_world_commit.proofs.Others.{placed_all}

module _ (s : Setup) (w : World) (k : ℕ) (party : List ℕ) (digests : List (List ℕ × List ℕ)) where
  abbrev pub row : Option Reason
  row = first_reason (commit_row s w k party digests)

  abbrev strings : List (List ℕ)
  strings = committed_strings s k party

  abbrev next : World
  next = with_promise s w k party digests

  -- the digests' refusal, with these strings hashed before
  abbrev by_digests : Option Reason → List (List ℕ) → Pending
  by_digests o before = unless o w before (committed_pending s next k party before)

  abbrev repeated : Option Reason
  repeated = first_reason (digest_row s w k party digests)

  pub prepares_whole : (v : World) (old mid new : List (List ℕ)) (x : PendingChange) → row ≡ None → Hashed s.hash old mid strings
      → Prepares s.hash v mid new (later_pending s w k party digests) x → Prepares s.hash v old new (commit_pending s w k party digests) x
  prepares_whole v old mid new x passed a d = prepares_passed s.hash v w old new row [] (by_digests repeated strings) x passed (by_case repeated d)
    where
      by_case : (o : Option Reason) → Prepares s.hash v mid new (by_digests o []) x → Prepares s.hash v old new (by_digests o strings) x
      by_case None h =
          let more = strings_compiled s (compiled_instance s next k) in
          record {
            same = ap (λ (y : Pending). record y { hashes = strings ++ more }) h.same;
            hashed = Hashed-then s.hash old mid new
                strings more a h.hashed;
            ready = h.ready;
          }
      by_case (Some r) h = record {
        same = ap (λ (y : Pending). record y { hashes = strings }) h.same;
        hashed = subst (λ l. Hashed s.hash old new l) nothing (Hashed-then s.hash old mid new strings [] a h.hashed);
        ready = h.ready;
      }
        where
          nothing : strings ++ [] ≡ strings
          nothing = append-nil strings

  -- it stops while the digests are made
  pub stops_own : (old new : List (List ℕ)) (e : TrailError) → row ≡ None → Stops s.hash old new strings e
      → Stops s.hash old new ((commit_pending s w k party digests).hashes) e
  stops_own old new e passed h = stops_passed s.hash w old new row [] (by_digests repeated strings) e passed (by_case repeated)
    where
      by_case : (o : Option Reason) → Stops s.hash old new ((by_digests o strings).hashes) e
      by_case None = Stops-first s.hash old new strings (strings_compiled s (compiled_instance s next k)) e h
      by_case (Some r) = h

  -- it stops afterwards
  pub stops_later : (old mid new : List (List ℕ)) (e : TrailError) → row ≡ None → Hashed s.hash old mid strings
      → Stops s.hash mid new ((later_pending s w k party digests).hashes) e → Stops s.hash old new ((commit_pending s w k party digests).hashes) e
  stops_later old mid new e passed a h = stops_passed s.hash w old new row [] (by_digests repeated strings) e passed (by_case repeated h)
    where
      by_case : (o : Option Reason) → Stops s.hash mid new ((by_digests o []).hashes) e → Stops s.hash old new ((by_digests o strings).hashes) e
      by_case None q = Stops-then s.hash old mid new strings (strings_compiled s (compiled_instance s next k)) e a q
      by_case (Some r) q = subst (λ l. Stops s.hash old new l e) nothing (Stops-then s.hash old mid new strings [] e a q)
        where
          nothing : strings ++ [] ≡ strings
          nothing = append-nil strings

  -- the world that is left
  pub world_whole : row ≡ None → (later_pending s w k party digests).world ≡ (commit_pending s w k party digests).world
  world_whole passed = by_case repeated ∙ ap (λ (d : Pending). d.world) (passed_by row w [] (by_digests repeated strings) passed)
    where
      by_case : (o : Option Reason) → (by_digests o []).world ≡ (by_digests o strings).world
      by_case None = refl
      by_case (Some r) = refl

  pub world_refused : (r : Reason) → row ≡ Some r → w ≡ (commit_pending s w k party digests).world
  world_refused r e = sym (ap (λ o. (unless o w [] (by_digests repeated strings)).world) e)

  -- ---- where nothing is hashed before

  -- a digest is repeated
  pub world_repeated : (r : Reason) → repeated ≡ Some r → w ≡ (later_pending s w k party digests).world
  world_repeated r e = sym (ap (λ o. (by_digests o []).world) e)

  pub world_committed : repeated ≡ None → next ≡ (later_pending s w k party digests).world
  world_committed e = sym (ap (λ o. (by_digests o []).world) e)

  -- the name of a digest that is repeated
  pub repeated_some : (name : List ℕ) → repeated_digest s w k party digests ≡ Some name → repeated ≡ Some (reason.HashRepeated name)
  repeated_some name e = ap (λ o. if is_some o then Some (reason.HashRepeated (bytes_or_none o)) else None) e

  pub repeated_none : repeated_digest s w k party digests ≡ None → repeated ≡ None
  repeated_none e = ap (λ o. if is_some o then Some (reason.HashRepeated (bytes_or_none o)) else None) e

  -- the world with the commitment that code makes
  module _ (p : Promising) (contract : p.contract ≡ k)
      (owner : p.party ≡ party) (same : p.digests ≡ arranged [] (secrets_at s k party) (committed_digests s k party digests)) where
    next_is : promised w p ≡ next
    next_is = λ i. record w { promises = w.promises ++ record { contract = contract i; party = owner i; digests = same i } ∷ [] }

    -- it is prepared so
    pub later_ok : (old new : List (List ℕ)) (x : PendingChange) → repeated ≡ None
        → ((v : World) (hashes : List (List ℕ)) → as_pending v hashes x ≡ done (promised v p) hashes) → x.change ≡ Commit p
        → Hashed s.hash old new (strings_compiled s (compiled_instance s (promised w p) k)) → Prepares s.hash w old new (later_pending s w k party digests) x
    later_ok old new x none pending_change change h = prepares_passed s.hash w w old new repeated [] (by_digests None []) x none (record {
      same = pending_change w (strings_compiled s (compiled_instance s next k)) ∙ ap (λ v. done v (strings_compiled s (compiled_instance s next k))) next_is;
      hashed = subst (λ v. Hashed s.hash old new (strings_compiled s (compiled_instance s v k))) next_is h;
      ready = subst (IsReady s.hash w) (sym change) tt;
    })

    pub later_stops : (old new : List (List ℕ)) (e : TrailError) → repeated ≡ None
        → Stops s.hash old new (strings_compiled s (compiled_instance s (promised w p) k)) e
        → Stops s.hash old new ((later_pending s w k party digests).hashes) e
    later_stops old new e none h =
        stops_passed s.hash w old new repeated [] (by_digests None []) e none
        (subst (λ v. Stops s.hash old new (strings_compiled s (compiled_instance s v k)) e) next_is h)

    -- and the contract is placed
    pub later_placed : (compiled : List (Option Numbered)) (entry : Option (ℕ × Numbered)) → row ≡ None → repeated ≡ None → compiled ≡ all_compiled s w
        → entry ≡ entry_of s.hash k (compiled_instance s (promised w p) k) → placed entry compiled ≡ all_compiled s (later_pending s w k party digests).world
    later_placed compiled entry passed none all e =
        let tests = no_reason-none_true (commit_row s w k party digests) passed in
        let new : Promise = record { contract = k; party = party; digests = arranged [] (secrets_at s k party) (committed_digests s k party digests) } in
        let whole = placed_all s w new (not-false _ tests.1.1.0) tests.1.1.1.0 in
        (λ i. placed ((e ∙ ap (λ v. entry_of s.hash k (compiled_instance s v k)) next_is) i) (all i)) ∙ whole ∙ ap (all_compiled s) (world_committed none)
