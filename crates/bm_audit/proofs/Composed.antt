-- Lines that are read one after another.
use Rattle.std.proofs.Common.{◌≡◌, ℕ, suc, ◌+◌, List, [], ◌∷◌, ◌++◌, length, true, Option, Some, None, refl, sym, ap, subst, ◌∙◌, arith}
use Rattle.std.proofs.Common.{append_assoc, append-nil}
use Rattle.std.specs.Prelude.{◌==◌}
use Rattle.spec_data.specs.Messages.{noted_all}
use Rattle.spec_bitcoin.specs.declared.tx.Tx.{Tx}
use Rattle.spec_bitcoin.specs.declared.verdict.Refusal.{Refusal}
use Rattle.spec_bitcoin.specs.Verdict.{refusal_of}
use Rattle.spec_run.specs.Setup.{Setup}
use Rattle.spec_run.specs.World.{World}
use Rattle.spec_run.specs.Ledger.{live_from, strings_of}
use Rattle.spec_text.specs.Lines.{lines_of}
use Rattle.spec_tool.specs.declared.finding.Kind.{Kind}
use Rattle.spec_tool.specs.declared.finding.Kind.TheVariants as kinds
use Rattle.spec_tool.specs.declared.finding.Finding.{Finding}
use Rattle.spec_tool.specs.Audit.{Given, read, given_line, given_transactions, finding}
use Rattle.bm_audit_listed.specs.declared.entries.Candidate.{Candidate}
use Rattle.bm_audit_listed.specs.Parts.{names_of}
use Rattle.bm_world.specs.declared.halt.Halt.{Halt}
use Rattle.bm_world.specs.Playing.{Played, setup_in, Judged}
use Rattle.bm_world_heard.specs.Heard.{Hears, Stopped, Calm}
use Rattle.bm_audit.specs.Found.{given_strings, lines_strings, text_strings, read_kind, kind_said, onto_found, found_from}
use Rattle.bm_audit.specs.Found.{Reads, Takes, Adds, Finds, Midway}
use Rattle.bm_world_heard.proofs.Hearing.{hears_only, calm_none, reach_none, reach_more, reach_stopped, reach_end}
use Rattle.bm_audit.proofs.Saying.{refusal_later, now_later, kind_later, strings_later, onto_split}

module _ {H : Type 0} (digest : H → List ℕ → List ℕ) where
  -- ---- one line

  -- the strings of a transaction's line are the transaction's
  line_strings : (old : Played H) (tx : Tx) (given : Given) → read tx ≡ given
      → strings_of (setup_in digest old) old.world tx ≡ given_strings (setup_in digest old) old.world given
  line_strings old tx given e =
      sym (append-nil (strings_of (setup_in digest old) old.world tx)) ∙ ap (given_strings (setup_in digest old) old.world) e

  pub takes_read : (old new : Played H) (cs : List Candidate) (tx : Tx) (given : Given) (kind : Kind) → read tx ≡ given
      → Reads digest old new cs tx kind → Takes digest old new cs given (Some kind)
  takes_read old new cs tx given kind e h = record {
    calm = subst (Calm digest old new) (line_strings old tx given e) h.calm;
    said = ap Some h.said ∙ ap (kind_said (setup_in digest old) old.world cs) e;
  }

  pub stopped_read : (old new : Played H) (tx : Tx) (given : Given) (halt : Halt) → read tx ≡ given
      → Stopped digest old new (strings_of (setup_in digest old) old.world tx) halt
      → Stopped digest old new (given_strings (setup_in digest old) old.world given) halt
  stopped_read old new tx given halt e h = subst (λ (xs : List (List ℕ)). Stopped digest old new xs halt) (line_strings old tx given e) h

  -- a line that is no transaction
  pub takes_quiet : (old : Played H) (cs : List Candidate) (line given : Given) (kind : Option Kind) → line ≡ given
      → given_strings (setup_in digest old) old.world line ≡ [] → kind ≡ kind_said (setup_in digest old) old.world cs line
      → Takes digest old old cs given kind
  takes_quiet old cs line given kind e none said =
      subst (λ (g : Given). Takes digest old old cs g kind) e
      (record { calm = subst (Calm digest old old) (sym none) (calm_none digest old); said = said })

  -- what is said of it is added
  pub adds_some : (old new : Played H) (cs : List Candidate) (given : Given) (n : ℕ) (before later : List Finding) (o : Option Kind) (kind : Kind)
      → o ≡ Some kind → Takes digest old new cs given o → later ≡ before ++ finding n kind ∷ [] → Adds digest old new cs given n before later
  adds_some old new cs given n before later o kind is h more = record {
    calm = h.calm;
    added = more ∙ ap (λ (x : Option Kind). before ++ onto_found n x []) (sym is ∙ h.said);
  }

  pub adds_none : (old new : Played H) (cs : List Candidate) (given : Given) (n : ℕ) (before : List Finding) (o : Option Kind) → o ≡ None
      → Takes digest old new cs given o → Adds digest old new cs given n before before
  adds_none old new cs given n before o is h = record {
    calm = h.calm;
    added = sym (append-nil before) ∙ ap (λ (x : Option Kind). before ++ onto_found n x []) (sym is ∙ h.said);
  }

  -- ---- the lines of a text

  pub begin : (old : Played H) (cs : List Candidate) (text : List ℕ) → Midway digest old old cs text text 1 []
  begin old cs text = record { reach = reach_none digest old _; found = refl }

  module _ (old mid new : Played H) (cs : List Candidate) (text rest prefix more : List ℕ) (line : ℕ) (before : List Finding)
      (m : Midway digest old mid cs text rest line before) (cut : lines_of rest ≡ prefix ∷ lines_of more) where
    abbrev s : Setup
    s = setup_in digest old

    abbrev w : World
    w = old.world

    abbrev given : Given
    given = given_line prefix

    -- the strings of the line, and those of the lines after it
    strings_cut : text_strings s w rest ≡ given_strings s w given ++ text_strings s w more
    strings_cut =
        ap (lines_strings s w) cut ∙ onto_split (strings_of s w) given (given_transactions (lines_of more))

    same_strings : given_strings (setup_in digest mid) mid.world given ≡ given_strings s w given
    same_strings = strings_later digest old mid mid.world.hashed m.reach.hears given

    later_found : (o : Option Kind) (later : List Finding) → (before ++ onto_found line o []) ++ later ≡ before ++ onto_found line o later
    later_found None later = append_assoc before [] later
    later_found (Some kind) later = append_assoc before (finding line kind ∷ []) later

    pub midway_more : (after : List Finding) → Adds digest mid new cs given line before after → Midway digest old new cs text more (line + 1) after
    midway_more after h =
        let told = kind_later digest old mid mid.world.hashed m.reach.hears cs given in
        record {
          reach = reach_more digest old mid new _ _ _ _ _ m.reach strings_cut same_strings h.calm;
          found =
              ap (λ (fs : List Finding). fs ++ found_from s w cs (line + 1) (lines_of more)) h.added
              ∙ later_found (kind_said (setup_in digest mid) mid.world cs given) (found_from s w cs (line + 1) (lines_of more))
              ∙ ap (λ (o : Option Kind). before ++ onto_found line o (found_from s w cs (line + 1) (lines_of more))) told
              ∙ ap (λ (ls : List (List ℕ)). before ++ found_from s w cs line ls) (sym cut)
              ∙ m.found;
        }

    pub stopped_midway : (halt : Halt) → Stopped digest mid new (given_strings (setup_in digest mid) mid.world given) halt
        → Stopped digest old new (text_strings s w text) halt
    stopped_midway halt h = reach_stopped digest old mid new _ _ _ _ _ m.reach strings_cut same_strings halt h

  -- after the last line
  pub ends : (old new : Played H) (cs : List Candidate) (text rest : List ℕ) (line : ℕ) (findings : List Finding) → rest ≡ []
      → Midway digest old new cs text rest line findings → Finds digest old new cs text findings
  ends old new cs text rest line findings e m =
      let s = setup_in digest old in
      let w = old.world in
      let n : Midway digest old new cs text [] line findings = subst (λ (x : List ℕ). Midway digest old new cs text x line findings) e m in
      record {
        calm = reach_end digest old new _ n.reach;
        found = sym (append-nil findings) ∙ n.found;
      }

-- ---- a transaction that was judged

module _ {H : Type 0} (digest : H → List ℕ → List ℕ) (old new : Played H) (cs : List Candidate) (tx : Tx) (refusal : Option Refusal)
    (judged : Judged digest old new tx refusal) where
  abbrev heard : List (List ℕ)
  heard = noted_all old.world.hashed (strings_of (setup_in digest old) old.world tx)

  pub hears_judged : Hears old new heard
  hears_judged = hears_only digest old new heard judged.hears

  pub refusal_there : refusal
      ≡ refusal_of (setup_in digest new).hash new.world.book new.world.tip (live_from 0 new.world.outputs) tx
  refusal_there = judged.refusal ∙ sym (refusal_later digest old new heard hears_judged tx)

  pub reads_by : (kind : Kind) → kind ≡ read_kind (setup_in digest new) new.world cs tx → Reads digest old new cs tx kind
  reads_by kind h = record {
    calm = record { hears = hears_judged; calm = judged.calm };
    said = h ∙ ap (kinds.Read (names_of cs tx)) (now_later digest old new heard hears_judged tx);
  }

-- ---- the loop over the lines

module _ {H : Type 0} (digest : H → List ℕ → List ℕ) where
  -- by the number of the next line
  pub midway_next : (old mid new : Played H) (cs : List Candidate) (text rest prefix more : List ℕ) (line : ℕ) (before : List Finding)
      → Midway digest old mid cs text rest line before → lines_of rest ≡ prefix ∷ lines_of more → (after : List Finding) (next : ℕ)
      → next ≡ line + 1 → Adds digest mid new cs (given_line prefix) line before after → Midway digest old new cs text more next after
  midway_next old mid new cs text rest prefix more line before m cut after next e h =
      subst (λ (n : ℕ). Midway digest old new cs text more n after) (sym e)
      (midway_more digest old mid new cs text rest prefix more line before m cut after h)

  pub begin_with : (old : Played H) (cs : List Candidate) (text : List ℕ) (findings : List Finding) → findings ≡ []
      → Midway digest old old cs text text 1 findings
  begin_with old cs text findings e = subst (λ (fs : List Finding). Midway digest old old cs text text 1 fs) (sym e) (begin digest old cs text)

  nothing_left : (xs : List ℕ) → (length xs == 0) ≡ true → xs ≡ []
  nothing_left [] h = refl
  nothing_left (x ∷ xs) h = absurd (apart (length xs) h)
    where
      apart : (n : ℕ) → (suc n == 0) ≡ true → ⊥
      apart n q = grind arith

  pub ends_empty : (old new : Played H) (cs : List Candidate) (text rest : List ℕ) (line : ℕ) (findings : List Finding)
      → (length rest == 0) ≡ true → Midway digest old new cs text rest line findings → Finds digest old new cs text findings
  ends_empty old new cs text rest line findings e m = ends digest old new cs text rest line findings (nothing_left rest e) m
