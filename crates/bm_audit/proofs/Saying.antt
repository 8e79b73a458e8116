-- What the ledger says of a transaction reads nothing of the messages that were hashed.
use Rattle.std.proofs.Common.{◌≡◌, ℕ, List, [], ◌∷◌, ◌++◌, map, Option, Some, None, refl, sym, ap, ◌∙◌, append_assoc}
use Rattle.std.specs.Prelude.{slice_get}
use Rattle.std.specs.List.{flat_map}
use Rattle.spec_bitcoin.specs.declared.tx.Tx.{Tx}
use Rattle.spec_bitcoin.specs.declared.verdict.Refusal.{Refusal}
use Rattle.spec_bitcoin.specs.Verdict.{refusal_of, spent_number, verdict_for}
use Rattle.spec_run.specs.Setup.{Setup}
use Rattle.spec_run.specs.World.{ContractPosition, World, live_position}
use Rattle.spec_run.specs.Ledger.{live_from, chain_of, kind_by, kind_of, initial_of, first_number, first_position, first_witness}
use Rattle.spec_run.specs.Ledger.{branch_count}
use Rattle.spec_compiler.specs.Witness.{chosen_by}
use Rattle.spec_tool.specs.declared.finding.Now.{Now}
use Rattle.spec_tool.specs.declared.finding.Now.TheVariants as nows
use Rattle.spec_tool.specs.declared.finding.Kind.TheVariants as kinds
use Rattle.spec_tool.specs.Audit.{Given, empty, not_hex, bad, read, onto_given, now_of, now_for, now_by}
use Rattle.bm_audit_listed.specs.declared.entries.Candidate.{Candidate}
use Rattle.bm_audit_listed.specs.Parts.{names_of}
use Rattle.bm_world.specs.Playing.{Played, setup_in}
use Rattle.bm_world_heard.specs.Heard.{Hears}
use Rattle.bm_audit.specs.Found.{kind_said, given_strings}
use Rattle.bm_world_heard.proofs.Hearing.{setup_same}

now_hearing : (s : Setup) (w : World) (h : List (List ℕ)) (tx : Tx) → now_of s (record w { hashed = h }) tx ≡ now_of s w tx
now_hearing s w h tx = refl

kind_hearing : (s : Setup) (w : World) (h : List (List ℕ)) (cs : List Candidate) (g : Given)
    → kind_said s (record w { hashed = h }) cs g ≡ kind_said s w cs g
kind_hearing s w h cs empty = refl
kind_hearing s w h cs not_hex = refl
kind_hearing s w h cs (bad place) = refl
kind_hearing s w h cs (read tx) = ap (λ (now : Now). Some (kinds.Read (names_of cs tx) now)) (now_hearing s w h tx)

module _ {H : Type 0} (digest : H → List ℕ → List ℕ) (old mid : Played H) (hashed : List (List ℕ)) (h : Hears old mid hashed) where
  abbrev s : Setup
  s = setup_in digest old

  same : setup_in digest mid ≡ s
  same = setup_same digest old mid h.setup

  pub refusal_later : (tx : Tx)
      → refusal_of (setup_in digest mid).hash mid.world.book mid.world.tip (live_from 0 mid.world.outputs) tx
      ≡ refusal_of s.hash old.world.book old.world.tip (live_from 0 old.world.outputs) tx
  refusal_later tx = λ i. refusal_of ((same i).hash) ((h.world i).book) ((h.world i).tip) (live_from 0 (h.world i).outputs) tx

  pub now_later : (tx : Tx) → now_of (setup_in digest mid) mid.world tx ≡ now_of s old.world tx
  now_later tx = (λ i. now_of (same i) (h.world i) tx) ∙ now_hearing s old.world hashed tx

  pub kind_later : (cs : List Candidate) (g : Given) → kind_said (setup_in digest mid) mid.world cs g ≡ kind_said s old.world cs g
  kind_later cs g = (λ i. kind_said (same i) (h.world i) cs g) ∙ kind_hearing s old.world hashed cs g

  pub strings_later : (g : Given) → given_strings (setup_in digest mid) mid.world g ≡ given_strings s old.world g
  strings_later g = λ i. given_strings (same i) (h.world i) g

-- ---- what is said of a transaction

pub now_accepted : (s : Setup) (w : World) (tx : Tx) (o : Option Refusal) (now : Now)
    → o ≡ refusal_of s.hash w.book w.tip (live_from 0 w.outputs) tx → now ≡ now_for s w tx (verdict_for (chain_of w) tx o) → now ≡ now_of s w tx
now_accepted s w tx o now e h = h ∙ ap (λ (r : Option Refusal). now_for s w tx (verdict_for (chain_of w) tx r)) e

-- ---- the strings of a line and those after it

pub onto_split : (f : Tx → List (List ℕ)) (g : Given) (later : List Tx)
    → flat_map f (onto_given g later) ≡ flat_map f (onto_given g []) ++ flat_map f later
onto_split f empty later = refl
onto_split f not_hex later = refl
onto_split f (bad place) later = refl
onto_split f (read tx) later = sym (append_assoc (f tx) [] (flat_map f later))

-- ---- what an accepted transaction is

pub now_taken : (s : Setup) (tx : Tx) (spent : List ℕ) (number count : ℕ) (held : ContractPosition) (o : Option ContractPosition)
    → Some held ≡ o → first_number spent ≡ number → count ≡ branch_count s held
    → nows.Branch number (chosen_by count (first_witness tx.inputs)) ≡ now_by (kind_by s tx spent None o)
now_taken s tx spent number count held o h n c =
    (λ i. nows.Branch (sym n i) (chosen_by (c i) (first_witness tx.inputs))) ∙ ap (λ (p : Option ContractPosition). now_by (kind_by s tx spent None p)) h

pub now_untaken : (s : Setup) (tx : Tx) (spent : List ℕ) (o : Option ContractPosition) → None ≡ o → nows.Move ≡ now_by (kind_by s tx spent None o)
now_untaken s tx spent o h = ap (λ (p : Option ContractPosition). now_by (kind_by s tx spent None p)) h

pub now_begun : (s : Setup) (w : World) (tx : Tx) (spent : List ℕ) (contract : ℕ) → Some contract ≡ initial_of s w tx
    → nows.Init contract ≡ now_by (kind_of s w tx spent)
now_begun s w tx spent contract h = ap (λ (o : Option ℕ). now_by (kind_by s tx spent o (first_position w spent))) h

pub now_other : (s : Setup) (w : World) (tx : Tx) (spent : List ℕ) → None ≡ initial_of s w tx
    → now_by (kind_by s tx spent None (first_position w spent)) ≡ now_by (kind_of s w tx spent)
now_other s w tx spent h = ap (λ (o : Option ℕ). now_by (kind_by s tx spent o (first_position w spent))) h

pub first_some : (w : World) (spent : List ℕ) (number : ℕ) → Some number ≡ slice_get spent 0
    → (first_number spent ≡ number) × (live_position (slice_get w.outputs number) ≡ first_position w spent)
first_some w [] number h = absurd cc
first_some w (n ∷ ns) number h =
    let e : n ≡ number = cc in
    (e, ap (λ (k : ℕ). live_position (slice_get w.outputs k)) (sym e))

pub first_none : (w : World) (spent : List ℕ) → None ≡ slice_get spent 0 → None ≡ first_position w spent
first_none w [] h = refl
first_none w (n ∷ ns) h = absurd cc

pub now_spending : (s : Setup) (w : World) (tx : Tx) (spent : List ℕ) (o : Option Refusal)
    → o ≡ refusal_of s.hash w.book w.tip (live_from 0 w.outputs) tx → o ≡ None
    → spent ≡ map (spent_number (live_from 0 w.outputs)) tx.inputs → now_by (kind_of s w tx spent) ≡ now_of s w tx
now_spending s w tx spent o e none numbers =
    ap (λ (ns : List ℕ). now_by (kind_of s w tx ns)) numbers
    ∙ ap (λ (r : Option Refusal). now_for s w tx (verdict_for (chain_of w) tx r)) (sym none ∙ e)
