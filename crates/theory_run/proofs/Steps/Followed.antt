-- The steps of an accepted transaction with what it reveals, and what configuration and world agree on after them.
use Rattle.std.proofs.Common.{◌≡◌, ℕ, zero, suc, ◌≤◌, List, [], ◌∷◌, ◌++◌, length, map, Bool, true, false, Option, Some, None, refl, sym, ap, ◌∙◌, subst}
use Rattle.std.specs.Prelude.{slice_get, if◌then◌else◌, option_map}
use Rattle.std.specs.List.{list_all}
use Rattle.std.proofs.lemmas.Bool.{and_from}
use Rattle.spec_data.specs.Lists.{is_among}
use Rattle.spec_terms.specs.Term as term
use Rattle.spec_terms.specs.Term.{Contract}
use Rattle.spec_compiler.specs.Transactions.{Standing}
use Rattle.spec_bitcoin.specs.Live.{same_outpoint}
use Rattle.spec_bitcoin.specs.declared.tx.Tx.{Tx}
use Rattle.spec_bitcoin.specs.Digests.{txid}
use Rattle.spec_calculus.specs.declared.parts.Revealed.{Revealed}
use Rattle.spec_calculus.specs.Configuration.{Configuration}
use Rattle.spec_calculus.specs.Steps.{after_steps, Legal}
use Rattle.spec_run.specs.Setup.{Setup, people_at}
use Rattle.spec_run.specs.World.{ContractPosition, Output, World}
use Rattle.spec_run.specs.Compiled.{compiled_instance}
use Rattle.spec_run.specs.Conditions.{HashesBytes}
use Rattle.spec_run.specs.Ledger.{spend_from, made_from, position_branch, items_of, Kind, Begins, Takes, Moves, kind_of, new_position}
use Rattle.spec_run.specs.Secrets.{shown, newly_shown}
use Rattle.spec_run.specs.Steps.{reveals, branch_steps, kind_steps, accepted_steps}
use Rattle.spec_run.specs.Agreement.{committed_pair, compiled_outpoint, is_outpoint, is_placed, is_placed_by, Agree}
use Rattle.theory_world.specs.Transactions.{IsNumbered}
use Rattle.theory_world.proofs.Same.{place_refl}
use Rattle.theory_world.proofs.Tests.{map_map}
use Rattle.theory_world.specs.KeptApart.{NoCollision}
use Rattle.theory_run.specs.KeptSecrets.{has_secret, KeptSecrets, committed_by}
use Rattle.theory_run.proofs.Facts.Secrets.{after-reveals}
use Rattle.theory_run.proofs.Steps.Legal.{after-append, legal_append}
use Rattle.theory_run.specs.Tracks.{AgreeOnMoney, Constant}
use Rattle.theory_run.proofs.Facts.KeptSecrets.{Begins as BeginsWith}
use Rattle.theory_world.proofs.Ledger.Accepting.{Accepting, HeardAll}
use Rattle.theory_run.specs.KeptBook.{KeptBook}
use Rattle.theory_run.proofs.Accepted.Spending.{TransactionsFit, Checked}
use Rattle.theory_run.proofs.Steps.Beginnings.{StepFrame}
use Rattle.theory_run.specs.KeptPromises.{PromisesNamed}
use Rattle.theory_run.proofs.Steps.Lawful.{IsLawful, lawful}

-- ---- agreement

-- live contract outputs lie where they were compiled to
module _ (s : Setup) (g : Configuration) (w : World) (kept : KeptBook s g w) where
  one_placed : (n : ℕ) (o : Output) → slice_get w.outputs n ≡ Some o → is_placed s w o ≡ true
  one_placed n o there = by_live o.live o.holds refl
    where
      by_live : (b : Bool) (p : Option ContractPosition) → o.holds ≡ p → is_placed_by s w o.outpoint (if b then p else None) ≡ true
      by_live true None e = refl
      by_live false p e = refl
      by_live true (Some h) e =
          let hf = kept.held n o h there e in
          let c : compiled_outpoint s (compiled_instance s w h.contract) h.position ≡ Some hf.here.output.outpoint =
          ap (λ x. compiled_outpoint s x h.position) hf.compiled ∙ ap (option_map (λ (p : Standing × Contract). p.0.output.outpoint)) hf.stands in
          ap (is_outpoint o.outpoint) c ∙ subst (λ p. same_outpoint o.outpoint p ≡ true) hf.outpoint (place_refl o.outpoint)

  each_placed : (os : List Output) → ((n : ℕ) (o : Output) → slice_get os n ≡ Some o → is_placed s w o ≡ true) → list_all (is_placed s w) os ≡ true
  each_placed [] h = refl
  each_placed (o ∷ os) h = and_from _ _ (h zero o refl) (each_placed os (λ n x e. h (suc n) x e))

  pub all_placed : list_all (is_placed s w) w.outputs ≡ true
  all_placed = each_placed w.outputs one_placed

  -- what is kept of money, contracts and secrets is all that configuration and world agree on
  pub agree_all : (z : List (List ℕ)) → AgreeOnMoney s g w → KeptSecrets s z g w → g.advertised ≡ w.advertised → Agree s g w
  agree_all z money secrets advertised = record {
    time = money.time;
    next = money.next;
    deposits = money.deposits;
    active = money.active;
    placed = all_placed;
    revealed = λ x. secrets.revealed x;
    advertised = advertised;
    committed = ap (map committed_pair) secrets.lengths ∙ map_map committed_pair (committed_by s z) w.promises;
  }

-- ---- what contract steps leave

pub constant_after : (s : Setup) (c d : Configuration) → StepFrame c d → Constant s c → Constant s d
constant_after s c d f k = record { parties = f.parties ∙ k.parties; honest = f.honest ∙ k.honest; contracts = f.contracts ∙ k.contracts }

pub secrets_after : (s : Setup) (z : List (List ℕ)) (c d : Configuration) (w : World) → StepFrame c d → KeptSecrets s z c w → KeptSecrets s z d w
secrets_after s z c d w f k = record {
  lengths = f.committed ∙ k.lengths;
  revealed = λ x. subst (λ rs. has_secret x rs ≡ shown s w x) (sym f.revealed) (k.revealed x);
  known = k.known;
  own = k.own;
  clear = k.clear;
  heard = k.heard;
  once = k.once;
  early = k.early;
  full = k.full;
}

-- ---- with what it reveals

-- what is revealed doesn't change the steps of a kind
branch_same : (g : Configuration) (rs : List Revealed) (people : List (List ℕ)) (n i : ℕ) (o : Option term.Guarded)
    → branch_steps (record g { revealed = rs }) people n i o ≡ branch_steps g people n i o
branch_same g rs people n i None = refl
branch_same g rs people n i (Some b) = refl

kind_same : (s : Setup) (g : Configuration) (rs : List Revealed) (w : World) (tx : Tx) (spent : List ℕ) (k : Kind)
    → kind_steps s (record g { revealed = rs }) w tx spent k ≡ kind_steps s g w tx spent k
kind_same s g rs w tx spent (Begins k) = refl
kind_same s g rs w tx spent (Takes h n i) = branch_same g rs (people_at s h.contract) n i (position_branch s h i)
kind_same s g rs w tx spent Moves = refl

module _ (s : Setup) (size : HashesBytes s.hash) (few_contracts : length s.contracts ≤ 16) (g : Configuration) (w : World)
    (kept : KeptBook s g w) (fit : TransactionsFit s w) (check : Checked s w) (hs : List (List ℕ)) (clear : NoCollision s.hash hs)
    (sub : (t : List ℕ) → is_among t w.hashed ≡ true → is_among t hs ≡ true)
    (tx : Tx) (fits : IsNumbered tx) (spent : List ℕ) (acc : Accepting s w tx spent) (all : HeardAll s w hs tx)
    (con : Constant s g) (money : AgreeOnMoney s g w) (advertised : g.advertised ≡ w.advertised)
    (z : List (List ℕ)) (next : World) (secrets : KeptSecrets s z (record g { revealed = g.revealed ++ newly_shown s w next }) next)
    (begins : BeginsWith z next.posted) (named : PromisesNamed s next.promises) (promises : next.promises ≡ w.promises)
    (posts : (u : List ℕ) → is_among u (items_of tx) ≡ true → is_among u next.posted ≡ true)
    (shows : Legal g (reveals s w next)) where
  abbrev mid : Configuration
  mid = record g { revealed = g.revealed ++ newly_shown s w next }

  abbrev kind : Kind
  kind = kind_of s w tx spent

  mid_constant : Constant s mid
  mid_constant = record { parties = con.parties; honest = con.honest; contracts = con.contracts }

  mid_money : AgreeOnMoney s mid w
  mid_money = record { time = money.time; next = money.next; deposits = money.deposits; active = money.active; moves = money.moves }

  does : IsLawful s size few_contracts g w kept fit check hs clear sub tx fits spent acc all mid mid_constant mid_money advertised (kind_of s w tx spent)
  does = lawful s size few_contracts g w kept fit check hs clear sub tx fits spent acc all mid mid_constant mid_money advertised z next
      secrets begins named promises posts

  revealed_is : after_steps g (reveals s w next) ≡ mid
  revealed_is = after-reveals (newly_shown s w next) g

  same : kind_steps s mid w tx spent (kind_of s w tx spent) ≡ kind_steps s g w tx spent (kind_of s w tx spent)
  same = kind_same s g (g.revealed ++ newly_shown s w next) w tx spent (kind_of s w tx spent)

  -- what the event reveals and what its transaction does are legal
  pub accepted_legal : Legal g (accepted_steps s g w next spent (Some tx))
  accepted_legal =
      let l : Legal mid (kind_steps s g w tx spent (kind_of s w tx spent)) = subst (Legal mid) same does.legal in
      legal_append g (reveals s w next) (kind_steps s g w tx spent (kind_of s w tx spent)) shows
      (subst (λ d. Legal d (kind_steps s g w tx spent (kind_of s w tx spent))) (sym revealed_is) l)

  -- and end where the kind's steps end
  pub accepted_ends : after_steps g (accepted_steps s g w next spent (Some tx))
      ≡ after_steps (record g { revealed = g.revealed ++ newly_shown s w next })
      (kind_steps s (record g { revealed = g.revealed ++ newly_shown s w next }) w tx spent (kind_of s w tx spent))
  accepted_ends =
      after-append g (reveals s w next) (kind_steps s g w tx spent (kind_of s w tx spent))
      ∙ ap (λ d. after_steps d (kind_steps s g w tx spent (kind_of s w tx spent))) revealed_is ∙ ap (after_steps mid) (sym same)

  pub accepted_frame : StepFrame (record g { revealed = g.revealed ++ newly_shown s w next }) (after_steps g (accepted_steps s g w next spent (Some tx)))
  accepted_frame = subst (StepFrame mid) (sym accepted_ends) does.frame

  pub accepted_money : next.tip ≡ w.tip → next.outputs ≡ spend_from 0 spent w.outputs
      ++ made_from (new_position s (kind_of s w tx spent)) (txid s.hash tx) 0 tx.outputs
      → AgreeOnMoney s (after_steps g (accepted_steps s g w next spent (Some tx))) next
  accepted_money tips outs = subst (λ d. AgreeOnMoney s d next) (sym accepted_ends) (does.agrees next tips outs)

  pub accepted_secrets : KeptSecrets s z (after_steps g (accepted_steps s g w next spent (Some tx))) next
  accepted_secrets = secrets_after s z mid (after_steps g (accepted_steps s g w next spent (Some tx))) next accepted_frame secrets

  pub accepted_constant : Constant s (after_steps g (accepted_steps s g w next spent (Some tx)))
  accepted_constant = constant_after s mid (after_steps g (accepted_steps s g w next spent (Some tx))) accepted_frame mid_constant

  -- configuration and world agree on all after it
  pub accepted_agrees : KeptBook s (after_steps g (accepted_steps s g w next spent (Some tx))) next → next.tip ≡ w.tip → next.outputs
      ≡ spend_from 0 spent w.outputs ++ made_from (new_position s (kind_of s w tx spent)) (txid s.hash tx) 0 tx.outputs → next.advertised ≡ w.advertised
      → Agree s (after_steps g (accepted_steps s g w next spent (Some tx))) next
  accepted_agrees book tips outs same_adverts =
      agree_all s (after_steps g (accepted_steps s g w next spent (Some tx))) next book z (accepted_money tips outs) accepted_secrets
      (accepted_frame.advertised ∙ advertised ∙ sym same_adverts)
