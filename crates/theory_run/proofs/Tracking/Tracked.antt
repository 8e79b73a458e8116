-- The configuration tracks the world, and events that hardly change it: what is refused, what is endorsed, signed at will or waited for.
use Rattle.std.proofs.Common.{◌≡◌, ℕ, ◌+◌, ◌≤◌, List, [], ◌∷◌, ◌++◌, true, Option, Some, None, refl, ap, ◌∙◌}
use Rattle.std.proofs.lemmas.Bool.{not-false, le-leb}
use Rattle.std.specs.Prelude.{nat_le}
use Rattle.spec_data.specs.Lists.{first_reason}
use Rattle.spec_data.specs.Ranges.{last_height}
use Rattle.spec_data.proofs.ListLemmas.{no_reason-none_true}
use Rattle.spec_bitcoin.specs.declared.label.Label.{Label}
use Rattle.spec_bitcoin.specs.Keys.{Pair, key_of, label_text}
use Rattle.spec_calculus.specs.declared.parts.InitAuthorisation.{InitAuthorisation}
use Rattle.spec_calculus.specs.declared.parts.BranchAuthorisation.{BranchAuthorisation}
use Rattle.spec_calculus.specs.declared.step.Step.TheVariants as steps
use Rattle.spec_calculus.specs.Configuration.{Configuration}
use Rattle.spec_calculus.specs.Steps.{after_steps, Legal}
use Rattle.spec_run.specs.declared.event.Event.{Event}
use Rattle.spec_run.specs.declared.event.Event.TheVariants as events
use Rattle.spec_run.specs.declared.outcome.Reason.{Reason}
use Rattle.spec_run.specs.Setup.{Setup}
use Rattle.spec_data.specs.Messages.{noted_all, collision}
use Rattle.spec_run.specs.World.{World}
use Rattle.spec_run.specs.Compiled.{compiled_instance}
use Rattle.spec_run.specs.Pending.{Pending, done, refused, unless, applied, guess}
use Rattle.spec_run.specs.Secrets.{all_secrets}
use Rattle.spec_run.specs.Signing.{with_pairs, endorsing_pairs, endorse_row, endorse_pending, sign_row, sign_pending}
use Rattle.spec_run.specs.Event.{mine_row, mine_pending}
use Rattle.spec_run.specs.Steps.{steps_of}
use Rattle.theory_run.proofs.Facts.Secrets.{different_secrets}
use Rattle.theory_run.proofs.Steps.Legal.{passes}
use Rattle.theory_run.specs.Tracks.{AgreeOnMoney, Constant, Tracks}
use Rattle.theory_run.specs.KeptSecrets.{KeptSecrets}
use Rattle.theory_run.proofs.Facts.KeptSecrets.{Begins}
use Rattle.theory_run.proofs.Facts.Posting.{quiet}

-- what an event does where nothing collides and nothing is guessed: its steps are legal, and the configuration still tracks the world
pub record IsTracked (s : Setup) (z : List (List ℕ)) (g : Configuration) (w : World) (e : Event) (d : Pending) : Type 0 where
  pub legal : Legal g (steps_of s z g w (applied w d) e d)
  pub tracks : Tracks s z (after_steps g (steps_of s z g w (applied w d) e d)) (applied w d)

-- the event comes to this pending effect, in a run that posts these strings
abbrev pub Tracked : Setup → List (List ℕ) → Configuration → World → Event → Pending → Type 0
Tracked s z g w e d =
    collision s.hash w.hashed d.hashes ≡ None → guess s w.posted d.posts d.allowed ≡ None → Begins z (applied w d).posted → IsTracked s z g w e d

module _ (s : Setup) (z : List (List ℕ)) (apart : different_secrets (all_secrets s) ≡ true) (g : Configuration) (w : World) (tracks : Tracks s z g w) where
  -- authorisations, the height and the book may change
  pub still : (inits : List InitAuthorisation) (asked : List BranchAuthorisation) (time tip : ℕ) (book : List Pair) (hashes : List (List ℕ))
      → time ≡ tip → collision s.hash w.hashed hashes ≡ None
      → Tracks s z (record g { time = time; init_authorised = inits; branch_authorised = asked })
      (record w { tip = tip; book = book; hashed = noted_all w.hashed hashes; posted = w.posted ++ [] })
  still inits asked time tip book hashes e clear = record {
    money = record { time = e; next = tracks.money.next; deposits = tracks.money.deposits; active = tracks.money.active; moves = tracks.money.moves };
    secrets = quiet s z apart g (record g { time = time; init_authorised = inits; branch_authorised = asked }) w
        (record w { tip = tip; book = book; hashed = noted_all w.hashed hashes; posted = w.posted ++ [] }) hashes tracks.secrets refl refl refl refl refl clear;
    constant = record { parties = tracks.constant.parties; honest = tracks.constant.honest; contracts = tracks.constant.contracts };
    advertised = tracks.advertised;
  }

  -- nothing but the book changes
  pub unmoved : (book : List Pair) (hashes : List (List ℕ)) → collision s.hash w.hashed hashes ≡ None
      → Tracks s z g (record w { book = book; hashed = noted_all w.hashed hashes; posted = w.posted ++ [] })
  unmoved book hashes clear = still g.init_authorised g.branch_authorised g.time w.tip book hashes tracks.money.time clear

  pub refused_tracked : (e : Event) (hashes : List (List ℕ)) (r : Reason) → Tracked s z g w e (refused w hashes r)
  refused_tracked e hashes r clear unguessed begins = record { legal = tt; tracks = unmoved w.book hashes clear }

  pub unless_tracked : (e : Event) (r : Option Reason) (hashes : List (List ℕ)) (d : Pending) → (r ≡ None → Tracked s z g w e d)
      → Tracked s z g w e (unless r w hashes d)
  unless_tracked e None hashes d h = h refl
  unless_tracked e (Some r) hashes d h = refused_tracked e hashes r

  pub endorse_tracked : (contract : ℕ) (party : List ℕ) → Tracked s z g w (events.Endorse contract party) (endorse_pending s w contract party)
  endorse_tracked contract party =
      unless_tracked (events.Endorse contract party) (first_reason (endorse_row s w contract party)) []
      (done (with_pairs w (endorsing_pairs s party (compiled_instance s w contract))) [])
      (λ r clear unguessed begins. record {
        legal = tt;
        tracks = unmoved
            (with_pairs w (endorsing_pairs s party (compiled_instance s w contract))).book [] clear;
      })

  pub sign_tracked : (party : List ℕ) (label : Label) (digest : List ℕ) → Tracked s z g w (events.Sign party label digest) (sign_pending s w party label digest)
  sign_tracked party label digest =
      unless_tracked (events.Sign party label digest) (first_reason (sign_row s party label)) []
      (done (with_pairs w ((key_of s.hash label, digest) ∷ [])) (label_text label ∷ []))
      (λ r clear unguessed begins. record {
        legal = tt;
        tracks = unmoved (with_pairs w ((key_of s.hash label, digest) ∷ [])).book
            (label_text label ∷ []) clear;
      })

  pub mine_tracked : (blocks : ℕ) → 1 ≤ blocks → Tracked s z g w (events.Mine blocks) (mine_pending w blocks)
  mine_tracked blocks some = unless_tracked (events.Mine blocks) (first_reason (mine_row w blocks)) [] (done (record w { tip = w.tip + blocks }) [])
      (λ r clear unguessed begins.
      let row = no_reason-none_true (mine_row w blocks) r in
      let high : nat_le (g.time + blocks) last_height ≡ true = ap (λ t. nat_le (t + blocks) last_height) tracks.money.time ∙ not-false _ row.0 in
      record {
        legal = (passes g (steps.Delay blocks) (le-leb 1 blocks some, (high, tt)), tt);
        tracks = still g.init_authorised g.branch_authorised (g.time + blocks) (w.tip + blocks) w.book [] (ap (λ t. t + blocks) tracks.money.time) clear;
      })
