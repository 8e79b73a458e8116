-- A board on which an event can be played.
use Rattle.std.specs.Prelude.{◌≡◌, ℕ, ◌+◌, ◌<◌, ◌^◌, List, length, map, true, None}
use Rattle.spec_data.specs.Lists.{is_among}
use Rattle.spec_data.specs.Ranges.{most_piece_bytes}
use Rattle.spec_calculus.specs.Configuration.{Configuration}
use Rattle.spec_run.specs.Setup.{Setup}
use Rattle.spec_run.specs.World.{World}
use Rattle.spec_run.specs.Conditions.{IsSetup}
use Rattle.theory_run.specs.KeptRuns.{KeptBooks}
use Rattle.bm_hash.specs.Messages.{evidence_of}
use Rattle.bm_match.specs.Matches.{all_compiled}
use Rattle.bm_world_board.specs.declared.board.Board.{Board}
use Rattle.bm_world_board.specs.Accounts.{account_of}
use Rattle.bm_world_board.specs.Prepares.{world_of}
use Rattle.bm_world_board.specs.Secrets.{secret_strings}

-- a configuration with which all is kept that the theorems keep of a run
pub record Kept (s : Setup) (w : World) : Type 0 where
  pub config : Configuration
  pub books : KeptBooks s config w

-- each string that was posted was hashed
pub record ArePostsHashed (w : World) : Type 0 where
  pub hashed : (string : List ℕ) → is_among string w.posted ≡ true → is_among string w.hashed ≡ true

-- a board with these messages before an event
pub record IsPlayable (s : Setup) (b : Board) (messages : List (List ℕ)) : Type 0 where
  pub setup : IsSetup s
  pub accounts : b.accounts ≡ map (account_of s.hash) s.header.parties
  pub known : b.known ≡ secret_strings s.header.secrets
  pub compiled : b.compiled ≡ all_compiled s (world_of b messages)
  pub kept : Kept s (world_of b messages)
  pub clear : evidence_of s.hash messages ≡ None
  pub posted : ArePostsHashed (world_of b messages)
  -- the outputs of one more transaction can be numbered
  pub room : length b.coins.outputs + most_piece_bytes < 2 ^ 32
