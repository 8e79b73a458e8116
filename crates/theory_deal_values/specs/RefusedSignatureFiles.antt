-- A file of signatures that is refused for each reason: what it says, and what the program prints.
use Rattle.std.specs.Prelude.{◌≡◌, ℕ, List, [], ◌∷◌, ◌++◌, codes, replicate}
use Rattle.spec_tool.specs.Commands.{prints}
use Rattle.spec_deal.specs.Verifier.{Verifier, secp256k1}
use Rattle.theory_values.specs.Replies.{lines, sha_of}
use Rattle.theory_deal_values.specs.Replies.{program_replies}
use Rattle.theory_deal_values.specs.SmallDeals.{one_bitml, one_deal, one_hashes, bet_bitml, bet_deal, bet_hashes}

-- to this deal and this file of signatures `missing` says with status 14 that the file is refused so, by this judge of signatures
abbrev pub RefusesBy : Verifier → List (ℕ × ℕ) → List ℕ → List ℕ → List ℕ → List ℕ → Type 0
RefusesBy v hashes contract deal signatures line =
    program_replies v (sha_of hashes) (codes "missing" ∷ codes "contract" ∷ codes "deal" ∷ codes "signatures" ∷ [])
    ((codes "contract", contract) ∷ (codes "deal", deal) ∷ (codes "signatures", signatures) ∷ [])
    ≡ prints 14 (line ++ 10 ∷ [])

abbrev pub Refuses : List ℕ → List ℕ → Type 0
Refuses signatures line = RefusesBy secp256k1 one_hashes one_bitml one_deal signatures line

-- two good signatures of the bet by one key
abbrev pub two_by_one_key : List ℕ
two_by_one_key =
    lines (
    (codes "cHNidP8BAF4CAAAAAWSkLVm6zsEnnKB/rBdAwQzAV/Hh1ehdYmA+45H38fkQAAAAAAD+////AfDMAQAAAAAAIgAgjlxSz1EXSSCi" ++
    codes "AFSYHnZA82Z27YqAY7lq4bof+1pyzVMAAAAAAAEBK9jQAQAAAAAAIgAgoRTxCtLEEwZcLE4z5LIxRFvysAFsE7Fw4T786N+mrcAi" ++
    codes "AgI8JPzhAQIl/ZbFQH748G46W64ea480Se8ghWNLPhSLKUcwRAIgJA4baG4mwiexobcwux8ibKCesAlMXsomyx6mr+AybCgCIEwA" ++
    codes "rDsjF4lGvMhz8Uuh9xQ29Dw1AbDxllr3+S/BNGwQAQEDBAEAAAABBcRjgnZgAgkCpWlrqCAS5T0Cf+xZNvuejXzn+YJS2bheVjPi" ++
    codes "OG/T1ZofLBonA4hsAHlglFOfaXUhA4gDgPT+kfrKbbM4f1yYHAL+4Nuuknjo3PLgdpsVRXkHrSECPCT84QECJf2WxUB++PBuOluu" ++
    codes "HmuPNEnvIIVjSz4UiymsZyEC8xjS/yMhiyv0vNgO5LeVWNqxogUF9X8SXTi0qDRLnu2tIQKPGU6EngHMZLJgkMXUe//b2zkEAjyB" ++
    codes "ephynNa0pIHlfaxoAAA=") ∷
    (codes "cHNidP8BAF4CAAAAAWSkLVm6zsEnnKB/rBdAwQzAV/Hh1ehdYmA+45H38fkQAAAAAAD+////AfDMAQAAAAAAIgAgjlxSz1EXSSCi" ++
    codes "AFSYHnZA82Z27YqAY7lq4bof+1pyzVMAAAAAAAEBK9jQAQAAAAAAIgAgoRTxCtLEEwZcLE4z5LIxRFvysAFsE7Fw4T786N+mrcAi" ++
    codes "AgI8JPzhAQIl/ZbFQH748G46W64ea480Se8ghWNLPhSLKUgwRQIhAKzhqbdOOICwl0z7AHzvC18hVMqHEEqZyH5lQAsF8VxpAiAN" ++
    codes "3FXPf1Ko3IyLCBvWrwAXqoDNKeHIF1HqeZbdPe80bAEBAwQBAAAAAQXEY4J2YAIJAqVpa6ggEuU9An/sWTb7no185/mCUtm4XlYz" ++
    codes "4jhv09WaHywaJwOIbAB5YJRTn2l1IQOIA4D0/pH6ym2zOH9cmBwC/uDbrpJ46Nzy4HabFUV5B60hAjwk/OEBAiX9lsVAfvjwbjpb" ++
    codes "rh5rjzRJ7yCFY0s+FIsprGchAvMY0v8jIYsr9LzYDuS3lVjasaIFBfV/El04tKg0S57trSECjxlOhJ4BzGSyYJDF1Hv/29s5BAI8" ++
    codes "gXqYcpzWtKSB5X2saAAA") ∷
    [])

-- the signature of the branch in the initial transaction
abbrev pub swapped_signature : List ℕ
swapped_signature =
    lines (
    (codes "cHNidP8BAF4CAAAAAZF2cLTeLye0NfcfOi9YcLV399LQviNNqvmPJykaytHHAAAAAAD+////AbiCAQAAAAAAIgAg3g3RyrY3KRUf" ++
    codes "N5XvrPVU/v5Dv6L6YG5sorxHG6kJCakAAAAAAAEBK6CGAQAAAAAAIgAgOMn1GeX9WVtEMXGJS5u+mCNAeSmSiWZbs9bR0BD8/bki" ++
    codes "AgORP/5wNuwc7+xdRYnQwujntqMAyX4KEGzZYk8Um82n9UcwRAIgCnYZIjsoXXJCr6L/5kGFeJH4PkBe6oafC0dU/0zaLvYCIBbV" ++
    codes "nAgzRfA2hljYw0iBQE5ckAn0ZjqKy+DoU+Jc9EOrAQEDBAEAAAABBSMhA5E//nA27Bzv7F1FidDC6Oe2owDJfgoQbNliTxSbzaf1" ++
    codes "rAAA") ∷
    [])

pub record SignatureFilesAreRefused : Type 0 where
  -- a byte more than it may have
  pub size : Refuses (replicate 8388609 10) (codes "signatures refused size")
  -- one letter
  pub base64 : Refuses (lines (codes "z" ∷ [])) (codes "signatures refused line 1 base64")
  -- the first bytes of one alone
  pub form : Refuses (lines (codes "cHNidP8=" ∷ [])) (codes "signatures refused line 1 form")
  -- the initial transaction, but with another lock
  pub foreign : Refuses (lines (
      (codes "cHNidP8BAF4CAAAAAZF2cLTeLye0NfcfOi9YcLV399LQviNNqvmPJykaytHHAAAAAAD+////AbiCAQAAAAAAIgAg3g3RyrY3KRUf" ++
      codes "N5XvrPVU/v5Dv6L6YG5sorxHG6kJCakBAAAAAAAA") ∷
      [])) (codes "signatures refused line 1 foreign")
  -- one satoshi less is spent
  pub spent : Refuses (lines (
      (codes "cHNidP8BAF4CAAAAAZF2cLTeLye0NfcfOi9YcLV399LQviNNqvmPJykaytHHAAAAAAD+////AbiCAQAAAAAAIgAg3g3RyrY3KRUf" ++
      codes "N5XvrPVU/v5Dv6L6YG5sorxHG6kJCakAAAAAAAEBK5+GAQAAAAAAIgAgOMn1GeX9WVtEMXGJS5u+mCNAeSmSiWZbs9bR0BD8/bkB" ++
      codes "AwQBAAAAAQUjIQORP/5wNuwc7+xdRYnQwujntqMAyX4KEGzZYk8Um82n9awAAA==") ∷
      [])) (codes "signatures refused line 1 spent 0")
  -- the last operation is another
  pub script : Refuses (lines (
      (codes "cHNidP8BAF4CAAAAAZF2cLTeLye0NfcfOi9YcLV399LQviNNqvmPJykaytHHAAAAAAD+////AbiCAQAAAAAAIgAg3g3RyrY3KRUf" ++
      codes "N5XvrPVU/v5Dv6L6YG5sorxHG6kJCakAAAAAAAEBK6CGAQAAAAAAIgAgOMn1GeX9WVtEMXGJS5u+mCNAeSmSiWZbs9bR0BD8/bkB" ++
      codes "AwQBAAAAAQUjIQORP/5wNuwc7+xdRYnQwujntqMAyX4KEGzZYk8Um82n9a0AAA==") ∷
      [])) (codes "signatures refused line 1 script 0")
  -- a final witness of one item
  pub witness : Refuses (lines (
      (codes "cHNidP8BAF4CAAAAAZF2cLTeLye0NfcfOi9YcLV399LQviNNqvmPJykaytHHAAAAAAD+////AbiCAQAAAAAAIgAg3g3RyrY3KRUf" ++
      codes "N5XvrPVU/v5Dv6L6YG5sorxHG6kJCakAAAAAAAEBK6CGAQAAAAAAIgAgOMn1GeX9WVtEMXGJS5u+mCNAeSmSiWZbs9bR0BD8/bkB" ++
      codes "AwQBAAAAAQUjIQORP/5wNuwc7+xdRYnQwujntqMAyX4KEGzZYk8Um82n9awBCAIBAAAA") ∷
      [])) (codes "signatures refused line 1 witness 0")
  -- the branch's key
  pub key : Refuses (lines (
      (codes "cHNidP8BAF4CAAAAAZF2cLTeLye0NfcfOi9YcLV399LQviNNqvmPJykaytHHAAAAAAD+////AbiCAQAAAAAAIgAg3g3RyrY3KRUf" ++
      codes "N5XvrPVU/v5Dv6L6YG5sorxHG6kJCakAAAAAAAEBK6CGAQAAAAAAIgAgOMn1GeX9WVtEMXGJS5u+mCNAeSmSiWZbs9bR0BD8/bki" ++
      codes "AgOIA4D0/pH6ym2zOH9cmBwC/uDbrpJ46Nzy4HabFUV5B0cwRAIgcRgtgjPqUEgamOJDrqgTcaYKLbfZuFwk+qadgXNckQICIEVq" ++
      codes "79L8Da6wuR7ST1PeDq81cKqZILbEaOafahCji6VwAQEDBAEAAAABBSMhA5E//nA27Bzv7F1FidDC6Oe2owDJfgoQbNliTxSbzaf1" ++
      codes "rAAA") ∷
      [])) (codes "signatures refused line 1 key 0")
  -- another hash type
  pub shape : Refuses (lines (
      (codes "cHNidP8BAF4CAAAAAZF2cLTeLye0NfcfOi9YcLV399LQviNNqvmPJykaytHHAAAAAAD+////AbiCAQAAAAAAIgAg3g3RyrY3KRUf" ++
      codes "N5XvrPVU/v5Dv6L6YG5sorxHG6kJCakAAAAAAAEBK6CGAQAAAAAAIgAgOMn1GeX9WVtEMXGJS5u+mCNAeSmSiWZbs9bR0BD8/bki" ++
      codes "AgORP/5wNuwc7+xdRYnQwujntqMAyX4KEGzZYk8Um82n9UcwRAIgcRgtgjPqUEgamOJDrqgTcaYKLbfZuFwk+qadgXNckQICIEVq" ++
      codes "79L8Da6wuR7ST1PeDq81cKqZILbEaOafahCji6VwAgEDBAEAAAABBSMhA5E//nA27Bzv7F1FidDC6Oe2owDJfgoQbNliTxSbzaf1" ++
      codes "rAAA") ∷
      [])) (codes "signatures refused line 1 signature 0")
  -- the signature of the branch
  pub invalid : Refuses swapped_signature (codes "signatures refused line 1 invalid 0")
  -- two good signatures by one key
  pub conflict : RefusesBy secp256k1 bet_hashes bet_bitml bet_deal two_by_one_key (codes "signatures refused line 2 conflict 0")
