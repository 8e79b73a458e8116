-- Runs and contracts of the test vectors.
use Rattle.std.proofs.Common.{ℕ, List, [], ◌∷◌, ◌++◌}
use Rattle.std.specs.Prelude.{codes}

-- lines, each with a line feed
abbrev pub lines : List (List ℕ) → List ℕ
lines [] = []
lines (line ∷ more) = line ++ 10 ∷ lines more

-- a timed commitment
abbrev pub commitment : List ℕ
commitment =
    lines (
    codes "{A:! 100000000 @ x | B:! 0 @ y | A: secret a} (reveal a . withdraw A + after 1000 : withdraw B)" ∷
    [])

-- a run of it without events
abbrev pub commitment_header : List ℕ
commitment_header =
    lines (
    codes "party A" ∷
    codes "party B" ∷
    codes "honest A" ∷
    codes "honest B" ∷
    codes "secret A a 00112233445566778899aabbccddeeff" ∷
    codes "deposit A 100000000" ∷
    codes "deposit B 0" ∷
    codes "--" ∷
    [])

-- its opening
abbrev pub commitment_opened : List ℕ
commitment_opened =
    lines (
    codes "party A" ∷
    codes "party B" ∷
    codes "honest A" ∷
    codes "honest B" ∷
    codes "secret A a 00112233445566778899aabbccddeeff" ∷
    codes "deposit A 100000000" ∷
    codes "deposit B 0" ∷
    codes "--" ∷
    codes "advertise 0 x=#0 y=#1" ∷
    codes "commit 0 A" ∷
    codes "commit 0 B" ∷
    codes "endorse 0 A" ∷
    codes "endorse 0 B" ∷
    codes "init 0 A" ∷
    codes "init 0 B" ∷
    codes "fire init 0" ∷
    [])

-- an escrow
abbrev pub escrow : List ℕ
escrow =
    lines (
    codes "{A:! 3 @ x | B:! 2 @ y} (A : withdraw B + B : after 7 : withdraw A)" ∷
    [])

-- its advertisement
abbrev pub escrow_advertised : List ℕ
escrow_advertised =
    lines (
    codes "party A" ∷
    codes "party B" ∷
    codes "honest A" ∷
    codes "honest B" ∷
    codes "deposit A 3" ∷
    codes "deposit B 2" ∷
    codes "--" ∷
    codes "advertise 0 x=#0 y=#1" ∷
    [])

-- its opening
abbrev pub escrow_opened : List ℕ
escrow_opened =
    lines (
    codes "party A" ∷
    codes "party B" ∷
    codes "honest A" ∷
    codes "honest B" ∷
    codes "deposit A 3" ∷
    codes "deposit B 2" ∷
    codes "--" ∷
    codes "advertise 0 x=#0 y=#1" ∷
    codes "commit 0 A" ∷
    codes "commit 0 B" ∷
    codes "endorse 0 A" ∷
    codes "endorse 0 B" ∷
    codes "init 0 A" ∷
    codes "init 0 B" ∷
    codes "fire init 0" ∷
    [])

-- the escrow, which A has endorsed
abbrev pub escrow_endorsed : List ℕ
escrow_endorsed =
    lines (
    codes "party A" ∷
    codes "party B" ∷
    codes "honest A" ∷
    codes "honest B" ∷
    codes "deposit A 3" ∷
    codes "deposit B 2" ∷
    codes "--" ∷
    codes "advertise 0 x=#0 y=#1" ∷
    codes "commit 0 A" ∷
    codes "commit 0 B" ∷
    codes "endorse 0 A" ∷
    [])

-- the escrow, which all have endorsed and A has signed
abbrev pub escrow_started : List ℕ
escrow_started =
    lines (
    codes "party A" ∷
    codes "party B" ∷
    codes "honest A" ∷
    codes "honest B" ∷
    codes "deposit A 3" ∷
    codes "deposit B 2" ∷
    codes "--" ∷
    codes "advertise 0 x=#0 y=#1" ∷
    codes "commit 0 A" ∷
    codes "commit 0 B" ∷
    codes "endorse 0 A" ∷
    codes "endorse 0 B" ∷
    codes "init 0 A" ∷
    [])

-- the escrow, of which A's deposit went elsewhere
abbrev pub escrow_gone : List ℕ
escrow_gone =
    lines (
    codes "party A" ∷
    codes "party B" ∷
    codes "honest A" ∷
    codes "honest B" ∷
    codes "deposit A 3" ∷
    codes "deposit B 2" ∷
    codes "--" ∷
    codes "advertise 0 x=#0 y=#1" ∷
    codes "commit 0 A" ∷
    codes "give A #0 -> A 3" ∷
    [])

-- a run of the escrow in which nobody is honest
abbrev pub escrow_of_none : List ℕ
escrow_of_none =
    lines (
    codes "party A" ∷
    codes "party B" ∷
    codes "deposit A 3" ∷
    codes "deposit B 2" ∷
    codes "--" ∷
    [])

-- a run of the commitment whose secret is too short
abbrev pub commitment_short : List ℕ
commitment_short =
    lines (
    codes "party A" ∷
    codes "party B" ∷
    codes "honest A" ∷
    codes "honest B" ∷
    codes "secret A a 0011" ∷
    codes "deposit A 100000000" ∷
    codes "deposit B 0" ∷
    codes "--" ∷
    codes "advertise 0 x=#0 y=#1" ∷
    [])

-- a run without a deposit for the escrow
abbrev pub escrow_poor : List ℕ
escrow_poor =
    lines (
    codes "party A" ∷
    codes "party B" ∷
    codes "honest A" ∷
    codes "honest B" ∷
    codes "deposit A 3" ∷
    codes "--" ∷
    [])

-- a contract with a predicate
abbrev pub long_secret : List ℕ
long_secret =
    lines (
    codes "{A:! 5 @ x | A: secret a} (reveal a if |a| < 3 . withdraw A + withdraw A)" ∷
    [])

-- its run, up to the reveal of a secret of length 3
abbrev pub long_secret_revealed : List ℕ
long_secret_revealed =
    lines (
    codes "party A" ∷
    codes "honest A" ∷
    codes "secret A a 00112233445566778899aabbccddeeff010203" ∷
    codes "deposit A 5" ∷
    codes "--" ∷
    codes "advertise 0 x=#0" ∷
    codes "commit 0 A" ∷
    codes "endorse 0 A" ∷
    codes "init 0 A" ∷
    codes "fire init 0" ∷
    codes "reveal 0 A a" ∷
    [])

-- a contract with a put
abbrev pub putting : List ℕ
putting =
    lines (
    codes "{A:! 5 @ x | A:? 2 @ z} (put z . withdraw A + withdraw A)" ∷
    [])

-- its run, in which the deposit goes elsewhere
abbrev pub putting_gone : List ℕ
putting_gone =
    lines (
    codes "party A" ∷
    codes "honest A" ∷
    codes "deposit A 5" ∷
    codes "deposit A 2" ∷
    codes "--" ∷
    codes "advertise 0 x=#0 z=#1" ∷
    codes "commit 0 A" ∷
    codes "endorse 0 A" ∷
    codes "init 0 A" ∷
    codes "fire init 0" ∷
    codes "give A #1 -> A 2" ∷
    [])

-- a contract with a secret of B
abbrev pub foreign_secret : List ℕ
foreign_secret =
    lines (
    codes "{A:! 1 @ x | B:! 1 @ y | B: secret b} (reveal b . withdraw B + withdraw A)" ∷
    [])

-- its run with B not honest, up to the advertisement
abbrev pub foreign_advertised : List ℕ
foreign_advertised =
    lines (
    codes "party A" ∷
    codes "party B" ∷
    codes "honest A" ∷
    codes "deposit A 1" ∷
    codes "deposit B 1" ∷
    codes "--" ∷
    codes "advertise 0 x=#0 y=#1" ∷
    [])

-- a run in which a secret is guessed
abbrev pub guessing : List ℕ
guessing =
    lines (
    codes "party A" ∷
    codes "party B" ∷
    codes "honest A" ∷
    codes "honest B" ∷
    codes "secret A a 00112233445566778899aabbccddeeff" ∷
    codes "deposit A 100000000" ∷
    codes "deposit B 0" ∷
    codes "--" ∷
    codes "post 00112233445566778899aabbccddeeff" ∷
    [])

-- a contract of one party
abbrev pub lone : List ℕ
lone =
    lines (
    codes "{A:! 5 @ x} withdraw A" ∷
    [])

-- its opening
abbrev pub lone_run : List ℕ
lone_run =
    lines (
    codes "party A" ∷
    codes "honest A" ∷
    codes "deposit A 5" ∷
    codes "--" ∷
    codes "advertise 0 x=#0" ∷
    codes "commit 0 A" ∷
    codes "endorse 0 A" ∷
    codes "init 0 A" ∷
    codes "fire init 0" ∷
    [])

-- the commitment, of which B took the money
abbrev pub commitment_over : List ℕ
commitment_over =
    lines (
    codes "party A" ∷
    codes "party B" ∷
    codes "honest A" ∷
    codes "honest B" ∷
    codes "secret A a 00112233445566778899aabbccddeeff" ∷
    codes "deposit A 100000000" ∷
    codes "deposit B 0" ∷
    codes "--" ∷
    codes "advertise 0 x=#0 y=#1" ∷
    codes "commit 0 A" ∷
    codes "commit 0 B" ∷
    codes "endorse 0 A" ∷
    codes "endorse 0 B" ∷
    codes "init 0 A" ∷
    codes "init 0 B" ∷
    codes "fire init 0" ∷
    codes "mine 1000" ∷
    codes "fire #2 1" ∷
    [])

-- the contract with a put, with its deposit
abbrev pub putting_opened : List ℕ
putting_opened =
    lines (
    codes "party A" ∷
    codes "honest A" ∷
    codes "deposit A 5" ∷
    codes "deposit A 2" ∷
    codes "--" ∷
    codes "advertise 0 x=#0 z=#1" ∷
    codes "commit 0 A" ∷
    codes "endorse 0 A" ∷
    codes "init 0 A" ∷
    codes "fire init 0" ∷
    [])

-- a contract that is split, with a fee
abbrev pub splitting : List ℕ
splitting =
    lines (
    codes "{A:! 10 @ x | B:! 10 @ y} fee 1 split [ 9 -> withdraw A, 9 -> withdraw B ]" ∷
    [])

-- its opening
abbrev pub splitting_opened : List ℕ
splitting_opened =
    lines (
    codes "party A" ∷
    codes "party B" ∷
    codes "honest A" ∷
    codes "honest B" ∷
    codes "deposit A 10" ∷
    codes "deposit B 10" ∷
    codes "--" ∷
    codes "advertise 0 x=#0 y=#1" ∷
    codes "commit 0 A" ∷
    codes "commit 0 B" ∷
    codes "endorse 0 A" ∷
    codes "endorse 0 B" ∷
    codes "init 0 A" ∷
    codes "init 0 B" ∷
    codes "fire init 0" ∷
    [])
