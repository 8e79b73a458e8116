-- What a branch asks for before it goes, and what it then does.
use Rattle.std.specs.Prelude.{ℕ, max, List, [], ◌∷◌, Bool, true, false, Option, Some, None}
use Rattle.spec_data.specs.Lists.{is_among}
use Rattle.spec_terms.specs.Term.{Pred, always, Guarded, auth, after, put_reveal, withdraw, split, Contract}

-- the core of a branch: what stands under all `A :` and `after t :`
abbrev pub core : Guarded → Guarded
core (auth party body) = core body
core (after height body) = core body
core (put_reveal puts reveals test next) = put_reveal puts reveals test next
core (withdraw party) = withdraw party
core (split parts) = split parts

-- the parties in an `A :` above the core, outermost first
abbrev pub asks : Guarded → List (List ℕ)
asks (auth party body) = party ∷ asks body
asks (after height body) = asks body
asks (put_reveal puts reveals test next) = []
asks (withdraw party) = []
asks (split parts) = []

-- whether the party stands in an `A :` above the core
abbrev pub is_asked : Guarded → List ℕ → Bool
is_asked b party = is_among party (asks b)

-- the lock of a branch: the greatest height above the core, 0 without one
abbrev pub lock : Guarded → ℕ
lock (auth party body) = lock body
lock (after height body) = max height (lock body)
lock (put_reveal puts reveals test next) = 0
lock (withdraw party) = 0
lock (split parts) = 0

-- ---- what a core does

-- the volatile deposits that it puts
abbrev pub puts_of : Guarded → List (List ℕ)
puts_of (put_reveal puts reveals test next) = puts
puts_of (auth party body) = []
puts_of (after height body) = []
puts_of (withdraw party) = []
puts_of (split parts) = []

-- the secrets that it reveals
abbrev pub reveals_of : Guarded → List (List ℕ)
reveals_of (put_reveal puts reveals test next) = reveals
reveals_of (auth party body) = []
reveals_of (after height body) = []
reveals_of (withdraw party) = []
reveals_of (split parts) = []

-- the test of their lengths
abbrev pub test_of : Guarded → Pred
test_of (put_reveal puts reveals test next) = test
test_of (auth party body) = always
test_of (after height body) = always
test_of (withdraw party) = always
test_of (split parts) = always

-- whether it pays a party
abbrev pub is_withdraw_core : Guarded → Bool
is_withdraw_core (withdraw party) = true
is_withdraw_core (auth party body) = false
is_withdraw_core (after height body) = false
is_withdraw_core (put_reveal puts reveals test next) = false
is_withdraw_core (split parts) = false

-- the contract that a put or reveal goes on with
abbrev pub continuation : Guarded → Option Contract
continuation (put_reveal puts reveals test next) = Some next
continuation (auth party body) = None
continuation (after height body) = None
continuation (withdraw party) = None
continuation (split parts) = None
