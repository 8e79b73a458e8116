-- The different messages that have been hashed, and the first two of them with one digest.
use Rattle.std.specs.Prelude.{ℕ, List, [], ◌∷◌, ◌++◌, Bool, not, ◌&&◌, if◌then◌else◌, Option, None}
use Rattle.std.specs.List.{find}
use Rattle.std.specs.Option.{option_map, option_or}
use Rattle.std.specs.Str.{bytes_eq}
use Rattle.spec_data.specs.Lists.{is_among}

-- the list with a message that is hashed; one that is there isn't added
abbrev pub noted : List (List ℕ) → List ℕ → List (List ℕ)
noted messages message = if is_among message messages then messages else messages ++ message ∷ []

-- the list after these messages are hashed in turn
abbrev pub noted_all : List (List ℕ) → List (List ℕ) → List (List ℕ)
noted_all messages [] = messages
noted_all messages (m ∷ ms) = noted_all (noted messages m) ms

-- whether it is another message with this one's digest
abbrev pub is_twin : (List ℕ → List ℕ) → List ℕ → List ℕ → Bool
is_twin hash message earlier = bytes_eq (hash earlier) (hash message) && not (bytes_eq earlier message)

-- an earlier message with this one's digest that is another, and this one
abbrev pub collision_with : (List ℕ → List ℕ) → List (List ℕ) → List ℕ → Option (List ℕ × List ℕ)
collision_with hash messages message = option_map (λ earlier. (earlier, message)) (find (is_twin hash message) messages)

-- the first two different messages with one digest that come of hashing these in turn, the earlier one first
abbrev pub collision : (List ℕ → List ℕ) → List (List ℕ) → List (List ℕ) → Option (List ℕ × List ℕ)
collision hash messages [] = None
collision hash messages (m ∷ ms) = option_or (collision_with hash messages m) (collision hash (noted messages m) ms)
