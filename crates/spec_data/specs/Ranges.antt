-- How far amounts, heights, scripts and their items go by the rules of Bitcoin, and how much a run may hold; each number stands here once.
use Rattle.std.specs.Prelude.{ℕ}

-- ---- amounts and heights

-- the most satoshi that there are
abbrev pub max_money : ℕ
max_money = 2100000000000000

-- the greatest height that a lock time can name; from the next number on it names a time
abbrev pub last_height : ℕ
last_height = 499999999

-- ---- scripts, by Bitcoin's consensus

-- bytes of a script
abbrev pub most_script_bytes : ℕ
most_script_bytes = 10000

-- operations of a script that count
abbrev pub most_operations : ℕ
most_operations = 201

-- bytes of an item of a witness, and of a push
abbrev pub most_item_bytes : ℕ
most_item_bytes = 520

-- items on both stacks together
abbrev pub most_items : ℕ
most_items = 1000

-- ---- names and secrets

-- bytes of a name
abbrev pub most_name_bytes : ℕ
most_name_bytes = 32

-- bytes of a secret; the most are those of an item
abbrev pub least_secret_bytes : ℕ
least_secret_bytes = 16

-- the greatest length of a secret in the calculus, which counts the bytes above the fewest
abbrev pub most_secret_length : ℕ
most_secret_length = 504

-- ---- runs

-- bytes of a contract's text
abbrev pub most_text_bytes : ℕ
most_text_bytes = 1048576

-- bytes of a run file
abbrev pub most_run_bytes : ℕ
most_run_bytes = 8388608

-- events of a run file
abbrev pub most_events : ℕ
most_events = 10000

-- contracts of a run
abbrev pub most_contracts : ℕ
most_contracts = 16

-- parties that a header declares
abbrev pub most_parties : ℕ
most_parties = 64

-- deposits of a header
abbrev pub most_header_deposits : ℕ
most_header_deposits = 1000

-- secrets of a header
abbrev pub most_header_secrets : ℕ
most_header_secrets = 1000

-- bytes of a string that is posted or appended: as many as two digits a byte leave on a line
abbrev pub most_piece_bytes : ℕ
most_piece_bytes = 524288

-- outputs of a gift
abbrev pub most_gift_outputs : ℕ
most_gift_outputs = 262144
