-- What `show` prints: a deal as JSON, on one line.
use Rattle.std.specs.Prelude.{ℕ, List, Option}
use Rattle.spec_compiler.specs.Keyed.Keys.{Keys}
use Rattle.spec_compiler.specs.Keyed.Instance.{Instance}
use Rattle.spec_json.specs.Values.{json_line}
use Rattle.spec_show.specs.ShownDeal.{deal_data}

abbrev pub show_text : (List ℕ → List ℕ) → Option (List ℕ) → Keys → Instance → List ℕ
show_text hash network keys s = json_line (deal_data hash network keys s)
