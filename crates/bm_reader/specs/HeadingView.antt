-- The heading of the definitions that a heading of the code is seen as.
use Rattle.bm_syntax.specs.View.{test}
use Rattle.spec_text.specs.ReadContract as spec
use Rattle.bm_reader.specs.declared.heading.Heading.{Heading}

abbrev pub heading : Heading → spec.Heading
heading h = (h.puts.items, h.reveals.items, test h.test)
