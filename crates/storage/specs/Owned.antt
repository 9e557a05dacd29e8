-- What owned stores hold. Assumes nothing.
use Rattle.sheets.specs.Stored.{Contents}
use Rattle.storage.specs.declared.Storage.{Storage}

-- the contents of the stores, as they are lent
abbrev pub owned : Storage → Contents
owned s = record { lengths = s.lengths.items; numbers = s.numbers.items; rules = s.rules.items; places = s.places.items; formulas = s.formulas.items; nodes = s.nodes.items }
