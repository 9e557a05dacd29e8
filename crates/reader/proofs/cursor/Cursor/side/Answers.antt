use Rattle.formulas.proofs.Tokens.{digits_number}
use Rattle.reader.proofs.cursor.Cursor.side.Goals as goal

pub number-requires-clause-awaits : goal.number-requires-clause-awaits
number-requires-clause-awaits c = digits_number c.requires.awaits c.in_default.ensures c.in_default-past.ensures
