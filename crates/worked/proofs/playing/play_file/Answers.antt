-- The file is read as its sheet, which the lists and the books mean.
use Rattle.sheets.specs.Stored.{held}
use Rattle.worked.specs.Examples.{sheet_of}
use Rattle.worked.proofs.Held.{held_sheet, lists_held, not_refused}
use Rattle.worked.proofs.playing.play_file.Goals as goal

pub returns-in-Ok : goal.returns-in-Ok
returns-in-Ok c x is make =
    let h = held_sheet x c.args.file.now (held c.args.stores.now) (held c.load.new.stores) c.in-Ok.extent is c.in-Ok.ensures.loads in
    (c.play_usual.ensures.worked x (c.books.ensures.means (sheet_of x) h) (lists_held x c.lengths.result.now (c.lengths.ensures.means (sheet_of x) h)) make).0

pub returns-in_default : goal.returns-in_default
returns-in_default c x is make = absurd (not_refused x c.args.file.now (held c.args.stores.now) c.in_default.field-0 is c.requires c.in_default.ensures.exact)
