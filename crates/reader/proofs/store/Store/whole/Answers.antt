use Rattle.std.proofs.Common.{arith}
use Rattle.reader.proofs.Wholes.{await_first, junk_behind, many_cells, no_cell, formula_read}
use Rattle.reader.proofs.Places.{some_byte, no_byte}
use Rattle.reader.proofs.store.Store.whole.Goals.{in_default-via-in-Some+else-named-gt0, in_default-via-in_default}
use Rattle.reader.proofs.store.Store.whole.Goals as goal

pub condition-requires-clause-awaits : goal.condition-requires-clause-awaits
condition-requires-clause-awaits c = (_, await_first c.args.start c.requires.first)

pub returns-then-is_some-clause-read : goal.returns-then-is_some-clause-read
returns-then-is_some-clause-read c =
    junk_behind (omega arith) c.requires.first c.in_ok-end.ensures.read c.fault.ensures (some_byte c.in_ok-end.end c.byte.result c.is_some.ensures c.if-is_some.true c.byte.ensures)

pub returns-in-Some-clause-read : goal.returns-in-Some-clause-read
returns-in-Some-clause-read c =
    formula_read (omega arith) c.requires.first c.in_ok-end.ensures.read (no_byte c.in_ok-end.end c.byte.result c.is_some.ensures c.if-is_some.false c.byte.ensures) c.requires.room c.in-Some.named c.in-Some.ensures c.last.result c.last.ensures (omega (arith, c.if-named-gt0.true))

pub returns-in_default-clause-read : goal.returns-in_default-clause-read
returns-in_default-clause-read c =
    let r = c.in_ok-end.ensures.read in
    let all = no_byte c.in_ok-end.end c.byte.result c.is_some.ensures c.if-is_some.false c.byte.ensures in
    elim c.in_default.branch [
      | in_default-via-in-Some+else-named-gt0 w ↦ no_cell (omega arith) c.requires.first r all c.requires.room w.in-Some.named w.in-Some.ensures c.fault-in_default.ensures (omega (arith, w.if-named-gt0.false))
      | in_default-via-in_default w ↦ many_cells (omega arith) c.requires.first r all c.requires.room c.fault-in_default.ensures w.in_default.ensures
    ]
