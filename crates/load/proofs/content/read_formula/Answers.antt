use Rattle.std.proofs.Common.{◌≤◌, length, rules}
use Rattle.reader.proofs.Wholes.{fault_first}
use Rattle.load.proofs.Within.{first_within}
use Rattle.load.proofs.content.read_formula.Goals as goal

pub overflow_add-result : goal.overflow_add-result
overflow_add-result c =
    let e = c.in-Err-Fault.fault in
    let there = rw c.in-Err-Fault.field-0-is at c.in-Err-Fault.ensures.read in
    let within : e.offset ≤ length c.args.content.now = first_within c.args.cells c.args.content.now e.flaw e.offset (fault_first there) in
    search rules
