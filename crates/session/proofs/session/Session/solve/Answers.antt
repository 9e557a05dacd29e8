use Rattle.std.proofs.Common.{false, get_or, ap, ◌∙◌, arith}
use Rattle.std.proofs.lemmas.Bool.{false≢true}
use Rattle.calls.specs.History.{set_where}
use Rattle.calls.proofs.Fillings.{few_cells, few_rules, listed}
use Rattle.session.specs.Calls.{sheet_of}
use Rattle.session.proofs.Fitting.{none_from_test, some_from_test, table_ready, solved_filled, solved_clashed}
use Rattle.session.proofs.session.Session.solve.Goals as goal

pub set_starts-requires : goal.set_starts-requires
set_starts-requires g c =
    let s = sheet_of g.B.RuleBook.meaning c.args.self.now in
    record { cells = c.requires.starts; few = few_cells s c.requires.opens; short = (listed s c.requires.opens).short }

pub rules_on-on-requires : goal.rules_on-on-requires
rules_on-on-requires g c = omega (arith, few_rules (sheet_of g.B.RuleBook.meaning c.args.self.now) c.requires.opens, c.count.ensures)

pub unreachable-requires : goal.unreachable-requires
unreachable-requires g c =
    let s = c.args.self.now in
    let ready = table_ready g.B.RuleBook.meaning g.C.Chooser.meaning g.C.Chooser.laws s (g.B.RuleBook.laws s.book) c.requires.opens
    c.set_starts.ensures (c.rules_on-on.ensures ∙ ap (set_where (λ r. get_or s.table.switches r false)) c.count.ensures) in
    false≢true (c.in_default.ensures.made.1 (record { weighed = omega arith; free = omega (arith, c.requires.work); same = omega arith }, ready, c.requires.log))

pub write_lowest-requires : goal.write_lowest-requires
write_lowest-requires g c = omega (arith, c.fit.auto.sets, c.requires.sets, c.requires.filling, few_cells (sheet_of g.B.RuleBook.meaning c.args.self.now) c.requires.opens)

pub returns-then-is_none : goal.returns-then-is_none
returns-then-is_none g c =
    let s = c.args.self.now in
    solved_filled g.B.RuleBook.meaning g.C.Chooser.meaning g.C.Chooser.laws s (g.B.RuleBook.laws s.book) c.requires.opens
    c.set_starts.ensures (c.rules_on-on.ensures ∙ ap (set_where (λ r. get_or s.table.switches r false)) c.count.ensures)
    c.in-Some.ensures.logged (c.fit.auto.sets ∙ c.requires.sets) c.args.filling.now c.write_lowest.new.filling (none_from_test _ c.if-is_none.ensures)
    (omega (arith, c.write_lowest.auto.filling, c.fit.auto.sets, c.requires.sets, c.requires.filling, few_cells (sheet_of g.B.RuleBook.meaning s) c.requires.opens))
    c.write_lowest.ensures.places c.write_lowest.ensures.later

pub returns-else-is_none : goal.returns-else-is_none
returns-else-is_none g c =
    let s = c.args.self.now in
    solved_clashed g.B.RuleBook.meaning g.C.Chooser.meaning g.C.Chooser.laws s (g.B.RuleBook.laws s.book) c.requires.opens
    c.set_starts.ensures (c.rules_on-on.ensures ∙ ap (set_where (λ r. get_or s.table.switches r false)) c.count.ensures)
    c.in-Some.ensures.logged (c.fit.auto.sets ∙ c.requires.sets) c.args.filling.now (some_from_test _ c.if-is_none.ensures)
