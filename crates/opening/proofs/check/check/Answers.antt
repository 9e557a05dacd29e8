use Rattle.std.proofs.Common.{◌≤◌, arith}
use Rattle.calls.specs.Sheet.{Checked.passes, Checked.lists, Checked.rules, Checked.missing}
use Rattle.std.proofs.lemmas.Bool.Decides.{not_from_Decides}
use Rattle.readiness.proofs.Suited.{suits_from}
use Rattle.opening.proofs.check.check.Goals as goal

pub returns-then-not-are_listed : goal.returns-then-not-are_listed
returns-then-not-are_listed g c = lists (not_from_Decides c.are_listed.result c.are_listed.ensures c.if-not-are_listed.true)

pub returns-then-count-gt64 : goal.returns-then-count-gt64
returns-then-count-gt64 g c = rules (c.are_listed.ensures.0 c.if-not-are_listed.false) (omega (arith, c.count.ensures, c.if-count-gt64.true))

pub returns-then-not-suits : goal.returns-then-not-suits
returns-then-not-suits g c =
    let m = g.B.RuleBook.meaning c.args.book.now in
    let few : m.count ≤ 64 = omega (arith, c.count.ensures, c.if-count-gt64.false) in
    missing (c.are_listed.ensures.0 c.if-not-are_listed.false) few
    (λ named. not_from_Decides c.suits.result c.suits.ensures c.if-not-suits.true (suits_from (g.B.RuleBook.laws c.args.book.now) few (λ r i lt. named r lt i)))

pub returns : goal.returns
returns g c =
    let s = c.suits.ensures.0 c.if-not-suits.false in
    passes (c.are_listed.ensures.0 c.if-not-are_listed.false) s.few (λ r lt. s.cells r)
