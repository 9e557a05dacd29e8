use Rattle.std.proofs.Common.{◌≡◌, ℕ, ◌-◌, ◌≤◌, List, length, take, drop, replicate, Err, refl, ap, ◌∙◌, arith}
use native.Mathlib.Nat.{sub-zero}
use Rattle.std.proofs.lemmas.List.{length-take-le}
use Rattle.std.proofs.lemmas.Result.{err_from_is_err_and}
use Rattle.calls.specs.Sheet.{Judged.fits, Judged.fits_short}
use Rattle.calls.proofs.Fillings.{few_cells}
use Rattle.std.proofs.lemmas.Bool.Decides.{not_from_Decides}
use Rattle.session.specs.Calls.{sheet_of}
use Rattle.session.proofs.Changing.{fit_shut}
use Rattle.session.proofs.session.Session.fit.Goals as goal

-- a part from the start
part_long : (xs : List ℕ) (n : ℕ) → n ≤ length xs → length (take (n - 0) (drop 0 xs)) ≡ n
part_long xs n h = ap (λ (k : ℕ). length (take k (drop 0 xs))) (sub-zero n) ∙ length-take-le n xs h

pub returns-in_err-opened : goal.returns-in_err-opened
returns-in_err-opened g c =
    let p = err_from_is_err_and c.from_residual.result c.from_residual.ensures.1 in
    let q = c.in_err-opened.ensures in
    fit_shut g.B.RuleBook.meaning g.C.Chooser.meaning c.args.self.now c.args.work.now c.args.log.now c.args.filling.now c.from_residual.result (p.1 ∙ ap Err (p.2 ∙ q.0)) q.1

pub returns-then-not-are_enough : goal.returns-then-not-are_enough
returns-then-not-are_enough g c = record {
  judged = fits_short c.in_ok-opened.ensures (not_from_Decides c.are_enough.result c.are_enough.ensures c.if-not-are_enough.true);
  refused = λ _. (refl, refl, refl, refl);
  done = λ z. absurd (omega arith);
}

pub slice_bounds-start-end : goal.slice_bounds-start-end
slice_bounds-start-end g c = omega (arith, few_cells (sheet_of g.B.RuleBook.meaning c.args.self.now) c.in_ok-opened.ensures)

pub slice_bounds-sets-end : goal.slice_bounds-sets-end
slice_bounds-sets-end g c = omega (arith, few_cells (sheet_of g.B.RuleBook.meaning c.args.self.now) c.in_ok-opened.ensures)

pub solve-requires : goal.solve-requires
solve-requires g c =
    let few : length c.args.self.now.lengths.now ≤ 64 = few_cells (sheet_of g.B.RuleBook.meaning c.args.self.now) c.in_ok-opened.ensures in
    let enough = c.are_enough.ensures.0 c.if-not-are_enough.false in
    record {
      opens = c.in_ok-opened.ensures;
      starts = part_long (replicate 64 0) (length c.args.self.now.lengths.now) few;
      work = enough.work;
      sets = part_long (replicate 64 0) (length c.args.self.now.lengths.now) few;
      log = enough.log;
      filling = enough.filling;
    }

pub returns : goal.returns
returns g c = record {
  judged = fits c.in_ok-opened.ensures (c.are_enough.ensures.0 c.if-not-are_enough.false);
  refused = λ ne. absurd (ne refl);
  done = λ _. (c.solve.result, refl, c.solve.ensures);
}
