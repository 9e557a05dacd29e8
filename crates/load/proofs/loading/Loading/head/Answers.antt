use Rattle.std.proofs.Common.{◌+◌, ◌≤◌, false, length, sym, refl, ap, ⊎_elim, arith}
use Rattle.std.proofs.lemmas.Bool.{both_ways, ltb-false}
use Rattle.std.proofs.lemmas.Result.{err_from_is_err_and}
use Rattle.sheets.specs.Tags.{tag_byte}
use Rattle.load.proofs.Heads.{past, no_tag, misplaced, cut, long, beyond, ended, short, surplus, content, unfilled, headed, headed_end, unfilled_end, not_end}
use Rattle.load.proofs.loading.Loading.head.Goals as goal

pub returns-in_default-clause-decided : goal.returns-in_default-clause-decided
returns-in_default-clause-decided c = λ s e. past s _ e _ _ (ltb-false _ _ (sym c.in_default.ensures.lookup.0))

pub returns-in_default-try_from-clause-decided : goal.returns-in_default-try_from-clause-decided
returns-in_default-try_from-clause-decided c = λ s e. no_tag s _ e _ _ _ c.in-Some.ensures.lookup.3 c.in_default-try_from.ensures

pub returns-then-not-comes-clause-decided : goal.returns-then-not-comes-clause-decided
returns-then-not-comes-clause-decided c = λ s e. misplaced s _ e _ _ _ c.in-Some.ensures.lookup.3 _ c.in-Ok.ensures (λ h. both_ways false refl (c.if-not-comes.ensures.1 h))

pub returns-then-file-at-lt3-clause-decided : goal.returns-then-file-at-lt3-clause-decided
returns-then-file-at-lt3-clause-decided c = λ s e. cut s _ e c.args.file.now c.args.at _ c.in-Some.ensures.lookup.3 _ c.in-Ok.ensures (c.if-not-comes.ensures.0 refl) (omega arith)

pub returns-in_err-check_end-in-End-clause-decided : goal.returns-in_err-check_end-in-End-clause-decided
returns-in_err-check_end-in-End-clause-decided c = λ s e.
    let p = err_from_is_err_and c.from_residual.result c.from_residual.ensures.1 in
    let room : c.args.at + 3 ≤ length c.args.file.now = omega arith in
    let four = ap tag_byte c.in-End.is in
    rw (p.1, p.2)
    (⊎_elim
    (λ a. rw a.0 (long s _ e _ _ _ c.in-Some.ensures.lookup.3 _ c.in-Ok.ensures _ c.from_be_bytes-length.ensures room four a.1))
    (λ a. rw a.0 (beyond s _ e _ _ _ c.in-Some.ensures.lookup.3 _ c.in-Ok.ensures _ c.from_be_bytes-length.ensures room four a.1 a.2))
    c.in_err-check_end-in-End.ensures)

pub returns-in_err-check_content-in-Cell-clause-decided : goal.returns-in_err-check_content-in-Cell-clause-decided
returns-in_err-check_content-in-Cell-clause-decided c = λ s e.
    let p = err_from_is_err_and c.from_residual-in_err-check_content-in-Cell.result c.from_residual-in_err-check_content-in-Cell.ensures.1 in
    let room : c.args.at + 3 ≤ length c.args.file.now = omega arith in
    let other = not_end c.in-Ok.tag c.in-Cell.is in
    rw (p.1, p.2)
    (⊎_elim
    (λ a. rw a.0 (short s _ e _ _ _ c.in-Some.ensures.lookup.3 _ c.in-Ok.ensures _ c.from_be_bytes-length.ensures room other (c.if-not-comes.ensures.0 refl) a.1))
    (λ a. rw a.0 (surplus s _ e _ _ _ c.in-Some.ensures.lookup.3 _ c.in-Ok.ensures _ c.from_be_bytes-length.ensures room other (c.if-not-comes.ensures.0 refl) a.1 a.2))
    c.in_err-check_content-in-Cell.ensures)

pub returns-in_ok-check_end-in-End : goal.returns-in_ok-check_end-in-End
returns-in_ok-check_end-in-End c =
    let k = c.in_ok-check_end-in-End.ensures in
    let room : c.args.at + 3 ≤ length c.args.file.now = omega arith in
    record {
      inside = omega (arith, k.0, k.1);
      room = unfilled_end c.in-Ok.tag c.args.self.now.extent c.in-End.is;
      decided = λ s e. headed_end s _ c.in-Ok.tag c.in-End.is (ended s _ e _ _ _ c.in-Some.ensures.lookup.3 _ c.in-Ok.ensures _ c.from_be_bytes-length.ensures room (ap tag_byte c.in-End.is) k.0 k.1);
    }

pub returns-in_ok-check_content-in-Cell : goal.returns-in_ok-check_content-in-Cell
returns-in_ok-check_content-in-Cell c =
    let k = c.in_ok-check_content-in-Cell.ensures in
    let room : c.args.at + 3 ≤ length c.args.file.now = omega arith in
    let other = not_end c.in-Ok.tag c.in-Cell.is in
    record {
      inside = k.0;
      room = unfilled c.in-Ok.tag c.args.self.now.extent c.args.self.now.few_cells c.args.self.now.few_rules k.1;
      decided = λ s e. headed c.in-Ok.tag other (content s _ e _ _ _ c.in-Some.ensures.lookup.3 _ c.in-Ok.ensures _ c.from_be_bytes-length.ensures room other (c.if-not-comes.ensures.0 refl) k.0 k.1);
    }
