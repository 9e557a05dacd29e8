use Rattle.std.proofs.Common.{◌≤◌, [], ◌∷◌, ◌++◌, length, set, pos, refl, ap, ◌∙◌, arith}
use Rattle.std.proofs.lemmas.Bool.{false≢true}
use Rattle.std.proofs.lemmas.Result.{MatchResult-weaker}
use Rattle.formulas.specs.declared.node.Side.TheVariants.{Number}
use Rattle.formulas.specs.declared.node.Relation.TheVariants.{Equal}
use Rattle.formulas.specs.Tree.{compares, negates, all, any, one, text}
use Rattle.formulas.proofs.Clears.{word_not, word_and, word_or}
use Rattle.formulas.proofs.Awaits.{kind_not, kind_all, kind_any, list_first}
use Rattle.reader.specs.declared.cursor.Text.{Text}
use Rattle.reader.specs.Places.{behind}
use Rattle.reader.proofs.Refusals.{out_as}
use Rattle.reader.proofs.Places.{on, first_in, reads_join}
use Rattle.reader.proofs.Assembly.{read_not, read_all, read_any, read_last, read_more, room_on, room_read, room_list, room_after, kept_join, ready_comma, not_opened, not_followed, inside_not, inside_all, inside_any, after_comma}
use Rattle.reader.proofs.store.Store.+condition_conditions.Goals as goal

pub negation-returns-in_err-inner-clause-read : goal.negation-returns-in_err-inner-clause-read
negation-returns-in_err-inner-clause-read t c =
    let zero = compares (Number (pos 0)) Equal (Number (pos 0)) in
    out_as c.from_residual.result _ _ c.in_err-inner.field-0.0 c.from_residual.ensures.1
    (not_opened c.args.place.now c.in_err-inner.field-0.0 (78 ∷ 79 ∷ 84 ∷ []) (text zero ++ (41 ∷ [])) (negates zero) (omega arith) c.requires.awaits.1 word_not refl refl
    (kind_not _ c.requires.letter) c.in_err-inner.ensures)

pub negation-condition-requires : goal.negation-condition-requires
negation-condition-requires t c =
    let i = c.in_ok-inner.ensures in (
      omega (arith, ap (λ (t : Text). length t.bytes.now) i.0.text, i.0.spans.upto, i.0.spans.within),
      (
        (_, inside_not c.requires.awaits.1 i.0),
        room_on c.requires.room i.0,
      ),
    )

pub negation-returns-in_err-end-clause-read : goal.negation-returns-in_err-end-clause-read
negation-returns-in_err-end-clause-read t c =
    let i = c.in_ok-inner.ensures in
    let r = c.in_ok-after.ensures.read in
    let b = c.in_err-end.ensures in
    out_as c.from_residual-in_err-end.result _ _ c.in_err-end.field-0.0 c.from_residual-in_err-end.ensures.1
    (first_in i.0 (not_followed (on (λ t. t.cells ≤ 1000000) i.0 (omega arith)) (inside_not c.requires.awaits.1 i.0) r b.1 (λ e. absurd (false≢true e)) b.0))

pub negation-last-child-requires : goal.negation-last-child-requires
negation-last-child-requires t c = record { some = (room_read (room_on c.requires.room c.in_ok-inner.ensures.0) c.in_ok-after.ensures.read).0 }

pub negation-push-requires : goal.negation-push-requires
negation-push-requires t c =
    let m = room_read (room_on c.requires.room c.in_ok-inner.ensures.0) c.in_ok-after.ensures.read in
    record { room = omega (arith, m.1, c.in_ok-after.ensures.kept.long) }

pub negation-returns-clause-read : goal.negation-returns-clause-read
negation-returns-clause-read t c =
    let i = c.in_ok-inner.ensures in
    let r = c.in_ok-after.ensures.read in
    read_not i.0 i.1 r c.in_ok-end.ensures (room_read (room_on c.requires.room i.0) r).1 c.last-child.ensures c.push.ensures.nodes c.push.ensures.used

pub conjunction-returns-in_err-inner-clause-read : goal.conjunction-returns-in_err-inner-clause-read
conjunction-returns-in_err-inner-clause-read t c =
    let zero = compares (Number (pos 0)) Equal (Number (pos 0)) in
    out_as c.from_residual.result _ _ c.in_err-inner.field-0.0 c.from_residual.ensures.1
    (not_opened c.args.place.now c.in_err-inner.field-0.0 (65 ∷ 78 ∷ 68 ∷ []) (text zero ++ (41 ∷ [])) (all (one zero)) (omega arith) c.requires.awaits.1 word_and refl refl
    (kind_all _ c.requires.letter) c.in_err-inner.ensures)

pub conjunction-conditions-requires : goal.conjunction-conditions-requires
conjunction-conditions-requires t c =
    let i = c.in_ok-inner.ensures in (
      omega (arith, ap (λ (t : Text). length t.bytes.now) i.0.text, i.0.spans.upto, i.0.spans.within),
      (
        inside_all c.requires.awaits.1 i.0,
        room_on c.requires.room i.0,
      ),
    )

pub conjunction-returns-clause-read : goal.conjunction-returns-clause-read
conjunction-returns-clause-read t c =
    let i = c.in_ok-inner.ensures in
    MatchResult-weaker c.conditions.result c.conditions.ensures.read (λ end r. read_all i.0 i.1 r) (λ e h. first_in i.0 h)

pub disjunction-returns-in_err-inner-clause-read : goal.disjunction-returns-in_err-inner-clause-read
disjunction-returns-in_err-inner-clause-read t c =
    let zero = compares (Number (pos 0)) Equal (Number (pos 0)) in
    out_as c.from_residual.result _ _ c.in_err-inner.field-0.0 c.from_residual.ensures.1
    (not_opened c.args.place.now c.in_err-inner.field-0.0 (79 ∷ 82 ∷ []) (text zero ++ (41 ∷ [])) (any (one zero)) (omega arith) c.requires.awaits.1 word_or refl refl
    (kind_any _ c.requires.letter) c.in_err-inner.ensures)

pub disjunction-conditions-requires : goal.disjunction-conditions-requires
disjunction-conditions-requires t c =
    let i = c.in_ok-inner.ensures in (
      omega (arith, ap (λ (t : Text). length t.bytes.now) i.0.text, i.0.spans.upto, i.0.spans.within),
      (
        inside_any c.requires.awaits.1 i.0,
        room_on c.requires.room i.0,
      ),
    )

pub disjunction-returns-clause-read : goal.disjunction-returns-clause-read
disjunction-returns-clause-read t c =
    let i = c.in_ok-inner.ensures in
    MatchResult-weaker c.conditions.result c.conditions.ensures.read (λ end r. read_any i.0 i.1 r) (λ e h. first_in i.0 h)

pub conditions-condition-requires : goal.conditions-condition-requires
conditions-condition-requires t c = (omega arith, ((_, list_first (behind c.args.place.now.at) c.requires.awaits.1), c.requires.room))

pub conditions-returns-in_default-clause-read : goal.conditions-returns-in_default-clause-read
conditions-returns-in_default-clause-read t c =
    let r = c.in_ok-after.ensures.read in
    MatchResult-weaker c.expect.result c.expect.ensures (λ end q. read_last r q)
    (λ e b. not_followed (omega arith) (list_first (behind c.args.place.now.at) c.requires.awaits.1) r b.1 (λ _. c.in_default.ensures) b.0)

pub conditions-last-first-requires : goal.conditions-last-first-requires
conditions-last-first-requires t c = record { some = (room_read c.requires.room c.in_ok-after.ensures.read).0 }

pub conditions-invariant_of-more : goal.conditions-invariant_of-more
conditions-invariant_of-more t c = record { ready = ready_comma (omega arith) c.in_ok-after.ensures.read c.in-Some.ensures }

pub conditions-conditions-requires : goal.conditions-conditions-requires
conditions-conditions-requires t c =
    let r = c.in_ok-after.ensures in
    let q = c.in-Some.ensures in
    let both = reads_join r.read.reads q in (
      omega (arith, ap (λ (t : Text). length t.bytes.now) both.text, r.read.reads.spans.upto, r.read.reads.spans.within, q.spans.upto, both.spans.within),
      (
        after_comma r.read.is c.requires.awaits.1 r.read.reads q,
        room_on (room_after c.requires.room r.read r.kept) q,
      ),
    )

pub conditions-returns-in_err-end-clause-kept : goal.conditions-returns-in_err-end-clause-kept
conditions-returns-in_err-end-clause-kept t c =
    let r = c.in_ok-after.ensures in
    kept_join (omega (arith, r.read.count)) r.kept c.in_err-end.ensures.kept

pub conditions-last-rest-requires : goal.conditions-last-rest-requires
conditions-last-rest-requires t c =
    let r = c.in_ok-after.ensures in
    record { some = (room_list (room_on (room_after c.requires.room r.read r.kept) c.in-Some.ensures) c.in_ok-end.ensures.read).0 }

pub conditions-push-requires : goal.conditions-push-requires
conditions-push-requires t c =
    let r = c.in_ok-after.ensures in
    let m = room_list (room_on (room_after c.requires.room r.read r.kept) c.in-Some.ensures) c.in_ok-end.ensures.read in
    record { room = omega (arith, m.1, c.in_ok-end.ensures.kept.long) }

pub conditions-returns-clause-read : goal.conditions-returns-clause-read
conditions-returns-clause-read t c =
    let r = c.in_ok-after.ensures in
    let l = c.in_ok-end.ensures.read in
    let m = room_list (room_on (room_after c.requires.room r.read r.kept) c.in-Some.ensures) l in
    read_more r.read c.in-Some.ensures refl l (omega (arith, m.1, r.kept.long)) c.last-first.ensures c.last-rest.ensures
    (c.push.ensures.nodes ∙ ap (set c.conditions.new.self.nodes.now c.conditions.new.self.used) c.node.ensures) c.push.ensures.used
