use Rattle.std.proofs.Common.{arith, refl, ◌∙◌}
use Rattle.std.proofs.lemmas.Result.{err_from_is_err_and}
use Rattle.std.proofs.lemmas.Option.{MatchOption-at_some, MatchOption-at_none}
use Rattle.sheets.specs.Sheet.{empty}
use Rattle.load.specs.declared.loading.Loading.{Loading}
use Rattle.load.specs.Fields.{Kept, Advanced}
use Rattle.load.proofs.Steps.{room_at, begun_within, begun_empty}
use Rattle.load.proofs.Sizes.{same_again, same_then}
use Rattle.load.proofs.loading.Loading.fields.Goals as goal

kept_then : {a b c : Loading} → Kept a b → Kept b c → Kept a c
kept_then p q = record { loan = q.loan ∙ p.loan; sizes = same_then p.sizes q.sizes }

pub loop-next-init : goal.loop-next-init
loop-next-init c = (empty, begun_empty c.args.file.now, c.requires.blank, record { loan = refl; sizes = same_again _ })

pub field-requires : goal.field-requires
field-requires c =
    let i = c.loop-next.invariant in
    room_at c.args.file.now c.loop-next.at i.0 c.loop-next.self.extent c.requires.short i.1 i.2.extent

pub returns-in_err-next : goal.returns-in_err-next
returns-in_err-next c =
    let p = err_from_is_err_and c.from_residual.result c.from_residual.ensures.1 in
    let i = c.loop-next.invariant in
    record {
      kept = kept_then i.3 c.in_err-next.ensures.kept;
      decided = rw (p.1, p.2) (c.in_err-next.ensures.advances i.0 i.1 i.2);
    }

-- what one more field brings
advanced : (c : goal.In-Some) → Advanced c.args.file.now c.loop-next.at c.field.new.self c.in-Some.next
advanced c =
    let i = c.loop-next.invariant in
    MatchOption-at_some _ _ c.in-Some.next c.in-Some.is (c.in_ok-next.ensures.advances i.0 i.1 i.2)

pub loop-next-smaller : goal.loop-next-smaller
loop-next-smaller c =
    let a = advanced c in
    omega (arith, a.further, begun_within c.args.file.now c.in-Some.next a.sheet a.begun)

pub loop-next-preserved : goal.loop-next-preserved
loop-next-preserved c = let a = advanced c in (a.sheet, a.begun, a.holds, kept_then c.loop-next.invariant.3 c.in_ok-next.ensures.kept)

pub returns : goal.returns
returns c =
    let i = c.loop-next.invariant in
    let e = MatchOption-at_none _ _ c.in_default.is (c.in_ok-next.ensures.advances i.0 i.1 i.2) in
    record { kept = kept_then i.3 c.in_ok-next.ensures.kept; decided = (i.0, e.0, e.1) }
