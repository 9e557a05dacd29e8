use Rattle.std.proofs.Common.{◌/◌, length, arith}
use Rattle.std.proofs.lemmas.Bool.{ltb-true, lt-ltb}
use Rattle.rows.specs.Support.{row_in}
use Rattle.rows.proofs.Pigeon.{more_than_stored, some_within}
use Rattle.rows.proofs.search.some_unstored.Goals as goal

pub returns-then-allowed-rows : goal.returns-then-allowed-rows
returns-then-allowed-rows c =
    let masks = c.args.masks.each.now in
    let new = more_than_stored (row_in (length masks) c.args.rows.now) (length c.args.rows.now / length masks) masks c.args.masks.few (omega (arith, c.allowed_rows-allowed.ensures, c.if-allowed-rows.true)) in (
      (λ _. record { row = new.0; tried = new.1; absent = new.2 }),
      (λ _. lt-ltb (length c.args.rows.now / length masks) c.allowed_rows-allowed.result c.if-allowed-rows.true),
    )

-- no row is allowed
pub returns-else-allowed-gt0 : goal.returns-else-allowed-gt0
returns-else-allowed-gt0 c = (
  (λ e. absurd (omega (arith, ltb-true 0 c.allowed_rows-allowed.result e, c.if-allowed-gt0.false))),
  (λ u. lt-ltb 0 c.allowed_rows-allowed.result
      (omega (arith, c.allowed_rows-allowed.ensures, some_within c.args.masks.each.now u.row (length c.args.masks.each.now) u.tried.1))),
)
