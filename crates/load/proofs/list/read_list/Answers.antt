use Rattle.std.proofs.Common.{◌≡◌, ◌/◌, ◌<◌, ◌≤◌, length, subst, arith, w32, SFits, to_z, of_z, rules}
use Rattle.std.proofs.lemmas.Bool.Decides.{not_from_Decides}
use Rattle.load.proofs.Lists.{SoFar, by_bits, read_at, one_more, all_read, not_long, not_small, not_new}
use Rattle.load.proofs.list.read_list.Goals as goal
use Rattle.load.proofs.list.read_list.Goals.{then-not-is_empty-via-then-not-is_empty, then-not-is_empty-via-else-not-is_empty+then-is_empty, then-not-is_empty-via-else-not-is_empty+else-is_empty+then-items-gt64, then-not-is_small-via-then-not-is_small, then-not-is_small-via-else-not-is_small+then-not-is_new}

pub returns-then-not-is_empty : goal.returns-then-not-is_empty
returns-then-not-is_empty c =
    not_long c.args.content.now c.args.tag (λ n e some few.
    elim c.then-not-is_empty.branch [
      | then-not-is_empty-via-then-not-is_empty w ↦ search rules
      | then-not-is_empty-via-else-not-is_empty+then-is_empty w ↦ search rules
      | then-not-is_empty-via-else-not-is_empty+else-is_empty+then-items-gt64 w ↦ omega (arith, c.as_chunks.ensures.front_len)
    ])

pub returns-then-not-is_small : goal.returns-then-not-is_small
returns-then-not-is_small c =
    let content = c.args.content.now in
    let k = c.loop-k.k in
    let z = c.number_of-number.result in
    let f : SFits w32 z = search rules in
    let below : k < length content / 4 = omega (arith, c.as_chunks.ensures.front_len, c.loop-k-test.true) in
    let b = by_bits z _ f (read_at content k c.as_chunks.result.0.now z c.number_of-number.ensures c.as_chunks.ensures.front below) in
    elim c.then-not-is_small.branch [
      | then-not-is_small-via-then-not-is_small w ↦
          not_small content c.args.tag k (to_z w32 (of_z w32 z)) b.0 (omega (arith, below)) b.1
          (not_from_Decides c.is_small.result c.is_small.ensures w.if-not-is_small.true)
      | then-not-is_small-via-else-not-is_small+then-not-is_new w ↦
          not_new content c.args.numbers.now c.loop-k.numbers c.args.tag k (to_z w32 (of_z w32 z)) c.loop-k.invariant b.0 (omega (arith, below)) b.1
          (not_from_Decides w.is_new.result w.is_new.ensures w.if-not-is_new.true)
    ]

pub loop-k-preserved : goal.loop-k-preserved
loop-k-preserved c =
    let content = c.args.content.now in
    let k = c.loop-k.k in
    let z = c.number_of-number.result in
    let f : SFits w32 z = search rules in
    let below : k < length content / 4 = omega (arith, c.as_chunks.ensures.front_len, c.loop-k-test.true) in
    one_more content c.args.numbers.now c.loop-k.numbers k (to_z w32 (of_z w32 z)) c.loop-k.invariant (omega arith)
    (by_bits z _ f (read_at content k c.as_chunks.result.0.now z c.number_of-number.ensures c.as_chunks.ensures.front below)).1
    (c.is_small.ensures.0 c.if-not-is_small.false) (c.is_new.ensures.0 c.if-not-is_new.false)

pub returns : goal.returns
returns c =
    let n = length c.as_chunks.result.0.now in
    let all : c.loop-k.k ≡ n = omega (arith, c.loop-k-test.false) in
    let none : length c.as_chunks.result.1.now ≡ 0 = search rules in
    let some : 1 ≤ n = search rules in
    all_read c.args.content.now c.args.numbers.now c.loop-k.numbers n
    (subst (SoFar c.args.content.now c.args.numbers.now c.loop-k.numbers) all c.loop-k.invariant)
    (omega (arith, none, c.as_chunks.ensures.front_len, c.as_chunks.ensures.back_len)) some (omega (arith, c.if-items-gt64.false)) c.requires
