use Rattle.std.proofs.Common.{◌+◌, ◌-◌, length, vec_items, vec_len, ap}
use Rattle.permits.proofs.Listing.{adds}
use Rattle.permits.proofs.lists.Lists.add.Goals as goal

pub returns : goal.returns
returns c =
    let mid = c.extend_from_slice.new.self in
    adds c.args.list.now (vec_items c.args.self.now.lengths) (vec_items c.args.self.now.numbers) (vec_items c.push.new.self) (vec_items mid) (vec_items c.resize.new.self) (c.len.result + (64 - length c.args.list.now)) (vec_len mid)
    c.in_ok-push.ensures.items c.in_ok-extend_from_slice.ensures.items mid.ok.0 (ap (λ i. i + (64 - length c.args.list.now)) c.len.ensures) c.in_ok-resize.ensures.items
