use Rattle.std.proofs.Common.{◌≡◌, ◌++◌, Ok, Err, vec_items, ap, ◌∙◌}
use Rattle.sheets.specs.Stored.{held}
use Rattle.listing.specs.Listing.{listing_of}
use Rattle.storage.proofs.Outcomes.{holds_read, is_read, is_refused}
use Rattle.shown.specs.Shown.{layered_text}
use Rattle.shown.proofs.shown_in.Goals as goal
use Rattle.shown.proofs.shown_in.Goals.{in-Ok+in_ok-listing-in-Ok, in-Err+in_ok-fault_line-in-Err+in_ok-extend_from_slice-in-Err}

pub returns : goal.returns
returns c =
    elim c.match-load.branch [
      | in-Ok+in_ok-listing-in-Ok w ↦
          let k = w.in-Ok.ensures.loads in
          let holds = holds_read c.args.file.now (held c.args.stores.now) (held c.load.new.stores) w.in-Ok.extent k in
          let is : vec_items c.match-load.out ≡ listing_of k.sheet =
          ap vec_items w.out-is ∙ w.in_ok-listing-in-Ok.ensures k.sheet holds k.read.said ∙ ap (λ l. l ++ listing_of k.sheet) c.new-out.ensures.items in
          record { read = Ok k.sheet; outcome = is_read c.args.file.now (held c.args.stores.now) (held c.load.new.stores) w.in-Ok.extent k; told = is }
      | in-Err+in_ok-fault_line-in-Err+in_ok-extend_from_slice-in-Err w ↦
          let e = w.in-Err.fault in
          let is : vec_items c.match-load.out ≡ layered_text e =
          ap vec_items w.out-is ∙ w.in_ok-extend_from_slice-in-Err.ensures.items ∙ ap (λ l. l ++ w.as_bytes.result.now) c.new-out.ensures.items ∙ w.as_bytes.ensures.value ∙ w.in_ok-fault_line-in-Err.ensures in
          record { read = Err e; outcome = is_refused c.args.file.now (held c.args.stores.now) (held c.load.new.stores) e c.requires w.in-Err.ensures.loads; told = is }
    ]
