use Rattle.std.proofs.Common.{◌≡◌, ◌++◌, string_bytes, sym, ap, ◌∙◌, subst}
use Rattle.sheets.specs.Faults.{number, offset}
use Rattle.sheets.specs.Stored.{held}
use Rattle.text.specs.Text.{fault_text}
use Rattle.answers.specs.Answers.{Answers, refused, read}
use Rattle.storage.proofs.Outcomes.{holds_read, is_read, is_refused}
use Rattle.answers.proofs.answer.answer_in.Goals as goal
use Rattle.answers.proofs.answer.answer_in.Goals.{in-Ok+in_ok-push_sheet-in-Ok, in-Err+in_ok-push_fault-in-Err}

pub returns : goal.returns
returns c =
    elim c.match-load.branch [
      | in-Ok+in_ok-push_sheet-in-Ok w ↦
          let k = w.in-Ok.ensures.loads in
          let p = w.in_ok-push_sheet-in-Ok.ensures k.sheet (holds_read c.args.file.now (held c.args.stores.now) (held c.load.new.stores) w.in-Ok.extent k) in
          let is : string_bytes c.match-load.out ≡ p.0 = ap string_bytes w.out-is ∙ p.1 ∙ ap (λ l. l ++ p.0) c.new-out.ensures.bytes in
          subst (Answers c.args.file.now) (sym is) (read (is_read c.args.file.now (held c.args.stores.now) (held c.load.new.stores) w.in-Ok.extent k) p.2)
      | in-Err+in_ok-push_fault-in-Err w ↦
          let e = w.in-Err.fault in
          let is : string_bytes c.match-load.out ≡ fault_text (number e) (offset e) =
          ap string_bytes w.out-is ∙ w.in_ok-push_fault-in-Err.ensures ∙ ap (λ l. l ++ fault_text w.number.result w.offset.result) c.new-out.ensures.bytes
          ∙ ap (λ n. fault_text n w.offset.result) w.number.ensures ∙ ap (fault_text (number e)) w.offset.ensures in
          subst (Answers c.args.file.now) (sym is) (refused (is_refused c.args.file.now (held c.args.stores.now) (held c.load.new.stores) e c.requires w.in-Err.ensures.loads))
    ]
