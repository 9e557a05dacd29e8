use Rattle.std.proofs.Common.{◌≡◌, ◌++◌, string_bytes, sym, ap, ◌∙◌, subst}
use Rattle.sheets.specs.Stored.{held}
use Rattle.storage.proofs.Outcomes.{holds_read, is_read, is_refused}
use Rattle.script.specs.Script.{IsScript}
use Rattle.replaying.specs.Lines.{load_line}
use Rattle.replaying.specs.Replays.{Replays, refused, played}
use Rattle.replaying.proofs.replay.replay_in.Goals as goal
use Rattle.replaying.proofs.replay.replay_in.Goals.{in-Ok+in_ok-lines-in-Ok+in_ok-push_sessions-in-Ok, in-Err+in_ok-push_load-in-Err}

pub returns : goal.returns
returns c =
    elim c.match-load.branch [
      | in-Ok+in_ok-lines-in-Ok+in_ok-push_sessions-in-Ok w ↦
          let k = w.in-Ok.ensures.loads in
          let p = w.in_ok-push_sessions-in-Ok.ensures k.sheet (holds_read c.args.file.now (held c.args.stores.now) (held c.load.new.stores) w.in-Ok.extent k) in
          let is : string_bytes c.match-load.out ≡ p.0 = ap string_bytes w.out-is ∙ p.1 ∙ ap (λ l. l ++ p.0) c.new-out.ensures.bytes in
          let script = subst (IsScript c.args.script.now) (sym w.deref.ensures.value) w.in_ok-lines-in-Ok.ensures in
          subst (Replays c.args.file.now c.args.script.now) (sym is) (played (is_read c.args.file.now (held c.args.stores.now) (held c.load.new.stores) w.in-Ok.extent k) script p.2)
      | in-Err+in_ok-push_load-in-Err w ↦
          let e = w.in-Err.fault in
          let is : string_bytes c.match-load.out ≡ load_line e = ap string_bytes w.out-is ∙ w.in_ok-push_load-in-Err.ensures ∙ ap (λ l. l ++ load_line e) c.new-out.ensures.bytes in
          subst (Replays c.args.file.now c.args.script.now) (sym is) (refused (is_refused c.args.file.now (held c.args.stores.now) (held c.load.new.stores) e c.requires w.in-Err.ensures.loads))
    ]
