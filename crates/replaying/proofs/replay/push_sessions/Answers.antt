use Rattle.std.proofs.Common.{◌≡◌, ◌+◌, ◌-◌, ◌++◌, length, take, drop, string_bytes, ap, ◌∙◌, append_assoc, length-drop, arith, rules}
use Rattle.std.proofs.lemmas.Result.{on_ok_weaker}
use Rattle.std.proofs.lemmas.List.{take_all}
use Rattle.replaying.specs.Replays.{last}
use Rattle.replaying.proofs.Telling.{sessions_step}
use Rattle.replaying.proofs.replay.push_sessions.Goals as goal

pub loop-count-preserved : goal.loop-count-preserved
loop-count-preserved c =
    let lines = c.loop-count.rest.now in
    let k = c.in-Some.count in
    let found = c.in-Some.ensures in
    let more : take (length lines - (k + 1)) (drop (k + 1) lines) ≡ drop (k + 1) lines = take_all _ _ (omega (arith, length-drop (k + 1) lines)) in
    let count : length (take (length lines - (k + 1)) (drop (k + 1) lines)) ≡ length lines - (k + 1) = ap length more ∙ length-drop (k + 1) lines in
    record {
      left = omega (arith, count, found.0, c.loop-count.invariant.left);
      text = λ s h u rest.
          let p = c.in_ok-push_turned.ensures s h in
          let q = c.loop-count.invariant.text s h (p.0 ++ u) (sessions_step s lines _ _ k c.loop-count.first _ c.loop-count.flags c.flags_of-flags.result p.0 u (search rules) more found c.flags_of-flags.ensures p.2 rest) in
          (q.0, ap (λ l. l ++ u) p.1 ∙ append_assoc (string_bytes c.loop-count.out) p.0 u ∙ q.1, q.2);
    }

pub returns : goal.returns
returns c =
    on_ok_weaker c.push_turned-2.result
    (λ e s h.
    let p = e s h in
    let q = c.loop-count.invariant.text s h p.0 (last c.in_default.ensures p.2) in
    (q.0, p.1 ∙ q.1, q.2)) c.push_turned-2.ensures
