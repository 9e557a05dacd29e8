-- Proofs that the joined and the turned book keep the laws of books. Assumes nothing.
-- They stand in specs/ since the laws of a type may cite nothing else of its own crate. The check proves them, so no reader has to believe them.
use Rattle.std.specs.Prelude.{◌≡◌, ℕ, ◌-◌, ◌<◌, ◌≤◌, Bool, [], reverse, length, nat_lt, slice_index_or, refl}
use Rattle.std.proofs.Common.{sym, ap, ◌∙◌, arith}
use Rattle.std.proofs.lemmas.List.{length-reverse, get_or-reverse}
use Rattle.std.proofs.lemmas.Bool.{cond_both, ltb-true, ltb-false}
use Rattle.network.specs.Book.{Rule, BookMeaning, Lawful, Sound, joined, turned, reversed, no_rule}

module _ {m n : BookMeaning} (p : Lawful m) (q : Lawful n) where
  -- the joined book of two lawful books is lawful
  pub joined_lawful : Lawful (joined m n)
  joined_lawful = record {
    bounded = omega arith;
    sound = λ r h.
        cond_both (nat_lt r m.count) (m.rule r) _ Sound
        (λ e. p.sound r (ltb-true r m.count e))
        (λ e. let past : m.count ≤ r = ltb-false r m.count e in
        cond_both (nat_lt r 65535) (n.rule (r - m.count)) no_rule Sound
        (λ _. q.sound (r - m.count) (omega arith))
        (λ f. absurd (omega (arith, ltb-false r 65535 f))));
    missing = λ r h.
        cond_both (nat_lt r m.count) (m.rule r) _ (λ rule. rule.cells ≡ [])
        (λ e. absurd (omega (arith, ltb-true r m.count e, p.bounded)))
        (λ e. let past : m.count ≤ r = ltb-false r m.count e in
        cond_both (nat_lt r 65535) (n.rule (r - m.count)) no_rule (λ rule. rule.cells ≡ [])
        (λ f. q.missing (r - m.count) (omega (arith, ltb-true r 65535 f)))
        (λ f. refl));
  }

-- the cell at a position of a reversed rule is the one at the same distance from the end
pub reversed_at : (rule : Rule) (k : ℕ) → k < length rule.cells → slice_index_or (reversed rule).cells k 255 ≡ slice_index_or rule.cells (length rule.cells - 1 - k) 255
reversed_at rule k h = get_or-reverse rule.cells k 255 h

-- the cells of a reversed rule are as good as those of the rule
reversed_sound : {rule : Rule} → Sound rule → Sound (reversed rule)
reversed_sound {rule} s = record {
  some = rw length-reverse s.some;
  few = rw length-reverse s.few;
  small = λ k h.
      let h' : k < length rule.cells = omega (arith, length-reverse rule.cells) in
      rw (reversed_at rule k h') (s.small (length rule.cells - 1 - k) (omega arith));
  apart = λ j k lt h e.
      let h' : k < length rule.cells = omega (arith, length-reverse rule.cells) in
      s.apart (length rule.cells - 1 - k) (length rule.cells - 1 - j) (omega arith) (omega arith)
      (sym (reversed_at rule k h') ∙ sym e ∙ reversed_at rule j (omega arith));
}

-- the turned book of a lawful book is lawful, whatever the flags
pub turned_lawful : (flag : ℕ → Bool) {m : BookMeaning} → Lawful m → Lawful (turned flag m)
turned_lawful flag {m} p = record {
  bounded = p.bounded;
  sound = λ r h. cond_both (flag r) (reversed (m.rule r)) (m.rule r) Sound (λ _. reversed_sound (p.sound r h)) (λ _. p.sound r h);
  missing = λ r h. cond_both (flag r) (reversed (m.rule r)) (m.rule r) (λ rule. rule.cells ≡ []) (λ _. ap reverse (p.missing r h)) (λ _. p.missing r h);
}
