-- What can come after the bytes read so far, and which byte is outside the grammar there. Assumes nothing.
use Rattle.std.proofs.Common.{◌≡◌, ℕ, ◌+◌, ◌<◌, ◌≤◌, Bool, true, false, ◌≢◌, List, [], ◌∷◌, ◌++◌, length, get_or, take, drop, pos, sym, refl, ap, ◌∙◌, subst, ⊎_elim, append_assoc, append-nil, arith, take-append-drop}
use Rattle.std.proofs.lemmas.List.{append_cancel_left, drop_more, take_more, same_from_push}
use Rattle.formulas.specs.declared.node.Side.{Side}
use Rattle.formulas.specs.declared.node.Side.TheVariants.{Number}
use Rattle.formulas.specs.declared.node.Relation.{Relation}
use Rattle.formulas.specs.declared.node.Relation.TheVariants.{Equal}
use Rattle.formulas.specs.Tree.{Condition, compares, negates, all, any, Conditions, one, more, side_text, relation_text, text, list_text, not_word, and_word, or_word}
use Rattle.formulas.specs.Faults.{next, Digit, NoDigitBefore, Outside, TooDeep, count}
use Rattle.formulas.specs.Reading.{Spans, Fresh, Awaits, AwaitsList, AwaitsSide, Follows, ends, closes, goes_on, EndsSide, EndsRelation, Ends, Deep}
use Rattle.formulas.proofs.Unique.{uncons, unique, ends_closed, ends_comma, ends_condition, ends_any, follow_ends, held, apart, SideFirst, side_first, compares_first, side_unique, relation_first, relation_ends, relation_bytes, relation_unique, side_ends_relation}
use Rattle.formulas.proofs.Spans.{spans_take, spans_split, spans_next, spans_each, after_word, word_next, next_at}
use Rattle.formulas.proofs.Levels.{deep_flat, deep_level}

-- bytes that end with b
fresh_push : (p : List ℕ) (b : ℕ) → (Digit b → ⊥) → Fresh (p ++ (b ∷ []))
fresh_push p b f q x e d = f (subst Digit (sym (same_from_push p q b x e).1) d)

fresh_word : (p w : List ℕ) (b : ℕ) → (Digit b → ⊥) → Fresh (p ++ (w ++ (b ∷ [])))
fresh_word p w b f = subst Fresh (append_assoc p w (b ∷ [])) (fresh_push (p ++ w) b f)

no_bracket : Digit 40 → ⊥
no_bracket d = omega (arith, d.0)

nothing_before : Fresh []
nothing_before [] b e d = let z : ◌≡◌ {A = ℕ} 256 b = ap next e in omega (arith, d.1)
nothing_before (x ∷ q) b e d = let z : ◌≡◌ {A = ℕ} 0 1 = cc in omega arith

pub await_start : Awaits [] []
await_start = record {
  fresh = nothing_before;
  comes = λ d u e. (d, [], sym e ∙ sym (append-nil (text d)), ends);
  room = λ c. (c, [], sym (append-nil (text c)));
}

-- inside a bracket of NOT
pub await_not : {o : List Bool} (p : List ℕ) → Awaits o p → Awaits (false ∷ o) (p ++ not_word)
await_not {o} p a = record {
  fresh = fresh_word p (78 ∷ 79 ∷ 84 ∷ []) 40 no_bracket;
  comes = λ d u e. let k = a.comes d (not_word ++ u) (e ∙ append_assoc p not_word u) in go k.0 k.1 u k.2 k.3;
  room = λ c. let k = a.room (negates c) in (k.0, 41 ∷ k.1, k.2 ∙ ap (λ l. p ++ l) (held not_word (text c) k.1) ∙ sym (append_assoc p not_word (text c ++ (41 ∷ k.1))));
}
  where
    go : (c : Condition) (t u : List ℕ) → not_word ++ u ≡ text c ++ t → Follows o t → (x : Condition) × (v : List ℕ) × (u ≡ text x ++ v) × Follows (false ∷ o) v
    go (compares x r y) t u e f = absurd (⊎_elim (λ d. omega (arith, d.1)) (λ g. ⊎_elim (λ z. omega (arith, z)) (λ z. omega (arith, z)) g) (subst SideFirst (sym (ap next e)) (compares_first x y r t)))
    go (negates c) t u e f = (c, 41 ∷ t, append_cancel_left not_word _ _ (e ∙ held not_word (text c) t), closes f)
    go (all cs) t u e f = absurd (omega (arith, ap next e))
    go (any cs) t u e f = absurd (omega (arith, ap next e))

-- inside a bracket with a list
pub await_all : {o : List Bool} (p : List ℕ) → Awaits o p → AwaitsList o (p ++ and_word)
await_all {o} p a = record {
  fresh = fresh_word p (65 ∷ 78 ∷ 68 ∷ []) 40 no_bracket;
  comes = λ d u e. let k = a.comes d (and_word ++ u) (e ∙ append_assoc p and_word u) in go k.0 k.1 u k.2 k.3;
  room = λ cs. let k = a.room (all cs) in (k.0, k.1, k.2 ∙ ap (λ l. p ++ l) (held and_word (list_text cs) k.1) ∙ sym (append_assoc p and_word (list_text cs ++ (41 ∷ k.1))));
}
  where
    go : (c : Condition) (t u : List ℕ) → and_word ++ u ≡ text c ++ t → Follows o t → (xs : Conditions) × (v : List ℕ) × (u ≡ list_text xs ++ (41 ∷ v)) × Follows o v
    go (compares x r y) t u e f = absurd (⊎_elim (λ d. omega (arith, d.1)) (λ g. ⊎_elim (λ z. omega (arith, z)) (λ z. omega (arith, z)) g) (subst SideFirst (sym (ap next e)) (compares_first x y r t)))
    go (negates c) t u e f = absurd (omega (arith, ap next e))
    go (all cs) t u e f = (cs, t, append_cancel_left and_word _ _ (e ∙ held and_word (list_text cs) t), f)
    go (any cs) t u e f = absurd (omega (arith, ap next e))

pub await_any : {o : List Bool} (p : List ℕ) → Awaits o p → AwaitsList o (p ++ or_word)
await_any {o} p a = record {
  fresh = fresh_word p (79 ∷ 82 ∷ []) 40 no_bracket;
  comes = λ d u e. let k = a.comes d (or_word ++ u) (e ∙ append_assoc p or_word u) in go k.0 k.1 u k.2 k.3;
  room = λ cs. let k = a.room (any cs) in (k.0, k.1, k.2 ∙ ap (λ l. p ++ l) (held or_word (list_text cs) k.1) ∙ sym (append_assoc p or_word (list_text cs ++ (41 ∷ k.1))));
}
  where
    go : (c : Condition) (t u : List ℕ) → or_word ++ u ≡ text c ++ t → Follows o t → (xs : Conditions) × (v : List ℕ) × (u ≡ list_text xs ++ (41 ∷ v)) × Follows o v
    go (compares x r y) t u e f = absurd (⊎_elim (λ d. omega (arith, d.1)) (λ g. ⊎_elim (λ z. omega (arith, z)) (λ z. omega (arith, z)) g) (subst SideFirst (sym (ap next e)) (compares_first x y r t)))
    go (negates c) t u e f = absurd (omega (arith, ap next e))
    go (all cs) t u e f = absurd (omega (arith, ap next e))
    go (any cs) t u e f = (cs, t, append_cancel_left or_word _ _ (e ∙ held or_word (list_text cs) t), f)

-- a list begins with a condition
pub list_first : {o : List Bool} (p : List ℕ) → AwaitsList o p → Awaits (true ∷ o) p
list_first {o} p a = record {
  fresh = a.fresh;
  comes = λ d u e. let k = a.comes d u e in go k.0 k.1 u k.2 k.3;
  room = λ c. let k = a.room (one c) in (k.0, 41 ∷ k.1, k.2);
}
  where
    go : (cs : Conditions) (t u : List ℕ) → u ≡ list_text cs ++ (41 ∷ t) → Follows o t → (x : Condition) × (v : List ℕ) × (u ≡ text x ++ v) × Follows (true ∷ o) v
    go (one c) t u e f = (c, 41 ∷ t, e, closes f)
    go (more c cs) t u e f = (c, 44 ∷ (list_text cs ++ (41 ∷ t)), e ∙ append_assoc (text c) (44 ∷ list_text cs) (41 ∷ t), goes_on cs f)

-- after a comma the rest of the list comes
pub list_next : {o : List Bool} (p : List ℕ) (c : Condition) → AwaitsList o p → AwaitsList o (p ++ (text c ++ (44 ∷ [])))
list_next {o} p c a = record {
  fresh = fresh_word p (text c) 44 (λ d. omega (arith, d.0));
  comes = λ d u e. let k = a.comes d (text c ++ (44 ∷ u)) (e ∙ append_assoc p (text c ++ (44 ∷ [])) u ∙ ap (λ l. p ++ l) (append_assoc (text c) (44 ∷ []) u)) in go k.0 k.1 u k.2 k.3;
  room = λ cs. let k = a.room (more c cs) in
      (k.0, k.1, k.2 ∙ ap (λ l. p ++ l) (append_assoc (text c) (44 ∷ list_text cs) (41 ∷ k.1) ∙ sym (append_assoc (text c) (44 ∷ []) (list_text cs ++ (41 ∷ k.1)))) ∙ sym (append_assoc p (text c ++ (44 ∷ [])) (list_text cs ++ (41 ∷ k.1))));
}
  where
    go : (cs : Conditions) (t u : List ℕ) → text c ++ (44 ∷ u) ≡ list_text cs ++ (41 ∷ t) → Follows o t → (xs : Conditions) × (v : List ℕ) × (u ≡ list_text xs ++ (41 ∷ v)) × Follows o v
    go (one d) t u e f = let i = unique c d (44 ∷ u) (41 ∷ t) (ends_comma c) (ends_closed d) e in absurd (omega (arith, ap next i.1))
    go (more d ds) t u e f =
        let i = unique c d (44 ∷ u) (44 ∷ (list_text ds ++ (41 ∷ t))) (ends_comma c) (ends_comma d) (e ∙ append_assoc (text d) (44 ∷ list_text ds) (41 ∷ t)) in
        (ds, t, uncons 44 _ _ i.1, f)

-- after a condition only what can follow it
pub after_condition : {o : List Bool} {s : List ℕ} {at end : ℕ} (c : Condition) → Awaits o (take at s) → Spans s at (text c) end → Ends c (next (drop end s))
    → ((t : List ℕ) → Follows o t → next t ≢ next (drop end s)) → Outside s end
after_condition {o} {s} {at} {end} c a p f wrong = record {
  within = p.within;
  begins = let k = a.room c in record { formula = k.0; rest = k.1; writes = k.2 ∙ sym (append_assoc (take at s) (text c) k.1) ∙ ap (λ l. l ++ k.1) (sym (spans_take p)) };
  none = λ d u e n.
      let k = a.comes d (text c ++ u) (after_word (text d) u p e) in
      let i = unique c k.0 u k.1 (subst (Ends c) (sym n) f) (ends_condition k.0 (next k.1) (follow_ends o k.1 k.3)) k.2 in
      wrong k.1 k.3 (ap next (sym i.1) ∙ n);
}

-- an opening word that is not spelled to its end
pub word_outside : {o : List Bool} {s : List ℕ} {at end i : ℕ} (w z : List ℕ) (y : Condition) → Awaits o (take at s) → text y ≡ w ++ z
    → ((c : Condition) (t : List ℕ) → next (text c ++ t) ≡ next (drop at s) → (x : List ℕ) × (text c ++ t ≡ w ++ x))
    → i < length w → Spans s at (take i w) end → next (drop end s) ≢ get_or w i 0 → Outside s end
word_outside {o} {s} {at} {end} {i} w z y a spells kind lt p wrong = record {
  within = p.within;
  begins = let k = a.room y in record {
    formula = k.0;
    rest = drop i w ++ (z ++ k.1);
    writes = k.2 ∙ ap (λ l. take at s ++ l) (ap (λ l. l ++ k.1) spells ∙ append_assoc w z k.1 ∙ ap (λ l. l ++ (z ++ k.1)) (sym (take-append-drop i w)) ∙ append_assoc (take i w) (drop i w) (z ++ k.1))
        ∙ sym (append_assoc (take at s) (take i w) (drop i w ++ (z ++ k.1))) ∙ ap (λ l. l ++ (drop i w ++ (z ++ k.1))) (sym (spans_take p));
  };
  none = λ d u e n.
      let k = a.comes d (take i w ++ u) (after_word (text d) u p e) in
      let x = kind k.0 k.1 (ap next (sym k.2) ∙ word_next u p n) in
      let q : u ≡ drop i w ++ x.0 = append_cancel_left (take i w) u (drop i w ++ x.0)
      (k.2 ∙ x.1 ∙ ap (λ l. l ++ x.0) (sym (take-append-drop i w)) ∙ append_assoc (take i w) (drop i w) x.0) in
      wrong (sym n ∙ ap next (q ∙ ap (λ l. l ++ x.0) (drop_more w i 0 lt)));
}

-- an opening word at level 16
unfoldable pub too_deep : {o : List Bool} {s : List ℕ} {at end : ℕ} (w z : List ℕ) (y : Condition) → Awaits o (take at s) → text y ≡ (w ++ (40 ∷ [])) ++ z → count 40 w ≡ count 41 w
    → Spans s at (w ++ (40 ∷ [])) end → Deep s at 16 → TooDeep s end
too_deep {o} {s} {at} {end} w z y a spells flat p d =
    let q = spans_split w (40 ∷ []) p in
    record {
      before = at + length w;
      after = q.1.upto;
      bracket = spans_next q.1;
      begins = let k = a.room y in record {
        formula = k.0;
        rest = z ++ k.1;
        writes = k.2 ∙ ap (λ l. take at s ++ l) (ap (λ l. l ++ k.1) spells ∙ append_assoc (w ++ (40 ∷ [])) z k.1)
            ∙ sym (append_assoc (take at s) (w ++ (40 ∷ [])) (z ++ k.1)) ∙ ap (λ l. l ++ (z ++ k.1)) (sym (spans_take p));
      };
      full = deep_level (deep_flat q.0 flat d);
    }

-- which condition begins with a byte
pub kind_not : (b : ℕ) → b ≡ 78 → (c : Condition) (t : List ℕ) → next (text c ++ t) ≡ b → (x : List ℕ) × (text c ++ t ≡ not_word ++ x)
kind_not b is (compares x r y) t e = absurd (⊎_elim (λ d. omega (arith, d.1)) (λ g. ⊎_elim (λ z. omega (arith, z)) (λ z. omega (arith, z)) g) (subst SideFirst (e ∙ is) (compares_first x y r t)))
kind_not b is (negates c) t e = (text c ++ (41 ∷ t), held not_word (text c) t)
kind_not b is (all cs) t e = absurd (omega (arith, e, is))
kind_not b is (any cs) t e = absurd (omega (arith, e, is))

pub kind_all : (b : ℕ) → b ≡ 65 → (c : Condition) (t : List ℕ) → next (text c ++ t) ≡ b → (x : List ℕ) × (text c ++ t ≡ and_word ++ x)
kind_all b is (compares x r y) t e = absurd (⊎_elim (λ d. omega (arith, d.1)) (λ g. ⊎_elim (λ z. omega (arith, z)) (λ z. omega (arith, z)) g) (subst SideFirst (e ∙ is) (compares_first x y r t)))
kind_all b is (negates c) t e = absurd (omega (arith, e, is))
kind_all b is (all cs) t e = (list_text cs ++ (41 ∷ t), held and_word (list_text cs) t)
kind_all b is (any cs) t e = absurd (omega (arith, e, is))

pub kind_any : (b : ℕ) → b ≡ 79 → (c : Condition) (t : List ℕ) → next (text c ++ t) ≡ b → (x : List ℕ) × (text c ++ t ≡ or_word ++ x)
kind_any b is (compares x r y) t e = absurd (⊎_elim (λ d. omega (arith, d.1)) (λ g. ⊎_elim (λ z. omega (arith, z)) (λ z. omega (arith, z)) g) (subst SideFirst (e ∙ is) (compares_first x y r t)))
kind_any b is (negates c) t e = absurd (omega (arith, e, is))
kind_any b is (all cs) t e = absurd (omega (arith, e, is))
kind_any b is (any cs) t e = (list_text cs ++ (41 ∷ t), held or_word (list_text cs) t)

-- neither N, A nor O: a comparison
pub record Compared (c : Condition) : Type 0 where
  pub left : Side
  pub by : Relation
  pub right : Side
  pub is : c ≡ compares left by right

pub kind_compares : (b : ℕ) → b ≢ 78 → b ≢ 65 → b ≢ 79 → (c : Condition) (t : List ℕ) → next (text c ++ t) ≡ b → Compared c
kind_compares b f g h (compares x r y) t e = record { left = x; by = r; right = y; is = refl }
kind_compares b f g h (negates c) t e = absurd (f (sym e))
kind_compares b f g h (all cs) t e = absurd (g (sym e))
kind_compares b f g h (any cs) t e = absurd (h (sym e))

module _ {o : List Bool} (s : List ℕ) (at : ℕ) (a : Awaits o (take at s)) (f : next (drop at s) ≢ 78) (g : next (drop at s) ≢ 65) (h : next (drop at s) ≢ 79) where
  -- whatever formula goes on from here with this byte goes on with a comparison
  comparison : (d : Condition) (u : List ℕ) → text d ≡ take at s ++ u → next u ≡ next (drop at s)
      → (x : Side) × (r : Relation) × (y : Side) × (t : List ℕ) × (u ≡ side_text x ++ (relation_text r ++ (side_text y ++ t))) × Follows o t
  comparison d u e n =
      let k = a.comes d u e in
      let c = kind_compares (next (drop at s)) f g h k.0 k.1 (ap next (sym k.2) ∙ n) in
      (c.left, c.by, c.right, k.1, k.2 ∙ ap (λ x. text x ++ k.1) c.is ∙ apart c.left c.right c.by k.1, k.3)

  pub left_side : at ≤ length s → AwaitsSide s at
  left_side within = record {
    fresh = λ j e d. a.fresh (take j s) (get_or s j 0)
        (ap (λ n. take n s) e ∙ take_more s j 0 (omega arith)) (subst Digit (next_at s j (omega arith)) d);
    comes = λ d u e n. let k = comparison d u e n in (k.0, relation_text k.1 ++ (side_text k.2 ++ k.3), k.4, relation_ends k.1 (side_text k.2 ++ k.3));
    room = λ x. let k = a.room (compares x Equal (Number (pos 0))) in
        (k.0, relation_text Equal ++ (side_text (Number (pos 0)) ++ k.1), k.2 ∙ ap (λ l. take at s ++ l) (apart x (Number (pos 0)) Equal k.1));
  }

  pub relation_outside : {mid : ℕ} (x : Side) → Spans s at (side_text x) mid → EndsSide x (next (drop mid s)) → (60 ≤ next (drop mid s) → next (drop mid s) ≤ 62 → ⊥) → Outside s mid
  relation_outside {mid} x p e' wrong = record {
    within = p.within;
    begins = let k = a.room (compares x Equal (Number (pos 0))) in record {
      formula = k.0;
      rest = relation_text Equal ++ (side_text (Number (pos 0)) ++ k.1);
      writes = k.2 ∙ ap (λ l. take at s ++ l) (apart x (Number (pos 0)) Equal k.1)
          ∙ sym (append_assoc (take at s) (side_text x) (relation_text Equal ++ (side_text (Number (pos 0)) ++ k.1))) ∙ ap (λ l. l ++ (relation_text Equal ++ (side_text (Number (pos 0)) ++ k.1))) (sym (spans_take p));
    };
    none = λ d u e n.
        let k = comparison d (side_text x ++ u) (after_word (text d) u p e) (word_next u p n) in
        let i = side_unique x k.0 u (relation_text k.1 ++ (side_text k.2 ++ k.3)) (subst (EndsSide x) (sym n) e') (ends_any k.0 _ (relation_ends k.1 (side_text k.2 ++ k.3))) k.4 in
        let r = relation_first k.1 (side_text k.2 ++ k.3) in
        let is : next (drop mid s) ≡ next (relation_text k.1 ++ (side_text k.2 ++ k.3)) = sym n ∙ ap next i.1 in
        wrong (omega (arith, r.0)) (omega (arith, r.1));
  }

  pub right_side : {mid end : ℕ} (x : Side) (r : Relation) → Spans s at (side_text x) mid → Spans s mid (relation_text r) end → EndsRelation r (next (drop end s)) → AwaitsSide s end
  right_side {mid} {end} x r p q stop = record {
    fresh = last;
    comes = λ d u e n.
        let k = comparison d (side_text x ++ (relation_text r ++ u)) (after_word (text d) (relation_text r ++ u) p (after_word (text d) u q e)) (word_next (relation_text r ++ u) p (word_next u q n)) in
        let i = side_unique x k.0 (relation_text r ++ u) (relation_text k.1 ++ (side_text k.2 ++ k.3)) (ends_any x _ (relation_ends r u)) (ends_any k.0 _ (relation_ends k.1 (side_text k.2 ++ k.3))) k.4 in
        let j = relation_unique r k.1 u (side_text k.2 ++ k.3) (subst (EndsRelation r) (sym n) stop) (side_ends_relation k.1 _ (side_first k.2 k.3)) i.1 in
        (k.2, k.3, j.1, follow_ends o k.3 k.5);
    room = λ y. let k = a.room (compares x r y) in (
      k.0,
      k.1,
      k.2 ∙ ap (λ l. take at s ++ l) (apart x y r k.1) ∙ sym (append_assoc (take at s) (side_text x) (relation_text r ++ (side_text y ++ k.1))) ∙ ap (λ l. l ++ (relation_text r ++ (side_text y ++ k.1))) (sym (spans_take p))
          ∙ sym (append_assoc (take mid s) (relation_text r) (side_text y ++ k.1)) ∙ ap (λ l. l ++ (side_text y ++ k.1)) (sym (spans_take q)),
    );
  }
    where
      -- the last byte of a relation is no digit
      last : NoDigitBefore s end
      last j e d =
          let b = relation_bytes r in
          let k = spans_each (λ b. (60 ≤ b) × (b ≤ 62)) (relation_text r) b.0 q j (omega (arith, q.upto, b.1)) (omega arith) in
          omega (arith, k.0, d.1)
